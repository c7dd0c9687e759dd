-- What was said: one request more is written, one line more is heard.
use Rattle.std.proofs.Common.{◌≡◌, ◌≢◌, ℕ, zero, suc, ◌+◌, ◌≤◌, ◌==◌, arith, Bool, true, false, cond, List, [], ◌∷◌, ◌++◌, length, take, Option, Some, None, refl, sym, subst, ap, ◌∙◌, inl, inr, ◌⊎◌, slice_get, option_map, IfSome, eqb-true, eq-eqb}
use Rattle.std.proofs.lemmas.Grind.{flat_map-append}
use Rattle.std.proofs.lemmas.List.{append-nil, length-append, take-append-le}
use Rattle.std.proofs.lemmas.Option.{slice_get_within}
use Rattle.std.specs.List.{after_first}
use Rattle.gen_lines.proofs.CuttingLemmas.{whole}
use Rattle.gen_lines.specs.Cutting.{pushed, took}
use Rattle.gen_lines.specs.Lines.{IsFirstShort, is_feed, lines_of}
use Rattle.gen_lines.specs.Reply as reply
use Rattle.gen_lines.specs.Reply.{reply_of}
use Rattle.gen_lines.specs.declared.answer.Why.{Why}
use Rattle.gen_lines.specs.declared.answer.Why.TheVariants.{TooLong}
use Rattle.io_world.specs.Talks.{Talk, Hears, Writes, heard_more, wrote_more}
use Rattle.lemmas.proofs.Counts.{count_joined, count_one}
use Rattle.session_core.specs.Slots.{replied_entry}
use Rattle.pools.specs.Pools.{Workers}
use Rattle.lemmas.proofs.Members.{push_cases, get_append, get_pushed, next_taken}
use Rattle.lemmas.proofs.Options.{same_some}
use Rattle.task_model.specs.declared.task.Task.{Task}
use Rattle.transcript_model.specs.declared.entry.Entry.{Entry}
use Rattle.round_run.proofs.DialogueShortLemmas.{short_later, short_next, short_taken}
use Rattle.round_run.specs.Dialogue.{AreSaid, AreShort, IsBadLine, IsShortAt, IsOneOf, Request, bytes_to, count_to, is_to, text_of_request, wanted_by}
use Rattle.round_run.specs.Talking.{IsTalk, Talks}

-- ---- what is told

pub mapped : {A B : Type 0} (f : A → B) (P : A → Type 0) (Q : B → Type 0) (o : Option A)
    → ((x : A) → P x → Q (f x)) → IfSome o P
    → IfSome (option_map f o) Q
mapped f P Q None step p = tt
mapped f P Q (Some x) step p = step x p

pub told_map : {A : Type 0} (P Q : A → Type 0) (o : Option A) → ((x : A) → P x → Q x) → IfSome o P
    → IfSome o Q
told_map P Q None step p = tt
told_map P Q (Some x) step p = step x p

-- the same child, or another
pub is_same : (a b : ℕ) → (a ≡ b) ⊎ (a ≢ b)
is_same a b = by (a == b) refl
  where
    by : (t : Bool) → (a == b) ≡ t → (a ≡ b) ⊎ (a ≢ b)
    by true e = inl (eqb-true a b e)
    by false e = inr (λ same. let yes : (a == b) ≡ true = eq-eqb a b same in absurd (let bad : true ≡ false = sym yes ∙ e in cc))

-- ---- requests

pub own_bytes : (r : Request) (child : ℕ) → r.child ≡ child
    → bytes_to child (r ∷ []) ≡ text_of_request r
own_bytes r child own =
    append-nil (cond (is_to child r) (text_of_request r) []) ∙ ap (λ b. cond b (text_of_request r) []) (eq-eqb r.child child own)

not_to : (r : Request) (child : ℕ) → r.child ≢ child → is_to child r ≡ false
not_to r child other = by (is_to child r) refl
  where
    by : (t : Bool) → is_to child r ≡ t → is_to child r ≡ false
    by true e = absurd (other (eqb-true r.child child e))
    by false e = e

pub other_bytes : (r : Request) (child : ℕ) → r.child ≢ child → bytes_to child (r ∷ []) ≡ []
other_bytes r child other =
    append-nil (cond (is_to child r) (text_of_request r) []) ∙ ap (λ b. cond b (text_of_request r) []) (not_to r child other)

pub bytes_more : (child : ℕ) (rs more : List Request)
    → bytes_to child (rs ++ more) ≡ bytes_to child rs ++ bytes_to child more
bytes_more child rs more =
    flat_map-append (λ (r : Request). cond (is_to child r) (text_of_request r) []) rs more

pub count_own : (rs : List Request) (r : Request) (child : ℕ) → r.child ≡ child
    → count_to child (rs ++ r ∷ []) ≡ count_to child rs + 1
count_own rs r child own =
    count_joined (is_to child) rs (r ∷ [])
    ∙ ap (λ n. count_to child rs + n) (count_one (is_to child) r ∙ ap (λ b. cond b 1 0) (eq-eqb r.child child own))

count_other : (rs : List Request) (r : Request) (child : ℕ) → r.child ≢ child
    → count_to child (rs ++ r ∷ []) ≡ count_to child rs
count_other rs r child other =
    let none : cond {A = ℕ} (is_to child r) 1 0 ≡ 0 = ap (λ b. cond {A = ℕ} b 1 0) (not_to r child other) in
    omega (arith, count_joined (is_to child) rs (r ∷ []), count_one (is_to child) r, none)

-- ---- one child

module _ (task : Task) (version : ℕ) (rs : List Request) (replies : List Entry) (child : ℕ) where
  module _ (r : Request) (few : length replies ≤ length rs) where
    said_grown : (lines : List (List ℕ)) → AreSaid task version rs replies child lines
        → AreSaid task version (rs ++ r ∷ []) replies child lines
    said_grown lines said k q e at own answer = by (push_cases rs r k q at)
      where
        by : (slice_get rs k ≡ Some q) ⊎ ((k ≡ length rs) × (q ≡ r))
            → (line : List ℕ) × (slice_get lines (count_to child (take k (rs ++ r ∷ []))) ≡ Some line)
            × (replied_entry q.number (reply_of line (wanted_by task version q)) ≡ Some e)
        by (inl there) =
            let f = said k q e there own answer in
            let within : k ≤ length rs = omega (arith, slice_get_within rs k q there) in
            (f.0, ap (λ qs. slice_get lines (count_to child qs)) (take-append-le k rs (r ∷ []) within) ∙ f.1, f.2)
        by (inr here) = absurd (omega (arith, slice_get_within replies k e answer, here.0, few))

    many_grown : (lines : List (List ℕ)) → length lines ≡ count_to child (take (length replies) rs)
        → length lines ≡ count_to child (take (length replies) (rs ++ r ∷ []))
    many_grown lines many =
        many ∙ sym (ap (count_to child) (take-append-le (length replies) rs (r ∷ []) few))

    talk_sent : (kept : List ℕ) (talk : Talk) → r.child ≡ child
        → IsTalk task version rs replies child kept talk
        → IsTalk task version (rs ++ r ∷ []) replies child kept (wrote_more (text_of_request r) talk)
    talk_sent kept talk own t = record {
      written =
          ap (λ bytes. bytes ++ text_of_request r) t.written
          ∙ sym (bytes_more child rs (r ∷ []) ∙ ap (λ bytes. bytes_to child rs ++ bytes) (own_bytes r child own));
      taken = t.taken;
      cut = t.cut;
      many = many_grown t.taken t.many;
      said = said_grown t.taken t.said;
      short = t.short;
    }

    talk_unsent : (kept : List ℕ) (talk : Talk) → r.child ≢ child
        → IsTalk task version rs replies child kept talk
        → IsTalk task version (rs ++ r ∷ []) replies child kept talk
    talk_unsent kept talk other t = record {
      written =
          t.written
          ∙ sym (bytes_more child rs (r ∷ []) ∙ ap (λ bytes. bytes_to child rs ++ bytes) (other_bytes r child other)
          ∙ append-nil (bytes_to child rs));
      taken = t.taken;
      cut = t.cut;
      many = many_grown t.taken t.many;
      said = said_grown t.taken t.said;
      short = t.short;
    }

  module _ (r : Request) (e : Entry) (next : slice_get rs (length replies) ≡ Some r) where
    longer : length (replies ++ e ∷ []) ≡ length replies + 1
    longer = length-append replies (e ∷ [])

    talk_heard : (kept more line : List ℕ) (talk : Talk) → r.child ≡ child
        → lines_of (kept ++ more) ≡ line ∷ lines_of (after_first is_feed (kept ++ more)) → IsFirstShort (kept ++ more)
        → replied_entry r.number (reply_of line (wanted_by task version r)) ≡ Some e → IsTalk task version rs replies child kept talk
        → IsTalk task version rs (replies ++ e ∷ []) child (after_first is_feed (kept ++ more)) (heard_more more talk)
    talk_heard kept more line talk own first short says t = record {
      written = t.written;
      taken = t.taken ++ line ∷ [];
      cut = took (pushed t.cut more) first;
      many =
          length-append t.taken (line ∷ []) ∙ ap (λ n. n + 1) t.many ∙ sym (count_own (take (length replies) rs) r child own)
          ∙ ap (count_to child) (sym (next_taken rs (length replies) r next)) ∙ ap (λ n. count_to child (take n rs)) (sym longer);
      said = said;
      short = short_taken talk.heard t.taken kept t.cut t.short more line (lines_of (after_first is_feed (kept ++ more))) first short;
    }
      where
        said : AreSaid task version rs (replies ++ e ∷ []) child (t.taken ++ line ∷ [])
        said k q x at mine answer = by (push_cases replies e k x answer)
          where
            by : (slice_get replies k ≡ Some x) ⊎ ((k ≡ length replies) × (x ≡ e))
                → (l : List ℕ) × (slice_get (t.taken ++ line ∷ []) (count_to child (take k rs)) ≡ Some l)
                × (replied_entry q.number (reply_of l (wanted_by task version q)) ≡ Some x)
            by (inl there) =
                let f = t.said k q x at mine there in (f.0, get_append t.taken (line ∷ []) (count_to child (take k rs)) f.0 f.1, f.2)
            by (inr here) =
                let same : q ≡ r = same_some (slice_get rs k) q r at (ap (slice_get rs) here.0 ∙ next) in (
                  line,
                  get_pushed t.taken line (count_to child (take k rs)) (ap (λ n. count_to child (take n rs)) here.0 ∙ sym t.many),
                  subst (λ (w : Request). replied_entry w.number (reply_of line (wanted_by task version w)) ≡ Some x)
                      (sym same) (says ∙ ap Some (sym here.1)),
                )

    talk_unheard : (kept : List ℕ) (talk : Talk) → r.child ≢ child
        → IsTalk task version rs replies child kept talk
        → IsTalk task version rs (replies ++ e ∷ []) child kept talk
    talk_unheard kept talk other t = record {
      written = t.written;
      taken = t.taken;
      cut = t.cut;
      many =
          t.many ∙ sym (count_other (take (length replies) rs) r child other)
          ∙ ap (count_to child) (sym (next_taken rs (length replies) r next)) ∙ ap (λ n. count_to child (take n rs)) (sym longer);
      said = said;
      short = t.short;
    }
      where
        said : AreSaid task version rs (replies ++ e ∷ []) child t.taken
        said k q x at mine answer = by (push_cases replies e k x answer)
          where
            by : (slice_get replies k ≡ Some x) ⊎ ((k ≡ length replies) × (x ≡ e))
                → (l : List ℕ) × (slice_get t.taken (count_to child (take k rs)) ≡ Some l)
                × (replied_entry q.number (reply_of l (wanted_by task version q)) ≡ Some x)
            by (inl there) = t.said k q x at mine there
            by (inr here) =
                let same : q ≡ r = same_some (slice_get rs k) q r at (ap (slice_get rs) here.0 ∙ next) in
                absurd (other (ap (λ (w : Request). w.child) (sym same) ∙ mine))

  -- bytes more are kept
  pub talk_more : (kept more : List ℕ) (talk : Talk) → IsTalk task version rs replies child kept talk
      → IsTalk task version rs replies child (kept ++ more) (heard_more more talk)
  talk_more kept more talk t = record {
    written = t.written;
    taken = t.taken;
    cut = pushed t.cut more;
    many = t.many;
    said = t.said;
    short = short_later talk.heard t.taken kept t.cut t.short more;
  }

  -- the lines that were taken are the first of all
  pub all_lines : (kept : List ℕ) (talk : Talk) (t : IsTalk task version rs replies child kept talk)
      → lines_of talk.heard ≡ t.taken ++ lines_of kept
  all_lines kept talk t =
      ap lines_of (sym (append-nil talk.heard)) ∙ (whole talk.heard t.taken kept t.cut).lines []
      ∙ ap (λ bytes. t.taken ++ lines_of bytes) (append-nil kept)

  pub talk_said : (kept : List ℕ) (talk : Talk) → IsTalk task version rs replies child kept talk
      → AreSaid task version rs replies child (lines_of talk.heard)
  talk_said kept talk t k r e at own answer =
      let f = t.said k r e at own answer in (
        f.0,
        ap (λ ls. slice_get ls (count_to child (take k rs))) (all_lines kept talk t)
            ∙ get_append t.taken (lines_of kept) (count_to child (take k rs)) f.0 f.1,
        f.2,
      )

  pub talk_short : (kept : List ℕ) (talk : Talk) → IsTalk task version rs replies child kept talk
      → AreShort talk.heard (count_to child (take (length replies) rs))
  talk_short kept talk t = subst (AreShort talk.heard) t.many t.short

  -- the first line that is kept is none that may stand, or too many bytes are kept
  pub talk_bad : (kept : List ℕ) (talk : Talk) (r : Request) (why : Why)
      → ((line : List ℕ) × (lines_of kept ≡ line ∷ lines_of (after_first is_feed kept))
      × (reply_of line (wanted_by task version r) ≡ reply.bad why) × IsFirstShort kept)
      ⊎ ((why ≡ TooLong) × (lines_of kept ≡ []) × (length kept ≡ 1025))
      → IsTalk task version rs replies child kept talk
      → IsBadLine talk.heard (count_to child (take (length replies) rs)) (wanted_by task version r) why
  talk_bad kept talk r why (inl (line, first, is, short)) t =
      inl (
        line,
        ap (λ ls. slice_get ls (count_to child (take (length replies) rs))) (all_lines kept talk t ∙ ap (λ ls. t.taken ++ ls) first)
            ∙ seam t.taken line (lines_of (after_first is_feed kept)) (count_to child (take (length replies) rs)) t.many,
        is,
        subst (λ bytes. IsShortAt bytes (count_to child (take (length replies) rs))) (append-nil talk.heard)
            (short_next talk.heard t.taken kept t.cut t.short [] line (lines_of (after_first is_feed kept))
            (ap lines_of (append-nil kept) ∙ first) (subst IsFirstShort (sym (append-nil kept)) short)
            (count_to child (take (length replies) rs)) (sym t.many)),
      )
    where
      seam : {A : Type 0} (xs : List A) (x : A) (ys : List A) (n : ℕ) → length xs ≡ n
          → slice_get (xs ++ x ∷ ys) n ≡ Some x
      seam [] x ys n e = ap (slice_get (x ∷ ys)) (sym e)
      seam (y ∷ zs) x ys zero e = absurd (omega (arith, e))
      seam (y ∷ zs) x ys (suc n) e = seam zs x ys n (omega (arith, e))
  talk_bad kept talk r why (inr (is, none, long)) t = inr (
    is,
    ap length (all_lines kept talk t ∙ ap (λ ls. t.taken ++ ls) none ∙ append-nil t.taken) ∙ t.many,
    ap length ((whole talk.heard t.taken kept t.cut).remains none) ∙ long,
  )

-- ---- all children

module _ (task : Task) (version : ℕ) (pools : List Workers) (rs : List Request) (replies : List Entry) (old new : ℕ → Option Talk) where
  pub talks_sent : (kept : ℕ → List ℕ) (r : Request) → Talks task version pools rs replies kept old
      → Writes r.child (text_of_request r) old new → Talks task version pools (rs ++ r ∷ []) replies kept new
  talks_sent kept r t w = record {
    few = omega (arith, t.few, length-append rs (r ∷ []));
    each = λ child is. by child is (is_same child r.child);
  }
    where
      by : (child : ℕ) → IsOneOf pools child → (child ≡ r.child) ⊎ (child ≢ r.child)
          → IfSome (new child) (IsTalk task version (rs ++ r ∷ []) replies child (kept child))
      by child is (inl own) =
          subst (λ o. IfSome o (IsTalk task version (rs ++ r ∷ []) replies child (kept child)))
          (sym (ap new own ∙ w.here ∙ ap (λ c. option_map (wrote_more (text_of_request r)) (old c)) (sym own)))
          (mapped (wrote_more (text_of_request r)) _ _
          (old child) (λ talk. talk_sent task version rs replies child r t.few (kept child) talk (sym own)) (t.each child is))
      by child is (inr other) =
          subst (λ o. IfSome o (IsTalk task version (rs ++ r ∷ []) replies child (kept child))) (sym (w.others child other))
          (told_map _ _ (old child) (λ talk. talk_unsent task version rs replies child r t.few (kept child) talk (λ e. other (sym e)))
          (t.each child is))

  pub talks_heard : (kept left : ℕ → List ℕ) (r : Request) (e : Entry) (more line : List ℕ)
      → slice_get rs (length replies) ≡ Some r
      → Hears r.child more old new → lines_of (kept r.child ++ more) ≡ line ∷ lines_of (after_first is_feed (kept r.child ++ more))
      → IsFirstShort (kept r.child ++ more) → replied_entry r.number (reply_of line (wanted_by task version r)) ≡ Some e
      → left r.child ≡ after_first is_feed (kept r.child ++ more)
      → ((k : ℕ) → k ≢ r.child → left k ≡ kept k) → Talks task version pools rs replies kept old
      → Talks task version pools rs (replies ++ e ∷ []) left new
  talks_heard kept left r e more line next h first short says here others t = record {
    few =
        omega (arith, slice_get_within rs (length replies) r next, length-append replies (e ∷ []));
    each = λ child is. by child is (is_same child r.child);
  }
    where
      by : (child : ℕ) → IsOneOf pools child → (child ≡ r.child) ⊎ (child ≢ r.child)
          → IfSome (new child) (IsTalk task version rs (replies ++ e ∷ []) child (left child))
      by child is (inl own) =
          subst (λ bytes. IfSome (new child) (IsTalk task version rs (replies ++ e ∷ []) child bytes))
          (sym (ap left own ∙ here ∙ ap (λ c. after_first is_feed (kept c ++ more)) (sym own)))
          (subst (λ o. IfSome o (IsTalk task version rs (replies ++ e ∷ []) child (after_first is_feed (kept child ++ more))))
          (sym (ap new own ∙ h.here ∙ ap (λ c. option_map (heard_more more) (old c)) (sym own)))
          (mapped (heard_more more) _ _ (old child)
          (λ talk. talk_heard task version rs replies child r e next (kept child) more line talk (sym own)
          (subst (λ c. lines_of (kept c ++ more) ≡ line ∷ lines_of (after_first is_feed (kept c ++ more))) (sym own) first)
          (subst (λ c. IsFirstShort (kept c ++ more)) (sym own) short) says)
          (t.each child is)))
      by child is (inr other) =
          subst (λ bytes. IfSome (new child) (IsTalk task version rs (replies ++ e ∷ []) child bytes)) (sym (others child other))
          (subst (λ o. IfSome o (IsTalk task version rs (replies ++ e ∷ []) child (kept child))) (sym (h.others child other))
          (told_map _ _ (old child)
          (λ talk. talk_unheard task version rs replies child r e next (kept child) talk (λ same. other (sym same))) (t.each child is)))

-- what is kept when these bytes of the child came, and no line is taken
abbrev pub with_more : (ℕ → List ℕ) → ℕ → List ℕ → ℕ → List ℕ
with_more kept child more k = cond (k == child) (kept k ++ more) (kept k)

module _ (task : Task) (version : ℕ) (pools : List Workers) (rs : List Request) (replies : List Entry) (old new : ℕ → Option Talk) where
  pub talks_more : (kept : ℕ → List ℕ) (heard : ℕ) (more : List ℕ) → Hears heard more old new
      → Talks task version pools rs replies kept old
      → Talks task version pools rs replies (with_more kept heard more) new
  talks_more kept heard more h t =
      record { few = t.few; each = λ child is. by child is (child == heard) refl }
    where
      by : (child : ℕ) → IsOneOf pools child → (b : Bool) → (child == heard) ≡ b
          → IfSome (new child) (IsTalk task version rs replies child (with_more kept heard more child))
      by child is true e =
          let own : child ≡ heard = eqb-true child heard e in
          subst (λ b. IfSome (new child) (IsTalk task version rs replies child (cond b (kept child ++ more) (kept child)))) (sym e)
          (subst (λ o. IfSome o (IsTalk task version rs replies child (kept child ++ more)))
          (sym (ap new own ∙ h.here ∙ ap (λ c. option_map (heard_more more) (old c)) (sym own)))
          (mapped (heard_more more) _ _ (old child)
          (λ talk. talk_more task version rs replies child (kept child) more talk) (t.each child is)))
      by child is false e =
          let other : child ≢ heard =
          λ own. let yes : (child == heard) ≡ true = eq-eqb child heard own in let bad : true ≡ false = sym yes ∙ e in absurd (cc) in
          subst (λ b. IfSome (new child) (IsTalk task version rs replies child (cond b (kept child ++ more) (kept child)))) (sym e)
          (subst (λ o. IfSome o (IsTalk task version rs replies child (kept child))) (sym (h.others child other)) (t.each child is))
