-- A closed round leaves a legal transcript with nothing open.
use Rattle.std.proofs.Common.{◌≡◌, ℕ, ◌+◌, ◌≤◌, ◌<◌, ◌==◌, Bool, true, false, cond, ◌&&◌, not, ◌⊎◌, inl, inr, List, [], ◌∷◌, ◌++◌, length, refl, sym, ap, subst, ◌∙◌, Option, None, Some, slice_get, is_none, arith, append_assoc, eqb-true, eq-eqb, All, Contains}
use Rattle.std.proofs.lemmas.List.{append-nil}
use Rattle.std.proofs.lemmas.List.Elements.{All-head, All-tail, All-contains}
use Rattle.std.proofs.lemmas.Option.{slice_get_within}
use Rattle.std.specs.List.{list_any, cons_option}
use Rattle.std.proofs.lemmas.Bool.{or_right, not-true, and_parts, or_cases, false_from_ne_true, or_left, ne_eqb}
use Rattle.lemmas.proofs.Bools.{not_both}
use Rattle.lemmas.proofs.Distinct.{distinct_tail, head_is_new}
use Rattle.lemmas.proofs.Ascending.{contains_here, contains_later}
use Rattle.gen_lines.proofs.ReplyLemmas.{yields_are_right, numbers_are_small}
use Rattle.gen_lines.specs.Reply as reply
use Rattle.task_model.specs.Numbers.{is_number}
use Rattle.gen_lines.specs.Reply.{Reply, reply_of}
use Rattle.gen_lines.specs.declared.answer.Wanted.TheVariants as wanted
use Rattle.instance_queue.proofs.LevelLemmas.{due_in}
use Rattle.instance_queue.specs.Level.{due_instances}
use Rattle.instance_queue.specs.declared.due.Due.{Due}
use Rattle.task_model.specs.Fit.{IsFit}
use Rattle.task_model.specs.Known.{IsIn}
use Rattle.lemmas.specs.Lists.{AreDistinct}
use Rattle.task_model.specs.Streams.{IsDue, yields_of}
use Rattle.task_model.specs.declared.stream.Instance.{Instance}
use Rattle.task_model.specs.declared.stream.Stream.{Stream}
use Rattle.task_model.specs.declared.task.Task.{Task}
use Rattle.transcript_model.proofs.CallNameLemmas.{call_names_instance}
use Rattle.transcript_model.proofs.CoherentLemmas.{coherent}
use Rattle.transcript_model.proofs.LegalLemmas.{grows}
use Rattle.transcript_model.proofs.LegalPrefixLemmas.{asked-kept, names_of-distinct}
use Rattle.transcript_model.proofs.LegalNumberLemmas.{next_is_fresh, number_below}
use Rattle.transcript_model.proofs.LegalStepLemmas.{request_adds, answer_adds}
use Rattle.transcript_model.specs.Legal.{IsLegal, MayFollow, IsRightAsk, HasNoneOpen, is_open, is_ask_of, is_answer_to, asks_of, has_several, is_answer}
use Rattle.transcript_model.specs.Names.{call_of_instance, instance_of}
use Rattle.transcript_model.specs.Transcript.{Asked, asked, names_of, known_of, notes_of}
use Rattle.transcript_model.specs.declared.entry.Entry.{Entry}
use Rattle.transcript_model.specs.declared.entry.Entry.TheVariants as entry
use Rattle.learning.specs.Learning.{Asks}
use Rattle.session_core.specs.Session.{AreSlotsFor}
use Rattle.session_core.specs.Slots.{Slot, wanted_of, wanted_at, asks_from, replied_entry, answers_of, all_answered}
use Rattle.task_model.proofs.KnownLemmas.{below_names}

pub no_both : {A : Type 0} (b : Bool) → b ≡ true → b ≡ false → A
no_both b t f = absurd (not_both b t f)

-- each of these numbers waits for an answer, and asks its due's instance
abbrev pub AllWait : Task → List Entry → ℕ → List Due → Type 0
AllWait task before n [] = Unit {0}
AllWait task before n (d ∷ ds) =
    (is_open before n ≡ true) × Asks task before n d.instance × AllWait task before (n + 1) ds

-- ---- requests

module _ (version : ℕ) (task : Task) (fit : IsFit task) (entries : List Entry) (legal : IsLegal version task entries) where
  distinct_names : AreDistinct (names_of task entries)
  distinct_names = names_of-distinct task entries fit.problem.objects.names.distinct

  -- an instance that is due is shown so that it is found again
  shown_again : (i : Instance) → IsDue task (known_of task entries) (notes_of task entries) i
      → instance_of task (names_of task entries) (call_of_instance task (names_of task entries) i) ≡ Some i
  shown_again i d =
      call_names_instance task (names_of task entries) i fit distinct_names (slice_get_within task.streams i.stream d.stream d.named)
      (λ o m. below_names (names_of task entries) o
      (All-contains (IsIn (names_of task entries)) i.inputs o
      (due_in task (known_of task entries) (notes_of task entries) (coherent version task entries fit legal) i d) m))

  pub record Requested (before after : List Entry) (n : ℕ) (dues : List Due) : Type 0 where
    pub ok_after : IsLegal version task after
    pub known : known_of task after ≡ known_of task entries
    pub notes : notes_of task after ≡ notes_of task entries
    pub count : asks_of after + 1 ≡ n + length dues
    pub waits : AllWait task after n dues
    pub keeps : (m : ℕ) → is_open before m ≡ true → is_open after m ≡ true
    pub only : (m : ℕ) → is_open after m ≡ true
        → (is_open before m ≡ true) ⊎ ((n ≤ m) × (m < n + length dues))

  -- the requests of a round, one after another
  pub requested : (dues : List Due) (before : List Entry) (n : ℕ) → IsLegal version task before
      → known_of task before ≡ known_of task entries
      → notes_of task before ≡ notes_of task entries → n ≡ asks_of before + 1
      → ((i : Instance) → Contains (due_instances dues) i → IsDue task (known_of task entries) (notes_of task entries) i)
      → All (λ (d : Due). d.turn ≡ yields_of (notes_of task entries) d.instance) dues → AreDistinct (due_instances dues)
      → ((m : ℕ) (a : Asked) → asked task before m ≡ Some a → is_open before m ≡ true → ¬ (Contains (due_instances dues) a.instance))
      → Requested before (before ++ asks_from task (names_of task entries) n dues) n dues
  requested [] before n ok known notes next due turns distinct apart =
      let same : before ++ [] ≡ before = append-nil before in
      subst (λ after. Requested before after n []) (sym same)
      (record
      { ok_after = ok; known = known; notes = notes; count = omega (arith, next); waits = tt; keeps = λ m o. o; only = λ m o. inl o })
  requested (d ∷ ds) before n ok known notes next due turns distinct apart =
      let names = names_of task entries in
      let i = d.instance in
      let here = due i (contains_here i (due_instances ds)) in
      let call = call_of_instance task names i in
      let e = entry.Ask n d.turn call in
      let named : instance_of task (names_of task before) call ≡ Some i =
      (λ k. instance_of task (known k).names call) ∙ shown_again i here in
      let right : IsRightAsk task before n d.turn call =
      record {
        next = next;
        instance = i;
        named = named;
        due = subst (λ ns. IsDue task (known_of task before) ns i)
            (sym notes) (subst (λ k. IsDue task k (notes_of task entries) i) (sym known) here);
        closed = λ m a is same.
            false_from_ne_true (is_open before m)
            (λ o. apart m a is o (subst (Contains (due_instances (d ∷ ds))) (sym same) (contains_here i (due_instances ds))));
        turned =
            All-head (λ (u : Due). u.turn ≡ yields_of (notes_of task entries) u.instance) d ds turns
            ∙ ap (λ ns. yields_of ns i) (sym notes);
      } in
      let fresh = ap (λ k. list_any (is_ask_of k) before) next ∙ next_is_fresh version task before ok in
      let adds = request_adds version task before fit.problem.objects.names.distinct ok n d.turn call here.stream i right fresh named
      here.named in
      let after = before ++ e ∷ [] in
      let apart_after : (m : ℕ) (a : Asked) → asked task after m ≡ Some a → is_open after m ≡ true → ¬
      (Contains (due_instances ds) a.instance) =
      λ m a is o there.
      elim (or_cases (is_open before m) (m == n) (sym (adds.waiting m) ∙ o)) [
        | inl old ↦ still_apart m a is old there n adds.others next ok
        | inr own ↦
            let at : m ≡ n = eqb-true m n own in
            let same : a.instance ≡ i = same_instance_of (asked task after n) a _ (ap (asked task after) (sym at) ∙ is) adds.here in
            head_is_new i (due_instances ds) distinct (subst (Contains (due_instances ds)) same there)
      ] in
      let rest = requested ds after (n + 1) ((grows version task before).next e ok right) (adds.same.known ∙ known)
      (adds.same.notes ∙ notes) (let c : n + 1 ≡ asks_of after + 1 = omega (arith, next, adds.asks) in c)
      (λ j m. due j (contains_later i (due_instances ds) j m))
      (All-tail (λ (u : Due). u.turn ≡ yields_of (notes_of task entries) u.instance) d ds turns)
      (distinct_tail i (due_instances ds) distinct) apart_after in
      let whole : before ++ asks_from task names n (d ∷ ds) ≡ after ++ asks_from task names (n + 1) ds =
      sym (append_assoc before (e ∷ []) (asks_from task names (n + 1) ds)) in
      subst (λ all. Requested before all n (d ∷ ds)) (sym whole)
      (record {
        ok_after = rest.ok_after;
        known = rest.known;
        notes = rest.notes;
        count = omega (arith, rest.count);
        waits = (
          rest.keeps n (adds.waiting n ∙ or_right (is_open before n) (n == n) (eq-eqb n n refl)),
          record
              { stream = here.stream; streamed = here.named; asks = asked-kept task after (asks_from task names (n + 1) ds) n _ adds.here },
          rest.waits,
        );
        keeps = λ m o. rest.keeps m (adds.waiting m ∙ or_left (is_open before m) (m == n) o);
        only = λ m o.
            elim (rest.only m o) [
              | inl old ↦
                  elim (or_cases (is_open before m) (m == n) (sym (adds.waiting m) ∙ old)) [
                    | inl first ↦ inl first
                    | inr own ↦ let at : m ≡ n = eqb-true m n own in inr (omega (arith, at), omega (arith, at))
                  ]
              | inr later ↦ inr (omega (arith, later.0), omega (arith, later.1))
            ];
      })
    where
      same_instance_of : (o : Option Asked) (a b : Asked) → o ≡ Some a → o ≡ Some b
          → a.instance ≡ b.instance
      same_instance_of o a b p q = let f : Some a ≡ Some b = sym p ∙ q in let g : a ≡ b = cc in ap (λ (c : Asked). c.instance) g

      still_apart : (m : ℕ) (a : Asked)
          → asked task (before ++ entry.Ask n d.turn (call_of_instance task (names_of task entries) d.instance) ∷ []) m ≡ Some a
          → is_open before m ≡ true → Contains (due_instances ds) a.instance → (k : ℕ)
          → ((j : ℕ) → ¬ (j ≡ k)
          → asked task (before ++ entry.Ask n d.turn (call_of_instance task (names_of task entries) d.instance) ∷ []) j
          ≡ asked task before j)
          → k ≡ asks_of before + 1 → IsLegal version task before → ⊥
      still_apart m a is old there k others is_next ok =
          let older : m ≤ asks_of before =
          (number_below version task before m ok
          (and_parts (list_any (is_ask_of m) before) (not (list_any (is_answer_to m) before)) old).0).1 in
          apart m a (sym (others m (λ f. absurd (omega (arith, f, older, is_next)))) ∙ is) old
          (contains_later d.instance (due_instances ds) a.instance there)

-- ---- answers

-- a cost stream's answer is no yield
ends_no_yield : (given : List (List ℕ)) (t : ℕ) (vs : List (List ℕ))
    → reply.end_reply given ≡ reply.yields t vs → ⊥
ends_no_yield [] t vs e = absurd (cc)
ends_no_yield (f ∷ fs) t vs e = absurd (cc)

choice_no_yield : (b : Bool) (n : ℕ) (why : _) (t : ℕ) (vs : List (List ℕ))
    → cond b (reply.number n) (reply.bad why) ≡ reply.yields t vs
    → ⊥
choice_no_yield true n why t vs e = absurd (cc)
choice_no_yield false n why t vs e = absurd (cc)

number_no_yield : (given : List (List ℕ)) (t : ℕ) (vs : List (List ℕ))
    → reply.number_reply given ≡ reply.yields t vs → ⊥
number_no_yield [] t vs e = absurd (cc)
number_no_yield (f ∷ []) t vs e = choice_no_yield (is_number f) _ _ t vs e
number_no_yield (f ∷ (g ∷ gs)) t vs e = absurd (cc)

either_no_yield : (a b : Bool) (x y : Reply) (why : _) (t : ℕ) (vs : List (List ℕ))
    → (x ≡ reply.yields t vs → ⊥)
    → (y ≡ reply.yields t vs → ⊥) → cond a x (cond b y (reply.bad why)) ≡ reply.yields t vs → ⊥
either_no_yield true b x y why t vs no_x no_y e = no_x e
either_no_yield false true x y why t vs no_x no_y e = no_y e
either_no_yield false false x y why t vs no_x no_y e = absurd (cc)

fields_no_yield : (fields : List (List ℕ)) (t : ℕ) (vs : List (List ℕ))
    → reply.reply_of_fields wanted.Number fields ≡ reply.yields t vs → ⊥
fields_no_yield [] t vs e = absurd (cc)
fields_no_yield (word ∷ given) t vs e =
    either_no_yield _ _ (reply.end_reply given) (reply.number_reply given) _ t vs (ends_no_yield given t vs) (number_no_yield given t vs) e

-- another stream's answer is no number
ends_no_number : (given : List (List ℕ)) (v : ℕ) → reply.end_reply given ≡ reply.number v → ⊥
ends_no_number [] v e = absurd (cc)
ends_no_number (f ∷ fs) v e = absurd (cc)

yields_no_number : (a b : Bool) (n : ℕ) (us : List (List ℕ)) (x y : _) (v : ℕ)
    → cond a (cond b (reply.yields n us) (reply.bad x)) (reply.bad y) ≡ reply.number v → ⊥
yields_no_number true true n us x y v e = absurd (cc)
yields_no_number true false n us x y v e = absurd (cc)
yields_no_number false b n us x y v e = absurd (cc)

either_no_number : (a b : Bool) (x y : Reply) (why : _) (v : ℕ) → (x ≡ reply.number v → ⊥)
    → (y ≡ reply.number v → ⊥)
    → cond a x (cond b y (reply.bad why)) ≡ reply.number v → ⊥
either_no_number true b x y why v no_x no_y e = no_x e
either_no_number false true x y why v no_x no_y e = no_y e
either_no_number false false x y why v no_x no_y e = absurd (cc)

fields_no_number : (width : ℕ) (several : Bool) (fields : List (List ℕ)) (v : ℕ)
    → reply.reply_of_fields (wanted.Outputs width several) fields ≡ reply.number v → ⊥
fields_no_number width several [] v e = absurd (cc)
fields_no_number width several (word ∷ given) v e =
    either_no_number _ _ (reply.end_reply given) (reply.given_reply (wanted.Outputs width several) given) _ v
    (ends_no_number given v) (yields_no_number _ _ _ _ _ _ v) e

wanted_is : (task : Task) (version stream : ℕ) (s : Stream) → slice_get task.streams stream ≡ Some s
    → wanted_at task version stream ≡ wanted_of version s
wanted_is task version stream s at = rw at refl

module _ (version : ℕ) (task : Task) (fit : IsFit task) where
  -- what a stream's line says may follow
  says_right : (before : List Entry) (n : ℕ) (s : Stream) (i : Instance) (line : List ℕ) (e : Entry)
      → is_open before n ≡ true
      → asked task before n ≡ Some (record { stream = s; instance = i }) → replied_entry n (reply_of line (wanted_of version s)) ≡ Some e
      → MayFollow version task before e × (is_answer_to n e ≡ true) × (is_answer e ≡ true)
  says_right before n s i line e waiting request is =
      elim (is_none s.worth) as (λ b.
      is_none s.worth ≡ b
      → replied_entry n (reply_of line (cond b (wanted.Outputs (length s.outputs) (has_several version)) wanted.Number)) ≡ Some e
      → MayFollow version task before e × (is_answer_to n e ≡ true) × (is_answer e ≡ true)) [
        | true ↦ λ none said. by_outputs none (reply_of line (wanted.Outputs (length s.outputs) (has_several version))) refl said
        | false ↦ λ some said. by_number some (reply_of line wanted.Number) refl said
      ] refl is
    where
      itself : (n == n) ≡ true
      itself = eq-eqb n n refl

      by_outputs : is_none s.worth ≡ true → (r : Reply)
          → reply_of line (wanted.Outputs (length s.outputs) (has_several version)) ≡ r
          → replied_entry n r ≡ Some e → MayFollow version task before e × (is_answer_to n e ≡ true) × (is_answer e ≡ true)
      by_outputs none (reply.yields t vs) says said =
          let same : entry.Got n t vs ≡ e = cc in
          subst (λ x. MayFollow version task before x × (is_answer_to n x ≡ true) × (is_answer x ≡ true)) same (
            record {
              waiting = waiting;
              request = record { stream = s; instance = i };
              of = request;
              no_cost = none;
              right = yields_are_right line (length s.outputs) (has_several version) t vs says;
            },
            itself,
            refl,
          )
      by_outputs none (reply.number v) says said =
          absurd (fields_no_number (length s.outputs) (has_several version) (reply.fields line) v says)
      by_outputs none reply.ends says said =
          let same : entry.End n ≡ e = cc in
          subst (λ x. MayFollow version task before x × (is_answer_to n x ≡ true) × (is_answer x ≡ true)) same (waiting, itself, refl)
      by_outputs none (reply.bad why) says said = absurd (cc)

      by_number : is_none s.worth ≡ false → (r : Reply) → reply_of line wanted.Number ≡ r
          → replied_entry n r ≡ Some e
          → MayFollow version task before e × (is_answer_to n e ≡ true) × (is_answer e ≡ true)
      by_number some (reply.yields t vs) says said =
          absurd (fields_no_yield (reply.fields line) t vs says)
      by_number some (reply.number v) says said =
          let same : entry.Value n v ≡ e = cc in
          subst (λ x. MayFollow version task before x × (is_answer_to n x ≡ true) × (is_answer x ≡ true)) same (
            record {
              waiting = waiting;
              request = record { stream = s; instance = i };
              of = request;
              cost = some;
              few = numbers_are_small line wanted.Number v says;
            },
            itself,
            refl,
          )
      by_number some reply.ends says said =
          let same : entry.End n ≡ e = cc in
          subst (λ x. MayFollow version task before x × (is_answer_to n x ≡ true) × (is_answer x ≡ true)) same (waiting, itself, refl)
      by_number some (reply.bad why) says said = absurd (cc)

  pub record Answered (before after : List Entry) (count : ℕ) : Type 0 where
    pub legal : IsLegal version task after
    pub none_open : HasNoneOpen after
    pub asks : asks_of after ≡ asks_of before
    pub requests : (m : ℕ) → asked task after m ≡ asked task before m

  -- those that wait still wait where nothing of them changes
  wait_still : (before after : List Entry) (n k : ℕ) (dues : List Due) → n < k
      → ((m : ℕ) → ¬ (m ≡ n) → is_open after m ≡ is_open before m)
      → ((m : ℕ) → asked task after m ≡ asked task before m) → AllWait task before k dues → AllWait task after k dues
  wait_still before after n k [] below opens requests w = tt
  wait_still before after n k (d ∷ ds) below opens requests w = (
    opens k (λ e. absurd (omega (arith, e, below))) ∙ w.0,
    record { stream = w.1.stream; streamed = w.1.streamed; asks = requests k ∙ w.1.asks },
    wait_still before after n (k + 1) ds (omega (arith, below)) opens requests w.2,
  )

  pub answered_all : (dues : List Due) (slots : List Slot) (before : List Entry) (n : ℕ)
      → IsLegal version task before
      → AllWait task before n dues → AreSlotsFor task version n dues slots → all_answered slots ≡ true
      → ((m : ℕ) → is_open before m ≡ true → (n ≤ m) × (m < n + length dues)) → Answered before (before ++ answers_of slots) (length dues)
  answered_all [] [] before n ok waits h all only =
      subst (λ after. Answered before after 0) (sym (append-nil before))
      (record {
        legal = ok;
        none_open =
            λ m. false_from_ne_true (is_open before m) (λ o. let w = only m o in absurd (omega (arith, w.0, w.1)));
        asks = refl;
        requests = λ m. refl;
      })
  answered_all [] (s ∷ ss) before n ok waits h all only = absurd h
  answered_all (d ∷ ds) [] before n ok waits h all only = absurd h
  answered_all (d ∷ ds) (s ∷ ss) before n ok waits h all only =
      by s.answer refl (λ after good still bounds.
      answered_all ds ss after (n + 1) good still h.1 (and_parts (not (is_none s.answer)) (all_answered ss) all).1 bounds)
    where
      by : (o : Option Entry) → s.answer ≡ o
          → ((after : List Entry) → IsLegal version task after → AllWait task after (n + 1) ds
          → ((m : ℕ) → is_open after m ≡ true → (n + 1 ≤ m) × (m < (n + 1) + length ds))
          → Answered after (after ++ answers_of ss) (length ds))
          → Answered before (before ++ answers_of (s ∷ ss)) (length (d ∷ ds))
      by None is again =
          absurd (no_both (is_none s.answer) (ap is_none is)
          (not-true (is_none s.answer) (and_parts (not (is_none s.answer)) (all_answered ss) all).0))
      by (Some e) is again =
          let slot = h.0 in
          let request = waits.1 in
          let said = slot.right e is in
          let line = said.0 in
          let wants : s.wanted ≡ wanted_of version request.stream =
          slot.wanted ∙ wanted_is task version d.instance.stream request.stream request.streamed in
          let replied : replied_entry n (reply_of line (wanted_of version request.stream)) ≡ Some e =
          (λ k. replied_entry (sym slot.numbered k) (reply_of line (sym wants k))) ∙ said.1 in
          let r = says_right before n request.stream d.instance line e waits.0 request.asks replied in
          let after = before ++ e ∷ [] in
          let adds = answer_adds version task before fit.problem.objects.names.distinct ok n _ request.asks e r.1 in
          let others : (m : ℕ) → ¬ (m ≡ n) → is_open after m ≡ is_open before m =
          λ m ne. adds.waiting m ∙ ap (λ b. is_open before m && not b) (ne_eqb m n ne) ∙ and_true (is_open before m) in
          let later : (m : ℕ) → is_open after m ≡ true → (n + 1 ≤ m) × (m < (n + 1) + length ds) =
          λ m o.
          let parts = and_parts (is_open before m) (not (m == n)) (sym (adds.waiting m) ∙ o) in
          let bounds = only m parts.0 in
          let apart : m ≡ n → ⊥ = λ f. no_both (m == n) (eq-eqb m n f) (not-true (m == n) parts.1) in
          (omega (arith, bounds.0, apart), omega (arith, bounds.1)) in
          let rest = again after ((grows version task before).next e ok r.0)
          (wait_still before after n (n + 1) ds (omega arith) others adds.requests waits.2) later in
          let whole : before ++ answers_of (s ∷ ss) ≡ after ++ answers_of ss =
          ap (λ o. before ++ cons_option o (answers_of ss)) is ∙ sym (append_assoc before (e ∷ []) (answers_of ss)) in
          subst (λ all. Answered before all (length (d ∷ ds))) (sym whole)
          (record {
            legal = rest.legal;
            none_open = rest.none_open;
            asks = rest.asks ∙ adds.asks;
            requests = λ m. rest.requests m ∙ adds.requests m;
          })
        where
          and_true : (b : Bool) → (b && not false) ≡ b
          and_true true = refl
          and_true false = refl
