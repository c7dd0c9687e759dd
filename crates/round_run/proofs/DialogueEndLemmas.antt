-- What a run leaves behind.
use Rattle.std.proofs.Common.{◌≡◌, ◌≢◌, ℕ, zero, suc, arith, List, [], ◌∷◌, ◌++◌, length, take, Option, Some, refl, sym, subst, ap, ◌∙◌, inl, inr, ◌⊎◌, slice_get, option_map, IfSome}
use Rattle.std.proofs.lemmas.List.{append-nil}
use Rattle.std.proofs.lemmas.List.Prefix.{front_rest}
use Rattle.std.specs.List.{after_first}
use Rattle.gen_lines.specs.Lines.{IsFirstShort, is_feed, lines_of}
use Rattle.gen_lines.specs.Reply as reply
use Rattle.gen_lines.specs.Reply.{reply_of}
use Rattle.gen_lines.specs.declared.answer.Why.{Why}
use Rattle.gen_lines.specs.declared.answer.Why.TheVariants.{TooLong}
use Rattle.io_world.specs.Talks.{Talk, Hears, Writes, heard_more, wrote_more}
use Rattle.pools.specs.Pools.{Workers}
use Rattle.task_model.specs.declared.task.Task.{Task}
use Rattle.transcript_model.specs.Legal.{IsLegal}
use Rattle.transcript_model.specs.declared.entry.Entry.{Entry}
use Rattle.round_run.specs.Dialogue.{BrokenOff, Dialogue, HasBadLine, IsBadLine, IsOneOf, IsSaid, Request, bytes_to, count_to, further_requests, replies_of, requests_of, text_of_request, wanted_by}
use Rattle.round_run.specs.Stops.{MayHear}
use Rattle.round_run.specs.Talking.{Talks}
use Rattle.round_run.specs.declared.fault.RunFault.{RunFault}
use Rattle.round_run.proofs.DialogueLemmas.{is_same, mapped, other_bytes, own_bytes, talk_bad, talk_more, talk_said, talk_short, told_map}

-- ---- what a run leaves behind

module _ (task : Task) (version : ℕ) (pools : List Workers) (entries : List Entry) (spoken : ℕ → Option Talk) (kept : ℕ → List ℕ) where
  pub dialogue_of : Talks task version pools (requests_of task pools entries) (replies_of entries) kept spoken
      → Dialogue task version pools entries spoken
  dialogue_of t child is some = told_map _ _ (spoken child) (λ talk w. record {
    written = w.written ∙ sym (append-nil (bytes_to child (requests_of task pools entries)));
    answered = talk_said task version (requests_of task pools entries) (replies_of entries) child (kept child) talk w;
    short = talk_short task version (requests_of task pools entries) (replies_of entries) child (kept child) talk w;
  }) (t.each child is)

-- a request more was written, in whole or in part
pub broken_one : (task : Task) (version : ℕ) (pools : List Workers) (Front : List Entry → Type 0) (fault : RunFault)
    (entries : List Entry) (e : Entry) (r : Request) (n : ℕ) (kept : ℕ → List ℕ) (old new : ℕ → Option Talk)
    → MayHear fault → IsLegal version task (entries ++ e ∷ []) → Front (entries ++ e ∷ [])
    → requests_of task pools (entries ++ e ∷ []) ≡ requests_of task pools entries ++ r ∷ []
    → Writes r.child (take n (text_of_request r)) old new
    → Talks task version pools (requests_of task pools entries) (replies_of entries) kept old
    → BrokenOff task version pools Front fault entries new
broken_one task version pools Front fault entries e r n kept old new may legal front grown w t = record {
  next = e ∷ [];
  few = omega arith;
  only = inr may;
  legal = legal;
  front = front;
  count = n;
  said = λ child is some. by child is (is_same child r.child);
}
  where
    further : further_requests task pools entries (e ∷ []) ≡ r ∷ []
    further =
        front_rest (requests_of task pools (entries ++ e ∷ [])) (requests_of task pools entries) (r ∷ []) grown

    nothing : (m : ℕ) → take m (let none : List ℕ = [] in none) ≡ []
    nothing zero = refl
    nothing (suc m) = refl

    by : (child : ℕ) → IsOneOf pools child → (child ≡ r.child) ⊎ (child ≢ r.child)
        → IfSome (new child) (IsSaid task version (requests_of task pools entries)
        (replies_of entries) (take n (bytes_to child (further_requests task pools entries (e ∷ [])))) child)
    by child is (inl own) =
        subst (λ o. IfSome o (IsSaid task version (requests_of task pools entries)
        (replies_of entries) (take n (bytes_to child (further_requests task pools entries (e ∷ [])))) child))
        (sym (ap new own ∙ w.here ∙ ap (λ c. option_map (wrote_more (take n (text_of_request r))) (old c)) (sym own)))
        (mapped (wrote_more (take n (text_of_request r))) _ _ (old child) (λ talk x. record {
          written =
              ap (λ bytes. bytes ++ take n (text_of_request r)) x.written
              ∙ ap (λ bytes. bytes_to child (requests_of task pools entries) ++ take n bytes)
              (sym (ap (bytes_to child) further ∙ own_bytes r child (sym own)));
          answered = talk_said task version (requests_of task pools entries) (replies_of entries) child (kept child) talk x;
          short = talk_short task version (requests_of task pools entries) (replies_of entries) child (kept child) talk x;
        }) (t.each child is))
    by child is (inr other) =
        subst (λ o. IfSome o (IsSaid task version (requests_of task pools entries)
        (replies_of entries) (take n (bytes_to child (further_requests task pools entries (e ∷ [])))) child))
        (sym (w.others child other))
        (told_map _ _ (old child) (λ talk x. record {
          written =
              x.written ∙ sym (append-nil (bytes_to child (requests_of task pools entries)))
              ∙ ap (λ bytes. bytes_to child (requests_of task pools entries) ++ bytes)
              (sym (ap (take n) (ap (bytes_to child) further ∙ other_bytes r child (λ same. other (sym same))) ∙ nothing n));
          answered = talk_said task version (requests_of task pools entries) (replies_of entries) child (kept child) talk x;
          short = talk_short task version (requests_of task pools entries) (replies_of entries) child (kept child) talk x;
        }) (t.each child is))

-- the line that was heard for the next request is no answer
pub bad_line : (task : Task) (version : ℕ) (pools : List Workers) (entries : List Entry) (r : Request) (more : List ℕ)
    (why : Why) (kept : ℕ → List ℕ) (old new : ℕ → Option Talk)
    → IsOneOf pools r.child → slice_get (requests_of task pools entries) (length (replies_of entries)) ≡ Some r → Hears r.child more old new
    → ((line : List ℕ) × (lines_of (kept r.child ++ more) ≡ line ∷ lines_of (after_first is_feed (kept r.child ++ more)))
    × (reply_of line (wanted_by task version r) ≡ reply.bad why) × IsFirstShort (kept r.child ++ more))
    ⊎ ((why ≡ TooLong) × (lines_of (kept r.child ++ more) ≡ []) × (length (kept r.child ++ more) ≡ 1025))
    → Talks task version pools (requests_of task pools entries) (replies_of entries) kept old
    → HasBadLine task version pools entries new r.number why
bad_line task version pools entries r more why kept old new one next h bad t = record {
  request = r;
  numbered = refl;
  next = next;
  heard = subst (λ o. IfSome o (λ (talk : Talk).
      IsBadLine talk.heard (count_to r.child (take (length (replies_of entries)) (requests_of task pools entries)))
      (wanted_by task version r) why)) (sym h.here)
      (mapped (heard_more more) _ _ (old r.child)
      (λ talk x. talk_bad task version (requests_of task pools entries) (replies_of entries) r.child (kept r.child ++ more)
      (heard_more more talk) r why bad
      (talk_more task version (requests_of task pools entries) (replies_of entries) r.child (kept r.child) more talk x))
      (t.each r.child one));
}
