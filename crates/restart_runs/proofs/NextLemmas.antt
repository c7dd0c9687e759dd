-- The next request that has no answer, and what is heard of answers.
use Rattle.std.proofs.Common.{◌≡◌, ℕ, ◌+◌, ◌≤◌, true, List, length, take, slice_get, Some, refl, sym, ap, ◌∙◌, arith, inl, inr}
use Rattle.std.proofs.lemmas.Bool.{cases_lt, eq-eqb}
use Rattle.gen_lines.specs.Lines.{lines_of}
use Rattle.io_world.specs.Talks.{Event}
use Rattle.lemmas.proofs.Counts.{count_passes, count_whole}
use Rattle.restart_host.specs.Uses.{waiting}
use Rattle.restart_runs.proofs.StandsLemmas.{IsDue, Stands}
use Rattle.round_run.specs.Calls.{answers_by}
use Rattle.round_run.specs.Dialogue.{AreSaid, AreShort, Request, count_to, is_to, replies_of, requests_of, text_of_request, workers_in}
use Rattle.task_model.specs.declared.task.Task.{Task}
use Rattle.transcript_model.specs.declared.entry.Entry.{Entry}
use Rattle.transcript_model.specs.declared.head.Head.{Head}

-- The lines that were heard say the answers of requests to a child, each in at most 1,024 bytes.
pub record SayAnswers (task : Task) (version : ℕ) (requests : List Request) (replies : List Entry) (child : ℕ)
    (heard : List ℕ) : Type 0 where
  pub answered : AreSaid task version requests replies child (lines_of heard)
  pub short : AreShort heard (count_to child (take (length replies) requests))

module _ (task : Task) (head : Head) (before : List Entry) (calls : List Event) (q : Request)
    (next : slice_get (requests_of task (workers_in head) before) (length (replies_of before)) ≡ Some q) (stands : Stands task head before calls q.child) where
  abbrev d : ℕ
  d = q.child

  abbrev j : ℕ
  j = length (replies_of before)

  abbrev most : ℕ
  most = answers_by task (workers_in head) before d

  to_own : is_to d q ≡ true
  to_own = eq-eqb d d refl

  open_one : most + 1 ≤ count_to d (requests_of task (workers_in head) before)
  open_one = count_whole (is_to d) (requests_of task (workers_in head) before) j q next to_own

  due_here : (due : IsDue task head before calls d) → due.request ≡ q
  due_here due = elim (cases_lt due.place j) [
    | inl less ↦ absurd (omega (
      arith,
      count_passes (is_to d) (requests_of task (workers_in head) before) due.place j due.request less due.at (eq-eqb due.request.child d due.own),
      due.earlier,
    ))
    | inr most_is ↦ elim (cases_lt j due.place) [
      | inl less ↦ absurd (omega (
        arith,
        count_passes (is_to d) (requests_of task (workers_in head) before) j due.place q less next to_own,
        due.earlier,
      ))
      | inr least ↦
          let same : due.place ≡ j = omega (arith, most_is, least) in
          let both : Some due.request ≡ Some q = sym due.at ∙ ap (slice_get (requests_of task (workers_in head) before)) same ∙ next in
          cc
    ]
  ]

  -- it is the one that waits
  pub waits_next : (waiting d calls ≡ Some (text_of_request q)) × (count_to d (requests_of task (workers_in head) before) ≡ most + 1)
  waits_next = elim stands.waits [
    | inl free ↦ absurd (omega (arith, free.1, open_one))
    | inr due ↦ (due.waits ∙ ap (λ (x : Request). Some (text_of_request x)) (due_here due), due.count)
  ]
