-- What the definitions refuse, at the first worked task.
use Rattle.std.proofs.Common.{◌≡◌, ℕ, zero, suc, ◌+◌, ◌<◌, inl, inr, List, [], ◌∷◌, ◌++◌, codes, drop, length, map, refl, sym, ap, subst, ◌∙◌, arith, Option, Some, slice_get, take, true, Contains}
use Rattle.std.proofs.lemmas.List.{length-map}
use Rattle.std.proofs.lemmas.Bool.{false≢true}
use Rattle.std.proofs.lemmas.Option.{same_Some}
use Rattle.std.specs.Option.{option_and_then}
use Rattle.lemmas.proofs.Ascending.{contains_none}
use Rattle.task_model.specs.Examples.{call as grip_of}
use Rattle.task_model.specs.Plans.{Executes}
use Rattle.task_model.specs.Roles.{role_of}
use Rattle.task_model.specs.State.{Atoms}
use Rattle.task_model.specs.Streams.{is_reachable, name_at}
use Rattle.task_model.specs.declared.stream.Instance.{Instance}
use Rattle.task_model.specs.declared.task.GroundAction.{GroundAction}
use Rattle.transcript_model.specs.Calls.{call_of_step}
use Rattle.transcript_model.specs.Rounds.{AreRounds, AreRoundsRun, IsBatch, IsFull, calls_left}
use Rattle.transcript_model.specs.Transcript.{known_of, names_of}
use Rattle.transcript_model.specs.declared.entry.Call.{Call}
use Rattle.transcript_model.specs.declared.entry.Entry.{Entry}
use Rattle.transcript_model.specs.declared.entry.Entry.TheVariants as entry
use Rattle.turn_laws.specs.Lazy.{IsTurnNeeded}
use Rattle.witness_laws.specs.Fetch.{fetch, grip, grip_cup}
use Rattle.witness_laws.specs.Level.{cup_entries, cup_limits}
use Rattle.witness_laws.specs.Refusals.{AnswersNeedOpenRequests, DomainFactsAreNeeded, GreaterCostsAreFalse, LevelsAskForAll, OpenRequestsArentRepeated, PlaceholdersMakeNoPlan, RoundsAreFull, TurnsBehindPlansArentLazy}
use Rattle.witness_laws.proofs.LevelLemmas.{first_due}
use Rattle.witness_laws.proofs.PlanLemmas.{cup_valid, plan_step}

-- ---- a level asks for all

abbrev begun : List Entry
begun = entry.Level ∷ []

something : {A : Type 0} (x : A) (xs now rest : List A) → now ≡ x ∷ xs → [] ≡ now ++ rest → ⊥
something x xs now rest is none =
    let h : [] ≡ x ∷ (xs ++ rest) = none ∙ ap (λ ys. ys ++ rest) is in absurd (cc)

no_front : (n : ℕ) (i : Instance) (is : List Instance) → 0 < n → take n (i ∷ is) ≡ [] → ⊥
no_front zero i is some none = absurd (omega (arith, some))
no_front (suc n) i is some none = absurd (cc)

some_left : 0 < calls_left cup_limits begun
some_left = let n : calls_left cup_limits begun ≡ 10000 = refl in omega (arith, n)

no_rounds : (list : List Instance) (rounds : List (List Instance)) → Contains list (grip_of 0)
    → AreRounds cup_limits.pools (take (calls_left cup_limits begun) list) rounds
    → AreRoundsRun fetch begun rounds []
    → ⊥
no_rounds [] rounds m cut run = contains_none (grip_of 0) m
no_rounds (i ∷ is) [] m cut run = no_front (calls_left cup_limits begun) i is some_left cut
no_rounds (i ∷ is) ([] ∷ rounds) m cut run = absurd (omega (arith, cut.2))
no_rounds (i ∷ is) ((j ∷ js) ∷ rounds) m cut run = something _ _ run.0 run.1 run.3.1 run.2

pub levels_ask : LevelsAskForAll
levels_ask cut level =
    let batch = subst (IsBatch cup_limits fetch begun level.list) (sym (ap (drop 1) level.is)) level.batch in
    no_rounds level.list batch.rounds ((level.due.each (grip_of 0)).1 first_due) batch.cut batch.run

-- ---- a turn behind a plan

not_needed : IsTurnNeeded cup_limits fetch cup_entries → ⊥
not_needed (inl none) = none (plan_step 0 ∷ plan_step 1 ∷ [], 2, cup_valid)
not_needed (inr far) = far.0 refl

pub not_lazy : TurnsBehindPlansArentLazy
not_lazy lazy = not_needed (lazy 3 entry.Level refl refl)

-- ---- placeholders

abbrev second_name : List Call → Option (List ℕ)
second_name calls = option_and_then (λ (c : Call). slice_get c.args 1) (slice_get calls 0)

abbrev names : List (List ℕ)
names = names_of fetch cup_entries

no_name : (k : ℕ) → codes "?0" ≡ name_at names k → ⊥
no_name zero e = let h : 63 ≡ 99 = same_Some 63 99 (ap (λ xs. slice_get xs 0) e) in absurd (omega (arith, h))
no_name (suc zero) e = let h : 63 ≡ 35 = same_Some 63 35 (ap (λ xs. slice_get xs 0) e) in absurd (omega (arith, h))
no_name (suc (suc k)) e = absurd (cc)

no_second : (args : List ℕ) → Some (codes "?0") ≡ slice_get (map (name_at names) args) 1 → ⊥
no_second [] e = absurd (cc)
no_second (a ∷ []) e = absurd (cc)
no_second (a ∷ b ∷ more) e = no_name b (same_Some (codes "?0") (name_at names b) e)

no_steps : (steps : List GroundAction) → Some (codes "?0") ≡ second_name (map (call_of_step fetch names) steps) → ⊥
no_steps [] e = absurd (cc)
no_steps (step ∷ steps) e = no_second step.args e

pub no_placeholder : PlaceholdersMakeNoPlan
no_placeholder cost from plan = no_steps plan.steps (ap second_name plan.shown)

-- ---- costs

one_each : (steps : List GroundAction) (before after : Atoms) (total : ℕ)
    → Executes fetch (known_of fetch cup_entries) before steps after total
    → total ≡ length steps
one_each [] before after total run = run.1
one_each (step ∷ steps) before after total run =
    let one : 1 ≡ run.1 = same_Some 1 run.1 run.3.costs in
    let rest : run.2 ≡ length steps = one_each steps run.0 after run.2 run.4 in
    omega (arith, one, rest, run.5)

pub no_greater_cost : GreaterCostsAreFalse
no_greater_cost from plan =
    let three : 3 ≡ length plan.steps = one_each plan.steps _ plan.valid.0 3 plan.valid.1 in
    let two : 2 ≡ length plan.steps = ap length plan.shown ∙ length-map plan.steps (call_of_step fetch names) in
    absurd (omega (arith, three, two))

-- ---- requests and answers

pub no_answer_again : AnswersNeedOpenRequests
no_answer_again legal = false≢true (legal 3 (entry.End 1) refl)

pub no_request_again : OpenRequestsArentRepeated
no_request_again legal =
    let ask = legal 2 (entry.Ask 2 0 grip_cup) refl in
    let same : grip_of 0 ≡ ask.instance = same_Some (grip_of 0) ask.instance ask.named in
    false≢true (sym (ask.closed 1 (record { stream = grip; instance = grip_of 0 }) refl same))

pub no_domain_fact : DomainFactsAreNeeded
unfolding role_of
no_domain_fact due =
    false≢true (subst (λ s. is_reachable s (known_of fetch cup_entries) (grip_of 1) ≡ true)
    (sym (same_Some grip due.stream due.named)) due.reachable)

pub no_round_of_one : RoundsAreFull
no_round_of_one rounds =
    false≢true (sym (subst (IsFull (record { workers = 2; streams = 0 ∷ [] } ∷ []) (grip_of 0 ∷ []))
    (sym (ap (drop 1) rounds.1)) rounds.4))
