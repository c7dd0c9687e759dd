-- In a run of `generate` one child is asked.
use Rattle.std.proofs.Common.{◌≡◌, ℕ, eqb-true, [], ◌∷◌, refl, subst, ap, arith}
use Rattle.laws.proofs.GridMadePoolLemmas.{made_workers, workers_are}
use Rattle.laws.proofs.GridProgramLemmas.{program_runs}
use Rattle.laws.specs.GridLaws.{MadeRunsAskOneChild}
use Rattle.lemmas.proofs.Members.{get_single}
use Rattle.turn_run.proofs.TabledLemmas.{resting}
use Rattle.pools.specs.Pools.{Workers}
use Rattle.round_run.specs.Dialogue.{IsOneOf, is_to, requests_of, workers_in}
use Rattle.table_runs.proofs.AskingPlaceLemmas.{passing_there}
use Rattle.table_runs.proofs.ServedLemmas.{go_to_pools}

-- the child of a pool with one worker
pub only_child : (pool : Workers) (child : ℕ) → pool.workers ≡ 1 → IsOneOf (pool ∷ []) child → child ≡ pool.first
only_child pool child one of =
    let same = (get_single pool of.pool of.place of.at).1 in
    omega (arith, one, of.has.from, of.has.to, ap (λ (w : Workers). w.first) same, ap (λ (w : Workers). w.workers) same)

pub one_child : MadeRunsAskOneChild
one_child words outside status text n meant has child asked =
    let served = go_to_pools has.run.task has.run.head has.run.entries has.turns.stage has.run.fit (program_runs has.run).fit.pools
    has.turns.legal has.turns.turns (resting has.turns.stage has.outcome has.turns.stands) in
    let k = passing_there (is_to child) (requests_of has.run.task (workers_in has.run.head) has.run.entries) asked in
    let to : k.1.child ≡ child = eqb-true k.1.child child k.3 in
    let of : IsOneOf (workers_in has.run.head) child = subst (IsOneOf (workers_in has.run.head)) to (served k.0 k.1 k.2) in
    only_child (made_workers has.run.task) child refl
    (subst (λ ws. IsOneOf ws child) (workers_are has.run n meant) of)
