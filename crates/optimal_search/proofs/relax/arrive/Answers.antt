use Rattle.std.proofs.Common.{◌≡◌, ℕ, List, sym, subst, Some, slice_get}
use Rattle.std.proofs.lemmas.Option.{get_or_from_slice_get}
use Rattle.optimal_search.proofs.RelaxLemmas.{stores_by}
use Rattle.state_store.specs.Changed.{state_after}
use Rattle.task_model.specs.Known.{Known}
use Rattle.task_model.specs.State.{Atoms, empty, with_atoms, without_atoms}
use Rattle.task_model.specs.Steps.{IsStep}
use Rattle.task_model.specs.declared.fact.Atom.{Atom}
use Rattle.task_model.specs.declared.task.GroundAction.{GroundAction}
use Rattle.task_model.specs.declared.task.Task.{Task}
use Rattle.optimal_search.proofs.relax.arrive.Goals as goal

-- the step leads to the state that is put in
leads_on : (task : Task) (known : Known) (states : List Atoms) (from : ℕ) (state : Atoms) (step : GroundAction) (cost : ℕ)
    (gone come given_gone given_come : List Atom) → slice_get states from ≡ Some state
    → given_gone ≡ gone → given_come ≡ come
    → IsStep task known state step (with_atoms (without_atoms state gone) come) cost
    → IsStep task known state step (state_after states from given_gone given_come) cost
leads_on task known states from state step cost gone come given_gone given_come here e f is =
    let there = get_or_from_slice_get states from state empty here in
    subst (λ s. IsStep task known state step s cost) (sym (λ i. with_atoms (without_atoms (there i) (e i)) (f i))) is

pub returns : goal.returns
returns g c =
    let task = c.args.scene.now.task.now in
    let known = g.L.Look.known c.args.scene.now.look.now in
    let taken = c.in_ok-taken.taken in
    let from = c.args.from.now in
    let old = c.args.store.now in
    let after = state_after old from.place c.as_slice-gone.result.now c.as_slice-come.result.now in
    record {
      after = after;
      leads =
          leads_on task known old from.place from.state c.args.step.now taken.cost taken.changes.gone.items taken.changes.come.items
          c.as_slice-gone.result.now c.as_slice-come.result.now c.requires.here c.as_slice-gone.ensures.value
          c.as_slice-come.ensures.value c.in_ok-taken.ensures.step;
      small = c.in_ok-taken.ensures.small;
      there = c.in_ok-place.ensures.place;
      stores = stores_by task known old after c.intern_after.new.self c.in_ok-place.is_new c.in_ok-place.ensures.fresh.0
          c.in_ok-place.ensures.states;
    }
