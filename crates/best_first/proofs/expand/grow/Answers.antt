use Rattle.std.proofs.Common.{◌≡◌, ℕ, List, ◌∷◌, [], ◌++◌, refl, sym, ap, subst, ◌∙◌, if◌then◌else◌, Some, slice_get, Contains}
use Rattle.std.proofs.lemmas.Option.{get_or_from_slice_get, slice_get_within}
use Rattle.lemmas.proofs.Members.{member_at}
use Rattle.state_store.specs.Changed.{state_after}
use Rattle.task_model.specs.Known.{Known}
use Rattle.task_model.specs.State.{Atoms, empty, with_atoms, without_atoms}
use Rattle.task_model.specs.Steps.{IsStep}
use Rattle.task_model.specs.declared.fact.Atom.{Atom}
use Rattle.task_model.specs.declared.task.GroundAction.{GroundAction}
use Rattle.task_model.specs.declared.task.Task.{Task}
use Rattle.best_first.proofs.expand.grow.Goals as goal

-- the step leads to the state that is put in
leads_on : (task : Task) (known : Known) (states : List Atoms) (from : ℕ) (state : Atoms) (step : GroundAction) (cost : ℕ)
    (gone come given_gone given_come : List Atom) → slice_get states from ≡ Some state
    → given_gone ≡ gone → given_come ≡ come
    → IsStep task known state step (with_atoms (without_atoms state gone) come) cost
    → IsStep task known state step (state_after states from given_gone given_come) cost
leads_on task known states from state step cost gone come given_gone given_come here e f is =
    let there = get_or_from_slice_get states from state empty here in
    subst (λ s. IsStep task known state step s cost) (sym (λ i. with_atoms (without_atoms (there i) (e i)) (f i))) is

pub intern_after-requires-clause-there : goal.intern_after-requires-clause-there
intern_after-requires-clause-there g c = slice_get_within c.args.tree.now.store c.args.from c.args.state.now c.requires.here

pub returns-then-not-fresh : goal.returns-then-not-fresh
returns-then-not-fresh g c =
    let taken = c.in_ok-taken.taken in
    let old = c.args.tree.now.store in
    let after = state_after old c.args.from c.as_slice-gone.result.now c.as_slice-come.result.now in
    let same : c.intern_after.new.self ≡ old =
    c.in_ok-id.ensures.states ∙ ap (λ b. if b then old ++ after ∷ [] else old) c.if-not-fresh.true in
    record {
      after = after;
      cost = taken.cost;
      leads =
          leads_on c.args.scene.now.task.now (g.L.Look.known c.args.scene.now.look.now) old c.args.from c.args.state.now
          c.args.step.now taken.cost taken.changes.gone.items taken.changes.come.items c.as_slice-gone.result.now
          c.as_slice-come.result.now c.requires.here c.as_slice-gone.ensures.value c.as_slice-come.ensures.value
          c.in_ok-taken.ensures.step;
      there = subst (λ (ss : List Atoms). Contains ss after) same
          (member_at c.intern_after.new.self c.in_ok-id.id after c.in_ok-id.ensures.place);
      states_are = same;
      links_are = refl;
    }

pub returns : goal.returns
returns g c =
    let taken = c.in_ok-taken.taken in
    let old = c.args.tree.now.store in
    let after = state_after old c.args.from c.as_slice-gone.result.now c.as_slice-come.result.now in
    record {
      after = after;
      leads =
          leads_on c.args.scene.now.task.now (g.L.Look.known c.args.scene.now.look.now) old c.args.from c.args.state.now
          c.args.step.now taken.cost taken.changes.gone.items taken.changes.come.items c.as_slice-gone.result.now
          c.as_slice-come.result.now c.requires.here c.as_slice-gone.ensures.value c.as_slice-come.ensures.value
          c.in_ok-taken.ensures.step;
      small = c.in_ok-taken.ensures.small;
      fresh = c.in_ok-id.ensures.fresh.0 c.if-not-fresh.false;
      states_are =
          c.in_ok-id.ensures.states
          ∙ ap (λ b. if b then old ++ after ∷ [] else old) c.if-not-fresh.false;
      links_are =
          subst (λ (s : GroundAction).
          c.push.new.self.items ≡ c.args.tree.now.links.items ++ record { parent = c.args.from; step = s; cost = taken.cost } ∷ [])
          c.in_ok-step.ensures c.in_ok-push.ensures.items;
      place = c.in_ok-id.ensures.place;
    }
