use Rattle.std.proofs.Common.{◌≡◌, ◌∙◌, sym, subst, true}
use Rattle.std.specs.List.{list_all}
use Rattle.plan_check.proofs.ReadableLemmas.{readable_action}
use Rattle.task_model.specs.State.{contains}
use Rattle.best_first.proofs.ReachLemmas.{changed_within}
use Rattle.best_first.specs.Reach.{IsWithin}
use Rattle.best_first.proofs.reach.stays_within.Goals as goal

pub lacks_atom-requires-clause-readable : goal.lacks_atom-requires-clause-readable
lacks_atom-requires-clause-readable g c =
    (readable_action c.args.bounds.now.task.now.domain c.requires.fit.domain c.args.action.now c.requires.action).condition

pub changes_of-requires-clause-adds : goal.changes_of-requires-clause-adds
changes_of-requires-clause-adds g c =
    (readable_action c.args.bounds.now.task.now.domain c.requires.fit.domain c.args.action.now c.requires.action).adds

pub changes_of-requires-clause-deletes : goal.changes_of-requires-clause-deletes
changes_of-requires-clause-deletes g c =
    (readable_action c.args.bounds.now.task.now.domain c.requires.fit.domain c.args.action.now c.requires.action).deletes

pub returns-then-lacks_atom : goal.returns-then-lacks_atom
returns-then-lacks_atom g c = λ _ before cost within costs h. absurd (c.lacks_atom.ensures c.if-lacks_atom.true before within h)

pub returns : goal.returns
returns g c =
    let atoms = c.args.bounds.now.atoms.now in
    let changes = c.in_ok-changes.changes in
    λ all before cost within costs h.
    subst (λ s. IsWithin s atoms) (c.in_ok-changes.ensures.effect before)
    (changed_within atoms before changes.gone.items changes.come.items within
    (subst (λ xs. list_all (λ a. contains atoms a) xs ≡ true) c.as_slice.ensures.value (sym c.has_all.ensures ∙ all)))
