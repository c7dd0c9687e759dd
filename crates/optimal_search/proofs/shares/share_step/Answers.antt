use Rattle.std.proofs.Common.{◌≡◌, ◌*◌, ◌/◌, List, map, true, sym, ap, subst, ◌∙◌}
use Rattle.std.proofs.Math.Nat.{div-mul-le_self}
use Rattle.std.proofs.lemmas.Option.{same_Some}
use Rattle.std.specs.List.{list_all}
use Rattle.plan_check.proofs.ReadableLemmas.{readable_action}
use Rattle.plan_check.specs.Readable.{is_readable_pattern}
use Rattle.task_model.specs.State.{contains, from_list}
use Rattle.task_model.specs.Steps.{atom_of}
use Rattle.task_model.specs.declared.domain.Pattern.{Pattern}
use Rattle.optimal_search.proofs.PayLemmas.{shared_none, shared_some}
use Rattle.optimal_search.specs.Share.{AreFair, AreLower}
use Rattle.optimal_search.specs.ShareLemmas.{lower_mapped, lower_self}
use Rattle.optimal_search.specs.Shares.{adds_of}
use Rattle.optimal_search.specs.declared.shares.TheConstants.{UNIT}
use Rattle.optimal_search.proofs.shares.share_step.Goals.{then-met-gt0, else-met-gt0}
use Rattle.optimal_search.proofs.shares.share_step.Goals as goal

pub pattern_atoms-requires : goal.pattern_atoms-requires
pattern_atoms-requires g c =
    let domain = c.args.task.now.domain in
    subst (λ (ps : List Pattern). list_all is_readable_pattern ps ≡ true) (sym c.as_slice.ensures)
    (readable_action domain c.requires.fit.domain c.args.action.now c.requires.action).adds

pub returns-clause-lower : goal.returns-clause-lower
returns-clause-lower g c =
    let old = c.args.shares.now in
    elim c.if-met-gt0.branch [
      | then-met-gt0 w ↦
          subst (AreLower old) (sym (w.shares-is ∙ w.lower.ensures))
          (lower_mapped (contains c.from_atoms-come.result) (c.in-Some.cost * 1048576 / c.count_met-met.result) old)
      | else-met-gt0 w ↦ subst (AreLower old) (sym w.shares-is) (lower_self old)
    ]

pub returns-clause-shared : goal.returns-clause-shared
returns-clause-shared g c cost costs =
    let task = c.args.task.now in
    let known = g.L.Look.known c.args.look.now in
    let action = c.args.action.now in
    let args = c.args.args.now in
    let come = c.from_atoms-come.result in
    let old = c.args.shares.now in
    let new = c.if-met-gt0.shares in
    let count = c.count_met-met.result in
    let is = same_Some c.in-Some.cost cost (c.in-Some.ensures.value ∙ costs) in
    let same : come ≡ adds_of action args =
    c.from_atoms-come.ensures ∙ ap from_list
    (c.in_ok-come.ensures ∙ (λ i. map (atom_of (c.new.ensures i)) (c.as_slice.ensures i))) in
    subst (λ n. AreFair new (contains (adds_of action args)) (n * UNIT)) is
    (elim c.if-met-gt0.branch [
      | then-met-gt0 w ↦
          shared_some task known action args come old new count c.in-Some.cost same c.count_met-met.ensures
          (c.in-Some.cost * 1048576 / count) (w.shares-is ∙ w.lower.ensures)
          (div-mul-le_self (c.in-Some.cost * 1048576) count)
      | else-met-gt0 w ↦
          shared_none task known action args come old new count c.in-Some.cost same c.count_met-met.ensures w.shares-is
          w.if-met-gt0.false
    ])
