use Rattle.std.proofs.Common.{◌≡◌, ◌∷◌, [], sym, ap, subst, arith, Some, slice_get}
use Rattle.lemmas.proofs.Bools.{not_both}
use Rattle.task_model.specs.Initial.{initial_state}
use Rattle.best_first.specs.Explored.{ExploringEnds, IsExplored, IsMet}
use Rattle.best_first.proofs.ExploredLemmas.{explored_start, met_at_start, explored_all}
use Rattle.best_first.proofs.explore.explore_from.Goals as goal

pub returns-then-branch : goal.returns-then-branch
returns-then-branch g c =
    let scene = c.args.scene.now in
    let known = g.L.Look.known scene.look.now in
    let tree = c.args.tree.now in
    let here : slice_get tree.store 0 ≡ Some (initial_state scene.task.now) = ap (λ ss. slice_get ss 0) c.requires.begins.states in
    let met = met_at_start scene.task.now known scene.seeks_goal scene.limit
    ((c.in_ok-ends.ensures (initial_state scene.task.now) here).0 c.if-branch.true) in
    subst (λ ss. IsMet scene.task.now known scene.seeks_goal scene.limit ss tree.links.items) (sym c.requires.begins.states)
    (subst (IsMet scene.task.now known scene.seeks_goal scene.limit (initial_state scene.task.now ∷ []))
    (sym c.requires.begins.links) met)

pub loop-next-init : goal.loop-next-init
loop-next-init g c =
    let scene = c.args.scene.now in
    let known = g.L.Look.known scene.look.now in
    let tree = c.args.tree.now in
    let here : slice_get tree.store 0 ≡ Some (initial_state scene.task.now) = ap (λ ss. slice_get ss 0) c.requires.begins.states in
    let open_end : ¬ (ExploringEnds scene.task.now known scene.seeks_goal (initial_state scene.task.now)) =
    λ e. absurd (not_both _ ((c.in_ok-ends.ensures (initial_state scene.task.now) here).1 e) c.if-branch.false) in
    let start = explored_start scene.task.now known scene.seeks_goal scene.limit c.requires.some open_end in
    subst (λ ss. IsExplored scene.task.now known scene.seeks_goal scene.limit ss tree.links.items 0) (sym c.requires.begins.states)
    (subst (λ ls. IsExplored scene.task.now known scene.seeks_goal scene.limit (initial_state scene.task.now ∷ []) ls 0)
    (sym c.requires.begins.links) start)

pub returns : goal.returns
returns g c =
    let scene = c.args.scene.now in
    let e = c.loop-next.invariant in
    explored_all scene.task.now (g.L.Look.known scene.look.now) scene.seeks_goal scene.limit c.loop-next.tree.store
    c.loop-next.tree.links.items c.loop-next.next e
    (omega (arith, e.tree.linked, c.len.ensures, c.loop-next.tree.links.ok.0, c.loop-next-test.false))
