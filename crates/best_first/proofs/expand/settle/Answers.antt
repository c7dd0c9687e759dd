use Rattle.std.proofs.Common.{arith}
use Rattle.lemmas.proofs.Bools.{not_both}
use Rattle.best_first.proofs.ExploredLemmas.{grown_met, grown_explored, grown_beyond, grown_place}
use Rattle.best_first.specs.Explored.{ExploringEnds}
use Rattle.best_first.proofs.expand.settle.Goals as goal

pub returns-then-branch : goal.returns-then-branch
returns-then-branch g c =
    let scene = c.args.scene.now in
    let grown = c.requires.grown in
    grown_met scene.task.now (g.L.Look.known scene.look.now) scene.seeks_goal scene.limit c.args.tree.now.store c.args.tree.now.links.items
    c.args.from c.args.id grown ((c.in_ok-ends.ensures grown.after grown.place).0 c.if-branch.true)

pub returns-then-id-scene : goal.returns-then-id-scene
returns-then-id-scene g c =
    let scene = c.args.scene.now in
    let known = g.L.Look.known scene.look.now in
    let grown = c.requires.grown in
    let place =
    grown_place scene.task.now known scene.seeks_goal scene.limit c.args.tree.now.store c.args.tree.now.links.items c.args.from
    c.args.id grown in
    let open_end : ¬ (ExploringEnds scene.task.now known scene.seeks_goal grown.after) =
    λ e. absurd (not_both _ ((c.in_ok-ends.ensures grown.after grown.place).1 e) c.if-branch.false) in
    grown_explored scene.task.now known scene.seeks_goal scene.limit c.args.tree.now.store c.args.tree.now.links.items c.args.from c.args.id
    grown open_end (omega arith)

pub returns-else-id-scene : goal.returns-else-id-scene
returns-else-id-scene g c =
    let scene = c.args.scene.now in
    let known = g.L.Look.known scene.look.now in
    let grown = c.requires.grown in
    let place =
    grown_place scene.task.now known scene.seeks_goal scene.limit c.args.tree.now.store c.args.tree.now.links.items c.args.from
    c.args.id grown in
    grown_beyond scene.task.now known scene.seeks_goal scene.limit c.args.tree.now.store c.args.tree.now.links.items c.args.from c.args.id
    grown (omega arith)
