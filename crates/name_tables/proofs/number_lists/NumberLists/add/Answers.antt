use Rattle.std.proofs.Common.{[], ◌<◌, length, ap, ◌∙◌, arith}
use Rattle.lemmas.proofs.ListTests.{get_some}
use Rattle.name_tables.specs.Declarations.{number_put}
use Rattle.name_tables.specs.Graphs.{ascending}
use Rattle.name_tables.proofs.DeclarationsPutLemmas.{put_seen}
use Rattle.name_tables.proofs.GraphsSortLemmas.{ascending_push}
use Rattle.name_tables.proofs.number_lists.NumberLists.add.Goals as goal

pub returns-in_ok-push : goal.returns-in_ok-push
returns-in_ok-push c =
    let lists = c.self.inside.lists.items in
    let old = c.index_mut.result.now in
    let lt : c.args.place < length lists = omega (arith, c.if-place-len.true, c.len.ensures) in
    put_seen (λ v. ascending [] v.items) lists c.args.place c.args.number old c.push.new.self
    (get_some lists c.args.place old lt c.index_mut.ensures.value)
    (ap (ascending []) c.in_ok-push.ensures.ok ∙ ascending_push [] old.items c.args.number)
    ∙ ap (λ ls. number_put ls c.args.place c.args.number) c.self.view_is
