use Rattle.std.proofs.Common.{◌≡◌, sym, ap, ◌∙◌, nat_le}
use Rattle.std.specs.List.{list_all}
use Rattle.fit_check.proofs.CyclesLemmas.{acyclic_if, done_if}
use Rattle.fit_check.proofs.graph.is_clear.Goals as goal

pub returns : goal.returns
returns g c =
    let edge = g.G.Graph.edge c.args.graph.now in
    let size = g.G.Graph.size c.args.graph.now in
    let next = c.advance.new.next in
    let settled = c.advance.ensures.settled in
    let done : c.are_done.result ≡ list_all (λ n. nat_le size n) next =
    c.are_done.ensures ∙ ap (λ m. list_all (λ n. nat_le m n) next) settled.long in (
      λ all. acyclic_if edge size next (g.met.G.Graph.within c.args.graph.now) settled (sym done ∙ all),
      λ acyclic. done ∙ done_if edge size next settled (c.advance.ensures.still c.loop-test.false) acyclic,
    )
