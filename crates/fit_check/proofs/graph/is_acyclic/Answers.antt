use Rattle.std.proofs.Common.{◌≡◌, ap, ◌∙◌, length, slice_index, replicate}
use Rattle.fit_check.proofs.CyclesLemmas.{settled_first, zeros, many_zeros}
use Rattle.fit_check.proofs.graph.is_acyclic.Goals as goal

pub is_clear-requires : goal.is_clear-requires
is_clear-requires g c =
    let size = g.G.Graph.size c.args.graph.now in
    let all : c.as_mut_slice.result.now ≡ replicate size 0 =
    c.as_mut_slice.ensures.value ∙ c.in_ok-next.ensures.items_if_clones_equal (λ y e. e) ∙ ap (λ n. replicate n 0) c.len.ensures in
    settled_first (g.G.Graph.edge c.args.graph.now) size c.as_mut_slice.result.now
    (ap length all ∙ many_zeros size) (λ i. ap (λ ns. slice_index ns i) all ∙ zeros size i)
