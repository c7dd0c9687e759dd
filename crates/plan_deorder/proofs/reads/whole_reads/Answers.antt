use Rattle.std.proofs.Common.{◌≡◌, ◌↔◌, ◌++◌, true, false, sym, ap, subst, ◌∙◌}
use Rattle.lemmas.specs.Lists.{has_number}
use Rattle.plan_deorder.proofs.OccurringLemmas.{edges_in, whole_are}
use Rattle.plan_deorder.specs.Occurring.{IsWay, fluents_of, occurring_in}
use Rattle.plan_deorder.specs.Touches.{ReadsAll}
use Rattle.plan_deorder.proofs.reads.whole_reads.Goals as goal

pub returns : goal.returns
returns c p =
    let domain = c.args.domain.now in
    let condition = c.args.condition.now in
    let preds = c.in_ok-preds.preds.items in
    let edges : c.args.edges.now ≡ edges_in domain = c.requires.edges in
    let starts : c.as_slice.result.now ≡ occurring_in true condition =
    c.as_slice.ensures.value ∙ c.in_ok-put_occurring.ensures
    ∙ ap (λ xs. xs ++ occurring_in true condition) c.new-occurring.ensures.items in
    let whole : c.in_ok-whole.whole.items ≡ fluents_of domain (preds ++ occurring_in false condition) =
    c.in_ok-whole.ensures ∙ ap (fluents_of domain) (c.as_slice-2.ensures.value ∙ c.in_ok-put_occurring-2.ensures) in
    subst (λ xs. (has_number xs p ≡ true) ↔ ReadsAll domain condition p) (sym whole)
    (whole_are domain c.requires.fit condition preds (λ q.
    subst (λ es. (has_number preds q ≡ true) ↔ IsWay es (occurring_in true condition) q) edges
    (subst (λ xs. (has_number preds q ≡ true) ↔ IsWay c.args.edges.now xs q) starts (c.in_ok-preds.ensures q))) p)
