use Rattle.std.proofs.Common.{◌∙◌, ◌≤◌, ◌-◌, subst, ap, sym, length, slice_get}
use Rattle.std.proofs.lemmas.List.{take_rest}
use Rattle.fact_store.specs.Tables.{facts_with, places_in}
use Rattle.fact_store.proofs.ScanLemmas.{read_at, lent_at}
use Rattle.fact_store.proofs.TablesLemmas.{covered_at, uncovered_at}
use Rattle.fact_store.proofs.table.Table.nth.Goals as goal

pub returns-in-Some : goal.returns-in-Some
returns-in-Some c =
    let at = read_at c.places-places.result.now c.args.number c.in-Some.place.now c.in-Some.ensures.lookup.3.0 c.in-Some.ensures.lookup.3.1
    in
    lent_at c.args.facts.now c.in-Some.place.now c.get-in-Some.result c.get-in-Some.ensures.lookup
    ∙ covered_at c.args.group c.args.facts.now c.args.self.now c.requires c.args.key c.args.number c.in-Some.place.now
    (ap (λ ps. slice_get ps c.args.number) (sym c.places-places.ensures) ∙ at)

pub returns-in-None : goal.returns-in-None
returns-in-None c =
    let same = c.places-places.ensures in
    let past : length (places_in c.args.self.now.lists c.args.key) ≤ c.args.number =
    subst (λ ps. length ps ≤ c.args.number) same c.in-None.ensures.lookup.3 in
    c.nth_with.ensures
    ∙ (λ i. slice_get (facts_with c.args.group c.args.key (take_rest c.args.facts.now c.args.self.now.done i))
    (c.args.number - length (same i)))
    ∙ uncovered_at c.args.group c.args.facts.now c.args.self.now c.requires c.args.key c.args.number past
