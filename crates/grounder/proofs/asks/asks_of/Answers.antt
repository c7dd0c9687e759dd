use Rattle.std.proofs.Common.{◌≡◌, ◌+◌, ◌++◌, ◌∷◌, [], take, sym, ap, ◌∙◌, subst}
use Rattle.std.specs.List.{list_all}
use Rattle.formula_eval.specs.Readable.{is_readable}
use Rattle.lemmas.proofs.ListTests.{all_at, get_some}
use Rattle.lemmas.proofs.Members.{next_taken}
use Rattle.state_store.proofs.RowsLemmas.{grows_on}
use Rattle.grounder.proofs.AsksLemmas.{asks_grown, asks_next}
use Rattle.grounder.proofs.PartsLemmas.{readable_tops}
use Rattle.grounder.specs.Asks.{AreAsks}
use Rattle.grounder.proofs.asks.asks_of.Goals as goal

pub ask_of-requires-clause-readable : goal.ask_of-requires-clause-readable
ask_of-requires-clause-readable c =
    let domain = c.args.domain.now in
    let parts = c.tops-part-items.result.now in
    all_at (is_readable domain) parts c.loop-part.part-index c.part-item.result
    (ap (list_all (is_readable domain)) c.tops-part-items.ensures ∙ readable_tops domain c.args.condition.now c.requires.readable)
    (get_some parts c.loop-part.part-index c.part-item.result c.loop-part-test.true c.part-item.is)

pub loop-part-preserved : goal.loop-part-preserved
loop-part-preserved c =
    let domain = c.args.domain.now in
    let rows = c.args.rows.now in
    let parts = c.tops-part-items.result.now in
    let index = c.loop-part.part-index in
    let part = c.part-item.result in
    let old = c.loop-part.numbered.keys in
    let new = c.ask_of.new.numbered.keys in
    let asks = c.loop-part.asks.items in
    let ask = c.in_ok-ask_of.field-0 in
    let grows = c.ask_of.ensures.grows in
    let next : take (index + 1) parts ≡ take index parts ++ part ∷ [] =
    next_taken parts index part (get_some parts index part c.loop-part-test.true c.part-item.is) in
    let more : AreAsks domain (take index parts ++ part ∷ []) rows new (asks ++ ask ∷ []) =
    asks_next domain rows new (take index parts) asks part ask
    (asks_grown domain rows old new grows (take index parts) asks c.loop-part.invariant.0) c.in_ok-ask_of.ensures.ask in (
      subst (λ these. AreAsks domain these rows new c.push.new.self.items) (sym next)
          (subst (AreAsks domain (take index parts ++ part ∷ []) rows new) (sym c.in_ok-push.ensures.items) more),
      grows_on c.args.numbered.now.keys old new c.loop-part.invariant.1 grows,
      c.ask_of.ensures.distinct,
    )
