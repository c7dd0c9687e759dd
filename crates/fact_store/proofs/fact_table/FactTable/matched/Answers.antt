use Rattle.std.proofs.Common.{rules, ◌≡◌, ◌∙◌, Some, ap, sym, slice_get}
use Rattle.task_model.proofs.KnownLemmas.{matched_is}
use Rattle.task_model.specs.Known.{atom_fact, matches_of}
use Rattle.fact_store.proofs.fact_table.FactTable.matched.Goals as goal
use Rattle.fact_store.proofs.fact_table.FactTable.matched.Goals.{in-Some+in_ok-fact-in-Some, in-None+in_ok-fact-in-None}

pub returns : goal.returns
returns c =
    let facts = c.args.self.now in
    let pred = c.args.pred in
    let fact = c.match-get.fact.now in
    let found : slice_get (matches_of facts pred c.args.place c.args.object) c.args.number ≡ Some fact =
    elim c.match-get.branch [
      | in-Some+in_ok-fact-in-Some w ↦ search rules
      | in-None+in_ok-fact-in-None w ↦ search rules
    ] in
    ap (λ args. Some (atom_fact pred args)) c.args-2.ensures
    ∙ ap Some (sym (matched_is facts pred c.args.place c.args.object c.args.number fact found)) ∙ sym found
