use Rattle.std.proofs.Common.{◌≡◌, true, sym, ◌∙◌, ap}
use Rattle.std.proofs.lemmas.Bool.{false≢true}
use Rattle.sexpr_text.specs.Trees.{trees}
use Rattle.form_reader.specs.declared.groups.Spot.TheVariants.{Named, Typed}
use Rattle.form_reader.specs.Faults.{first}
use Rattle.form_reader.specs.Items.{functions_faults}
use Rattle.form_reader.proofs.ItemsLemmas.{functions_behind}
use Rattle.form_reader.proofs.items.check_functions.Goals as goal

pub declarations-preserved : goal.declarations-preserved
declarations-preserved c =
    let other : c.declarations.spot ≡ Typed → ⊥ = λ is.
    let yes : c.eq.result ≡ true = rw is at c.eq.ensures in false≢true (sym c.if-eq.false ∙ yes) in
    c.declarations.invariant
    ∙ ap (λ ts. first c.declarations.found (functions_faults c.args.place c.declarations.spot ts)) c.in-List.ensures
    ∙ functions_behind c.declarations.spot c.args.place c.in-List.at (trees c.in-List.items.now)
    (trees c.in-List.rest.now) c.declarations.found other
    ∙ ap (λ f. first f (functions_faults c.args.place Named (trees c.in-List.rest.now)))
    (sym c.check_declaration-found.ensures)
