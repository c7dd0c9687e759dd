use Rattle.std.proofs.Common.{◌&&◌, sym, ap, ◌∙◌, map}
use Rattle.task_model.specs.Fit as fit
use Rattle.lemmas.proofs.ListTests.{all_mapped}
use Rattle.fit_check.proofs.names.are_named.Goals as goal
use Rattle.fit_check.specs.Tests.{are_different}

pub returns-then-have_names : goal.returns-then-have_names
returns-then-have_names g c =
    c.have_different_names.ensures
    ∙ ap (λ b. b && are_different (map g.T.Named.named c.args.items.now))
    (sym (all_mapped g.T.Named.named fit.is_name c.args.items.now ∙ sym c.have_names.ensures ∙ c.if-have_names.true))

pub returns-else-have_names : goal.returns-else-have_names
returns-else-have_names g c =
    c.if-have_names.false
    ∙ ap (λ b. b && are_different (map g.T.Named.named c.args.items.now))
    (sym (all_mapped g.T.Named.named fit.is_name c.args.items.now ∙ sym c.have_names.ensures ∙ c.if-have_names.false))
