use Rattle.std.proofs.Common.{◌∙◌, sym, ap, subst, Some}
use Rattle.sexpr_text.specs.Trees.{tree, trees}
use Rattle.domain_reader.proofs.DomainsLeastLemmas.{of_text}
use Rattle.domain_reader.specs.Domains.{AnswersNames}
use Rattle.domain_reader.specs.Tables.{vocabulary_in}
use Rattle.domain_reader.proofs.reader.read_by.Goals as goal

pub returns-in-Some : goal.returns-in-Some
returns-in-Some c =
    of_text (tree c.args.text.now) (trees c.body_of.result.now) c.args.names.now (Some c.in-Some.fault) c.body_of.ensures
    (c.requires ∙ ap vocabulary_in (sym c.body_of.ensures))
    (subst (AnswersNames c.args.names.now (trees c.body_of.result.now)) c.in-Some.is c.in_ok-fault.ensures)
