use Rattle.std.proofs.Common.{◌≡◌, ◌∙◌, sym, subst, Ok, None}
use Rattle.sexpr_text.specs.Trees.{tree}
use Rattle.form_reader.specs.declared.items.TextKind.TheVariants.{Domain}
use Rattle.form_reader.specs.Faults.{least_fault}
use Rattle.form_reader.specs.Texts.{form_faults}
use Rattle.domain_reader.specs.Domains.{DomainReadsNamed}
use Rattle.domain_reader.proofs.DomainsLeastLemmas.{blamed, read_whole}
use Rattle.domain_reader.proofs.reader.read.Goals as goal

pub returns-in-Ok : goal.returns-in-Ok
returns-in-Ok c =
    let none : least_fault (form_faults Domain (tree c.args.text.now)) ≡ None = sym c.check_form.ensures ∙ c.in_default.is in
    let both : DomainReadsNamed (tree c.args.text.now) (Ok c.in-Ok.domain) =
    subst (DomainReadsNamed (tree c.args.text.now)) c.in-Ok.is c.in_ok-domain.ensures in
    read_whole (tree c.args.text.now) c.in-Ok.domain none both.0 both.1

pub returns-in-Err : goal.returns-in-Err
returns-in-Err c =
    let none : least_fault (form_faults Domain (tree c.args.text.now)) ≡ None = sym c.check_form.ensures ∙ c.in_default.is in
    blamed (tree c.args.text.now) c.in-Err.field-0 none (subst (DomainReadsNamed (tree c.args.text.now)) c.in-Err.is c.in_ok-domain.ensures)
