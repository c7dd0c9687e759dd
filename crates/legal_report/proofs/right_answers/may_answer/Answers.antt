use Rattle.std.proofs.Common.{◌∙◌, sym}
use Rattle.legal_report.proofs.TalksAnswerLemmas.{may_be_given, must_be_given}
use Rattle.legal_report.proofs.right_answers.may_answer.Goals as goal

pub returns : goal.returns
returns c = λ version before h formed is.
    let task = c.args.task.now in
    let e = c.args.entry.now in (
      λ passed. may_be_given version task before c.args.knowledge.now h c.args.number e formed is (sym c.is_given.ensures ∙ passed),
      λ may. c.is_given.ensures ∙ must_be_given version task before c.args.knowledge.now h c.args.number e is may,
    )
