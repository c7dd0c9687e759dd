use Rattle.std.proofs.Common.{◌≡◌, ◌∙◌, sym, ap, Some}
use Rattle.std.proofs.lemmas.Bool.{false≢true}
use Rattle.task_model.specs.Known.{Known}
use Rattle.transcript_model.specs.Names.{instance_of}
use Rattle.transcript_model.specs.Transcript.{names_of}
use Rattle.legal_report.proofs.TalksAskLemmas.{passes, must_pass}
use Rattle.legal_report.proofs.right_asks.asked_by.Goals as goal

pub instance_of-requires-clause-distinct : goal.instance_of-requires-clause-distinct
instance_of-requires-clause-distinct c = c.args.knowledge.now.facts.coherent.names

pub returns-then-may_ask : goal.returns-then-may_ask
returns-then-may_ask c = λ version before h.
    let task = c.args.task.now in
    let i = c.in-Some.instance in
    let named : instance_of task (names_of task before) c.args.request.now.call.now ≡ Some i =
    ap (λ (k : Known). instance_of task k.names c.args.request.now.call.now) (sym h.known) ∙ sym c.in_ok-instance.ensures ∙ c.in-Some.is in (
      passes version task before c.args.knowledge.now h c.args.request.now.number c.args.request.now.turn c.args.request.now.call.now i named
          (sym c.may_ask.ensures ∙ c.if-may_ask.true),
      c.if-request-calls.false,
      named,
    )

pub returns-else-may_ask : goal.returns-else-may_ask
returns-else-may_ask c = λ version before h right.
    let task = c.args.task.now in
    let i = c.in-Some.instance in
    let named : instance_of task (names_of task before) c.args.request.now.call.now ≡ Some i =
    ap (λ (k : Known). instance_of task k.names c.args.request.now.call.now) (sym h.known) ∙ sym c.in_ok-instance.ensures ∙ c.in-Some.is in
    false≢true (sym c.if-may_ask.false ∙ c.may_ask.ensures
    ∙ must_pass version task before c.args.knowledge.now h c.args.request.now.number c.args.request.now.turn c.args.request.now.call.now i named right.0)
