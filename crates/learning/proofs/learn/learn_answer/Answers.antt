use Rattle.std.proofs.Common.{◌≡◌, refl, sym, ap, ◌∙◌, All, length, subst}
use Rattle.lemmas.proofs.Results.{on_err}
use Rattle.learning.proofs.LearningTupleLemmas.{all_known, none_noted}
use Rattle.learning.specs.Learning.{asked_by}
use Rattle.task_model.specs.Known.{IsIn}
use Rattle.transcript_model.specs.Transcript.{Asked, known_with}
use Rattle.transcript_model.specs.declared.entry.Entry.TheVariants as entry
use Rattle.transcript_model.proofs.NamedObjectLemmas.{fit_stream_at}
use Rattle.learning.proofs.learn.learn_answer.Goals as goal

pub learn_value-requires-clause-may : goal.learn_value-requires-clause-may
learn_value-requires-clause-may c =
    let inputs = c.as_slice-inputs.ensures in
    record {
      fit_domain = c.requires.fit.domain;
      fit_stream = fit_stream_at c.args.task.now c.args.asked.now.instance.now.stream c.args.asked.now.stream.now c.requires.fit
          c.requires.streamed;
      many = ap length inputs ∙ c.requires.many;
      named = subst (All (IsIn c.args.facts.now.known.names)) (sym inputs) c.requires.named;
      constants = c.requires.constants;
    }

pub returns-in_err-learn_tuples-in-Got-clause-noted : goal.returns-in_err-learn_tuples-in-Got-clause-noted
returns-in_err-learn_tuples-in-Got-clause-noted c =
    let a : Asked = asked_by c.args.asked.now in
    on_err c.from_residual.result _ (none_noted c.args.queue.now c.args.queue.now a c.args.entry.now refl)

pub returns-in_err-learn_value-in-Value-clause-noted : goal.returns-in_err-learn_value-in-Value-clause-noted
returns-in_err-learn_value-in-Value-clause-noted c =
    let a : Asked = asked_by c.args.asked.now in
    on_err c.from_residual-in_err-learn_value-in-Value.result _
    (none_noted c.args.queue.now c.args.queue.now a c.args.entry.now refl)

pub returns-in_ok-learn_tuples-in-Got-clause-part : goal.returns-in_ok-learn_tuples-in-Got-clause-part
returns-in_ok-learn_tuples-in-Got-clause-part c =
    let a : Asked = asked_by c.args.asked.now in
    let known = c.args.facts.now.known in
    let is : c.learn_tuples.new.facts.known ≡ known_with c.args.task.now known a c.args.entry.now =
    c.in_ok-learn_tuples-in-Got.ensures.known
    ∙ ap (λ vs. known_with c.args.task.now known a (entry.Got 0 c.in-Got.tuples vs)) c.as_slice.ensures
    ∙ ap (known_with c.args.task.now known a) (sym c.in-Got.is) in
    on_err c.note_tuples.result _ (all_known c.args.task.now known c.learn_tuples.new.facts.known a c.args.entry.now is)
