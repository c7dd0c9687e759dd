use Rattle.std.proofs.Common.{Err, inr, ap, map, refl, string_bytes, subst, sym, ◌∙◌}
use Rattle.pddlstream_app.proofs.AskedLemmas.{asked_closed, asked_completed, some_before}
use Rattle.pddlstream_app.proofs.EndedLemmas.{caused_ended, completed_ended, ended_other}
use Rattle.pddlstream_app.proofs.HeadlineLemmas.{no_plan_printed, plan_printed}
use Rattle.pddlstream_app.proofs.CausesLemmas.{other_stop, write_stop}
use Rattle.pddlstream_app.proofs.PlayLemmas.{plays_safely}
use Rattle.pddlstream_app.proofs.RunsLemmas.{before_last}
use Rattle.round_run.proofs.StoppedLemmas.{same_err}
use Rattle.round_run.specs.declared.fault.RunFault.TheVariants as fault
use Rattle.command_files.specs.declared.stop.Stop.TheVariants as stop
use Rattle.pddlstream_app.proofs.StandsLemmas.{closed_generator, closed_unhindered, completes_by, completes_lives, ends_cut, ends_last, ends_ok, lacked_closed}
use Rattle.pddlstream_app.proofs.LeavesLemmas.{leaves_closed, leaves_completed, read_cause}
use Rattle.pddlstream_app.proofs.CompleteLemmas.{completes_closed, completes_cut, completes_done, sink_whole}
use Rattle.pddlstream_app.specs.Asked.{AsksFiles}
use Rattle.pddlstream_app.specs.Runs.{SparesHost}
use Rattle.command_files.specs.declared.status.Status.TheVariants.{GeneratorFault, WriteFault}
use Rattle.pddlstream_app.proofs.command.run.Goals as goal

pub returns-in-Ok-clause-ends : goal.returns-in-Ok-clause-ends
returns-in-Ok-clause-ends g c = ends_ok _ _ _ _ c.in-Ok.status c.in-Ok.ensures.stands

pub returns-then-is_write-clause-ends : goal.returns-then-is_write-clause-ends
returns-then-is_write-clause-ends g c =
    ends_cut _ _ _ _ c.in-Err.stop (sym c.is_write.ensures ∙ c.if-is_write.true) c.in-Err.ensures.stands

pub returns-else-is_write-clause-ends : goal.returns-else-is_write-clause-ends
returns-else-is_write-clause-ends g c =
    ends_last _ _ _ _ _ _ c.in-Err.stop c.close.result (sym c.is_write.ensures ∙ c.if-is_write.false) c.in-Err.ensures.stands
    c.close.ensures.closed

pub returns-in-Ok-clause-plan : goal.returns-in-Ok-clause-plan
returns-in-Ok-clause-plan g c =
    plan_printed _ _ _ _ c.in-Ok.status (returns-in-Ok-clause-ends g c).ends

pub returns-else-is_write-clause-plan : goal.returns-else-is_write-clause-plan
returns-else-is_write-clause-plan g c =
    plan_printed _ _ _ _ c.close.result (returns-else-is_write-clause-ends g c).ends

pub returns-then-is_write-clause-plan : goal.returns-then-is_write-clause-plan
returns-then-is_write-clause-plan g c = λ e. absurd (cc)

pub returns-in-Ok-clause-no_plan : goal.returns-in-Ok-clause-no_plan
returns-in-Ok-clause-no_plan g c =
    no_plan_printed _ _ _ _ c.in-Ok.status (returns-in-Ok-clause-ends g c).ends

pub returns-else-is_write-clause-no_plan : goal.returns-else-is_write-clause-no_plan
returns-else-is_write-clause-no_plan g c =
    no_plan_printed _ _ _ _ c.close.result (returns-else-is_write-clause-ends g c).ends

pub returns-then-is_write-clause-no_plan : goal.returns-then-is_write-clause-no_plan
returns-then-is_write-clause-no_plan g c = λ e. absurd (cc)

pub returns-in-Ok-clause-safe : goal.returns-in-Ok-clause-safe
returns-in-Ok-clause-safe g c =
    plays_safely _ _ _ _ c.in-Ok.status (returns-in-Ok-clause-ends g c).ends

pub returns-else-is_write-clause-safe : goal.returns-else-is_write-clause-safe
returns-else-is_write-clause-safe g c =
    plays_safely _ _ _ _ c.close.result (returns-else-is_write-clause-ends g c).ends

pub returns-then-is_write-clause-safe : goal.returns-then-is_write-clause-safe
returns-then-is_write-clause-safe g c = λ files asked told meant has e. absurd (cc)

pub returns-else-is_write-clause-asked : goal.returns-else-is_write-clause-asked
returns-else-is_write-clause-asked g c =
    asked_closed _ _ _ _ _ c.in-Err.stop c.close.result c.in-Err.ensures.stands.stopped
    (sym c.is_write.ensures ∙ c.if-is_write.false) c.close.ensures.closed c.in-Err.ensures.asked_before

pub returns-in-Ok-clause-asked : goal.returns-in-Ok-clause-asked
returns-in-Ok-clause-asked g c =
    asked_completed _ _ _ _ c.in-Ok.status c.in-Ok.ensures.stands.completed c.in-Ok.ensures.asked

pub returns-then-is_write-clause-asked : goal.returns-then-is_write-clause-asked
returns-then-is_write-clause-asked g c =
    some_before _ _ c.in-Err.stop c.in-Err.ensures.asked_before

pub returns-in-Ok-clause-complete : goal.returns-in-Ok-clause-complete
returns-in-Ok-clause-complete g c =
    completes_by c.in-Ok.ensures.stands c.in-Ok.status (λ is. absurd (cc (is)))
    (completes_done c.in-Ok.status c.in-Ok.ensures.stands.completed)
    (completes_lives c.in-Ok.status c.in-Ok.ensures.stands)

pub returns-then-is_write-clause-complete : goal.returns-then-is_write-clause-complete
returns-then-is_write-clause-complete g c =
    let rose = c.attempt.ensures.sink.cause
    (c.in-Err.is ∙ ap Err (write_stop c.in-Err.stop (sym c.is_write.ensures ∙ c.if-is_write.true))) in
    completes_by c.in-Err.ensures.stands WriteFault (λ is. inr refl) (completes_cut WriteFault rose)
    (λ answers well some given. absurd (well.written rose))

pub returns-else-is_write-clause-complete : goal.returns-else-is_write-clause-complete
returns-else-is_write-clause-complete g c =
    let whole = sym c.is_write.ensures ∙ c.if-is_write.false in
    let closed = completes_closed _ _ c.in-Err.stop c.close.result
    (before_last _ _ _ c.in-Err.stop c.in-Err.ensures.stands.stopped whole)
    (λ e. (c.attempt.ensures.failed.many (c.in-Err.is ∙ ap Err e)).rose)
    (λ e. sink_whole _ (g.O.Sink.faults c.args.out.now) (g.O.Sink.faults c.attempt.new.out) (g.O.Sink.faults c.close.new.out)
    c.in-Err.stop c.attempt.ensures.sink.later (other_stop c.in-Err.stop whole) (c.close.ensures.cause e)) c.close.ensures.closed in
    completes_by c.in-Err.ensures.stands c.close.result
    (lacked_closed c.in-Err.stop _ c.close.result c.close.ensures.closed) closed.0
    (λ answers well some given. closed.1 answers well)

pub returns-in-Ok-clause-many : goal.returns-in-Ok-clause-many
returns-in-Ok-clause-many g c = λ is.
    absurd (ended_other c.in-Ok.status GeneratorFault (completed_ended _ _ _ _ c.in-Ok.status c.in-Ok.ensures.stands.completed)
    refl is)

pub returns-then-is_write-clause-many : goal.returns-then-is_write-clause-many
returns-then-is_write-clause-many g c = λ is. absurd (cc (is))

pub returns-else-is_write-clause-many : goal.returns-else-is_write-clause-many
returns-else-is_write-clause-many g c = λ is.
    c.attempt.ensures.failed.many
    (c.in-Err.is ∙ ap Err (closed_generator c.in-Err.stop _ c.close.result c.close.ensures.closed is))

pub returns-in-Ok-clause-made_good : goal.returns-in-Ok-clause-made_good
returns-in-Ok-clause-made_good g c = λ by.
    c.attempt.ensures.failed.few (λ is. absurd (cc (is, c.in-Ok.is))) (λ is. absurd (cc (is, c.in-Ok.is)))

pub returns-then-is_write-clause-made_good : goal.returns-then-is_write-clause-made_good
returns-then-is_write-clause-made_good g c = λ by. absurd by

pub returns-else-is_write-clause-made_good : goal.returns-else-is_write-clause-made_good
returns-else-is_write-clause-made_good g c = λ by.
    c.attempt.ensures.failed.few
    (λ is. closed_unhindered c.in-Err.stop (stop.Run fault.Generator) _ c.close.result c.close.ensures.closed by (λ no. no)
    (same_err (sym c.in-Err.is ∙ is)))
    (λ is. closed_unhindered c.in-Err.stop (stop.Run fault.Memory) _ c.close.result c.close.ensures.closed by (λ no. no)
    (same_err (sym c.in-Err.is ∙ is)))

pub returns-in-Ok-clause-leaves : goal.returns-in-Ok-clause-leaves
returns-in-Ok-clause-leaves g c =
    leaves_completed (map string_bytes c.args.words.now) c.args.host.now c.attempt.new.host _ _ _ c.in-Ok.status
    (subst (λ r. SparesHost (map string_bytes c.args.words.now) r c.args.host.now c.attempt.new.host) c.in-Ok.is
    c.attempt.ensures.leaves) c.in-Ok.ensures.stands.completed

pub returns-else-is_write-clause-leaves : goal.returns-else-is_write-clause-leaves
returns-else-is_write-clause-leaves g c =
    leaves_closed (map string_bytes c.args.words.now) c.args.host.now c.attempt.new.host c.in-Err.stop _ c.close.result
    (subst (λ r. SparesHost (map string_bytes c.args.words.now) r c.args.host.now c.attempt.new.host) c.in-Err.is
    c.attempt.ensures.leaves) c.close.ensures.closed

pub returns-then-is_write-clause-leaves : goal.returns-then-is_write-clause-leaves
returns-then-is_write-clause-leaves g c = record {
  answer = c.attempt.ensures.leaves.answer;
  usage = c.attempt.ensures.leaves.usage;
  input = λ b. absurd b;
}

pub returns-in-Ok-clause-read : goal.returns-in-Ok-clause-read
returns-in-Ok-clause-read g c = λ is.
    read_cause _ _ _ (subst (AsksFiles _ _ _) is (returns-in-Ok-clause-asked g c))

pub returns-else-is_write-clause-read : goal.returns-else-is_write-clause-read
returns-else-is_write-clause-read g c = λ is.
    read_cause _ _ _ (subst (AsksFiles _ _ _) is (returns-else-is_write-clause-asked g c))

pub returns-then-is_write-clause-read : goal.returns-then-is_write-clause-read
returns-then-is_write-clause-read g c = λ e. absurd (cc)

pub returns-in-Ok-clause-host : goal.returns-in-Ok-clause-host
returns-in-Ok-clause-host g c =
    caused_ended c.in-Ok.status GeneratorFault (completed_ended _ _ _ _ c.in-Ok.status c.in-Ok.ensures.stands.completed) refl _ _ _
    c.attempt.ensures.host.later

pub returns-then-is_write-clause-sink : goal.returns-then-is_write-clause-sink
returns-then-is_write-clause-sink g c = record {
  later = c.attempt.ensures.sink.later;
  cause = λ is.
      c.attempt.ensures.sink.cause (c.in-Err.is ∙ ap Err (write_stop c.in-Err.stop (sym c.is_write.ensures ∙ c.if-is_write.true)));
}

pub returns-in-Ok-clause-sink : goal.returns-in-Ok-clause-sink
returns-in-Ok-clause-sink g c =
    caused_ended c.in-Ok.status WriteFault (completed_ended _ _ _ _ c.in-Ok.status c.in-Ok.ensures.stands.completed) refl _ _ _
    c.attempt.ensures.sink.later
