use Rattle.std.proofs.Common.{rules, ◌∙◌, ap, map, refl, string_bytes, subst, sym, Err, Some}
use Rattle.command_line.proofs.RangesLemmas.{in_range}
use Rattle.command_line.specs.Held.{held_solve}
use Rattle.command_line.specs.Words.{generate, solve}
use Rattle.pddlstream_app.proofs.AnswersLemmas.{answer_asked, answer_asked_before, answer_ungenerated}
use Rattle.pddlstream_app.proofs.LeavesLemmas.{leaves_running, spares_running, spares_same}
use Rattle.pddlstream_app.specs.Answering.{command_answering}
use Rattle.io_world.proofs.TalksLemmas.{extends_none}
use Rattle.command_files.specs.Outside.{outside_of, seen_of, written_of}
use Rattle.pddlstream_app.proofs.AskedLemmas.{made_asked, made_asked_before, solved_asked, solved_asked_before}
use Rattle.pddlstream_app.proofs.StandsLemmas.{stands_answered, stands_early, stands_made, stands_solved, stands_unused, ungenerated}
use Rattle.round_run.specs.Told.{course}
use Rattle.round_run.specs.declared.fault.RunFault.TheVariants as fault
use Rattle.command_files.specs.declared.stop.Stop.TheVariants as stop
use Rattle.run_command.proofs.CountedLemmas.{counted_still}
use Rattle.run_command.specs.Heard.{AreCounted, restarts_for, restarts_in}
use Rattle.pddlstream_app.proofs.command.attempt.Goals as goal

-- ---- a task is to be solved

pub solve-requires-clause-within : goal.solve-requires-clause-within
solve-requires-clause-within g c =
    in_range (map string_bytes c.args.words.now) (solve (held_solve c.in-Solve.words))
    (c.in-Ok.ensures.config ∙ ap Some (sym c.in-Solve.ensures))

pub returns-in-Solve-clause-stands : goal.returns-in-Solve-clause-stands
returns-in-Solve-clause-stands g c =
    stands_solved (map string_bytes c.args.words.now) _ _ _ (held_solve c.in-Solve.words)
    (c.in-Ok.ensures.config ∙ ap Some (sym c.in-Solve.ensures)) c.solve.result c.solve.ensures.ends

pub returns-in-Solve-clause-failed : goal.returns-in-Solve-clause-failed
returns-in-Solve-clause-failed g c =
    subst (λ n. AreCounted n (course g.H.Host c.args.host.now c.solve.new.host) c.solve.result)
    (sym (ap restarts_for (c.in-Ok.ensures.config ∙ ap Some (sym c.in-Solve.ensures)))) c.solve.ensures.failed

pub returns-in-Solve-clause-answers : goal.returns-in-Solve-clause-answers
returns-in-Solve-clause-answers g c =
    leaves_running (map string_bytes c.args.words.now) (solve (held_solve c.in-Solve.words))
    (c.in-Ok.ensures.config ∙ ap Some (sym c.in-Solve.ensures)) refl _

pub returns-in-Solve-clause-leaves : goal.returns-in-Solve-clause-leaves
returns-in-Solve-clause-leaves g c =
    spares_running (map string_bytes c.args.words.now) (solve (held_solve c.in-Solve.words))
    (c.in-Ok.ensures.config ∙ ap Some (sym c.in-Solve.ensures)) refl c.solve.result c.args.host.now c.solve.new.host
    c.solve.ensures.leaves

pub returns-in-Solve-clause-asked : goal.returns-in-Solve-clause-asked
returns-in-Solve-clause-asked g c =
    solved_asked (map string_bytes c.args.words.now) _ (held_solve c.in-Solve.words)
    (c.in-Ok.ensures.config ∙ ap Some (sym c.in-Solve.ensures)) _ _ c.solve.result c.solve.ensures.ends.ends

pub returns-in-Solve-clause-asked_before : goal.returns-in-Solve-clause-asked_before
returns-in-Solve-clause-asked_before g c =
    solved_asked_before (map string_bytes c.args.words.now) _ (held_solve c.in-Solve.words)
    (c.in-Ok.ensures.config ∙ ap Some (sym c.in-Solve.ensures)) _ _ c.solve.result c.solve.ensures.ends.ends

-- ---- the words mean no command, or memory is wanting for them

pub returns-in-Err-Usage-clause-stands : goal.returns-in-Err-Usage-clause-stands
returns-in-Err-Usage-clause-stands g c =
    stands_unused (map string_bytes c.args.words.now)
    (seen_of g.F.Files.told g.F.Files.faults g.F.Files.asked c.args.files.now c.args.files.now) (g.H.Host.spoken c.args.host.now)
    (g.H.Host.log c.args.host.now) _ (g.O.Sink.taken c.args.out.now) (search rules)

pub returns-in-Err-Memory-clause-stands : goal.returns-in-Err-Memory-clause-stands
returns-in-Err-Memory-clause-stands g c =
    stands_early (map string_bytes c.args.words.now)
    (seen_of g.F.Files.told g.F.Files.faults g.F.Files.asked c.args.files.now c.args.files.now) (g.H.Host.spoken c.args.host.now)
    (g.H.Host.log c.args.host.now) _ (g.O.Sink.taken c.args.out.now)

pub returns-in-Err-Usage-clause-failed : goal.returns-in-Err-Usage-clause-failed
returns-in-Err-Usage-clause-failed g c =
    counted_still (stop.Run fault.Generator) (stop.Run fault.Memory) (restarts_in (map string_bytes c.args.words.now)) _
    (Err stop.Usage) (λ is. absurd (cc (is))) (extends_none (g.H.Host.log c.args.host.now))

pub returns-in-Err-Memory-clause-failed : goal.returns-in-Err-Memory-clause-failed
returns-in-Err-Memory-clause-failed g c =
    counted_still (stop.Run fault.Generator) (stop.Run fault.Memory) (restarts_in (map string_bytes c.args.words.now)) _
    (Err (stop.Run fault.Memory)) (λ is. absurd (cc (is))) (extends_none (g.H.Host.log c.args.host.now))

-- ---- the task of a number is to be made and solved

pub make-requires-clause-within : goal.make-requires-clause-within
make-requires-clause-within g c =
    in_range (map string_bytes c.args.words.now) (generate c.in-Make.number)
    (c.in-Ok.ensures.config ∙ ap Some (sym c.in-Make.ensures))

pub returns-in-Make-clause-stands : goal.returns-in-Make-clause-stands
returns-in-Make-clause-stands g c =
    stands_made (map string_bytes c.args.words.now) (outside_of (seen_of g.F.Files.told g.F.Files.faults g.F.Files.asked
    c.args.files.now c.args.files.now) g.H.Host.spoken g.H.Host.log c.args.host.now c.make.new.host) _ _ c.in-Make.number
    (c.in-Ok.ensures.config ∙ ap Some (sym c.in-Make.ensures)) (extends_none (g.F.Files.asked c.args.files.now)) c.make.result
    c.make.ensures.ends

pub returns-in-Make-clause-failed : goal.returns-in-Make-clause-failed
returns-in-Make-clause-failed g c =
    subst (λ n. AreCounted n (course g.H.Host c.args.host.now c.make.new.host) c.make.result)
    (sym (ap restarts_for (c.in-Ok.ensures.config ∙ ap Some (sym c.in-Make.ensures)))) c.make.ensures.failed

pub returns-in-Make-clause-answers : goal.returns-in-Make-clause-answers
returns-in-Make-clause-answers g c =
    leaves_running (map string_bytes c.args.words.now) (generate c.in-Make.number)
    (c.in-Ok.ensures.config ∙ ap Some (sym c.in-Make.ensures)) refl _

pub returns-in-Make-clause-leaves : goal.returns-in-Make-clause-leaves
returns-in-Make-clause-leaves g c =
    spares_running (map string_bytes c.args.words.now) (generate c.in-Make.number)
    (c.in-Ok.ensures.config ∙ ap Some (sym c.in-Make.ensures)) refl c.make.result c.args.host.now c.make.new.host
    c.make.ensures.leaves

pub returns-in-Make-clause-asked : goal.returns-in-Make-clause-asked
returns-in-Make-clause-asked g c =
    made_asked (map string_bytes c.args.words.now) (outside_of (seen_of g.F.Files.told g.F.Files.faults g.F.Files.asked c.args.files.now c.args.files.now) g.H.Host.spoken
    g.H.Host.log c.args.host.now c.make.new.host) c.in-Make.number
    (c.in-Ok.ensures.config ∙ ap Some (sym c.in-Make.ensures)) (extends_none (g.F.Files.asked c.args.files.now)) c.make.result

pub returns-in-Make-clause-asked_before : goal.returns-in-Make-clause-asked_before
returns-in-Make-clause-asked_before g c =
    made_asked_before (map string_bytes c.args.words.now) (outside_of (seen_of g.F.Files.told g.F.Files.faults g.F.Files.asked c.args.files.now c.args.files.now) g.H.Host.spoken
    g.H.Host.log c.args.host.now c.make.new.host) c.in-Make.number
    (c.in-Ok.ensures.config ∙ ap Some (sym c.in-Make.ensures)) (extends_none (g.F.Files.asked c.args.files.now)) _ _ c.make.result c.make.ensures.ends

-- ---- a command is to be answered

pub answer-requires : goal.answer-requires
answer-requires g c = record {
  within = in_range (map string_bytes c.args.words.now) (command_answering c.in-Answer.words)
      (c.in-Ok.ensures.config ∙ ap Some (sym c.in-Answer.ensures));
}

pub returns-in-Answer-clause-stands : goal.returns-in-Answer-clause-stands
returns-in-Answer-clause-stands g c =
    stands_answered (map string_bytes c.args.words.now)
    (seen_of g.F.Files.told g.F.Files.faults g.F.Files.asked c.args.files.now c.answer.new.files) (g.H.Host.spoken c.args.host.now)
    (g.H.Host.log c.args.host.now) _ (written_of g.O.Sink.taken c.args.out.now c.answer.new.out) c.in-Answer.words
    (c.in-Ok.ensures.config ∙ ap Some (sym c.in-Answer.ensures)) c.answer.result c.answer.ensures.told

pub returns-in-Answer-clause-failed : goal.returns-in-Answer-clause-failed
returns-in-Answer-clause-failed g c =
    counted_still (stop.Run fault.Generator) (stop.Run fault.Memory) (restarts_in (map string_bytes c.args.words.now)) _
    c.answer.result
    (ungenerated _ _ (answer_ungenerated (command_answering c.in-Answer.words)
    (seen_of g.F.Files.told g.F.Files.faults g.F.Files.asked c.args.files.now c.answer.new.files)
    (written_of g.O.Sink.taken c.args.out.now c.answer.new.out) c.answer.result c.answer.ensures.told))
    (extends_none (g.H.Host.log c.args.host.now))

pub returns-in-Answer-clause-leaves : goal.returns-in-Answer-clause-leaves
returns-in-Answer-clause-leaves g c =
    spares_same (map string_bytes c.args.words.now) c.answer.result c.args.host.now

pub returns-in-Answer-clause-host : goal.returns-in-Answer-clause-host
returns-in-Answer-clause-host g c =
    answer_ungenerated (command_answering c.in-Answer.words)
    (seen_of g.F.Files.told g.F.Files.faults g.F.Files.asked c.args.files.now c.answer.new.files)
    (written_of g.O.Sink.taken c.args.out.now c.answer.new.out) c.answer.result c.answer.ensures.told _ _

pub returns-in-Answer-clause-asked : goal.returns-in-Answer-clause-asked
returns-in-Answer-clause-asked g c =
    answer_asked (map string_bytes c.args.words.now) (command_answering c.in-Answer.words)
    (c.in-Ok.ensures.config ∙ ap Some (sym c.in-Answer.ensures))
    (seen_of g.F.Files.told g.F.Files.faults g.F.Files.asked c.args.files.now c.answer.new.files) (g.H.Host.spoken c.args.host.now)
    (g.H.Host.log c.args.host.now) (written_of g.O.Sink.taken c.args.out.now c.answer.new.out) c.answer.result c.answer.ensures.told

pub returns-in-Answer-clause-asked_before : goal.returns-in-Answer-clause-asked_before
returns-in-Answer-clause-asked_before g c =
    answer_asked_before (map string_bytes c.args.words.now) (command_answering c.in-Answer.words)
    (c.in-Ok.ensures.config ∙ ap Some (sym c.in-Answer.ensures))
    (seen_of g.F.Files.told g.F.Files.faults g.F.Files.asked c.args.files.now c.answer.new.files) (g.H.Host.spoken c.args.host.now)
    (g.H.Host.log c.args.host.now) (written_of g.O.Sink.taken c.args.out.now c.answer.new.out) c.answer.result c.answer.ensures.told
