use Rattle.std.proofs.Common.{inl, refl}
use Rattle.pddlstream_app.proofs.AnswersLemmas.{unmade_unfailed}
use Rattle.pddlstream_app.specs.Answering.{command_answering}
use Rattle.command_files.specs.Outside.{seen_of}
use Rattle.pddlstream_app.proofs.answer.answer.Goals as goal

pub returns-in-Err-clause-told : goal.returns-in-Err-clause-told
returns-in-Err-clause-told g c = inl (c.in-Err.ensures.made, refl)

pub returns-in-Err-clause-sink : goal.returns-in-Err-clause-sink
returns-in-Err-clause-sink g c =
    unmade_unfailed (command_answering c.args.words.now)
    (seen_of g.F.Files.told g.F.Files.faults g.F.Files.asked c.args.files.now c.answer_of.new.files) c.in-Err.stop
    c.in-Err.ensures.made _ refl _
