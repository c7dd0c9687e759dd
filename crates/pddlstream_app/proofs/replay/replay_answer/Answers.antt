use Rattle.std.proofs.Common.{[], inl, inr, refl, subst, sym}
use Rattle.round_run.proofs.StoppedLemmas.{handed_err}
use Rattle.command_line.specs.Held.{held_replay}
use Rattle.command_line.specs.Words.{replay}
use Rattle.pddlstream_app.proofs.AnswersLemmas.{asked_reported, judged, ends_reported, reported_in}
use Rattle.pddlstream_app.proofs.NoInputLemmas.{ends_reading}
use Rattle.pddlstream_app.specs.Answering.{IsMade}
use Rattle.command_files.specs.Inputs.{files_named}
use Rattle.command_files.specs.Outside.{seen_of}
use Rattle.pddlstream_app.specs.AnswerOf.{IsVerdictFor, SaysVerdict}
use Rattle.pddlstream_app.proofs.replay.replay_answer.Goals as goal

pub returns-in_err-read : goal.returns-in_err-read
returns-in_err-read g c =
    let w = held_replay c.args.words.now in
    record {
      made = subst (IsMade (replay w) (seen_of g.F.Files.told g.F.Files.faults g.F.Files.asked c.args.files.now
          c.read_reported.new.files)) (sym (handed_err c.from_residual.result c.in_err-read.field-0.0 c.from_residual.ensures.1))
          (inl (ends_reading (replay w) _ c.in_err-read.field-0.0
          (ends_reported [] c.paths_of-paths.ensures c.as_str.ensures.value (c.in_err-read.ensures.stop []))));
    }

pub returns-in-Ok : goal.returns-in-Ok
returns-in-Ok g c =
    let w = held_replay c.args.words.now in
    record {
      made = (
        judged w (g.F.Files.told c.args.files.now) c.in_ok-read.read
            (reported_in c.paths_of-paths.ensures c.as_str.ensures.value c.in_ok-read.ensures.read) c.in-Ok.said.status
            c.in-Ok.said.text.items
            (subst (λ bytes. SaysVerdict (IsVerdictFor w.optimal w.states c.in_ok-read.read.task bytes) c.in-Ok.said.status
            c.in-Ok.said.text.items) c.as_slice-bytes.ensures.value c.in-Ok.ensures),
        record {
          all = files_named (replay w);
          are = refl;
          asked = asked_reported _ _ c.paths_of-paths.ensures c.as_str.ensures.value c.in_ok-read.ensures.asked;
        },
      );
    }

pub returns : goal.returns
returns g c =
    let w = held_replay c.args.words.now in
    record {
      made = inr (
        refl,
        record {
          all = files_named (replay w);
          are = refl;
          asked = asked_reported _ _ c.paths_of-paths.ensures c.as_str.ensures.value c.in_ok-read.ensures.asked;
        },
      );
    }
