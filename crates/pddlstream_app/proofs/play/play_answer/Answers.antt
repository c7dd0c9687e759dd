use Rattle.std.proofs.Common.{[], ◌∷◌, inl, inr, refl, subst, sym}
use Rattle.round_run.proofs.StoppedLemmas.{handed_err}
use Rattle.command_line.specs.Held.{held_play}
use Rattle.command_line.specs.Words.{play}
use Rattle.pddlstream_app.proofs.AnswersLemmas.{acted_out, asked_reported, ends_reported, reported_in}
use Rattle.pddlstream_app.proofs.NoInputLemmas.{ends_reading}
use Rattle.pddlstream_app.proofs.PlayFilesLemmas.{asks_play, ends_at_play, grid_held}
use Rattle.pddlstream_app.specs.Answering.{IsMade}
use Rattle.command_files.specs.Files.{file_of}
use Rattle.command_files.specs.Outside.{seen_of}
use Rattle.pddlstream_app.specs.Plans.{SaysOfReport, SaysPlay}
use Rattle.command_files.specs.declared.stop.FileRole.TheVariants as role
use Rattle.pddlstream_app.proofs.play.play_answer.Goals as goal

pub returns-in_err-read : goal.returns-in_err-read
returns-in_err-read g c =
    let w = held_play c.args.words.now in
    record {
      made = subst (IsMade (play w) (seen_of g.F.Files.told g.F.Files.faults g.F.Files.asked c.args.files.now
          c.read_reported.new.files)) (sym (handed_err c.from_residual.result c.in_err-read.field-0.0 c.from_residual.ensures.1))
          (inl (ends_reading (play w) _ c.in_err-read.field-0.0
          (ends_reported (file_of role.Grid w.grid ∷ []) c.paths_of-paths.ensures c.as_str.ensures.value
          (c.in_err-read.ensures.stop (file_of role.Grid w.grid ∷ [])))));
    }

pub returns-in_err-drawn : goal.returns-in_err-drawn
returns-in_err-drawn g c =
    let w = held_play c.args.words.now in
    record {
      made = subst (IsMade (play w) (seen_of g.F.Files.told g.F.Files.faults g.F.Files.asked c.args.files.now
          c.read_grid_file.new.files)) (sym (handed_err c.from_residual-in_err-drawn.result c.in_err-drawn.field-0.0 c.from_residual-in_err-drawn.ensures.1))
          (inl (ends_reading (play w) _ c.in_err-drawn.field-0.0
          (ends_at_play w (g.F.Files.told c.args.files.now) _ c.read_reported.ensures.same _ _ _ c.read_reported.ensures.later _ _ _
          c.in_ok-read.read (reported_in c.paths_of-paths.ensures c.as_str.ensures.value c.in_ok-read.ensures.read)
          (asked_reported _ _ c.paths_of-paths.ensures c.as_str.ensures.value c.in_ok-read.ensures.asked) c.as_str-2.result.now
          c.as_str-2.ensures.value c.in_err-drawn.field-0.0 c.in_err-drawn.ensures.stop)));
    }

pub returns-in-Ok : goal.returns-in-Ok
returns-in-Ok g c =
    let w = held_play c.args.words.now in
    record {
      made = (
        acted_out w (g.F.Files.told c.args.files.now) c.in_ok-read.read
            (reported_in c.paths_of-paths.ensures c.as_str.ensures.value c.in_ok-read.ensures.read) c.in_ok-drawn.drawn.grid
            (grid_held w (g.F.Files.told c.args.files.now) _ c.read_reported.ensures.same c.as_str-2.result.now c.as_str-2.ensures.value
            c.in_ok-drawn.drawn c.in_ok-drawn.ensures.grid) c.in-Ok.said.status c.in-Ok.said.text.items
            (subst (λ bytes. SaysOfReport c.args.words.now.states c.in_ok-read.read.task bytes (SaysPlay c.in_ok-drawn.drawn.grid)
            c.in-Ok.said.status c.in-Ok.said.text.items) c.as_slice.ensures.value c.in-Ok.ensures),
        asks_play w (g.F.Files.told c.args.files.now) _ _ _ _ _
            (asked_reported _ _ c.paths_of-paths.ensures c.as_str.ensures.value c.in_ok-read.ensures.asked) c.as_str-2.result.now
            c.as_str-2.ensures.value c.in_ok-drawn.ensures.asked,
      );
    }

pub returns : goal.returns
returns g c =
    let w = held_play c.args.words.now in
    record {
      made = inr (
        refl,
        asks_play w (g.F.Files.told c.args.files.now) _ _ _ _ _
            (asked_reported _ _ c.paths_of-paths.ensures c.as_str.ensures.value c.in_ok-read.ensures.asked) c.as_str-2.result.now
            c.as_str-2.ensures.value c.in_ok-drawn.ensures.asked,
      );
    }
