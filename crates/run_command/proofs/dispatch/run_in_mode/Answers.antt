use Rattle.std.proofs.Common.{sym, ◌∙◌}
use Rattle.run_command.proofs.dispatch.run_in_mode.Goals as goal

pub incremental-requires : goal.incremental-requires
incremental-requires g c =
    let may = c.requires.may in
    let is = c.in-Incremental.is in
    record {
      may = record {
        fit = may.fit;
        runnable = may.runnable;
        is = is;
        alone = λ asked. sym is ∙ may.alone asked;
        idle = may.idle;
      };
    }

pub focused-requires : goal.focused-requires
focused-requires g c =
    let may = c.requires.may in
    let is = c.in-Focused.is in
    record {
      may = record {
        fit = may.fit;
        runnable = may.runnable;
        is = is;
        alone = λ asked. sym is ∙ may.alone asked;
        idle = may.idle;
      };
    }

pub binding-requires : goal.binding-requires
binding-requires g c =
    let may = c.requires.may in
    let is = c.in-Binding.is in
    record {
      may = record {
        fit = may.fit;
        runnable = may.runnable;
        is = is;
        alone = λ asked. sym is ∙ may.alone asked;
        idle = may.idle;
      };
    }

pub adaptive-requires : goal.adaptive-requires
adaptive-requires g c =
    let may = c.requires.may in
    let is = c.in-Adaptive.is in
    record {
      may = record {
        fit = may.fit;
        runnable = may.runnable;
        is = is;
        alone = λ asked. sym is ∙ may.alone asked;
        idle = may.idle;
      };
    }
