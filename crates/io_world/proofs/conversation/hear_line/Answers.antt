use Rattle.std.proofs.Common.{arith, ◌∙◌, take, drop, sym}
use Rattle.std.proofs.lemmas.Slice.{take-put_mid_below}
use Rattle.io_world.proofs.TalksHeardLemmas.{hears_more, hears_kept, heard_behind, room_within, quiet, given_more, given_fault}
use Rattle.io_world.proofs.conversation.hear_line.Goals as goal

pub loop-filled-preserved : goal.loop-filled-preserved
loop-filled-preserved g c =
    let before = c.loop-filled.invariant in
    let more = heard_behind c.args.held c.loop-filled.filled c.in-Ok.count c.loop-filled.room c.read.new.room before.above before.within
    c.in-Ok.ensures.count.1 in
    record {
      above = omega arith;
      within = room_within _ _ _ _ before.within c.in-Ok.ensures.count.1;
      kept = take-put_mid_below _ _ _ _ _ before.above before.within ∙ before.kept;
      running = λ k. c.in-Ok.ensures.running k ∙ before.running k;
      spoken = hears_more _ _ _ _ _ _ _ more before.spoken c.in-Ok.ensures.spoken;
      log = given_more _ _ _ _ _ _ _ _ _ more (quiet _ _ _ _ before.above before.kept (sym c.has_line.ensures ∙ c.if-not-has_line.true))
          before.log c.in-Ok.ensures.log;
      leads = g.met.H.Host.chains _ _ _ _ before.leads c.in-Ok.ensures.leads;
      later = omega (arith, c.in-Ok.ensures.cause.later);
    }

pub returns-in-Err-clause-part : goal.returns-in-Err-clause-part
returns-in-Err-clause-part g c =
    let before = c.loop-filled.invariant in
    let line = quiet _ _ _ _ before.above before.kept (sym c.has_line.ensures ∙ c.if-not-has_line.true) in
    (drop c.args.held (take c.loop-filled.filled c.loop-filled.room), line, hears_kept _ _ _ _ _ before.spoken c.in-Err.ensures.spoken)

pub returns-in-Err-clause-log_part : goal.returns-in-Err-clause-log_part
returns-in-Err-clause-log_part g c =
    let before = c.loop-filled.invariant in
    let line = quiet _ _ _ _ before.above before.kept (sym c.has_line.ensures ∙ c.if-not-has_line.true) in
    given_fault _ _ _ _ _ _ _ _ line before.log c.in-Err.ensures.log
