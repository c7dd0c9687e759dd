use Rattle.std.proofs.Common.{length, inl, inr, refl, subst, ◌++◌, arith}
use Rattle.round_run.proofs.GoingLemmas.{rests_on, turn_handed, turn_ok}
use Rattle.round_run.proofs.TurnLineLemmas.{opens_level}
use Rattle.solve_run.proofs.LevelsLemmas.{asked_level, level_counts, level_short, level_turn}
use Rattle.turn_run.proofs.TurnsLevelLemmas.{batch_asks}
use Rattle.turn_run.proofs.TurnsOutcomeLemmas.{spent_sure}
use Rattle.turn_run.specs.Advancing.{IsFrontOfTurn}
use Rattle.solve_run.specs.Levels.{IsSomeLevel, RanLevel}
use Rattle.turn_run.specs.declared.turns.Turned.TheVariants as turned
use Rattle.turn_laws.specs.Modes.{nothing_kept}
use Rattle.round_run.specs.Rolling.{IsFrontPart}
use Rattle.solve_run.proofs.level_turns.LevelTurnsTurns.turn.Goals as goal

pub ask_behind-requires-clause-may : goal.ask_behind-requires-clause-may
ask_behind-requires-clause-may g c = record {
  mark = refl;
  opens = opens_level c.args.desk.now.head.mode;
  ready = c.requires.turn.ready;
  some = c.requires.turn.some;
  left = c.requires.turn.left;
}

pub returns-in_err-ask_behind : goal.returns-in_err-ask_behind
returns-in_err-ask_behind g c =
    let old = c.args.desk.now in
    let new = c.ask_behind.new.desk in
    let task = old.task in
    let head = old.head in
    let s = old.state in
    let goes = asked_level old new _ c.args.dues.now _ c.requires.rests.works.listens.session.counted c.requires.turn
    c.in_err-ask_behind.ensures.goes in
    record {
      goes = turn_handed old new _ (RanLevel task head c.args.dues.now s new.state) _
          (IsFrontPart s.entries (IsSomeLevel head task s.entries)) (IsFrontOfTurn task head nothing_kept s.entries)
          c.in_err-ask_behind.field-0.0 c.from_residual.result c.from_residual.ensures.1 goes
          (λ es legal f. inr (record {
            part = f.part;
            rest = f.rest;
            is = f.is;
            whole = (nothing_kept, f.whole.0, level_turn head task s.entries (f.part ++ f.rest) f.whole.0 c.requires.mode.is f.whole.1);
          }));
    }

pub returns-in-Done : goal.returns-in-Done
returns-in-Done g c =
    let old = c.args.desk.now in
    let new = c.ask_behind.new.desk in
    let task = old.task in
    let head = old.head in
    let s = old.state in
    let b = c.in_ok-ask_behind.field-0 in
    let goes = asked_level old new _ c.args.dues.now _ c.requires.rests.works.listens.session.counted c.requires.turn
    c.in_ok-ask_behind.ensures.goes in
    record {
      goes = turn_ok old new _ (RanLevel task head c.args.dues.now s new.state) _
          (IsFrontPart s.entries (IsSomeLevel head task s.entries)) _ b turned.Done goes
          (λ first.
          let more = batch_asks task new.state.entries (length s.asked) (length new.state.asked) head.calls (length c.args.dues.now) b
          c.requires.turn.left c.requires.turn.some first.ends in
          let ran = subst (RanLevel task head c.args.dues.now s new.state) c.in-Done.is first in
          record {
            turned = (
              ran.level.0,
              ran.level.1,
              level_turn head task s.entries ran.level.0 _ c.requires.mode.is ran.level.2,
              level_short head task s.entries ran.level.0 _ c.requires.mode.is ran.level.2,
            );
            falls = λ done. inl more;
            fits = record {
              holds = tt;
              room = omega arith;
              levels = omega (arith, level_counts head task s.entries new.state.entries b first.level, c.requires.fits.levels, more);
            };
          });
    }

pub returns-in-CallsSpent : goal.returns-in-CallsSpent
returns-in-CallsSpent g c =
    let old = c.args.desk.now in
    let new = c.ask_behind.new.desk in
    let task = old.task in
    let head = old.head in
    let s = old.state in
    let b = c.in_ok-ask_behind.field-0 in
    let goes = asked_level old new _ c.args.dues.now _ c.requires.rests.works.listens.session.counted c.requires.turn
    c.in_ok-ask_behind.ensures.goes in
    record {
      goes = turn_ok old new _ (RanLevel task head c.args.dues.now s new.state) _
          (IsFrontPart s.entries (IsSomeLevel head task s.entries)) _ b turned.Spent goes
          (λ first.
          let more = batch_asks task new.state.entries (length s.asked) (length new.state.asked) head.calls (length c.args.dues.now) b
          c.requires.turn.left c.requires.turn.some first.ends in
          let ran = subst (RanLevel task head c.args.dues.now s new.state) c.in-CallsSpent.is first in
          let rests = rests_on old new goes.same goes.holds in
          record {
            turned = (
              ran.level.0,
              nothing_kept,
              ran.level.1,
              level_turn head task s.entries ran.level.0 _ c.requires.mode.is ran.level.2,
              spent_sure head task new.state (length s.asked) (length c.args.dues.now) b rests.works.listens.working rests.works.learnt
                  rests.works.listens.session rests.works.of c.in-CallsSpent.is first.ends,
              level_short head task s.entries ran.level.0 _ c.requires.mode.is ran.level.2,
            );
            falls = λ done. inl more;
            fits = record {
              holds = tt;
              room = omega arith;
              levels = omega (arith, level_counts head task s.entries new.state.entries b first.level, c.requires.fits.levels, more);
            };
          });
    }
