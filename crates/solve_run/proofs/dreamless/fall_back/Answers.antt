use Rattle.std.proofs.Common.{◌≡◌, ◌∙◌, ◌∷◌, [], true, false, sym, subst, refl}
use Rattle.transcript_model.specs.declared.entry.Entry.TheVariants as entry
use Rattle.round_run.proofs.LedLemmas.{still_host}
use Rattle.round_run.proofs.QuietLemmas.{turn_alone}
use Rattle.round_run.proofs.TurnLineLemmas.{opens_level}
use Rattle.round_run.proofs.GoingLemmas.{turn_as, turn_handed, turn_ok}
use Rattle.solve_run.proofs.LevelsLemmas.{asked_level, falls_level, falls_reset, front_fallback, front_reset}
use Rattle.round_run.specs.Desk.{IsFrontOfMark}
use Rattle.turn_run.specs.Turns.{cut_by}
use Rattle.solve_run.specs.Levels.{FallsBack, IsFrontOfFallback, IsSomeLevel, RanFallback, RanLevel}
use Rattle.round_run.specs.TurnLines.{IsMarked}
use Rattle.round_run.specs.Rolling.{IsFrontPart}
use Rattle.round_run.specs.declared.ending.Batch.TheVariants.{Done}
use Rattle.solve_run.proofs.dreamless.fall_back.Goals as goal

pub returns-then-is_tried : goal.returns-then-is_tried
returns-then-is_tried g c =
    let old = c.args.desk.now in
    let new = c.mark.new.self in
    let goes = turn_alone _ _ (still_host g.H.Host g.met.H.Host.stays c.args.host.now) _ _ _ _ _ _ _
    (c.in_ok-mark.ensures.goes g.H.Host.last _ c.requires.rests) in
    record {
      goes = turn_ok old new _ (λ _. IsMarked entry.Reset old.state new.state)
          (RanFallback old.task old.head c.args.is_tried c.args.dues.now old.state new.state) (IsFrontOfMark old.state.entries entry.Reset)
          (IsFrontOfFallback old.head old.task c.args.is_tried old.state.entries) c.in_ok-mark.field-0 Done goes
          (λ marked. record {
            more = entry.Reset ∷ [];
            pushed = marked.entries;
            fallback = subst (λ b. FallsBack old.head old.task b old.state.entries (entry.Reset ∷ []) false) (sym c.if-is_tried.true)
                (falls_reset old.head old.task old.state.entries);
            reset = λ tried. (refl, marked.asked);
            level = λ none. absurd (let bad : true ≡ false = sym c.if-is_tried.true ∙ none in cc);
          });
    }

pub returns-in_err-mark : goal.returns-in_err-mark
returns-in_err-mark g c =
    let old = c.args.desk.now in
    let new = c.mark.new.self in
    record {
      goes = turn_handed old new _ (λ _. IsMarked entry.Reset old.state new.state)
          (RanFallback old.task old.head c.args.is_tried c.args.dues.now old.state new.state) (IsFrontOfMark old.state.entries entry.Reset)
          (IsFrontOfFallback old.head old.task c.args.is_tried old.state.entries) c.in_err-mark.field-0.0 c.from_residual.result
          c.from_residual.ensures.1 (turn_alone _ _ (still_host g.H.Host g.met.H.Host.stays c.args.host.now) _ _ _ _ _ _ _
          (c.in_err-mark.ensures.goes g.H.Host.last _ c.requires.rests))
          (λ es legal there. subst (λ b. IsFrontOfFallback old.head old.task b old.state.entries es) (sym c.if-is_tried.true)
          (front_reset old.head old.task old.state.entries es there));
    }

pub ask_behind-requires-clause-may : goal.ask_behind-requires-clause-may
ask_behind-requires-clause-may g c = record {
  mark = refl;
  opens = opens_level c.args.desk.now.head.mode;
  ready = c.requires.turn.ready;
  some = c.requires.turn.some;
  left = c.requires.turn.left;
}

pub returns : goal.returns
returns g c =
    let old = c.args.desk.now in
    let new = c.ask_behind.new.desk in
    let task = old.task in
    let head = old.head in
    let s = old.state in
    let dues = c.args.dues.now in
    record {
      goes = turn_as old new _ (RanLevel task head dues s new.state) (RanFallback task head c.args.is_tried dues s new.state)
          (IsFrontPart s.entries (IsSomeLevel head task s.entries)) (IsFrontOfFallback head task c.args.is_tried s.entries)
          c.ask_behind.result
          (asked_level old new _ dues _ c.requires.rests.works.listens.session.counted c.requires.turn c.ask_behind.ensures.goes)
          (λ b ran. record {
            more = ran.level.0;
            pushed = ran.level.1;
            fallback = subst (λ t. FallsBack head task t s.entries ran.level.0 (cut_by b)) (sym c.if-is_tried.false)
                (falls_level head task s.entries ran.level.0 (cut_by b) ran.level.2);
            reset = λ tried. absurd (let bad : true ≡ false = sym tried ∙ c.if-is_tried.false in cc);
            level = λ none. ran.ends;
          })
          (λ es legal f. subst (λ t. IsFrontOfFallback head task t s.entries es) (sym c.if-is_tried.false)
          (front_fallback head task s.entries es f));
    }
