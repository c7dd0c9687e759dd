use Rattle.std.proofs.Common.{◌≡◌, length, refl, sym, subst, ap, ◌∙◌, arith, count_by, false, ◌≤◌}
use Rattle.std.specs.Prelude.{⊤}
use Rattle.turn_laws.proofs.ModeCountsLemmas.{turn_keeps}
use Rattle.transcript_model.specs.Rounds.{limits_of}
use Rattle.transcript_model.specs.Legal.{IsLegal, asks_of, is_level}
use Rattle.transcript_model.specs.declared.outcome.LimitKind.TheVariants.{Calls}
use Rattle.transcript_model.specs.declared.outcome.Outcome.TheVariants as outcome
use Rattle.turn_run.proofs.AdvancingLemmas.{measure_falls}
use Rattle.round_run.proofs.GoingLemmas.{both, on_first, rests_on, turn_handed, turn_ok, turn_then}
use Rattle.turn_run.proofs.LoopLemmas.{turn_behind, turns_none, turns_ran}
use Rattle.round_run.proofs.LedLemmas.{joined, still_host}
use Rattle.round_run.proofs.QuietLemmas.{turn_memory}
use Rattle.round_run.specs.declared.fault.RunFault.TheVariants.{Memory}
use Rattle.turn_run.proofs.ShortDreamLemmas.{no_dreams, short_after}
use Rattle.turn_run.proofs.TurnsFrontLemmas.{run_between}
use Rattle.turn_run.proofs.TurnsLemmas.{Standing, run_at, run_cut, standing_first, standing_next}
use Rattle.turn_run.proofs.TurnsLevelLemmas.{may_begin}
use Rattle.turn_run.proofs.TurnsOutcomeLemmas.{decided_dues, decided_outcome}
use Rattle.turn_run.specs.Advancing.{HasTurned, RanTurn}
use Rattle.turn_run.specs.Deciding.{IsHeadFor, SeeksPlan}
use Rattle.turn_run.specs.Turns.{HasShortDreams, IsFrontOfRun, IsSettledEnd, IsTurn}
use Rattle.transcript_model.specs.declared.head.Head.{Head}
use Rattle.turn_run.proofs.turn_loop.run_turns.Goals as goal

pub turns-init : goal.turns-init
turns-init g c =
    let desk = c.args.desk.now in
    let s = desk.state in
    let e = c.requires.first.entries in
    let none : length s.asked ≡ 0 = c.requires.rests.works.listens.session.counted ∙ ap asks_of e in
    record {
      goes = turns_none desk (still_host g.H.Host g.met.H.Host.stays c.args.host.now) (g.O.Sink.taken c.args.out.now)
          (g.O.Sink.faults c.args.out.now) _ e c.requires.rests;
      standing = subst (λ k. Standing desk.head desk.task k s.entries) (sym c.requires.fresh.nothing)
          (subst (Standing desk.head desk.task _) (sym e) (standing_first desk.head desk.task));
      short = subst (HasShortDreams desk.head.states) (sym e) (no_dreams desk.head.states);
      fits = record {
        holds = subst (g.M.Turns.holds c.args.mode.now) (sym none) c.requires.fresh.holds;
        room = omega (arith, c.requires.fresh.still, none);
        levels = omega (arith, ap (count_by is_level) e);
      };
      within = omega (arith, none);
    }

pub returns-in_err-decision-clause-goes : goal.returns-in_err-decision-clause-goes
returns-in_err-decision-clause-goes g c =
    let old = c.args.desk.now in
    let desk = c.turns.desk in
    let es = desk.state.entries in
    let i = c.turns.invariant in
    let front = IsFrontOfRun old.head old.task in
    turn_handed old desk _ (λ (_ : Unit {0}). ⊤) _ front front Memory c.from_residual.result c.from_residual.ensures.1
    (turn_then old desk desk g.H.Host.last _ _ _
    (joined g.H.Host g.met.H.Host.chains c.args.host.now c.turns.host c.turns.host) (λ (_ : Unit {0}). ⊤) front (λ t h
    (_ : Unit {0}). ⊤) (λ t h. front)
    (λ (_ : Unit {0}). ⊤) front tt _ i.goes
    (turn_memory desk (still_host g.H.Host g.met.H.Host.stays c.turns.host) (g.O.Sink.taken c.turns.out) (g.O.Sink.faults c.turns.out)
    (λ (_ : Unit {0}). ⊤) front Memory
    i.goes.holds refl
    (λ legal. run_between old.head old.task _ es i.standing
    (on_first (λ t h. IsLegal h.version t es) old desk i.goes.same legal)))
    (λ y some. tt) (λ es legal f. f))
    (λ es legal f. f)

pub decide-requires : goal.decide-requires
decide-requires g c =
    let i = c.turns.invariant in
    let rests = i.goes.holds in
    record {
      may = record {
        of = rests.works.of;
        working = rests.works.listens.working;
        learnt = rests.works.learnt;
        within = subst (λ (h : Head). length c.turns.desk.state.asked ≤ h.calls) (sym i.goes.same.head) i.within;
      };
      seeks = subst (SeeksPlan g.M.PlanSearch.cheapest) (sym i.goes.same.head) c.requires.mode.seeks;
    }

pub turn-requires-clause-mode : goal.turn-requires-clause-mode
turn-requires-clause-mode g c =
    subst (IsHeadFor g.M.Turns.mode g.M.PlanSearch.cheapest) (sym c.turns.invariant.goes.same.head) c.requires.mode

pub turn-requires-clause-turn : goal.turn-requires-clause-turn
turn-requires-clause-turn g c =
    let desk = c.turns.desk in
    let s = desk.state in
    subst (λ ds. IsTurn desk.head desk.task s.entries (length s.asked) ds) (sym c.as_slice.ensures.value)
    (decided_dues desk.head desk.task s.entries (length s.asked) c.in_ok-decision.decision c.in-Asks.dues c.in-Asks.is
    c.in_ok-decision.ensures)

pub returns-in_err-turn-clause-goes : goal.returns-in_err-turn-clause-goes
returns-in_err-turn-clause-goes g c =
    let old = c.args.desk.now in
    let desk = c.turns.desk in
    let s = desk.state in
    let i = c.turns.invariant in
    let kept = g.M.Turns.kept c.turns.mode in
    let next = g.M.Turns.kept c.turn.new.self in
    let fault = c.in_err-turn.field-0.0 in
    turn_handed old c.turn.new.desk _ _ _ _ (IsFrontOfRun old.head old.task) fault c.from_residual-in_err-turn.result
    c.from_residual-in_err-turn.ensures.1
    (turn_behind old desk c.turn.new.desk g.H.Host.last _ _ _
    (joined g.H.Host g.met.H.Host.chains c.args.host.now c.turns.host c.turn.new.host) kept next (g.M.Turns.idle c.turns.mode)
    (g.M.Turns.idle c.turn.new.self)
    (g.M.Turns.holds c.turn.new.self) c.in-Asks.dues.items _ i.goes i.standing
    (on_first (λ t h. IsTurn h t s.entries (length s.asked) c.in-Asks.dues.items) old desk i.goes.same
    (decided_dues desk.head desk.task s.entries (length s.asked) c.in_ok-decision.decision c.in-Asks.dues c.in-Asks.is
    c.in_ok-decision.ensures)) c.in_err-turn.ensures.goes)
    (λ es legal f. f)

pub returns-in-Ends-clause-goes : goal.returns-in-Ends-clause-goes
returns-in-Ends-clause-goes g c =
    let old = c.args.desk.now in
    let desk = c.turns.desk in
    let s = desk.state in
    let i = c.turns.invariant in
    let o = c.in-Ends.outcome in
    let rests = rests_on old desk i.goes.same i.goes.holds in
    let session = rests.works.listens.session in
    let settled = on_first (λ t h. IsSettledEnd h t s.entries o) old desk i.goes.same
    (decided_outcome desk.head desk.task s.entries (length s.asked) c.in_ok-decision.decision o c.in-Ends.is
    c.in_ok-decision.ensures) in
    turn_ok old desk _ (λ (_ : Unit {0}). ⊤) _ (IsFrontOfRun old.head old.task) (IsFrontOfRun old.head old.task) tt o i.goes
    (λ some. turns_ran old desk g.H.Host.last _ _ (λ (_ : Unit {0}). ⊤) tt o c.requires.first.entries i.goes i.fits.levels
    (run_at old.head old.task _ s.entries o (subst (λ v. IsLegal v old.task s.entries) rests.works.of.version session.legal)
    session.none_open i.short settled i.standing))

pub returns-in-Ends-clause-idle : goal.returns-in-Ends-clause-idle
returns-in-Ends-clause-idle g c = λ none. c.turns.invariant.goes.holds.started.none none

pub turns-preserved : goal.turns-preserved
turns-preserved g c =
    let old = c.args.desk.now in
    let desk = c.turns.desk in
    let new = c.turn.new.desk in
    let s = desk.state in
    let i = c.turns.invariant in
    let head = old.head in
    let task = old.task in
    let kept = g.M.Turns.kept c.turns.mode in
    let next = g.M.Turns.kept c.turn.new.self in
    let turn = on_first (λ t h. IsTurn h t s.entries (length s.asked) c.in-Asks.dues.items) old desk i.goes.same
    (decided_dues desk.head desk.task s.entries (length s.asked) c.in_ok-decision.decision c.in-Asks.dues c.in-Asks.is
    c.in_ok-decision.ensures) in
    let all = turn_behind old desk new g.H.Host.last _ _ _
    (joined g.H.Host g.met.H.Host.chains c.args.host.now c.turns.host c.turn.new.host) kept next (g.M.Turns.idle c.turns.mode)
    (g.M.Turns.idle c.turn.new.self)
    (g.M.Turns.holds c.turn.new.self) c.in-Asks.dues.items _ i.goes i.standing turn c.in_ok-turn.ensures.goes in
    let did = subst (HasTurned task head kept next s new.state) c.in-Done.is all.ran.turned in
    let before = rests_on old desk i.goes.same i.goes.holds in
    let after = rests_on old new all.same all.holds in
    record {
      goes = turn_ok old new _ _ (λ (_ : Unit {0}). ⊤) (IsFrontOfRun head task) (IsFrontOfRun head task) _ tt all (λ ran. tt);
      standing = standing_next head task kept next s.entries new.state.entries did.0
          (may_begin head task s.entries (length s.asked) c.in-Asks.dues.items before.works.listens.session.counted turn) turn.needed
          did.1 did.2 i.standing;
      short = short_after head.states s.entries new.state.entries did.0 did.1 i.short did.3;
      fits = all.ran.fits;
      within = omega (
        arith,
        after.works.listens.session.counted,
        ap asks_of did.1,
        turn_keeps (limits_of head) task head.mode kept s.entries did.0 next false did.2
            (omega (arith, i.within, before.works.listens.session.counted)),
      );
    }

pub returns-in-Spent-clause-goes : goal.returns-in-Spent-clause-goes
returns-in-Spent-clause-goes g c =
    let old = c.args.desk.now in
    let desk = c.turns.desk in
    let new = c.turn.new.desk in
    let s = desk.state in
    let i = c.turns.invariant in
    let head = old.head in
    let task = old.task in
    let kept = g.M.Turns.kept c.turns.mode in
    let next = g.M.Turns.kept c.turn.new.self in
    let turn = on_first (λ t h. IsTurn h t s.entries (length s.asked) c.in-Asks.dues.items) old desk i.goes.same
    (decided_dues desk.head desk.task s.entries (length s.asked) c.in_ok-decision.decision c.in-Asks.dues c.in-Asks.is
    c.in_ok-decision.ensures) in
    let all = turn_behind old desk new g.H.Host.last _ _ _
    (joined g.H.Host g.met.H.Host.chains c.args.host.now c.turns.host c.turn.new.host) kept next (g.M.Turns.idle c.turns.mode)
    (g.M.Turns.idle c.turn.new.self)
    (g.M.Turns.holds c.turn.new.self) c.in-Asks.dues.items _ i.goes i.standing turn c.in_ok-turn.ensures.goes in
    let did = subst (HasTurned task head kept next s new.state) c.in-Spent.is all.ran.turned in
    let before = rests_on old desk i.goes.same i.goes.holds in
    let after = rests_on old new all.same all.holds in
    let session = after.works.listens.session in
    let o = outcome.Limit Calls in
    turn_ok old new _ _ _ (IsFrontOfRun head task) (IsFrontOfRun head task) _ o all
    (λ ran. turns_ran old new g.H.Host.last _ _ _ _ o c.requires.first.entries all ran.fits.levels
    (run_cut head task kept did.1 s.entries new.state.entries did.0
    (may_begin head task s.entries (length s.asked) c.in-Asks.dues.items before.works.listens.session.counted turn) turn.needed
    did.2 did.3 (subst (λ v. IsLegal v task new.state.entries) after.works.of.version session.legal) session.none_open
    (short_after head.states s.entries new.state.entries did.0 did.2 i.short did.5) did.4 i.standing))

pub returns-in-Spent-clause-idle : goal.returns-in-Spent-clause-idle
returns-in-Spent-clause-idle g c = λ none. c.in_ok-turn.ensures.goes.holds.started.none none

pub returns-in-Known-clause-goes : goal.returns-in-Known-clause-goes
returns-in-Known-clause-goes g c =
    let old = c.args.desk.now in
    let desk = c.turns.desk in
    let new = c.turn.new.desk in
    let s = desk.state in
    let i = c.turns.invariant in
    let head = old.head in
    let task = old.task in
    let kept = g.M.Turns.kept c.turns.mode in
    let next = g.M.Turns.kept c.turn.new.self in
    let o = c.in-Known.outcome in
    let turn = on_first (λ t h. IsTurn h t s.entries (length s.asked) c.in-Asks.dues.items) old desk i.goes.same
    (decided_dues desk.head desk.task s.entries (length s.asked) c.in_ok-decision.decision c.in-Asks.dues c.in-Asks.is
    c.in_ok-decision.ensures) in
    let all = turn_behind old desk new g.H.Host.last _ _ _
    (joined g.H.Host g.met.H.Host.chains c.args.host.now c.turns.host c.turn.new.host) kept next (g.M.Turns.idle c.turns.mode)
    (g.M.Turns.idle c.turn.new.self)
    (g.M.Turns.holds c.turn.new.self) c.in-Asks.dues.items _ i.goes i.standing turn c.in_ok-turn.ensures.goes in
    let did = subst (HasTurned task head kept next s new.state) c.in-Known.is all.ran.turned in
    let after = rests_on old new all.same all.holds in
    let session = after.works.listens.session in
    turn_ok old new _ _ _ (IsFrontOfRun head task) (IsFrontOfRun head task) _ o all
    (λ ran. turns_ran old new g.H.Host.last _ _ _ _ o c.requires.first.entries all ran.fits.levels
    (run_at head task kept new.state.entries o (subst (λ v. IsLegal v task new.state.entries) after.works.of.version session.legal)
    session.none_open (subst (HasShortDreams head.states) (sym did.0) i.short)
    (subst (λ es. IsSettledEnd head task es o) (sym did.0) did.2) (subst (Standing head task kept) (sym did.0) i.standing)))

pub returns-in-Known-clause-idle : goal.returns-in-Known-clause-idle
returns-in-Known-clause-idle g c = λ none. c.in_ok-turn.ensures.goes.holds.started.none none

-- a turn asked something, or it asked nothing and fewer such turns are left
pub turns-smaller : goal.turns-smaller
turns-smaller g c =
    let old = c.args.desk.now in
    let desk = c.turns.desk in
    let new = c.turn.new.desk in
    let s = desk.state in
    let i = c.turns.invariant in
    let head = old.head in
    let task = old.task in
    let kept = g.M.Turns.kept c.turns.mode in
    let next = g.M.Turns.kept c.turn.new.self in
    let same = both old desk new i.goes.same c.in_ok-turn.ensures.goes.same in
    let ran = on_first (λ t h. RanTurn t h kept next (g.M.Turns.idle c.turns.mode) (g.M.Turns.idle c.turn.new.self)
    (g.M.Turns.holds c.turn.new.self) s new.state c.in_ok-turn.field-0) old desk i.goes.same c.in_ok-turn.ensures.goes.ran in
    let did = subst (HasTurned task head kept next s new.state) c.in-Done.is ran.turned in
    let before = rests_on old desk i.goes.same i.goes.holds in
    let after = rests_on old new same c.in_ok-turn.ensures.goes.holds in
    measure_falls head.calls (length s.asked) (g.M.Turns.idle c.turns.mode) (length new.state.asked) (g.M.Turns.idle c.turn.new.self)
    (ran.falls c.in-Done.is)
    (omega (
      arith,
      after.works.listens.session.counted,
      ap asks_of did.1,
      turn_keeps (limits_of head) task head.mode kept s.entries did.0 next false did.2
          (omega (arith, i.within, before.works.listens.session.counted)),
    )) (omega (arith, before.works.listens.session.calls, before.works.of.calls)) ran.fits.room
