use Rattle.std.proofs.Common.{◌≡◌, arith, inl, refl, subst}
use Rattle.std.specs.Prelude.{⊤}
use Rattle.round_run.proofs.LedLemmas.{still_host}
use Rattle.solve_run.specs.Skeletons.{kept_of}
use Rattle.solve_run.proofs.PartLemmas.{turn_still}
use Rattle.solve_run.specs.NextDreams.{IsNextDream}
use Rattle.turn_run.specs.Advancing.{IsFrontOfTurn}
use Rattle.turn_run.specs.declared.turns.Turned.TheVariants as turned
use Rattle.round_run.proofs.GoingLemmas.{turn_handed}
use Rattle.round_run.proofs.QuietLemmas.{turn_memory}
use Rattle.round_run.specs.declared.fault.RunFault.TheVariants.{Memory}
use Rattle.solve_run.proofs.adaptive_mode.AdaptiveTurnsTurns.turn.Goals as goal

pub next_dream-requires : goal.next_dream-requires
next_dream-requires g c =
    let works = c.requires.rests.works in
    record {
      may = record {
        of = works.of;
        working = works.listens.working;
        learnt = works.learnt;
        within = omega (arith, c.requires.turn.left);
      };
      any = c.requires.mode.seeks.is;
    }

pub returns-in_err-dreamt : goal.returns-in_err-dreamt
returns-in_err-dreamt g c =
    let desk = c.args.desk.now in
    let front = IsFrontOfTurn desk.task desk.head (kept_of c.args.self.now.skeletons.items c.args.self.now.tried) desk.state.entries in
    record {
      goes = turn_handed desk desk _ (λ (_ : Unit {0}). ⊤) _ front front Memory c.from_residual.result c.from_residual.ensures.1
          (turn_memory desk (still_host g.H.Host g.met.H.Host.stays c.args.host.now) (g.O.Sink.taken c.args.out.now)
          (g.O.Sink.faults c.args.out.now) (λ (_ : Unit {0}). ⊤) front
          Memory c.requires.rests refl (λ legal. inl refl))
          (λ es legal f. f);
    }

pub returns-in-Known : goal.returns-in-Known
returns-in-Known g c =
    let desk = c.args.desk.now in
    let s = desk.state in
    let o = c.in-Known.outcome in
    record {
      goes = turn_still desk (still_host g.H.Host g.met.H.Host.stays c.args.host.now) (g.O.Sink.taken c.args.out.now)
          (g.O.Sink.faults c.args.out.now) _ _ (turned.Known o)
          c.requires.rests (record {
            turned = (
              refl,
              refl,
              subst (IsNextDream desk.head desk.task s.entries c.args.self.now.tried) c.in-Known.is c.in_ok-dreamt.ensures,
            );
            falls = λ done. absurd (let bad : turned.Known o ≡ turned.Done = done in cc);
            fits = c.requires.fits;
          });
    }

pub with_new-requires-clause-keeps : goal.with_new-requires-clause-keeps
with_new-requires-clause-keeps g c = record { mode = c.requires.mode.is; kept = c.requires.fits.holds }

pub with_new-requires-clause-dream : goal.with_new-requires-clause-dream
with_new-requires-clause-dream g c =
    let desk = c.args.desk.now in
    subst (IsNextDream desk.head desk.task desk.state.entries c.args.self.now.tried) c.in-Lined.is c.in_ok-dreamt.ensures

pub without_new-requires-clause-keeps : goal.without_new-requires-clause-keeps
without_new-requires-clause-keeps g c = record { mode = c.requires.mode.is; kept = c.requires.fits.holds }

pub without_new-requires-clause-none : goal.without_new-requires-clause-none
without_new-requires-clause-none g c =
    let desk = c.args.desk.now in
    subst (IsNextDream desk.head desk.task desk.state.entries c.args.self.now.tried) c.in-Empty.is c.in_ok-dreamt.ensures
