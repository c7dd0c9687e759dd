use Rattle.std.proofs.Common.{◌≡◌, ◌∙◌, ◌++◌, ◌∷◌, [], ap, arith, inl, length, refl, subst, sym}
use Rattle.std.proofs.lemmas.List.{length-map}
use Rattle.std.specs.Prelude.{⊤, false}
use Rattle.round_run.proofs.LedLemmas.{still_host}
use Rattle.solve_run.proofs.AdaptiveLemmas.{new_front, ran_new}
use Rattle.solve_run.proofs.SkeletonLemmas.{new_picked}
use Rattle.solve_run.specs.Adaptive.{RanAdaptive}
use Rattle.solve_run.specs.Skeletons.{IsFrontBehindPick, RanBehindPick, kept_of}
use Rattle.solve_run.proofs.FocusingLemmas.{dreamt}
use Rattle.solve_run.proofs.PartLemmas.{turn_resting}
use Rattle.turn_run.proofs.TurnsOutcomeLemmas.{names_known}
use Rattle.turn_run.specs.Advancing.{IsFrontOfTurn}
use Rattle.round_run.proofs.GoingLemmas.{turn_as, turn_handed}
use Rattle.round_run.proofs.QuietLemmas.{turn_memory}
use Rattle.round_run.specs.Desk.{RestsAt}
use Rattle.round_run.specs.Told.{host_told}
use Rattle.round_run.specs.declared.fault.RunFault.TheVariants.{Memory}
use Rattle.session_core.specs.State.{State}
use Rattle.skeletons.specs.Skeletons.{skeleton_of, skeletons_in}
use Rattle.transcript_model.specs.Legal.{IsLegal, is_level, is_mark}
use Rattle.transcript_model.specs.Rounds.{limits_of}
use Rattle.transcript_model.specs.Turns.{IsPicked, Skeleton}
use Rattle.solve_run.proofs.adaptive_mode.AdaptiveTurns.with_new.Goals as goal

pub returns-in_err-keep : goal.returns-in_err-keep
returns-in_err-keep g c =
    let desk = c.args.desk.now in
    let front = IsFrontOfTurn desk.task desk.head (kept_of c.args.self.now.skeletons.items c.args.self.now.tried) desk.state.entries in
    record {
      goes = turn_handed desk desk _ (λ (_ : Unit {0}). ⊤) _ front front Memory c.from_residual.result c.from_residual.ensures.1
          (turn_memory desk (still_host g.H.Host g.met.H.Host.stays c.args.host.now) (g.O.Sink.taken c.args.out.now)
          (g.O.Sink.faults c.args.out.now) (λ (_ : Unit {0}). ⊤) front
          Memory c.requires.rests refl (λ legal. inl refl))
          (λ es legal f. f);
    }

pub pick_behind-requires-clause-mode : goal.pick_behind-requires-clause-mode
pick_behind-requires-clause-mode g c = c.requires.keeps.mode

pub pick_behind-requires-clause-line : goal.pick_behind-requires-clause-line
pick_behind-requires-clause-line g c =
    let desk = c.args.desk.now in
    let d = dreamt (limits_of desk.head) desk.task desk.state.entries c.args.self.now.tried c.args.dream.line c.args.dream.entries.items
    c.requires.dream in
    record { mark = ap is_mark d.is; other = ap is_level d.is }

pub pick_behind-requires-clause-may : goal.pick_behind-requires-clause-may
pick_behind-requires-clause-may g c =
    let items = c.args.self.now.skeletons.items in
    let xs = skeletons_in items in
    let entries = c.args.dream.entries.items in
    let new : Skeleton = record { entries = entries; real = c.name_count-real.result; picks = 0; retired = false } in
    let long : length xs ≡ c.len-place.result =
    length-map items skeleton_of ∙ sym c.args.self.now.skeletons.ok.0 ∙ sym c.len-place.ensures in
    record {
      skeleton = new;
      picked = subst (λ ys. IsPicked ys c.len-place.result new) (sym c.in_ok-keep.ensures.ok)
          (subst (λ k. IsPicked (xs ++ new ∷ []) k new) long
          (new_picked xs new (length c.args.desk.now.state.asked) refl refl c.requires.keeps.kept));
      left = c.requires.room.left;
      low = omega (arith, c.requires.keeps.kept.few, long);
      picks = omega arith;
    }

pub returns : goal.returns
returns g c =
    let old = c.args.desk.now in
    let new = c.pick_behind.new.desk in
    let s = old.state in
    let task = old.task in
    let head = old.head in
    let tried = c.args.self.now.tried in
    let line = c.args.dream.line in
    let entries = c.args.dream.entries.items in
    let items = c.args.self.now.skeletons.items in
    let xs = skeletons_in items in
    let works = c.requires.rests.works in
    let h = works.listens.session in
    let kept = kept_of c.keep.new.skeletons.items tried in
    let next = kept_of c.pick_behind.new.self.skeletons.items c.pick_behind.new.self.tried in
    let d = dreamt (limits_of head) task s.entries tried line entries c.requires.dream in
    let real = c.name_count-real.ensures.count
    ∙ ap length (names_known task s works.listens.working works.learnt h c.facts.result.now.known
    (c.facts.ensures ∙ ap (λ (x : State). x.known) c.session.ensures.is)) in
    let same : kept ≡ record {
      tried = tried;
      skeletons = xs ++ record { entries = entries; real = _; picks = 0; retired = false } ∷ [];
    } = λ i. record {
      tried = tried;
      skeletons = (c.in_ok-keep.ensures.ok
          ∙ ap (λ n. xs ++ record { entries = entries; real = n; picks = 0; retired = false } ∷ []) real) i;
    } in
    let here = IsFrontBehindPick head task kept s.entries line in
    let there = RestsAt new (host_told g.H.Host c.pick_behind.new.host) in
    record {
      goes = turn_as old new _ (λ t. RanBehindPick head task kept next line s new.state t × there)
          (RanAdaptive task head items tried c.pick_behind.new.self.skeletons.items c.pick_behind.new.self.tried s new.state) here
          (IsFrontOfTurn task head (kept_of items tried) s.entries) c.pick_behind.result
          (turn_resting old new _ (RanBehindPick head task kept next line s new.state) here c.pick_behind.result c.pick_behind.ensures.goes)
          (λ t ran. ran_new head task c.requires.keeps.mode h.fit tried xs line entries s
          (subst (λ v. IsLegal v task s.entries) works.of.version h.legal) d c.requires.keeps.kept c.requires.room h.counted next new.state t
          (subst (λ k. RanBehindPick head task k next line s new.state t) same ran.0) ran.1.works.listens.session.counted)
          (λ es legal f. new_front head task c.requires.keeps.mode tried xs s.entries line entries d es
          (subst (λ k. IsFrontBehindPick head task k s.entries line es) same f));
    }
