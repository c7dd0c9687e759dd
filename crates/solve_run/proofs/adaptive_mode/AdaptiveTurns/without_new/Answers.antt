use Rattle.std.proofs.Common.{◌≡◌, ◌≤◌, arith, length, subst, sym, true, false}
use Rattle.std.proofs.lemmas.Option.{slice_get_within}
use Rattle.std.specs.List.{list_all}
use Rattle.solve_run.proofs.AdaptiveLemmas.{old_front, ran_empty, ran_old}
use Rattle.solve_run.proofs.SkeletonLemmas.{at_all}
use Rattle.solve_run.specs.Adaptive.{RanAdaptive}
use Rattle.solve_run.specs.Skeletons.{IsFrontBehindPick, RanBehindPick, kept_of}
use Rattle.solve_run.proofs.PartLemmas.{turn_resting}
use Rattle.solve_run.specs.Focusing.{IsFrontOfDreamless, MayFallBack, RanDreamless}
use Rattle.turn_run.specs.Advancing.{IsFrontOfTurn}
use Rattle.round_run.proofs.GoingLemmas.{turn_as}
use Rattle.round_run.specs.Desk.{RestsAt}
use Rattle.round_run.specs.Told.{host_told}
use Rattle.skeletons.specs.Skeletons.{skeletons_in}
use Rattle.transcript_model.specs.Turns.{IsPicked, Skeleton}
use Rattle.transcript_model.specs.declared.entry.Entry.TheVariants as entry
use Rattle.solve_run.proofs.adaptive_mode.AdaptiveTurns.without_new.Goals as goal

pub pick_behind-requires-clause-mode : goal.pick_behind-requires-clause-mode
pick_behind-requires-clause-mode g c = c.requires.keeps.mode

pub pick_behind-requires-clause-may : goal.pick_behind-requires-clause-may
pick_behind-requires-clause-may g c =
    let asked = length c.args.desk.now.state.asked in
    let xs = skeletons_in c.args.self.now.skeletons.items in
    let best = subst (λ list. (s : Skeleton) × IsPicked (skeletons_in list) c.in-Some.place s)
    c.as_slice.ensures.value c.in-Some.ensures.some in
    record {
      skeleton = best.0;
      picked = best.1;
      left = c.requires.begins.turn.left;
      low = omega (arith, slice_get_within xs c.in-Some.place best.0 best.1.there, c.requires.keeps.kept.few);
      picks = (at_all (λ (s : Skeleton). s.retired ≡ false → (1 ≤ s.picks) × (s.picks ≤ asked)) xs c.in-Some.place best.0
          c.requires.keeps.kept.picked best.1.there best.1.kept).1;
    }

pub returns-in-Some : goal.returns-in-Some
returns-in-Some g c =
    let old = c.args.desk.now in
    let new = c.pick_behind.new.desk in
    let s = old.state in
    let task = old.task in
    let head = old.head in
    let tried = c.args.self.now.tried in
    let items = c.args.self.now.skeletons.items in
    let xs = skeletons_in items in
    let kept = kept_of items tried in
    let next = kept_of c.pick_behind.new.self.skeletons.items c.pick_behind.new.self.tried in
    let h = c.requires.rests.works.listens.session in
    let here = IsFrontBehindPick head task kept s.entries entry.Nothing in
    let there = RestsAt new (host_told g.H.Host c.pick_behind.new.host) in
    record {
      goes = turn_as old new _ (λ t. RanBehindPick head task kept next entry.Nothing s new.state t × there)
          (RanAdaptive task head items tried c.pick_behind.new.self.skeletons.items c.pick_behind.new.self.tried s new.state) here
          (IsFrontOfTurn task head kept s.entries) c.pick_behind.result
          (turn_resting old new _ (RanBehindPick head task kept next entry.Nothing s new.state) here c.pick_behind.result
          c.pick_behind.ensures.goes)
          (λ t ran. ran_old head task c.requires.keeps.mode tried xs next s new.state t c.requires.none c.requires.keeps.kept ran.0
          h.counted ran.1.works.listens.session.counted c.requires.begins.levels)
          (λ es legal f. old_front head task c.requires.keeps.mode tried xs s.entries c.requires.none es f);
    }

pub returns-in-None : goal.returns-in-None
returns-in-None g c =
    let old = c.args.desk.now in
    let new = c.without_dream.new.desk in
    let s = old.state in
    let task = old.task in
    let head = old.head in
    let tried = c.args.self.now.tried in
    let next = c.without_dream.new.tried in
    let items = c.args.self.now.skeletons.items in
    let xs = skeletons_in items in
    let h = c.requires.rests.works.listens.session in
    let retired = subst (λ list. list_all (λ (k : Skeleton). k.retired) (skeletons_in list) ≡ true)
    c.as_slice.ensures.value c.in-None.ensures.none in
    let may = subst (λ m. MayFallBack m xs) (sym c.requires.keeps.mode) retired in
    let here = IsFrontOfDreamless task head tried s.entries in
    let there = RestsAt new (host_told g.H.Host c.without_dream.new.host) in
    record {
      goes = turn_as old new _ (λ t. RanDreamless task head tried next s new.state t × there)
          (RanAdaptive task head items tried items next s new.state) here (IsFrontOfTurn task head (kept_of items tried) s.entries)
          c.without_dream.result
          (turn_resting old new _ (RanDreamless task head tried next s new.state) here c.without_dream.result c.without_dream.ensures.goes)
          (λ t ran. ran_empty head task xs tried next s new.state t retired c.requires.keeps.kept (ran.0 xs may) h.counted
          ran.1.works.listens.session.counted)
          (λ es legal f. f xs may);
    }
