use Rattle.std.proofs.Common.{◌≡◌, ◌∙◌, ◌==◌, ◌+◌, [], List, length, slice_get, slice_set, Some, sym, ap, arith}
use Rattle.std.proofs.lemmas.List.{length-map}
use Rattle.std.proofs.lemmas.Option.{slice_get_within}
use Rattle.course_check.proofs.NextLemmas.{given_up_is, moves_from}
use Rattle.course_check.specs.Agendas.{ModeAgenda, shown_mode, with_run}
use Rattle.course_check.specs.Places.{unasked}
use Rattle.course_check.specs.Running.{run_of, sent_of}
use Rattle.pools.specs.Pools.{shares_of}
use Rattle.skeletons.proofs.SkeletonLemmas.{item_there}
use Rattle.skeletons.specs.Skeletons.{skeleton_of, skeletons_in}
use Rattle.transcript_model.specs.Turns.{Kept, Skeleton, is_given_up}
use Rattle.course_check.proofs.course.ModeCourse.pick.Goals as goal

pub returns : goal.returns
returns c = λ k at.
    let s = c.self.inside in
    let t = c.self-2.inside in
    let place = c.args.place in
    let stored = c.index-skeleton.result.now in
    let own : slice_get (skeletons_in s.skeletons.items) place ≡ Some k =
    ap (λ (a : ModeAgenda). slice_get a.kept.skeletons place) c.self.view_is ∙ at in
    let found : Some (skeleton_of stored) ≡ Some k =
    sym (item_there s.skeletons.items place stored
    (omega (arith, slice_get_within (skeletons_in s.skeletons.items) place k own, length-map s.skeletons.items skeleton_of))
    c.index-skeleton.ensures) ∙ own in
    let same : skeleton_of stored ≡ k = cc in
    let old = shown_mode (record {
      batch = s.batch;
      phase = s.phase;
      tried = s.tried;
      skeletons = s.skeletons;
      run = c.new.result;
      alloc = s.alloc;
    }) in
    let also = with_run c.args.self.now k.entries k.real c.args.from c.args.before in
    let entries : c.in_ok-entries.entries.items ≡ k.entries =
    c.in_ok-entries.ensures ∙ c.as_slice.ensures.value ∙ ap (λ (x : Skeleton). x.entries) same in
    let run : old.run ≡ also.run =
    c.new.ensures ∙ (λ i. record {
      entries = entries i;
      real = ap (λ (x : Skeleton). x.real) same i;
      from = c.args.from;
      before = c.args.before;
      asks = [];
    }) in
    let moves = moves_from c.args.point.now.task.now c.args.point.now.facts.now.known c.args.point.now.queue.now [] (shares_of c.args.point.now.pools.now) (unasked place)
    c.args.point.now.calls old also c.begin_next.new.self run (ap (λ (a : ModeAgenda). a.kept) c.self.view_is) c.in_ok-begin_next.ensures in
    let lists : skeletons_in t.skeletons.items ≡ c.args.self.now.kept.skeletons =
    ap (λ (a : ModeAgenda). a.kept.skeletons) c.self-2.view_is ∙ ap (λ (x : Kept). x.skeletons) moves.begins.kept_is in
    let none : c.is_empty-retired.result ≡ is_given_up (sent_of (run_of t.run)) =
    c.is_empty-retired.ensures
    ∙ ap (λ n. n == 0) (let long : _ ≡ length t.run.asks.items = omega (arith, t.run.asks.ok) in long)
    ∙ given_up_is (t.run.before + 1) t.run.asks.items in
    record {
      middle = c.begin_next.new.self;
      moves = moves;
      batch_is = ap (λ (a : ModeAgenda). a.batch) c.self-2.view_is;
      phase_is = ap (λ (a : ModeAgenda). a.phase) c.self-2.view_is;
      run_is = ap (λ (a : ModeAgenda). a.run) c.self-2.view_is;
      kept_is = λ i. record {
        tried = ap (λ (a : ModeAgenda). a.kept.tried) c.self-2.view_is i;
        skeletons = (c.count.ensures k (ap (λ (l : List Skeleton). slice_get l place) lists ∙ at)
            ∙ (λ j. slice_set (ap (λ (a : ModeAgenda). a.kept.skeletons) c.self-2.view_is j) place
            (record { entries = k.entries; real = k.real; picks = k.picks + 1; retired = none j }))) i;
      };
    }
