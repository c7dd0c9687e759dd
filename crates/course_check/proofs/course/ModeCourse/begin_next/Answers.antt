use Rattle.std.proofs.Common.{◌≡◌, ◌∙◌, ◌+◌, ◌-◌, List, ℕ, take, inl, inr, refl, sym, ap, subst, arith}
use Rattle.std.proofs.lemmas.Bool.{eqb-false, eqb-true}
use Rattle.std.proofs.lemmas.List.{nil_from_length}
use Rattle.dream_asks.specs.Next.{AreDuesOf}
use Rattle.dream_asks.specs.declared.asks.DreamAsk.{DreamAsk}
use Rattle.instance_queue.specs.Level.{due_instances}
use Rattle.course_check.proofs.NextLemmas.{IsSet, next_moves}
use Rattle.course_check.specs.Agendas.{BeginsBatch, ModeAgenda, MovesOn, phase_of, shown_mode}
use Rattle.course_check.specs.Places.{joining}
use Rattle.course_check.specs.declared.course.Phase as stored
use Rattle.course_check.specs.Running.{asking, made_by, run_of}
use Rattle.course_check.specs.declared.course.Phase.TheVariants.{Repeated}
use Rattle.course_check.specs.declared.running.Running.{Running}
use Rattle.pools.specs.Pools.{shares_of}
use Rattle.course_check.proofs.course.ModeCourse.begin_next.Goals as goal
use Rattle.course_check.proofs.course.ModeCourse.begin_next.Goals.{then-is_empty, else-is_empty+then-len-left, else-is_empty+else-len-left}

pub returns : goal.returns
returns c =
    let s = c.self.inside in
    let t = c.self-2.inside in
    let x = c.if-is_empty.self-inside in
    let asks = c.in_ok-asks.asks in
    let pools = shares_of c.args.point.now.pools.now in
    let counted : s.run.before + c.len.result ≡ made_by (run_of s.run) = omega (arith, c.len.ensures, s.run.asks.ok) in
    let list = λ (n : ℕ). take (c.args.point.now.calls - n) (due_instances c.in_ok-dues.dues.items) in
    let begins : BeginsBatch pools c.in_ok-dues.dues.items (s.run.before + c.len.result) c.args.point.now.calls
    (joining (shown_mode s).kept (list (s.run.before + c.len.result))) (shown_mode t) =
    subst (λ (a : ModeAgenda). BeginsBatch pools c.in_ok-dues.dues.items (s.run.before + c.len.result) c.args.point.now.calls
    (joining a.kept (list (s.run.before + c.len.result))) (shown_mode t)) (sym c.self.view_is)
    (subst (λ (a : ModeAgenda). BeginsBatch pools c.in_ok-dues.dues.items (s.run.before + c.len.result) c.args.point.now.calls
    (joining c.args.self.now.kept (list (s.run.before + c.len.result))) a) (sym c.self-2.view_is)
    c.in_ok-begin_dream.ensures.begins) in
    let run = ap (λ (a : ModeAgenda). a.run) c.self-2.view_is ∙ c.begin_dream.ensures.run
    ∙ sym (ap (λ (a : ModeAgenda). a.run) c.self.view_is) in
    let of = subst (λ (l : List DreamAsk). AreDuesOf c.args.point.now.queue.now l c.in_ok-dues.dues.items) c.as_slice.ensures.value
    c.in_ok-dues.ensures in
    let r : Running = record {
      entries = x.run.entries;
      real = x.run.real;
      from = x.run.from;
      before = x.run.before;
      asks = c.append.new.self;
    } in
    let runs : run_of r ≡ asking (run_of x.run) asks.items = λ i. record {
      entries = x.run.entries.items;
      real = x.run.real;
      from = x.run.from;
      before = x.run.before;
      asks = c.in_ok-append.ensures.items i;
    } in
    let moves = λ (f : stored.Phase)
    (is : x ≡ record { batch = t.batch; phase = f; tried = t.tried; skeletons = t.skeletons; run = t.run; alloc = t.alloc })
    (set : IsSet c.args.over (run_of t.run) asks.items (c.args.point.now.calls - (s.run.before + c.len.result)) f).
    next_moves c.args.point.now.task.now c.args.point.now.facts.now.known c.args.point.now.queue.now c.args.behind.now pools c.args.over
    c.args.point.now.calls s t x f is r asks.items c.in_ok-dues.dues.items (s.run.before + c.len.result) c.in_ok-asks.ensures of counted begins run
    runs set in
    subst (λ (a : ModeAgenda). MovesOn c.args.point.now.task.now c.args.point.now.facts.now.known c.args.point.now.queue.now c.args.behind.now pools
    (phase_of c.args.over a.run) c.args.point.now.calls a
    (shown_mode (record { batch = x.batch; phase = x.phase; tried = x.tried; skeletons = x.skeletons; run = r; alloc = x.alloc })))
    c.self.view_is
    (elim c.if-is_empty.branch [
      | then-is_empty w ↦ moves c.args.over w.self-inside-is (inl (
        refl,
        nil_from_length asks.items (omega (arith, eqb-true _ 0 (sym c.is_empty.ensures ∙ w.if-is_empty.true), asks.ok)),
      ))
      | else-is_empty+then-len-left w ↦ moves Repeated w.self-inside-is (inr (inl (
        refl,
        omega (arith, eqb-false _ 0 (sym c.is_empty.ensures ∙ w.if-is_empty.false), asks.ok),
        omega (arith, w.if-len-left.true, w.len-else-is_empty.ensures, asks.ok),
      )))
      | else-is_empty+else-len-left w ↦ moves t.phase w.self-inside-is (inr (inr (
        ap (λ (a : ModeAgenda). a.phase) c.self-2.view_is ∙ c.in_ok-begin_dream.ensures.begins.phase_is,
        omega (arith, w.if-len-left.false, w.len-else-is_empty.ensures, asks.ok),
      )))
    ])
