use Rattle.std.proofs.Common.{◌≡◌, ◌-◌, ◌<◌, length, take, min, arith, ap, sym, subst, ◌∙◌}
use Rattle.std.proofs.lemmas.List.{length-map, length-take}
use Rattle.instance_queue.specs.Level.{due_instances}
use Rattle.instance_queue.specs.declared.due.Due.{Due}
use Rattle.pools.proofs.PoolsLemmas.{have_workers}
use Rattle.pools.specs.Pools.{IsLongestFront, shares_of}
use Rattle.session_core.proofs.ReadyRoundLemmas.{next_is}
use Rattle.session_core.proofs.ReadyLemmas.{may_begin}
use Rattle.session_core.specs.Ready.{IsNextRound, session_calls_left}
use Rattle.session_core.specs.Session.{IsSession}
use Rattle.session_core.specs.Shown.{shown_session}
use Rattle.session_core.specs.State.{State}
use Rattle.session_core.proofs.session.Session.next_round.Goals as goal

pub returns-clause-cut : goal.returns-clause-cut
returns-clause-cut c =
    let s = shown_session c.self.inside in
    let dues = c.args.dues.now in
    let asked : c.len.result ≡ length s.asked = c.len.ensures ∙ c.self.inside.knowledge.asked.ok.0 in
    let most : c.min-most.result ≡ min (length dues) (session_calls_left s) =
    c.min-most.ensures ∙ ap (λ n. min (length dues) (s.calls - n)) asked in
    let longest : IsLongestFront (shares_of s.pools) (due_instances (take c.min-most.result dues)) c.longest_front.result =
    subst (λ ps. IsLongestFront (shares_of ps) (due_instances (take c.min-most.result dues)) c.longest_front.result) c.as_slice.ensures.value
    c.longest_front.ensures in
    subst (λ (t : State). IsNextRound t dues c.longest_front.result) c.self.view_is
    (next_is s dues c.min-most.result c.longest_front.result (omega (arith, c.self.invariant.few)) most longest)

pub returns-clause-some : goal.returns-clause-some
returns-clause-some c = λ task h there left.
    let s = shown_session c.self.inside in
    let dues = c.args.dues.now in
    let was = subst (IsSession task) (sym c.self.view_is) h in
    let asked : c.len.result ≡ length s.asked = c.len.ensures ∙ c.self.inside.knowledge.asked.ok.0 in
    let most : c.min-most.result ≡ min (length dues) (session_calls_left s) =
    c.min-most.ensures ∙ ap (λ n. min (length dues) (s.calls - n)) asked in
    let longest : IsLongestFront (shares_of s.pools) (due_instances (take c.min-most.result dues)) c.longest_front.result =
    subst (λ ps. IsLongestFront (shares_of ps) (due_instances (take c.min-most.result dues)) c.longest_front.result) c.as_slice.ensures.value
    c.longest_front.ensures in
    let room : length s.asked < s.calls = subst (λ (t : State). length t.asked < t.calls) (sym c.self.view_is) left in
    longest.some (have_workers task s.pools was.pools)
    (omega (
      arith,
      length-map (take c.min-most.result dues) (λ (d : Due). d.instance),
      length-take c.min-most.result dues,
      most,
      there,
      room,
    ))

pub returns-clause-may : goal.returns-clause-may
returns-clause-may c =
    λ task h works learnt ready.
    may_begin task c.args.self.now c.args.dues.now c.longest_front.result h works learnt ready (returns-clause-cut c)
