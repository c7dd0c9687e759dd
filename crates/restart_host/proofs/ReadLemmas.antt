-- A line is fetched, and bytes of it are handed out.
use Rattle.std.proofs.Common.{◌≡◌, ℕ, ◌<◌, true, false, List, length, take, Result, Ok, Err, IfOk, refl, ap, arith}
use Rattle.io_world.specs.Talks.{Event, given}
use Rattle.io_world.specs.declared.host.HostFault.{HostFault}
use Rattle.io_world.specs.declared.host.HostFault.TheVariants.{Failed, Memory}
use Rattle.restart_host.proofs.HandingLemmas.{handed_out}
use Rattle.restart_host.proofs.TriesLemmas.{called_as}
use Rattle.restart_host.specs.Lives.{moment_by}
use Rattle.restart_host.specs.Steps.{GivesBytes, HandsOut, IsFetching}
use Rattle.restart_host.specs.Tries.{Seen, Tried, refusals}
use Rattle.restart_host.specs.declared.kept.Kept.{Kept}
use Rattle.restart_host.specs.declared.kept.Life.{Life}

-- a child of which bytes are due runs
pub alive_due : (life : Life) → 0 < life.due → life.alive ≡ true
alive_due life some =
    elim (life.alive) as (λ b. life.alive ≡ b → b ≡ true) [
      | true ↦ λ is. refl
      | false ↦ λ is.
          let none : length life.held ≡ 0 = ap length (life.none is) in
          absurd (omega (arith, none, life.due_in, some))
    ] refl

-- the same tries, behind which nothing was done below
pub tried_given : {T U : Type 0} (child : ℕ) (words : List (List ℕ)) (last left now : ℕ) (a b : Seen) (value : U)
    (result : Result T HostFault) (D E : List Event → Type 0) → refusals result ≡ 0
    → ((events : List Event) → D events → E events)
    → Tried child words last left now a b (let r : Result U HostFault = Ok value in r) D → Tried child words last left now a b result E
tried_given child words last left now a b value (Ok other) D E quiet so tried = record {
  count = tried.count;
  called = called_as child words last a b tried.count D E so tried.called;
  left = tried.left;
  most = λ quiet. tried.most refl;
  fewer = tried.fewer;
  spent = λ is. absurd (cc (is));
}
tried_given child words last left now a b value (Err Failed) D E quiet so tried = absurd (omega (arith, quiet))
tried_given child words last left now a b value (Err Memory) D E quiet so tried = record {
  count = tried.count;
  called = called_as child words last a b tried.count D E so tried.called;
  left = tried.left;
  most = λ wanted. absurd (cc (wanted));
  fewer = tried.fewer;
  spent = λ is. absurd (cc (is));
}

pub reads_given : (child : ℕ) (old mid new : Kept) (result : Result ℕ HostFault) (room : List ℕ) (events : List Event)
    → mid.asked.items ≡ old.asked.items → mid.life.alive ≡ true → IfOk result (λ n. HandsOut n mid new (take n room))
    → refusals result ≡ 0 → IsFetching child old.asked.items old.life mid.life (Ok tt) events
    → GivesBytes child old new (given result room) events
reads_given child old mid new (Ok n) room events same alive hands quiet fetching m before plain has fits =
    let one = fetching m before has fits in
    let out = handed_out before old.asked.items mid new (take n room) n (moment_by child m events) plain has same one.done alive hands in
    record {
      course = one.course;
      gives = (out.one, out.completes, out.fits, out.asked_is);
      fell = λ is. absurd (cc (is));
    }
reads_given child old mid new (Err Failed) room events same alive hands quiet fetching m before plain has fits =
    absurd (omega (arith, quiet))
reads_given child old mid new (Err Memory) room events same alive hands quiet fetching m before plain has fits =
    let one = fetching m before has fits in
    record { course = one.course; gives = tt; fell = λ is. absurd (cc (is)) }
