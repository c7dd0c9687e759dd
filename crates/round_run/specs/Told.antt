-- What a host and a sink tell, before a part of a run and after it, and what became of the host in between.
use Rattle.std.specs.Prelude.{◌≡◌, ℕ, Bool, List, Option}
use Rattle.io_world.specs.Talks.{Event, Talk}
use Rattle.io_world.specs.declared.host.Host as hosts
use Rattle.io_world.specs.declared.sink.Sink as sinks

-- Which children run, what was said with each, the log of all calls, and the count of faults.
pub record HostTold : Type 0 where
  pub running : ℕ → Bool
  pub spoken : ℕ → Option Talk
  pub log : Option (List Event)
  pub faults : ℕ

-- What became of a host: what calls made of it, of which one may have wanted memory where this is `true`; and that it is
-- as it was.
pub record Became : Type 1 where
  pub leads : Bool → Type 0
  pub same : Type 0

-- What a host told before and what it tells after; the last value of its count; and what became of it.
pub record Course : Type 1 where
  pub last : ℕ
  pub was : HostTold
  pub now : HostTold
  pub host : Became

-- What a host tells, what a sink took, and the sink's count of faults.
pub record Told : Type 0 where
  pub host : HostTold
  pub taken : Option (List ℕ)
  pub lost : ℕ

-- What was told before and what is told after; the last value of the host's count; and what became of the host.
pub record Stretch : Type 1 where
  pub last : ℕ
  pub was : Told
  pub now : Told
  pub host : Became

-- what a host of a type tells that has these ghosts
abbrev pub host_told : {H : Type 0} → hosts.Ghosts H → H → HostTold
host_told ghosts host =
    record { running = ghosts.running host; spoken = ghosts.spoken host; log = ghosts.log host; faults = ghosts.faults host }

-- what became of such a host
abbrev pub became : {H : Type 0} → hosts.Ghosts H → H → H → Became
became ghosts old new = record { leads = ghosts.leads old new; same = new ≡ old }

-- what such a host told before and tells after
abbrev pub course : {H : Type 0} → hosts.Ghosts H → H → H → Course
course ghosts old new =
    record {
      last = ghosts.last;
      was = host_told ghosts old;
      now = host_told ghosts new;
      host = became ghosts old new;
    }

-- what a host and a sink tell of types that have these ghosts
abbrev pub told : {H O : Type 0} → hosts.Ghosts H → sinks.Ghosts O → H → O → Told
told ghosts sink host out = record { host = host_told ghosts host; taken = sink.taken out; lost = sink.faults out }

-- what they told before and tell after
abbrev pub stretch : {H O : Type 0} → hosts.Ghosts H → sinks.Ghosts O → H → H → O → O → Stretch
stretch ghosts sink host_old host_new out_old out_new =
    record {
      last = ghosts.last;
      was = told ghosts sink host_old out_old;
      now = told ghosts sink host_new out_new;
      host = became ghosts host_old host_new;
    }

-- of a host that is left alone there is nothing to say
abbrev pub left_alone : Became
left_alone = record { leads = λ memory. Unit {0}; same = Unit {0} }

-- the host was left alone
abbrev pub quiet : ℕ → HostTold → (old new : Option (List ℕ)) → (lost_old lost_new : ℕ) → Stretch
quiet last host old new lost_old lost_new =
    record {
      last = last;
      was = record { host = host; taken = old; lost = lost_old };
      now = record { host = host; taken = new; lost = lost_new };
      host = left_alone;
    }
