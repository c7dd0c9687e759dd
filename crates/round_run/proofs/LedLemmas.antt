-- What calls made of a host, one part of a run behind another.
use Rattle.std.proofs.Common.{◌≡◌, ◌≤◌, ◌∙◌, Bool, List, Option, ℕ, Result, Ok, Err, true, false, ap, arith, refl, subst, sym}
use Rattle.std.proofs.lemmas.Result.{err_from_is_err_and}
use Rattle.std.specs.Result.{IsErrAnd, OnOk}
use Rattle.io_world.specs.Leads.{wants_memory, IsLed}
use Rattle.io_world.specs.declared.host.Host as hosts
use Rattle.io_world.specs.declared.host.HostFault.{HostFault}
use Rattle.io_world.specs.declared.host.HostFault.TheVariants as host
use Rattle.round_run.specs.Led.{is_memory, stops_for_memory}
use Rattle.round_run.specs.Rolling.{Goes, IsHostFault}
use Rattle.round_run.specs.Told.{Became, HostTold, Stretch, became, host_told}
use Rattle.round_run.specs.declared.fault.RunFault.{RunFault}
use Rattle.transcript_model.proofs.LegalNumberLemmas.{asks_more}
use Rattle.transcript_model.specs.Legal.{asks_of}
use Rattle.transcript_model.specs.declared.entry.Entry.{Entry}

-- ---- one part

pub led_none : {Leads : Bool → Type 0} {m : Bool} → Leads false → IsLed Leads m
led_none leads = record { wanted = false; quiet = λ is. refl; leads = leads }

-- what wanted no memory, seen as what may have
pub led_as : {Leads : Bool → Type 0} {m : Bool} → IsLed Leads false → IsLed Leads m
led_as {Leads} led = led_none (subst Leads (led.quiet refl) led.leads)

-- a fault that is handed on
pub led_handed : {U : Type 0} (Leads : Bool → Type 0) (fault : RunFault) (r : Result U RunFault) → IsErrAnd r (λ y. y ≡ fault)
    → IsLed Leads (is_memory fault) → IsLed Leads (stops_for_memory r)
led_handed Leads fault r is led =
    let p = err_from_is_err_and r is in
    subst (λ q. IsLed Leads (stops_for_memory q)) (sym (p.1 ∙ ap Err p.2)) led

-- a host's fault
pub led_refused : (T : Type 0) (Leads : Bool → Type 0) (cause : HostFault) (fault : RunFault) → IsHostFault cause fault
    → Leads (wants_memory (let r : Result T HostFault = Err cause in r)) → IsLed Leads (is_memory fault)
led_refused T Leads host.Failed fault is leads = led_none leads
led_refused T Leads host.Memory fault is leads =
    record { wanted = true; quiet = λ no. sym (ap is_memory is) ∙ no; leads = leads }

-- A host that is left alone: what it tells.
pub record StillHost : Type 1 where
  pub last : ℕ
  pub told : HostTold
  pub host : Became
  pub leads : host.leads false
  pub same : host.same

abbrev pub still_host : {H : Type 0} (ghosts : hosts.Ghosts H) → ((h : H) → ghosts.leads h h false) → H → StillHost
still_host ghosts stays h =
    record {
      last = ghosts.last;
      told = host_told ghosts h;
      host = became ghosts h h;
      leads = stays h;
      same = refl;
    }

-- what it tells, and what the sink took meanwhile
abbrev pub alone : StillHost → (old new : Option (List ℕ)) → (lost_old lost_new : ℕ) → Stretch
alone still old new lost_old lost_new =
    record {
      last = still.last;
      was = record { host = still.told; taken = old; lost = lost_old };
      now = record { host = still.told; taken = new; lost = lost_new };
      host = still.host;
    }

-- ---- one part behind another

-- What became of a host in two parts, and in both.
pub record Joins (a b c : Became) : Type 0 where
  pub chains : (m : Bool) → a.leads false → b.leads m → c.leads m
  pub same : a.same → b.same → c.same

pub joined : {H : Type 0} (ghosts : hosts.Ghosts H)
    → ((a b c : H) (m : Bool) → ghosts.leads a b false → ghosts.leads b c m → ghosts.leads a c m) → (a b c : H)
    → Joins (became ghosts a b) (became ghosts b c) (became ghosts a c)
joined ghosts chains a b c = record { chains = chains a b c; same = λ first second. second ∙ first }

pub led_then : {a b c : Became} {m : Bool} → Joins a b c → IsLed a.leads false → IsLed b.leads m → IsLed c.leads m
led_then {a} {b} {c} {m} both first second = record {
  wanted = second.wanted;
  quiet = second.quiet;
  leads = both.chains second.wanted (subst a.leads (first.quiet refl) first.leads) second.leads;
}

-- calls that wanted no memory behind some that may have
pub led_end : (A B C : Bool → Type 0) {m : Bool} → ((n : Bool) → A n → B false → C n) → IsLed A m → B false → IsLed C m
led_end A B C ends first last =
    record { wanted = first.wanted; quiet = first.quiet; leads = ends first.wanted first.leads last }

-- ---- parts without a request

pub goes_asks : (before after : List Entry) (old new : Option (List ℕ)) → Goes before after old new → asks_of before ≤ asks_of after
goes_asks before after old new goes = omega (arith, ap asks_of goes.pushed, asks_more before goes.more)

pub still_then : {a b c : Became} {U : Type 0} → Joins a b c → (x y z : List Entry) → asks_of x ≤ asks_of y
    → (asks_of y ≡ asks_of x → a.same) → (r : Result U RunFault) → OnOk r (asks_of y ≤ asks_of z)
    → OnOk r (asks_of z ≡ asks_of y → b.same) → OnOk r (asks_of z ≡ asks_of x → c.same)
still_then both x y z less first (Ok v) more second =
    λ none. both.same (first (omega (arith, less, more, none))) (second (omega (arith, less, more, none)))
still_then both x y z less first (Err fault) more second = tt
