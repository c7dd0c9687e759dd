-- A call on a generator, alone or one of many.
use Rattle.std.specs.Prelude.{◌≡◌, ◌≢◌, ℕ, ◌*◌, Bool, false, List, Option, None, Result, slice_get, option_map, MatchResult}
use Rattle.io_world.specs.Faults.{last_count, Counts, HasCause}
use Rattle.io_world.specs.Talks.{Talk, Becomes, Same}
use Rattle.io_world.specs.declared.host.HostFault.{HostFault}
use Rattle.io_world.specs.declared.host.HostFault.TheVariants.{Failed}
use Rattle.io_world.specs.declared.host.TheConstants.{CHILDREN}
use Rattle.gen_host.specs.Members.{at_members, total}

module _ {B : Type 0} (running : B → Bool) (spoken : B → Option Talk) (faults : B → ℕ) where
  -- What a call does on a generator, of which these tell whether it runs, what was said with it and how often it failed:
  -- it runs then or not, an Ok adds so much to what was said, and its count is that of such an answer.
  pub record CallsOne {T : Type 0} (now : Bool) (say : T → Talk → Talk) (old new : B) (result : Result T HostFault)
      : Type 0 where
    pub runs : running new ≡ now
    pub said : MatchResult result (λ n. spoken new ≡ option_map (say n) (spoken old)) (λ _. spoken new ≡ spoken old)
    pub cause : HasCause Failed last_count (faults old) (faults new) result
    pub counts : Counts Failed last_count (faults old) (faults new) result

  -- The same on the one at this place of many: what it tells is told of the child of that number, its own count and that
  -- of all together are of such an answer, and all others stay.
  pub record CallsMember {T : Type 0} (child : ℕ) (now : Bool) (say : T → Talk → Talk) (old new : List B)
      (result : Result T HostFault) : Type 0 where
    pub runs : Becomes child now (at_members false running old) (at_members false running new)
    pub said : MatchResult result
        (λ n. Becomes child (option_map (say n) (at_members None spoken old child)) (at_members None spoken old)
        (at_members None spoken new))
        (λ _. Same (at_members None spoken old) (at_members None spoken new))
    pub cause : HasCause Failed (CHILDREN * last_count) (total last_count faults old) (total last_count faults new) result
    pub counts : Counts Failed last_count (at_members 0 faults old child) (at_members 0 faults new child) result
    pub others : (k : ℕ) → k ≢ child → slice_get new k ≡ slice_get old k
