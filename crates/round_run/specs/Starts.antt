-- Which children are started.
use Rattle.std.specs.Prelude.{◌≡◌, ℕ, ◌+◌, ◌≤◌, ◌<◌, List, length, All, Bool, true, false, slice_get, Some}
use Rattle.transcript_model.specs.declared.head.Pool.{Pool}
use Rattle.io_world.specs.declared.host.TheConstants.{CHILDREN}

-- the pool's child of this number
pub record IsWorker (pool : Pool) (child : ℕ) : Type 0 where
  pub from : pool.first ≤ child
  pub to : child < pool.first + pool.workers

-- all workers of the pools run
abbrev pub AllWork : List Pool → (ℕ → Bool) → Type 0
AllWork pools running =
    (k child : ℕ) (p : Pool) → slice_get pools k ≡ Some p → IsWorker p child → running child ≡ true

-- none of them runs
abbrev pub NoneWorks : List Pool → (ℕ → Bool) → Type 0
NoneWorks pools running =
    (k child : ℕ) (p : Pool) → slice_get pools k ≡ Some p → IsWorker p child → running child ≡ false

-- Pools have children of their own, which a host has, and words that start these.
pub record AreStartable (pools : List Pool) : Type 0 where
  pub apart : (j k child : ℕ) (p q : Pool) → slice_get pools j ≡ Some p → slice_get pools k ≡ Some q
      → IsWorker p child
      → IsWorker q child → j ≡ k
  pub low : All (λ (p : Pool). p.first + p.workers ≤ CHILDREN) pools
  pub words : All (λ (p : Pool). 0 < length p.argv) pools
