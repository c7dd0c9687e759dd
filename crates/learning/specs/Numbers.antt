-- Numbers of requests.
use Rattle.std.specs.Prelude.{ℕ, List, filter, not, ◌==◌}

-- the numbers without this one
abbrev pub without : ℕ → List ℕ → List ℕ
without n = filter (λ m. not (n == m))
