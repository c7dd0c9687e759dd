-- Lists that have all that something holds of, each once.
use Rattle.std.specs.Prelude.{◌≡◌, ℕ, ◌+◌, ◌<◌, List, ◌++◌, length, Contains, ◌↔◌}
use Rattle.lemmas.specs.Lists.{AreDistinct}
use Rattle.fact_join.specs.declared.query.JoinFault.{JoinFault}
use Rattle.fact_join.specs.declared.query.JoinFault.TheVariants.{TooMany, Memory}

-- These are all of which it holds, each once.
pub record AreAll {A : Type 0} (P : A → Type 0) (xs : List A) : Type 0 where
  pub distinct : AreDistinct xs
  pub each : (x : A) → Contains xs x ↔ P x

-- behind the old ones stand all of which it holds, each once
abbrev pub Adds : {A : Type 0} → (A → Type 0) → List A → List A → Type 0
Adds {A} P old new = (more : List A) × (new ≡ old ++ more) × AreAll P more

-- it holds of some, each once, which with the old ones are more than `most`
abbrev pub Exceeds : {A : Type 0} → ℕ → (A → Type 0) → List A → Type 0
Exceeds {A} most P old =
    (more : List A) × AreDistinct more × ((x : A) → Contains more x → P x)
    × (most < length old + length more)

-- what is true where not all were added
abbrev pub ComesOf : {A : Type 0} → ℕ → (A → Type 0) → List A → JoinFault → Type 0
ComesOf most P old TooMany = Exceeds most P old
ComesOf most P old Memory = Unit {0}
