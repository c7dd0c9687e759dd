use Rattle.std.proofs.Common.{◌≡◌, ◌≤◌, ◌∷◌, ℕ, arith, inl, inr}
use Rattle.std.specs.Fmt.{decimal}
use Rattle.std.proofs.lemmas.Fmt.{decimal_injective}
use Rattle.report_reader.specs.Body.{IsVersion}
use Rattle.report_reader.proofs.head_reader.version_in.Goals as goal

positive : (v : ℕ) → IsVersion v → ¬ (v ≡ 0)
positive v (inl e) zero = omega (arith, e, zero)
positive v (inr e) zero = omega (arith, e, zero)

small : (v : ℕ) → IsVersion v → v ≤ 2
small v (inl e) = omega (arith, e)
small v (inr e) = omega (arith, e)

pub returns-then-version-eq0 : goal.returns-then-version-eq0
returns-then-version-eq0 c = λ v rest is e.
    let taken : (c.in_ok-version.version ≤ 2) × (decimal c.in_ok-version.version ∷ c.number_upto.new.self ≡ c.args.fields.now) =
    c.in_ok-version.ensures in
    let there : decimal v ≡ decimal c.in_ok-version.version = cc (taken.1) in
    let low = small v is in
    let same = decimal_injective v c.in_ok-version.version (omega arith) (omega (arith, taken.0)) there in
    positive v is (omega (arith, same, c.if-version-eq0.true))
