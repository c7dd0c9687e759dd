-- The order of atoms: by predicate, and then by arguments.
use Rattle.std.specs.Prelude.{ℕ, List, refl}
use Rattle.std.specs.declared.cmp.Ordering.{Ordering}
use Rattle.std.specs.Ordering.{ordering_then, nat_cmp}
use Rattle.std.specs.Cmp.Lexicographic.{slice_cmp}
use Rattle.std.specs.Coded.{Coded, code_by, coded×, coded_ℕ, coded_list}
use Rattle.task_model.specs.declared.fact.Atom.{Atom}

-- by predicate and then by arguments
abbrev pub atom_cmp : Atom → Atom → Ordering
atom_cmp a b = ordering_then (nat_cmp a.pred b.pred) (slice_cmp nat_cmp a.args b.args)

-- an atom is stored as the pair of its fields
abbrev pub atom_code : Coded Atom
atom_code =
    code_by (ℕ × List ℕ) (coded× coded_ℕ (coded_list coded_ℕ))
    (λ a. (a.pred, a.args)) (λ p. record { pred = p.0; args = p.1 }) (λ _. refl)
