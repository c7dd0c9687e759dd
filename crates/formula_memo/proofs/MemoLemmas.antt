-- What is remembered stays true where one truth more is remembered.
use Rattle.std.proofs.Common.{◌≡◌, Bool, true, false, cond, List, [], Some, refl, sym, ap, ◌∙◌}
use Rattle.std.proofs.lemmas.Option.{same_Some}
use Rattle.std.specs.Cmp.{Equal-is}
use Rattle.task_model.proofs.StateLemmas.{atoms_tied}
use Rattle.task_model.proofs.StateOrderLemmas.{ties}
use Rattle.task_model.specs.AtomOrder.{atom_cmp}
use Rattle.task_model.specs.Known.{Known}
use Rattle.task_model.specs.State.{Atoms}
use Rattle.task_model.specs.declared.domain.Domain.{Domain}
use Rattle.task_model.specs.declared.fact.Atom.{Atom}
use Rattle.formula_memo.specs.Remembered.{StandsFor, remembered_of, same_atom, truth_of}

pub stands_noted : (domain : Domain) (known : Known) (state : Atoms) (old new : List (Atom × Bool))
    (atom : Atom) (value : Bool)
    → ((q : Atom) → remembered_of new q ≡ cond (same_atom atom q) (Some value) (remembered_of old q))
    → StandsFor domain known state old → value ≡ truth_of domain known state atom
    → StandsFor domain known state new
stands_noted domain known state old new atom value is stands right = record { each = each }
  where
    each : (q : Atom) (v : Bool) → remembered_of new q ≡ Some v → v ≡ truth_of domain known state q
    each q v e =
        elim (same_atom atom q) as
        (λ b. same_atom atom q ≡ b → cond b (Some value) (remembered_of old q) ≡ Some v → v ≡ truth_of domain known state q) [
          | true ↦ λ same here.
              sym (same_Some value v here) ∙ right
              ∙ ap (truth_of domain known state) (atoms_tied atom q ((Equal-is (atom_cmp atom q)).0 (sym (ties atom q) ∙ same)))
          | false ↦ λ _ there. stands.each q v there
        ] refl (sym (is q) ∙ e)

-- where nothing is remembered, all of it is true
pub stands_none : (domain : Domain) (known : Known) (state : Atoms) → StandsFor domain known state []
stands_none domain known state = record { each = λ q v e. absurd (cc) }
