-- How a list of notes is stored, by which proofs tell two of them apart.
use Rattle.std.specs.Prelude.{◌≡◌, ℕ, List, Bool, true, false, refl}
use Rattle.std.specs.Coded.{Coded, code_by, coded×, coded_ℕ, coded_bool, coded_list}
use Rattle.task_model.specs.Streams.{Note, Yielded, Ended}
use Rattle.task_model.specs.declared.stream.Instance.{Instance}

abbrev parts_of : Note → Bool × (ℕ × List ℕ)
parts_of (Yielded i) = (false, (i.stream, i.inputs))
parts_of (Ended i) = (true, (i.stream, i.inputs))

abbrev note_by : Bool × (ℕ × List ℕ) → Note
note_by p = of p.0 (record { stream = p.1.0; inputs = p.1.1 })
  where
    of : Bool → Instance → Note
    of false i = Yielded i
    of true i = Ended i

pub note_by-parts_of : (n : Note) → note_by (parts_of n) ≡ n
note_by-parts_of (Yielded i) = refl
note_by-parts_of (Ended i) = refl

abbrev pub coded_notes : Coded (List Note)
coded_notes =
    coded_list
    (code_by (Bool × (ℕ × List ℕ)) (coded× coded_bool (coded× coded_ℕ (coded_list coded_ℕ))) parts_of note_by
    note_by-parts_of)
