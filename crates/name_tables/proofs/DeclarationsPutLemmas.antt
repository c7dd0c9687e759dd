-- Lists that are kept in one form and seen in another, with one more number in one of them.
use Rattle.std.proofs.Common.{◌≡◌, ℕ, List, map, sym, ap, ◌∙◌, Some, option_map, slice_get, slice_set}
use Rattle.std.proofs.lemmas.List.{map-set}
use Rattle.std.proofs.lemmas.Option.{slice_get-map}
use Rattle.name_tables.specs.Declarations.{number_put, put_number}
use Rattle.name_tables.specs.Graphs.{ascending_with}

pub put_seen : {A : Type 0} (f : A → List ℕ) (xs : List A) (place n : ℕ) (old new : A)
    → slice_get xs place ≡ Some old → f new ≡ ascending_with (f old) n
    → map f (slice_set xs place new) ≡ number_put (map f xs) place n
put_seen f xs place n old new at is =
    map-set f xs place new ∙ ap (slice_set (map f xs) place) is
    ∙ sym (ap (put_number (map f xs) place n) (slice_get-map f xs place ∙ ap (option_map f) at))
