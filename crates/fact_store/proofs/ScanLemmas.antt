-- What a scan of a list passes.
use Rattle.std.proofs.Common.{◌≡◌, ℕ, ◌<◌, List, length, get_or, sym, ap, ◌∙◌, Option, None, Some, slice_get, option_copied, Bor}
use Rattle.std.proofs.lemmas.Option.{slice_get-get_or, slice_get_past}
use Rattle.std.specs.Slice.{IsItemAt}

-- what an index reads stands there
pub read_at : {A : Type 0} (xs : List A) (i : ℕ) (x : A) → i < length xs
    → ((d : A) → x ≡ get_or xs i d) → slice_get xs i ≡ Some x
read_at xs i x lt is = slice_get-get_or xs i x lt ∙ ap Some (sym (is x))

-- what `get` lends is what stands there
pub lent_at : {A : Type 0} (xs : List A) (i : ℕ) (r : Option (Bor A)) → IsItemAt xs i r
    → option_copied r ≡ slice_get xs i
lent_at xs i None h = sym (slice_get_past xs i h.3)
lent_at xs i (Some x) h = sym (read_at xs i x.now h.3.0 h.3.1)
