-- Values are short.
use Rattle.std.proofs.Common.{◌≡◌, ℕ, zero, suc, ◌≤◌, true, ◌&&◌, nat_le, List, [], ◌∷◌, length, Some, slice_get, subst}
use Rattle.std.specs.Cmp.{first_so, second_so}
use Rattle.std.specs.List.{list_all}
use Rattle.gen_lines.specs.Reply.{is_value, is_value_byte}
use borrow.Author.Tests.{leb-true}

pub value_short : (v : List ℕ) → is_value v ≡ true → length v ≤ 64
unfolding is_value
value_short v e =
    leb-true (length v) 64 (second_so (nat_le 1 (length v))
    (nat_le (length v) 64) (first_so (nat_le 1 (length v) && nat_le (length v) 64) (list_all is_value_byte v) e))

pub all_short : (vs : List (List ℕ)) (k : ℕ) (v : List ℕ) → list_all is_value vs ≡ true
    → slice_get vs k ≡ Some v → length v ≤ 64
all_short [] k v all at = absurd (cc)
all_short (w ∷ ws) zero v all at =
    let same : w ≡ v = cc in value_short v (subst (λ x. is_value x ≡ true) same (first_so (is_value w) (list_all is_value ws) all))
all_short (w ∷ ws) (suc k) v all at =
    all_short ws k v (second_so (is_value w) (list_all is_value ws) all) at
