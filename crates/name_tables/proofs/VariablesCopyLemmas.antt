-- Copies of a number behind others.
use Rattle.std.proofs.Common.{◌≡◌, ℕ, zero, suc, ◌-◌, ◌<◌, List, [], ◌∷◌, ◌++◌, sym, ap, ◌∙◌, append_assoc, arith}
use Rattle.lemmas.proofs.Numbers.{suc_minus_one}
use Rattle.name_tables.specs.Variables.{copies}

pub copies_step : (xs : List ℕ) (k n : ℕ) → 0 < k
    → xs ++ copies k n ≡ (xs ++ n ∷ []) ++ copies (k - 1) n
copies_step xs zero n lt = absurd (omega arith)
copies_step xs (suc k) n lt =
    ap (λ m. xs ++ n ∷ copies m n) (sym (suc_minus_one k))
    ∙ sym (append_assoc xs (n ∷ []) (copies (suc k - 1) n))
