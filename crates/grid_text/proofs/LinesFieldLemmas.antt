-- The first field, found from the left.
use Rattle.std.proofs.Common.{◌≡◌, ℕ, ◌-◌, ◌<◌, List, ◌∷◌, length, drop, take, sym, ap, ◌∙◌, arith, Some, position, subst, length-drop, not, get_or, true}
use Rattle.std.proofs.lemmas.List.{take_all}
use Rattle.std.specs.List.{position_or_len}
use Rattle.std.proofs.lemmas.List.Sums.{prefix_len-drop_yes, passes_at_first}
use Rattle.gen_lines.specs.Reply.{is_space, fields}
use Rattle.gen_lines.proofs.FieldLemmas.{other, fields_skip, fields_run}
use Rattle.lemmas.proofs.Positions.{found_at}

-- all that stands behind a place
pub behind : (line : List ℕ) (n : ℕ) → take (length line - n) (drop n line) ≡ drop n line
behind line n = take_all (length line - n) (drop n line) (omega (arith, length-drop n line))

pub first_of : (line rest : List ℕ) (start run : ℕ) → position other line ≡ Some start
    → rest ≡ drop start line → run ≡ position_or_len is_space rest →
    fields line ≡ take run rest ∷ fields (take (length rest - run) (drop run rest))
first_of line rest start run found same r =
    let at = found_at other line start found in
    let lt : start < length line = omega (arith, at.within, at.place) in
    let letter : not (is_space (get_or line start 0)) ≡ true =
    subst (λ n. not (is_space (get_or line n 0)) ≡ true) at.place (passes_at_first other line 0 at.within) in
    let some : 0 < position_or_len is_space (drop start line) = omega (arith, prefix_len-drop_yes other line start 0 lt letter) in
    let there : fields line ≡ fields rest = fields_skip line ∙ ap (λ n. fields (drop n line)) at.place ∙ ap fields (sym same) in
    let long : 0 < position_or_len is_space rest = subst (λ bs. 0 < position_or_len is_space bs) (sym same) some in
    let first : fields rest ≡ take run rest ∷ fields (drop run rest) =
    subst (λ n. fields rest ≡ take n rest ∷ fields (drop n rest)) (sym r) (fields_run rest long) in
    there ∙ first ∙ ap (λ bs. take run rest ∷ fields bs) (sym (behind rest run))
