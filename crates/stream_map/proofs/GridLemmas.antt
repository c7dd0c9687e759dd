-- The grid's text in the place of its file.
use Rattle.std.proofs.Common.{◌≡◌, ℕ, ◌+◌, ◌<◌, Bool, true, cond, List, ◌∷◌, ◌++◌, length, get_or, take, drop, map, string_bytes, refl, sym, ap, ◌∙◌, add-one}
use Rattle.std.proofs.lemmas.List.{drop_more, map-append, get_or_default}
use Rattle.transcript_model.specs.declared.head.Pool.{Pool}
use Rattle.stream_map.specs.Spelled.{begins_grid}
use Rattle.stream_map.specs.Children.{plain, with_second, with_text, IsGridPlace}

abbrev pub begins : Pool → Bool
begins pool = begins_grid (map string_bytes pool.argv)

-- the pools that were passed aren't the grid's
abbrev pub ArePassed : List Pool → ℕ → Type 0
ArePassed pools i =
    (text : List ℕ)
    → with_text text (map plain pools) ≡ map plain (take i pools) ++ with_text text (map plain (drop i pools))

pub none_passed : (pools : List Pool) → ArePassed pools 0
none_passed pools text = refl

module _ (pools : List Pool) (i : ℕ) (pool : Pool) (within : i < length pools) (is : pool ≡ get_or pools i pool) where
  rest_is : drop i pools ≡ pool ∷ drop (i + 1) pools
  rest_is = drop_more pools i pool within ∙ ap (λ p. p ∷ drop (i + 1) pools) (sym is)

  pub grid_found : begins pool ≡ true → ArePassed pools i → IsGridPlace pools i
  grid_found begun passed = record {
    within = within;
    replaced = λ text other d with_it.
        passed text
        ∙ ap (λ ps. map plain (take i pools) ++ with_text text (map plain ps)) rest_is
        ∙ ap (λ b. map plain (take i pools)
        ++ cond b ((record (plain pool) { words = with_second text (plain pool).words }) ∷ map plain (drop (i + 1) pools))
        (plain pool ∷ with_text text (map plain (drop (i + 1) pools)))) begun
        ∙ ap (λ p. map plain (take i pools) ++ p ∷ map plain (drop (i + 1) pools))
        (ap (λ p. record (plain p) { words = with_second text (plain p).words }) (is ∙ get_or_default pools i pool d within)
        ∙ sym with_it)
        ∙ sym (map-append plain (take i pools) (other ∷ drop (i + 1) pools))
        ∙ ap (λ n. map plain (take i pools ++ other ∷ drop n pools)) (add-one i);
  }
