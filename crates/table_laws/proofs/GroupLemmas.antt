-- The groups of a row of types: which number stands beside which name.
use Rattle.std.proofs.Common.{◌≡◌, ℕ, ◌+◌, Bool, true, false, cond, not, List, [], ◌∷◌, ◌++◌, length, length-append, append_assoc, append-nil, refl, sym, ap, subst, ◌∙◌, ◌⊎◌, inl, inr, Contains, codes}
use Rattle.std.proofs.lemmas.Bool.{false≢true}
use Rattle.std.proofs.lemmas.List.Elements.{Contains-append_cases, Contains-append_left, Contains-append_right}
use Rattle.lemmas.proofs.Ascending.{contains_cases, contains_here, contains_later, contains_none}
use Rattle.sexpr_text.specs.Trees.{Trees, nothing, word, list}
use Rattle.form_reader.specs.Rows.{is_dash}
use Rattle.form_reader.specs.declared.groups.Spot.TheVariants.{Start, Named, Typed}
use Rattle.name_tables.proofs.NamesLemmas.{name_itself, same_name}
use Rattle.name_tables.specs.Variables.{copies, named_sorts, named_words, sort_of}
use Rattle.table_laws.specs.Under.{EndsAs, HasTyped, IsTypeBehind}

-- ---- names beside numbers

-- the name has the number beside it
abbrev pub Paired : List ℕ → ℕ → List (List ℕ) → List ℕ → Type 0
Paired n a [] ss = ⊥
Paired n a (m ∷ ns) [] = ⊥
Paired n a (m ∷ ns) (s ∷ ss) = ((n ≡ m) × (a ≡ s)) ⊎ Paired n a ns ss

module _ (n : List ℕ) (a : ℕ) where
  split_forth : (ws W : List (List ℕ)) (s : ℕ) (S : List ℕ) → Paired n a (ws ++ W) (copies (length ws) s ++ S)
      → (Contains ws n × (a ≡ s)) ⊎ Paired n a W S
  split_forth [] W s S p = inr p
  split_forth (w ∷ ws) W s S (inl here) = inl (subst (Contains (w ∷ ws)) (sym here.0) (contains_here w ws), here.1)
  split_forth (w ∷ ws) W s S (inr later) = by (split_forth ws W s S later)
    where
      by : (Contains ws n × (a ≡ s)) ⊎ Paired n a W S → (Contains (w ∷ ws) n × (a ≡ s)) ⊎ Paired n a W S
      by (inl first) = inl (contains_later w ws n first.0, first.1)
      by (inr rest) = inr rest

  split_first : (ws W : List (List ℕ)) (s : ℕ) (S : List ℕ) → Contains ws n → a ≡ s
      → Paired n a (ws ++ W) (copies (length ws) s ++ S)
  split_first [] W s S m e = absurd (contains_none n m)
  split_first (w ∷ ws) W s S m e = by (contains_cases w ws n m) (λ later. split_first ws W s S later e)
    where
      by : (w ≡ n) ⊎ Contains ws n → (Contains ws n → Paired n a (ws ++ W) (copies (length ws) s ++ S))
          → ((n ≡ w) × (a ≡ s)) ⊎ Paired n a (ws ++ W) (copies (length ws) s ++ S)
      by (inl same) more = inl (sym same, e)
      by (inr later) more = inr (more later)

  split_rest : (ws W : List (List ℕ)) (s : ℕ) (S : List ℕ) → Paired n a W S → Paired n a (ws ++ W) (copies (length ws) s ++ S)
  split_rest [] W s S p = p
  split_rest (w ∷ ws) W s S p = inr (split_rest ws W s S p)

-- ---- the groups of a row

module _ (sorts : List (List ℕ)) (object : sort_of sorts (codes "object") ≡ 0) (n : List ℕ) (a : ℕ) where
  -- a type of which this is so has the number
  abbrev pub OfType : (List ℕ → Type 0) → Type 0
  OfType IsSo = (type : List ℕ) × IsSo type × (a ≡ sort_of sorts type)

  abbrev InRow : Trees → Type 0
  InRow t = OfType (λ type. HasTyped Named n type t)

  no_type : a ≡ 0 → OfType (λ type. type ≡ codes "object")
  no_type e = (codes "object", refl, e ∙ sym object)

  type_none : OfType (λ type. type ≡ codes "object") → a ≡ 0
  type_none o = o.2 ∙ ap (sort_of sorts) o.1 ∙ object

  -- of names whose group ends here without a type
  ended_forth : (ws : List (List ℕ)) → Paired n a (ws ++ []) (copies (length ws) 0) → Contains ws n × (a ≡ 0)
  ended_forth ws p =
      by (split_forth n a ws [] 0 [] (subst (Paired n a (ws ++ [])) (sym (append-nil (copies (length ws) 0))) p))
    where
      by : (Contains ws n × (a ≡ 0)) ⊎ Paired n a [] [] → Contains ws n × (a ≡ 0)
      by (inl both) = both
      by (inr none) = absurd none

  ended_back : (ws : List (List ℕ)) → Contains ws n → a ≡ 0 → Paired n a (ws ++ []) (copies (length ws) 0)
  ended_back ws m e =
      subst (Paired n a (ws ++ [])) (append-nil (copies (length ws) 0)) (split_first n a ws [] 0 [] m e)

  abbrev pub NamedForth : Trees → Type 0
  NamedForth t =
      (ws : List (List ℕ)) → Paired n a (ws ++ named_words Named t) (named_sorts sorts Named (length ws) t)
      → (Contains ws n × OfType (λ type. EndsAs type t)) ⊎ OfType (λ type. HasTyped Named n type t)

  abbrev pub TypedForth : Trees → Type 0
  TypedForth t =
      (ws : List (List ℕ)) → Paired n a (ws ++ named_words Typed t) (named_sorts sorts Typed (length ws) t)
      → (Contains ws n × OfType (λ type. IsTypeBehind type t)) ⊎ OfType (λ type. HasTyped Typed n type t)

  abbrev pub StartForth : Trees → Type 0
  StartForth t =
      Paired n a (named_words Start t) (named_sorts sorts Start 0 t) → OfType (λ type. HasTyped Start n type t)

  abbrev pub AllForth : Trees → Type 0
  AllForth t = NamedForth t × TypedForth t × StartForth t

  -- one name more is waiting
  pushed : (ws : List (List ℕ)) (text : List ℕ) (W : List (List ℕ)) (rest : Trees)
      → Paired n a (ws ++ text ∷ W) (named_sorts sorts Named (length ws + 1) rest)
      → Paired n a ((ws ++ text ∷ []) ++ W) (named_sorts sorts Named (length (ws ++ text ∷ [])) rest)
  pushed ws text W rest p =
      subst (λ k. Paired n a ((ws ++ text ∷ []) ++ W) (named_sorts sorts Named k rest)) (sym (length-append ws (text ∷ [])))
      (subst (λ xs. Paired n a xs (named_sorts sorts Named (length ws + 1) rest)) (sym (append_assoc ws (text ∷ []) W)) p)

  abbrev at_dash : Bool → List (List ℕ) → List ℕ → Trees → Type 0
  at_dash true ws text rest = Paired n a (ws ++ named_words Typed rest) (named_sorts sorts Typed (length ws) rest)
  at_dash false ws text rest =
      Paired n a (ws ++ text ∷ named_words Named rest) (named_sorts sorts Named (length ws + 1) rest)

  dash_forth : (ws : List (List ℕ)) (text : List ℕ) (at : ℕ) (rest : Trees)
      → Paired n a (ws ++ named_words Named (word text at rest)) (named_sorts sorts Named (length ws) (word text at rest))
      → at_dash (is_dash text) ws text rest
  dash_forth ws text at rest =
      elim (is_dash text) as
      (λ b. Paired n a (ws ++ cond (not b) (text ∷ named_words (cond b Typed Named) rest) (named_words (cond b Typed Named) rest))
      (cond (not b) (named_sorts sorts Named (length ws + 1) rest) (named_sorts sorts Typed (length ws) rest))
      → at_dash b ws text rest) [
        | true ↦ λ p. p
        | false ↦ λ p. p
      ]

  dash_back : (ws : List (List ℕ)) (text : List ℕ) (at : ℕ) (rest : Trees) → at_dash (is_dash text) ws text rest
      → Paired n a (ws ++ named_words Named (word text at rest)) (named_sorts sorts Named (length ws) (word text at rest))
  dash_back ws text at rest =
      elim (is_dash text) as
      (λ b. at_dash b ws text rest
      → Paired n a (ws ++ cond (not b) (text ∷ named_words (cond b Typed Named) rest) (named_words (cond b Typed Named) rest))
      (cond (not b) (named_sorts sorts Named (length ws + 1) rest) (named_sorts sorts Typed (length ws) rest))) [
        | true ↦ λ p. p
        | false ↦ λ p. p
      ]

  -- what a name that was waiting last has, and those before it
  last_waiting : (ws : List (List ℕ)) (text : List ℕ) → Contains (ws ++ text ∷ []) n → Contains ws n ⊎ (n ≡ text)
  last_waiting ws text m = by (Contains-append_cases ws (text ∷ []) n m)
    where
      one : (text ≡ n) ⊎ Contains [] n → Contains ws n ⊎ (n ≡ text)
      one (inl same) = inr (sym same)
      one (inr none) = absurd (contains_none n none)

      by : Contains ws n ⊎ Contains (text ∷ []) n → Contains ws n ⊎ (n ≡ text)
      by (inl old) = inl old
      by (inr new) = one (contains_cases text [] n new)

  named_word : (text : List ℕ) (at : ℕ) (rest : Trees) → NamedForth rest → TypedForth rest → NamedForth (word text at rest)
  named_word text at rest named typed ws p = by (is_dash text) refl (dash_forth ws text at rest p)
    where
      with_type : is_dash text ≡ true
          → (Contains ws n × OfType (λ type. IsTypeBehind type rest)) ⊎ OfType (λ type. HasTyped Typed n type rest)
          → (Contains ws n × OfType (λ type. EndsAs type (word text at rest)))
          ⊎ OfType (λ type. HasTyped Named n type (word text at rest))
      with_type e (inl g) = inl (g.0, (g.1.0, inl (same_name text (codes "-") e, g.1.1), g.1.2))
      with_type e (inr g) = inr (g.0, inl (same_name text (codes "-") e, g.1), g.2)

      no_dash : is_dash text ≡ false → ¬ (text ≡ codes "-")
      no_dash e same = false≢true (sym e ∙ name_itself text (codes "-") same)

      first : is_dash text ≡ false → OfType (λ type. EndsAs type rest) → Contains ws n ⊎ (n ≡ text)
          → (Contains ws n × OfType (λ type. EndsAs type (word text at rest)))
          ⊎ OfType (λ type. HasTyped Named n type (word text at rest))
      first e o (inl old) = inl (old, (o.0, inr (no_dash e, o.1), o.2))
      first e o (inr new) = inr (o.0, inr (no_dash e, inl (new, o.1)), o.2)

      without : is_dash text ≡ false
          → (Contains (ws ++ text ∷ []) n × OfType (λ type. EndsAs type rest)) ⊎ OfType (λ type. HasTyped Named n type rest)
          → (Contains ws n × OfType (λ type. EndsAs type (word text at rest)))
          ⊎ OfType (λ type. HasTyped Named n type (word text at rest))
      without e (inl g) = first e g.1 (last_waiting ws text g.0)
      without e (inr g) = inr (g.0, inr (no_dash e, inr g.1), g.2)

      by : (b : Bool) → is_dash text ≡ b → at_dash b ws text rest
          → (Contains ws n × OfType (λ type. EndsAs type (word text at rest)))
          ⊎ OfType (λ type. HasTyped Named n type (word text at rest))
      by true e q = with_type e (typed ws q)
      by false e q = without e (named (ws ++ text ∷ []) (pushed ws text (named_words Named rest) rest q))

  typed_word : (text : List ℕ) (at : ℕ) (rest : Trees) → StartForth rest → TypedForth (word text at rest)
  typed_word text at rest start ws p =
      by (split_forth n a ws (named_words Start rest) (sort_of sorts text) (named_sorts sorts Start 0 rest) p)
    where
      by : (Contains ws n × (a ≡ sort_of sorts text)) ⊎ Paired n a (named_words Start rest) (named_sorts sorts Start 0 rest)
          → (Contains ws n × OfType (λ type. IsTypeBehind type (word text at rest)))
          ⊎ OfType (λ type. HasTyped Typed n type (word text at rest))
      by (inl g) = inl (g.0, (text, refl, g.1))
      by (inr q) = inr (start q)

  start_word : (text : List ℕ) (at : ℕ) (rest : Trees) → NamedForth rest → StartForth (word text at rest)
  start_word text at rest named p = by (named (text ∷ []) p)
    where
      one : OfType (λ type. EndsAs type rest) → (text ≡ n) ⊎ Contains [] n → OfType (λ type. HasTyped Start n type (word text at rest))
      one o (inl same) = (o.0, inl (sym same, o.1), o.2)
      one o (inr none) = absurd (contains_none n none)

      by : (Contains (text ∷ []) n × OfType (λ type. EndsAs type rest)) ⊎ OfType (λ type. HasTyped Named n type rest)
          → OfType (λ type. HasTyped Start n type (word text at rest))
      by (inl g) = one g.1 (contains_cases text [] n g.0)
      by (inr g) = (g.0, inr g.1, g.2)

  pub all_forth : (t : Trees) → AllForth t
  all_forth nothing = (
    λ ws p. let both = ended_forth ws p in inl (both.0, no_type both.1),
    λ ws p. let both = ended_forth ws p in inl (both.0, no_type both.1),
    λ p. absurd p,
  )
  all_forth (list items at rest) = (
    λ ws p. let both = ended_forth ws p in inl (both.0, no_type both.1),
    λ ws p. let both = ended_forth ws p in inl (both.0, no_type both.1),
    λ p. absurd p,
  )
  all_forth (word text at rest) =
      let more = all_forth rest in
      (named_word text at rest more.0 more.1, typed_word text at rest more.2, start_word text at rest more.0)

  -- ---- and back

  abbrev pub NamedBack : Trees → Type 0
  NamedBack t =
      (ws : List (List ℕ))
      → (Contains ws n × OfType (λ type. EndsAs type t)) ⊎ OfType (λ type. HasTyped Named n type t)
      → Paired n a (ws ++ named_words Named t) (named_sorts sorts Named (length ws) t)

  abbrev pub TypedBack : Trees → Type 0
  TypedBack t =
      (ws : List (List ℕ))
      → (Contains ws n × OfType (λ type. IsTypeBehind type t)) ⊎ OfType (λ type. HasTyped Typed n type t)
      → Paired n a (ws ++ named_words Typed t) (named_sorts sorts Typed (length ws) t)

  abbrev pub StartBack : Trees → Type 0
  StartBack t =
      OfType (λ type. HasTyped Start n type t) → Paired n a (named_words Start t) (named_sorts sorts Start 0 t)

  abbrev pub AllBack : Trees → Type 0
  AllBack t = NamedBack t × TypedBack t × StartBack t

  pulled : (ws : List (List ℕ)) (text : List ℕ) (W : List (List ℕ)) (rest : Trees)
      → Paired n a ((ws ++ text ∷ []) ++ W) (named_sorts sorts Named (length (ws ++ text ∷ [])) rest)
      → Paired n a (ws ++ text ∷ W) (named_sorts sorts Named (length ws + 1) rest)
  pulled ws text W rest p =
      subst (λ xs. Paired n a xs (named_sorts sorts Named (length ws + 1) rest)) (append_assoc ws (text ∷ []) W)
      (subst (λ k. Paired n a ((ws ++ text ∷ []) ++ W) (named_sorts sorts Named k rest)) (length-append ws (text ∷ [])) p)

  named_word_back : (text : List ℕ) (at : ℕ) (rest : Trees) → NamedBack rest → TypedBack rest → NamedBack (word text at rest)
  named_word_back text at rest named typed ws given = dash_back ws text at rest (by (is_dash text) refl given)
    where
      is_minus : is_dash text ≡ true → ¬ (text ≡ codes "-") → ⊥
      is_minus e other = other (same_name text (codes "-") e)

      no_minus : is_dash text ≡ false → text ≡ codes "-" → ⊥
      no_minus e same = false≢true (sym e ∙ name_itself text (codes "-") same)

      ended : (type : List ℕ) → Contains ws n → a ≡ sort_of sorts type → is_dash text ≡ true
          → ((text ≡ codes "-") × IsTypeBehind type rest) ⊎ (¬ (text ≡ codes "-") × EndsAs type rest)
          → at_dash true ws text rest
      ended type m is e (inl minus) = typed ws (inl (m, (type, minus.1, is)))
      ended type m is e (inr plain) = absurd (is_minus e plain.0)

      rowed : (type : List ℕ) → a ≡ sort_of sorts type → is_dash text ≡ true
          → ((text ≡ codes "-") × HasTyped Typed n type rest)
          ⊎ (¬ (text ≡ codes "-") × (((n ≡ text) × EndsAs type rest) ⊎ HasTyped Named n type rest))
          → at_dash true ws text rest
      rowed type is e (inl minus) = typed ws (inr (type, minus.1, is))
      rowed type is e (inr plain) = absurd (is_minus e plain.0)

      named_more : (Contains (ws ++ text ∷ []) n × OfType (λ type. EndsAs type rest)) ⊎ OfType (λ type. HasTyped Named n type rest)
          → at_dash false ws text rest
      named_more g = pulled ws text (named_words Named rest) rest (named (ws ++ text ∷ []) g)

      ended_on : (type : List ℕ) → Contains ws n → a ≡ sort_of sorts type → is_dash text ≡ false
          → ((text ≡ codes "-") × IsTypeBehind type rest) ⊎ (¬ (text ≡ codes "-") × EndsAs type rest)
          → at_dash false ws text rest
      ended_on type m is e (inl minus) = absurd (no_minus e minus.0)
      ended_on type m is e (inr plain) =
          named_more (inl (Contains-append_left ws (text ∷ []) n m, (type, plain.1, is)))

      new_or_row : (type : List ℕ) → a ≡ sort_of sorts type
          → ((n ≡ text) × EndsAs type rest) ⊎ HasTyped Named n type rest → at_dash false ws text rest
      new_or_row type is (inl new) =
          named_more (inl (
            Contains-append_right ws (text ∷ []) n (subst (Contains (text ∷ [])) (sym new.0) (contains_here text [])),
            (type, new.1, is),
          ))
      new_or_row type is (inr later) = named_more (inr (type, later, is))

      rowed_on : (type : List ℕ) → a ≡ sort_of sorts type → is_dash text ≡ false
          → ((text ≡ codes "-") × HasTyped Typed n type rest)
          ⊎ (¬ (text ≡ codes "-") × (((n ≡ text) × EndsAs type rest) ⊎ HasTyped Named n type rest))
          → at_dash false ws text rest
      rowed_on type is e (inl minus) = absurd (no_minus e minus.0)
      rowed_on type is e (inr plain) = new_or_row type is plain.1

      by : (b : Bool) → is_dash text ≡ b
          → (Contains ws n × OfType (λ type. EndsAs type (word text at rest)))
          ⊎ OfType (λ type. HasTyped Named n type (word text at rest))
          → at_dash b ws text rest
      by true e (inl g) = ended g.1.0 g.0 g.1.2 e g.1.1
      by true e (inr g) = rowed g.0 g.2 e g.1
      by false e (inl g) = ended_on g.1.0 g.0 g.1.2 e g.1.1
      by false e (inr g) = rowed_on g.0 g.2 e g.1

  typed_word_back : (text : List ℕ) (at : ℕ) (rest : Trees) → StartBack rest → TypedBack (word text at rest)
  typed_word_back text at rest start ws (inl g) =
      split_first n a ws (named_words Start rest) (sort_of sorts text) (named_sorts sorts Start 0 rest) g.0
      (g.1.2 ∙ ap (sort_of sorts) g.1.1)
  typed_word_back text at rest start ws (inr g) =
      split_rest n a ws (named_words Start rest) (sort_of sorts text) (named_sorts sorts Start 0 rest) (start g)

  start_word_back : (text : List ℕ) (at : ℕ) (rest : Trees) → NamedBack rest → StartBack (word text at rest)
  start_word_back text at rest named g = named (text ∷ []) (by g.1)
    where
      by : ((n ≡ text) × EndsAs g.0 rest) ⊎ HasTyped Named n g.0 rest
          → (Contains (text ∷ []) n × OfType (λ type. EndsAs type rest)) ⊎ OfType (λ type. HasTyped Named n type rest)
      by (inl new) = inl (subst (Contains (text ∷ [])) (sym new.0) (contains_here text []), (g.0, new.1, g.2))
      by (inr later) = inr (g.0, later, g.2)

  ended_given : (ws : List (List ℕ)) → (Contains ws n × OfType (λ type. type ≡ codes "object")) ⊎ OfType (λ type. ⊥)
      → Paired n a (ws ++ []) (copies (length ws) 0)
  ended_given ws (inl g) = ended_back ws g.0 (type_none g.1)
  ended_given ws (inr g) = absurd g.1

  pub all_back : (t : Trees) → AllBack t
  all_back nothing = (ended_given, ended_given, λ g. absurd g.1)
  all_back (list items at rest) = (ended_given, ended_given, λ g. absurd g.1)
  all_back (word text at rest) =
      let more = all_back rest in
      (named_word_back text at rest more.0 more.1, typed_word_back text at rest more.2, start_word_back text at rest more.0)
