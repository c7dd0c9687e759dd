-- What an action adds and takes away.
use Rattle.std.proofs.Common.{◌≡◌, ℕ, Bool, true, false, List, [], ◌∷◌, ◌++◌, refl, sym, ap, subst, ◌∙◌, ◌⊎◌, inl, inr, Contains, codes}
use Rattle.std.proofs.lemmas.Bool.{false≢true}
use Rattle.std.proofs.lemmas.List.Elements.{Contains-append_cases, Contains-append_left, Contains-append_right}
use Rattle.lemmas.proofs.Ascending.{contains_cases, contains_here, contains_none}
use Rattle.sexpr_text.specs.Trees.{Trees, nothing, word, list}
use Rattle.form_reader.specs.Effects.{by_effect}
use Rattle.form_reader.specs.Rows.{inner_of, tail_of}
use Rattle.form_reader.specs.Words.{effect_head_of}
use Rattle.form_reader.specs.declared.words.EffectHead.{EffectHead}
use Rattle.form_reader.specs.declared.words.EffectHead.TheVariants as effect
use Rattle.form_reader.specs.declared.groups.Spot.TheVariants.{Start}
use Rattle.name_tables.specs.Terms.{pattern_of}
use Rattle.name_tables.specs.Texts.{body_of, value_at}
use Rattle.name_tables.specs.Variables.{named_words}
use Rattle.name_tables.specs.declared.vocabulary.Vocabulary.{Vocabulary}
use Rattle.domain_reader.specs.Domains.{IsDomainRead, domain_names, done_by, nothing_done}
use Rattle.domain_reader.specs.Effects.{Done, added, after_effect, after_effects, charged, taken}
use Rattle.task_model.specs.declared.domain.Domain.{Domain}
use Rattle.task_model.specs.declared.domain.Pattern.{Pattern}
use Rattle.table_laws.proofs.DomainLemmas.{from_actions}
use Rattle.table_laws.proofs.ItemLemmas.{IsHeadOf, and_head, atom_is_head, head_of_effect, not_head}
use Rattle.table_laws.specs.Changed.{AddAndDeleteLiterals, AreLiterals, BeginsAtom, Changes, IsOfItem, RowChanges}

-- the patterns that are added, or those that are taken away
abbrev changed : Bool → Done → List Pattern
changed true c = c.adds
changed false c = c.deletes

pushed : (xs : List Pattern) (x p : Pattern) → Contains (xs ++ x ∷ []) p → Contains xs p ⊎ (p ≡ x)
pushed xs x p m = by (Contains-append_cases xs (x ∷ []) p m)
  where
    last : (x ≡ p) ⊎ Contains [] p → Contains xs p ⊎ (p ≡ x)
    last (inl same) = inr (sym same)
    last (inr none) = absurd (contains_none p none)

    by : Contains xs p ⊎ Contains (x ∷ []) p → Contains xs p ⊎ (p ≡ x)
    by (inl old) = inl old
    by (inr new) = last (contains_cases x [] p new)

push_last : (xs : List Pattern) (x : Pattern) → Contains (xs ++ x ∷ []) x
push_last xs x = Contains-append_right xs (x ∷ []) x (contains_here x [])

module _ (v : Vocabulary) (scope : List (List ℕ)) (adds : Bool) (p : Pattern) where
  -- one of the literals has the pattern
  abbrev InRow : Trees → Type 0
  InRow t = (atom : Trees) × RowChanges adds atom t × (p ≡ pattern_of v scope atom)

  abbrev InOne : Trees → Type 0
  InOne t = (atom : Trees) × Changes adds atom t × (p ≡ pattern_of v scope atom)

  abbrev Has : Done → Type 0
  Has c = Contains (changed adds c) p

  -- ---- what is changed is a literal

  abbrev parts_by : EffectHead → Done → List ℕ → ℕ → Trees → Done
  parts_by h c text at rest =
      by_effect h (after_effects v scope c rest) (taken v scope c (inner_of rest)) (charged v scope c (tail_of rest)) c
      (added v scope c (word text at rest))

  in_and : (text : List ℕ) (at : ℕ) (rest : Trees) → text ≡ codes "and" → InRow rest → InOne (word text at rest)
  in_and text at rest e g = (g.0, inl (e, g.1), g.2)

  or_and : (c : Done) (text : List ℕ) (at : ℕ) (rest : Trees) → text ≡ codes "and" → Has c ⊎ InRow rest
      → Has c ⊎ InOne (word text at rest)
  or_and c text at rest e (inl old) = inl old
  or_and c text at rest e (inr new) = inr (in_and text at rest e new)

  taken_forth : (b : Bool) → b ≡ adds → (c : Done) (text : List ℕ) (at : ℕ) (rest : Trees) → text ≡ codes "not"
      → Contains (changed b (taken v scope c (inner_of rest))) p → Contains (changed b c) p ⊎ InOne (word text at rest)
  taken_forth true is c text at rest e m = inl m
  taken_forth false is c text at rest e m = by (pushed c.deletes (pattern_of v scope (inner_of rest)) p m)
    where
      by : Contains c.deletes p ⊎ (p ≡ pattern_of v scope (inner_of rest)) → Contains c.deletes p ⊎ InOne (word text at rest)
      by (inl old) = inl old
      by (inr new) = inr (inner_of rest, inr (inl (e, sym is, refl)), new)

  added_forth : (b : Bool) → b ≡ adds → (c : Done) (text : List ℕ) (at : ℕ) (rest : Trees) → BeginsAtom text
      → Contains (changed b (added v scope c (word text at rest))) p → Contains (changed b c) p ⊎ InOne (word text at rest)
  added_forth false is c text at rest e m = inl m
  added_forth true is c text at rest e m = by (pushed c.adds (pattern_of v scope (word text at rest)) p m)
    where
      by : Contains c.adds p ⊎ (p ≡ pattern_of v scope (word text at rest)) → Contains c.adds p ⊎ InOne (word text at rest)
      by (inl old) = inl old
      by (inr new) = inr (word text at rest, inr (inr (e, sym is, refl)), new)

  charged_forth : (b : Bool) (c : Done) (rest : Trees) → Contains (changed b (charged v scope c rest)) p
      → Contains (changed b c) p
  charged_forth true c rest m = m
  charged_forth false c rest m = m

  head_forth : (h : EffectHead) (c : Done) (text : List ℕ) (at : ℕ) (rest : Trees) → IsHeadOf h text
      → (Has (after_effects v scope c rest) → Has c ⊎ InRow rest) → Has (parts_by h c text at rest)
      → Has c ⊎ InOne (word text at rest)
  head_forth effect.And c text at rest e further m = or_and c text at rest e (further m)
  head_forth effect.Not c text at rest e further m = taken_forth adds refl c text at rest e m
  head_forth effect.Increase c text at rest e further m = inl (charged_forth adds c (tail_of rest) m)
  head_forth effect.Refused c text at rest e further m = inl m
  head_forth effect.Atom c text at rest e further m = added_forth adds refl c text at rest e m

  front : (items : Trees) (at : ℕ) (rest : Trees) (c : Done) → Has c ⊎ InOne items → Has c ⊎ InRow (list items at rest)
  front items at rest c (inl old) = inl old
  front items at rest c (inr g) = inr (g.0, inl g.1, g.2)

  row_cases : (items : Trees) (at : ℕ) (rest : Trees) (c : Done) → Has (after_effect v scope c items) ⊎ InRow rest
      → (Has (after_effect v scope c items) → Has c ⊎ InOne items) → Has c ⊎ InRow (list items at rest)
  row_cases items at rest c (inl first) one = front items at rest c (one first)
  row_cases items at rest c (inr g) one = inr (g.0, inr g.1, g.2)

  mutual
    row_forth : (t : Trees) (c : Done) → Has (after_effects v scope c t) → Has c ⊎ InRow t
    row_forth nothing c m = inl m
    row_forth (word text at rest) c m = row_forth rest c m
    row_forth (list items at rest) c m =
        row_cases items at rest c (row_forth rest (after_effect v scope c items) m) (one_forth items c)

    one_forth : (t : Trees) (c : Done) → Has (after_effect v scope c t) → Has c ⊎ InOne t
    one_forth nothing c m = inl m
    one_forth (word text at rest) c m =
        head_forth (effect_head_of text) c text at rest (head_of_effect text) (row_forth rest c) m
    one_forth (list items at rest) c m = inl m

  -- ---- a literal is changed

  taken_back : (b : Bool) → b ≡ adds → (c : Done) (atom : Trees) → adds ≡ false → p ≡ pattern_of v scope atom
      → Contains (changed b (taken v scope c atom)) p
  taken_back true is c atom gone e = absurd (false≢true (sym gone ∙ sym is))
  taken_back false is c atom gone e =
      subst (λ x. Contains (c.deletes ++ pattern_of v scope atom ∷ []) x) (sym e) (push_last c.deletes (pattern_of v scope atom))

  added_back : (b : Bool) → b ≡ adds → (c : Done) (atom : Trees) → adds ≡ true → p ≡ pattern_of v scope atom
      → Contains (changed b (added v scope c atom)) p
  added_back false is c atom new e = absurd (false≢true (is ∙ new))
  added_back true is c atom new e =
      subst (λ x. Contains (c.adds ++ pattern_of v scope atom ∷ []) x) (sym e) (push_last c.adds (pattern_of v scope atom))

  taken_keeps : (b : Bool) (c : Done) (atom : Trees) → Contains (changed b c) p → Contains (changed b (taken v scope c atom)) p
  taken_keeps true c atom m = m
  taken_keeps false c atom m = Contains-append_left c.deletes (pattern_of v scope atom ∷ []) p m

  added_keeps : (b : Bool) (c : Done) (atom : Trees) → Contains (changed b c) p → Contains (changed b (added v scope c atom)) p
  added_keeps true c atom m = Contains-append_left c.adds (pattern_of v scope atom ∷ []) p m
  added_keeps false c atom m = m

  charged_keeps : (b : Bool) (c : Done) (rest : Trees) → Contains (changed b c) p
      → Contains (changed b (charged v scope c rest)) p
  charged_keeps true c rest m = m
  charged_keeps false c rest m = m

  head_keeps : (h : EffectHead) (c : Done) (text : List ℕ) (at : ℕ) (rest : Trees)
      → (Has c → Has (after_effects v scope c rest)) → Has c → Has (parts_by h c text at rest)
  head_keeps effect.And c text at rest further m = further m
  head_keeps effect.Not c text at rest further m = taken_keeps adds c (inner_of rest) m
  head_keeps effect.Increase c text at rest further m = charged_keeps adds c (tail_of rest) m
  head_keeps effect.Refused c text at rest further m = m
  head_keeps effect.Atom c text at rest further m = added_keeps adds c (word text at rest) m

  mutual
    row_keeps : (t : Trees) (c : Done) → Has c → Has (after_effects v scope c t)
    row_keeps nothing c m = m
    row_keeps (word text at rest) c m = row_keeps rest c m
    row_keeps (list items at rest) c m = row_keeps rest (after_effect v scope c items) (one_keeps items c m)

    one_keeps : (t : Trees) (c : Done) → Has c → Has (after_effect v scope c t)
    one_keeps nothing c m = m
    one_keeps (word text at rest) c m = head_keeps (effect_head_of text) c text at rest (row_keeps rest c) m
    one_keeps (list items at rest) c m = m

  -- by what the head is
  and_back : (c : Done) (text : List ℕ) (at : ℕ) (rest : Trees) → text ≡ codes "and" → Has (after_effects v scope c rest)
      → Has (after_effect v scope c (word text at rest))
  and_back c text at rest e m =
      subst (λ h. Has (parts_by h c text at rest)) (sym (ap effect_head_of e ∙ and_head)) m

  not_back : (c : Done) (text : List ℕ) (at : ℕ) (rest atom : Trees) → text ≡ codes "not" → adds ≡ false
      → atom ≡ inner_of rest → p ≡ pattern_of v scope atom → Has (after_effect v scope c (word text at rest))
  not_back c text at rest atom e gone same is =
      subst (λ h. Has (parts_by h c text at rest)) (sym (ap effect_head_of e ∙ not_head))
      (taken_back adds refl c (inner_of rest) gone (is ∙ ap (pattern_of v scope) same))

  atom_back : (c : Done) (text : List ℕ) (at : ℕ) (rest atom : Trees) → BeginsAtom text → adds ≡ true
      → atom ≡ word text at rest → p ≡ pattern_of v scope atom → Has (after_effect v scope c (word text at rest))
  atom_back c text at rest atom e new same is =
      subst (λ h. Has (parts_by h c text at rest)) (sym (atom_is_head text e))
      (added_back adds refl c (word text at rest) new (is ∙ ap (pattern_of v scope) same))

  head_back : (c : Done) (text : List ℕ) (at : ℕ) (rest atom : Trees) → p ≡ pattern_of v scope atom
      → (RowChanges adds atom rest → Has (after_effects v scope c rest)) → Changes adds atom (word text at rest)
      → Has (after_effect v scope c (word text at rest))
  head_back c text at rest atom is further (inl both) = and_back c text at rest both.0 (further both.1)
  head_back c text at rest atom is further (inr (inl gone)) = not_back c text at rest atom gone.0 gone.1 gone.2 is
  head_back c text at rest atom is further (inr (inr plain)) = atom_back c text at rest atom plain.0 plain.1 plain.2 is

  row_split : (items : Trees) (at : ℕ) (rest : Trees) (c : Done) (atom : Trees)
      → (Changes adds atom items → Has (after_effect v scope c items))
      → (RowChanges adds atom rest → Has (after_effects v scope (after_effect v scope c items) rest))
      → Changes adds atom items ⊎ RowChanges adds atom rest → Has (after_effects v scope (after_effect v scope c items) rest)
  row_split items at rest c atom one further (inl here) = row_keeps rest (after_effect v scope c items) (one here)
  row_split items at rest c atom one further (inr later) = further later

  module _ (atom : Trees) (is : p ≡ pattern_of v scope atom) where
    mutual
      row_back : (t : Trees) (c : Done) → RowChanges adds atom t → Has (after_effects v scope c t)
      row_back nothing c there = absurd there
      row_back (word text at rest) c there = row_back rest c there
      row_back (list items at rest) c there =
          row_split items at rest c atom (one_back items c) (row_back rest (after_effect v scope c items)) there

      one_back : (t : Trees) (c : Done) → Changes adds atom t → Has (after_effect v scope c t)
      one_back nothing c there = absurd there
      one_back (word text at rest) c there = head_back c text at rest atom is (row_back rest c) there
      one_back (list items at rest) c there = absurd there

-- ---- the law

new_only : (v : Vocabulary) (scope : List (List ℕ)) (adds : Bool) (p : Pattern) (t : Trees)
    → Contains (changed adds nothing_done) p ⊎ ((atom : Trees) × Changes adds atom t × (p ≡ pattern_of v scope atom))
    → (atom : Trees) × Changes adds atom t × (p ≡ pattern_of v scope atom)
new_only v scope true p t (inl old) = absurd (contains_none p old)
new_only v scope false p t (inl old) = absurd (contains_none p old)
new_only v scope adds p t (inr new) = new

literals : (v : Vocabulary) (adds : Bool) (keys : Trees) → AreLiterals adds v keys (changed adds (done_by v keys))
literals v adds keys p =
    let scope = named_words Start (value_at (codes ":parameters") keys) in
    let t = value_at (codes ":effect") keys in (
      λ m. new_only v scope adds p t (one_forth v scope adds p t nothing_done m),
      λ g. one_back v scope adds p g.0 g.2 t nothing_done g.1,
    )

pub literals_changed : (t : Trees) (d : Domain) → IsDomainRead t d → AddAndDeleteLiterals t d
literals_changed t d is a m =
    let v = domain_names t in
    let it = from_actions v (body_of t) a (subst (λ as'. Contains as' a) is.domain.parts.actions m) in (
      it.0,
      it.1,
      subst (IsOfItem v it.0) (sym it.2) (record {
        name = refl;
        adds = literals v true (tail_of it.0);
        deletes = literals v false (tail_of it.0);
      }),
    )
