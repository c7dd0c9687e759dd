-- Pieces that are put behind a text, one after another.
use Rattle.std.proofs.Common.{◌≡◌, ℕ, zero, suc, ◌+◌, ◌<◌, List, [], ◌∷◌, ◌++◌, length, drop, get_or, sym, ap, ◌∙◌, arith, codes, append_assoc, add-one, drop-cons}
use Rattle.std.proofs.lemmas.List.{append-nil}
use Rattle.task_model.specs.Condition.{Condition, parts_of}
use Rattle.task_model.specs.declared.condition.Term.{Term}
use Rattle.task_model.specs.declared.domain.Domain.{Domain}
use Rattle.condition_text.specs.Texts.{condition_text, more_variables, parts_text, term_text, terms_text, typed}

-- one piece more of what is to stand behind the text
pub one_put : (text spaced new piece left rest whole : List ℕ) → text ++ left ≡ whole
    → left ≡ codes " " ++ piece ++ rest → spaced ≡ text ++ codes " " → new ≡ spaced ++ piece → new ++ rest ≡ whole
one_put text spaced new piece left rest whole is starts first then =
    let apart : ((text ++ codes " ") ++ piece) ++ rest ≡ text ++ (codes " " ++ piece ++ rest) = simp append_assoc in
    ap (λ t. t ++ rest) (then ∙ ap (λ t. t ++ piece) first) ∙ apart ∙ ap (λ l. text ++ l) (sym starts) ∙ is

-- nothing is left to put
pub all_put : (text left whole : List ℕ) → text ++ left ≡ whole → left ≡ [] → text ≡ whole
all_put text left whole is none = sym (append-nil text) ∙ ap (λ l. text ++ l) (sym none) ∙ is

module _ (names : List (List ℕ)) (objects : List ℕ) where
  terms_from : (terms : List Term) (i : ℕ) (term : Term) → i < length terms → term ≡ get_or terms i term
      → terms_text names objects (drop i terms)
      ≡ codes " " ++ term_text names objects term ++ terms_text names objects (drop (suc i) terms)
  terms_from [] i term h e = absurd (omega arith)
  terms_from (t ∷ ts) zero term h e =
      ap (λ x. codes " " ++ term_text names objects x ++ terms_text names objects ts) (sym e)
  terms_from (t ∷ ts) (suc i) term h e = terms_from ts i term (omega arith) e

  pub terms_left : (terms : List Term) (i : ℕ) (term : Term) → i < length terms → term ≡ get_or terms i term
      → terms_text names objects (drop i terms)
      ≡ codes " " ++ term_text names objects term ++ terms_text names objects (drop (i + 1) terms)
  terms_left terms i term h e =
      terms_from terms i term h e
      ∙ ap (λ n. codes " " ++ term_text names objects term ++ terms_text names objects (drop n terms)) (sym (add-one i))

pub variables_left : (domain : Domain) (first : ℕ) (sorts : List ℕ) (i : ℕ) → i < length sorts
    → more_variables domain (first + i) (drop i sorts)
    ≡ codes " " ++ typed domain (first + i) (get_or sorts i 0) ++ more_variables domain (first + (i + 1)) (drop (i + 1) sorts)
variables_left domain first sorts i h =
    let next : first + i + 1 ≡ first + (i + 1) = omega arith in
    ap (more_variables domain (first + i)) (drop-cons sorts i 0 h)
    ∙ ap (λ n. codes " " ++ typed domain (first + i) (get_or sorts i 0) ++ more_variables domain n (drop (suc i) sorts)) next
    ∙ ap (λ n. codes " " ++ typed domain (first + i) (get_or sorts i 0) ++ more_variables domain (first + (i + 1)) (drop n sorts))
    (sym (add-one i))

module _ (domain : Domain) (names : List (List ℕ)) (objects : List ℕ) where
  parts_from : (parts : List Condition) (i : ℕ) (part : Condition) → i < length parts → part ≡ get_or parts i part
      → parts_text domain names objects (parts_of (drop i parts))
      ≡ codes " " ++ condition_text domain names objects part ++ parts_text domain names objects (parts_of (drop (suc i) parts))
  parts_from [] i part h e = absurd (omega arith)
  parts_from (p ∷ ps) zero part h e =
      ap (λ x. codes " " ++ condition_text domain names objects x ++ parts_text domain names objects (parts_of ps)) (sym e)
  parts_from (p ∷ ps) (suc i) part h e = parts_from ps i part (omega arith) e

  pub parts_left : (parts : List Condition) (i : ℕ) (part : Condition) → i < length parts → part ≡ get_or parts i part
      → parts_text domain names objects (parts_of (drop i parts))
      ≡ codes " " ++ condition_text domain names objects part ++ parts_text domain names objects (parts_of (drop (i + 1) parts))
  parts_left parts i part h e =
      parts_from parts i part h e
      ∙ ap (λ n. codes " " ++ condition_text domain names objects part ++ parts_text domain names objects (parts_of (drop n parts)))
      (sym (add-one i))
