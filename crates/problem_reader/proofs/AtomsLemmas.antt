-- Atoms that are checked and spelled in one pass, word by word and list by list.
use Rattle.std.proofs.Common.{◌≡◌, ℕ, Bool, true, false, cond, List, [], ◌∷◌, ◌++◌, refl, sym, ap, ◌∙◌, Option, Some, None, append_assoc, is_some, unwrap_or}
use Rattle.std.specs.List.{position_or_len}
use Rattle.std.specs.Str.{bytes_eq}
use Rattle.sexpr_text.specs.Trees.{Trees, word, list}
use Rattle.task_model.specs.declared.domain.Role.{Role}
use Rattle.task_model.specs.declared.fact.Fact.{Fact}
use Rattle.form_reader.proofs.FaultsFirstLemmas.{first_append}
use Rattle.form_reader.specs.declared.fault.Fault.{Fault}
use Rattle.form_reader.specs.declared.fault.InputKind.TheVariants.{Unknown}
use Rattle.form_reader.specs.Faults.{first}
use Rattle.name_tables.specs.Names.{has_name, table_place}
use Rattle.name_tables.specs.Terms.{terms_names}
use Rattle.name_tables.specs.Variables.{unless}
use Rattle.name_tables.specs.declared.vocabulary.Vocabulary.{Vocabulary}
use Rattle.problem_reader.proofs.TablesObjectLemmas.{placed}
use Rattle.problem_reader.specs.Names.{fact_names, facts_names}
use Rattle.problem_reader.specs.Problems.{fact_if_atom, facts_of, places_in_row}

some_by : (b : Bool) (k : ℕ) → is_some (cond b (Some k) None) ≡ b
some_by true k = refl
some_by false k = refl

-- a name has a place exactly where it is there
pub some_there : (n : List ℕ) (ns : List (List ℕ)) → is_some (table_place n ns) ≡ has_name n ns
some_there n ns = ap is_some (placed n ns) ∙ some_by (has_name n ns) (position_or_len (bytes_eq n) ns)

-- ---- a word that has to name an object

module _ (objects : List (List ℕ)) (left rest : Trees) (w : List ℕ) (at : ℕ) (is : left ≡ word w at rest)
    (known : Option ℕ) (found : known ≡ table_place w objects) where
  pub word_checked : (before after : Option Fault) (there : Bool) → there ≡ is_some known
      → after ≡ first before (unless there Unknown at)
      → first before (terms_names objects [] left) ≡ first after (terms_names objects [] rest)
  word_checked before after there test one =
      ap (λ t. first before (terms_names objects [] t)) is
      ∙ first_append before (unless (has_name w objects) Unknown at) (terms_names objects [] rest)
      ∙ ap (λ b. first (first before (unless b Unknown at)) (terms_names objects [] rest))
      (sym (test ∙ ap is_some found ∙ some_there w objects))
      ∙ ap (λ f. first f (terms_names objects [] rest)) (sym one)

  pub word_placed : (row more : List ℕ) (place : ℕ) → place ≡ unwrap_or known 0 → more ≡ row ++ place ∷ []
      → row ++ places_in_row objects left ≡ more ++ places_in_row objects rest
  word_placed row more place here pushed =
      ap (λ t. row ++ places_in_row objects t) is
      ∙ ap (λ o. row ++ unwrap_or o 0 ∷ places_in_row objects rest) (sym found)
      ∙ ap (λ p. row ++ p ∷ places_in_row objects rest) (sym here)
      ∙ sym (append_assoc row (place ∷ []) (places_in_row objects rest))
      ∙ ap (λ ps. ps ++ places_in_row objects rest) (sym pushed)

-- ---- a list of `:init`

module _ (v : Vocabulary) (left items rest : Trees) (at : ℕ) (is : left ≡ list items at rest) where
  pub fact_checked : (roles : List Role) (before after : Option Fault)
      → after ≡ first before (fact_names v roles at items)
      → first before (facts_names v roles left) ≡ first after (facts_names v roles rest)
  fact_checked roles before after one =
      ap (λ t. first before (facts_names v roles t)) is
      ∙ first_append before (fact_names v roles at items) (facts_names v roles rest)
      ∙ ap (λ f. first f (facts_names v roles rest)) (sym one)

  pub fact_spelled : (old new : List Fact) → new ≡ old ++ fact_if_atom v items
      → old ++ facts_of v left ≡ new ++ facts_of v rest
  fact_spelled old new pushed =
      ap (λ t. old ++ facts_of v t) is
      ∙ sym (append_assoc old (fact_if_atom v items) (facts_of v rest))
      ∙ ap (λ fs. fs ++ facts_of v rest) (sym pushed)
