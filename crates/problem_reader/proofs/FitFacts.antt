-- Facts without faults are fit.
use Rattle.std.proofs.Common.{◌≡◌, ℕ, true, not, ◌||◌, nat_lt, List, [], length, refl, sym, ap, ◌∙◌, Some, slice_get, unwrap_or, arith}
use Rattle.std.specs.List.{list_all}
use Rattle.std.proofs.lemmas.Bool.{and_from, lt-ltb}
use Rattle.sexpr_text.specs.Trees.{Trees, nothing, word, list}
use Rattle.task_model.specs.Fit.{IsFitDomain, has_arity, is_derived_role, is_fit_fact}
use Rattle.task_model.specs.Roles.{role_of}
use Rattle.task_model.specs.declared.domain.Domain.{Domain}
use Rattle.task_model.specs.declared.domain.Role.{Role}
use Rattle.form_reader.specs.declared.words.WordSort.TheVariants.{Name, Predicate}
use Rattle.form_reader.specs.declared.fault.InputKind.TheVariants.{Unknown, EffectOnStatic}
use Rattle.form_reader.specs.Faults.{shape}
use Rattle.form_reader.specs.Rows.{application_faults, row_faults}
use Rattle.form_reader.specs.Words.{is_of}
use Rattle.name_tables.specs.Names.{has_name, table_place}
use Rattle.name_tables.specs.Terms.{application_names, declared_place, terms_names, use_names, width}
use Rattle.name_tables.specs.Variables.{unless}
use Rattle.name_tables.specs.Vocabulary.{arity_of}
use Rattle.name_tables.specs.declared.vocabulary.Vocabulary.{Vocabulary}
use Rattle.name_tables.proofs.NoFaultLemmas.{chosen, met}
use Rattle.std.proofs.lemmas.Option.{slice_get_within}
use Rattle.lemmas.proofs.Members.{none_both}
use Rattle.name_tables.proofs.NamesUseLemmas.{IsUsable, place_holds, place_some, usable}
use Rattle.name_tables.proofs.VocabularyLemmas.{AreNamesOf, role_at, used_arity, used_inside}
use Rattle.problem_reader.specs.Names.{atom_names, is_derived_at}
use Rattle.problem_reader.specs.Problems.{spelled_fact, places_in_row}

-- ---- arguments

-- as many as there are words, each an object that is there
pub record AreObjects (objects : List (List ℕ)) (ts : Trees) : Type 0 where
  pub count : length (places_in_row objects ts) ≡ width ts
  pub each : list_all (λ o. nat_lt o (length objects)) (places_in_row objects ts) ≡ true

pub objects_there : (objects : List (List ℕ)) (ts : Trees) → row_faults Name ts ≡ []
    → terms_names objects [] ts ≡ [] → AreObjects objects ts
objects_there objects nothing e f = record { count = refl; each = refl }
objects_there objects (list items at rest) e f = absurd (cc)
objects_there objects (word w at rest) e f =
    let behind = none_both (unless (has_name w [] || has_name w objects) Unknown at) (terms_names objects [] rest) f in
    let more = objects_there objects rest ((chosen (is_of Name w) (row_faults Name rest) (shape at) [] e).1) behind.1 in
    let known : has_name w objects ≡ true = met (has_name w objects) Unknown at behind.0 in
    let inside = slice_get_within objects (unwrap_or (table_place w objects) 0) w (place_holds w objects known) in
    record {
      count = omega (arith, more.count);
      each = and_from (nat_lt (unwrap_or (table_place w objects) 0) (length objects))
          (list_all (λ o. nat_lt o (length objects)) (places_in_row objects rest))
          (lt-ltb (unwrap_or (table_place w objects) 0) (length objects) inside) more.each;
    }

-- ---- facts

derived_some : (roles : List Role) (k : ℕ) (r : Role) → slice_get roles k ≡ Some r
    → is_derived_at roles (Some k) ≡ is_derived_role r
derived_some roles k r e = rw e refl

module _ (d : Domain) (n : ℕ) (v : Vocabulary) (fit : IsFitDomain d) (named : AreNamesOf d n v) where
  -- the role that was looked up is the predicate's
  pub not_derived : (w : List ℕ) (count place : ℕ) → IsUsable v.predicates w count
      → unless (not (is_derived_at d.roles (table_place w v.predicates.names))) EffectOnStatic place ≡ []
      → not (is_derived_role (role_of d (declared_place v.predicates w))) ≡ true
  not_derived w count place used e =
      let at = role_at d (declared_place v.predicates w) fit.roles (used_inside d.predicates v.predicates w count named.predicates used) in
      let is : is_derived_at d.roles (table_place w v.predicates.names) ≡ is_derived_role (role_of d (declared_place v.predicates w)) =
      ap (is_derived_at d.roles) (place_some w v.predicates.names used.there)
      ∙ derived_some d.roles (declared_place v.predicates w) (role_of d (declared_place v.predicates w)) at in
      ap not (sym is) ∙ met (not (is_derived_at d.roles (table_place w v.predicates.names))) EffectOnStatic place e

  pub fact_fit : (place : ℕ) (items : Trees) → application_faults Predicate Name place items ≡ []
      → atom_names v d.roles place items ≡ []
      → is_fit_fact d (length v.objects) (spelled_fact v items) ≡ true
  fact_fit place nothing e f = absurd (cc)
  fact_fit place (list items at rest) e f = absurd (cc)
  fact_fit place (word w at rest) e f =
      let parts =
      none_both (application_names v.predicates v.objects [] place (word w at rest))
      (unless (not (is_derived_at d.roles (table_place w v.predicates.names))) EffectOnStatic place) f in
      let uses = none_both (use_names (arity_of v.predicates w) (width rest) at place) (terms_names v.objects [] rest) parts.0 in
      let used = usable v.predicates w (width rest) at place uses.0 in
      let are = objects_there v.objects rest ((chosen (is_of Predicate w) (row_faults Name rest) (shape at) [] e).1) uses.1 in
      let pred : ℕ = declared_place v.predicates w in
      let arity : has_arity d.predicates pred (length (places_in_row v.objects rest)) ≡ true =
      ap (has_arity d.predicates pred) are.count ∙ used_arity d.predicates v.predicates w (width rest) named.predicates used in
      and_from _ _ (and_from _ _ arity are.each) (not_derived w (width rest) place used parts.1)
