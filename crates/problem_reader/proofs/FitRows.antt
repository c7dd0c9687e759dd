-- The facts and values of an `:init` without faults.
use Rattle.std.proofs.Common.{◌≡◌, ℕ, zero, suc, ◌+◌, ◌≤◌, Bool, true, false, cond, List, [], ◌∷◌, ◌++◌, length, refl, sym, ap, ◌∙◌, Some, slice_get, arith}
use Rattle.std.specs.List.{list_all}
use Rattle.std.proofs.lemmas.Bool.{and_from}
use Rattle.lemmas.proofs.Members.{none_both}
use Rattle.sexpr_text.specs.Trees.{Trees, nothing, word, list, size}
use Rattle.task_model.specs.Fit.{IsFitDomain, is_fit_fact, is_fit_value}
use Rattle.task_model.specs.declared.domain.Domain.{Domain}
use Rattle.task_model.specs.declared.fact.Fact.{Fact}
use Rattle.task_model.specs.declared.task.Valued.{Valued}
use Rattle.form_reader.specs.Atoms.{fact_faults, facts_faults, valued_faults}
use Rattle.form_reader.specs.declared.words.WordSort.TheVariants.{Name, Predicate}
use Rattle.form_reader.specs.Rows.{application_faults, head_of, tail_of}
use Rattle.name_tables.specs.Terms.{declared_place}
use Rattle.name_tables.specs.declared.vocabulary.Vocabulary.{Vocabulary}
use Rattle.name_tables.proofs.VocabularyLemmas.{AreNamesOf}
use Rattle.problem_reader.specs.Names.{atom_names, fact_names, facts_names, is_worth, worth_names}
use Rattle.problem_reader.specs.Problems.{spelled_fact, facts_of, places_in_row, valued_of, valueds_of}
use Rattle.problem_reader.specs.Values.{Given, row_names, spelled_term, term_in, value_in, problem_value_names, value_of_term, value_put}
use Rattle.problem_reader.proofs.FitFacts.{fact_fit}
use Rattle.problem_reader.proofs.FitValues.{IsTerm, term_same, value_good}
use Rattle.problem_reader.proofs.ValuesLemmas.{IsEven, differs_not, even_put, gets, kept, value_clean}

-- ---- lengths

facts_by : (b : Bool) (fact : Fact) (facts : List Fact) (n m : ℕ) → length facts ≤ n
    → length (cond b [] (fact ∷ []) ++ facts) ≤ m + 2 + n
facts_by true fact facts n m h = omega arith
facts_by false fact facts n m h = omega arith

-- each takes two bytes
pub facts_length : (v : Vocabulary) (row : Trees) → length (facts_of v row) ≤ size row
facts_length v nothing = omega arith
facts_length v (word w at rest) = omega (arith, facts_length v rest)
facts_length v (list items at rest) =
    facts_by (is_worth items) (spelled_fact v items) (facts_of v rest) (size rest) (size items) (facts_length v rest)

valueds_by : (b : Bool) (value : Valued) (values : List Valued) (n m : ℕ) → length values ≤ n
    → length (cond b (value ∷ []) [] ++ values) ≤ m + 2 + n
valueds_by true value values n m h = omega arith
valueds_by false value values n m h = omega arith

pub valueds_length : (v : Vocabulary) (row : Trees) → length (valueds_of v row) ≤ size row
valueds_length v nothing = omega arith
valueds_length v (word w at rest) = omega (arith, valueds_length v rest)
valueds_length v (list items at rest) =
    valueds_by (is_worth items) (valued_of v items) (valueds_of v rest) (size rest) (size items) (valueds_length v rest)

-- ---- each fact and each value

module _ (d : Domain) (n : ℕ) (v : Vocabulary) (fit : IsFitDomain d) (named : AreNamesOf d n v) where
  abbrev fact_passes : Fact → Bool
  fact_passes = is_fit_fact d (length v.objects)

  abbrev value_passes : Valued → Bool
  value_passes = is_fit_value d (length v.objects)

  atom_of_list : (place : ℕ) (items : Trees) → is_worth items ≡ false → fact_faults place items ≡ []
      → fact_names v d.roles place items ≡ [] → fact_passes (spelled_fact v items) ≡ true
  atom_of_list place nothing is e f = absurd (cc)
  atom_of_list place (list items at rest) is e f = absurd (cc)
  atom_of_list place (word w at rest) is e f =
      fact_fit d n v fit named place (word w at rest)
      (ap (λ b. cond b (valued_faults place rest) (application_faults Predicate Name place (word w at rest))) (sym is) ∙ e)
      (ap (λ b. cond b (worth_names v rest) (atom_names v d.roles place (word w at rest))) (sym is) ∙ f)

  facts_step : (b : Bool) (place : ℕ) (items : Trees) (facts : List Fact) → is_worth items ≡ b
      → fact_faults place items ≡ [] → fact_names v d.roles place items ≡ []
      → list_all fact_passes facts ≡ true
      → list_all fact_passes (cond b [] (spelled_fact v items ∷ []) ++ facts) ≡ true
  facts_step true place items facts is e f more = more
  facts_step false place items facts is e f more =
      and_from (fact_passes (spelled_fact v items)) (list_all fact_passes facts) (atom_of_list place items is e f) more

  pub facts_fit : (row : Trees) → facts_faults row ≡ [] → facts_names v d.roles row ≡ []
      → list_all fact_passes (facts_of v row) ≡ true
  facts_fit nothing e f = refl
  facts_fit (word w at rest) e f = absurd (cc)
  facts_fit (list items at rest) e f =
      let forms = none_both (fact_faults at items) (facts_faults rest) e in
      let names = none_both (fact_names v d.roles at items) (facts_names v d.roles rest) f in
      facts_step (is_worth items) at items (facts_of v rest) refl forms.0 names.0 (facts_fit rest forms.1 names.1)

  values_step : (b : Bool) (place : ℕ) (items : Trees) (values : List Valued) → is_worth items ≡ b
      → fact_faults place items ≡ [] → fact_names v d.roles place items ≡ []
      → list_all value_passes values ≡ true
      → list_all value_passes (cond b (valued_of v items ∷ []) [] ++ values) ≡ true
  values_step false place items values is e f more = more
  values_step true place items values is e f more =
      and_from (value_passes (valued_of v items)) (list_all value_passes values)
      (value_good d n v named d.roles place items is e f).fit more

  pub values_fit : (row : Trees) → facts_faults row ≡ [] → facts_names v d.roles row ≡ []
      → list_all value_passes (valueds_of v row) ≡ true
  values_fit nothing e f = refl
  values_fit (word w at rest) e f = absurd (cc)
  values_fit (list items at rest) e f =
      let forms = none_both (fact_faults at items) (facts_faults rest) e in
      let names = none_both (fact_names v d.roles at items) (facts_names v d.roles rest) f in
      values_step (is_worth items) at items (valueds_of v rest) refl forms.0 names.0 (values_fit rest forms.1 names.1)

  -- ---- no term has two values

  -- what a later list says of a term whose value was given
  abbrev Agrees : Trees → ℕ → Valued → Type 0
  Agrees t x w =
      declared_place v.functions (head_of t) ≡ w.func → places_in_row v.objects (tail_of t) ≡ w.args
      → x ≡ w.value

  here_agrees : (g : Given) (place : ℕ) (items t : Trees) (x : ℕ) → IsTerm v t
      → value_of_term g (spelled_term t) ≡ Some x → is_worth items ≡ true → fact_faults place items ≡ []
      → fact_names v d.roles place items ≡ [] → problem_value_names g place items ≡ []
      → Agrees t x (valued_of v items)
  here_agrees g place items t x term given is e f h func args =
      let good = value_good d n v named d.roles place items is e f in
      let same : spelled_term t ≡ spelled_term (term_in items) = term_same v t (term_in items) term good.term func args in
      differs_not g (spelled_term (term_in items)) x (value_in items) (ap (value_of_term g) (sym same) ∙ given) (value_clean g place items is h)

  step_agrees : (b : Bool) (g : Given) (place : ℕ) (items t : Trees) (x : ℕ) (values : List Valued)
      → IsTerm v t → value_of_term g (spelled_term t) ≡ Some x → is_worth items ≡ b
      → fact_faults place items ≡ [] → fact_names v d.roles place items ≡ []
      → problem_value_names g place items ≡ []
      → ((j : ℕ) (w : Valued) → slice_get values j ≡ Some w → Agrees t x w) → (j : ℕ) (w : Valued)
      → slice_get (cond b (valued_of v items ∷ []) [] ++ values) j ≡ Some w → Agrees t x w
  step_agrees false g place items t x values term given is e f h more j w at = more j w at
  step_agrees true g place items t x values term given is e f h more (suc j) w at = more j w at
  step_agrees true g place items t x values term given is e f h more zero w at =
      let same : valued_of v items ≡ w = cc in
      λ func args. here_agrees g place items t x term given is e f h
      (func ∙ ap (λ (u : Valued). u.func) (sym same)) (args ∙ ap (λ (u : Valued). u.args) (sym same))
      ∙ ap (λ (u : Valued). u.value) same

  later_agrees : (g : Given) (row t : Trees) (x : ℕ) → IsTerm v t → value_of_term g (spelled_term t) ≡ Some x
      → facts_faults row ≡ [] → facts_names v d.roles row ≡ [] → row_names g row ≡ []
      → (j : ℕ) (w : Valued) → slice_get (valueds_of v row) j ≡ Some w → Agrees t x w
  later_agrees g nothing t x term given e f h = λ j w at. absurd (cc)
  later_agrees g (word w' at' rest) t x term given e f h = absurd (cc)
  later_agrees g (list items place rest) t x term given e f h =
      let forms = none_both (fact_faults place items) (facts_faults rest) e in
      let names = none_both (fact_names v d.roles place items) (facts_names v d.roles rest) f in
      let values = none_both (problem_value_names g place items) (row_names (value_put g items) rest) h in
      step_agrees (is_worth items) g place items t x (valueds_of v rest) term given refl forms.0 names.0 values.0
      (later_agrees (value_put g items) rest t x term (kept g items (spelled_term t) x given) forms.1 names.1 values.1)

  abbrev HaveOne : List Valued → Type 0
  HaveOne values =
      (i j : ℕ) (u w : Valued) → slice_get values i ≡ Some u → slice_get values j ≡ Some w
      → u.func ≡ w.func → u.args ≡ w.args → u.value ≡ w.value

  same_valued : (u w : Valued) → Some u ≡ Some w → u ≡ w
  same_valued u w e = cc

  one_step : (b : Bool) (items : Trees) (values : List Valued)
      → (b ≡ true → (j : ℕ) (w : Valued) → slice_get values j ≡ Some w → Agrees (term_in items) (value_in items) w)
      → HaveOne values → HaveOne (cond b (valued_of v items ∷ []) [] ++ values)
  one_step false items values later more i j u w p q func args = more i j u w p q func args
  one_step true items values later more (suc i) (suc j) u w p q func args =
      more i j u w p q func args
  one_step true items values later more zero zero u w p q func args =
      ap (λ (x : Valued). x.value) (same_valued u w (sym p ∙ q))
  one_step true items values later more zero (suc j) u w p q func args =
      let same : valued_of v items ≡ u = same_valued (valued_of v items) u p in
      sym (ap (λ (x : Valued). x.value) same)
      ∙ later refl j w q (ap (λ (x : Valued). x.func) same ∙ func) (ap (λ (x : Valued). x.args) same ∙ args)
  one_step true items values later more (suc i) zero u w p q func args =
      let same : valued_of v items ≡ w = same_valued (valued_of v items) w q in
      sym (later refl i u p (ap (λ (x : Valued). x.func) same ∙ sym func) (ap (λ (x : Valued). x.args) same ∙ sym args))
      ∙ ap (λ (x : Valued). x.value) same

  pub one_value : (g : Given) (row : Trees) → IsEven g → facts_faults row ≡ []
      → facts_names v d.roles row ≡ [] → row_names g row ≡ [] → HaveOne (valueds_of v row)
  one_value g nothing even e f h = λ i j u w p. absurd (cc)
  one_value g (word w' at rest) even e f h = absurd (cc)
  one_value g (list items place rest) even e f h =
      let forms = none_both (fact_faults place items) (facts_faults rest) e in
      let names = none_both (fact_names v d.roles place items) (facts_names v d.roles rest) f in
      let values = none_both (problem_value_names g place items) (row_names (value_put g items) rest) h in
      one_step (is_worth items) items (valueds_of v rest)
      (λ is. later_agrees (value_put g items) rest (term_in items) (value_in items)
      (value_good d n v named d.roles place items is forms.0 names.0).term
      (gets g place items even is (value_clean g place items is values.0)) forms.1 names.1 values.1)
      (one_value (value_put g items) rest (even_put g items even) forms.1 names.1 values.1)
