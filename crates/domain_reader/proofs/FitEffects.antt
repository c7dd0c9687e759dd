-- Effects without faults are fit.
use Rattle.std.proofs.Common.{◌≡◌, ℕ, ◌+◌, ◌*◌, ◌≤◌, Bool, true, false, not, nat_le, if◌then◌else◌, List, [], ◌∷◌, ◌++◌, codes, length, refl, sym, ap, ◌∙◌, subst, arith, Some, unwrap_or, length-append}
use Rattle.std.specs.List.{list_all}
use Rattle.std.specs.Str.{bytes_eq}
use Rattle.std.specs.Str.Parse.{digits_value}
use Rattle.std.proofs.lemmas.Bool.{and_from, not-true, not_from_false, false_from_ne_true}
use Rattle.lemmas.proofs.Members.{append_nil_first, append_nil_second}
use Rattle.lemmas.proofs.ListTests.{all_push}
use Rattle.sexpr_text.specs.Trees.{Trees, nothing, word, list, size}
use Rattle.task_model.specs.Fit.{is_derived_role, is_fit_application, is_fit_cost, is_fit_pattern, is_name}
use Rattle.task_model.specs.Roles.{role_of}
use Rattle.task_model.specs.declared.domain.Domain as domain
use Rattle.task_model.specs.declared.domain.Pattern.{Pattern}
use Rattle.form_reader.specs.declared.fault.Fault.{Fault}
use Rattle.form_reader.specs.declared.fault.InputKind.TheVariants.{EffectOnStatic}
use Rattle.form_reader.specs.declared.words.EffectHead.{EffectHead}
use Rattle.form_reader.specs.declared.words.EffectHead.TheVariants as head
use Rattle.form_reader.specs.declared.words.WordSort.TheVariants.{Name, Predicate, Term}
use Rattle.form_reader.specs.Effects.{by_effect, cost_faults, effect_faults, effects_faults, increase_faults, is_other_function, is_total_cost, negated_faults, total_cost_faults}
use Rattle.form_reader.specs.Faults.{number, shape, unsupported}
use Rattle.form_reader.specs.Rows.{application_faults, end_faults, head_of, inner_of, row_faults, tail_of}
use Rattle.task_model.specs.Numbers.{is_number}
use Rattle.task_model.proofs.NumbersLemmas.{number_few}
use Rattle.form_reader.specs.Words.{effect_head_of, is_predicate_name, is_refused_effect}
use Rattle.name_tables.specs.Names.{has_name, table_place}
use Rattle.name_tables.specs.Terms.{application_names, declared_place, terms_names, terms_of, use_names, width, pattern_of}
use Rattle.name_tables.specs.Variables.{unless}
use Rattle.name_tables.specs.Vocabulary.{arity_of}
use Rattle.name_tables.specs.declared.vocabulary.Vocabulary.{Vocabulary}
use Rattle.name_tables.proofs.FitTerms.{AreFilled, Knows, application_fits}
use Rattle.name_tables.proofs.NoFaultLemmas.{chosen, met, some_fault}
use Rattle.name_tables.proofs.NamesLemmas.{name_there, place_named, same_name}
use Rattle.name_tables.proofs.VariablesWidthLemmas.{name_long}
use Rattle.domain_reader.proofs.FitNames.{predicate_name}
use Rattle.domain_reader.proofs.FitRules.{place_used}
use Rattle.domain_reader.specs.Effects.{Done, added, after_effect, after_effects, changed_names, charged, cost_names, cost_term_of, effect_names, effects_names, is_derived_name, negated_names, taken}

-- ---- words

increase_word : (text : List ℕ) → effect_head_of text ≡ head.Increase → text ≡ codes "increase"
unfolding effect_head_of
increase_word text e =
    elim (bytes_eq text (codes "and")) as (λ b.
    (if b then head.And else if bytes_eq text (codes "not") then head.Not else if bytes_eq text (codes "increase") then head.Increase
    else if is_refused_effect text then head.Refused else head.Atom)
    ≡ head.Increase
    → text ≡ codes "increase") [
      | true ↦ λ f. absurd (cc)
      | false ↦ λ f. elim (bytes_eq text (codes "not")) as
          (λ b. (if b then head.Not else if bytes_eq text (codes "increase") then head.Increase else if is_refused_effect text
          then head.Refused else head.Atom)
          ≡ head.Increase
          → text ≡ codes "increase") [
            | true ↦ λ g. absurd (cc)
            | false ↦ λ g. elim (bytes_eq text (codes "increase")) as
                (λ b. bytes_eq text (codes "increase") ≡ b
                → (if b then head.Increase else if is_refused_effect text then head.Refused else head.Atom) ≡ head.Increase
                → text ≡ codes "increase") [
                  | true ↦ λ t _. same_name text (codes "increase") t
                  | false ↦ λ _ k. elim (is_refused_effect text) as
                      (λ b. (if b then head.Refused else head.Atom) ≡ head.Increase → text ≡ codes "increase") [
                        | true ↦ λ m. absurd (cc)
                        | false ↦ λ m. absurd (cc)
                      ] k
                ] refl g
          ] f
    ] e

increase_long : (text : List ℕ) → effect_head_of text ≡ head.Increase → 8 ≤ length text
increase_long text e =
    let same = increase_word text e in subst (λ t. 8 ≤ length t) (sym same) (omega arith)

total_cost_long : (place : ℕ) (items : Trees) → total_cost_faults place items ≡ [] → 10 ≤ size items
total_cost_long place nothing e = absurd (some_fault (shape place) [] e)
total_cost_long place (list items at rest) e = absurd (some_fault (shape at) [] e)
total_cost_long place (word text at rest) e =
    let same : text ≡ codes "total-cost" =
    same_name text (codes "total-cost") (chosen (is_total_cost text) (end_faults rest) (shape at) [] e).0 in
    let long : 10 ≤ length text = subst (λ t. 10 ≤ length t) (sym same) (omega arith) in
    omega arith

-- ---- what a head chooses

record Chosen (h : EffectHead) (P : Done → Type 0)
    (parts negated increased refused atom : Done) (fp fn fi fr fa np nn ni nr na : List Fault) : Type 0 where
  all : fp ≡ [] → np ≡ [] → P parts
  taken_away : fn ≡ [] → nn ≡ [] → P negated
  costs_more : h ≡ head.Increase → fi ≡ [] → ni ≡ [] → P increased
  left_out : fr ≡ [] → ⊥
  is_added : fa ≡ [] → na ≡ [] → P atom

by_head : (h : EffectHead) (P : Done → Type 0) (parts negated increased refused atom : Done) (fp fn fi fr fa np nn ni nr na : List Fault)
    → Chosen h P parts negated increased refused atom fp fn fi fr fa np nn ni nr na
    → by_effect h fp fn fi fr fa ≡ [] → by_effect h np nn ni nr na ≡ []
    → P (by_effect h parts negated increased refused atom)
by_head head.And P parts negated increased refused atom fp fn fi fr fa np nn ni nr na c f n =
    c.all f n
by_head head.Not P parts negated increased refused atom fp fn fi fr fa np nn ni nr na c f n =
    c.taken_away f n
by_head head.Increase P parts negated increased refused atom fp fn fi fr fa np nn ni nr na c f n =
    c.costs_more refl f n
by_head head.Refused P parts negated increased refused atom fp fn fi fr fa np nn ni nr na c f n =
    absurd (c.left_out f)
by_head head.Atom P parts negated increased refused atom fp fn fi fr fa np nn ni nr na c f n =
    c.is_added f n

unless_other : (b : Bool) (x : Fault) (xs ys : List Fault) → (if b then x ∷ xs else ys) ≡ []
    → ys ≡ []
unless_other true x xs ys e = absurd (some_fault x xs e)
unless_other false x xs ys e = e

-- ---- what was done so far

-- the predicates that are there and that no item heads aren't derived
abbrev pub ArePlain : Vocabulary → domain.Domain → List (List ℕ) → Type 0
ArePlain v d heads =
    (name : List ℕ) (pred : ℕ) → table_place name v.predicates.names ≡ Some pred
    → has_name name heads ≡ false → is_derived_role (role_of d pred) ≡ false

abbrev pub is_free : domain.Domain → Pattern → Bool
is_free d p = not (is_derived_role (role_of d p.pred))

-- fit effects, of a text of at most this size
pub record IsDone (d : domain.Domain) (filled : List ℕ) (most : ℕ) (c : Done) : Type 0 where
  pub adds : list_all (is_fit_pattern d (length d.constants) filled) c.adds ≡ true
  pub free_adds : list_all (is_free d) c.adds ≡ true
  pub few_adds : length c.adds ≤ most
  pub deletes : list_all (is_fit_pattern d (length d.constants) filled) c.deletes ≡ true
  pub free_deletes : list_all (is_free d) c.deletes ≡ true
  pub few_deletes : length c.deletes ≤ most
  pub costs : list_all (is_fit_cost d filled) c.costs ≡ true
  pub few_costs : length c.costs * 16 ≤ most

done_more : (d : domain.Domain) (filled : List ℕ) (most more : ℕ) (c : Done) → most ≤ more
    → IsDone d filled most c → IsDone d filled more c
done_more d filled most more c le i = record {
  adds = i.adds;
  free_adds = i.free_adds;
  few_adds = omega (arith, i.few_adds);
  deletes = i.deletes;
  free_deletes = i.free_deletes;
  few_deletes = omega (arith, i.few_deletes);
  costs = i.costs;
  few_costs = omega (arith, i.few_costs);
}

module _ (v : Vocabulary) (d : domain.Domain) (knows : Knows v d (length d.constants)) (heads scope : List (List ℕ))
    (filled : List ℕ) (slots : AreFilled filled (length scope)) (plain : ArePlain v d heads) where
  abbrev fits : Pattern → Bool
  fits = is_fit_pattern d (length d.constants) filled

  abbrev marked : List ℕ → Bool
  marked name = is_derived_name v heads name

  pattern_fits : (place : ℕ) (items : Trees) → application_faults Predicate Term place items ≡ []
      → changed_names v heads scope place items ≡ [] → fits (pattern_of v scope items) ≡ true
  pattern_fits place items f n =
      (λ i. is_fit_application (knows.predicates i) (knows.objects_long i) filled
      (declared_place v.predicates (head_of items)) (terms_of v.objects scope (tail_of items)))
      ∙ application_fits v.predicates v.objects scope filled slots Predicate Term place items f
      (append_nil_first (application_names v.predicates v.objects scope place items)
      (unless (not (marked (head_of items))) EffectOnStatic place) n)

  pattern_free : (place : ℕ) (items : Trees) → application_faults Predicate Term place items ≡ []
      → changed_names v heads scope place items ≡ [] → is_free d (pattern_of v scope items) ≡ true
  pattern_free place nothing f n = absurd (some_fault (shape place) [] f)
  pattern_free place (list items at rest) f n = absurd (some_fault (shape at) [] f)
  pattern_free place (word text at rest) f n =
      let application = application_names v.predicates v.objects scope place (word text at rest) in
      let bound = unless (not (marked text)) EffectOnStatic place in
      let uses = use_names (arity_of v.predicates text) (width rest) at place in
      let found =
      place_used v.predicates (table_place text v.predicates.names)
      (width rest) at place (append_nil_first uses (terms_names v.objects scope rest) (append_nil_first application bound n)) in
      let there : has_name text v.predicates.names ≡ true =
      name_there text v.predicates.names found.0 (place_named text v.predicates.names found.0 found.1) in
      let free : marked text ≡ false =
      not-true (marked text) (met (not (marked text)) EffectOnStatic place (append_nil_second application bound n)) in
      let absent : has_name text heads ≡ false =
      false_from_ne_true (has_name text heads)
      (λ h. let m : marked text ≡ true = and_from (has_name text heads) (has_name text v.predicates.names) h there in cc) in
      not_from_false (is_derived_role (role_of d (declared_place v.predicates text)))
      (ap (λ o. is_derived_role (role_of d (unwrap_or o 0))) found.1 ∙ plain text found.0 found.1 absent)

  cost_fits : (place : ℕ) (ts : Trees) → cost_faults place ts ≡ [] → cost_names v scope ts ≡ []
      → is_fit_cost d filled (cost_term_of v scope ts) ≡ true
  cost_fits place nothing f n = absurd (some_fault (shape place) [] f)
  cost_fits place (word text at rest) f n =
      let counts : is_number text ≡ true = (chosen (is_number text) (end_faults rest) (number at) [] f).0 in
      subst (λ b. nat_le (if b then digits_value 10 text else 0) 1000000 ≡ true) (sym counts) (number_few text counts)
  cost_fits place (list items at rest) f n =
      (λ i. is_fit_application (knows.functions i) (knows.objects_long i) filled
      (declared_place v.functions (head_of items)) (terms_of v.objects scope (tail_of items)))
      ∙ application_fits v.functions v.objects scope filled slots Name Term at items
      (append_nil_first (application_faults Name Term at items) (end_faults rest) f) n

  abbrev Fit : ℕ → Done → Type 0
  Fit = IsDone d filled

  add_done : (most place : ℕ) (c : Done) (items : Trees)
      → application_faults Predicate Term place items ≡ []
      → changed_names v heads scope place items ≡ [] → Fit most c
      → Fit (most + 1) (added v scope c items)
  add_done most place c items f n i = record {
    adds = all_push fits c.adds (pattern_of v scope items) i.adds (pattern_fits place items f n);
    free_adds = all_push (is_free d) c.adds (pattern_of v scope items) i.free_adds (pattern_free place items f n);
    few_adds = omega (arith, i.few_adds, length-append c.adds (pattern_of v scope items ∷ []));
    deletes = i.deletes;
    free_deletes = i.free_deletes;
    few_deletes = omega (arith, i.few_deletes);
    costs = i.costs;
    few_costs = omega (arith, i.few_costs);
  }

  take_done : (most place : ℕ) (c : Done) (items : Trees)
      → application_faults Predicate Term place items ≡ []
      → changed_names v heads scope place items ≡ [] → Fit most c
      → Fit (most + 1) (taken v scope c items)
  take_done most place c items f n i = record {
    adds = i.adds;
    free_adds = i.free_adds;
    few_adds = omega (arith, i.few_adds);
    deletes =
        all_push fits c.deletes (pattern_of v scope items) i.deletes (pattern_fits place items f n);
    free_deletes = all_push (is_free d) c.deletes (pattern_of v scope items) i.free_deletes (pattern_free place items f n);
    few_deletes =
        omega (arith, i.few_deletes, length-append c.deletes (pattern_of v scope items ∷ []));
    costs = i.costs;
    few_costs = omega (arith, i.few_costs);
  }

  charge_done : (most place : ℕ) (c : Done) (ts : Trees) → cost_faults place ts ≡ []
      → cost_names v scope ts ≡ [] → Fit most c → Fit (most + 16) (charged v scope c ts)
  charge_done most place c ts f n i = record {
    adds = i.adds;
    free_adds = i.free_adds;
    few_adds = omega (arith, i.few_adds);
    deletes = i.deletes;
    free_deletes = i.free_deletes;
    few_deletes = omega (arith, i.few_deletes);
    costs = all_push (is_fit_cost d filled) c.costs (cost_term_of v scope ts) i.costs (cost_fits place ts f n);
    few_costs = omega (arith, i.few_costs, length-append c.costs (cost_term_of v scope ts ∷ []));
  }

  negated_done : (most place : ℕ) (c : Done) (text : List ℕ) (ts : Trees)
      → negated_faults place ts ≡ [] → negated_names v heads scope ts ≡ [] → Fit most c
      → Fit (most + (length text + size ts)) (taken v scope c (inner_of ts))
  negated_done most place c text nothing f n i = absurd (some_fault (shape place) [] f)
  negated_done most place c text (word w at rest) f n i = absurd (some_fault (shape at) [] f)
  negated_done most place c text (list items at rest) f n i =
      done_more d filled (most + 1) (most + (length text + (size items + 2 + size rest))) (taken v scope c items)
      (omega arith) (take_done most at c items (append_nil_first (application_faults Predicate Term at items) (end_faults rest) f) n i)

  increased_done : (most place : ℕ) (c : Done) (text : List ℕ) (ts : Trees)
      → effect_head_of text ≡ head.Increase → increase_faults place ts ≡ []
      → cost_names v scope (tail_of ts) ≡ [] → Fit most c
      → Fit (most + (length text + size ts)) (charged v scope c (tail_of ts))
  increased_done most place c text nothing h f n i = absurd (some_fault (shape place) [] f)
  increased_done most place c text (word w at rest) h f n i = absurd (some_fault (shape at) [] f)
  increased_done most place c text (list items at rest) h f n i =
      let parts : total_cost_faults at items ++ cost_faults place rest ≡ [] =
      unless_other (is_other_function items) (unsupported place) [] (total_cost_faults at items ++ cost_faults place rest) f in
      let long : 10 ≤ size items =
      total_cost_long at items (append_nil_first (total_cost_faults at items) (cost_faults place rest) parts) in
      done_more d filled (most + 16) (most + (length text + (size items + 2 + size rest))) (charged v scope c rest)
      (omega (arith, increase_long text h))
      (charge_done most place c rest (append_nil_second (total_cost_faults at items) (cost_faults place rest) parts) n i)

  atom_done : (most place at : ℕ) (c : Done) (text : List ℕ) (rest : Trees)
      → application_faults Predicate Term place (word text at rest) ≡ []
      → changed_names v heads scope place (word text at rest) ≡ [] → Fit most c
      → Fit (most + (length text + size rest)) (added v scope c (word text at rest))
  atom_done most place at c text rest f n i =
      let name : is_name text ≡ true = predicate_name text (chosen (is_predicate_name text) (row_faults Term rest) (shape at) [] f).0 in
      done_more d filled (most + 1) (most + (length text + size rest))
      (added v scope c (word text at rest)) (omega (arith, name_long text name)) (add_done most place c (word text at rest) f n i)

  mutual
    effects_done : (most : ℕ) (c : Done) (ts : Trees) → effects_faults ts ≡ []
        → effects_names v heads scope ts ≡ [] → Fit most c
        → Fit (most + size ts) (after_effects v scope c ts)
    effects_done most c nothing f n i = done_more d filled most (most + 0) c (omega arith) i
    effects_done most c (word text at rest) f n i = absurd (some_fault (shape at) [] f)
    effects_done most c (list items at rest) f n i =
        let c' = after_effect v scope c items in
        let one = effect_done most at c items (append_nil_first (effect_faults at items) (effects_faults rest) f)
        (append_nil_first (effect_names v heads scope at items) (effects_names v heads scope rest) n) i in
        done_more d filled (most + size items + size rest) (most + (size items + 2 + size rest))
        (after_effects v scope c' rest) (omega arith)
        (effects_done (most + size items) c' rest (append_nil_second (effect_faults at items) (effects_faults rest) f)
        (append_nil_second (effect_names v heads scope at items) (effects_names v heads scope rest) n) one)

    pub effect_done : (most place : ℕ) (c : Done) (ts : Trees) → effect_faults place ts ≡ []
        → effect_names v heads scope place ts ≡ [] → Fit most c
        → Fit (most + size ts) (after_effect v scope c ts)
    effect_done most place c nothing f n i = done_more d filled most (most + 0) c (omega arith) i
    effect_done most place c (list items at rest) f n i = absurd (some_fault (shape at) [] f)
    effect_done most place c (word text at rest) f n i =
        by_head (effect_head_of text) (Fit (most + (length text + size rest))) (after_effects v scope c rest)
        (taken v scope c (inner_of rest)) (charged v scope c (tail_of rest)) c (added v scope c (word text at rest))
        (effects_faults rest) (negated_faults place rest) (increase_faults place rest)
        (unsupported place ∷ []) (application_faults Predicate Term place (word text at rest))
        (effects_names v heads scope rest) (negated_names v heads scope rest)
        (cost_names v scope (tail_of rest)) [] (changed_names v heads scope place (word text at rest))
        (record {
          all = λ g m. done_more d filled (most + size rest) (most + (length text + size rest)) (after_effects v scope c rest)
              (omega arith) (effects_done most c rest g m i);
          taken_away = λ g m. negated_done most place c text rest g m i;
          costs_more = λ h g m. increased_done most place c text rest h g m i;
          left_out = λ g. some_fault (unsupported place) [] g;
          is_added = λ g m. atom_done most place at c text rest g m i;
        })
        f n
