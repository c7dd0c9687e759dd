-- Conditions without faults are fit: sound, and as deep as their trees.
use Rattle.std.proofs.Common.{◌≡◌, ℕ, ◌+◌, ◌<◌, ◌≤◌, true, ◌&&◌, nat_le, List, [], ◌∷◌, ◌++◌, length, refl, sym, ◌∙◌, subst, arith, le-leb, length-append}
use Rattle.std.specs.Cmp.{first_so, second_so}
use Rattle.std.specs.List.{list_all}
use Rattle.std.proofs.lemmas.Bool.{and_from}
use Rattle.lemmas.proofs.Members.{append_nil_first, append_nil_second}
use Rattle.sexpr_text.specs.Trees.{Trees, nothing, word, list, depth, size}
use Rattle.task_model.specs.Condition.{Condition, Conditions, Atom, All as every, Any, Not, Exists}
use Rattle.task_model.specs.Fit.{are_places, are_sound, count_of, depth_of, depths_of, is_fit_application, is_fit_condition, is_fit_term, is_sound}
use Rattle.lemmas.specs.Lists.{numbers_from}
use Rattle.task_model.specs.declared.condition.Term.{Term}
use Rattle.task_model.specs.declared.domain.Domain.{Domain}
use Rattle.form_reader.specs.declared.fault.Fault.{Fault}
use Rattle.form_reader.specs.declared.groups.Spot.TheVariants.{Start}
use Rattle.form_reader.specs.declared.words.ConditionHead.{ConditionHead}
use Rattle.form_reader.specs.declared.words.ConditionHead.TheVariants as head
use Rattle.form_reader.specs.declared.words.WordSort.TheVariants.{Predicate, Term as Term', Variable}
use Rattle.form_reader.specs.Conditions.{by_condition, condition_faults, conditions_faults, exists_faults, single_faults}
use Rattle.form_reader.specs.Faults.{shape, unsupported}
use Rattle.form_reader.specs.Rows.{application_faults, end_faults, groups_faults, two_faults}
use Rattle.form_reader.specs.Words.{condition_head_of}
use Rattle.name_tables.specs.Conditions.{condition_by, condition_names, condition_of, conditions_names, conditions_of, equal_of, exists_names, exists_of, single_of}
use Rattle.name_tables.specs.Terms.{application_names, declared_place, terms_names, terms_of}
use Rattle.name_tables.specs.Variables.{doubles_names, named_sorts, named_words, scope_names, types_names, variables_names}
use Rattle.name_tables.specs.declared.vocabulary.Vocabulary.{Vocabulary}
use Rattle.name_tables.proofs.FitGroups.{few_places, scope_bound, sorts_as_long}
use Rattle.name_tables.proofs.FitTerms.{AreFilled, Knows, application_fits, filled_more, terms_fit}
use Rattle.name_tables.proofs.NoFaultLemmas.{some_fault}

-- ---- what a head chooses

-- no faults of what the head chooses, and what follows from it
record Chosen (h : ConditionHead) (P : Condition → Type 0) (parts : Conditions)
    (single quantified equal atom : Condition) (fp fs fq fe fr fa np ns nq ne nr na : List Fault) : Type 0 where
  all : fp ≡ [] → np ≡ [] → P (every parts)
  any : fp ≡ [] → np ≡ [] → P (Any parts)
  negated : fs ≡ [] → ns ≡ [] → P (Not single)
  exist : fq ≡ [] → nq ≡ [] → P quantified
  equals : fe ≡ [] → ne ≡ [] → P equal
  refused : fr ≡ [] → ⊥
  atoms : fa ≡ [] → na ≡ [] → P atom

by_head : (h : ConditionHead) (P : Condition → Type 0) (parts : Conditions)
    (single quantified equal atom : Condition) (fp fs fq fe fr fa np ns nq ne nr na : List Fault)
    → Chosen h P parts single quantified equal atom fp fs fq fe fr fa np ns nq ne nr na
    → by_condition h fp fs fq fe fr fa ≡ [] → by_condition h np ns nq ne nr na ≡ []
    → P (condition_by h parts single quantified equal atom)
by_head head.And P parts single quantified equal atom fp fs fq fe fr fa np ns nq ne nr na c f n =
    c.all f n
by_head head.Or P parts single quantified equal atom fp fs fq fe fr fa np ns nq ne nr na c f n =
    c.any f n
by_head head.Not P parts single quantified equal atom fp fs fq fe fr fa np ns nq ne nr na c f n =
    c.negated f n
by_head head.Exists P parts single quantified equal atom fp fs fq fe fr fa np ns nq ne nr na c f n =
    c.exist f n
by_head head.Equal P parts single quantified equal atom fp fs fq fe fr fa np ns nq ne nr na c f n =
    c.equals f n
by_head head.Refused P parts single quantified equal atom fp fs fq fe fr fa np ns nq ne nr na c f n =
    absurd (c.refused f)
by_head head.Atom P parts single quantified equal atom fp fs fq fe fr fa np ns nq ne nr na c f n =
    c.atoms f n

-- ---- how many parts

parts_count : (v : Vocabulary) (scope : List (List ℕ)) (ts : Trees)
    → count_of (conditions_of v scope ts) ≤ size ts
parts_count v scope nothing = omega arith
parts_count v scope (word text at rest) = omega (arith, parts_count v scope rest)
parts_count v scope (list items at rest) = omega (arith, parts_count v scope rest)

-- ---- soundness

module _ (v : Vocabulary) (domain : Domain) (objects : ℕ) (knows : Knows v domain objects) where
  abbrev Sound : List ℕ → Condition → Type 0
  Sound filled c = is_sound domain objects c filled ≡ true

  equal_sound : (filled : List ℕ) (terms : List Term)
      → list_all (is_fit_term objects filled) terms ≡ true → Sound filled (equal_of terms)
  equal_sound filled [] e = refl
  equal_sound filled (s ∷ []) e =
      and_from (is_fit_term objects filled s) (is_fit_term objects filled s)
      (first_so (is_fit_term objects filled s) true e) (first_so (is_fit_term objects filled s) true e)
  equal_sound filled (s ∷ t ∷ ts) e =
      let rest = second_so (is_fit_term objects filled s) (list_all (is_fit_term objects filled) (t ∷ ts)) e in
      and_from (is_fit_term objects filled s) (is_fit_term objects filled t)
      (first_so (is_fit_term objects filled s) (list_all (is_fit_term objects filled) (t ∷ ts)) e)
      (first_so (is_fit_term objects filled t) (list_all (is_fit_term objects filled) ts) rest)

  terms_sound : (scope : List (List ℕ)) (filled : List ℕ) (slots : AreFilled filled (length scope)) (ts : Trees)
      → terms_names v.objects scope ts ≡ []
      → list_all (is_fit_term objects filled) (terms_of v.objects scope ts) ≡ true
  terms_sound scope filled slots ts e =
      subst (λ n. list_all (is_fit_term n filled) (terms_of v.objects scope ts) ≡ true)
      (sym knows.objects_long) (terms_fit v.objects scope filled slots ts e)

  atom_sound : (scope : List (List ℕ)) (filled : List ℕ) (slots : AreFilled filled (length scope)) (place : ℕ) (text : List ℕ)
      (at : ℕ) (rest : Trees)
      → application_faults Predicate Term' place (word text at rest) ≡ []
      → application_names v.predicates v.objects scope place (word text at rest) ≡ []
      → Sound filled (Atom (declared_place v.predicates text) (terms_of v.objects scope rest))
  atom_sound scope filled slots place text at rest f n =
      (λ i. is_fit_application (knows.predicates i) (knows.objects_long i) filled
      (declared_place v.predicates text) (terms_of v.objects scope rest))
      ∙ application_fits v.predicates v.objects scope filled slots Predicate Term' place (word text at rest) f n

  all_sound : (filled : List ℕ) (scope : List (List ℕ)) (ts : Trees) → size ts ≤ 8388608
      → are_sound domain objects (conditions_of v scope ts) filled ≡ true
      → (nat_le (count_of (conditions_of v scope ts)) 8388608 && are_sound domain objects (conditions_of v scope ts) filled) ≡ true
  all_sound filled scope ts few s =
      and_from (nat_le (count_of (conditions_of v scope ts)) 8388608) (are_sound domain objects (conditions_of v scope ts) filled)
      (le-leb (count_of (conditions_of v scope ts)) 8388608 (omega (arith, parts_count v scope ts))) s

  -- the variables of a condition, with a sound condition
  exists_sound : (scope : List (List ℕ)) (filled : List ℕ) (items : Trees) (body : Condition)
      → length scope ≤ 16 → variables_names v.sorts (length scope) items ≡ []
      → (length (scope ++ named_words Start items) ≤ 16
      → Sound (numbers_from (length scope) (length (named_sorts v.sorts Start 0 items)) ++ filled) body)
      → Sound filled (Exists (length scope) (named_sorts v.sorts Start 0 items) body)
  exists_sound scope filled items body few n sound =
      let doubles = doubles_names [] Start items in
      let scopes = scope_names (length scope) Start items in
      let types : types_names v.sorts Start items ≡ [] =
      append_nil_first (types_names v.sorts Start items) doubles
      (append_nil_first (types_names v.sorts Start items ++ doubles) scopes n) in
      let room : length scope + length (named_words Start items) ≤ 16 =
      scope_bound (length scope) Start items few (append_nil_second (types_names v.sorts Start items ++ doubles) scopes n) in
      let long : length (named_sorts v.sorts Start 0 items) ≡ length (named_words Start items) = sorts_as_long v.sorts items in
      let places : are_places (length domain.sorts) (named_sorts v.sorts Start 0 items) ≡ true =
      subst (λ k. are_places k (named_sorts v.sorts Start 0 items) ≡ true)
      (sym knows.sorts) (few_places v.sorts knows.typed items (omega arith) types) in
      and_from _ _ (and_from _ _ (le-leb (length scope + length (named_sorts v.sorts Start 0 items)) 16 (omega arith)) places)
      (sound (omega (arith, length-append scope (named_words Start items))))

  filled_inside : (scope : List (List ℕ)) (filled : List ℕ) (items : Trees)
      → AreFilled filled (length scope)
      → AreFilled (numbers_from (length scope) (length (named_sorts v.sorts Start 0 items)) ++ filled)
      (length (scope ++ named_words Start items))
  filled_inside scope filled items slots =
      let long : length (named_sorts v.sorts Start 0 items) ≡ length (named_words Start items) = sorts_as_long v.sorts items in
      subst (λ k. AreFilled (numbers_from (length scope) k ++ filled) (length (scope ++ named_words Start items))) (sym long)
      (subst (AreFilled (numbers_from (length scope) (length (named_words Start items)) ++ filled))
      (sym (length-append scope (named_words Start items)))
      (filled_more filled (length scope) (length (named_words Start items)) slots))

  mutual
    conditions_sound : (scope : List (List ℕ)) (filled : List ℕ) → AreFilled filled (length scope)
        → length scope ≤ 16 → (ts : Trees) → size ts ≤ 8388608 → conditions_faults ts ≡ []
        → conditions_names v scope ts ≡ []
        → are_sound domain objects (conditions_of v scope ts) filled ≡ true
    conditions_sound scope filled slots few nothing small f n = refl
    conditions_sound scope filled slots few (word text at rest) small f n =
        absurd (some_fault (shape at) [] f)
    conditions_sound scope filled slots few (list items at rest) small f n =
        and_from (is_sound domain objects (condition_of v scope items) filled)
        (are_sound domain objects (conditions_of v scope rest) filled)
        (condition_sound scope filled slots few at items (omega arith)
        (append_nil_first (condition_faults at items) (conditions_faults rest) f)
        (append_nil_first (condition_names v scope at items) (conditions_names v scope rest) n))
        (conditions_sound scope filled slots few rest (omega arith)
        (append_nil_second (condition_faults at items) (conditions_faults rest) f)
        (append_nil_second (condition_names v scope at items) (conditions_names v scope rest) n))

    pub condition_sound : (scope : List (List ℕ)) (filled : List ℕ)
        → AreFilled filled (length scope) → length scope ≤ 16 → (place : ℕ) (ts : Trees)
        → size ts ≤ 8388608 → condition_faults place ts ≡ [] → condition_names v scope place ts ≡ []
        → is_sound domain objects (condition_of v scope ts) filled ≡ true
    condition_sound scope filled slots few place nothing small f n = refl
    condition_sound scope filled slots few place (list items at rest) small f n =
        absurd (some_fault (shape at) [] f)
    condition_sound scope filled slots few place (word text at rest) small f n =
        by_head (condition_head_of text) (Sound filled) (conditions_of v scope rest) (single_of v scope rest) (exists_of v scope rest)
        (equal_of (terms_of v.objects scope rest)) (Atom (declared_place v.predicates text) (terms_of v.objects scope rest))
        (conditions_faults rest) (single_faults place rest) (exists_faults place rest)
        (two_faults Term' place rest) (unsupported place ∷ []) (application_faults Predicate Term' place (word text at rest))
        (conditions_names v scope rest) (conditions_names v scope rest) (exists_names v scope rest)
        (terms_names v.objects scope rest) [] (application_names v.predicates v.objects scope place (word text at rest))
        (record {
          all = λ g m. all_sound filled scope rest (omega arith) (conditions_sound scope filled slots few rest (omega arith) g m);
          any = λ g m. all_sound filled scope rest (omega arith) (conditions_sound scope filled slots few rest (omega arith) g m);
          negated = λ g m. single_sound scope filled slots few place rest (omega arith) g m;
          exist = λ g m. exists_all scope filled slots few place rest (omega arith) g m;
          equals = λ g m. equal_sound filled (terms_of v.objects scope rest) (terms_sound scope filled slots rest m);
          refused = λ g. some_fault (unsupported place) [] g;
          atoms = λ g m. atom_sound scope filled slots place text at rest g m;
        })
        f n

    pub single_sound : (scope : List (List ℕ)) (filled : List ℕ) → AreFilled filled (length scope)
        → length scope ≤ 16 → (place : ℕ) (ts : Trees) → size ts ≤ 8388608
        → single_faults place ts ≡ [] → conditions_names v scope ts ≡ []
        → is_sound domain objects (single_of v scope ts) filled ≡ true
    single_sound scope filled slots few place nothing small f n =
        absurd (some_fault (shape place) [] f)
    single_sound scope filled slots few place (word text at rest) small f n =
        absurd (some_fault (shape at) [] f)
    single_sound scope filled slots few place (list items at rest) small f n =
        condition_sound scope filled slots few at items (omega arith) (append_nil_first (condition_faults at items) (end_faults rest) f)
        (append_nil_first (condition_names v scope at items) (conditions_names v scope rest) n)

    exists_all : (scope : List (List ℕ)) (filled : List ℕ) → AreFilled filled (length scope)
        → length scope ≤ 16 → (place : ℕ) (ts : Trees) → size ts ≤ 8388608
        → exists_faults place ts ≡ [] → exists_names v scope ts ≡ []
        → is_sound domain objects (exists_of v scope ts) filled ≡ true
    exists_all scope filled slots few place nothing small f n =
        absurd (some_fault (shape place) [] f)
    exists_all scope filled slots few place (word text at rest) small f n =
        absurd (some_fault (shape at) [] f)
    exists_all scope filled slots few place (list items at rest) small f n =
        exists_sound scope filled items (single_of v (scope ++ named_words Start items) rest) few
        (append_nil_first (variables_names v.sorts (length scope) items) (conditions_names v (scope ++ named_words Start items) rest) n)
        (λ room. single_sound (scope ++ named_words Start items)
        (numbers_from (length scope) (length (named_sorts v.sorts Start 0 items)) ++ filled) (filled_inside scope filled items slots)
        room place rest (omega arith) (append_nil_second (groups_faults Variable at Start items) (single_faults place rest) f)
        (append_nil_second (variables_names v.sorts (length scope) items) (conditions_names v (scope ++ named_words Start items) rest) n))

-- ---- depth

module _ (v : Vocabulary) where
  abbrev NoDeeper : ℕ → Condition → Type 0
  NoDeeper most c = depth_of c ≤ most

  equal_deep : (most : ℕ) (terms : List Term) → 1 ≤ most → NoDeeper most (equal_of terms)
  equal_deep most [] one = omega arith
  equal_deep most (s ∷ []) one = one
  equal_deep most (s ∷ t ∷ ts) one = one

  mutual
    conditions_deep : (scope : List (List ℕ)) (ts : Trees) → conditions_faults ts ≡ []
        → conditions_names v scope ts ≡ [] → depths_of (conditions_of v scope ts) ≤ depth ts
    conditions_deep scope nothing f n = omega arith
    conditions_deep scope (word text at rest) f n = absurd (some_fault (shape at) [] f)
    conditions_deep scope (list items at rest) f n =
        omega (
          arith,
          condition_deep scope at items (append_nil_first (condition_faults at items) (conditions_faults rest) f)
              (append_nil_first (condition_names v scope at items) (conditions_names v scope rest) n),
          conditions_deep scope rest (append_nil_second (condition_faults at items) (conditions_faults rest) f)
              (append_nil_second (condition_names v scope at items) (conditions_names v scope rest) n),
        )

    pub condition_deep : (scope : List (List ℕ)) (place : ℕ) (ts : Trees)
        → condition_faults place ts ≡ [] → condition_names v scope place ts ≡ []
        → depth_of (condition_of v scope ts) ≤ depth ts + 1
    condition_deep scope place nothing f n = omega arith
    condition_deep scope place (list items at rest) f n = absurd (some_fault (shape at) [] f)
    condition_deep scope place (word text at rest) f n =
        by_head (condition_head_of text) (NoDeeper (depth rest + 1)) (conditions_of v scope rest) (single_of v scope rest)
        (exists_of v scope rest) (equal_of (terms_of v.objects scope rest))
        (Atom (declared_place v.predicates text) (terms_of v.objects scope rest))
        (conditions_faults rest) (single_faults place rest) (exists_faults place rest)
        (two_faults Term' place rest) (unsupported place ∷ []) (application_faults Predicate Term' place (word text at rest))
        (conditions_names v scope rest) (conditions_names v scope rest) (exists_names v scope rest)
        (terms_names v.objects scope rest) [] (application_names v.predicates v.objects scope place (word text at rest))
        (record {
          all = λ g m. omega (arith, conditions_deep scope rest g m);
          any = λ g m. omega (arith, conditions_deep scope rest g m);
          negated = λ g m. omega (arith, single_deep scope place rest g m);
          exist = λ g m. exists_deep scope place rest g m;
          equals = λ g m. equal_deep (depth rest + 1) (terms_of v.objects scope rest) (omega arith);
          refused = λ g. some_fault (unsupported place) [] g;
          atoms = λ g m. omega arith;
        })
        f n

    pub single_deep : (scope : List (List ℕ)) (place : ℕ) (ts : Trees) → single_faults place ts ≡ []
        → conditions_names v scope ts ≡ [] → depth_of (single_of v scope ts) ≤ depth ts
    single_deep scope place nothing f n = absurd (some_fault (shape place) [] f)
    single_deep scope place (word text at rest) f n = absurd (some_fault (shape at) [] f)
    single_deep scope place (list items at rest) f n =
        omega (
          arith,
          condition_deep scope at items (append_nil_first (condition_faults at items) (end_faults rest) f)
              (append_nil_first (condition_names v scope at items) (conditions_names v scope rest) n),
        )

    exists_deep : (scope : List (List ℕ)) (place : ℕ) (ts : Trees) → exists_faults place ts ≡ []
        → exists_names v scope ts ≡ [] → depth_of (exists_of v scope ts) ≤ depth ts + 1
    exists_deep scope place nothing f n = absurd (some_fault (shape place) [] f)
    exists_deep scope place (word text at rest) f n = absurd (some_fault (shape at) [] f)
    exists_deep scope place (list items at rest) f n =
        omega (
          arith,
          single_deep (scope ++ named_words Start items) place rest
              (append_nil_second (groups_faults Variable at Start items) (single_faults place rest) f)
              (append_nil_second (variables_names v.sorts (length scope) items)
              (conditions_names v (scope ++ named_words Start items) rest) n),
        )

-- ---- fit conditions

module _ (v : Vocabulary) (domain : Domain) (objects : ℕ) (knows : Knows v domain objects) (scope : List (List ℕ))
    (filled : List ℕ) (slots : AreFilled filled (length scope)) (few : length scope ≤ 16) where
  -- the condition that the list at a place is
  pub condition_fits : (place : ℕ) (ts : Trees) → size ts ≤ 8388608 → depth ts < 64
      → condition_faults place ts ≡ [] → condition_names v scope place ts ≡ []
      → is_fit_condition domain objects filled (condition_of v scope ts) ≡ true
  condition_fits place ts small shallow f n =
      and_from (is_sound domain objects (condition_of v scope ts) filled) (nat_le (depth_of (condition_of v scope ts)) 64)
      (condition_sound v domain objects knows scope filled slots few place ts small f n)
      (le-leb (depth_of (condition_of v scope ts)) 64 (omega (arith, condition_deep v scope place ts f n)))

  -- the one condition of a row
  pub single_fits : (place : ℕ) (ts : Trees) → size ts ≤ 8388608 → depth ts ≤ 64
      → single_faults place ts ≡ [] → conditions_names v scope ts ≡ []
      → is_fit_condition domain objects filled (single_of v scope ts) ≡ true
  single_fits place ts small shallow f n =
      and_from (is_sound domain objects (single_of v scope ts) filled)
      (nat_le (depth_of (single_of v scope ts)) 64) (single_sound v domain objects knows scope filled slots few place ts small f n)
      (le-leb (depth_of (single_of v scope ts)) 64 (omega (arith, single_deep v scope place ts f n)))
