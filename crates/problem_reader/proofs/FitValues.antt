-- Function terms with values: they are fit, and terms of the same numbers are written the same.
use Rattle.std.proofs.Common.{◌≡◌, ℕ, Bool, true, false, cond, ◌||◌, nat_le, List, [], ◌∷◌, ◌++◌, length, refl, sym, ap, ◌∙◌, Some, slice_get, unwrap_or}
use Rattle.std.specs.Str.Parse.{digits_value}
use Rattle.std.proofs.lemmas.Bool.{and_from}
use Rattle.lemmas.proofs.Members.{none_both}
use Rattle.sexpr_text.specs.Trees.{Trees, nothing, word, list}
use Rattle.task_model.specs.Fit.{has_arity, is_fit_value}
use Rattle.task_model.specs.declared.domain.Domain.{Domain}
use Rattle.task_model.specs.declared.domain.Role.{Role}
use Rattle.form_reader.specs.declared.fault.InputKind.TheVariants.{Unknown}
use Rattle.form_reader.specs.declared.words.WordSort.TheVariants.{Name, Predicate}
use Rattle.form_reader.specs.Atoms.{fact_faults, number_faults, valued_faults}
use Rattle.form_reader.specs.Faults.{shape}
use Rattle.form_reader.specs.Rows.{application_faults, head_of, row_faults, tail_of}
use Rattle.task_model.specs.Numbers.{is_number}
use Rattle.task_model.proofs.NumbersLemmas.{number_few}
use Rattle.form_reader.specs.Words.{is_of}
use Rattle.name_tables.specs.Names.{has_name, table_place}
use Rattle.name_tables.specs.Terms.{application_names, declared_place, terms_names, use_names, width}
use Rattle.name_tables.specs.Variables.{unless}
use Rattle.name_tables.specs.Vocabulary.{arity_of}
use Rattle.name_tables.specs.declared.vocabulary.Vocabulary.{Vocabulary}
use Rattle.name_tables.proofs.NoFaultLemmas.{chosen, met}
use Rattle.name_tables.proofs.NamesUseLemmas.{place_holds, usable}
use Rattle.name_tables.proofs.VocabularyLemmas.{AreNamesOf, used_arity}
use Rattle.problem_reader.specs.Names.{atom_names, fact_names, is_worth, worth_names}
use Rattle.problem_reader.specs.Problems.{places_in_row, valued_of}
use Rattle.problem_reader.specs.Values.{number_in, spelled_term, term_in}
use Rattle.problem_reader.proofs.FitFacts.{objects_there}

-- ---- numbers

small_by : (w : List ℕ) (b : Bool) → is_number w ≡ b
    → nat_le (cond b (digits_value 10 w) 0) 1000000 ≡ true
small_by w true e = number_few w e
small_by w false e = refl

number_small : (w : List ℕ) → nat_le (number_in w) 1000000 ≡ true
number_small w = small_by w (is_number w) refl

-- ---- terms

-- a function term of objects, each of which is there
pub record IsTerm (v : Vocabulary) (term : Trees) : Type 0 where
  pub there : has_name (head_of term) v.functions.names ≡ true
  pub words : row_faults Name (tail_of term) ≡ []
  pub known : terms_names v.objects [] (tail_of term) ≡ []
  pub headed : spelled_term term ≡ head_of term ++ 32 ∷ spelled_term (tail_of term)

-- words at the same places are the same
same_word : (ns : List (List ℕ)) (a b : List ℕ) → has_name a ns ≡ true → has_name b ns ≡ true
    → unwrap_or (table_place a ns) 0 ≡ unwrap_or (table_place b ns) 0 → a ≡ b
same_word ns a b p q e =
    let one : Some a ≡ Some b = sym (place_holds a ns p) ∙ ap (slice_get ns) e ∙ place_holds b ns q in
    cc

row_same : (objects : List (List ℕ)) (ts us : Trees) → row_faults Name ts ≡ []
    → row_faults Name us ≡ [] → terms_names objects [] ts ≡ [] → terms_names objects [] us ≡ []
    → places_in_row objects ts ≡ places_in_row objects us → spelled_term ts ≡ spelled_term us
row_same objects (list items at rest) us p q e f same = absurd (cc)
row_same objects nothing (list items at rest) p q e f same = absurd (cc)
row_same objects (word a at rest) (list items at' rest') p q e f same = absurd (cc)
row_same objects nothing nothing p q e f same = refl
row_same objects nothing (word b at rest) p q e f same = absurd (cc)
row_same objects (word a at rest) nothing p q e f same = absurd (cc)
row_same objects (word a at rest) (word b at' rest') p q e f same =
    let first = none_both (unless (has_name a [] || has_name a objects) Unknown at) (terms_names objects [] rest) e in
    let second = none_both (unless (has_name b [] || has_name b objects) Unknown at') (terms_names objects [] rest') f in
    let heads : unwrap_or (table_place a objects) 0 ≡ unwrap_or (table_place b objects) 0 = cc in
    let tails : places_in_row objects rest ≡ places_in_row objects rest' = cc in
    let one : a ≡ b =
    same_word objects a b (met (has_name a objects) Unknown at first.0) (met (has_name b objects) Unknown at' second.0) heads in
    let more = row_same objects rest rest' ((chosen (is_of Name a) (row_faults Name rest) (shape at) [] p).1)
    ((chosen (is_of Name b) (row_faults Name rest') (shape at') [] q).1) first.1 second.1 tails in
    λ i. one i ++ 32 ∷ more i

-- terms of the same function and objects are written the same
pub term_same : (v : Vocabulary) (t u : Trees) → IsTerm v t → IsTerm v u
    → declared_place v.functions (head_of t) ≡ declared_place v.functions (head_of u)
    → places_in_row v.objects (tail_of t) ≡ places_in_row v.objects (tail_of u) → spelled_term t ≡ spelled_term u
term_same v t u p q f a =
    let heads = same_word v.functions.names (head_of t) (head_of u) p.there q.there f in
    let tails = row_same v.objects (tail_of t) (tail_of u) p.words q.words p.known q.known a in
    p.headed ∙ (λ i. heads i ++ 32 ∷ tails i) ∙ sym q.headed

-- ---- values

module _ (d : Domain) (n : ℕ) (v : Vocabulary) (named : AreNamesOf d n v) (roles : List Role) where
  -- a fit value of a term
  pub record IsGood (items : Trees) : Type 0 where
    pub term : IsTerm v (term_in items)
    pub fit : is_fit_value d (length v.objects) (valued_of v items) ≡ true

  application_good : (w : List ℕ) (at at' place : ℕ) (term rest more : Trees)
      → application_faults Name Name at' term ≡ []
      → application_names v.functions v.objects [] at' term ≡ []
      → IsGood (word w at (list term at' rest))
  application_good w at at' place nothing rest more e f = absurd (cc)
  application_good w at at' place (list items at'' rest'') rest more e f = absurd (cc)
  application_good w at at' place (word g at'' args) rest more e f =
      let uses = none_both (use_names (arity_of v.functions g) (width args) at'' at') (terms_names v.objects [] args) f in
      let used = usable v.functions g (width args) at'' at' uses.0 in
      let words = (chosen (is_of Name g) (row_faults Name args) (shape at'') [] e).1 in
      let are = objects_there v.objects args words uses.1 in
      let func : ℕ = declared_place v.functions g in
      let arity : has_arity d.functions func (length (places_in_row v.objects args)) ≡ true =
      ap (has_arity d.functions func) are.count ∙ used_arity d.functions v.functions g (width args) named.functions used in
      record {
        term = record { there = used.there; words = words; known = uses.1; headed = refl };
        fit = and_from _ _ (and_from _ _ arity are.each) (number_small (head_of rest));
      }

  worth_good : (w : List ℕ) (at place : ℕ) (rest : Trees) → valued_faults place rest ≡ []
      → worth_names v rest ≡ [] → IsGood (word w at rest)
  worth_good w at place nothing e f = absurd (cc)
  worth_good w at place (word x at' rest) e f = absurd (cc)
  worth_good w at place (list term at' rest) e f =
      application_good w at at' place term rest nothing
      ((none_both (application_faults Name Name at' term) (number_faults place rest) e).0) f

  -- a list that gives a value, without faults
  pub value_good : (place : ℕ) (items : Trees) → is_worth items ≡ true
      → fact_faults place items ≡ [] → fact_names v roles place items ≡ [] → IsGood items
  value_good place nothing is e f = absurd (cc)
  value_good place (list items at rest) is e f = absurd (cc)
  value_good place (word w at rest) is e f =
      worth_good w at place rest
      (ap (λ b. cond b (valued_faults place rest) (application_faults Predicate Name place (word w at rest))) (sym is) ∙ e)
      (ap (λ b. cond b (worth_names v rest) (atom_names v roles place (word w at rest))) (sym is) ∙ f)
