-- What is known stays coherent where a name, a fact or a value is put behind the others.
use Rattle.std.proofs.Common.{◌≡◌, ℕ, zero, suc, true, false, cond, ◌≤◌, ◌⊎◌, inl, inr, List, [], ◌∷◌, ◌++◌, refl, sym, subst, ap, ◌∙◌, Contains, All, Result, Ok, Err, OnOk, OnErr}
use Rattle.std.proofs.lemmas.List.Elements.{All-append}
use Rattle.std.proofs.lemmas.Map.Views.{Contains-from_any, list_any-from_Contains}
use Rattle.std.specs.List.{list_any}
use Rattle.std.specs.Cmp.{IsEquivalence, decided}
use Rattle.task_model.proofs.KnownLemmas.{numbers_decided, with_fact-is, values_equivalence}
use Rattle.lemmas.proofs.Members.{distinct_push}
use Rattle.task_model.specs.Known.{Known, IsCoherent, IsIn, same_numbers, same_value, is_fact, with_fact, with_value, with_name}
use Rattle.task_model.specs.declared.fact.Fact.{Fact}
use Rattle.task_model.specs.declared.task.Valued.{Valued}
use Rattle.fact_store.specs.Store.{Store, same_store}
use Rattle.lemmas.proofs.Bools.{not_both}
use Rattle.lemmas.proofs.ListTests.{all_one}

-- what a call leaves: the list with one more, or as it was
pub grown : {T E A : Type 0} (r : Result T E) (old put more new : List A) → put ≡ more
    → OnOk r (new ≡ put) → OnErr r (new ≡ old) → (new ≡ more) ⊎ (new ≡ old)
grown (Ok x) old put more new same ok err = inl (ok ∙ same)
grown (Err e) old put more new same ok err = inr err

-- ---- names

pub in_more : (names more : List (List ℕ)) (object : ℕ) → IsIn names object
    → IsIn (names ++ more) object
in_more [] more object h = absurd (not_both false h refl)
in_more (n ∷ ns) more zero h = refl
in_more (n ∷ ns) more (suc object) h = in_more ns more object h

pub all_in_more : (names more : List (List ℕ)) (objects : List ℕ) → All (IsIn names) objects
    → All (IsIn (names ++ more)) objects
all_in_more names more objects all k d lt = in_more names more _ (all k d lt)

numbers_equivalence : IsEquivalence same_numbers
numbers_equivalence = decided same_numbers numbers_decided

pub name_found : (names : List (List ℕ)) (name : List ℕ) → Contains names name
    → list_any (same_numbers name) names ≡ true
name_found names name m = list_any-from_Contains numbers_equivalence name names m

pub name_absent : (names : List (List ℕ)) (name : List ℕ) → ¬ (Contains names name)
    → list_any (same_numbers name) names ≡ false
name_absent names name absent =
    elim (list_any (same_numbers name) names) as (λ b. list_any (same_numbers name) names ≡ b → b ≡ false) [
      | true ↦ λ there. absurd (absent (Contains-from_any (λ x y. (numbers_decided x y).0) name names there))
      | false ↦ λ _. refl
    ] refl

pub with_name-new : (names : List (List ℕ)) (name : List ℕ) → ¬ (Contains names name)
    → names ++ name ∷ [] ≡ with_name names name
with_name-new names name absent =
    sym (ap (λ b. cond b names (names ++ name ∷ [])) (name_absent names name absent))

pub name_pushed : (known : Known) (name : List ℕ) → ¬ (Contains known.names name) → IsCoherent known
    → IsCoherent (record known { names = known.names ++ name ∷ [] })
name_pushed known name absent c = record {
  names = distinct_push known.names name c.names absent;
  facts = c.facts;
  values = c.values;
  objects = λ k f h j d l. in_more known.names (name ∷ []) _ (c.objects k f h j d l);
  costs = c.costs;
}

-- ---- facts

objects_kept : (names : List (List ℕ)) (facts : List Fact) (fact : Fact)
    → All (IsIn names) fact.args → All (λ (f : Fact). All (IsIn names) f.args) facts
    → All (λ (f : Fact). All (IsIn names) f.args) (with_fact facts fact)
objects_kept names facts fact one all =
    elim (is_fact facts fact) as (λ b. All (λ (f : Fact). All (IsIn names) f.args) (cond b facts (facts ++ fact ∷ []))) [
      | true ↦ all
      | false ↦ All-append (λ (f : Fact). All (IsIn names) f.args) facts
          (fact ∷ []) all (all_one (λ (f : Fact). All (IsIn names) f.args) fact one)
    ]

fact_pushed : (known : Known) (fact : Fact) → All (IsIn known.names) fact.args → IsCoherent known
    → IsCoherent (record known { facts = with_fact known.facts fact })
fact_pushed known fact one c = record {
  names = c.names;
  facts = (with_fact-is known.facts fact).distinct c.facts;
  values = c.values;
  objects = objects_kept known.names known.facts fact one c.objects;
  costs = c.costs;
}

pub fact_kept : (known : Known) (facts : List Fact) (fact : Fact) → All (IsIn known.names) fact.args
    → (facts ≡ with_fact known.facts fact) ⊎ (facts ≡ known.facts) → IsCoherent known
    → IsCoherent (record known { facts = facts })
fact_kept known facts fact one cases c =
    elim cases [
      | inl e ↦ subst (λ fs. IsCoherent (record known { facts = fs })) (sym e) (fact_pushed known fact one c)
      | inr e ↦ subst (λ fs. IsCoherent (record known { facts = fs })) (sym e) c
    ]

-- ---- values

value_pushed : (known : Known) (value : Valued) → value.value ≤ 1000000 → IsCoherent known
    → IsCoherent (record known { values = with_value known.values value })
value_pushed known value cost c =
    elim (list_any (same_value value) known.values) as
    (λ b. list_any (same_value value) known.values ≡ b
    → IsCoherent (record known { values = cond b known.values (known.values ++ value ∷ []) })) [
      | true ↦ λ _. c
      | false ↦ λ absent. record {
        names = c.names;
        facts = c.facts;
        values = distinct_push known.values value c.values
            (λ m. not_both _ (list_any-from_Contains values_equivalence value known.values m) absent);
        objects = c.objects;
        costs = All-append (λ (v : Valued). v.value ≤ 1000000) known.values
            (value ∷ []) c.costs (all_one (λ (v : Valued). v.value ≤ 1000000) value cost);
      }
    ] refl

pub value_kept : (known : Known) (values : List Valued) (value : Valued) → value.value ≤ 1000000
    → (values ≡ with_value known.values value) ⊎ (values ≡ known.values) → IsCoherent known
    → IsCoherent (record known { values = values })
value_kept known values value cost cases c =
    elim cases [
      | inl e ↦ subst (λ vs. IsCoherent (record known { values = vs })) (sym e) (value_pushed known value cost c)
      | inr e ↦ subst (λ vs. IsCoherent (record known { values = vs })) (sym e) c
    ]

-- ---- stores

-- a store is another where names, facts and values are the same
pub stays : (store before : Store) → store.known.names ≡ before.known.names
    → store.known.facts ≡ before.known.facts → store.known.values ≡ before.known.values
    → store ≡ before
stays store before names facts values =
    same_store store before (λ i. record { names = names i; facts = facts i; values = values i })
