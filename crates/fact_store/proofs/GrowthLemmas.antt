-- Fronts of lists, and what is known as facts and values come.
use Rattle.std.proofs.Common.{◌≡◌, true, false, cond, List, [], ◌∷◌, ◌++◌, refl, sym, ap, subst, ◌∙◌, append_assoc}
use Rattle.std.proofs.lemmas.List.{append-nil}
use Rattle.std.specs.List.{list_any}
use Rattle.task_model.specs.Known.{Known, same_value, is_fact, with_fact, with_facts, with_value, with_values}
use Rattle.task_model.specs.declared.fact.Fact.{Fact}
use Rattle.task_model.specs.declared.task.Valued.{Valued}
use Rattle.fact_store.specs.Growth.{IsFrontOf, IsBetween, Grows}

-- ---- lists

pub front_itself : {A : Type 0} (xs : List A) → IsFrontOf xs xs
front_itself xs = ([], sym (append-nil xs))

pub front_same : {A : Type 0} (xs ys : List A) → ys ≡ xs → IsFrontOf xs ys
front_same xs ys same = ([], same ∙ sym (append-nil xs))

pub front_then : {A : Type 0} (xs ys zs : List A) → IsFrontOf xs ys → IsFrontOf ys zs
    → IsFrontOf xs zs
front_then xs ys zs first second =
    (first.0 ++ second.0, second.1 ∙ ap (λ l. l ++ second.0) first.1 ∙ append_assoc xs first.0 second.0)

-- ---- facts and values

fact_front : (facts : List Fact) (fact : Fact) → IsFrontOf facts (with_fact facts fact)
fact_front facts fact =
    elim (is_fact facts fact) as (λ b. IsFrontOf facts (cond b facts (facts ++ fact ∷ [])))
    [ true ↦ front_itself facts | false ↦ (fact ∷ [], refl) ]

pub facts_front : (facts more : List Fact) → IsFrontOf facts (with_facts facts more)
facts_front facts [] = front_itself facts
facts_front facts (fact ∷ more) =
    front_then facts (with_fact facts fact) (with_facts (with_fact facts fact) more) (fact_front facts fact)
    (facts_front (with_fact facts fact) more)

value_front : (values : List Valued) (value : Valued) → IsFrontOf values (with_value values value)
value_front values value =
    elim (list_any (same_value value) values) as (λ b. IsFrontOf values (cond b values (values ++ value ∷ [])))
    [ true ↦ front_itself values | false ↦ (value ∷ [], refl) ]

pub values_front : (values more : List Valued) → IsFrontOf values (with_values values more)
values_front values [] = front_itself values
values_front values (value ∷ more) =
    front_then values (with_value values value) (with_values (with_value values value) more) (value_front values value)
    (values_front (with_value values value) more)

-- the facts are those from before with these behind them
pub facts_grow : (before now more : List Fact) → now ≡ with_facts before more → IsFrontOf before now
facts_grow before now more is = subst (IsFrontOf before) (sym is) (facts_front before more)

-- with those that are left they are all
pub facts_left : (now left after : List Fact) → with_facts now left ≡ after → IsFrontOf now after
facts_left now left after is = subst (IsFrontOf now) is (facts_front now left)

-- ---- what is known

pub grows_itself : (known : Known) → Grows known known
grows_itself known =
    record { names = front_itself known.names; facts = front_itself known.facts; values = front_itself known.values }

pub grows_then : (a b c : Known) → Grows a b → Grows b c → Grows a c
grows_then a b c first second =
    record {
      names = front_then a.names b.names c.names first.names second.names;
      facts = front_then a.facts b.facts c.facts first.facts second.facts;
      values = front_then a.values b.values c.values first.values second.values;
    }

-- ---- between

-- a list that stayed lies there too
pub between_same : {A : Type 0} (before was now after : List A) → now ≡ was → IsBetween before was after
    → IsBetween before now after
between_same before was now after same h = subst (λ xs. IsBetween before xs after) (sym same) h

pub between_then : {A : Type 0} (first before now after last : List A) → IsFrontOf first before
    → IsBetween before now after → IsFrontOf after last
    → IsBetween first now last
between_then first before now after last more h left =
    (front_then first before now more h.0, front_then now after last h.1 left)
