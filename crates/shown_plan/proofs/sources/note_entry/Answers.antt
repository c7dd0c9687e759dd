use Rattle.std.proofs.Common.{◌≡◌, ℕ, ◌+◌, ◌⊎◌, [], ◌∷◌, ◌++◌, List, Bor, true, take, sym, subst, ap, ◌∙◌}
use Rattle.std.proofs.lemmas.List.{take_more, take_all}
use Rattle.task_model.proofs.KnownLemmas.{numbers_decided}
use Rattle.task_model.specs.Known.{same_numbers}
use Rattle.shown_plan.proofs.SourcesTableLemmas.{IsMidway, midway_next, midway_last, no_yield, passed_by}
use Rattle.shown_plan.proofs.sources.note_entry.Goals as goal
use Rattle.shown_plan.specs.Sources.{HasBest, found_in}

pub loop-value-preserved : goal.loop-value-preserved
loop-value-preserved c = λ names before has value sought.
    let e = c.args.entry.now in
    let old = found_in (λ (k : Bor (List ℕ)). k.now) c.loop-value.sources in
    let new = found_in (λ (k : Bor (List ℕ)). k.now) c.note_value.new.sources in
    let items = c.as_slice-value-items.result.now in
    let index = c.loop-value.value-index in
    let item = c.value-item.result in
    let next : take (index + 1) items ≡ take index items ++ item ∷ [] =
    take_more items index item c.loop-value-test.true ∙ ap (λ x. take index items ++ x ∷ []) (sym c.value-item.is) in
    let is : same_numbers value item ≡ true → c.bytes.result.now ≡ value =
    λ same. c.bytes.ensures ∙ sym ((numbers_decided value item).0 same) in
    subst (λ seen. IsMidway before e seen value (new value)) (sym next)
    (midway_next before e value (take index items) item (old value) (new value) (c.loop-value.invariant names before has value sought)
    (λ same found. subst (λ v. HasBest (before ++ e ∷ []) v (new v)) (is same)
    (c.note_value.ensures.here before
    (subst (λ v. HasBest before v (old v) ⊎ HasBest (before ++ e ∷ []) v (old v)) (sym (is same)) found)))
    (λ differs. c.note_value.ensures.others value (ap (same_numbers value) c.bytes.ensures ∙ differs)))

pub returns-after-loop-value : goal.returns-after-loop-value
returns-after-loop-value c = λ names before has value sought.
    let table = found_in (λ (k : Bor (List ℕ)). k.now) c.loop-value.sources value in
    let all = take_all c.loop-value.value-index c.as_slice-value-items.result.now c.loop-value-test.false
    ∙ c.as_slice-value-items.ensures in
    subst (λ e. HasBest (before ++ e ∷ []) value table) (sym c.in-Got.is)
    (midway_last before c.in-Got.number c.in-Got.tuples c.in-Got.values value table
    (subst (λ e. IsMidway before e c.in-Got.values value table) c.in-Got.is
    (subst (λ seen. IsMidway before c.args.entry.now seen value table) all (c.loop-value.invariant names before has value sought))))

pub returns-in_default : goal.returns-in_default
returns-in_default c = λ names before has value sought.
    passed_by before c.args.entry.now value (found_in (λ (k : Bor (List ℕ)). k.now) c.args.sources.now value)
    (λ n. no_yield c.args.entry.now value n c.in_default.not-Got) (has value sought)
