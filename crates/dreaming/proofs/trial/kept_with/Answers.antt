use Rattle.std.proofs.Common.{ℕ, ◌∙◌, List, [], sym, ap, subst, refl, Option}
use Rattle.std.specs.Prelude.{IfSome, IfNone}
use Rattle.task_model.specs.Plans.{IsValid}
use Rattle.dreaming.proofs.PartLemmas.{part_valid, part_not_valid}
use Rattle.dreaming.specs.Parts.{Portion}
use Rattle.dreaming.specs.Thinning.{IsPartAt, IsValidWith, supported_places}
use Rattle.dreaming.proofs.trial.kept_with.Goals as goal

pub cost_filled-requires-clause-part : goal.cost_filled-requires-clause-part
cost_filled-requires-clause-part c =
    let l = c.args.trial.now.listing in
    subst (λ (p : Portion). IsPartAt l.task.now l.supposed.now [] p)
    (sym (c.deref_mut.ensures.value ∙ c.in_ok-part.ensures.ok)) (record {
      part = c.new.ensures.part l.task.now c.requires.trial.listed;
      base = c.new.ensures.base;
      list = c.new.ensures.list;
      places_are = c.new.ensures.places;
    })

pub returns-in-Some : goal.returns-in-Some
returns-in-Some c =
    let task = c.args.trial.now.listing.task.now in
    let d = c.args.trial.now.listing.supposed.now in
    let steps = c.args.trial.now.plan.now.steps in
    let p = c.cost_filled.new.part in
    let h = c.in_ok-cost.ensures.part in
    let here : IsPartAt task d p.places p = record { part = h.part; base = h.base; list = h.list; places_are = refl } in
    let valid : IsValid task p.known steps c.in-Some.cost =
    subst (λ (o : Option ℕ). IfSome o (IsValid task p.known steps)) c.in-Some.is c.in_ok-cost.ensures.some in
    let places = c.into_places.ensures ∙ ap (λ (q : Portion). q.places) c.into_inner.ensures in (
      places ∙ h.places_are,
      subst (λ (ps : List ℕ). IsValidWith task d steps ps c.in-Some.cost) (sym places)
          (part_valid task d steps p.places p c.in-Some.cost here valid),
    )

pub returns-in-None : goal.returns-in-None
returns-in-None c =
    let task = c.args.trial.now.listing.task.now in
    let d = c.args.trial.now.listing.supposed.now in
    let steps = c.args.trial.now.plan.now.steps in
    let p = c.cost_filled.new.part in
    let not =
    subst (λ (o : Option ℕ). IfNone o ((cost : ℕ) → ¬ (IsValid task p.known steps cost))) c.in-None.is c.in_ok-cost.ensures.none in
    part_not_valid task d steps (supported_places task d.base d.list c.args.first.now c.args.others.now) p c.in_ok-cost.ensures.part not
