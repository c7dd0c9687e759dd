use Rattle.std.proofs.Common.{◌≡◌, ◌∷◌, subst}
use Rattle.task_model.specs.Truth.{object_of, objects_at}
use Rattle.fact_join.proofs.PartialLemmas.{narrows_both, objects_cons}
use Rattle.fact_join.specs.Partials.{Narrows, left_if}
use Rattle.fact_join.proofs.partial.Partial.+bind_all.Goals as goal

pub returns-then-bind : goal.returns-then-bind
returns-then-bind t c =
    let arm = c.in-Some-Some in
    let term = arm.term.now in
    let terms = arm.terms.now in
    let object = arm.object.now in
    let objects = arm.objects.now in
    let bound = subst (λ b. Narrows c.args.self.now (λ slots. object_of slots term ≡ object) (left_if b c.bind.new.self)) c.if-bind.true
    c.bind.ensures in
    rw (arm.ensures.cases.0, arm.ensures'.cases.0)
    (narrows_both c.args.self.now c.bind.new.self (λ slots. object_of slots term ≡ object) (λ slots. objects_at slots terms ≡ objects)
    (λ slots. objects_at slots (term ∷ terms) ≡ object ∷ objects) (left_if c.bind_all.result c.bind_all.new.self) bound
    (λ slots. objects_cons slots term terms object objects) c.bind_all.ensures)
