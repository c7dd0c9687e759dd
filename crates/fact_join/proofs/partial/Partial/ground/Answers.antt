use Rattle.std.proofs.Common.{sym, ap, ◌∙◌, Some}
use Rattle.std.proofs.lemmas.Option.{slice_get-get_or}
use Rattle.formula_eval.specs.Readable.{is_readable_term}
use Rattle.lemmas.proofs.ListTests.{all_at}
use Rattle.fact_join.proofs.PartialLemmas.{ground_next, fixed_slot}
use Rattle.fact_join.specs.Partials.{IsFixed}
use Rattle.task_model.specs.Truth.{object_of}
use Rattle.fact_join.proofs.partial.Partial.ground.Goals.{in-Object, in-Slot+in-Some-get}
use Rattle.fact_join.proofs.partial.Partial.ground.Goals as goal

pub loop-term-preserved : goal.loop-term-preserved
loop-term-preserved c =
    let partial = c.args.self.now in
    let at =
    slice_get-get_or c.args.terms.now c.loop-term.term-index c.term-item.result c.loop-term-test.true ∙ ap Some (sym c.term-item.is) in
    let readable = all_at is_readable_term c.args.terms.now c.loop-term.term-index c.term-item.result c.requires at in
    let fixed : IsFixed partial c.term-item.result c.match-term.object = elim c.match-term.branch [
      | in-Object w ↦ λ slots a. ap (object_of slots) w.in-Object.is ∙ sym w.object-is
      | in-Slot+in-Some-get w ↦ λ slots a. ap (object_of slots) w.in-Slot.is
          ∙ fixed_slot partial w.in-Slot.slot w.in-Some-get.object (ap is_readable_term (sym w.in-Slot.is) ∙ readable) w.in-Some-get.ensures slots a
          ∙ sym w.object-is
    ] in
    ground_next partial c.args.terms.now c.loop-term.term-index c.term-item.result c.match-term.object c.loop-term.row c.push.new.self at
    fixed c.loop-term.invariant c.in_ok-push.ensures.ok
