use Rattle.std.proofs.Common.{◌+◌, ap, arith, drop}
use Rattle.std.proofs.lemmas.List.{drop_all}
use Rattle.task_model.specs.Condition.{parts_of}
use Rattle.fit_check.proofs.ConditionPartLemmas.{part_smaller}
use Rattle.condition_text.specs.Texts.{condition_text, parts_text}
use Rattle.condition_text.proofs.TextsLemmas.{all_put, one_put, parts_left}
use Rattle.condition_text.proofs.naming.Naming.+put.Goals as goal

pub put_parts-put_condition-requires : goal.put_parts-put_condition-requires
put_parts-put_condition-requires t c =
    let smaller = part_smaller c.args.parts.now c.loop-part.part-index c.part-item.result c.loop-part-test.true c.part-item.is in
    (omega (arith, c.decreases), tt)

pub put_parts-loop-part-preserved : goal.put_parts-loop-part-preserved
put_parts-loop-part-preserved t c =
    let domain = c.args.self.now.domain.now in
    let names = c.args.self.now.names.now in
    let objects = c.args.self.now.objects.now in
    let parts = c.args.parts.now in
    let i = c.loop-part.part-index in
    one_put c.loop-part.text.items c.extend_from_slice.new.self.items c.put_condition.new.text.items
    (condition_text domain names objects c.part-item.result) (parts_text domain names objects (parts_of (drop i parts)))
    (parts_text domain names objects (parts_of (drop (i + 1) parts))) _ c.loop-part.invariant
    (parts_left domain names objects parts i c.part-item.result c.loop-part-test.true c.part-item.is)
    c.in_ok-extend_from_slice.ensures.items c.in_ok-put_condition.ensures

pub put_parts-returns : goal.put_parts-returns
put_parts-returns t c =
    all_put _ _ _ c.loop-part.invariant
    (ap (λ ps. parts_text c.args.self.now.domain.now c.args.self.now.names.now c.args.self.now.objects.now (parts_of ps))
    (drop_all c.loop-part.part-index c.args.parts.now c.loop-part-test.false))
