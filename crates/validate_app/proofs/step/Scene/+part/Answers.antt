use Rattle.std.proofs.Common.{◌≡◌, true, false, sym, ap, ◌∙◌, arith}
use Rattle.std.proofs.lemmas.List.{drop_all}
use Rattle.fit_check.proofs.ConditionPartLemmas.{part_smaller}
use Rattle.formula_eval.proofs.ConditionPartLemmas.{readable_part}
use Rattle.task_model.specs.Condition.{parts_of}
use Rattle.task_model.specs.Truth.{is_true}
use Rattle.validate_app.proofs.PartsLemmas.{first_false, true_part}
use Rattle.validate_app.specs.Parts.{false_among, false_part, holds_with}
use Rattle.validate_app.proofs.step.Scene.+part.Goals as goal

pub false_among-holds_with-requires-clause-readable : goal.false_among-holds_with-requires-clause-readable
false_among-holds_with-requires-clause-readable t c =
    readable_part c.args.self.now.task.now.domain c.args.parts.now c.loop-part.part-index c.part-item.result
    c.requires.readable
    c.loop-part-test.true c.part-item.is

pub false_among-false_part-requires : goal.false_among-false_part-requires
false_among-false_part-requires t c =
    let smaller = part_smaller c.args.parts.now c.loop-part.part-index c.part-item.result c.loop-part-test.true
    c.part-item.is in
    let readable =
    readable_part c.args.self.now.task.now.domain c.args.parts.now c.loop-part.part-index c.part-item.result
    c.requires.readable
    c.loop-part-test.true c.part-item.is in
    (omega (arith, c.decreases), (c.requires.fit, (readable, c.holds_with.ensures.stands)))

pub false_among-loop-part-preserved : goal.false_among-loop-part-preserved
false_among-loop-part-preserved t c =
    let task = c.args.self.now.task.now in
    let known = c.args.self.now.facts.now.known in
    let state = c.args.state.now in
    let part = c.part-item.result in
    let passes : holds_with task known state c.args.env.now part ≡ true =
    ap (is_true task.domain known state part) (sym c.loop-part.invariant.same) ∙ sym c.holds_with.ensures.value
    ∙ c.if-not-holds_with.false in
    record {
      left =
          true_part (holds_with task known state c.args.env.now) c.args.whole.now c.args.parts.now
          c.loop-part.part-index part
          c.loop-part-test.true c.part-item.is passes
          ∙ c.loop-part.invariant.left;
      same = c.holds_with.ensures.same ∙ c.loop-part.invariant.same;
      stands = c.holds_with.ensures.stands;
    }

pub false_among-returns-then-not-holds_with : goal.false_among-returns-then-not-holds_with
false_among-returns-then-not-holds_with t c =
    let task = c.args.self.now.task.now in
    let known = c.args.self.now.facts.now.known in
    let state = c.args.state.now in
    let part = c.part-item.result in
    let fails : holds_with task known state c.args.env.now part ≡ false =
    ap (is_true task.domain known state part) (sym c.loop-part.invariant.same) ∙ sym c.holds_with.ensures.value
    ∙ c.if-not-holds_with.true in
    c.false_part.ensures
    ∙ ap (λ e. false_part (holds_with task known state e) part) (c.holds_with.ensures.same ∙ c.loop-part.invariant.same)
    ∙ sym (first_false (holds_with task known state c.args.env.now) c.args.whole.now c.args.parts.now
    c.loop-part.part-index part
    c.loop-part-test.true c.part-item.is fails)
    ∙ c.loop-part.invariant.left

pub false_among-returns : goal.false_among-returns
false_among-returns t c =
    let holds = holds_with c.args.self.now.task.now c.args.self.now.facts.now.known c.args.state.now c.args.env.now in
    ap (λ ps. false_among holds (parts_of ps) c.args.whole.now)
    (sym (drop_all c.loop-part.part-index c.args.parts.now c.loop-part-test.false))
    ∙ c.loop-part.invariant.left
