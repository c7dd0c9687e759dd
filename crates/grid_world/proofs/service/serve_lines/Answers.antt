use Rattle.std.proofs.Common.{arith, ◌≡◌, ◌+◌, ◌++◌, ◌∷◌, [], ◌∙◌, ap, sym, subst, length, take}
use Rattle.std.specs.Io.KnownBytes.{Appends}
use Rattle.grid_world.specs.AnswerLines.{line_of_answer, answer_to_line}
use Rattle.grid_world.proofs.ServingLemmas.{Stands, ends_done, ends_input, ends_limit, ends_memory, ends_read, ends_write, line_at, reply_is, stands_answered, stands_filled, stands_first}
use Rattle.grid_world.proofs.service.serve_lines.Goals as goal

pub loop-init : goal.loop-init
loop-init g c = record {
  stands = subst (λ held.
      Stands c.args.grid.now (g.S.Source.left c.args.source.now) (g.S.Source.left c.args.source.now)
      (g.O.Sink.taken c.args.out.now) (g.O.Sink.taken c.args.out.now) held 0) (sym c.in-Ok.ensures)
      (stands_first c.args.grid.now (g.S.Source.left c.args.source.now) (g.O.Sink.taken c.args.out.now));
  source = omega arith;
  sink = omega arith;
}

pub returns-in_default-clause-answers : goal.returns-in_default-clause-answers
returns-in_default-clause-answers g c =
    ends_memory c.args.grid.now (g.S.Source.left c.args.source.now) (g.O.Sink.taken c.args.out.now)

pub returns-in-End-clause-answers : goal.returns-in-End-clause-answers
returns-in-End-clause-answers g c =
    let filled =
    stands_filled c.args.grid.now _ _ _ _ _ c.loop.held c.fill.new.self c.loop.counter c.loop.invariant.stands c.in-End.ensures.came
    c.in-End.ensures.few in
    ends_done c.args.grid.now _ _ _ _ c.fill.new.self c.loop.counter filled
    (omega (arith, c.loop-test.true)) c.in-End.ensures.so.0 c.in-End.ensures.so.1 c.in-End.ensures.so.2

pub returns-in-TooLong-clause-answers : goal.returns-in-TooLong-clause-answers
returns-in-TooLong-clause-answers g c =
    let filled =
    stands_filled c.args.grid.now _ _ _ _ _ c.loop.held c.fill.new.self c.loop.counter c.loop.invariant.stands c.in-TooLong.ensures.came
    c.in-TooLong.ensures.few in
    ends_input c.args.grid.now _ _ _ _ c.fill.new.self c.loop.counter filled
    (omega (arith, c.loop-test.true)) c.in-TooLong.ensures.so.0 c.in-TooLong.ensures.so.1

pub returns-in-Failed-clause-answers : goal.returns-in-Failed-clause-answers
returns-in-Failed-clause-answers g c =
    let filled =
    stands_filled c.args.grid.now _ _ _ _ _ c.loop.held c.fill.new.self c.loop.counter c.loop.invariant.stands c.in-Failed.ensures.came
    c.in-Failed.ensures.few in
    ends_read c.args.grid.now _ _ _ _ c.fill.new.self c.loop.counter filled (omega (arith, c.loop-test.true))
    c.in-Failed.ensures.so.0 c.in-Failed.ensures.so.1

pub returns-in-Err-clause-answers : goal.returns-in-Err-clause-answers
returns-in-Err-clause-answers g c =
    let grid = c.args.grid.now in
    let line = line_at c.in-Line.end c.fill.new.self in
    let filled = stands_filled grid _ _ _ _ _ c.loop.held c.fill.new.self c.loop.counter c.loop.invariant.stands c.in-Line.ensures.came
    c.in-Line.ensures.few in
    let bytes : c.as_bytes.result.now ≡ answer_to_line grid line =
    c.as_bytes.ensures.value ∙ c.as_str.ensures.value ∙ c.answer_line-line.ensures.line
    ∙ ap (λ a. line_of_answer a ++ 10 ∷ []) c.answer.ensures
    ∙ reply_is grid line in
    let part = c.in-Err.ensures.part in
    ends_write grid _ _ _ _ _ c.fill.new.self c.loop.counter c.in-Line.end part.0 filled
    (omega (arith, c.loop-test.true)) c.in-Line.ensures.so.0 c.in-Line.ensures.few
    (omega (arith, ap length bytes, part.1))
    (subst (λ bs. Appends (g.O.Sink.taken c.loop.out) (g.O.Sink.taken c.write_all.new.out) (take part.0 bs)) bytes part.2)

pub loop-preserved : goal.loop-preserved
loop-preserved g c =
    let grid = c.args.grid.now in
    let line = line_at c.in-Line.end c.fill.new.self in
    let filled = stands_filled grid _ _ _ _ _ c.loop.held c.fill.new.self c.loop.counter c.loop.invariant.stands c.in-Line.ensures.came
    c.in-Line.ensures.few in
    let bytes : c.as_bytes.result.now ≡ answer_to_line grid line =
    c.as_bytes.ensures.value ∙ c.as_str.ensures.value ∙ c.answer_line-line.ensures.line
    ∙ ap (λ a. line_of_answer a ++ 10 ∷ []) c.answer.ensures
    ∙ reply_is grid line in
    let wrote = subst (Appends (g.O.Sink.taken c.loop.out) (g.O.Sink.taken c.write_all.new.out)) bytes c.in_default-write_all.ensures.all in
    let answered =
    stands_answered grid _ _ _ _ _ c.fill.new.self c.loop.counter c.in-Line.end filled c.in-Line.ensures.so.0
    c.in-Line.ensures.few wrote in
    record {
      stands = subst (λ held.
          Stands grid (g.S.Source.left c.args.source.now) (g.S.Source.left c.fill.new.source)
          (g.O.Sink.taken c.args.out.now) (g.O.Sink.taken c.write_all.new.out) held (c.loop.counter + 1)) (sym c.drop_line.ensures)
          answered;
      source = omega (arith, c.loop.invariant.source, c.in-Line.ensures.cause.later);
      sink = omega (arith, c.loop.invariant.sink, c.in_default-write_all.ensures.cause.later);
    }

pub returns-clause-answers : goal.returns-clause-answers
returns-clause-answers g c =
    ends_limit c.args.grid.now _ _ _ _ c.loop.held c.loop.counter c.loop.invariant.stands
    (omega (arith, c.loop-test.false, c.loop.auto.counter-end))
