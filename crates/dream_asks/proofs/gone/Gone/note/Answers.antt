use Rattle.std.proofs.Common.{◌∙◌, ◌+◌, ◌++◌, ◌∷◌, [], ap, arith, refl}
use Rattle.std.specs.Option.{option_or}
use Rattle.dream_asks.proofs.FromLemmas.{came_same}
use Rattle.dream_asks.proofs.NotingLemmas.{all_noted, none_noted, noted_more, notes_answers}
use Rattle.dream_asks.specs.Noting.{HaveSameAnswers, came_by}
use Rattle.dream_asks.specs.Progress.{Progress, got}
use Rattle.dream_asks.proofs.gone.Gone.note.Goals as goal

pub loop-place-init : goal.loop-place-init
loop-place-init c = (
  none_noted c.args.facts.now.known.names c.args.behind.now c.args.first c.args.asks.now c.args.self.now,
  λ n le. refl,
)

pub loop-place-preserved : goal.loop-place-preserved
loop-place-preserved c =
    let names = c.args.facts.now.known.names in
    let behind = c.args.behind.now in
    let left = c.answers_from-left.result.now in
    let ask = c.index-asks-place.result in
    let same : HaveSameAnswers (c.args.first + c.loop-place.place) left behind =
    λ n le. c.answers_from-left.ensures n (omega (arith, le, c.from.ensures)) ∙ c.loop-place.invariant.1 n le in (
      noted_more names behind c.args.first c.args.asks.now c.loop-place.place ask c.args.self.now c.loop-place.self
          c.note_answer.new.self c.loop-place-test.true c.index-asks-place.is c.loop-place.invariant.0
          (c.note_answer.ensures.real ∙ ap (λ (p : Progress). p.real) c.self.view_is)
          (c.note_answer.ensures.taken ∙ c.in_ok-add.ensures.ok ∙ ap (λ (p : Progress). p.taken ++ ask.instance ∷ []) c.self.view_is)
          (λ o. c.in_ok-note_answer.ensures.got o
          ∙ (λ i. option_or (got (c.self.view_is i) o)
          (came_by names left (c.from.ensures i + c.loop-place.place) (c.as_slice.ensures i) o))
          ∙ ap (option_or (got c.loop-place.self o))
          (came_same names left behind (c.args.first + c.loop-place.place) ask.outputs o (same (c.args.first + c.loop-place.place)
          (omega arith)))),
      λ n le. same n (omega (arith, le)),
    )

pub returns-clause-noted : goal.returns-clause-noted
returns-clause-noted c = λ version task before sent made is.
    notes_answers version task before c.args.behind.now c.args.facts.now.known.names c.args.first c.args.asks.now made
    c.args.self.now c.loop-place.self sent
    (all_noted c.args.facts.now.known.names c.args.behind.now c.args.first c.args.asks.now c.loop-place.place c.args.self.now
    c.loop-place.self (omega (arith, c.loop-place-test.false)) c.loop-place.invariant.0) is
