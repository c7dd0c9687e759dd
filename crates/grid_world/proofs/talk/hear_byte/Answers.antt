use Rattle.std.proofs.Common.{◌≡◌, ◌++◌, ◌∷◌, [], ◌∙◌, ap}
use Rattle.std.specs.Io.BufRead.{strip_last}
use Rattle.grid_world.specs.AnswerLines.{line_of_answer, answer_to_line}
use Rattle.grid_world.specs.Answers.{answer_in}
use Rattle.grid_world.proofs.ServingLemmas.{reply_is}
use Rattle.grid_world.proofs.SessionsLemmas.{hears_feed}
use Rattle.grid_world.proofs.talk.hear_byte.Goals as goal

pub returns-in_ok-extend_from_slice : goal.returns-in_ok-extend_from_slice
returns-in_ok-extend_from_slice c =
    let grid = c.args.grid.now in
    let left = c.args.heard.now.begun.items in
    let line : c.without_return.result.now ≡ strip_last 13 left = c.without_return.ensures ∙ ap (strip_last 13) c.deref.ensures.value in
    let bytes : c.as_bytes.result.now ≡ answer_to_line grid (strip_last 13 left) =
    c.as_bytes.ensures.value ∙ c.as_str.ensures.value ∙ c.answer_line-line.ensures.line
    ∙ ap (λ a. line_of_answer a ++ 10 ∷ []) (c.grid_answer.ensures ∙ ap (answer_in grid) line) ∙ reply_is grid (strip_last 13 left) in
    hears_feed grid c.args.byte left c.args.heard.now.answers.items c.clear.new.self.items c.extend_from_slice.new.self.items
    c.if-byte-eq10.true c.clear.ensures.items
    (c.in_ok-extend_from_slice.ensures.items ∙ ap (λ t. c.args.heard.now.answers.items ++ t) bytes)
