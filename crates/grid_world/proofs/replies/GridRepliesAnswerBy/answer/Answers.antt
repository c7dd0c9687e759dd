use Rattle.std.proofs.Common.{◌≡◌, ◌++◌, ◌∷◌, [], ◌∙◌, ap, subst, sym}
use Rattle.io_world.specs.Replies.{IsLine}
use Rattle.grid_world.specs.AnswerLines.{line_of_answer}
use Rattle.grid_world.specs.Answers.{answer_in}
use Rattle.grid_world.proofs.AnswerLinesLemmas.{front_is, reply_line_is}
use Rattle.grid_world.proofs.replies.GridRepliesAnswerBy.answer.Goals as goal

pub returns-clause-value : goal.returns-clause-value
returns-clause-value c =
    let whole : c.as_bytes.result.now ≡ line_of_answer c.grid_answer.result ++ 10 ∷ [] =
    c.as_bytes.ensures.value ∙ c.as_str.ensures.value ∙ c.answer_line-line.ensures.line in
    c.in_ok-text.ensures.items ∙ c.without_last.ensures ∙ front_is c.as_bytes.result.now (line_of_answer c.grid_answer.result) whole
    ∙ ap line_of_answer (c.grid_answer.ensures ∙ ap (answer_in c.args.self.now.grid.now) c.without_return.ensures)
    ∙ reply_line_is c.args.self.now.grid.now c.args.request.now

pub returns-clause-line : goal.returns-clause-line
returns-clause-line c =
    let whole : c.as_bytes.result.now ≡ line_of_answer c.grid_answer.result ++ 10 ∷ [] =
    c.as_bytes.ensures.value ∙ c.as_str.ensures.value ∙ c.answer_line-line.ensures.line in
    let text = c.in_ok-text.ensures.items ∙ c.without_last.ensures
    ∙ front_is c.as_bytes.result.now (line_of_answer c.grid_answer.result) whole in
    subst IsLine (sym text) c.answer_line-line.ensures.one
