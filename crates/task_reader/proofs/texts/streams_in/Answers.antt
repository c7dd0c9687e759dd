use Rattle.std.proofs.lemmas.Result.{err_from_is_err_and}
use Rattle.sexpr_text.specs.Trees.{tree}
use Rattle.task_reader.proofs.RefusalsLemmas.{no_streams}
use Rattle.task_reader.proofs.FitTask.{streams_fit}
use Rattle.task_reader.proofs.texts.streams_in.Goals as goal

pub returns-in_err-streams-clause-refused : goal.returns-in_err-streams-clause-refused
returns-in_err-streams-clause-refused c =
    let p = err_from_is_err_and c.from_residual-in_err-streams.result c.from_residual-in_err-streams.ensures.1 in
    rw (p.1, p.2) (no_streams c.args.domain.now c.args.bytes.now
    (tree c.in_ok-tree.tree) c.in_ok-tree.ensures.exact c.in_err-streams.field-0.0 c.in_err-streams.ensures.reads)

pub returns-clause-fit : goal.returns-clause-fit
returns-clause-fit c =
    λ over short. streams_fit c.args.domain.now c.args.bytes.now c.in_ok-streams.streams over short
    (record { tree = tree c.in_ok-tree.tree; spelled = c.in_ok-tree.ensures.exact; holds = c.in_ok-streams.ensures.reads })
