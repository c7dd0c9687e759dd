use Rattle.std.proofs.Common.{◌≡◌, [], length, ap, sym, ◌∙◌, ◌==◌, ◌<◌}
use Rattle.turn_run.proofs.TurnsOutcomeLemmas.{calls_settled, none_due}
use Rattle.round_run.proofs.BatchLemmas.{empty_of, filled_of, first_of}
use Rattle.turn_run.specs.Deciding.{known_in}
use Rattle.transcript_model.specs.Transcript.{notes_of}
use Rattle.turn_run.proofs.decide.decide_asks.Goals as goal

pub returns-then-asks-head : goal.returns-then-asks-head
returns-then-asks-head c =
    let situation = c.args.situation.now in
    let task = situation.task.now in
    let s = situation.session.now in
    let may = c.requires.may in
    let some : 0 < length c.in-Ok.dues.items =
    filled_of c.in-Ok.dues.items
    (ap (λ ds. length ds == 0) (sym c.as_slice.ensures.value) ∙ sym c.is_empty.ensures ∙ c.if-is_empty.false) in
    let first = first_of task s.entries c.in-Ok.dues.items c.in-Ok.ensures.ready some in
    calls_settled task s may.working may.learnt may.session situation.head.now may.head c.requires.needed
    (sym c.asks.ensures ∙ c.if-asks-head.true) c.in-Ok.dues.items c.in-Ok.ensures.due first.0 first.1

pub returns-then-is_empty : goal.returns-then-is_empty
returns-then-is_empty c =
    let situation = c.args.situation.now in
    let task = situation.task.now in
    let s = situation.session.now in
    let empty : c.in-Ok.dues.items ≡ [] =
    empty_of c.in-Ok.dues.items (ap (λ ds. length ds == 0) (sym c.as_slice.ensures.value) ∙ sym c.is_empty.ensures ∙ c.if-is_empty.true)
    in
    none_due task (known_in situation) (notes_of task s.entries) c.in-Ok.dues.items c.in-Ok.ensures.due empty
