use Rattle.std.proofs.Common.{ap, sym, ◌∙◌, ◌≡◌, ◌||◌, ◌&&◌, nat_lt, true, false}
use Rattle.std.specs.List.{list_any}
use Rattle.task_model.specs.Streams.{is_end_of, is_yield_of, is_test}
use Rattle.instance_queue.proofs.NotesLemmas.{yielded_some}
use Rattle.instance_queue.specs.declared.queue.Tally.{Tally}
use Rattle.instance_queue.proofs.queue.Queue.is_finished.Goals as goal

pub returns-then-is_test : goal.returns-then-is_test
returns-then-is_test c =
    let notes = c.args.self.now in
    let i = c.args.instance.now in
    let open_still : list_any (is_end_of i) notes ≡ false = sym (ap (λ (t : Tally). t.ended) c.tally-tally.ensures) ∙ c.if-tally.false in
    let test : is_test c.args.stream.now ≡ true = sym c.is_test.ensures ∙ c.if-is_test.true in
    ap (λ (t : Tally). nat_lt 0 t.yields) c.tally-tally.ensures ∙ yielded_some notes i
    ∙ sym (λ k. open_still k || (test k && list_any (is_yield_of i) notes))
