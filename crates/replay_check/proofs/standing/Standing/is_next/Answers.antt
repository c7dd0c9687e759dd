use Rattle.std.proofs.Common.{◌≡◌, ◌∙◌, ◌+◌, Some, length, sym, ap, arith, slice_get}
use Rattle.std.specs.Option.{option_copied}
use Rattle.task_model.specs.Streams.{yields_of}
use Rattle.task_model.specs.declared.stream.Instance.{Instance}
use Rattle.transcript_model.specs.Names.{call_of_instance}
use Rattle.transcript_model.specs.declared.entry.Entry.TheVariants as entry
use Rattle.replay_check.proofs.NextRequestLemmas.{same_no, same_yes}
use Rattle.replay_check.proofs.standing.Standing.is_next.Goals as goal
use Rattle.replay_check.proofs.standing.Standing.is_next.Goals.{After-is_request}

module _ (c : After-is_request) where
  head_is : slice_get c.args.self.now.course.batch.to_ask 0 ≡ Some c.in-Some.next.now
  head_is = sym c.next_asked.ensures ∙ ap option_copied c.in-Some.is

  number_is : c.len.result + 1 ≡ length c.args.self.now.knowledge.asked.items + 1
  number_is = omega (arith, c.len.ensures, c.args.self.now.knowledge.asked.ok)

some_is : (i j : Instance) → Some i ≡ Some j → i ≡ j
some_is i j e = cc

pub returns-in-Some-clause-yes : goal.returns-in-Some-clause-yes
returns-in-Some-clause-yes c = λ e.
    let task = c.args.bounds.now.task.now in
    let l = c.args.self.now.knowledge in
    let next = c.in-Some.next.now in
    record {
      instance = next;
      head = head_is c;
      is = same_yes task c.names-names.result.now l.queue
          (c.len.result + 1) next c.args.request.now.number c.args.request.now.turn c.args.request.now.call.now (sym c.is_request.ensures ∙ e)
          ∙ (λ k. entry.Ask (number_is c k) (yields_of l.queue next) (call_of_instance task (c.names-names.ensures k) next));
    }

pub returns-in-Some-clause-no : goal.returns-in-Some-clause-no
returns-in-Some-clause-no c = λ n.
    let task = c.args.bounds.now.task.now in
    let l = c.args.self.now.knowledge in
    let next = c.in-Some.next.now in
    let same : n.instance ≡ next = some_is n.instance next (sym n.head ∙ head_is c) in
    c.is_request.ensures
    ∙ same_no task c.names-names.result.now l.queue (c.len.result + 1) next c.args.request.now.number c.args.request.now.turn c.args.request.now.call.now
    (n.is
    ∙ (λ k. entry.Ask (sym (number_is c) k)
    (yields_of l.queue (same k)) (call_of_instance task (sym c.names-names.ensures k) (same k))))
