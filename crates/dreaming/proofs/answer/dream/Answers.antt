use Rattle.std.proofs.Common.{◌≤◌, ◌∙◌, [], length, sym, subst}
use Rattle.optimistic_set.specs.Dreamable.{AreReal}
use Rattle.optimistic_set.specs.Faults.{HasListCause}
use Rattle.optimistic_set.specs.declared.fault.OptimisticFault.{OptimisticFault}
use Rattle.task_model.specs.Known.{Known}
use Rattle.dreaming.proofs.AfterLemmas.{there, names_real, names_enough, listed, session_dreams, session_knows, session_few, session_sure, session_full}
use Rattle.dreaming.proofs.answer.dream.Goals as goal

pub optimistic-requires-clause-declared : goal.optimistic-requires-clause-declared
optimistic-requires-clause-declared c =
    let task = c.args.task.now in
    let s = c.args.session.now in
    subst (λ (k : Known). length task.problem.objects ≤ length k.names)
    (sym (there task s c.requires.session c.requires.working c.requires.learnt [] 0 c.facts.result.now.known c.queue.result.now
    c.facts.ensures c.queue.ensures)) (names_enough task s.entries)

pub optimistic-requires-clause-names : goal.optimistic-requires-clause-names
optimistic-requires-clause-names c =
    let task = c.args.task.now in
    let s = c.args.session.now in
    subst (λ (k : Known). AreReal k.names)
    (sym (there task s c.requires.session c.requires.working c.requires.learnt [] 0 c.facts.result.now.known c.queue.result.now
    c.facts.ensures c.queue.ensures)) (names_real task c.requires.session.fit s.entries)

pub dream_over-requires-clause-listed : goal.dream_over-requires-clause-listed
dream_over-requires-clause-listed c =
    listed c.args.task.now c.facts.result.now.known c.queue.result.now c.args.tried.now c.from.result c.in-Ok.supposed c.in-Ok.ensures.base
    c.in-Ok.ensures.list c.in-Ok.ensures.known c.in-Ok.ensures.plain

pub returns-in-Ok-clause-dream : goal.returns-in-Ok-clause-dream
returns-in-Ok-clause-dream c limits deep =
    session_dreams c.args.task.now c.args.session.now c.requires.session c.requires.working c.requires.learnt c.args.tried.now c.from.result
    c.facts.result.now.known c.queue.result.now c.facts.ensures c.queue.ensures c.in-Ok.supposed c.in-Ok.ensures.base c.in-Ok.ensures.list
    (listed c.args.task.now c.facts.result.now.known c.queue.result.now c.args.tried.now c.from.result c.in-Ok.supposed c.in-Ok.ensures.base
    c.in-Ok.ensures.list c.in-Ok.ensures.known c.in-Ok.ensures.plain) c.args.states c.dream_over.result c.dream_over.ensures limits
    (deep ∙ sym c.from.ensures)

pub returns-in-Ok-clause-known : goal.returns-in-Ok-clause-known
returns-in-Ok-clause-known c =
    session_knows c.args.task.now c.args.session.now c.requires.session c.requires.working c.requires.learnt c.args.tried.now c.from.result
    c.facts.result.now.known c.queue.result.now c.facts.ensures c.queue.ensures c.in-Ok.supposed c.in-Ok.ensures.base c.in-Ok.ensures.list
    (listed c.args.task.now c.facts.result.now.known c.queue.result.now c.args.tried.now c.from.result c.in-Ok.supposed c.in-Ok.ensures.base
    c.in-Ok.ensures.list c.in-Ok.ensures.known c.in-Ok.ensures.plain) c.args.states c.dream_over.result c.dream_over.ensures

pub returns-in-Ok-clause-few : goal.returns-in-Ok-clause-few
returns-in-Ok-clause-few c =
    session_few c.args.task.now c.args.session.now c.requires.session c.requires.working c.requires.learnt c.args.tried.now c.from.result
    c.facts.result.now.known c.queue.result.now c.facts.ensures c.queue.ensures c.in-Ok.supposed c.in-Ok.ensures.base c.in-Ok.ensures.list
    (listed c.args.task.now c.facts.result.now.known c.queue.result.now c.args.tried.now c.from.result c.in-Ok.supposed c.in-Ok.ensures.base
    c.in-Ok.ensures.list c.in-Ok.ensures.known c.in-Ok.ensures.plain) c.args.states c.dream_over.result c.dream_over.ensures

pub returns-in-Ok-clause-empty : goal.returns-in-Ok-clause-empty
returns-in-Ok-clause-empty c limits deep same =
    session_sure c.args.task.now c.args.session.now c.requires.session c.requires.working c.requires.learnt c.args.tried.now c.from.result
    c.facts.result.now.known c.queue.result.now c.facts.ensures c.queue.ensures c.in-Ok.supposed c.in-Ok.ensures.base c.in-Ok.ensures.list
    (listed c.args.task.now c.facts.result.now.known c.queue.result.now c.args.tried.now c.from.result c.in-Ok.supposed c.in-Ok.ensures.base
    c.in-Ok.ensures.list c.in-Ok.ensures.known c.in-Ok.ensures.plain) c.args.states c.dream_over.result c.dream_over.ensures limits
    (deep ∙ sym c.from.ensures) same

pub returns-in-Err-TooManyEntries-clause-empty : goal.returns-in-Err-TooManyEntries-clause-empty
returns-in-Err-TooManyEntries-clause-empty c limits deep same =
    session_full c.args.task.now c.args.session.now c.requires.session c.requires.working c.requires.learnt c.args.tried.now c.from.result
    c.facts.result.now.known c.queue.result.now c.facts.ensures c.queue.ensures
    (subst (λ (f : OptimisticFault). HasListCause c.args.task.now c.facts.result.now.known c.queue.result.now c.args.tried.now
    c.from.result f)
    c.in-Err-TooManyEntries.field-0-is c.in-Err-TooManyEntries.ensures.fault) limits (deep ∙ sym c.from.ensures)
