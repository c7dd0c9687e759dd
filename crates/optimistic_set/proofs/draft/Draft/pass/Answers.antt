use Rattle.std.proofs.Common.{◌++◌, ◌-◌, List, ℕ, sym, subst}
use Rattle.std.proofs.lemmas.Result.{err_from_is_err_and}
use Rattle.instance_search.specs.Found.{AreFound}
use Rattle.task_model.specs.Dreams.{supposing, instances_of}
use Rattle.task_model.specs.Known.{IsCoherent}
use Rattle.task_model.specs.declared.stream.Instance.{Instance}
use Rattle.optimistic_set.proofs.DraftLemmas.{draft_known, draft_coherent}
use Rattle.optimistic_set.proofs.PassLemmas.{pass_is, found_plain, pass_fault}
use Rattle.optimistic_set.specs.Drafts.{ArePlainInstances, AddsEntries, seeks_new}
use Rattle.optimistic_set.proofs.draft.Draft.pass.Goals as goal

pub add_entries-requires-clause-instances : goal.add_entries-requires-clause-instances
add_entries-requires-clause-instances c =
    let task = c.args.task.now in
    let known = c.args.self.now.facts.now.known in
    let old = c.args.self.now.entries.items in
    let d = c.requires.draft in
    let there = supposing task known old old in
    let instances = c.in_ok-instances.instances.items in
    let found : AreFound task there (seeks_new c.args.queue.now c.args.tried.now (instances_of old)) instances =
    subst (λ (a : List Instance). AreFound task there (seeks_new c.args.queue.now c.args.tried.now a) instances) d.asked
    c.in_ok-instances.ensures.found in
    let coherent : IsCoherent there = subst IsCoherent (draft_known task known c.requires.base c.args.self.now d)
    (draft_coherent task known c.requires.base c.args.self.now d c.args.self.now.facts.now.coherent) in
    let plain = found_plain task known c.args.queue.now c.args.tried.now old instances coherent found in
    subst (λ (is : List Instance). ArePlainInstances task (known.names ++ c.args.self.now.names.items) is) (sym c.as_slice.ensures.value)
    (subst (λ (ns : List (List ℕ)). ArePlainInstances task (known.names ++ ns) instances) (sym d.names) plain)

pub returns-clause-pass : goal.returns-clause-pass
returns-clause-pass c =
    let task = c.args.task.now in
    let known = c.args.self.now.facts.now.known in
    let old = c.args.self.now.entries.items in
    let new = c.add_entries.new.self.entries.items in
    let there = supposing task known old old in
    let instances = c.in_ok-instances.instances.items in
    let found : AreFound task there (seeks_new c.args.queue.now c.args.tried.now (instances_of old)) instances =
    subst (λ (a : List Instance). AreFound task there (seeks_new c.args.queue.now c.args.tried.now a) instances) c.requires.draft.asked
    c.in_ok-instances.ensures.found in
    pass_is task known c.args.queue.now c.args.tried.now old new instances found
    (subst (λ (is : List Instance). AddsEntries task known old new is) c.as_slice.ensures.value c.in_ok-add_entries.ensures.added)

pub returns-in_err-instances-clause-fault : goal.returns-in_err-instances-clause-fault
returns-in_err-instances-clause-fault c =
    let p = err_from_is_err_and c.from_residual.result c.from_residual.ensures.1 in
    rw (p.1, p.2)
    (pass_fault c.args.task.now c.args.self.now.facts.now.known c.args.queue.now c.args.tried.now c.args.self.now.entries.items
    c.args.self.now.asked c.in_err-instances.field-0.0 c.requires.draft.asked c.in_err-instances.ensures.fault)
