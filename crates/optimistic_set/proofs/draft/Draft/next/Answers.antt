use Rattle.std.proofs.Common.{◌≡◌, ◌-◌, ◌∙◌, [], length, sym, ap, subst, arith, IfOk, IfErr}
use Rattle.fact_join.specs.Adding.{ComesOf}
use Rattle.fact_layer.specs.Laid.{laid_over}
use Rattle.instance_search.specs.Found.{IsFound, AreFound}
use Rattle.task_model.specs.Dreams.{supposing}
use Rattle.task_model.specs.Known.{Known, IsCoherent}
use Rattle.optimistic_set.proofs.DraftLemmas.{draft_known, draft_coherent}
use Rattle.optimistic_set.specs.Drafts.{seeks_new}
use Rattle.optimistic_set.proofs.draft.Draft.next.Goals as goal

pub new-look-requires : goal.new-look-requires
new-look-requires c =
    let known = c.args.self.now.facts.now.known in
    subst (λ ns. IsCoherent (laid_over known ns c.args.self.now.more.facts c.args.self.now.more.values)) (sym c.as_slice.ensures.value)
    (draft_coherent c.args.task.now known c.requires.base c.args.self.now c.requires.draft c.args.self.now.facts.now.coherent)

pub returns-clause-found : goal.returns-clause-found
returns-clause-found c =
    let known = c.args.self.now.facts.now.known in
    let is = c.new-look.ensures
    ∙ ap (λ ns. laid_over known ns c.args.self.now.more.facts c.args.self.now.more.values) c.as_slice.ensures.value
    ∙ draft_known c.args.task.now known c.requires.base c.args.self.now c.requires.draft in
    subst (λ (k : Known). IfOk c.found_instances.result (λ instances.
    AreFound c.args.task.now k (seeks_new c.args.queue.now c.args.tried.now c.args.self.now.asked) instances.items)) is
    c.found_instances.ensures.found

pub returns-clause-fault : goal.returns-clause-fault
returns-clause-fault c =
    let known = c.args.self.now.facts.now.known in
    let is = c.new-look.ensures
    ∙ ap (λ ns. laid_over known ns c.args.self.now.more.facts c.args.self.now.more.values) c.as_slice.ensures.value
    ∙ draft_known c.args.task.now known c.requires.base c.args.self.now c.requires.draft in
    let long : c.len-most.result ≡ length c.args.self.now.entries.items =
    omega (arith, c.len-most.ensures, c.args.self.now.entries.ok.0) in
    subst (λ n. IfErr c.found_instances.result (ComesOf (20000 - n) (IsFound c.args.task.now
    (supposing c.args.task.now known c.args.self.now.entries.items c.args.self.now.entries.items)
    (seeks_new c.args.queue.now c.args.tried.now c.args.self.now.asked)) [])) long
    (subst (λ (k : Known). IfErr c.found_instances.result (ComesOf (20000 - c.len-most.result) (IsFound c.args.task.now k
    (seeks_new c.args.queue.now c.args.tried.now c.args.self.now.asked)) [])) is c.found_instances.ensures.fault)
