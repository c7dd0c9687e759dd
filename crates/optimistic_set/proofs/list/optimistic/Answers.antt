use Rattle.std.proofs.Common.{◌≡◌, ℕ, List, sym, subst, arith}
use Rattle.std.proofs.lemmas.Result.{err_from_is_err_and}
use Rattle.task_model.specs.Dreams.{SupposedEntry, IsPass, AreSupposed}
use Rattle.task_model.specs.Known.{Known}
use Rattle.optimistic_set.proofs.PassLemmas.{supposed_more, too_many}
use Rattle.optimistic_set.specs.Drafts.{IsDraft, LacksPass}
use Rattle.optimistic_set.proofs.list.optimistic.Goals as goal

pub loop-pass-init : goal.loop-pass-init
loop-pass-init c = record { draft = c.new-draft.ensures.draft c.args.task.now; list = c.new-draft.ensures.empty }

pub loop-pass-preserved : goal.loop-pass-preserved
loop-pass-preserved c =
    let task = c.args.task.now in
    let known = c.args.facts.now.known in
    let e = c.loop-pass.invariant.draft.base in
    record {
      draft = subst (λ (k : Known). IsDraft task k c.pass.new.self) e c.in_ok-pass.ensures.draft;
      list = supposed_more task known c.args.queue.now c.args.tried.now c.loop-pass._pass c.loop-pass.draft.entries.items
          c.pass.new.self.entries.items c.loop-pass.invariant.list
          (subst (λ (k : Known). IsPass task k c.args.queue.now c.args.tried.now c.loop-pass.draft.entries.items
          c.pass.new.self.entries.items) e c.in_ok-pass.ensures.pass);
    }

pub returns-in_err-pass-clause-fault : goal.returns-in_err-pass-clause-fault
returns-in_err-pass-clause-fault c =
    let p = err_from_is_err_and c.from_residual.result c.from_residual.ensures.1 in
    let fault = c.in_err-pass.field-0.0 in
    rw (p.1, p.2)
    (too_many c.args.task.now c.args.facts.now.known c.args.queue.now c.args.tried.now c.loop-pass.draft.entries.items c.loop-pass._pass
    c.args.depth c.loop-pass-test.true c.loop-pass.invariant.list c.loop-pass.invariant.draft.few fault
    (subst (λ (k : Known). LacksPass c.args.task.now k c.args.queue.now c.args.tried.now c.loop-pass.draft.entries.items fault)
    c.loop-pass.invariant.draft.base c.in_err-pass.ensures.fault))

pub returns-clause-list : goal.returns-clause-list
returns-clause-list c =
    let task = c.args.task.now in
    let known = c.args.facts.now.known in
    let whole : c.loop-pass._pass ≡ c.args.depth = omega (arith, c.loop-pass-test.false, c.loop-pass.auto._pass-end) in
    subst (λ (list : List SupposedEntry). AreSupposed task known c.args.queue.now c.args.tried.now c.args.depth list) (sym c.new.ensures.list)
    (subst (λ (n : ℕ). AreSupposed task known c.args.queue.now c.args.tried.now n c.loop-pass.draft.entries.items) whole
    c.loop-pass.invariant.list)
