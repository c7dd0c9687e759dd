use Rattle.std.proofs.Common.{◌≡◌, ℕ, ◌*◌, inl, inr, List, length, slice_get, sym, ap, subst, ◌∙◌, arith}
use Rattle.std.proofs.lemmas.Bool.{cases_lt}
use Rattle.std.proofs.lemmas.Option.{same_Some, slice_get_within}
use Rattle.lemmas.proofs.ListTests.{get_some}
use Rattle.lemmas.proofs.Members.{member_at}
use Rattle.plan_check.proofs.ReadableLemmas.{readable_action}
use Rattle.task_model.proofs.TruthLemmas.{have_types-length}
use Rattle.task_model.specs.State.{contains}
use Rattle.optimal_search.proofs.PayLemmas.{rows_pay}
use Rattle.optimal_search.specs.ShareLemmas.{fair_lower, lower_then}
use Rattle.optimal_search.specs.Shares.{IsSharedStep, adds_of}
use Rattle.optimal_search.specs.declared.shares.TheConstants.{UNIT}
use Rattle.optimal_search.proofs.shares.share_rows.Goals as goal

pub share_step-requires-clause-few : goal.share_step-requires-clause-few
share_step-requires-clause-few g c =
    let domain = c.args.task.now.domain in
    let known = g.L.Look.known c.args.look.now in
    let rows = c.args.rows.now in
    let args = c.args-item.result in
    let action = c.args.action.now in
    let params = (readable_action domain c.requires.fit.domain action c.requires.action).params in
    let there =
    member_at rows c.loop-args.args-index args
    (get_some rows c.loop-args.args-index args c.loop-args-test.true c.args-item.is) in
    let typed = ((c.requires.rows.each args).0 there).0 in
    omega (arith, params, ap length c.as_slice.ensures, have_types-length known args action.params typed)

pub loop-args-preserved : goal.loop-args-preserved
loop-args-preserved g c =
    let task = c.args.task.now in
    let known = g.L.Look.known c.args.look.now in
    let action = c.args.action.now in
    let rows = c.args.rows.now in
    let index = c.loop-args.args-index in
    let item = c.args-item.result in
    let now = c.loop-args.shares in
    let new = c.share_step.new.shares in
    let here = get_some rows index item c.loop-args-test.true c.args-item.is in
    let shared = subst (λ (xs : List ℕ). IsSharedStep task known action xs new) c.as_slice.ensures
    c.in_ok-share_step.ensures.shared in
    record {
      lower = lower_then c.args.shares.now now new c.loop-args.invariant.lower c.in_ok-share_step.ensures.lower;
      shared = λ n args below at.
          elim (cases_lt n index) [
            | inl before ↦
                λ cost costs.
                fair_lower (contains (adds_of action args)) (cost * UNIT) now new c.in_ok-share_step.ensures.lower
                (c.loop-args.invariant.shared n args before at cost costs)
            | inr from ↦
                let last : index ≡ n = omega (arith, below, from) in
                let same = same_Some item args (sym here ∙ ap (slice_get rows) last ∙ at) in
                subst (λ (xs : List ℕ). IsSharedStep task known action xs new) same shared
          ];
    }

pub returns-clause-shared : goal.returns-clause-shared
returns-clause-shared g c =
    let rows = c.args.rows.now in
    rows_pay c.args.task.now (g.L.Look.known c.args.look.now) c.args.action.now rows c.loop-args.shares c.requires.rows
    (λ n args at. c.loop-args.invariant.shared n args
    (let within = slice_get_within rows n args at in omega (arith, within)) at)
