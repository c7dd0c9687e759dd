use Rattle.std.proofs.Common.{◌≡◌, ap, arith, subst, sym, ◌∙◌}
use Rattle.std.specs.Option.{option_or}
use Rattle.plan_reader.proofs.ClaimsLemmas.{all_claims, claims_left}
use Rattle.plan_reader.proofs.PlansLemmas.{lines_left, rest_shorter}
use Rattle.plan_reader.specs.Claims.{claimed_cost, first_claim}
use Rattle.plan_reader.proofs.claim.claimed_cost.Goals as goal

pub lines-init : goal.lines-init
lines-init c = all_claims c.args.text.now

pub lines-preserved : goal.lines-preserved
lines-preserved c =
    subst (λ left. claimed_cost c.args.text.now ≡ first_claim (lines_left left)) c.in-Some.is c.lines.invariant
    ∙ claims_left c.in-Some.rest.now c.cut_line.result.line.now c.cut_line.result.rest c.cut_line.ensures
    ∙ ap (λ o. option_or o (first_claim (lines_left c.cut_line.result.rest)))
    (sym c.claim_of.ensures ∙ c.in_default-claim_of.is)

pub lines-smaller : goal.lines-smaller
lines-smaller c =
    let shorter =
    rest_shorter c.in-Some.rest.now c.cut_line.result.line.now c.cut_line.result.rest c.cut_line.ensures in
    rw c.in-Some.is (omega (arith, shorter))

pub returns-in-Some-claim_of : goal.returns-in-Some-claim_of
returns-in-Some-claim_of c =
    sym (subst (λ left. claimed_cost c.args.text.now ≡ first_claim (lines_left left)) c.in-Some.is c.lines.invariant
    ∙ claims_left c.in-Some.rest.now c.cut_line.result.line.now c.cut_line.result.rest c.cut_line.ensures
    ∙ ap (λ o. option_or o (first_claim (lines_left c.cut_line.result.rest)))
    (sym c.claim_of.ensures ∙ c.in-Some-claim_of.is))

pub returns : goal.returns
returns c =
    sym (subst (λ left. claimed_cost c.args.text.now ≡ first_claim (lines_left left)) c.in_default.is c.lines.invariant)
