use Rattle.std.proofs.Common.{ap, refl, sym, subst, ◌∙◌}
use Rattle.plan_reader.specs.Claims.{claimed_cost}
use Rattle.plan_reader.specs.Plans.{SpellsPlan}
use Rattle.validate_app.proofs.InputsLemmas.{plan_refused, stops_there}
use Rattle.validate_app.specs.declared.stop.FileRole.TheVariants.{Plan}
use Rattle.validate_app.proofs.texts.read_plan.Goals as goal

pub returns-in-Err-clause-stop : goal.returns-in-Err-clause-stop
returns-in-Err-clause-stop g c =
    stops_there _ _ Plan c.requires _ refl c.in-Err.stop c.in-Err.ensures.stop

pub returns-clause-stop : goal.returns-clause-stop
returns-clause-stop g c =
    plan_refused _ _ c.requires c.in-Ok.bytes.items c.in-Ok.ensures.bytes c.as_slice.result.now
    c.as_slice.ensures.value c.in-Err-plan_in.refusal c.in-Err-plan_in.ensures.refused _ c.stop_of.ensures

pub returns-in-Ok-plan_in-clause-plan : goal.returns-in-Ok-plan_in-clause-plan
returns-in-Ok-plan_in-clause-plan g c = record {
  path = _;
  named = refl;
  bytes = c.in-Ok.bytes.items;
  has = c.in-Ok.ensures.bytes;
  so = (
    subst (λ text. SpellsPlan text c.in-Ok-plan_in.calls.items) c.as_slice.ensures.value c.in-Ok-plan_in.ensures.read,
    ap claimed_cost (sym c.as_slice-in-Ok-plan_in.ensures.value) ∙ sym c.claimed_cost.ensures,
  );
}
