use Rattle.std.proofs.Common.{◌≡◌, refl, subst, sym}
use Rattle.std.proofs.lemmas.Result.{IfOk-weaker}
use Rattle.task_model.specs.Fit.{IsFitDomain}
use Rattle.task_reader.specs.Fitness.{IsShort}
use Rattle.task_reader.specs.Texts.{SpellsDomain}
use Rattle.validate_app.proofs.InputsLemmas.{domain_refused, memory_stops, stops_there}
use Rattle.validate_app.specs.Held.{held_paths}
use Rattle.validate_app.specs.Inputs.{IsDomainOf}
use Rattle.validate_app.specs.declared.stop.FileRole.TheVariants.{Domain}
use Rattle.validate_app.proofs.texts.read_domain.Goals as goal

pub returns-in-Err-clause-stop : goal.returns-in-Err-clause-stop
returns-in-Err-clause-stop g c = stops_there _ _ Domain tt _ refl c.in-Err.stop c.in-Err.ensures.stop

pub returns-clause-stop : goal.returns-clause-stop
returns-clause-stop g c =
    domain_refused _ _ c.in-Ok.bytes.items c.in-Ok.ensures.bytes c.as_slice.result.now c.as_slice.ensures.value
    c.in-Err-domain_in.refusal c.in-Err-domain_in.ensures.refused _ c.stop_of.ensures

pub returns-in-Ok-domain_in-clause-domain : goal.returns-in-Ok-domain_in-clause-domain
returns-in-Ok-domain_in-clause-domain g c =
    let domain : IsDomainOf (g.F.Files.told c.args.files.now)
    (held_paths c.args.paths.now) c.in-Ok-domain_in.domain = record {
      path = _;
      named = refl;
      bytes = c.in-Ok.bytes.items;
      has = c.in-Ok.ensures.bytes;
      so = subst (λ text. SpellsDomain text c.in-Ok-domain_in.domain) c.as_slice.ensures.value
          c.in-Ok-domain_in.ensures.read;
    } in
    IfOk-weaker c.boxed.result (λ b. b.value ≡ c.in-Ok-domain_in.domain)
    (λ b. IsDomainOf (g.F.Files.told c.args.files.now) (held_paths c.args.paths.now) b.value)
    (λ b is. subst (IsDomainOf (g.F.Files.told c.args.files.now) (held_paths c.args.paths.now)) (sym is) domain)
    c.boxed.ensures.content

pub returns-in-Ok-domain_in-clause-fit : goal.returns-in-Ok-domain_in-clause-fit
returns-in-Ok-domain_in-clause-fit g c =
    let fit = c.in-Ok-domain_in.ensures.fit
    (subst IsShort (sym c.as_slice.ensures.value) c.in-Ok.ensures.bytes.short) in
    IfOk-weaker c.boxed.result (λ b. b.value ≡ c.in-Ok-domain_in.domain) (λ b. IsFitDomain b.value)
    (λ b is. subst IsFitDomain (sym is) fit) c.boxed.ensures.content

pub returns-in-Ok-domain_in-clause-stop : goal.returns-in-Ok-domain_in-clause-stop
returns-in-Ok-domain_in-clause-stop g c = memory_stops _ _ c.boxed.result c.boxed.ensures.stop
