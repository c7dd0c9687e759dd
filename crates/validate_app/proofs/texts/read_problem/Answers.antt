use Rattle.std.proofs.Common.{◌≡◌, refl, subst, sym}
use Rattle.std.proofs.lemmas.Result.{IfOk-weaker}
use Rattle.problem_reader.specs.Fitness.{IsFitOver}
use Rattle.task_reader.specs.Fitness.{IsShort}
use Rattle.task_reader.specs.Texts.{SpellsProblem}
use Rattle.validate_app.proofs.InputsLemmas.{memory_stops, problem_refused, stops_there}
use Rattle.validate_app.specs.Held.{held_paths}
use Rattle.validate_app.specs.Inputs.{IsProblemOf}
use Rattle.validate_app.specs.declared.stop.FileRole.TheVariants.{Problem}
use Rattle.validate_app.proofs.texts.read_problem.Goals as goal

pub returns-in-Err-clause-stop : goal.returns-in-Err-clause-stop
returns-in-Err-clause-stop g c =
    stops_there _ _ Problem (c.args.domain.now, c.requires.domain) _ refl c.in-Err.stop c.in-Err.ensures.stop

pub returns-clause-stop : goal.returns-clause-stop
returns-clause-stop g c =
    problem_refused _ _ c.args.domain.now c.requires.domain c.in-Ok.bytes.items c.in-Ok.ensures.bytes
    c.as_slice.result.now
    c.as_slice.ensures.value c.in-Err-problem_in.refusal c.in-Err-problem_in.ensures.refused _ c.stop_of.ensures

pub returns-in-Ok-problem_in-clause-problem : goal.returns-in-Ok-problem_in-clause-problem
returns-in-Ok-problem_in-clause-problem g c =
    let problem : IsProblemOf (g.F.Files.told c.args.files.now) (held_paths c.args.paths.now) c.args.domain.now
    c.in-Ok-problem_in.problem = record {
      path = _;
      named = refl;
      bytes = c.in-Ok.bytes.items;
      has = c.in-Ok.ensures.bytes;
      so = subst (λ text. SpellsProblem c.args.domain.now text c.in-Ok-problem_in.problem) c.as_slice.ensures.value
          c.in-Ok-problem_in.ensures.read;
    } in
    IfOk-weaker c.boxed.result (λ b. b.value ≡ c.in-Ok-problem_in.problem)
    (λ b. IsProblemOf (g.F.Files.told c.args.files.now) (held_paths c.args.paths.now) c.args.domain.now b.value)
    (λ b is. subst (IsProblemOf (g.F.Files.told c.args.files.now) (held_paths c.args.paths.now) c.args.domain.now)
    (sym is) problem)
    c.boxed.ensures.content

pub returns-in-Ok-problem_in-clause-fit : goal.returns-in-Ok-problem_in-clause-fit
returns-in-Ok-problem_in-clause-fit g c =
    let fit = c.in-Ok-problem_in.ensures.fit
    (record { bytes = c.requires.domain.bytes; short = c.requires.domain.has.short; spelled = c.requires.domain.so })
    (subst IsShort (sym c.as_slice.ensures.value) c.in-Ok.ensures.bytes.short) in
    IfOk-weaker c.boxed.result (λ b. b.value ≡ c.in-Ok-problem_in.problem) (λ b. IsFitOver c.args.domain.now b.value)
    (λ b is. subst (IsFitOver c.args.domain.now) (sym is) fit) c.boxed.ensures.content

pub returns-in-Ok-problem_in-clause-stop : goal.returns-in-Ok-problem_in-clause-stop
returns-in-Ok-problem_in-clause-stop g c = memory_stops _ _ c.boxed.result c.boxed.ensures.stop
