use Rattle.std.proofs.Common.{◌≡◌, ◌∙◌, sym, subst}
use Rattle.std.proofs.lemmas.Result.{IfOk-weaker}
use Rattle.task_model.specs.Fit.{IsFit, IsFitDomain}
use Rattle.task_model.specs.declared.domain.Domain as domains
use Rattle.problem_reader.specs.Fitness.{IsFitOver}
use Rattle.stream_reader.specs.Fitness.{AreFitOver}
use Rattle.validate_app.proofs.InputsLemmas.{memory_stops, problem_kept, stops_since}
use Rattle.validate_app.specs.Held.{held_paths}
use Rattle.validate_app.specs.Inputs.{AreStreamsByWords, IsDomainOf, IsPlainTaskOf, IsProblemOf}
use Rattle.validate_app.proofs.texts.read_task.Goals as goal

pub read_problem-requires : goal.read_problem-requires
read_problem-requires g c = record {
  domain = subst (λ told. IsDomainOf told (held_paths c.args.paths.now) c.deref.result.now)
      (sym c.read_domain.ensures.same)
      (subst (IsDomainOf (g.F.Files.told c.args.files.now) (held_paths c.args.paths.now))
      (sym c.deref.ensures) c.in-Ok.ensures.domain);
}

pub returns-in-Err-read_problem-clause-stop : goal.returns-in-Err-read_problem-clause-stop
returns-in-Err-read_problem-clause-stop g c =
    stops_since _ _ _ _ c.read_domain.ensures.later _ _ c.read_domain.ensures.same c.in-Err-read_problem.stop
    c.in-Err-read_problem.ensures.stop

pub read_streams-requires-clause-domain : goal.read_streams-requires-clause-domain
read_streams-requires-clause-domain g c =
    subst (λ told. IsDomainOf told (held_paths c.args.paths.now) c.deref-2.result.now)
    (sym (c.read_problem.ensures.same ∙ c.read_domain.ensures.same))
    (subst (IsDomainOf (g.F.Files.told c.args.files.now) (held_paths c.args.paths.now))
    (sym c.deref-2.ensures) c.in-Ok.ensures.domain)

pub read_streams-requires-clause-problem : goal.read_streams-requires-clause-problem
read_streams-requires-clause-problem g c = (
  c.in-Ok-read_problem.problem.value,
  problem_kept _ _ (held_paths c.args.paths.now) _ _ c.in-Ok-read_problem.problem.value c.read_problem.ensures.same
      (c.deref.ensures ∙ sym c.deref-2.ensures) c.in-Ok-read_problem.ensures.problem,
)

pub returns-in-Err-read_streams-clause-stop : goal.returns-in-Err-read_streams-clause-stop
returns-in-Err-read_streams-clause-stop g c =
    stops_since _ _ _ _ c.read_domain.ensures.later _ _ c.read_domain.ensures.same c.in-Err-read_streams.stop
    (stops_since _ _ _ _ c.read_problem.ensures.later _ _ c.read_problem.ensures.same c.in-Err-read_streams.stop
    c.in-Err-read_streams.ensures.stop)

pub returns-in-Ok-read_streams-clause-task : goal.returns-in-Ok-read_streams-clause-task
returns-in-Ok-read_streams-clause-task g c =
    let told = g.F.Files.told c.args.files.now in
    let w = held_paths c.args.paths.now in
    let domain = c.into_inner-domain.result in
    let problem = c.into_inner-problem.result in
    let streams = c.in-Ok-read_streams.streams in
    let first = c.deref.ensures ∙ sym c.into_inner-domain.ensures in
    let second = c.deref-2.ensures ∙ sym c.into_inner-domain.ensures in
    let task : IsPlainTaskOf told w (record { domain = domain; problem = problem; streams = streams }) = record {
      domain = subst (IsDomainOf told w) (sym c.into_inner-domain.ensures) c.in-Ok.ensures.domain;
      problem = subst (IsProblemOf told w domain) (sym c.into_inner-problem.ensures)
          (subst (λ (d : domains.Domain). IsProblemOf told w d c.in-Ok-read_problem.problem.value) first
          (subst (λ files. IsProblemOf files w c.deref.result.now c.in-Ok-read_problem.problem.value)
          c.read_domain.ensures.same c.in-Ok-read_problem.ensures.problem));
      streams = subst (λ (d : domains.Domain). AreStreamsByWords told w d streams) second
          (subst (λ files. AreStreamsByWords files w c.deref-2.result.now streams)
          (c.read_problem.ensures.same ∙ c.read_domain.ensures.same) c.in-Ok-read_streams.ensures.streams);
    } in
    IfOk-weaker c.boxed.result (λ b. b.value ≡ record { domain = domain; problem = problem; streams = streams })
    (λ b. IsPlainTaskOf told w b.value) (λ b is. subst (IsPlainTaskOf told w) (sym is) task) c.boxed.ensures.content

pub returns-in-Ok-read_streams-clause-fit : goal.returns-in-Ok-read_streams-clause-fit
returns-in-Ok-read_streams-clause-fit g c =
    let domain = c.into_inner-domain.result in
    let problem = c.into_inner-problem.result in
    let streams = c.in-Ok-read_streams.streams in
    let first = c.deref.ensures ∙ sym c.into_inner-domain.ensures in
    let second = c.deref-2.ensures ∙ sym c.into_inner-domain.ensures in
    let fit_problem = subst (λ (d : domains.Domain). IsFitOver d problem) first
    (subst (IsFitOver c.deref.result.now) (sym c.into_inner-problem.ensures) c.in-Ok-read_problem.ensures.fit) in
    let fit_streams = subst (λ (d : domains.Domain). AreFitOver d streams) second c.in-Ok-read_streams.ensures.fit in
    let fit : IsFit (record { domain = domain; problem = problem; streams = streams }) = record {
      domain = subst IsFitDomain (sym c.into_inner-domain.ensures) c.in-Ok.ensures.fit;
      problem = fit_problem streams;
      streams = fit_streams problem;
    } in
    IfOk-weaker c.boxed.result (λ b. b.value ≡ record { domain = domain; problem = problem; streams = streams })
    (λ b. IsFit b.value) (λ b is. subst IsFit (sym is) fit) c.boxed.ensures.content

pub returns-in-Ok-read_streams-clause-stop : goal.returns-in-Ok-read_streams-clause-stop
returns-in-Ok-read_streams-clause-stop g c = memory_stops _ _ c.boxed.result c.boxed.ensures.stop
