use Rattle.std.proofs.Common.{sym, ap, subst, ◌∙◌}
use Rattle.lemmas.specs.Lists.{AreDistinct}
use Rattle.shown_steps.proofs.RunsLemmas.{no_step, step_more, step_stuck}
use Rattle.shown_steps.specs.Steps.{step_named}
use Rattle.shown_steps.proofs.steps.Run.take.Goals as goal

pub step_of-requires-clause-distinct : goal.step_of-requires-clause-distinct
step_of-requires-clause-distinct g c = subst AreDistinct (sym c.requires.names) (g.met.L.Look.coherent c.args.look.now).names

pub returns-in_default : goal.returns-in_default
returns-in_default g c = λ calls run.
    let task = c.args.task.now in
    no_step task c.requires.fit (g.L.Look.known c.args.look.now) (g.met.L.Look.coherent c.args.look.now) calls c.args.call.now
    (sym (ap (λ names. step_named task names c.args.call.now) c.requires.names) ∙ sym c.in_ok-step.ensures ∙ c.in_default.is)

pub returns-in-Ok : goal.returns-in-Ok
returns-in-Ok g c = λ calls run.
    let task = c.args.task.now in
    step_more task c.requires.fit (g.L.Look.known c.args.look.now) (g.met.L.Look.coherent c.args.look.now) calls c.args.call.now
    c.args.self.now _ c.in-Some.step c.in-Ok.cost run
    (sym (ap (λ names. step_named task names c.args.call.now) c.requires.names) ∙ sym c.in_ok-step.ensures ∙ c.in-Some.is)
    c.in-Ok.ensures.ok c.plus-self.ensures

pub returns : goal.returns
returns g c = λ calls run.
    let task = c.args.task.now in
    step_stuck task c.requires.fit (g.L.Look.known c.args.look.now) (g.met.L.Look.coherent c.args.look.now) calls c.args.call.now
    c.args.self.now c.in-Some.step c.in-Err.fault c.in_ok-unless_memory-in-Err.ensures run
    (sym (ap (λ names. step_named task names c.args.call.now) c.requires.names) ∙ sym c.in_ok-step.ensures ∙ c.in-Some.is)
    c.in-Err.ensures.err
