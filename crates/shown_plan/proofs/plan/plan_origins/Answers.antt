use Rattle.std.proofs.Common.{List, ℕ, Bor, map}
use Rattle.shown_plan.proofs.SourcesYieldLemmas.{are_origins, even_entries, given_names, each_used}
use Rattle.shown_plan.proofs.plan.plan_origins.Goals as goal

pub origins_of-requires-clause-even : goal.origins_of-requires-clause-even
origins_of-requires-clause-even c =
    even_entries c.args.version c.requires.task c.args.entries.now c.requires.legal

pub origins_of-requires-clause-given : goal.origins_of-requires-clause-given
origins_of-requires-clause-given c =
    given_names c.requires.task c.requires.fit c.args.entries.now c.requires.steps c.args.calls.now
    (map (λ (n : Bor (List ℕ)). n.now) c.in_ok-names.names.keys) c.requires.named c.requires.shown c.in_ok-names.ensures

pub returns : goal.returns
returns c =
    let names = map (λ (n : Bor (List ℕ)). n.now) c.in_ok-names.names.keys in
    are_origins c.args.version c.args.entries.now c.args.calls.now names c.origins_of.result
    (each_used c.args.calls.now names c.in_ok-names.ensures) c.origins_of.ensures.objects c.origins_of.ensures.ascend
    c.origins_of.ensures.origins
