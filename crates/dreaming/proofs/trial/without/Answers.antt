use Rattle.std.proofs.Common.{◌≡◌, ℕ, ◌-◌, ◌<◌, ◌∙◌, List, length, take, drop, sym, ap, subst, Contains}
use Rattle.std.proofs.lemmas.List.{take_rest}
use Rattle.std.proofs.lemmas.Result.{IfOk-weaker}
use Rattle.std.specs.Prelude.{IfSome, IfNone}
use Rattle.dreaming.proofs.KeptLemmas.{essential_needed}
use Rattle.dreaming.proofs.PlacesLemmas.{AreBelow, below_rest}
use Rattle.dreaming.proofs.TriedLemmas.{tried_kept, tried_fewer, tried_needed}
use Rattle.dreaming.specs.Thinning.{TrialNeeds, TrialKeeps, IsTried, places_without, supported_places}
use Rattle.dreaming.proofs.trial.without.Goals as goal

pub returns-then-wants_some-clause-needed : goal.returns-then-wants_some-clause-needed
returns-then-wants_some-clause-needed c =
    let t = c.args.trial.now in
    let some = c.wants_some.ensures c.if-wants_some.true in
    essential_needed t.listing.task.now t.listing.supposed.now t.plan.now.steps c.args.kept.now c.args.from c.args.to some.0 c.requires.kept
    (subst (λ (ps : List ℕ). Contains (take (c.args.to - c.args.from) (drop c.args.from ps)) some.0) c.as_slice-places.ensures.value some.1)
    (c.requires.trial.essential some.2.2 some.2.4 some.0 some.2.0 some.2.1 some.2.3)

pub kept_with-requires-clause-others : goal.kept_with-requires-clause-others
kept_with-requires-clause-others c =
    let list = c.args.trial.now.listing.supposed.now.list in
    subst (AreBelow list) (sym (take_rest c.as_slice-places.result.now c.args.to))
    (below_rest list c.as_slice-places.result.now c.args.to
    (subst (AreBelow list) (sym c.as_slice-places.ensures.value) c.requires.kept.below))

pub returns-clause-kept : goal.returns-clause-kept
returns-clause-kept c =
    let t = c.args.trial.now in
    let task = t.listing.task.now in
    let d = t.listing.supposed.now in
    let kept = c.args.kept.now in
    let all = c.as_slice-places.result.now in
    let first = take c.args.from all in
    let others = take (length all - c.args.to) (drop c.args.to all) in
    let are : supported_places task d.base d.list first others
    ≡ places_without task d.base d.list kept.places.items c.args.from c.args.to =
    ap (supported_places task d.base d.list first) (take_rest all c.args.to)
    ∙ ap (λ (ps : List ℕ). places_without task d.base d.list ps c.args.from c.args.to) c.as_slice-places.ensures.value in
    IfOk-weaker c.kept_with.result (IsTried t first others) (λ found. IfSome found (TrialKeeps t))
    (tried_kept task d t.plan.now.steps first others kept c.args.from c.args.to c.requires.kept c.requires.from c.requires.to are)
    c.kept_with.ensures

pub returns-clause-fewer : goal.returns-clause-fewer
returns-clause-fewer c =
    let t = c.args.trial.now in
    let task = t.listing.task.now in
    let d = t.listing.supposed.now in
    let kept = c.args.kept.now in
    let all = c.as_slice-places.result.now in
    let first = take c.args.from all in
    let others = take (length all - c.args.to) (drop c.args.to all) in
    let are : supported_places task d.base d.list first others
    ≡ places_without task d.base d.list kept.places.items c.args.from c.args.to =
    ap (supported_places task d.base d.list first) (take_rest all c.args.to)
    ∙ ap (λ (ps : List ℕ). places_without task d.base d.list ps c.args.from c.args.to) c.as_slice-places.ensures.value in
    IfOk-weaker c.kept_with.result (IsTried t first others) (λ found. IfSome found (λ k. length k.places.items < length kept.places.items))
    (tried_fewer task d t.plan.now.steps first others kept c.args.from c.args.to c.requires.kept c.requires.from c.requires.to are)
    c.kept_with.ensures

pub returns-clause-needed : goal.returns-clause-needed
returns-clause-needed c =
    let t = c.args.trial.now in
    let task = t.listing.task.now in
    let d = t.listing.supposed.now in
    let kept = c.args.kept.now in
    let all = c.as_slice-places.result.now in
    let first = take c.args.from all in
    let others = take (length all - c.args.to) (drop c.args.to all) in
    let are : supported_places task d.base d.list first others
    ≡ places_without task d.base d.list kept.places.items c.args.from c.args.to =
    ap (supported_places task d.base d.list first) (take_rest all c.args.to)
    ∙ ap (λ (ps : List ℕ). places_without task d.base d.list ps c.args.from c.args.to) c.as_slice-places.ensures.value in
    IfOk-weaker c.kept_with.result (IsTried t first others) (λ found. IfNone found (TrialNeeds t kept.places.items c.args.from c.args.to))
    (tried_needed task d t.plan.now.steps first others kept c.args.from c.args.to c.requires.kept c.requires.from c.requires.to are)
    c.kept_with.ensures
