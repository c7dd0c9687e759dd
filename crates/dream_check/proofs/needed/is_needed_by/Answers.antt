use Rattle.std.proofs.Common.{◌+◌, ◌∙◌, take, sym, subst, ap}
use Rattle.std.proofs.lemmas.List.{take_rest}
use Rattle.dreaming.proofs.PartLemmas.{part_known}
use Rattle.dreaming.proofs.PlacesLemmas.{AreBelow, below_front, below_rest}
use Rattle.dreaming.specs.Thinning.{supported_places}
use Rattle.task_model.specs.Known.{Known}
use Rattle.dream_check.proofs.NeededLemmas.{known_of_rest, needed_where}
use Rattle.dream_check.proofs.needed.is_needed_by.Goals as goal

pub fill-requires-clause-first : goal.fill-requires-clause-first
fill-requires-clause-first c =
    below_front c.args.listing.now.supposed.now.list c.args.places.now c.args.place c.requires.below

pub fill-requires-clause-others : goal.fill-requires-clause-others
fill-requires-clause-others c =
    let list = c.args.listing.now.supposed.now.list in
    let places = c.args.places.now in
    subst (AreBelow list) (sym (take_rest places (c.args.place + 1))) (below_rest list places (c.args.place + 1) c.requires.below)

pub look-requires : goal.look-requires
look-requires c = (c.args.listing.now.task.now, c.in_ok-fill.ensures.part)

-- the part has the entries that are left
pub is_plan-requires-clause-names : goal.is_plan-requires-clause-names
is_plan-requires-clause-names c =
    let l = c.args.listing.now in
    let h = c.in_ok-fill.ensures in
    c.requires.names ∙ ap (λ (k : Known). k.names) c.requires.listing.known
    ∙ sym (ap (λ (k : Known). k.names) (c.look.ensures ∙ part_known l.task.now l.supposed.now _ c.fill.new.part h))

pub is_plan-requires-clause-fit : goal.is_plan-requires-clause-fit
is_plan-requires-clause-fit c = c.requires.listing.plain.base.fit

pub returns : goal.returns
returns c =
    let l = c.args.listing.now in
    let d = l.supposed.now in
    let places = c.args.places.now in
    let place = c.args.place in
    let rest = ap (supported_places l.task.now d.base d.list (take place places)) (take_rest places (place + 1)) in
    let known =
    c.look.ensures
    ∙ known_of_rest l.task.now d places c.args.steps.now place c.fill.new.part _ c.requires.below c.in_ok-fill.ensures
    rest in
    needed_where l.task.now d places c.args.steps.now place c.look.result.known c.in_ok-stays.stays known c.in_ok-stays.ensures
