use Rattle.std.proofs.Common.{◌≡◌, ◌∙◌, ◌+◌, Some, sym, ap}
use Rattle.std.proofs.lemmas.Bool.{false≢true}
use Rattle.transcript_model.specs.declared.entry.Entry.TheVariants as entry
use Rattle.replay_check.proofs.WalksPickLemmas.{no_pick, other_pick, pick_left, pick_taken, picked_few}
use Rattle.replay_check.proofs.standing.Standing.take_pick.Goals as goal

pub run_pick-requires-clause-place : goal.run_pick-requires-clause-place
run_pick-requires-clause-place c =
    let p = c.in-Some.ensures.some.1 in
    (p.0, p.1.there, picked_few c.args.bounds.now c.args.entries.now c.args.place c.args.self.now c.requires.can c.in-Some.skeleton p.0 p.1)

pub run_pick-requires-clause-left : goal.run_pick-requires-clause-left
run_pick-requires-clause-left c =
    pick_left c.args.bounds.now c.args.entries.now c.args.place c.args.self.now c.requires.can c.in-Some.ensures.some.0

pub returns-in_ok-run_pick-in-Some : goal.returns-in_ok-run_pick-in-Some
returns-in_ok-run_pick-in-Some c =
    let number : c.args.number ≡ c.in-Some.skeleton + 1 = c.is_number_of.ensures.0 c.if-is_number_of.true in
    let p = c.in-Some.ensures.some in
    pick_taken c.args.bounds.now c.args.entries.now c.args.place c.args.self.now c.requires.can c.in-Some.skeleton
    (c.requires.here ∙ ap (λ n. Some (entry.Pick n)) number) p.0 p.1.0 p.1.1 c.run_pick.new.self
    (c.in_ok-run_pick-in-Some.ensures p.1.0 p.1.1.there)

pub returns-in_default : goal.returns-in_default
returns-in_default c =
    let p = c.in-Some.ensures.some.1 in
    other_pick c.args.bounds.now c.args.entries.now c.args.place c.args.self.now c.requires.can c.args.number c.requires.here
    c.in-Some.skeleton p.0 p.1
    (λ same. false≢true (sym c.if-is_number_of.false ∙ c.is_number_of.ensures.1 (sym same)))

pub returns-in_default-2 : goal.returns-in_default-2
returns-in_default-2 c =
    no_pick c.args.bounds.now c.args.entries.now c.args.place c.args.self.now c.requires.can c.args.number c.requires.here
    c.in_default.ensures.none
