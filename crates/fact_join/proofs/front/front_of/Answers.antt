use Rattle.std.proofs.Common.{length, drop, sym, ap, ◌∙◌, subst, arith, Some}
use Rattle.std.proofs.lemmas.Option.{slice_get-get_or}
use Rattle.std.proofs.lemmas.List.{take_all, length-drop}
use Rattle.lemmas.proofs.Members.{member_at}
use Rattle.fact_join.proofs.AnswerLemmas.{terms_at, readable_terms}
use Rattle.fact_join.proofs.FrontLemmas.{known_next, unknown_at}
use Rattle.fact_join.specs.Fronts.{AreKnown}
use Rattle.fact_join.specs.Partials.{IsGrounding}
use Rattle.fact_join.proofs.front.front_of.Goals as goal

pub ground-requires : goal.ground-requires
ground-requires g c =
    let width = length c.args.query.now.sorts.now in
    let atoms = c.args.atoms.now in
    let atom = c.index-atoms-place.result in
    let at = slice_get-get_or atoms c.loop-place.place atom c.loop-place-test.true ∙ ap Some (sym c.index-atoms-place.is) in
    readable_terms width atom.terms.now c.requires.narrow (terms_at width atoms c.loop-place.place atom c.requires.slots at)

pub returns-in-Free : goal.returns-in-Free
returns-in-Free g c =
    let atoms = c.args.atoms.now in
    let atom = c.index-atoms-place.result in
    let at = slice_get-get_or atoms c.loop-place.place atom c.loop-place-test.true ∙ ap Some (sym c.index-atoms-place.is) in
    let ground = subst (IsGrounding c.args.partial.now atom.terms.now) c.in-Free.is c.in_ok-slot.ensures in
    record {
      before = c.loop-place.place;
      rest = take_all _ (drop c.loop-place.place atoms) (omega (arith, length-drop c.loop-place.place atoms));
      settled = c.loop-place.invariant;
      atom = atom;
      there = member_at atoms c.loop-place.place atom at;
      term = ground.0;
      free = ground.1;
    }

pub returns-then-not-has_atom : goal.returns-then-not-has_atom
returns-then-not-has_atom g c =
    let known = g.L.Look.known c.args.query.now.look.now in
    let atoms = c.args.atoms.now in
    let atom = c.index-atoms-place.result in
    let at = slice_get-get_or atoms c.loop-place.place atom c.loop-place-test.true ∙ ap Some (sym c.index-atoms-place.is) in
    let ground = subst (IsGrounding c.args.partial.now atom.terms.now) c.in-Row.is c.in_ok-slot.ensures in
    unknown_at known c.args.partial.now atoms c.loop-place.place atom at c.in-Row.args ground (sym c.if-not-has_atom.ensures)

pub loop-place-preserved : goal.loop-place-preserved
loop-place-preserved g c =
    let known = g.L.Look.known c.args.query.now.look.now in
    let atoms = c.args.atoms.now in
    let atom = c.index-atoms-place.result in
    let at = slice_get-get_or atoms c.loop-place.place atom c.loop-place-test.true ∙ ap Some (sym c.index-atoms-place.is) in
    let ground = subst (IsGrounding c.args.partial.now atom.terms.now) c.in-Row.is c.in_ok-slot.ensures in
    known_next known c.args.partial.now atoms c.loop-place.place atom at c.in-Row.args ground (sym c.if-not-has_atom.ensures)
    c.loop-place.invariant

pub returns : goal.returns
returns g c =
    subst (AreKnown (g.L.Look.known c.args.query.now.look.now) c.args.partial.now)
    (take_all c.loop-place.place c.args.atoms.now (omega (arith, c.loop-place-test.false))) c.loop-place.invariant
