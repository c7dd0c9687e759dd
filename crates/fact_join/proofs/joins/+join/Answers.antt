use Rattle.std.proofs.Common.{rules, None, ◌≡◌, ◌∷◌, [], length, ap, sym, subst, ◌∙◌, arith, Some, slice_get, slice_index}
use Rattle.std.proofs.lemmas.Option.{slice_get-get_or}
use Rattle.std.proofs.lemmas.Result.{err_from_is_err_and, on_ok_weaker, IfErr-weaker}
use Rattle.task_model.specs.Known.{atom_fact, objects_of, matches_of, is_match}
use Rattle.std.specs.List.{list_all}
use Rattle.task_model.specs.Truth.{slots_of}
use Rattle.fact_join.proofs.AddingLemmas.{Among, adds_start, adds_next, adds_whole, adds_same, adds_none, comes_same, comes_next}
use Rattle.fact_join.proofs.AnswerLemmas.{IsAnswerAt, at_object, by_objects, at_fact, by_facts, facts_apart, atom_terms, readable_terms}
use Rattle.fact_join.proofs.FactLemmas.{objects_distinct, distinct_filter}
use Rattle.fact_join.proofs.FrontLemmas.{answer_settled, answer_left, left_shorter, left_fits, slot_left}
use Rattle.fact_join.specs.Adding.{Adds, ComesOf}
use Rattle.fact_join.specs.Answers.{IsAnswer, IsAnswerBy, is_atom_over}
use Rattle.fact_join.specs.Fronts.{IsFront}
use Rattle.fact_join.proofs.joins.+join.Goals as goal

pub branch-loop-place-init : goal.branch-loop-place-init
branch-loop-place-init g t c =
    let known = g.L.Look.known c.args.query.now.look.now in
    let sorts = c.args.query.now.sorts.now in
    let at = IsAnswerAt known sorts (g.W.Wanted.wants c.args.query.now.wanted.now) c.args.partial.now c.args.atoms.now c.args.slot in
    (adds_start at (objects_of known.facts (slice_index sorts c.args.slot)) c.args.rows.now.items, c.requires.few)

pub branch-returns-in_err-join-clause-fault : goal.branch-returns-in_err-join-clause-fault
branch-returns-in_err-join-clause-fault g t c =
    let known = g.L.Look.known c.args.query.now.look.now in
    let sorts = c.args.query.now.sorts.now in
    let wants = g.W.Wanted.wants c.args.query.now.wanted.now in
    let partial = c.args.partial.now in
    let atoms = c.args.atoms.now in
    let slot = c.args.slot in
    let sort = slice_index sorts slot in
    let at = IsAnswerAt known sorts wants partial atoms slot in
    let objects = objects_of known.facts sort in
    let object = c.object-object.result in
    let rows = c.loop-place.rows.items in
    let most = c.args.query.now.most in
    let fault = c.in_err-join.field-0.0 in
    let here = comes_same most (IsAnswer known sorts wants c.with.result atoms) (at object) rows fault
    (λ x. (at_object known sorts wants partial c.with.result atoms slot object c.with.ensures.agrees x).0)
    c.in_err-join.ensures.fault in
    let among = comes_next at objects (λ y z x m n (e, p) (f, q). sym e ∙ f)
    (objects_distinct known.facts sort (g.met.L.Look.coherent c.args.query.now.look.now).facts) c.loop-place.place object
    c.object-object.ensures most c.args.rows.now.items rows fault c.loop-place.invariant.0 here in
    let p = err_from_is_err_and c.from_residual.result c.from_residual.ensures.1 in
    rw (p.1, p.2)
    (comes_same most (Among at objects) (IsAnswer known sorts wants partial atoms) c.args.rows.now.items fault
    (λ x. (by_objects known sorts wants partial atoms slot sort (slice_get-get_or sorts slot 0 c.requires.width) x).1) among)

pub branch-loop-place-preserved : goal.branch-loop-place-preserved
branch-loop-place-preserved g t c =
    let known = g.L.Look.known c.args.query.now.look.now in
    let sorts = c.args.query.now.sorts.now in
    let wants = g.W.Wanted.wants c.args.query.now.wanted.now in
    let partial = c.args.partial.now in
    let atoms = c.args.atoms.now in
    let slot = c.args.slot in
    let sort = slice_index sorts slot in
    let at = IsAnswerAt known sorts wants partial atoms slot in
    let object = c.object-object.result in
    let rows = c.loop-place.rows.items in
    let new = c.join.new.rows.items in
    let here = adds_same (IsAnswer known sorts wants c.with.result atoms) (at object) rows new
    (at_object known sorts wants partial c.with.result atoms slot object c.with.ensures.agrees) c.in_ok-join.ensures.found in (
      adds_next at (objects_of known.facts sort) (λ y z x m n (e, p) (f, q). sym e ∙ f)
          (objects_distinct known.facts sort (g.met.L.Look.coherent c.args.query.now.look.now).facts) c.loop-place.place object
          c.object-object.ensures c.args.rows.now.items rows new c.loop-place.invariant.0 here,
      c.in_ok-join.ensures.few,
    )

pub branch-returns-clause-found : goal.branch-returns-clause-found
branch-returns-clause-found g t c =
    let known = g.L.Look.known c.args.query.now.look.now in
    let sorts = c.args.query.now.sorts.now in
    let wants = g.W.Wanted.wants c.args.query.now.wanted.now in
    let partial = c.args.partial.now in
    let atoms = c.args.atoms.now in
    let slot = c.args.slot in
    let sort = slice_index sorts slot in
    adds_whole (IsAnswer known sorts wants partial atoms) (IsAnswerAt known sorts wants partial atoms slot) (objects_of known.facts sort)
    c.loop-place.place c.args.rows.now.items c.loop-place.rows.items (omega (arith, c.count-count.ensures, c.loop-place-test.false))
    (by_objects known sorts wants partial atoms slot sort (slice_get-get_or sorts slot 0 c.requires.width)) c.loop-place.invariant.0

pub follow-loop-number-init : goal.follow-loop-number-init
follow-loop-number-init g t c =
    let known = g.L.Look.known c.args.query.now.look.now in
    let atom = c.args.atom.now in
    let lead = c.args.lead.now in
    let at = IsAnswerBy known c.args.query.now.sorts.now (g.W.Wanted.wants c.args.query.now.wanted.now) c.args.partial.now atom.terms.now
    c.args.rest.now in
    (adds_start at (matches_of known.facts atom.pred lead.place lead.object) c.args.rows.now.items, c.requires.few)

pub follow-returns-in_err-join_fact-clause-fault :
    goal.follow-returns-in_err-join_fact-clause-fault
follow-returns-in_err-join_fact-clause-fault g t c =
    let known = g.L.Look.known c.args.query.now.look.now in
    let sorts = c.args.query.now.sorts.now in
    let wants = g.W.Wanted.wants c.args.query.now.wanted.now in
    let partial = c.args.partial.now in
    let atom = c.args.atom.now in
    let atoms = c.args.rest.now in
    let lead = c.args.lead.now in
    let at = IsAnswerBy known sorts wants partial atom.terms.now atoms in
    let facts = matches_of known.facts atom.pred lead.place lead.object in
    let most = c.args.query.now.most in
    let fault = c.in_err-join_fact.field-0.0 in
    let among = comes_next at facts (facts_apart known sorts wants partial atom atoms lead.place lead.object)
    (distinct_filter (is_match atom.pred lead.place lead.object) known.facts (g.met.L.Look.coherent c.args.query.now.look.now).facts)
    c.loop-number.number (atom_fact atom.pred c.matched-args.result.now) c.matched-args.ensures most c.args.rows.now.items c.loop-number.rows.items fault
    c.loop-number.invariant.0 c.in_err-join_fact.ensures.fault in
    let p = err_from_is_err_and c.from_residual.result c.from_residual.ensures.1 in
    rw (p.1, p.2)
    (comes_same most (Among at facts) (IsAnswer known sorts wants partial (atom ∷ atoms)) c.args.rows.now.items fault
    (λ x. (by_facts known sorts wants partial atom atoms lead c.requires.lead x).1) among)

pub follow-loop-number-preserved : goal.follow-loop-number-preserved
follow-loop-number-preserved g t c =
    let known = g.L.Look.known c.args.query.now.look.now in
    let sorts = c.args.query.now.sorts.now in
    let wants = g.W.Wanted.wants c.args.query.now.wanted.now in
    let partial = c.args.partial.now in
    let atom = c.args.atom.now in
    let atoms = c.args.rest.now in
    let lead = c.args.lead.now in
    let at = IsAnswerBy known sorts wants partial atom.terms.now atoms in
    let facts = matches_of known.facts atom.pred lead.place lead.object in (
      adds_next at facts (facts_apart known sorts wants partial atom atoms lead.place lead.object)
          (distinct_filter (is_match atom.pred lead.place lead.object) known.facts (g.met.L.Look.coherent c.args.query.now.look.now).facts)
          c.loop-number.number (atom_fact atom.pred c.matched-args.result.now) c.matched-args.ensures c.args.rows.now.items c.loop-number.rows.items
          c.join_fact.new.rows.items c.loop-number.invariant.0 c.in_ok-join_fact.ensures.found,
      c.in_ok-join_fact.ensures.few,
    )

pub follow-returns-clause-found : goal.follow-returns-clause-found
follow-returns-clause-found g t c =
    let known = g.L.Look.known c.args.query.now.look.now in
    let sorts = c.args.query.now.sorts.now in
    let wants = g.W.Wanted.wants c.args.query.now.wanted.now in
    let partial = c.args.partial.now in
    let atom = c.args.atom.now in
    let atoms = c.args.rest.now in
    let lead = c.args.lead.now in
    adds_whole (IsAnswer known sorts wants partial (atom ∷ atoms)) (IsAnswerBy known sorts wants partial atom.terms.now atoms)
    (matches_of known.facts atom.pred lead.place lead.object) c.loop-number.number c.args.rows.now.items c.loop-number.rows.items
    (omega (arith, c.requires.lead.count, c.loop-number-test.false))
    (by_facts known sorts wants partial atom atoms lead c.requires.lead) c.loop-number.invariant.0

pub join-join_left-requires : goal.join-join_left-requires
join-join_left-requires g t c κs within =
    let known = g.L.Look.known c.args.query.now.look.now in
    let width = length c.args.query.now.sorts.now in
    let partial = c.args.partial.now in
    let atoms = c.args.atoms.now in
    let slot = c.in-Free.slot in
    let left = c.in-Free.left.now in
    let are = subst (IsFront known partial atoms) c.in-Free.is c.in_ok-front_of.ensures in
    let shorter = left_shorter known partial atoms slot left are in
    let fits = left_fits known partial width atoms slot left are c.requires.query.slots in
    let below = slot_left known partial width atoms slot left are c.requires.query.slots in
    let free : slice_get partial.slots slot ≡ Some None = are.free in
    search rules

pub join-returns-in-Unknown-clause-found : goal.join-returns-in-Unknown-clause-found
join-returns-in-Unknown-clause-found g t c =
    let known = g.L.Look.known c.args.query.now.look.now in
    let sorts = c.args.query.now.sorts.now in
    let wants = g.W.Wanted.wants c.args.query.now.wanted.now in
    let partial = c.args.partial.now in
    let atoms = c.args.atoms.now in
    let unknown = subst (IsFront known partial atoms) c.in-Unknown.is c.in_ok-front_of.ensures in
    adds_none (IsAnswer known sorts wants partial atoms) c.args.rows.now.items (λ tuple a. unknown (slots_of tuple) a.agrees a.known_atoms)

pub join-returns-in-Some-clause-found : goal.join-returns-in-Some-clause-found
join-returns-in-Some-clause-found g t c =
    let known = g.L.Look.known c.args.query.now.look.now in
    let sorts = c.args.query.now.sorts.now in
    let wants = g.W.Wanted.wants c.args.query.now.wanted.now in
    let partial = c.args.partial.now in
    let atoms = c.args.atoms.now in
    let are = subst (IsFront known partial atoms) c.in-Known.is c.in_ok-front_of.ensures in
    let old = c.args.rows.now.items in
    let new = c.branch-query.new.rows.items in
    let P = IsAnswer known sorts wants partial [] in
    let R = IsAnswer known sorts wants partial atoms in
    let Found : Type 0 = Adds R old new in
    on_ok_weaker {Q = Found} c.branch-query.result (adds_same P R old new (answer_settled known sorts wants partial atoms are))
    c.branch-query.ensures.found

pub join-returns-in-Some-clause-fault : goal.join-returns-in-Some-clause-fault
join-returns-in-Some-clause-fault g t c =
    let known = g.L.Look.known c.args.query.now.look.now in
    let sorts = c.args.query.now.sorts.now in
    let wants = g.W.Wanted.wants c.args.query.now.wanted.now in
    let partial = c.args.partial.now in
    let atoms = c.args.atoms.now in
    let are = subst (IsFront known partial atoms) c.in-Known.is c.in_ok-front_of.ensures in
    let most = c.args.query.now.most in
    let old = c.args.rows.now.items in
    let P = IsAnswer known sorts wants partial [] in
    let R = IsAnswer known sorts wants partial atoms in
    IfErr-weaker c.branch-query.result (ComesOf most P old) (ComesOf most R old)
    (λ f. comes_same most P R old f (λ x. (answer_settled known sorts wants partial atoms are x).0)) c.branch-query.ensures.fault

pub join-returns-in-None-clause-found : goal.join-returns-in-None-clause-found
join-returns-in-None-clause-found g t c =
    let known = g.L.Look.known c.args.query.now.look.now in
    let sorts = c.args.query.now.sorts.now in
    let wants = g.W.Wanted.wants c.args.query.now.wanted.now in
    let partial = c.args.partial.now in
    let atoms = c.args.atoms.now in
    let are = subst (IsFront known partial atoms) c.in-Known.is c.in_ok-front_of.ensures in
    let old = c.args.rows.now.items in
    let new = c.add_answer.new.rows.items in
    let P = IsAnswer known sorts wants partial [] in
    let R = IsAnswer known sorts wants partial atoms in
    let Found : Type 0 = Adds R old new in
    on_ok_weaker {Q = Found} c.add_answer.result (adds_same P R old new (answer_settled known sorts wants partial atoms are))
    c.add_answer.ensures.found

pub join-returns-in-None-clause-fault : goal.join-returns-in-None-clause-fault
join-returns-in-None-clause-fault g t c =
    let known = g.L.Look.known c.args.query.now.look.now in
    let sorts = c.args.query.now.sorts.now in
    let wants = g.W.Wanted.wants c.args.query.now.wanted.now in
    let partial = c.args.partial.now in
    let atoms = c.args.atoms.now in
    let are = subst (IsFront known partial atoms) c.in-Known.is c.in_ok-front_of.ensures in
    let most = c.args.query.now.most in
    let old = c.args.rows.now.items in
    let P = IsAnswer known sorts wants partial [] in
    let R = IsAnswer known sorts wants partial atoms in
    IfErr-weaker c.add_answer.result (ComesOf most P old) (ComesOf most R old)
    (λ f. comes_same most P R old f (λ x. (answer_settled known sorts wants partial atoms are x).0)) c.add_answer.ensures.fault

pub join-returns-in-Free-clause-found : goal.join-returns-in-Free-clause-found
join-returns-in-Free-clause-found g t c =
    let known = g.L.Look.known c.args.query.now.look.now in
    let sorts = c.args.query.now.sorts.now in
    let wants = g.W.Wanted.wants c.args.query.now.wanted.now in
    let partial = c.args.partial.now in
    let atoms = c.args.atoms.now in
    let are = subst (IsFront known partial atoms) c.in-Free.is c.in_ok-front_of.ensures in
    let old = c.args.rows.now.items in
    let new = c.join_left.new.rows.items in
    let P = IsAnswer known sorts wants partial c.in-Free.left.now in
    let R = IsAnswer known sorts wants partial atoms in
    let Found : Type 0 = Adds R old new in
    on_ok_weaker {Q = Found} c.join_left.result (adds_same P R old new
    (answer_left known sorts wants partial atoms c.in-Free.slot c.in-Free.left.now are)) c.join_left.ensures.found

pub join-returns-in-Free-clause-fault : goal.join-returns-in-Free-clause-fault
join-returns-in-Free-clause-fault g t c =
    let known = g.L.Look.known c.args.query.now.look.now in
    let sorts = c.args.query.now.sorts.now in
    let wants = g.W.Wanted.wants c.args.query.now.wanted.now in
    let partial = c.args.partial.now in
    let atoms = c.args.atoms.now in
    let are = subst (IsFront known partial atoms) c.in-Free.is c.in_ok-front_of.ensures in
    let most = c.args.query.now.most in
    let old = c.args.rows.now.items in
    let P = IsAnswer known sorts wants partial c.in-Free.left.now in
    let R = IsAnswer known sorts wants partial atoms in
    IfErr-weaker c.join_left.result (ComesOf most P old) (ComesOf most R old)
    (λ f. comes_same most P R old f (λ x. (answer_left known sorts wants partial atoms c.in-Free.slot c.in-Free.left.now are x).0))
    c.join_left.ensures.fault

pub join_left-lead_of-requires : goal.join_left-lead_of-requires
join_left-lead_of-requires g t c =
    let width = length c.args.query.now.sorts.now in
    let slots = ap (list_all (is_atom_over width)) (sym c.in-Some.ensures.cases.0) ∙ c.requires.query.slots in
    readable_terms width c.in-Some.atom.now.terms.now c.requires.query.narrow (atom_terms width c.in-Some.atom.now c.in-Some.rest.now slots)

pub join_fact-fit-requires : goal.join_fact-fit-requires
join_fact-fit-requires g t c =
    let width = length c.args.query.now.sorts.now in
    readable_terms width c.args.atom.now.terms.now c.requires.query.narrow
    (atom_terms width c.args.atom.now c.args.rest.now c.requires.query.slots)

pub join_fact-returns-in-Some-clause-found : goal.join_fact-returns-in-Some-clause-found
join_fact-returns-in-Some-clause-found g t c =
    let known = g.L.Look.known c.args.query.now.look.now in
    let sorts = c.args.query.now.sorts.now in
    let wants = g.W.Wanted.wants c.args.query.now.wanted.now in
    let partial = c.args.partial.now in
    let left = c.in-Some.left in
    let terms = c.args.atom.now.terms.now in
    let atoms = c.args.rest.now in
    let fact = atom_fact c.args.atom.now.pred c.args.args.now in
    let narrows = c.in-Some.ensures.0 in
    let old = c.args.rows.now.items in
    let new = c.join.new.rows.items in
    let Found : Type 0 = Adds (IsAnswerBy known sorts wants partial terms atoms fact) old new in
    on_ok_weaker {Q = Found} c.join.result (adds_same (IsAnswer known sorts wants left atoms)
    (IsAnswerBy known sorts wants partial terms atoms fact) old new (at_fact known sorts wants partial left terms atoms fact narrows))
    c.join.ensures.found

pub join_fact-returns-in-Some-clause-fault : goal.join_fact-returns-in-Some-clause-fault
join_fact-returns-in-Some-clause-fault g t c =
    let known = g.L.Look.known c.args.query.now.look.now in
    let sorts = c.args.query.now.sorts.now in
    let wants = g.W.Wanted.wants c.args.query.now.wanted.now in
    let partial = c.args.partial.now in
    let left = c.in-Some.left in
    let terms = c.args.atom.now.terms.now in
    let atoms = c.args.rest.now in
    let fact = atom_fact c.args.atom.now.pred c.args.args.now in
    let narrows = c.in-Some.ensures.0 in
    let most = c.args.query.now.most in
    let old = c.args.rows.now.items in
    let P = IsAnswer known sorts wants left atoms in
    let R = IsAnswerBy known sorts wants partial terms atoms fact in
    IfErr-weaker c.join.result (ComesOf most P old) (ComesOf most R old)
    (λ f. comes_same most P R old f (λ x. (at_fact known sorts wants partial left terms atoms fact narrows x).0)) c.join.ensures.fault

pub join_fact-returns-in-None-clause-found : goal.join_fact-returns-in-None-clause-found
join_fact-returns-in-None-clause-found g t c =
    let known = g.L.Look.known c.args.query.now.look.now in
    let sorts = c.args.query.now.sorts.now in
    let wants = g.W.Wanted.wants c.args.query.now.wanted.now in
    let partial = c.args.partial.now in
    let terms = c.args.atom.now.terms.now in
    let fact = atom_fact c.args.atom.now.pred c.args.args.now in
    adds_none (IsAnswerBy known sorts wants partial terms c.args.rest.now fact) c.args.rows.now.items
    (λ tuple (is, a). c.in-None.ensures (slots_of tuple) a.agrees is)
