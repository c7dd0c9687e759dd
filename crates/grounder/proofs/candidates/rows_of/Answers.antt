use Rattle.std.proofs.Common.{[], true, List, ℕ, Bool, length, ap, sym, ◌∙◌, arith, subst}
use Rattle.std.specs.List.{list_all}
use Rattle.plan_check.proofs.ReadableLemmas.{readable_action}
use Rattle.fact_join.specs.Adding.{Adds}
use Rattle.fact_join.specs.Answers.{IsAnswer, is_atom_over}
use Rattle.grounder.proofs.CandidatesLemmas.{sorted_rows}
use Rattle.grounder.proofs.PartsLemmas.{sound_action}
use Rattle.grounder.specs.Candidates.{AreCandidateRows}
use Rattle.grounder.proofs.candidates.rows_of.Goals as goal

pub static_atoms-requires-clause-readable : goal.static_atoms-requires-clause-readable
static_atoms-requires-clause-readable g c =
    (readable_action c.args.task.now.domain c.requires.fit.domain c.args.action.now c.requires.action).condition

pub join-requires : goal.join-requires
join-requires g c =
    let domain = c.args.task.now.domain in
    let action = c.args.action.now in
    let params = (readable_action domain c.requires.fit.domain action c.requires.action).params in
    let slots = c.in_ok-atoms.ensures.slots (length action.params) (sound_action domain action c.requires.action) in (
      omega arith,
      (
        record {
          narrow = omega (arith, params, ap length c.as_slice.ensures);
          slots = ap (λ n. list_all (is_atom_over n) c.as_slice-2.result.now) (ap length c.as_slice.ensures)
              ∙ ap (list_all (is_atom_over (length action.params))) c.as_slice-2.ensures.value ∙ slots;
          judged = λ tuple long. tt;
        },
        omega (arith, ap length c.new-rows.ensures.items),
      ),
    )

pub returns-in-Ok : goal.returns-in-Ok
returns-in-Ok g c =
    let domain = c.args.task.now.domain in
    let known = g.L.Look.known c.args.look.now in
    let action = c.args.action.now in
    let partial = c.new.result in
    let atoms = c.in_ok-atoms.atoms.items in
    let found = c.join.new.rows.items in
    let rows = c.sort_unstable.new.self.items in
    let all : List ℕ → Bool = λ _. true in
    let empty =
    subst (λ old. Adds (IsAnswer known c.as_slice.result.now all partial c.as_slice-2.result.now) old found) c.new-rows.ensures.items
    c.in-Ok.ensures.found in
    let these = subst (λ xs. Adds (IsAnswer known c.as_slice.result.now all partial xs) [] found) c.as_slice-2.ensures.value empty in
    let answers = subst (λ sorts. Adds (IsAnswer known sorts all partial atoms) [] found) c.as_slice.ensures these in
    let candidates =
    sorted_rows domain known action partial atoms found rows c.new.ensures c.in_ok-atoms.ensures answers
    c.sort_unstable.ensures.permutation c.sort_unstable.ensures.sorted in
    subst (AreCandidateRows domain known action) (sym c.from_vec.ensures)
    (subst (AreCandidateRows domain known action) (sym c.shrink_to_fit.ensures.items) candidates)
