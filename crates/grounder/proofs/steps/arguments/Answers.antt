use Rattle.std.proofs.Common.{[], length, ap, ◌∙◌, arith, subst}
use Rattle.std.specs.List.{list_all}
use Rattle.plan_check.proofs.ReadableLemmas.{readable_action}
use Rattle.fact_join.specs.Adding.{Adds}
use Rattle.fact_join.specs.Answers.{IsAnswer, is_atom_over}
use Rattle.grounder.proofs.ListingLemmas.{sorted_arguments, on_ok_then}
use Rattle.grounder.proofs.PartsLemmas.{sound_action}
use Rattle.grounder.specs.Listing.{can_take}
use Rattle.grounder.proofs.steps.arguments.Goals as goal

pub static_atoms-requires-clause-readable : goal.static_atoms-requires-clause-readable
static_atoms-requires-clause-readable g c =
    (readable_action c.args.scene.now.task.now.domain c.requires.fit.domain c.args.scene.now.action.now c.requires.action).condition

pub returns : goal.returns
returns g c =
    let scene = c.args.scene.now in
    let known = g.L.Look.known scene.look.now in
    let action = scene.action.now in
    let takes = can_take scene.task.now known scene.state.now action in
    let partial = c.new.result in
    let atoms = c.in_ok-atoms.atoms.items in
    let found = c.join.new.rows.items in
    let answers = on_ok_then c.join.result c.if-is_err.ensures.negation c.join.ensures.found in
    let empty = subst (λ old. Adds (IsAnswer known c.as_slice.result.now takes partial c.as_slice-2.result.now) old found)
    c.new-rows.ensures.items answers in
    let these = subst (λ xs. Adds (IsAnswer known c.as_slice.result.now takes partial xs) [] found) c.as_slice-2.ensures.value empty in
    let all = subst (λ sorts. Adds (IsAnswer known sorts takes partial atoms) [] found) c.as_slice.ensures these in
    sorted_arguments scene.task.now known scene.state.now action partial atoms found c.sort_unstable.new.self.items c.new.ensures
    c.in_ok-atoms.ensures all c.sort_unstable.ensures.permutation c.sort_unstable.ensures.sorted

pub join-requires : goal.join-requires
join-requires g c =
    let scene = c.args.scene.now in
    let domain = scene.task.now.domain in
    let action = scene.action.now in
    let params = (readable_action domain c.requires.fit.domain action c.requires.action).params in
    let slots = c.in_ok-atoms.ensures.slots (length action.params) (sound_action domain action c.requires.action) in (
      omega arith,
      (
        record {
          narrow = omega (arith, params, ap length c.as_slice.ensures);
          slots = ap (λ n. list_all (is_atom_over n) c.as_slice-2.result.now) (ap length c.as_slice.ensures)
              ∙ ap (list_all (is_atom_over (length action.params))) c.as_slice-2.ensures.value ∙ slots;
          judged = λ tuple long. (c.requires.fit, c.requires.action, omega (arith, long, params, ap length c.as_slice.ensures));
        },
        omega (arith, ap length c.new-rows.ensures.items),
      ),
    )
