use Rattle.std.proofs.Common.{◌≡◌, ◌≤◌, List, ℕ, [], length, ap, subst, ◌∙◌, arith}
use Rattle.std.proofs.lemmas.Result.{err_from_is_err_and}
use Rattle.std.specs.List.{list_all}
use Rattle.fact_join.specs.Adding.{Adds, ComesOf}
use Rattle.fact_join.specs.Answers.{IsAnswer, IsAskable, is_atom_over}
use Rattle.instance_search.proofs.FoundLemmas.{atoms_fit, joined_rows, joined_fault}
use Rattle.instance_search.specs.Found.{instance_at}
use Rattle.instance_search.proofs.search.inputs_of.Goals as goal

pub join-requires : goal.join-requires
join-requires g c =
    let stream = c.args.search.now.stream.now in
    let fit = atoms_fit stream c.in_ok-atoms.atoms.items c.requires c.in_ok-atoms.ensures in
    let long : length c.as_slice.result.now ≡ length stream.inputs = ap length c.as_slice.ensures in
    let none : length c.new-rows.result.items ≡ 0 = ap length c.new-rows.ensures.items in
    let askable : IsAskable c.as_slice.result.now (λ (inputs : List ℕ). length inputs ≤ 8) c.as_slice-2.result.now = record {
      narrow = omega (arith, c.requires.narrow, long);
      slots = (λ i. list_all (is_atom_over (long i)) (c.as_slice-2.ensures.value i)) ∙ fit;
      judged = λ tuple same. omega (arith, same, long, c.requires.narrow);
    } in
    (omega arith, (askable, omega (arith, none)))

pub returns-clause-found : goal.returns-clause-found
returns-clause-found g c =
    let search = c.args.search.now in
    let known = g.L.Look.known search.look.now in
    let seeks = g.S.Sought.seeks search.sought.now in
    let stream = search.stream.now in
    let wants = λ (inputs : List ℕ). seeks stream (instance_at search.place inputs) in
    let partial = c.new.result in
    let atoms = c.in_ok-atoms.atoms.items in
    let rows = c.join.new.rows.items in
    let answers = IsAnswer known c.as_slice.result.now wants partial c.as_slice-2.result.now in
    let empty = subst (λ old. Adds answers old rows) c.new-rows.ensures.items c.in_ok-join.ensures.found in
    let these = subst (λ xs. Adds (IsAnswer known c.as_slice.result.now wants partial xs) [] rows) c.as_slice-2.ensures.value empty in
    let all = subst (λ sorts. Adds (IsAnswer known sorts wants partial atoms) [] rows) c.as_slice.ensures these in
    joined_rows known seeks stream search.place partial c.new.ensures atoms c.in_ok-atoms.ensures rows all

pub returns-in_err-join-clause-fault : goal.returns-in_err-join-clause-fault
returns-in_err-join-clause-fault g c =
    let search = c.args.search.now in
    let known = g.L.Look.known search.look.now in
    let seeks = g.S.Sought.seeks search.sought.now in
    let stream = search.stream.now in
    let wants = λ (inputs : List ℕ). seeks stream (instance_at search.place inputs) in
    let partial = c.new.result in
    let atoms = c.in_ok-atoms.atoms.items in
    let most = c.args.most in
    let f = c.in_err-join.field-0.0 in
    let answers = IsAnswer known c.as_slice.result.now wants partial c.as_slice-2.result.now in
    let empty = subst (λ old. ComesOf most answers old f) c.new-rows.ensures.items c.in_err-join.ensures.fault in
    let these = subst (λ xs. ComesOf most (IsAnswer known c.as_slice.result.now wants partial xs) [] f) c.as_slice-2.ensures.value empty in
    let all = subst (λ sorts. ComesOf most (IsAnswer known sorts wants partial atoms) [] f) c.as_slice.ensures these in
    let p = err_from_is_err_and c.from_residual-in_err-join.result c.from_residual-in_err-join.ensures.1 in
    rw (p.1, p.2) (joined_fault known seeks stream search.place partial c.new.ensures atoms c.in_ok-atoms.ensures most f all)
