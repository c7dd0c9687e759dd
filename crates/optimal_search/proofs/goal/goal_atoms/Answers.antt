use Rattle.std.proofs.Common.{◌≡◌, ℕ, ◌+◌, List, [], ◌∷◌, ◌++◌, take, sym, ap, subst, ◌∙◌, arith, Option, Some, slice_get}
use Rattle.std.proofs.lemmas.List.{append-nil}
use Rattle.std.proofs.lemmas.List.Elements.{filter_map-append}
use Rattle.std.specs.List.{cons_option, filter_map, list_all}
use Rattle.formula_eval.proofs.ReadableLemmas.{fit_readable}
use Rattle.formula_eval.specs.Readable.{is_readable}
use Rattle.grounder.proofs.PartsLemmas.{readable_tops}
use Rattle.grounder.specs.Parts.{fluent_in, tops_of}
use Rattle.lemmas.proofs.ListTests.{all_at, get_some}
use Rattle.lemmas.proofs.Members.{next_taken}
use Rattle.optimal_search.proofs.AgendaLemmas.{none_from}
use Rattle.task_model.specs.Truth.{slots_of}
use Rattle.optimal_search.proofs.goal.goal_atoms.Goals as goal
use Rattle.optimal_search.proofs.goal.goal_atoms.Goals.{in-Some+in_ok-push, in_default}

pub fluent_atom-requires-clause-readable : goal.fluent_atom-requires-clause-readable
fluent_atom-requires-clause-readable c =
    let task = c.args.task.now in
    let parts = c.tops-part-items.result.now in
    let readable = fit_readable task.domain c.requires.domain _ 0 (omega arith) task.problem.goal c.requires.problem.goal in
    all_at (is_readable task.domain) parts c.loop-part.part-index c.part-item.result
    (ap (list_all (is_readable task.domain)) c.tops-part-items.ensures ∙ readable_tops task.domain task.problem.goal readable)
    (get_some parts c.loop-part.part-index c.part-item.result c.loop-part-test.true c.part-item.is)

-- what a function gives of one member more
given_next : {A B : Type 0} (f : A → Option B) (xs : List A) (i : ℕ) (x : A) (o : Option B) → slice_get xs i ≡ Some x
    → o ≡ f x → filter_map f (take (i + 1) xs) ≡ filter_map f (take i xs) ++ cons_option o []
given_next f xs i x o at is =
    ap (filter_map f) (next_taken xs i x at) ∙ filter_map-append f (take i xs) (x ∷ [])
    ∙ ap (λ p. filter_map f (take i xs) ++ cons_option p []) (sym is)

pub loop-part-preserved : goal.loop-part-preserved
loop-part-preserved c =
    let task = c.args.task.now in
    let f = fluent_in task.domain (slots_of []) in
    let index = c.loop-part.part-index in
    let part = c.part-item.result in
    let at = subst (λ ps. slice_get ps index ≡ Some part) c.tops-part-items.ensures
    (get_some c.tops-part-items.result.now index part c.loop-part-test.true c.part-item.is) in
    let is : c.fluent_atom.result ≡ f part = c.fluent_atom.ensures ∙ ap (λ e. fluent_in task.domain e part) c.new-env.ensures in
    let parts = tops_of task.problem.goal in
    let front = filter_map f (take index parts) in
    let next = given_next f parts index part c.fluent_atom.result at is in
    elim c.match-fluent_atom.branch [
      | in-Some+in_ok-push w ↦
          (λ i. (w.atoms-is i).items) ∙ w.in_ok-push.ensures.items
          ∙ ap (λ xs. xs ++ w.in-Some.atom ∷ []) c.loop-part.invariant
          ∙ sym (next ∙ ap (λ o. front ++ cons_option o []) w.in-Some.is)
      | in_default w ↦
          (λ i. (w.atoms-is i).items) ∙ c.loop-part.invariant
          ∙ sym (next ∙ ap (λ o. front ++ cons_option o []) (none_from c.fluent_atom.result w.in_default.not-Some) ∙ append-nil front)
    ]
