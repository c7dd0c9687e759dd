-- How often an instance has yielded in a legal transcript.
use Rattle.std.proofs.Common.{◌≡◌, ℕ, ◌*◌, ◌≤◌, cond, Bool, true, false, List, [], ◌∷◌, length, take, replicate, count_by, Option, Some, None, slice_get, suc, refl, arith}
use Rattle.std.proofs.lemmas.List.{length-append, length-replicate}
use Rattle.std.specs.List.{flat_map}
use Rattle.std.specs.Option.{option_map_or}
use Rattle.lemmas.proofs.Counts.{count_joined, count_one}
use Rattle.task_model.specs.Streams.{Note, Yielded, Ended, yields_of, is_yield_of}
use Rattle.task_model.specs.declared.stream.Instance.{Instance}
use Rattle.task_model.specs.declared.task.Task.{Task}
use Rattle.transcript_model.specs.Legal.{IsLegal, MayFollow, is_answer}
use Rattle.transcript_model.specs.Transcript.{Asked, asked, note_of, notes_of}
use Rattle.transcript_model.specs.declared.entry.Entry.{Entry}
use Rattle.transcript_model.specs.declared.entry.Entry.TheVariants as entry

-- an answer tells at most sixteen things
notes_few : (f : Entry → List Note) (xs : List Entry)
    → ((k : ℕ) (e : Entry) → slice_get xs k ≡ Some e → length (f e) ≤ 16 * cond (is_answer e) 1 0)
    → length (flat_map f xs) ≤ 16 * count_by is_answer xs
notes_few f [] each = omega arith
notes_few f (x ∷ xs) each =
    let here = each 0 x refl in
    let rest = notes_few f xs (λ k e at. each (suc k) e at) in
    let count = count_joined is_answer (x ∷ []) xs in
    let one = count_one is_answer x in
    let sizes = length-append (f x) (flat_map f xs) in
    omega (arith, here, rest, count, one, sizes)

told_few : (version : ℕ) (task : Task) (entries before : List Entry) (e : Entry)
    → MayFollow version task before e
    → length (note_of task entries e) ≤ 16 * cond (is_answer e) 1 0
told_few version task entries before (entry.Got n tuples values) may = by (asked task entries n)
  where
    by : (o : Option Asked)
        → length (option_map_or (λ (a : Asked). replicate tuples (Yielded a.instance)) o []) ≤ 16 * cond true 1 0
    by None = omega arith
    by (Some a) = omega (arith, length-replicate tuples (Yielded a.instance), may.right.few)
told_few version task entries before (entry.Value n value) may = by (asked task entries n)
  where
    by : (o : Option Asked)
        → length (option_map_or (λ (a : Asked). Ended a.instance ∷ []) o []) ≤ 16 * cond true 1 0
    by None = omega arith
    by (Some a) = omega arith
told_few version task entries before (entry.End n) may = by (asked task entries n)
  where
    by : (o : Option Asked)
        → length (option_map_or (λ (a : Asked). Ended a.instance ∷ []) o []) ≤ 16 * cond true 1 0
    by None = omega arith
    by (Some a) = omega arith
told_few version task entries before e may = omega arith

count_few : (f : Note → Bool) (xs : List Note) → count_by f xs ≤ length xs
count_few f [] = omega arith
count_few f (x ∷ xs) =
    let rest = count_few f xs in
    let count = count_joined f (x ∷ []) xs in
    let one = count_one f x in
    let few = at_most (f x) in
    omega (arith, rest, count, one, few)
  where
    at_most : (b : Bool) → cond b 1 0 ≤ 1
    at_most true = omega arith
    at_most false = omega arith

pub yields_few : (version : ℕ) (task : Task) (entries : List Entry) (i : Instance)
    → IsLegal version task entries
    → yields_of (notes_of task entries) i ≤ 16 * count_by is_answer entries
yields_few version task entries i legal =
    let few = count_few (is_yield_of i) (notes_of task entries) in
    let told = notes_few (note_of task entries) entries (λ k e at. told_few version task entries (take k entries) e (legal k e at)) in
    omega (arith, few, told)
