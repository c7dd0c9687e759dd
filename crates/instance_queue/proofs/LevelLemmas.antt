-- What is found is the level.
use Rattle.std.proofs.Common.{◌≡◌, ℕ, ◌+◌, ◌<◌, ◌≤◌, ◌++◌, get_or, take, Bool, not, List, [], ◌∷◌, length, refl, sym, ap, subst, ◌∙◌, arith, All}
use Rattle.std.proofs.lemmas.List.{length-map, map_push, take_more}
use Rattle.std.proofs.lemmas.List.Elements.{All-nil, All-cons}
use Rattle.std.proofs.lemmas.Bool.{not-true}
use Rattle.fact_join.specs.Adding.{ComesOf as Lacks}
use Rattle.fact_join.specs.declared.query.JoinFault.{JoinFault}
use Rattle.fact_join.specs.declared.query.JoinFault.TheVariants as join
use Rattle.task_model.specs.Known.{Known, IsCoherent, IsIn}
use Rattle.task_model.specs.Streams.{Note, IsDue, yields_of, is_finished, AreDue}
use Rattle.task_model.specs.declared.stream.Instance.{Instance}
use Rattle.task_model.specs.declared.stream.Stream.{Stream}
use Rattle.task_model.specs.declared.task.Task.{Task}
use Rattle.instance_queue.specs.Asks.{dues_of_instances, due_of}
use Rattle.instance_queue.specs.Faults.{fault_of}
use Rattle.instance_queue.specs.Level.{due_instances, AreDueInTurn, HasLevelCause}
use Rattle.instance_queue.specs.declared.due.Due.{Due}
use Rattle.instance_search.proofs.InstanceOrderLemmas.{reachable_in}
use Rattle.instance_search.specs.Found.{IsFound, AreFound}

asked : (notes : List Note) (xs : List Instance) → due_instances (dues_of_instances notes xs) ≡ xs
asked notes [] = refl
asked notes (x ∷ xs) = ap (λ ys. x ∷ ys) (asked notes xs)

turned : (notes : List Note) (xs : List Instance)
    → All (λ (d : Due). d.turn ≡ yields_of notes d.instance) (dues_of_instances notes xs)
turned notes [] = All-nil (λ (d : Due). d.turn ≡ yields_of notes d.instance)
turned notes (x ∷ xs) =
    All-cons (λ (d : Due). d.turn ≡ yields_of notes d.instance) (due_of notes x) (dues_of_instances notes xs) refl (turned notes xs)

-- one ask more
pub asks_more : (notes : List Note) (xs : List Instance) (i : ℕ) (x copied : Instance) (turn : ℕ) (dues : List Due)
    → i < length xs → x ≡ get_or xs i x → copied ≡ x → turn ≡ yields_of notes x → dues ≡ dues_of_instances notes (take i xs)
    → dues ++ record { instance = copied; turn = turn } ∷ [] ≡ dues_of_instances notes (take (i + 1) xs)
asks_more notes xs i x copied turn dues within is same told passed =
    (λ k. passed k ++ record { instance = same k; turn = told k } ∷ [])
    ∙ sym (map_push (due_of notes) (take i xs) x)
    ∙ ap (dues_of_instances notes) (sym (take_more xs i x within ∙ ap (λ y. take i xs ++ y ∷ []) (sym is)))

module _ (task : Task) (known : Known) (notes : List Note) where
  abbrev seeks : Stream → Instance → Bool
  seeks stream instance = not (is_finished stream notes instance)

  pub found_is_due : (i : Instance) → IsFound task known seeks i → IsDue task known notes i
  found_is_due i f =
      record { stream = f.stream; named = f.named; reachable = f.reachable; unfinished = not-true (is_finished f.stream notes i) f.sought }

  due_is_found : (i : Instance) → IsDue task known notes i → IsFound task known seeks i
  due_is_found i d =
      record { stream = d.stream; named = d.named; reachable = d.reachable; sought = ap not d.unfinished }

  found_due : (xs : List Instance) → AreFound task known seeks xs → AreDue task known notes xs
  found_due xs f = record {
    each = λ i. (λ m. found_is_due i ((f.each i).0 m), λ d. (f.each i).1 (due_is_found i d));
    ascend = f.ascend;
  }

  pub level_is : (xs : List Instance) (ys : List Due) → AreFound task known seeks xs
      → length xs ≤ 1000000 → ys ≡ dues_of_instances notes xs → AreDueInTurn task known notes ys
  level_is xs ys f few is =
      let same : due_instances ys ≡ xs = ap due_instances is ∙ asked notes xs in
      let long : length ys ≡ length xs = ap length is ∙ length-map xs (due_of notes) in
      record {
        due = subst (AreDue task known notes) (sym same) (found_due xs f);
        turns = subst (All (λ (d : Due). d.turn ≡ yields_of notes d.instance)) (sym is) (turned notes xs);
        few = omega (arith, long, few);
      }

  pub level_fault : (f : JoinFault) → Lacks 1000000 (IsFound task known seeks) [] f
      → HasLevelCause task known notes (fault_of f)
  level_fault join.TooMany (more, distinct, each, many) =
      (more, omega (arith, many), distinct, λ i m. found_is_due i (each i m))
  level_fault join.Memory h = tt

-- the inputs of an instance that is due have names
pub due_in : (task : Task) (known : Known) (notes : List Note) → IsCoherent known → (i : Instance)
    → IsDue task known notes i → All (IsIn known.names) i.inputs
due_in task known notes c i d = reachable_in d.stream known c i d.reachable
