-- What is asked of a dream next.
use Rattle.std.specs.Prelude.{◌≡◌, ℕ, List, [], ◌∷◌, map, Bool, All, not, ◌&&◌, ◌||◌, Option, None, Some, if◌then◌else◌}
use Rattle.std.specs.Option.{option_and_then, option_map_or}
use Rattle.dream_asks.specs.Progress.{IsProgress, Progress, became, numbered}
use Rattle.dream_asks.specs.declared.asks.DreamAsk.{DreamAsk}
use Rattle.instance_queue.specs.Level.{due_instances}
use Rattle.instance_queue.specs.declared.due.Due.{Due}
use Rattle.task_model.specs.Dreams as dreams
use Rattle.task_model.specs.Known.{Known}
use Rattle.task_model.specs.Streams.{Note, is_due, same_instance, yields_of}
use Rattle.task_model.specs.declared.stream.Instance.{Instance}
use Rattle.task_model.specs.declared.task.Task.{Task}
use Rattle.transcript_model.specs.Dreaming.{Sent, next_sent, sent_instances}
use Rattle.transcript_model.specs.Transcript.{known_of, notes_of}
use Rattle.transcript_model.specs.declared.entry.Entry.{Entry}

module _ (task : Task) (known : Known) (notes : List Note) (p : Progress) where
  -- the instance that an entry's has become, if that is due and wasn't seen
  abbrev pub ready_by : (Instance → Bool) → Instance → Option Instance
  ready_by seen instance =
      option_and_then (λ i. if is_due task known notes i && not (seen i) then Some i else None) (became p instance)

  -- the entries that are asked, in order, each as the instance that it has become, of which none was seen
  abbrev pub asks_by : (Instance → Bool) → List dreams.SupposedEntry → List DreamAsk
  asks_by seen [] = []
  asks_by seen (e ∷ es) =
      option_map_or (λ i. record { instance = i; outputs = e.outputs }
      ∷ asks_by (λ j. same_instance j i || seen j) es) (ready_by seen e.instance) (asks_by seen es)

-- By each transcript by which this is known and noted, and which has the dream's requests, these are the entries that
-- are asked next, whatever number the first of them has.
abbrev pub AreNext : Task → Known → List Note → Progress → List dreams.SupposedEntry → List DreamAsk → Type 0
AreNext task known notes p entries asks =
    (before : List Entry) (sent : List Sent) (number : ℕ) → known ≡ known_of task before → notes ≡ notes_of task before
    → IsProgress task before p sent
    → numbered number asks ≡ next_sent task before p.real sent number (sent_instances sent) entries

abbrev pub asked_instances : List DreamAsk → List Instance
asked_instances = map (λ (a : DreamAsk). a.instance)

-- the asks' instances, each with its turn
pub record AreDuesOf (notes : List Note) (asks : List DreamAsk) (dues : List Due) : Type 0 where
  pub instances : due_instances dues ≡ asked_instances asks
  pub turns : All (λ (d : Due). d.turn ≡ yields_of notes d.instance) dues
