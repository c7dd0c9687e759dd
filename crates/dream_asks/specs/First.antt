-- What is asked first of a dream.
use Rattle.std.specs.Prelude.{◌≡◌, ℕ, nat_lt, List, Bool, All, ◌&&◌}
use Rattle.std.specs.List.{filter, list_all}
use Rattle.instance_queue.specs.Level.{due_instances}
use Rattle.instance_queue.specs.declared.due.Due.{Due}
use Rattle.task_model.specs.Dreams as dreams
use Rattle.task_model.specs.Known.{Known}
use Rattle.task_model.specs.Streams.{Note, is_due, yields_of}
use Rattle.task_model.specs.declared.stream.Instance.{Instance}
use Rattle.task_model.specs.declared.task.Task.{Task}

-- the instance is due, and each of its inputs is one of the first objects, of which there are so
-- many
abbrev pub is_askable : Task → Known → List Note → ℕ → Instance → Bool
is_askable task known notes real i =
    list_all (λ o. nat_lt o real) i.inputs && is_due task known notes i

-- the instances of the entries that may be asked at once, in their order
abbrev pub first_instances : Task → Known → List Note → ℕ → List dreams.SupposedEntry → List Instance
first_instances task known notes real entries =
    filter (is_askable task known notes real) (dreams.instances_of entries)

-- The asks are of these instances, each with its turn.
pub record AreFirstAsks (task : Task) (known : Known) (notes : List Note)
    (real : ℕ) (entries : List dreams.SupposedEntry)
    (dues : List Due) : Type 0 where
  pub instances : due_instances dues ≡ first_instances task known notes real entries
  pub turns : All (λ (d : Due). d.turn ≡ yields_of notes d.instance) dues
