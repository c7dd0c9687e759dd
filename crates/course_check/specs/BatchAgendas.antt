-- What a batch of asks has still to do.
use Rattle.std.specs.Prelude.{◌≡◌, ℕ, ◌+◌, ◌-◌, ◌<◌, ◌≤◌, ◌==◌, ◌&&◌, List, [], ◌++◌, length, take, drop, Bool, not, true, false}
use Rattle.instance_queue.specs.Level.{due_instances}
use Rattle.pools.specs.Pools.{HaveWorkers}
use Rattle.task_model.specs.declared.stream.Instance.{Instance}
use Rattle.task_model.specs.declared.task.Task.{Task}
use Rattle.transcript_model.specs.Legal.{asks_of}
use Rattle.transcript_model.specs.Rounds.{Share, IsFull, fits, requests_from}
use Rattle.transcript_model.specs.declared.entry.Entry.{Entry}
use Rattle.transcript_model.specs.declared.limits.TheConstants.{MOST_CALLS}
use Rattle.course_check.specs.Courses.{Course as Place}
use Rattle.course_check.specs.declared.batch.BatchCourse.TheInside.{Inside}

-- The instances of the open round that are still to be asked; the number of the request that is answered next, and how
-- many answers the round wants; the instances of later rounds; and whether calls were wanting for all that was due.
pub record Agenda : Type 0 where
  pub to_ask : List Instance
  pub next : ℕ
  pub answers : ℕ
  pub later : List Instance
  pub is_cut : Bool

abbrev pub nothing_to_do : Agenda
nothing_to_do = record { to_ask = []; next = 1; answers = 0; later = []; is_cut = false }

-- nothing of the batch is open, and calls weren't wanting for it
abbrev pub is_over : Agenda → Bool
is_over batch = (batch.answers == 0) && not batch.is_cut

-- one request less
abbrev pub with_asked : Agenda → Agenda
with_asked a =
    record { to_ask = drop 1 a.to_ask; next = a.next; answers = a.answers; later = a.later; is_cut = a.is_cut }

-- one answer less
abbrev pub with_answer : Agenda → Agenda
with_answer a =
    record { to_ask = a.to_ask; next = a.next + 1; answers = a.answers - 1; later = a.later; is_cut = a.is_cut }

-- The first round of the list begins; its first request has this number.
pub record Starts (pools : List Share) (list : List Instance) (number : ℕ) (cut : Bool) (a : Agenda) : Type 0 where
  pub round : List Instance
  pub rest : List Instance
  pub parts : list ≡ round ++ rest
  pub fit : fits pools round ≡ true
  pub full : IsFull pools round rest
  pub some : HaveWorkers pools → 0 < length list → 0 < length round
  pub is : a ≡ record { to_ask = round; next = number; answers = length round; later = rest; is_cut = cut }

-- One answer more: the round wants one less, or behind its last the next begins.
pub record IsAnswered (pools : List Share) (old new : Agenda) : Type 0 where
  pub more : 1 < old.answers → new ≡ with_answer old
  pub last : old.answers ≡ 1 → Starts pools old.later (old.next + 1) old.is_cut new

-- where a transcript stands behind which this is to be done
abbrev pub place_in : Task → List Entry → Agenda → Place
place_in task entries a = record {
  asks = requests_from task entries (asks_of entries + 1) a.to_ask;
  next = a.next;
  answers = a.answers;
  later = a.later;
  is_cut = a.is_cut;
}

-- ---- the code's fields

abbrev pub shown_agenda : Inside → Agenda
shown_agenda c =
    record {
      to_ask = due_instances (drop c.asked (take c.round c.dues.items));
      next = c.before + c.answered + 1;
      answers = c.round - c.answered;
      later = due_instances (drop c.round c.dues.items);
      is_cut = c.is_cut;
    }

pub record IsSoundAgenda (c : Inside) : Type 0 where
  pub asked : c.asked ≤ c.round
  pub answered : c.answered ≤ c.round
  pub round : c.round ≤ length c.dues.items
  pub few : c.before + length c.dues.items ≤ MOST_CALLS
