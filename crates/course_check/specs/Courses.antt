-- Where in a level a transcript of incremental mode stands, and what may come next. A report is judged by whole turns;
-- this says the same entry by entry.
use Rattle.std.specs.Prelude.{◌≡◌, ◌⊎◌, ℕ, zero, suc, ◌+◌, ◌<◌, List, [], ◌∷◌, ◌++◌, length, take, Bool, true, false}
use Rattle.task_model.specs.declared.stream.Instance.{Instance}
use Rattle.task_model.specs.declared.task.Task.{Task}
use Rattle.transcript_model.specs.Legal.{asks_of, is_answer_to}
use Rattle.transcript_model.specs.Rounds.{Limits, IsFull, calls_left, fits, requests}
use Rattle.transcript_model.specs.Turns.{MayBegin, is_cut}
use Rattle.transcript_model.specs.declared.entry.Entry.{Entry}
use Rattle.transcript_model.specs.declared.entry.Entry.TheVariants as entry

-- The requests of the open round that are still to come; the number of the request that is answered next, and how many
-- of the round have no answer; the instances of later rounds; and whether calls were wanting for all that was due.
pub record Course : Type 0 where
  pub asks : List Entry
  pub next : ℕ
  pub answers : ℕ
  pub later : List Instance
  pub is_cut : Bool

-- before the first level
abbrev pub course_at_first : Course
course_at_first = record { asks = []; next = 1; answers = 0; later = []; is_cut = false }

-- behind the requests up to these, of the same round
abbrev pub with_asks : Course → List Entry → Course
with_asks c asks =
    record { asks = asks; next = c.next; answers = c.answers; later = c.later; is_cut = c.is_cut }

module _ (limits : Limits) (task : Task) (before : List Entry) where
  -- The first round of the list begins.
  pub record Opens (list : List Instance) (cut : Bool) (after : Course) : Type 0 where
    pub round : List Instance
    pub rest : List Instance
    pub parts : list ≡ round ++ rest
    pub fit : fits limits.pools round ≡ true
    pub full : IsFull limits.pools round rest
    pub some : 0 < length list → 0 < length round
    pub is : after
        ≡ record {
          asks = requests task before round;
          next = asks_of before + 1;
          answers = length round;
          later = rest;
          is_cut = cut;
        }

-- behind the next answer, if so many are left, or else the next round begins
abbrev pub IsBehind : Limits → Task → List Entry → Course → ℕ → Course → Type 0
IsBehind limits task before c zero after = Opens limits task before c.later c.is_cut after
IsBehind limits task before c (suc left) after =
    after ≡ record { asks = []; next = c.next + 1; answers = suc left; later = c.later; is_cut = c.is_cut }

-- nothing is open, and a level begins
pub record BeginsLevel (limits : Limits) (task : Task) (before : List Entry) (c : Course) (e : Entry)
    (after : Course) : Type 0 where
  pub resting : c.answers ≡ 0
  pub uncut : c.is_cut ≡ false
  pub is : e ≡ entry.Level
  pub may : MayBegin limits task before
  pub opens : Opens limits task (before ++ e ∷ [])
      (take (calls_left limits before) may.list) (is_cut limits before may.list) after

-- the next request of the round is made
pub record MakesRequest (c : Course) (e : Entry) (after : Course) : Type 0 where
  pub more : 0 < c.answers
  pub rest : List Entry
  pub asks : c.asks ≡ e ∷ rest
  pub is : after ≡ with_asks c rest

-- all requests of the round are made, and the next of them is answered
pub record GivesAnswer (limits : Limits) (task : Task) (before : List Entry) (c : Course) (e : Entry)
    (after : Course) : Type 0 where
  pub asked : c.asks ≡ []
  pub left : ℕ
  pub answers : c.answers ≡ suc left
  pub to : is_answer_to c.next e ≡ true
  pub behind : IsBehind limits task (before ++ e ∷ []) c left after

-- the entry may come next, and leads there
abbrev pub IsCourseStep : Limits → Task → List Entry → Course → Entry → Course → Type 0
IsCourseStep limits task before c e after =
    BeginsLevel limits task before c e after ⊎ (MakesRequest c e after ⊎ GivesAnswer limits task before c e after)

-- the entries may come one after another, and lead there
abbrev pub Leads : Limits → Task → Course → List Entry → List Entry → Course → Type 0
Leads limits task c before [] after = c ≡ after
Leads limits task c before (e ∷ es) after =
    (middle : Course) × IsCourseStep limits task before c e middle
    × Leads limits task middle (before ++ e ∷ []) es after
