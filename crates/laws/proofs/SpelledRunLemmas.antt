-- Runs with one worker, of which the same talk is told.
use Rattle.std.proofs.Common.{◌≡◌, ℕ, ◌<◌, IfSome, inl, inr, List, [], ◌∷◌, ◌++◌, length, map, Option, slice_get, refl, sym, ap, subst, ◌∙◌, arith, true}
use Rattle.laws.proofs.GridOneChildLemmas.{only_child}
use Rattle.io_world.specs.Talks.{Talk}
use Rattle.lemmas.proofs.Ascending.{contains_here}
use Rattle.lemmas.proofs.Pigeonhole.{pigeons}
use Rattle.course_check.proofs.CoursesStepLemmas.{LeadsTo, turns_lead}
use Rattle.course_check.specs.Courses.{Course, course_at_first}
use Rattle.course_check.specs.Laws.{IsAt}
use Rattle.turn_run.proofs.TabledLemmas.{resting}
use Rattle.turn_run.specs.Turns.{IsSure}
use Rattle.turn_laws.specs.Lazy.{IsTurnNeeded, begins}
use Rattle.turn_laws.proofs.PlainOneLemmas.{as_one}
use Rattle.turn_laws.proofs.OwnLemmas.{own_agrees}
use Rattle.turn_laws.proofs.PlainTurnsLemmas.{as_plain}
use Rattle.turn_laws.specs.Own.{own_rows}
use Rattle.pools.specs.Pools.{AreFitPools, workers_of}
use Rattle.round_run.specs.Dialogue.{IsOneOf, IsSaid, replies_of, requests_of, workers_in}
use Rattle.round_run.proofs.DialogueRequestLemmas.{requests_counted}
use Rattle.lemmas.proofs.Counts.{count_joined}
use Rattle.laws.proofs.SpelledLemmas.{HasLevel, IsSpelledBy, level_first, spelled_once}
use Rattle.laws.specs.Spelled.{IsSpelledRun, OneWorkerSpellsOneRun}
use Rattle.table_runs.proofs.ServedLemmas.{go_to_pools}
use Rattle.task_model.specs.Fit.{IsFit}
use Rattle.task_model.specs.Plans.{IsSolvable}
use Rattle.task_model.specs.Streams.{AreDue, NothingIsDue}
use Rattle.task_model.specs.declared.stream.Instance.{Instance}
use Rattle.task_model.specs.declared.task.Task.{Task}
use Rattle.transcript_model.specs.Legal.{asks_of, is_ask}
use Rattle.transcript_model.specs.Plain.{IsAsPlain}
use Rattle.transcript_model.specs.Rounds.{Limits, limits_of}
use Rattle.transcript_model.specs.Tables.{reply_in}
use Rattle.transcript_model.specs.Transcript.{known_of, notes_of}
use Rattle.transcript_model.specs.Turns.{AreTurnsOf, MayBegin, Stage, after_cut, between, inside}
use Rattle.transcript_model.specs.declared.entry.Entry.{Entry}
use Rattle.transcript_model.specs.declared.entry.Entry.TheVariants as entry
use Rattle.transcript_model.specs.declared.head.Head.{Head}
use Rattle.transcript_model.specs.declared.head.Mode.TheVariants.{Incremental}
use Rattle.transcript_model.specs.declared.head.Pool.{Pool}
use Rattle.transcript_model.specs.declared.outcome.LimitKind.TheVariants.{Calls, Instances, States}
use Rattle.transcript_model.specs.declared.outcome.Outcome.{Outcome}
use Rattle.transcript_model.specs.declared.outcome.Outcome.TheVariants as outcome

-- a course that stands behind whole turns has nothing open
at_rest : (c : Course) (stage : Stage) → IsAt c stage → ¬ (stage ≡ inside) → c.answers ≡ 0
at_rest c between at other = at.0
at_rest c after_cut at other = at.0
at_rest c inside at other = absurd (other refl)

-- ---- one run

module _ (task : Task) (head : Head) (pool : Pool) (talk : Talk) (fit : IsFit task) (serves : AreFitPools task (workers_in head))
    (entries : List Entry) (o : Outcome) (spoken : ℕ → Option Talk) (s : IsSpelledRun task head pool talk entries o spoken) where
  -- it stops between two turns, or behind a batch that was cut
  rests : ¬ (s.run.stage ≡ inside)
  rests = resting s.run.stage o s.run.stands

  -- entry by entry
  course : LeadsTo (limits_of head) task course_at_first [] entries s.run.stage
  course =
      turns_lead (limits_of head) task tt [] entries s.run.stage course_at_first
      (subst (λ m. AreTurnsOf m (limits_of head) task entries s.run.stage) s.mode s.run.turns) refl refl

  ends_at_rest : course.last.answers ≡ 0
  ends_at_rest = at_rest course.last s.run.stage (course.at rests) rests

  -- the pools' only child
  child_is : (child : ℕ) → IsOneOf (workers_in head) child → child ≡ pool.first
  child_is child of =
      only_child (workers_of pool) child s.one (subst (λ ps. IsOneOf (map workers_of ps) child) s.pools of)

  only : IsOneOf (workers_in head) pool.first
  only = record {
    place = 0;
    pool = workers_of pool;
    at = ap (λ ps. slice_get (map workers_of ps) 0) s.pools;
    has = record { from = omega arith; to = omega (arith, s.one) };
  }

  -- where something was asked, the talk spells the transcript
  spelled_by : 0 < asks_of entries → IsSpelledBy (limits_of head) head.version task (workers_in head) pool.first talk entries
  spelled_by some =
      let served = go_to_pools task head entries s.run.stage fit serves s.run.legal s.run.turns rests in
      record {
        legal = s.run.legal;
        to = λ k r at. child_is r.child (served k r at);
        said =
            subst (λ t. IfSome t (IsSaid task head.version (requests_of task (workers_in head) entries) (replies_of entries) [] pool.first))
            s.told (s.talks pool.first only (omega (arith, some, requests_counted task (workers_in head) [] entries)));
      }

  -- it is as the plain run over the table of its own answers
  as_own : ¬ (o ≡ outcome.Limit States) → IsAsPlain task (reply_in (own_rows entries)) head.calls entries o
  as_own within =
      as_plain (limits_of head) task fit (reply_in (own_rows entries)) entries s.run.stage o (record {
        mode = s.mode;
        agrees = own_agrees head.version task entries fit s.run.legal;
        turns = subst (λ m. AreTurnsOf m (limits_of head) task entries s.run.stage) s.mode s.run.turns;
        lazy = s.run.lazy;
        stands = s.run.stands;
        claim = s.run.sure.holds;
        end = s.run.end;
        few = s.run.few;
      }) within

-- a transcript whose first entry is a level and whose next is a request has requests
some_asked : (limits : Limits) (task : Task) (entries : List Entry) → HasLevel limits task [] entries → 0 < asks_of entries
some_asked limits task entries l =
    let r = l.request in
    let front = entry.Level ∷ entry.Ask r.number r.turn r.call ∷ [] in
    let all : entries ≡ front ++ r.rest = l.is ∙ ap (λ xs. entry.Level ∷ xs) r.is in
    omega (arith, ap asks_of all, count_joined is_ask front r.rest)

-- ---- a run that asked nothing, beside one that did

module _ (task : Task) (head : Head) (mode : head.mode ≡ Incremental) (may : MayBegin (limits_of head) task [])
    (unsolvable : ¬ (IsSolvable task (known_of task []))) where
  -- something is due
  not_none : (list : List Instance) → AreDue task (known_of task []) (notes_of task []) list → 0 < length list
      → NothingIsDue task (known_of task []) (notes_of task []) → ⊥
  not_none [] due some none = absurd (omega (arith, some))
  not_none (x ∷ xs) due some none = none x ((due.each x).0 (contains_here x xs))

  -- no outcome is true before the first entry but the limit of states
  no_end : (o : Outcome) → IsSure head task [] o → (o ≡ outcome.Limit States → 0 < asks_of []) → ⊥
  no_end (outcome.Plan calls cost from) sure begun = unsolvable (sure.holds.steps, cost, sure.holds.valid)
  no_end outcome.NoPlan sure begun = not_none may.list may.due may.some sure.holds.closed.finished
  no_end (outcome.Limit Calls) sure begun = absurd (omega (arith, sure.holds.calls, may.left))
  no_end (outcome.Limit States) sure begun = absurd (omega (arith, begun refl))
  no_end (outcome.Limit Instances) sure begun =
      let many = sure.holds in
      let le = pigeons many.0 may.list many.2 (λ i m. (may.due.each i).1 (many.3 i m)) in
      absurd (omega (arith, le, may.few, many.1))

-- no plan exists where a level of incremental mode begins
first_needed : (limits : Limits) (task : Task) → limits.mode ≡ Incremental → IsTurnNeeded limits task []
    → ¬ (IsSolvable task (known_of task []))
first_needed limits task mode (inl not) = not
first_needed limits task mode (inr far) = absurd (far.0 mode)

module _ (task : Task) (head : Head) (pool : Pool) (talk : Talk) (fit : IsFit task) (serves : AreFitPools task (workers_in head))
    (o p : Outcome) (spoken told : ℕ → Option Talk) where
  -- a run without entries isn't beside one with some
  not_beside : (f : Entry) (fs : List Entry) → IsSpelledRun task head pool talk [] o spoken
      → IsSpelledRun task head pool talk (f ∷ fs) p told → ⊥
  not_beside f fs first second =
      let c = course task head pool talk fit serves (f ∷ fs) p told second in
      let l = level_first (limits_of head) task [] course_at_first c.last f fs refl c.leads
      (ends_at_rest task head pool talk fit serves (f ∷ fs) p told second) in
      let begun : begins head.mode f ≡ true =
      ap (λ m. begins m f) second.mode ∙ heads_level f fs l.later l.is in
      let needed = second.run.lazy 0 f refl begun in
      no_end task head second.mode l.may (first_needed (limits_of head) task second.mode needed) o first.run.sure first.begun
    where
      heads_level : (f : Entry) (fs later : List Entry) → f ∷ fs ≡ entry.Level ∷ later → begins Incremental f ≡ true
      heads_level f fs later is = let same : f ≡ entry.Level = cc in ap (begins Incremental) same

-- the transcripts are one
same_entries : (task : Task) (head : Head) (pool : Pool) (talk : Talk) (entries others : List Entry) (o p : Outcome)
    (spoken told : ℕ → Option Talk) → IsFit task → AreFitPools task (workers_in head)
    → IsSpelledRun task head pool talk entries o spoken → IsSpelledRun task head pool talk others p told → entries ≡ others
same_entries task head pool talk [] [] o p spoken told fit serves first second = refl
same_entries task head pool talk [] (f ∷ fs) o p spoken told fit serves first second =
    absurd (not_beside task head pool talk fit serves o p spoken told f fs first second)
same_entries task head pool talk (e ∷ es) [] o p spoken told fit serves first second =
    absurd (not_beside task head pool talk fit serves p o told spoken e es second first)
same_entries task head pool talk (e ∷ es) (f ∷ fs) o p spoken told fit serves first second =
    let limits = limits_of head in
    let c = course task head pool talk fit serves (e ∷ es) o spoken first in
    let d = course task head pool talk fit serves (f ∷ fs) p told second in
    let here = ends_at_rest task head pool talk fit serves (e ∷ es) o spoken first in
    let there = ends_at_rest task head pool talk fit serves (f ∷ fs) p told second in
    let a = some_asked limits task (e ∷ es) (level_first limits task [] course_at_first c.last e es refl c.leads here) in
    let b = some_asked limits task (f ∷ fs) (level_first limits task [] course_at_first d.last f fs refl d.leads there) in
    spelled_once limits head.version task (workers_in head) pool.first talk [] (e ∷ es) (f ∷ fs) course_at_first c.last d.last c.leads
    here d.leads there (spelled_by task head pool talk fit serves (e ∷ es) o spoken first a)
    (spelled_by task head pool talk fit serves (f ∷ fs) p told second b)

pub one_spelled : OneWorkerSpellsOneRun
one_spelled task head pool talk entries others o p spoken told fit serves first second =
    let same = same_entries task head pool talk entries others o p spoken told fit serves first second in
    record {
      transcript = same;
      end = λ here there.
          (as_one task (reply_in (own_rows entries)) head.calls entries entries o p
          (as_own task head pool talk fit serves entries o spoken first here)
          (subst (λ es. IsAsPlain task (reply_in (own_rows es)) head.calls es p) (sym same)
          (as_own task head pool talk fit serves others p told second there))).2;
    }
