-- To one table of answers there is one plain run.
use Rattle.std.proofs.Common.{◌≡◌, ℕ, ◌+◌, ◌<◌, ◌≤◌, List, [], ◌∷◌, ◌++◌, length, refl, sym, ap, ◌∙◌, subst, arith, count_by, Some}
use Rattle.std.specs.List.{filter}
use Rattle.lemmas.proofs.Ascending.{contains_here}
use Rattle.lemmas.proofs.Pigeonhole.{pigeons}
use Rattle.task_model.proofs.StreamsLemmas.{due_once}
use Rattle.task_model.specs.Plans.{IsSolvable}
use Rattle.task_model.specs.Streams.{MoreAreDue, NothingIsDue}
use Rattle.task_model.specs.declared.limits.TheConstants.{MOST_DUE}
use Rattle.task_model.specs.declared.stream.Instance.{Instance}
use Rattle.task_model.specs.declared.task.Task.{Task}
use Rattle.transcript_model.specs.Legal.{asks_of, is_answer, is_ask, is_level}
use Rattle.transcript_model.specs.Plain.{GoesOn, IsAsPlain, IsPlainRun, PlainEnd, SaysSame, closed, cut, end_of, level, level_of, solved, spent, too_many}
use Rattle.transcript_model.specs.Plain as plain
use Rattle.transcript_model.specs.Tables.{Answers}
use Rattle.transcript_model.specs.Transcript.{known_of, notes_of}
use Rattle.transcript_model.specs.declared.entry.Entry.{Entry}
use Rattle.transcript_model.specs.declared.outcome.Outcome.{Outcome}

module _ (task : Task) (answers : Answers) (calls : ℕ) where
  -- the same entries and the same end
  abbrev Same : List Entry → List Entry → PlainEnd → PlainEnd → Type 0
  Same xs ys d e = (xs ≡ ys) × (d ≡ e)

  -- what is due is one list
  lists_once : (before : List Entry) (xs ys : List Instance) → GoesOn task before xs → GoesOn task before ys → xs ≡ ys
  lists_once before xs ys x y = due_once task (known_of task before) (notes_of task before) xs ys x.due y.due

  -- too many are due, or none, where a run doesn't go on
  not_many : {A : Type 0} (before : List Entry) (xs : List Instance) → GoesOn task before xs
      → MoreAreDue MOST_DUE task (known_of task before) (notes_of task before) → A
  not_many before xs goes many =
      let le = pigeons many.0 xs many.2 (λ i m. (goes.due.each i).1 (many.3 i m)) in
      absurd (omega (arith, le, goes.few, many.1))

  not_none : {A : Type 0} (before : List Entry) (xs : List Instance) → GoesOn task before xs
      → NothingIsDue task (known_of task before) (notes_of task before) → A
  not_none before [] goes none = absurd (omega (arith, goes.some))
  not_none before (x ∷ xs) goes none =
      absurd (none x ((goes.due.each x).0 (contains_here x xs)))

  none_many : {A : Type 0} (before : List Entry) → NothingIsDue task (known_of task before) (notes_of task before)
      → MoreAreDue MOST_DUE task (known_of task before) (notes_of task before) → A
  none_many before none ([], more, distinct, all) = absurd (omega (arith, more))
  none_many before none (x ∷ xs, more, distinct, all) = absurd (none x (all x (contains_here x xs)))

  -- ---- a first run of each kind beside any other

  solved_one : {before ys : List Entry} {e : PlainEnd} → IsSolvable task (known_of task before)
      → IsPlainRun task answers calls before ys e → Same [] ys plain.plan e
  solved_one can (solved other) = (refl, refl)
  solved_one can (too_many not many) = absurd (not can)
  solved_one can (closed not none) = absurd (not can)
  solved_one can (spent list goes all) = absurd (goes.unsolvable can)
  solved_one can (cut list goes left wanting) = absurd (goes.unsolvable can)
  solved_one can (level list goes fits more) = absurd (goes.unsolvable can)

  many_one : {before ys : List Entry} {e : PlainEnd} → ¬ (IsSolvable task (known_of task before))
      → MoreAreDue MOST_DUE task (known_of task before) (notes_of task before)
      → IsPlainRun task answers calls before ys e → Same [] ys plain.limit_instances e
  many_one not many (solved can) = absurd (not can)
  many_one not many (too_many other more) = (refl, refl)
  many_one {before} not many (closed other none) = none_many before none many
  many_one {before} not many (spent list goes all) = not_many before list goes many
  many_one {before} not many (cut list goes left wanting) = not_many before list goes many
  many_one {before} not many (level list goes fits more) = not_many before list goes many

  closed_one : {before ys : List Entry} {e : PlainEnd} → ¬ (IsSolvable task (known_of task before))
      → NothingIsDue task (known_of task before) (notes_of task before)
      → IsPlainRun task answers calls before ys e → Same [] ys plain.no_plan e
  closed_one not none (solved can) = absurd (not can)
  closed_one {before} not none (too_many other many) = none_many before none many
  closed_one not none (closed other nothing) = (refl, refl)
  closed_one {before} not none (spent list goes all) = not_none before list goes none
  closed_one {before} not none (cut list goes left wanting) = not_none before list goes none
  closed_one {before} not none (level list goes fits more) = not_none before list goes none

  spent_one : {before ys : List Entry} {e : PlainEnd} (list : List Instance) → GoesOn task before list
      → calls ≤ asks_of before → IsPlainRun task answers calls before ys e → Same [] ys plain.limit_calls e
  spent_one list goes all (solved can) = absurd (goes.unsolvable can)
  spent_one {before} list goes all (too_many not many) = not_many before list goes many
  spent_one {before} list goes all (closed not none) = not_none before list goes none
  spent_one list goes all (spent other again more) = (refl, refl)
  spent_one list goes all (cut other again left wanting) = absurd (omega (arith, all, left))
  spent_one list goes all (level other again fits more) = absurd (omega (arith, all, fits, again.some))

  cut_one : {before ys : List Entry} {e : PlainEnd} (list : List Instance) → GoesOn task before list
      → asks_of before < calls → calls < asks_of before + length list → IsPlainRun task answers calls before ys e
      → Same (level_of task answers calls before list) ys plain.limit_calls e
  cut_one list goes left wanting (solved can) = absurd (goes.unsolvable can)
  cut_one {before} list goes left wanting (too_many not many) = not_many before list goes many
  cut_one {before} list goes left wanting (closed not none) = not_none before list goes none
  cut_one list goes left wanting (spent other again all) = absurd (omega (arith, all, left))
  cut_one {before} list goes left wanting (cut other again more wants) =
      (ap (level_of task answers calls before) (lists_once before list other goes again), refl)
  cut_one {before} list goes left wanting (level other again fits more) =
      absurd (omega (arith, wanting, fits, ap length (lists_once before list other goes again)))

  -- ---- runs

  one : {before xs ys : List Entry} {d e : PlainEnd} → IsPlainRun task answers calls before xs d
      → IsPlainRun task answers calls before ys e → Same xs ys d e
  one (solved can) other = solved_one can other
  one (too_many not many) other = many_one not many other
  one (closed not none) other = closed_one not none other
  one (spent list goes all) other = spent_one list goes all other
  one (cut list goes left wanting) other = cut_one list goes left wanting other
  one (level list goes fits more) other = level_one list goes fits (λ ys e later. one more later) other
    where
      level_one : {before rest ys : List Entry} {d e : PlainEnd} (list : List Instance) → GoesOn task before list
          → asks_of before + length list ≤ calls
          → ((zs : List Entry) (f : PlainEnd) → IsPlainRun task answers calls (before ++ level_of task answers calls before list) zs f
          → Same rest zs d f)
          → IsPlainRun task answers calls before ys e → Same (level_of task answers calls before list ++ rest) ys d e
      level_one list goes fits later (solved can) = absurd (goes.unsolvable can)
      level_one {before} list goes fits later (too_many not many) = not_many before list goes many
      level_one {before} list goes fits later (closed not none) = not_none before list goes none
      level_one list goes fits later (spent other again all) = absurd (omega (arith, all, fits, goes.some))
      level_one {before} list goes fits later (cut other again left wanting) =
          absurd (omega (arith, fits, wanting, ap length (lists_once before list other goes again)))
      level_one {before} {rest} {ys} {d} {e} list goes fits later (level {rest = more} other again fit run) =
          let same = lists_once before list other goes again in
          let behind =
          later more e
          (subst (λ is. IsPlainRun task answers calls (before ++ level_of task answers calls before is) more e) (sym same) run)
          in
          (λ i. level_of task answers calls before (same i) ++ behind.0 i, behind.1)

pub runs_once : (task : Task) (answers : Answers) (calls : ℕ) (xs ys : List Entry) (d e : PlainEnd)
    → IsPlainRun task answers calls [] xs d → IsPlainRun task answers calls [] ys e → (xs ≡ ys) × (d ≡ e)
runs_once task answers calls xs ys d e first second = one task answers calls first second

-- two runs that are as plain runs over one table say the same, and end so
pub as_one : (task : Task) (answers : Answers) (calls : ℕ) (xs ys : List Entry) (o p : Outcome)
    → IsAsPlain task answers calls xs o → IsAsPlain task answers calls ys p
    → SaysSame xs ys × (known_of task xs ≡ known_of task ys) × (end_of o ≡ end_of p)
as_one task answers calls xs ys o p a b =
    let one = runs_once task answers calls a.plain b.plain a.end b.end a.run b.run in (
      record {
        asks = a.same.asks ∙ ap (filter is_ask) one.0 ∙ sym b.same.asks;
        answers = a.same.answers ∙ ap (filter is_answer) one.0 ∙ sym b.same.answers;
        levels = a.same.levels ∙ ap (count_by is_level) one.0 ∙ sym b.same.levels;
      },
      a.known ∙ ap (known_of task) one.0 ∙ sym b.known,
      a.ends ∙ ap Some one.1 ∙ sym b.ends,
    )
