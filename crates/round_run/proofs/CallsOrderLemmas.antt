-- What the calls of a round say: all its requests are written before its first answer is read.
use Rattle.std.proofs.Common.{◌≡◌, ℕ, suc, true, List, [], ◌∷◌, ◌++◌, refl, sym, subst, ap, ◌∙◌, append_assoc}
use Rattle.std.specs.List.{All}
use Rattle.std.proofs.lemmas.List.Elements.{All-append, All-nil}
use Rattle.io_world.specs.Talks.{Event, IsGiven, IsTaken}
use Rattle.transcript_model.specs.Legal.{is_answer}
use Rattle.pools.specs.Pools.{Workers}
use Rattle.task_model.specs.declared.task.Task.{Task}
use Rattle.transcript_model.specs.declared.entry.Entry.{Entry}
use Rattle.transcript_model.specs.declared.entry.Entry.TheVariants as entry
use Rattle.round_run.proofs.DialogueRequestLemmas.{AreAsks, AreReplies}
use Rattle.round_run.specs.Calls.{AreCallsOf, Follows, Hearing}

-- a write that was taken, or a read that gave bytes
abbrev IsWrite : Event → Type 0
IsWrite e = (child : ℕ) × IsTaken child e

abbrev IsRead : Event → Type 0
IsRead e = (child : ℕ) × IsGiven child e

of_child : (P : ℕ → Event → Type 0) (child : ℕ) (events : List Event) → All (P child) events
    → All (λ e. (c : ℕ) × P c e) events
of_child P child events all k d below = (child, all k d below)

module _ (task : Task) (pools : List Workers) where
  reads_of : (past : List Event) (before : List Entry) (events : List Event)
      → Hearing task pools past before events → All IsRead events
  reads_of past before events h = of_child IsGiven h.request.child events h.reads.each

  read_calls : (past : List Event) (before : List Entry) (e : Entry) (events : List Event)
      → is_answer e ≡ true
      → AreCallsOf task pools past before e events → All IsRead events
  read_calls past before (entry.Got number tuples values) events is calls =
      reads_of past before events calls
  read_calls past before (entry.Value number value) events is calls =
      reads_of past before events calls
  read_calls past before (entry.End number) events is calls = reads_of past before events calls
  read_calls past before e events is calls = absurd (cc)

  answers_read : (past : List Event) (before answers : List Entry) (events : List Event)
      → AreReplies answers
      → Follows task pools past before answers events → All IsRead events
  answers_read past before [] events each is = subst (All IsRead) (sym is) (All-nil IsRead)
  answers_read past before (e ∷ es) events each (now, later, cut, calls, follows) =
      subst (All IsRead) (sym cut) (All-append IsRead now later (read_calls past before e now (each 0 e refl) calls)
      (answers_read (past ++ now) (before ++ e ∷ []) es later (λ k x at. each (suc k) x at) follows))

  -- the calls of requests and of answers behind them are writes, and then reads
  pub written_first : (past : List Event) (before asks answers : List Entry) (events : List Event)
      → AreAsks asks → AreReplies answers
      → Follows task pools past before (asks ++ answers) events
      → (writes : List Event) × (reads : List Event) × (events ≡ writes ++ reads) × All IsWrite writes × All IsRead reads
  written_first past before [] answers events each replies follows =
      ([], events, refl, All-nil IsWrite, answers_read past before answers events replies follows)
  written_first past before (entry.Ask number turn call ∷ asks) answers events each replies (now, later, cut, calls, follows) =
      let rest = written_first (past ++ now) (before ++ entry.Ask number turn call ∷ []) asks answers later
      (λ k x at. each (suc k) x at) replies follows in (
        now ++ rest.0,
        rest.1,
        cut ∙ ap (λ es. now ++ es) rest.2 ∙ sym (append_assoc now rest.0 rest.1),
        All-append IsWrite now rest.0 (of_child IsTaken _ now calls.each) rest.3,
        rest.4,
      )
  written_first past before (e ∷ asks) answers events each replies follows =
      absurd (let bad = each 0 e refl in cc)
