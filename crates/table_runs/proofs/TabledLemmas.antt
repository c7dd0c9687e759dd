-- What a run comes to where its children speak by some answers, as those of a table.
use Rattle.std.proofs.Common.{◌≡◌, ℕ, ◌≤◌, List, [], Option, arith, subst, sym}
use Rattle.io_world.specs.Talks.{Talk}
use Rattle.turn_laws.proofs.ModeCountsLemmas.{turn_keeps, turns_keep}
use Rattle.turn_laws.proofs.ModesLemmas.{as_family}
use Rattle.turn_laws.specs.Modes.{TurnOf, nothing_kept}
use Rattle.turn_laws.proofs.PlainOneLemmas.{as_one}
use Rattle.turn_laws.proofs.OwnLemmas.{own_agrees}
use Rattle.turn_laws.proofs.PlainSettledLemmas.{settled}
use Rattle.turn_laws.proofs.PlainTurnsLemmas.{as_plain}
use Rattle.turn_laws.specs.Own.{own_rows}
use Rattle.round_run.specs.Dialogue.{workers_in}
use Rattle.table_runs.proofs.AgreeLemmas.{dialogue_agrees}
use Rattle.table_runs.specs.Asking.{AnsweredBy}
use Rattle.table_runs.specs.Laws.{WorkersDoNotMatter}
use Rattle.table_runs.specs.Tabled.{IsTabled, IsTalkedRun}
use Rattle.task_model.specs.Fit.{IsFit}
use Rattle.task_model.specs.declared.task.Task.{Task}
use Rattle.transcript_model.specs.Legal.{asks_of}
use Rattle.transcript_model.specs.Plain.{IsAsPlain}
use Rattle.transcript_model.specs.Rounds.{Limits, limits_of}
use Rattle.transcript_model.specs.Tables.{AgreesWith, Answers, reply_in}
use Rattle.transcript_model.specs.Turns.{AreTurnsOf, Stage}
use Rattle.transcript_model.specs.declared.entry.Entry.{Entry}
use Rattle.transcript_model.specs.declared.head.Head.{Head}
use Rattle.transcript_model.specs.declared.head.Mode.TheVariants.{Incremental}
use Rattle.transcript_model.specs.declared.limits.TheConstants.{MOST_CALLS}
use Rattle.transcript_model.specs.declared.outcome.LimitKind.TheVariants.{States}
use Rattle.transcript_model.specs.declared.outcome.Outcome.{Outcome}
use Rattle.transcript_model.specs.declared.outcome.Outcome.TheVariants as outcome

module _ (task : Task) (head : Head) (entries : List Entry) (stage : Stage) (o : Outcome) (spoken : ℕ → Option Talk)
    (fit : IsFit task) (few : head.calls ≤ MOST_CALLS) (run : IsTalkedRun task head entries stage o spoken) where
  abbrev limits : Limits
  limits = limits_of head

  calls_kept : asks_of entries ≤ head.calls
  calls_kept =
      turns_keep limits task (TurnOf head.mode limits task) (turn_keeps limits task head.mode) nothing_kept [] entries stage
      (as_family head.mode limits task entries stage run.turns) (omega arith)

  agrees : (answers : Answers) → AnsweredBy head.version task (workers_in head) answers entries spoken
      → AgreesWith head.version task answers entries
  agrees answers by =
      dialogue_agrees head.version task (workers_in head) entries fit run.legal (omega (arith, calls_kept, few)) answers spoken
      run.served run.talks by

  -- over answers with which its transcript agrees the run is as the plain one
  plain_over : (answers : Answers) → AgreesWith head.version task answers entries → head.mode ≡ Incremental
      → ¬ (o ≡ outcome.Limit States) → IsAsPlain task answers head.calls entries o
  plain_over answers agrees_so mode known_end =
      as_plain limits task fit answers entries stage o (record {
        mode = mode;
        agrees = agrees_so;
        turns = subst (λ m. AreTurnsOf m limits task entries stage) mode run.turns;
        lazy = run.lazy;
        stands = run.stands;
        claim = run.claim;
        end = run.end;
        few = run.few;
      }) known_end

  pub talked_tabled : IsTabled task head entries spoken o
  talked_tabled = record {
    plain = λ answers by. plain_over answers (agrees answers by);
    own = plain_over (reply_in (own_rows entries)) (own_agrees head.version task entries fit run.legal);
    settled = λ answers by bounded. settled limits task answers entries fit (agrees answers by) run.closed bounded few o run.claim;
  }

-- two runs over one table are as one plain run
pub workers_matter_not : WorkersDoNotMatter
workers_matter_not task head other answers xs ys spoken told o p incremental likewise calls first second said heard end_xs end_ys =
    as_one task answers head.calls xs ys o p (first.plain answers said incremental end_xs)
    (subst (λ n. IsAsPlain task answers n ys p) (sym calls) (second.plain answers heard likewise end_ys))
