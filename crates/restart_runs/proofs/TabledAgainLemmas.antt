-- What a run comes to whose children are started again, and speak by some answers in each of their lives.
use Rattle.std.proofs.Common.{◌≡◌, ◌≤◌, List, [], ◌++◌, Option, Some, None, arith, ap, subst, sym, ◌∙◌, append_assoc}
use Rattle.std.proofs.lemmas.List.{append_cancel_left}
use Rattle.io_world.specs.Talks.{Event, silence, spelled}
use Rattle.turn_laws.proofs.ModeCountsLemmas.{turn_keeps, turns_keep}
use Rattle.turn_laws.proofs.ModesLemmas.{as_family}
use Rattle.turn_laws.specs.Modes.{TurnOf, nothing_kept}
use Rattle.turn_laws.proofs.PlainOneLemmas.{as_one}
use Rattle.turn_laws.proofs.OwnLemmas.{own_agrees}
use Rattle.turn_laws.proofs.PlainSettledLemmas.{settled}
use Rattle.turn_laws.proofs.PlainTurnsLemmas.{as_plain}
use Rattle.turn_laws.specs.Answered.{IsAnsweredRun}
use Rattle.turn_laws.specs.Own.{own_rows}
use Rattle.restart_runs.specs.Again.{LogRanAgain}
use Rattle.restart_runs.proofs.AgainLemmas.{again_agrees}
use Rattle.restart_runs.proofs.SameLemmas.{same_runs}
use Rattle.restart_runs.specs.Laws.{RestartsChangeNothing, RestartsDoNotMatter}
use Rattle.restart_runs.specs.Tabled.{AnsweredAgain, IsAgainRun, IsTabledAgain, SpeakAgain}
use Rattle.round_run.specs.Dialogue.{workers_in}
use Rattle.table_runs.proofs.AgreeLemmas.{dialogue_agrees}
use Rattle.table_runs.specs.Asking.{SpeaksBy}
use Rattle.task_model.specs.Fit.{IsFit}
use Rattle.task_model.specs.declared.task.Task.{Task}
use Rattle.transcript_model.specs.Legal.{IsLegal, asks_of}
use Rattle.transcript_model.specs.Plain.{IsAsPlain}
use Rattle.transcript_model.specs.Rounds.{Limits, limits_of}
use Rattle.transcript_model.specs.Tables.{AgreesWith, Answers, reply_in}
use Rattle.transcript_model.specs.Turns.{AreTurnsOf, Stage}
use Rattle.transcript_model.specs.declared.entry.Entry.{Entry}
use Rattle.transcript_model.specs.declared.head.Head.{Head}
use Rattle.transcript_model.specs.declared.head.Mode.TheVariants.{Incremental}
use Rattle.transcript_model.specs.declared.limits.TheConstants.{MOST_CALLS}
use Rattle.transcript_model.specs.declared.outcome.LimitKind.TheVariants.{States}
use Rattle.transcript_model.specs.declared.outcome.Outcome.{Outcome}
use Rattle.transcript_model.specs.declared.outcome.Outcome.TheVariants as outcome

-- turns keep to the limit of calls
pub asks_kept : (task : Task) (head : Head) (entries : List Entry) (stage : Stage)
    → AreTurnsOf head.mode (limits_of head) task entries stage → asks_of entries ≤ head.calls
asks_kept task head entries stage turns =
    turns_keep (limits_of head) task (TurnOf head.mode (limits_of head) task) (turn_keeps (limits_of head) task head.mode)
    nothing_kept [] entries stage (as_family head.mode (limits_of head) task entries stage turns) (omega arith)

-- Where the log is told, children that speak so in each of their lives did at each moment of the calls of the entries.
agreed : (task : Task) (head : Head) (answers : Answers) (entries : List Entry) (old new : Option (List Event)) → IsFit task
    → IsLegal head.version task entries → asks_of entries ≤ MOST_CALLS → LogRanAgain task head entries old new
    → AnsweredAgain head.version task answers old new
    → AgreesWith head.version task answers entries
agreed task head answers entries old None fit legal few ran by = absurd (cc (by.3))
agreed task head answers entries old (Some after) fit legal few ran by =
    let past = ran.0 in
    let starts = ran.1 in
    let events = ran.2 in
    let stops = ran.3 in
    let same : past ≡ by.0 = cc (ran.4, by.2) in
    let told : after ≡ by.0 ++ by.1 = cc (by.3) in
    let both : past ++ by.1 ≡ past ++ (starts ++ (events ++ stops)) =
    ap (λ list. list ++ by.1) same ∙ sym told ∙ ran.6 ∙ append_assoc (past ++ starts) events stops
    ∙ append_assoc past starts (events ++ stops) in
    let cut : by.1 ≡ starts ++ (events ++ stops) = append_cancel_left past by.1 (starts ++ (events ++ stops)) both in
    let speak : SpeakAgain head.version task answers (past ++ starts) events =
    λ child front later is.
    subst (λ list. SpeaksBy head.version task answers (spelled child silence list))
    (ap (λ list. list ++ (starts ++ front)) (sym same) ∙ sym (append_assoc past starts front))
    (by.4 child (starts ++ front) (later ++ stops)
    (cut ∙ ap (λ list. starts ++ (list ++ stops)) is ∙ ap (λ list. starts ++ list) (append_assoc front later stops)
    ∙ sym (append_assoc starts front (later ++ stops)))) in
    again_agrees task head answers entries (past ++ starts) events fit legal few ran.7 speak

module _ (task : Task) (head : Head) (entries : List Entry) (stage : Stage) (o : Outcome) (old new : Option (List Event))
    (fit : IsFit task) (few : head.calls ≤ MOST_CALLS) (run : IsAgainRun task head entries stage o old new) where
  abbrev limits : Limits
  limits = limits_of head

  calls_kept : asks_of entries ≤ head.calls
  calls_kept = asks_kept task head entries stage run.turns

  pub agrees : (answers : Answers) → AnsweredAgain head.version task answers old new
      → AgreesWith head.version task answers entries
  agrees answers by =
      agreed task head answers entries old new fit run.legal (omega (arith, calls_kept, few)) run.calls by

  pub answered_again : (answers : Answers) → AgreesWith head.version task answers entries → head.mode ≡ Incremental
      → IsAnsweredRun limits task answers entries stage o
  answered_again answers agrees_so mode = record {
    mode = mode;
    agrees = agrees_so;
    turns = subst (λ m. AreTurnsOf m limits task entries stage) mode run.turns;
    lazy = run.lazy;
    stands = run.stands;
    claim = run.claim;
    end = run.end;
    few = run.few;
  }

  -- over answers with which its transcript agrees the run is as the plain one
  plain_over : (answers : Answers) → AgreesWith head.version task answers entries → head.mode ≡ Incremental
      → ¬ (o ≡ outcome.Limit States) → IsAsPlain task answers head.calls entries o
  plain_over answers agrees_so mode known_end =
      as_plain limits task fit answers entries stage o (answered_again answers agrees_so mode) known_end

  pub tabled_again : IsTabledAgain task head entries old new o
  tabled_again = record {
    plain = λ answers by. plain_over answers (agrees answers by);
    own = plain_over (reply_in (own_rows entries)) (own_agrees head.version task entries fit run.legal);
    settled = λ answers by bounded. settled limits task answers entries fit (agrees answers by) run.closed bounded few o run.claim;
  }

-- two runs over one table are as one plain run
pub restarts_matter_not : RestartsDoNotMatter
restarts_matter_not task head other answers xs ys old new spoken o p incremental likewise calls first second said heard end_xs
    end_ys =
    as_one task answers head.calls xs ys o p (first.plain answers said incremental end_xs)
    (subst (λ n. IsAsPlain task answers n ys p) (sym calls) (second.plain answers heard likewise end_ys))

-- where the transcripts agree with one table, they are one
pub restarts_change : RestartsChangeNothing
restarts_change task head answers xs ys s t old new spoken o p fit few mode first second said heard end_xs end_ys =
    same_runs (limits_of head) task answers xs ys s t o p fit
    (answered_again task head xs s o old new fit few first answers (agrees task head xs s o old new fit few first answers said) mode)
    (record {
      mode = mode;
      agrees = talked;
      turns = subst (λ m. AreTurnsOf m (limits_of head) task ys t) mode second.turns;
      lazy = second.lazy;
      stands = second.stands;
      claim = second.claim;
      end = second.end;
      few = second.few;
    }) end_xs end_ys
  where
    kept : asks_of ys ≤ head.calls
    kept = asks_kept task head ys t second.turns

    talked : AgreesWith head.version task answers ys
    talked =
        dialogue_agrees head.version task (workers_in head) ys fit second.legal (omega (arith, kept, few)) answers spoken
        second.served second.talks heard
