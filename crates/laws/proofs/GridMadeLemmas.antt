-- Runs of `generate` whose children answer by the grid.
use Rattle.std.proofs.Common.{◌≡◌, ℕ, List, ◌++◌, codes, Option, Some, count_by, refl, sym, ap, subst, ◌∙◌}
use Rattle.std.specs.Fmt.{decimal}
use Rattle.command_line.specs.Words.{command_of, generate}
use Rattle.command_line.specs.declared.number.TheConstants.{DEFAULT_CALLS}
use Rattle.laws.proofs.GridOtherLemmas.{other_plain}
use Rattle.laws.proofs.GridStreamLemmas.{made_have_streams}
use Rattle.laws.proofs.GridTalkLemmas.{grid_talks}
use Rattle.laws.specs.Grid.{HasGridStreams}
use Rattle.grid_play.specs.Replies.{grid_replies}
use Rattle.laws.specs.GridLaws.{GridRunsArePlain, GridsAnswerMadeRuns}
use Rattle.laws.specs.GridRuns.{end_word}
use Rattle.grid_text.specs.Tasks.{grid_task}
use Rattle.grid_world.specs.Sessions.{talk_of}
use Rattle.turn_laws.proofs.PlainSaidLemmas.{knows_same}
use Rattle.run_command.specs.Heads.{IsHeadOf}
use Rattle.command_files.specs.Inputs.{IsTaskOf}
use Rattle.run_command.specs.Runs.{ProgramRun, shown_text}
use Rattle.run_command.specs.Works.{Work, command_for, files_of, made_files, made_line, made_words, making, outcome_word, solving, words_of_work}
use Rattle.io_world.specs.FileMap.{FileMap}
use Rattle.table_runs.specs.Asking.{SpeaksBy}
use Rattle.task_model.specs.declared.task.Task.{Task}
use Rattle.task_reader.specs.Texts.{SpellsStreams}
use Rattle.transcript_model.specs.Legal.{asks_of, is_level}
use Rattle.transcript_model.specs.Plain.{IsAsPlain, PlainEnd, end_of, limit_calls, limit_instances, no_plan, plan}
use Rattle.transcript_model.specs.declared.entry.Entry.{Entry}
use Rattle.transcript_model.specs.declared.head.Head.{Head}
use Rattle.transcript_model.specs.declared.head.Mode.TheVariants.{Incremental}
use Rattle.transcript_model.specs.declared.outcome.LimitKind.TheVariants as limit
use Rattle.transcript_model.specs.declared.outcome.Outcome.{Outcome}
use Rattle.transcript_model.specs.declared.outcome.Outcome.TheVariants as outcome

-- ---- what words that name a number mean

work_by : (work : Work) (n : ℕ) → command_for work ≡ generate n → work ≡ making n
work_by (solving w) n e = absurd (cc)
work_by (making m) n e = let same : m ≡ n = cc in ap making same

pub work_is : {words : List (List ℕ)} {told : Option FileMap} (run : ProgramRun words told) (n : ℕ)
    → command_of words ≡ Some (generate n) → run.work ≡ making n
work_is {words} run n meant =
    let both : Some (command_for run.work) ≡ Some (generate n) = sym run.meant ∙ meant in
    let same : command_for run.work ≡ generate n = cc in
    work_by run.work n same

-- ---- the made task

module _ {words : List (List ℕ)} {told : Option FileMap} (run : ProgramRun words told) (n : ℕ)
    (meant : command_of words ≡ Some (generate n)) where
  pub spelled_as : IsTaskOf (Some (made_files n)) made_words.files run.task
  spelled_as = subst (λ w. IsTaskOf (files_of told w) (words_of_work w).files run.task) (work_is run n meant) run.spelled

  pub headed_as : IsHeadOf (Some (made_files n)) made_words run.task run.head
  headed_as = subst (λ w. IsHeadOf (files_of told w) (words_of_work w) run.task run.head) (work_is run n meant) run.headed

streams_spelled : (n : ℕ) (task : Task) → IsTaskOf (Some (made_files n)) made_words.files task
    → SpellsStreams task.domain (grid_task n).streams task.streams
streams_spelled n task is =
    let held : Some (grid_task n).streams ≡ Some is.streams = is.are.1.1.0.held in
    let same : (grid_task n).streams ≡ is.streams = cc in
    subst (λ bytes. SpellsStreams task.domain bytes task.streams) (sym same) is.spelled.streams

-- ---- children that are the grid's generator

-- what is so of a run of the words that name the number
pub record IsMadeRun (task : Task) (head : Head) : Type 0 where
  pub streams : HasGridStreams task
  pub version : head.version ≡ 1
  pub mode : head.mode ≡ Incremental
  pub calls : head.calls ≡ DEFAULT_CALLS

pub made_run : {words : List (List ℕ)} {told : Option FileMap} (run : ProgramRun words told) (n : ℕ)
    → command_of words ≡ Some (generate n) → IsMadeRun run.task run.head
made_run run n meant =
    let h = headed_as run n meant in
    record {
      streams = made_have_streams n run.task (streams_spelled n run.task (spelled_as run n meant));
      version = h.version;
      mode = h.mode;
      calls = h.calls;
    }

pub grids_answer : GridsAnswerMadeRuns
grids_answer words outside status text n grid meant has read talks child asked =
    let made = made_run has.run n meant in
    let t = talks child asked in
    let same : t.0.grid ≡ grid = t.1.says ∙ sym read.says in
    let speaks = grid_talks has.run.task (grid_task n).grid t.0 made.streams t.1 in (
      talk_of (Some t.0),
      t.2,
      subst (λ v. SpeaksBy v has.run.task (grid_replies grid) (talk_of (Some t.0))) (sym made.version)
          (subst (λ g. SpeaksBy 1 has.run.task (grid_replies g) (talk_of (Some t.0))) same speaks),
    )

-- ---- what is printed

-- the word for an outcome is that for the plain run's end
same_word : (o : Outcome) (end : PlainEnd) → end_of o ≡ Some end → outcome_word o ≡ end_word end
same_word (outcome.Plan steps cost from) end e = let same : plan ≡ end = cc in ap end_word same
same_word outcome.NoPlan end e = let same : no_plan ≡ end = cc in ap end_word same
same_word (outcome.Limit limit.Calls) end e = let same : limit_calls ≡ end = cc in ap end_word same
same_word (outcome.Limit limit.Instances) end e = let same : limit_instances ≡ end = cc in ap end_word same
same_word (outcome.Limit limit.States) end e = absurd (cc)

same_line : (n : ℕ) (o : Outcome) (levels asks more others : ℕ) (end : PlainEnd) → outcome_word o ≡ end_word end → levels ≡ more
    → asks ≡ others
    → made_line n o levels asks
    ≡ codes "generate " ++ decimal n ++ codes " " ++ end_word end ++ codes " levels " ++ decimal more ++ codes " asks "
    ++ decimal others ++ codes "\n"
same_line n o levels asks more others end word l a = rw (word, l, a) refl

shown_made : (work : Work) (n : ℕ) (task : Task) (head : Head) (entries : List Entry) (o : Outcome) → work ≡ making n
    → shown_text work task head entries o ≡ made_line n o (count_by is_level entries) (asks_of entries)
shown_made work n task head entries o is = ap (λ w. shown_text w task head entries o) is

pub made_plain : GridRunsArePlain
made_plain words outside status text n grid answers meant has spoken same known_end =
    let made = made_run has.run n meant in
    let by_grid = has.tabled.plain (grid_replies grid) spoken made.mode known_end in
    let counted : IsAsPlain has.run.task (grid_replies grid) DEFAULT_CALLS has.run.entries has.outcome =
    subst (λ calls. IsAsPlain has.run.task (grid_replies grid) calls has.run.entries has.outcome) made.calls by_grid in
    let run = other_plain (grid_replies grid) answers has.run.task DEFAULT_CALLS has.run.entries has.outcome
    (λ k turn call inside. sym (same k turn call inside)) counted in
    let asks = (knows_same has.run.task has.run.entries run.plain run.same.asks run.same.answers).asks in
    record {
      run = run;
      is =
          has.is ∙ shown_made has.run.work n has.run.task has.run.head has.run.entries has.outcome (work_is has.run n meant)
          ∙ same_line n has.outcome (count_by is_level has.run.entries) (asks_of has.run.entries) (count_by is_level run.plain)
          (asks_of run.plain) run.end (same_word has.outcome run.end run.ends) run.same.levels asks;
    }
