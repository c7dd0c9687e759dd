-- The report of a run has the stated forms.
use Rattle.std.proofs.Common.{◌≡◌, ℕ, zero, suc, ◌<◌, ◌≤◌, ◌⊎◌, inl, inr, List, [], length, take, All, refl, sym, ◌∙◌, Some, slice_get, arith, ap}
use Rattle.std.proofs.lemmas.List.{length-map}
use Rattle.std.proofs.lemmas.List.Elements.{All-contains, All-map, All-weaker}
use Rattle.turn_run.specs.Reports.{IsRun, report_of}
use Rattle.turn_run.specs.Turns.{IsShortDream}
use Rattle.turn_laws.proofs.ModeCountsLemmas.{turn_keeps, turns_keep}
use Rattle.turn_laws.proofs.ModesLemmas.{as_family}
use Rattle.turn_laws.specs.Modes.{TurnOf, nothing_kept}
use Rattle.lemmas.proofs.Members.{member_at}
use Rattle.lemmas.proofs.ListTests.{all_by_place}
use Rattle.table_runs.proofs.AgreeLemmas.{asks_front}
use Rattle.task_model.specs.Fit.{IsFit}
use Rattle.task_model.specs.declared.task.Task.{Task}
use Rattle.report_text.specs.Forms.{IsFormed, IsFormedEntry, IsFormedPool, IsName}
use Rattle.transcript_model.specs.Rounds.{Limits, limits_of}
use Rattle.report_text.specs.Texts.{shown_pool}
use Rattle.gen_lines.specs.Request.{stream_name}
use Rattle.transcript_model.specs.Turns.{AreTurns}
use Rattle.transcript_model.specs.declared.entry.Entry.{Entry}
use Rattle.transcript_model.specs.declared.entry.Entry.TheVariants as entry
use Rattle.transcript_model.specs.declared.head.Head.{Head}
use Rattle.transcript_model.specs.declared.head.Pool.{Pool}
use Rattle.transcript_model.specs.declared.outcome.Outcome.{Outcome}
use Rattle.laws.proofs.RunFormedOutcomeLemmas.{outcome_formed}
use Rattle.laws.proofs.RunFormedEntryLemmas.{AreFew, entry_formed}
use Rattle.laws.proofs.RunStreamNameLemmas.{name_there}
use Rattle.laws.proofs.RunFormedDreamLemmas.{dream_formed}
use Rattle.laws.proofs.RunTurnMarkLemmas.{AreRight, IsRightMark, turns_right}
use Rattle.laws.specs.Reports.{IsHeadOfReports, TextsNameRuns}
use Rattle.laws.proofs.RunSkeletonLemmas.{none_carried}
use Rattle.transcript_model.proofs.LegalPrefixLemmas.{legal_take}
use Rattle.turn_run.proofs.ReportsLemmas.{whole_is}
use Rattle.turn_run.proofs.TabledLemmas.{resting}
use Rattle.report_text.proofs.LineTextLemmas.{lines_read, read_lines}
use Rattle.report_text.proofs.FormsLemmas.{report_clear, report_lines, report_text}
use Rattle.report_text.proofs.ReportsReadBack.{lines_determine}
use Rattle.transcript_model.specs.declared.report.Report.{Report}

module _ (task : Task) (head : Head) (entries : List Entry) (o : Outcome) (fit : IsFit task)
    (can : IsHeadOfReports task head) (run : IsRun task head entries o) where
  abbrev limits : Limits
  limits = limits_of head

  turns : AreTurns limits task (TurnOf head.mode limits task) nothing_kept [] entries run.stage
  turns = as_family head.mode limits task entries run.stage run.turns

  right : AreRight head.mode limits task [] entries
  right =
      turns_right limits task fit head.mode nothing_kept [] entries run.stage run.legal none_carried turns
      (resting run.stage o run.stands)

  few : AreFew entries
  few =
      let asks = turns_keep limits task (TurnOf head.mode limits task)
      (turn_keeps limits task head.mode) nothing_kept []
      entries run.stage turns (omega arith) in
      let calls = can.runnable.fit.calls in
      record { asks = omega (arith, asks, calls); answers = omega (arith, asks, calls, right.answers) }

  one_formed : (k : ℕ) (e : Entry) → slice_get entries k ≡ Some e → IsRightMark head.mode limits task (take k entries) e
      → IsFormedEntry head.version e
  one_formed k (entry.Dream uses steps) at (other, tried, dreamt, dream) =
      dream_formed limits task fit (take k entries)
      (legal_take head.version task entries k run.legal) tried uses steps dreamt dream
      (let few : length steps ≤ head.states =
      All-contains (IsShortDream head.states) entries (entry.Dream uses steps) run.short
      (member_at entries k (entry.Dream uses steps) at) in
      omega (arith, few, can.runnable.few_states))
  one_formed k (entry.Pick number) at (other, few_asks) = omega (arith, few_asks, asks_front entries k, few.asks)
  one_formed k (entry.Retire number) at (other, few_asks) = omega (arith, few_asks, asks_front entries k, few.asks)
  one_formed k entry.Nothing at mark = tt
  one_formed k entry.Reset at mark = tt
  one_formed k e at mark = entry_formed head.version task fit entries run.legal few k e at refl

  entries_formed : All (IsFormedEntry head.version) entries
  entries_formed =
      all_by_place (IsFormedEntry head.version) entries (λ k e at. one_formed k e at (right.marks k e at))

  pool_formed : (k : ℕ) (p : Pool) → slice_get head.pools k ≡ Some p
      → IsFormedPool (shown_pool task p)
  pool_formed k p at =
      let there = member_at head.pools k p at in
      let workers = All-contains (λ (q : Pool). q.workers ≤ 16) head.pools p can.pools.few there in
      let some = All-contains (λ (q : Pool). 0 < length q.streams) head.pools p can.pools.some there in
      let are = All-contains (λ (q : Pool). All (λ stream. stream < length task.streams) q.streams) head.pools p
      can.runnable.streams there
      in
      record {
        workers = omega (arith, workers);
        some = omega (arith, some, length-map p.streams (stream_name task));
        streams = All-map IsName (stream_name task) p.streams
            (All-weaker (λ stream. stream < length task.streams)
            (λ stream. IsName (stream_name task stream))
            (λ stream below. name_there task fit stream below) p.streams are);
      }

  versions : (head.version ≡ 1) ⊎ (head.version ≡ 2)
  versions = by head.version can.runnable.fit.some_version can.runnable.fit.version
    where
      by : (n : ℕ) → 1 ≤ n → n ≤ 2 → (n ≡ 1) ⊎ (n ≡ 2)
      by zero low high = absurd (omega (arith, low))
      by (suc zero) low high = inl refl
      by (suc (suc n)) low high = inr (omega (arith, high))

  pub formed : IsFormed (report_of task head entries o)
  formed = record {
    version = versions;
    calls = omega (arith, can.runnable.fit.calls);
    states = omega (arith, can.runnable.few_states);
    depth = omega (arith, can.depth);
    pools = All-map IsFormedPool (shown_pool task) head.pools
        (all_by_place (λ (p : Pool). IsFormedPool (shown_pool task p)) head.pools pool_formed);
    entries = entries_formed;
    outcome = outcome_formed head.version task fit entries run.legal few
        (limits_of head) refl o run.sure.holds run.sure.room
        head run.sure.short can.runnable.few_states;
  }

-- ---- what a text names

-- reports that are the same have the same transcript and the same outcome
pub named_by_text : TextsNameRuns
named_by_text first second head other entries others o p fit can run fit_second can_second run_second same =
    let one = report_of first head entries o in
    let two = report_of second other others p in
    let here = formed first head entries o fit can run in
    let there = formed second other others p fit_second can_second run_second in
    let texts = sym (whole_is first head entries o) ∙ same ∙ whole_is second other others p in
    let are : one ≡ two =
    lines_determine one two here there (sym (lines_read (report_lines one) (report_clear one here))
    ∙ ap read_lines (sym (report_text one) ∙ texts ∙ report_text two)
    ∙ lines_read (report_lines two) (report_clear two there)) in
    (ap (λ (r : Report). r.entries) are, ap (λ (r : Report). r.outcome) are)
