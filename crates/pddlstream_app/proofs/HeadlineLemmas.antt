-- The headline of a run, from how it ends.
use Rattle.std.proofs.Common.{◌≡◌, ◌∙◌, inl, inr, ℕ, List, Bool, true, false, ap, refl, subst, sym}
use Rattle.std.specs.Io.KnownBytes.{Appends}
use Rattle.turn_run.specs.Reports as reports
use Rattle.round_run.specs.declared.fault.RunFault.TheVariants as fault
use Rattle.transcript_model.specs.declared.outcome.Outcome.{Outcome}
use Rattle.transcript_model.specs.declared.outcome.Outcome.TheVariants as outcome
use Rattle.pddlstream_app.proofs.RunsLemmas.{taken_all}
use Rattle.pddlstream_app.proofs.SaidLemmas.{answer_said, is_said}
use Rattle.pddlstream_app.specs.Headline.{PrintsNoPlan, PrintsPlan}
use Rattle.command_files.specs.Outside.{Outside, Written}
use Rattle.pddlstream_app.specs.Runs.{Ends, RunWrites}
use Rattle.run_command.specs.Runs.{HasOutcome, ProgramRun, outcome_status, shown_text}
use Rattle.command_files.specs.Stop.{status_at}
use Rattle.command_files.specs.declared.status.Status.{Status}
use Rattle.command_files.specs.declared.status.Status.TheVariants.{NoPlan, Plan}
use Rattle.command_files.specs.declared.stop.Stop.{Stop}
use Rattle.command_files.specs.declared.stop.Stop.TheVariants as stop

-- a plan was found, or that there is none
abbrev is_found : Status → Bool
is_found Plan = true
is_found NoPlan = true
is_found status = false

said_not_found : (status : Status) → is_said status ≡ true → is_found status ≡ false
said_not_found Plan e = absurd (cc)
said_not_found NoPlan e = absurd (cc)
said_not_found status e = refl

stop_not_found : (why : Stop) → is_found (status_at why) ≡ false
stop_not_found stop.Usage = refl
stop_not_found (stop.Input which kind place) = refl
stop_not_found (stop.Map why) = refl
stop_not_found (stop.Grid kind line) = refl
stop_not_found (stop.Failed which) = refl
stop_not_found (stop.TooLong which) = refl
stop_not_found (stop.Run (fault.Answer number why)) = refl
stop_not_found (stop.Run fault.Generator) = refl
stop_not_found (stop.Run fault.Write) = refl
stop_not_found (stop.Run fault.Memory) = refl

not_both : (a b : Status) → a ≡ b → is_found a ≡ false → is_found b ≡ true → ⊥
not_both a b same lost found =
    let both : false ≡ true = sym lost ∙ ap is_found same ∙ found in absurd (cc)

module _ (words : List (List ℕ)) (outside : Outside) (written : Written) where
  -- the outcome that the run printed
  abbrev Printed : ProgramRun words outside.files.told → Outcome → Type 0
  Printed run o = Appends written.before written.after (shown_text run.work run.task run.head run.entries o)

  plan_from : (o : Outcome) → outcome_status o ≡ Plan → (run : ProgramRun words outside.files.told)
      → reports.IsRun run.task run.head run.entries o
      → Printed run o → PrintsPlan words outside.files.told written
  plan_from (outcome.Plan calls cost from) kind run turns took =
      let plan = turns.sure.holds in
      record {
        run = run;
        steps = plan.steps;
        calls = calls;
        cost = cost;
        from = from;
        shown = plan.shown;
        valid = plan.valid;
        origins = plan.origins;
        least = turns.sure.least;
        took = took;
      }
  plan_from outcome.NoPlan kind run turns took = absurd (cc)
  plan_from (outcome.Limit limit) kind run turns took = absurd (cc)

  no_plan_from : (o : Outcome) → outcome_status o ≡ NoPlan → (run : ProgramRun words outside.files.told)
      → reports.IsRun run.task run.head run.entries o
      → Printed run o → PrintsNoPlan words outside.files.told written
  no_plan_from outcome.NoPlan kind run turns took =
      let none = turns.sure.holds in
      record { run = run; closed = none.closed; unsolvable = none.unsolvable; took = took }
  no_plan_from (outcome.Plan calls cost from) kind run turns took = absurd (cc)
  no_plan_from (outcome.Limit limit) kind run turns took = absurd (cc)

  -- what is written then is a run's outcome
  outcome_in : (status : Status) (text : List ℕ) → is_found status ≡ true
      → RunWrites words outside status text → HasOutcome words outside status text
  outcome_in status text found (inl h) = h
  outcome_in status text found (inr (inl h)) =
      absurd (not_both status status refl (said_not_found status (answer_said words outside status text h)) found)
  outcome_in status text found (inr (inr h)) =
      absurd (not_both (status_at h.stop) status h.kind (stop_not_found h.stop) found)

  module _ (Same : Type 0) (status : Status) (ends : Ends words outside Same written status) where
    pub plan_printed : status ≡ Plan → PrintsPlan words outside.files.told written
    plan_printed is =
        let all = taken_all words outside Same written Plan refl (subst (Ends words outside Same written) is ends) in
        let has = outcome_in Plan all.text refl all.writes in
        plan_from has.outcome has.kind has.run has.turns (subst (Appends written.before written.after) has.is all.took)

    pub no_plan_printed : status ≡ NoPlan → PrintsNoPlan words outside.files.told written
    no_plan_printed is =
        let all = taken_all words outside Same written NoPlan refl (subst (Ends words outside Same written) is ends) in
        let has = outcome_in NoPlan all.text refl all.writes in
        no_plan_from has.outcome has.kind has.run has.turns (subst (Appends written.before written.after) has.is all.took)
