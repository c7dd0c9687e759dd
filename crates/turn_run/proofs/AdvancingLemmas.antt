-- Turns, one after another.
use Rattle.std.proofs.Common.{◌≡◌, ℕ, ◌+◌, ◌-◌, ◌*◌, ◌<◌, ◌≤◌, arith, Bool, count_by, length, List, [], Option, sym, subst, ap, ◌∙◌, inl, inr, ◌⊎◌}
use Rattle.io_world.specs.Talks.{Event, Talk}
use Rattle.session_core.specs.State.{State}
use Rattle.task_model.specs.declared.task.Task.{Task}
use Rattle.transcript_model.specs.Legal.{asks_of, is_level}
use Rattle.transcript_model.specs.declared.head.Head.{Head}
use Rattle.transcript_model.specs.declared.outcome.Outcome.{Outcome}
use Rattle.round_run.specs.TurnLines.{Advances, HasTurnLine}
use Rattle.turn_run.specs.Advancing.{Falls, RanTurns}
use Rattle.turn_run.specs.Reports.{IsRun}
use Rattle.round_run.proofs.TalkingLemmas.{dialogue_told, told_of}
use Rattle.round_run.specs.Batches.{AreStarted}
use Rattle.round_run.specs.Dialogue.{workers_in}
use Rattle.round_run.specs.Held.{Held}
use Rattle.round_run.specs.Resting.{Rests}
use Rattle.round_run.specs.Talking.{held_of}

-- the run ends here
pub ran_turns : (task : Task) (head : Head) (s : State) (held : Held) (running : ℕ → Bool) (spoken : ℕ → Option Talk)
    (was now : Option (List Event)) (o : Outcome)
    → IsRun task head s.entries o → count_by is_level s.entries ≤ length s.asked → Rests task head s held running spoken
    → Advances task head [] s.entries was now → RanTurns task head s spoken was now o
ran_turns task head s held running spoken was now o run levels rests order =
    let works = rests.works in
    record {
      run = run;
      levels = levels;
      asks = works.listens.session.counted;
      talks = dialogue_told task head.version (workers_in head) s.entries (length s.asked) running (held_of held) spoken
          works.listens.session.counted (subst (λ ps. AreStarted ps (length s.asked) running) works.of.pools rests.started)
          (told_of head s works.of task s.entries running (held_of held) spoken works.listens.told);
      untouched = λ none.
          order.untouched (ap asks_of (sym order.runs.pushed) ∙ sym works.listens.session.counted ∙ none);
      needed = subst (λ es. (now ≡ was) ⊎ HasTurnLine head.mode es) (sym order.runs.pushed) order.needed;
    }

-- the measure of the loop over turns
pub measure_falls : (calls asked idle asked_now idle_now : ℕ) → Falls asked idle asked_now idle_now → asked_now ≤ calls
    → calls ≤ 100000 → idle_now ≤ 2 * asked_now + 1
    → (calls - asked_now) * 200002 + idle_now < (calls - asked) * 200002 + idle
measure_falls calls asked idle asked_now idle_now (inl more) within few room = omega (arith, more, within, few, room)
measure_falls calls asked idle asked_now idle_now (inr (same, less)) within few room = omega (arith, same, less, within)
