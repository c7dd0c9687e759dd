-- Runs of the program of whose only child the same talk is told.
use Rattle.std.proofs.Common.{◌≡◌, ℕ, ◌≤◌, List, length, Some, refl, sym, ap, subst, ◌∙◌}
use Rattle.laws.proofs.GridProgramLemmas.{program_runs}
use Rattle.io_world.specs.Talks.{Talk}
use Rattle.turn_run.specs.Reports.{IsRun}
use Rattle.turn_run.specs.Turns.{HasFewSteps, HasShortDreams, IsPast}
use Rattle.turn_laws.specs.Lazy.{IsLazy, IsLazyEnd}
use Rattle.command_files.specs.Outside.{Outside}
use Rattle.run_command.specs.Runs.{HasOutcome}
use Rattle.command_files.specs.declared.status.Status.{Status}
use Rattle.round_run.specs.Dialogue.{Dialogue, workers_in}
use Rattle.task_model.specs.Plans.{IsReached, MoreThan}
use Rattle.task_model.specs.declared.task.Task.{Task}
use Rattle.laws.proofs.SpelledRunLemmas.{one_spelled}
use Rattle.laws.specs.Spelled.{AreAlike, AsksOneChild, HasTold, IsSpelledRun, OneTalkOneRun}
use Rattle.transcript_model.specs.Legal.{IsLegal}
use Rattle.transcript_model.specs.Outcomes.{IsTrueOutcome}
use Rattle.transcript_model.specs.Rounds.{Limits, limits_of}
use Rattle.transcript_model.specs.Transcript.{known_of}
use Rattle.transcript_model.specs.Turns.{AreTurnsOf}
use Rattle.transcript_model.specs.declared.entry.Entry.{Entry}
use Rattle.transcript_model.specs.declared.head.Head.{Head}
use Rattle.transcript_model.specs.declared.outcome.Outcome.{Outcome}
use Rattle.transcript_model.specs.declared.outcome.Outcome.TheVariants as outcome

-- ---- a run with another head that is alike

few_steps : (head other : Head) (o : Outcome) → other.states ≡ head.states → HasFewSteps other o → HasFewSteps head o
few_steps head other (outcome.Plan steps cost from) same few = subst (λ n. length steps ≤ n) same few
few_steps head other outcome.NoPlan same few = few
few_steps head other (outcome.Limit kind) same few = few

run_alike : (task : Task) (head other : Head) (entries : List Entry) (o : Outcome) → limits_of other ≡ limits_of head
    → other.optimal ≡ head.optimal → IsRun task other entries o → IsRun task head entries o
run_alike task head other entries o same alike run =
    let sure = run.sure in
    record {
      stage = run.stage;
      legal = subst (λ (l : Limits). IsLegal l.version task entries) same run.legal;
      turns = subst (λ (l : Limits). AreTurnsOf l.mode l task entries run.stage) same run.turns;
      lazy = subst (λ l. IsLazy l task entries) same run.lazy;
      short = subst (λ (l : Limits). HasShortDreams l.states entries) same run.short;
      end = subst (λ l. IsLazyEnd l task entries run.stage o) same run.end;
      few = run.few;
      stands = run.stands;
      closed = run.closed;
      sure = record {
        holds = subst (λ l. IsTrueOutcome l task entries o) same sure.holds;
        least = λ asked. sure.least (alike ∙ asked);
        past = λ is.
            subst (λ optimal. IsPast optimal task (known_of task entries) head.states) alike
            (subst (λ (l : Limits). IsPast other.optimal task (known_of task entries) l.states) same (sure.past is));
        within = λ is. subst (λ (l : Limits). ¬ (MoreThan l.states (IsReached task (known_of task entries)))) same (sure.within is);
        room = sure.room;
        short = few_steps head other o (ap (λ (l : Limits). l.states) same) sure.short;
      };
    }

-- ---- what its talk spells

-- The run, as one with this head, is a run with one worker, of which the talk is told.
spelled : {words : List (List ℕ)} {outside : Outside} {status : Status} {text : List ℕ} (child : ℕ) (talk : Talk)
    (has : HasOutcome words outside status text) (head : Head) → AreAlike head has.run.head → (asks : AsksOneChild head child)
    → HasTold has child talk
    → IsSpelledRun has.run.task head asks.pool talk has.run.entries has.outcome outside.spoken
spelled {words} {outside} child talk has head alike asks told =
    let run = has.run in
    let limits : limits_of run.head ≡ limits_of head = sym alike.limits in
    record {
      mode = asks.mode;
      pools = asks.pools;
      one = asks.alone;
      run = run_alike run.task head run.head run.entries has.outcome limits (sym alike.optimal) has.turns;
      talks =
          subst (λ ps. Dialogue run.task head.version ps run.entries outside.spoken) (sym alike.workers)
          (subst (λ (l : Limits). Dialogue run.task l.version (workers_in run.head) run.entries outside.spoken) limits has.talks);
      told = subst (λ c. outside.spoken c ≡ Some talk) (sym asks.first) told.told;
      begun = told.begun;
    }

pub one_talk : OneTalkOneRun
one_talk words others outside after status end text line child talk first second same alike asks told again =
    let head = first.run.head in
    one_spelled first.run.task head asks.pool talk first.run.entries second.run.entries first.outcome second.outcome outside.spoken
    after.spoken first.run.fit (program_runs first.run).fit.pools
    (spelled child talk first head (record { limits = refl; optimal = refl; workers = refl }) asks told)
    (subst (λ t. IsSpelledRun t head asks.pool talk second.run.entries second.outcome after.spoken) (sym same)
    (spelled child talk second head alike asks again))
