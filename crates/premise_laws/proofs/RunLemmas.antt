-- The run of the first worked task, whose dialogue was said.
use Rattle.std.proofs.Common.{◌≡◌, zero, suc, inl, inr, Bool, true, false, [], ◌∷◌, codes, length, refl, sym, ap, ◌∙◌, arith, lit<, Some}
use Rattle.std.proofs.lemmas.Bool.{false≢true}
use Rattle.std.proofs.lemmas.List.Elements.{All-cons, All-nil}
use Rattle.std.proofs.lemmas.Option.{same_Some}
use Rattle.std.specs.declared.alloc.Global.{Global}
use Rattle.io_world.specs.Talks.{silence, spelled}
use Rattle.lemmas.proofs.Options.{none_at}
use Rattle.turn_run.specs.Reports.{IsRun}
use Rattle.turn_run.specs.Turns.{HasShortDreams, IsShortDream, IsSure}
use Rattle.turn_laws.specs.Lazy.{IsFewDue, IsLazy, IsLazyEnd, begins}
use Rattle.run_command.specs.Heads.{IsHeadOf}
use Rattle.run_command.specs.Runs.{ProgramRun}
use Rattle.run_command.specs.Works.{solving}
use Rattle.task_model.specs.Fit.{IsFit}
use Rattle.task_reader.proofs.FitTask.{spelled_tasks_fit}
use Rattle.transcript_model.specs.Legal.{asks_of}
use Rattle.transcript_model.specs.Turns.{between}
use Rattle.transcript_model.specs.declared.entry.Entry.TheVariants as entry
use Rattle.transcript_model.specs.declared.head.Head.{Head}
use Rattle.transcript_model.specs.declared.head.Mode.TheVariants.{Incremental}
use Rattle.transcript_model.specs.declared.outcome.Outcome.{Outcome}
use Rattle.transcript_model.specs.declared.outcome.Outcome.TheVariants as outcome
use Rattle.witness_laws.proofs.LevelLemmas.{first_run}
use Rattle.witness_laws.proofs.SpelledLemmas.{first_task_spelled}
use Rattle.witness_laws.specs.Fetch.{fetch, grip_cup}
use Rattle.witness_laws.specs.Level.{cup_entries, cup_limits, cup_origins, cup_plan}
use Rattle.witness_laws.specs.Texts.{fetch_domain_text, fetch_problem_text, fetch_streams_text}
use Rattle.premise_laws.proofs.EntriesLemmas.{cup_agrees, cup_talks}
use Rattle.premise_laws.proofs.GivenLemmas.{cup_asked, cup_meant}
use Rattle.premise_laws.proofs.PoolLemmas.{cup_pools}
use Rattle.premise_laws.proofs.TalkLemmas.{speaks}
use Rattle.premise_laws.proofs.WellLemmas.{cup_served, domain_short, problem_short, streams_short, task_told}
use Rattle.premise_laws.specs.Laws.{HasFirstRun}
use Rattle.premise_laws.specs.Run.{cup_events, cup_files, cup_words}

abbrev cup_head : Global → Head
cup_head g = record {
  version = 1;
  mode = Incremental;
  calls = 10000;
  states = 100000;
  depth = 3;
  optimal = false;
  pools = cup_pools g;
}

cup_headed : (g : Global) → IsHeadOf (Some cup_files) cup_asked fetch (cup_head g)
cup_headed g = record {
  version = refl;
  mode = refl;
  calls = refl;
  states = refl;
  depth = refl;
  optimal = refl;
  pools = cup_served g;
}

cup_fit : IsFit fetch
cup_fit =
    spelled_tasks_fit fetch_domain_text fetch_problem_text fetch_streams_text fetch domain_short problem_short
    streams_short first_task_spelled

abbrev cup_run : Global → ProgramRun cup_words (Some cup_files)
cup_run g = record {
  work = solving cup_asked;
  meant = cup_meant;
  task = fetch;
  spelled = task_told;
  fit = cup_fit;
  head = cup_head g;
  headed = cup_headed g;
  entries = cup_entries;
  legal = first_run.legal;
}

abbrev cup_outcome : Outcome
cup_outcome = outcome.Plan cup_plan 2 cup_origins

-- only the level begins a turn
cup_lazy : IsLazy cup_limits fetch cup_entries
cup_lazy zero e at b = inl first_run.needed
cup_lazy (suc zero) e at b =
    absurd (false≢true (ap (begins Incremental) (same_Some (entry.Ask 1 0 grip_cup) e at) ∙ b))
cup_lazy (suc (suc zero)) e at b =
    absurd (false≢true (ap (begins Incremental) (same_Some (entry.Got 1 1 (codes "left" ∷ [])) e at) ∙ b))
cup_lazy (suc (suc (suc k))) e at b = absurd (none_at k e at)

-- it has no dreams
cup_short : HasShortDreams 100000 cup_entries
cup_short =
    All-cons (IsShortDream 100000) entry.Level (entry.Ask 1 0 grip_cup ∷ entry.Got 1 1 (codes "left" ∷ []) ∷ []) tt
    (All-cons (IsShortDream 100000) (entry.Ask 1 0 grip_cup) (entry.Got 1 1 (codes "left" ∷ []) ∷ []) tt
    (All-cons (IsShortDream 100000) (entry.Got 1 1 (codes "left" ∷ [])) [] tt (All-nil (IsShortDream 100000))))

abbrev is_plan : Outcome → Bool
is_plan (outcome.Plan steps cost from) = true
is_plan outcome.NoPlan = false
is_plan (outcome.Limit kind) = false

-- a plan is no limit
cup_end : IsLazyEnd cup_limits fetch cup_entries between cup_outcome
cup_end (inl e) = absurd (false≢true (sym (ap is_plan e)))
cup_end (inr both) = absurd (false≢true (sym (ap is_plan both.0)))

cup_few : IsFewDue fetch cup_entries between cup_outcome
cup_few e s = absurd (false≢true (sym (ap is_plan e)))

cup_sure : (g : Global) → IsSure (cup_head g) fetch cup_entries cup_outcome
cup_sure g = record {
  holds = first_run.plan;
  least = λ e. absurd (false≢true e);
  past = λ e. absurd (false≢true (sym (ap is_plan e)));
  within = λ e. absurd (false≢true (sym (ap is_plan e)));
  room = lit< tt;
  short = let n : length cup_plan ≡ 2 = refl in omega (arith, n);
}

cup_whole : (g : Global) → IsRun fetch (cup_head g) cup_entries cup_outcome
cup_whole g = record {
  stage = between;
  legal = first_run.legal;
  turns = first_run.turns;
  lazy = cup_lazy;
  short = cup_short;
  end = cup_end;
  few = cup_few;
  stands = inl refl;
  closed = first_run.closed;
  sure = cup_sure g;
}

pub run_there : Global → HasFirstRun
run_there g = record {
  run = cup_run g;
  whole = cup_whole g;
  asked = let n : asks_of cup_entries ≡ 1 = refl in omega (arith, n);
  talks = cup_talks;
  answered = λ child some. (spelled child silence cup_events, refl, speaks child);
  agrees = record { legal = first_run.legal; by = cup_agrees };
}
