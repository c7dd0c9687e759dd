-- All goes well in the run.
use Rattle.std.proofs.Common.{◌≡◌, ◌≤◌, length, take, refl, subst, arith, Some}
use Rattle.std.specs.declared.alloc.Global.{Global}
use Rattle.io_world.specs.Faults.{Rose, last_count}
use Rattle.io_world.specs.Talks.{silence, spelled}
use Rattle.pddlstream_app.specs.Complete.{GoesWell, OnlyAnswers}
use Rattle.run_command.specs.Heads.{AreServed}
use Rattle.command_files.specs.Inputs.{IsTaskOf}
use Rattle.round_run.specs.Dialogue.{IsBadLine, called_stream, count_to, replies_of, requests_of, workers_in}
use Rattle.session_core.specs.Slots.{wanted_at}
use Rattle.stream_map.specs.Spelled.{is_grid_word}
use Rattle.task_reader.specs.declared.texts.TheConstants.{TEXT_BYTES}
use Rattle.witness_laws.proofs.SpelledLemmas.{first_task_spelled}
use Rattle.witness_laws.specs.Fetch.{fetch}
use Rattle.witness_laws.specs.Texts.{fetch_domain_text, fetch_problem_text, fetch_streams_text}
use Rattle.premise_laws.proofs.GivenLemmas.{cup_asked, cup_meant, task_of, version_of}
use Rattle.premise_laws.proofs.PoolLemmas.{cup_accepted, cup_pools}
use Rattle.premise_laws.proofs.TalkLemmas.{no_bad_line, wanted_is}
use Rattle.premise_laws.specs.Run.{cup_events, cup_files, cup_outside, cup_words}

-- ---- texts

pub domain_short : length fetch_domain_text ≤ TEXT_BYTES
domain_short = let n : length fetch_domain_text ≡ 335 = refl in let m : TEXT_BYTES ≡ 4194304 = refl in omega (arith, n, m)

pub problem_short : length fetch_problem_text ≤ TEXT_BYTES
problem_short = let n : length fetch_problem_text ≡ 100 = refl in let m : TEXT_BYTES ≡ 4194304 = refl in omega (arith, n, m)

pub streams_short : length fetch_streams_text ≤ TEXT_BYTES
streams_short = let n : length fetch_streams_text ≡ 109 = refl in let m : TEXT_BYTES ≡ 4194304 = refl in omega (arith, n, m)

pub task_told : IsTaskOf (Some cup_files) cup_asked.files fetch
task_told = record {
  domain = fetch_domain_text;
  problem = fetch_problem_text;
  streams = fetch_streams_text;
  are = (
    record { held = refl; short = domain_short },
    (record { held = refl; short = problem_short }, (record { held = refl; short = streams_short }, tt)),
  );
  spelled = first_task_spelled;
}

-- ---- pools

pub cup_served : (g : Global) → AreServed (Some cup_files) cup_asked fetch (cup_pools g)
unfolding is_grid_word
cup_served g = record { meant = cup_pools g; means = cup_accepted g; text = refl }

-- ---- faults

never_rose : ¬ (Rose last_count 0 0)
never_rose h = absurd (omega (arith, h))

-- what was heard is an answer, whichever run it was
only_answers : OnlyAnswers cup_words cup_outside
only_answers run number why is =
    let child = is.line.request.child in
    let call = is.line.request.call in
    let heard = (spelled child silence cup_events).heard in
    let place = count_to child (take (length (replies_of run.entries)) (requests_of run.task (workers_in run.head) run.entries)) in
    let line = subst (λ v. IsBadLine heard place (wanted_at run.task v (called_stream run.task call)) why) (version_of run) is.line.heard in
    let mine = subst (λ t. IsBadLine heard place (wanted_at t 1 (called_stream t call)) why) (task_of run) line in
    no_bad_line child place why (subst (λ w. IsBadLine heard place w why) (wanted_is call) mine)

pub goes_well : Global → GoesWell cup_words cup_outside (Rose last_count 0 0) (Rose last_count 0 0)
goes_well g = record {
  asked = cup_asked;
  meant = cup_meant;
  files = cup_files;
  are_told = refl;
  task = fetch;
  spelled = task_told;
  pools = cup_pools g;
  served = cup_served g;
  read = never_rose;
  generated = never_rose;
  written = never_rose;
  answered = only_answers;
}
