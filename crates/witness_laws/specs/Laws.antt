-- Laws of the first worked task. Each is a clause of a public function of `laws.rt`.
use Rattle.task_reader.specs.Tasks.{SpellsTask}
use Rattle.transcript_model.specs.Tables.{IsBounded}
use Rattle.witness_laws.specs.Fetch.{fetch, fetch_answers}
use Rattle.witness_laws.specs.Texts.{fetch_domain_text, fetch_problem_text, fetch_streams_text}

-- The three texts spell the task.
abbrev pub FirstTaskIsSpelled : Type 0
FirstTaskIsSpelled = SpellsTask fetch_domain_text fetch_problem_text fetch_streams_text fetch

-- Every transcript of the task that agrees with its table has at most two requests, and over what it knows at most
-- eight states are reached.
abbrev pub FirstTaskIsBounded : Type 0
FirstTaskIsBounded = IsBounded 1 fetch fetch_answers 2 8
