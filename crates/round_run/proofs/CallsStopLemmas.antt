-- The calls of a run that stops.
use Rattle.std.proofs.Common.{◌≡◌, arith, List, [], ◌++◌, Option, Some, None, sym, subst, ap, ◌∙◌, append_assoc}
use Rattle.std.proofs.lemmas.List.{append-nil}
use Rattle.std.proofs.lemmas.List.Elements.{All-append}
use Rattle.io_world.specs.Talks.{Event}
use Rattle.task_model.specs.declared.task.Task.{Task}
use Rattle.transcript_model.specs.Legal.{asks_of}
use Rattle.transcript_model.specs.declared.entry.Entry.{Entry}
use Rattle.transcript_model.specs.declared.head.Head.{Head}
use Rattle.round_run.specs.Calls.{IsStop, LogRan, LogRuns, LogStops, Runs, starts_before}

-- ---- with stops

pub ran_of : (task : Task) (head : Head) (entries : List Entry) (old new : Option (List Event))
    → Runs task head [] entries old new
    → LogRan task head entries old new
ran_of task head entries old new runs =
    by new (subst (λ es. LogRuns task head [] es old new) (sym runs.pushed) runs.log)
  where
    by : (log : Option (List Event)) → LogRuns task head [] entries old log
        → LogRan task head entries old log
    by None l = tt
    by (Some after) (past, events, was, came, follows) = (
      past,
      events,
      [],
      was,
      came ∙ sym (append-nil (past ++ starts_before head.pools 0 (asks_of entries) ++ events)),
      follows,
      λ k d below. absurd (omega (arith, below)),
    )

pub ran_stopped : (task : Task) (head : Head) (entries : List Entry) (old mid new : Option (List Event))
    → LogRan task head entries old mid
    → LogStops mid new → LogRan task head entries old new
ran_stopped task head entries old mid None ran stops = tt
ran_stopped task head entries old None (Some after) ran (more, each, (before, is, grown)) =
    absurd (cc)
ran_stopped task head entries old (Some now) (Some after) (past, events, stops, was, came, follows, all) (more, each, (before, is, grown)) =
    let same : now ≡ before = cc in (
      past,
      events,
      stops ++ more,
      was,
      grown ∙ ap (λ es. es ++ more) (sym same ∙ came)
          ∙ append_assoc (past ++ starts_before head.pools 0 (asks_of entries) ++ events) stops more,
      follows,
      All-append IsStop stops more all each,
    )
