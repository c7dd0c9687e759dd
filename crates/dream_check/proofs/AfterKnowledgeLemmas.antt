-- What is supposed by the knowledge of entries is supposed after its entries.
use Rattle.std.proofs.Common.{◌≡◌, ℕ, List, sym, subst}
use Rattle.task_model.specs.Dreams as dreams
use Rattle.task_model.specs.Dreams.{AreSupposed}
use Rattle.task_model.specs.declared.stream.Instance.{Instance}
use Rattle.task_model.specs.declared.task.Task.{Task}
use Rattle.learning.specs.Knowledge.{IsKnowledge}
use Rattle.learning.specs.declared.knowledge.Knowledge.{Knowledge}
use Rattle.transcript_model.specs.Dreaming.{AreSupposedAfter, MoreAreSupposed}
use Rattle.transcript_model.specs.Rounds.{Limits}
use Rattle.transcript_model.specs.Transcript.{known_of, notes_of}
use Rattle.transcript_model.specs.declared.entry.Entry.{Entry}

module _ (limits : Limits) (task : Task) (before : List Entry) (tried : List Instance) (l : Knowledge)
    (h : IsKnowledge limits.version task before l) (depth : ℕ) (deep : limits.depth ≡ depth) where
  pub supposed_after : (list : List dreams.SupposedEntry) → AreSupposed task l.facts.known l.queue tried depth list
      → AreSupposedAfter limits task before tried list
  supposed_after list so =
      subst (λ n. AreSupposed task (known_of task before) (notes_of task before) tried n list) (sym deep)
      (subst (λ ns. AreSupposed task (known_of task before) ns tried depth list) h.notes
      (subst (λ k. AreSupposed task k l.queue tried depth list) h.known so))

  pub more_after : MoreAreSupposed 20000 task l.facts.known l.queue tried depth
      → MoreAreSupposed 20000 task (known_of task before) (notes_of task before) tried limits.depth
  more_after more =
      subst (MoreAreSupposed 20000 task (known_of task before) (notes_of task before) tried) (sym deep)
      (subst (λ ns. MoreAreSupposed 20000 task (known_of task before) ns tried depth) h.notes
      (subst (λ k. MoreAreSupposed 20000 task k l.queue tried depth) h.known more))
