-- No line of a dream is wrong.
use Rattle.std.proofs.Common.{ℕ, ◌+◌, inl, inr, List, map, take, sym, ap, ◌∙◌, slice_get, Some}
use Rattle.std.proofs.lemmas.List.{take-map}
use Rattle.dream_check.specs.Lines.{IsChosen, IsWrongLine}
use Rattle.turn_laws.proofs.DreamSupportLemmas.{support_front}
use Rattle.lemmas.proofs.Members.{from_take}
use Rattle.shown_steps.proofs.PlansLemmas.{front_can, plan_can}
use Rattle.shown_steps.specs.Plans.{IsPlan}
use Rattle.task_model.specs.Dreams as dreams
use Rattle.task_model.specs.Dreams.{instances_of, supposing}
use Rattle.task_model.specs.Known.{Known}
use Rattle.task_model.specs.declared.stream.Instance.{Instance}
use Rattle.task_model.specs.declared.task.Task.{Task}
use Rattle.transcript_model.specs.Dreaming.{IsDreamAfter}
use Rattle.transcript_model.specs.Names.{call_of_instance}
use Rattle.transcript_model.specs.Rounds.{Limits}
use Rattle.transcript_model.specs.Transcript.{known_of}
use Rattle.transcript_model.specs.declared.entry.Call.{Call}
use Rattle.transcript_model.specs.declared.entry.DreamUse.{DreamUse}
use Rattle.transcript_model.specs.declared.entry.Entry.{Entry}

module _ (limits : Limits) (task : Task) (before : List Entry) (tried : List Instance) where
  -- a front of the uses names a front of the entries
  front_chosen : (uses : List DreamUse) (list entries : List dreams.SupposedEntry) → IsChosen limits task before tried uses list entries
      → (n : ℕ) → IsChosen limits task before tried (take n uses) list (take n entries)
  front_chosen uses list entries c n =
      let shown_as = call_of_instance task (supposing task (known_of task before) list list).names in
      record {
        supposed = c.supposed;
        few = c.few;
        places = take n c.places;
        ascend = λ i j a b lt at_i at_j. c.ascend i j a b lt (from_take c.places n i a at_i).1 (from_take c.places n j b at_j).1;
        chosen = sym (take-map (slice_get list) n c.places) ∙ ap (take n) c.chosen ∙ take-map Some n entries;
        support = support_front task (known_of task before) list entries n c.support;
        numbers = sym (take-map (λ (u : DreamUse). u.number) n uses) ∙ ap (take n) c.numbers
            ∙ take-map (λ place. place + 1) n c.places;
        calls = sym (take-map (λ (u : DreamUse). u.call) n uses) ∙ ap (take n) c.calls
            ∙ take-map shown_as n (instances_of entries)
            ∙ ap (map shown_as) (take-map (λ (e : dreams.SupposedEntry). e.instance) n entries);
      }

  module _ (uses : List DreamUse) (steps : List Call) (entries : List dreams.SupposedEntry)
      (x : IsDreamAfter limits task before tried uses steps entries) where
    -- what it uses is chosen
    abbrev pub choice : IsChosen limits task before tried uses x.list entries
    choice = record {
      supposed = x.supposed;
      few = x.dream.few;
      places = x.dream.places;
      ascend = x.dream.ascend;
      chosen = x.dream.chosen;
      support = x.dream.support;
      numbers = x.numbers;
      calls = x.calls;
    }

    abbrev known : Known
    known = supposing task (known_of task before) x.list entries

    plan : IsPlan task known steps x.dream.cost
    plan = record { steps = x.plan; shown = x.shown; valid = x.dream.valid }

    pub dream_lines : (offset : ℕ) → ¬ (IsWrongLine limits task before tried uses steps offset)
    dream_lines offset (inl b) =
        b.wrong (x.list, take (b.place + 1) entries, front_chosen uses x.list entries choice (b.place + 1))
    dream_lines offset (inr (inl s)) =
        s.stuck (x.list, entries, choice, front_can task known steps (s.place + 1) (plan_can task known steps x.dream.cost plan))
    dream_lines offset (inr (inr (is, none))) = none entries x
