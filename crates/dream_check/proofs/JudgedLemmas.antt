-- Whether no plan rests on what is supposed, from what is reached over the list.
use Rattle.std.proofs.Common.{◌≡◌, ℕ, ◌≤◌, ◌⊎◌, arith, inl, inr, Bool, true, false, List, length, sym, ap, subst, ◌∙◌, Option, None, Some}
use Rattle.turn_laws.proofs.DreamListLemmas.{more_come, supposed_once}
use Rattle.dreaming.specs.Parts.{IsListed}
use Rattle.optimistic_set.specs.Dreamable.{Dreamable}
use Rattle.task_model.specs.Dreams as dreams
use Rattle.task_model.specs.Dreams.{HasNoDream, supposing}
use Rattle.task_model.specs.Known.{Known}
use Rattle.task_model.specs.Plans.{IsReached, IsSolvable, MoreThan}
use Rattle.task_model.specs.declared.stream.Instance.{Instance}
use Rattle.task_model.specs.declared.task.Task.{Task}
use Rattle.transcript_model.specs.Dreaming.{AreSupposedAfter, HasNoDreamAfter, MoreAreSupposed}
use Rattle.transcript_model.specs.Rounds.{Limits}
use Rattle.transcript_model.specs.Transcript.{known_of, notes_of}
use Rattle.transcript_model.specs.declared.entry.Entry.{Entry}
use Rattle.dream_check.specs.Judged.{IsNoneJudged, IsNoneOver, IsUndecided, IsUndecidedNone}

module _ (limits : Limits) (limit : ℕ) (task : Task) (before : List Entry) (tried : List Instance) where
  -- too many entries are supposed
  pub too_many_none : MoreAreSupposed 20000 task (known_of task before) (notes_of task before) tried limits.depth
      → IsNoneJudged limits task before tried limit (Some true)
  too_many_none more = (
    inl more,
    λ u.
        let many = more_come task (known_of task before) (notes_of task before) tried 20000 limits.depth u.list more u.supposed in
        let few = u.few in omega (arith, many, few),
  )

  module _ (list : List dreams.SupposedEntry) (few : length list ≤ 20000) (so : AreSupposedAfter limits task before tried list) where
    abbrev over : List dreams.SupposedEntry → Known
    over es = supposing task (known_of task before) es es

    once : (other : List dreams.SupposedEntry) → AreSupposedAfter limits task before tried other → other ≡ list
    once other also = supposed_once task (known_of task before) (notes_of task before) tried limits.depth other list also so

    decided : ¬ (IsUndecided task (over list) limits.states limit) → ¬ (IsUndecidedNone limits task before tried limit)
    decided not u =
        not (u.below, subst (λ es. MoreThan limit (IsReached task (over es))) (once u.list u.supposed) u.many)

    none_so : ¬ (IsSolvable task (over list)) ⊎ MoreThan limits.states (IsReached task (over list))
        → HasNoDream task (known_of task before) list limits.states
    none_so (inl none) = inl none
    none_so (inr many) = inr (inr many)

    -- a plan exists, and the states are all searched
    some_so : IsSolvable task (over list) → ¬ (MoreThan limits.states (IsReached task (over list)))
        → ¬ (HasNoDreamAfter limits task before tried)
    some_so plan not (inl more) =
        let many = more_come task (known_of task before) (notes_of task before) tried 20000 limits.depth list more so in
        omega (arith, many, few)
    some_so plan not (inr (other, also, inl none)) =
        none (subst (λ es. IsSolvable task (over es)) (sym (once other also)) plan)
    some_so plan not (inr (other, also, inr (inl long))) =
        omega (arith, long, few, ap length (once other also))
    some_so plan not (inr (other, also, inr (inr many))) =
        not (subst (λ es. MoreThan limits.states (IsReached task (over es))) (once other also) many)

    judged : (x : Option Bool) → IsNoneOver task (over list) limits.states limit x
        → IsNoneJudged limits task before tried limit x
    judged (Some true) (none, not) = (inr (list, so, none_so none), decided not)
    judged (Some false) (plan, most, not) = (some_so plan most, decided not)
    judged None (below, many) = record { list = list; supposed = so; few = few; below = below; many = many }

  -- what is said over the list is said after the transcript
  pub none_judged : (d : Dreamable) → IsListed task d → d.base ≡ known_of task before
      → AreSupposedAfter limits task before tried d.list → (x : Option Bool)
      → IsNoneOver task d.known limits.states limit x → IsNoneJudged limits task before tried limit x
  none_judged d h base so x said =
      judged d.list h.plain.few so x
      (subst (λ k. IsNoneOver task k limits.states limit x) (h.known ∙ ap (λ k. supposing task k d.list d.list) base) said)
