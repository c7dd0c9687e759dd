-- A run between two turns.
use Rattle.std.proofs.Common.{◌≡◌, List, [], ◌++◌, true, false, refl, sym, subst, inl, inr}
use Rattle.turn_laws.proofs.LazyLemmas.{lazy_first}
use Rattle.turn_laws.proofs.LazyTurnsLemmas.{turn_lazy}
use Rattle.turn_laws.proofs.ModesLemmas.{lead_more, lead_then, leads_between, of_mode}
use Rattle.turn_laws.specs.Lazy.{IsLazy, IsLazyEnd, IsTurnNeeded}
use Rattle.turn_laws.specs.Modes.{Leaves, TurnOf, none_left, nothing_kept}
use Rattle.task_model.specs.declared.task.Task.{Task}
use Rattle.transcript_model.specs.Legal.{HasNoneOpen, IsLegal}
use Rattle.transcript_model.specs.Rounds.{limits_of}
use Rattle.transcript_model.specs.Turns.{AreTurnsOf, Kept, MayBegin, after_cut, between, cut_off}
use Rattle.transcript_model.specs.declared.entry.Entry.{Entry}
use Rattle.transcript_model.specs.declared.head.Head.{Head}
use Rattle.transcript_model.specs.declared.outcome.LimitKind.TheVariants.{Calls}
use Rattle.transcript_model.specs.declared.outcome.Outcome.{Outcome}
use Rattle.transcript_model.specs.declared.outcome.Outcome.TheVariants as outcome
use Rattle.turn_run.specs.Reports.{IsRun}
use Rattle.turn_run.specs.Turns.{HasShortDreams, IsSettledEnd, IsSure}

-- whole turns so far, none of which was needless
pub record Standing (head : Head) (task : Task) (kept : Kept) (entries : List Entry) : Type 0 where
  pub whole : Leaves (limits_of head) task entries kept
  pub lazy : IsLazy (limits_of head) task entries

pub standing_first : (head : Head) (task : Task) → Standing head task nothing_kept []
standing_first head task = record { whole = none_left; lazy = lazy_first (limits_of head) task }

pub standing_next : (head : Head) (task : Task) (kept next : Kept) (before after now : List Entry)
    → MayBegin (limits_of head) task before → IsTurnNeeded (limits_of head) task before → after ≡ before ++ now
    → TurnOf head.mode (limits_of head) task kept before now next false
    → Standing head task kept before → Standing head task next after
standing_next head task kept next before after now may needed pushed turn st =
    subst (Standing head task next) (sym pushed) (record {
      whole = lead_more (limits_of head) task nothing_kept kept [] before now next st.whole may turn;
      lazy = turn_lazy (limits_of head) task kept before now next false st.lazy needed turn;
    })

-- an outcome between two turns
pub run_at : (head : Head) (task : Task) (kept : Kept) (entries : List Entry) (o : Outcome)
    → IsLegal head.version task entries → HasNoneOpen entries
    → HasShortDreams head.states entries → IsSettledEnd head task entries o → Standing head task kept entries → IsRun task head entries o
run_at head task kept entries o legal closed short settled st = record {
  stage = between;
  legal = legal;
  turns = of_mode head.mode (limits_of head) task entries between
      (leads_between (limits_of head) task nothing_kept kept [] entries st.whole);
  lazy = st.lazy;
  short = short;
  end = settled.end;
  few = settled.few;
  stands = inl refl;
  closed = closed;
  sure = settled.sure;
}

-- the limit of calls after a turn that was cut
pub run_cut : (head : Head) (task : Task) (kept next : Kept) (before after now : List Entry)
    → MayBegin (limits_of head) task before → IsTurnNeeded (limits_of head) task before → after ≡ before ++ now
    → TurnOf head.mode (limits_of head) task kept before now next true → IsLegal head.version task after → HasNoneOpen after
    → HasShortDreams head.states after → IsSure head task after (outcome.Limit Calls) → Standing head task kept before
    → IsRun task head after (outcome.Limit Calls)
run_cut head task kept next before after now may needed pushed turn legal closed short sure st = record {
  stage = after_cut;
  legal = legal;
  turns = subst (λ es. AreTurnsOf head.mode (limits_of head) task es after_cut) (sym pushed)
      (of_mode head.mode (limits_of head) task (before ++ now) after_cut
      (lead_then (limits_of head) task nothing_kept kept [] before now after_cut st.whole (cut_off next may turn)));
  lazy = subst (IsLazy (limits_of head) task) (sym pushed)
      (turn_lazy (limits_of head) task kept before now next true st.lazy needed turn);
  short = short;
  end = no_end;
  few = λ calls at. absurd (let bad : after_cut ≡ between = at in cc);
  stands = inr (refl, refl);
  closed = closed;
  sure = sure;
}
  where
    no_end : IsLazyEnd (limits_of head) task after after_cut (outcome.Limit Calls)
    no_end (inl bad) = absurd (cc)
    no_end (inr bad) = absurd (let no : after_cut ≡ between = bad.1 in cc)
