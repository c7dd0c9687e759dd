-- Fronts of levels, of what follows a `none`, of turns and of runs: what was written could have gone on.
use Rattle.std.proofs.Common.{List, [], ◌++◌, sym, subst, append_assoc, inl, inr}
use Rattle.task_model.specs.declared.task.Task.{Task}
use Rattle.transcript_model.specs.Legal.{IsLegal}
use Rattle.transcript_model.specs.Rounds.{limits_of}
use Rattle.transcript_model.specs.Turns.{AreTurnsOf, Kept, MayBegin, between, inside, stopped}
use Rattle.transcript_model.specs.declared.entry.Entry.{Entry}
use Rattle.transcript_model.specs.declared.head.Head.{Head}
use Rattle.turn_run.proofs.TurnsLemmas.{Standing}
use Rattle.turn_run.specs.Advancing.{IsFrontOfTurn}
use Rattle.turn_run.specs.Turns.{IsFrontOfRun}
use Rattle.turn_laws.proofs.LazyLemmas.{lazy_front}
use Rattle.turn_laws.proofs.LazyTurnsLemmas.{turn_lazy}
use Rattle.turn_laws.proofs.ModesLemmas.{lead_then, leads_between, of_mode}
use Rattle.turn_laws.specs.Lazy.{IsLazy, IsTurnNeeded}
use Rattle.turn_laws.specs.Modes.{nothing_kept}

-- ---- runs

-- whole turns
pub run_between : (head : Head) (task : Task) (kept : Kept) (entries : List Entry) → Standing head task kept entries
    → IsLegal head.version task entries → IsFrontOfRun head task entries
run_between head task kept entries st legal = record {
  stage = between;
  turns = record {
    legal = legal;
    turns = of_mode head.mode (limits_of head) task entries between
        (leads_between (limits_of head) task nothing_kept kept [] entries st.whole);
  };
  lazy = st.lazy;
}

-- a front of a turn behind whole turns
pub run_inside : (head : Head) (task : Task) (kept : Kept) (before es : List Entry) → MayBegin (limits_of head) task before
    → IsTurnNeeded (limits_of head) task before → Standing head task kept before
    → IsLegal head.version task es → IsFrontOfTurn task head kept before es → IsFrontOfRun head task es
run_inside head task kept before es may needed st legal (inl is) =
    run_between head task kept es (subst (Standing head task kept) (sym is) st) legal
run_inside head task kept before es may needed st legal (inr f) =
    let next = f.whole.0 in
    let cut = f.whole.1 in
    let turn = f.whole.2 in
    let lazy = turn_lazy (limits_of head) task kept before (f.part ++ f.rest) next cut st.lazy needed turn in
    record {
      stage = inside;
      turns = record {
        legal = legal;
        turns = subst (λ xs. AreTurnsOf head.mode (limits_of head) task xs inside) (sym f.is)
            (of_mode head.mode (limits_of head) task (before ++ f.part) inside
            (lead_then (limits_of head) task nothing_kept kept [] before f.part inside st.whole
            (stopped next f.rest cut may turn)));
      };
      lazy = subst (IsLazy (limits_of head) task) (sym f.is)
          (lazy_front (limits_of head) task (before ++ f.part) f.rest
          (subst (IsLazy (limits_of head) task) (sym (append_assoc before f.part f.rest)) lazy));
    }
