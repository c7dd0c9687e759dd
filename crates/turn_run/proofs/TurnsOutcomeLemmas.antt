-- Outcomes that are true.
use Rattle.std.proofs.Common.{◌≡◌, ℕ, ◌^◌, ◌<◌, ◌≤◌, arith, refl, List, [], length, take, sym, subst, ap, ◌∙◌, Bool, true, false, ◌+◌, Vec, Global, inl, inr}
use Rattle.std.proofs.Math.Seq.{take-length}
use Rattle.std.proofs.lemmas.List.{length-map}
use Rattle.best_first.specs.Answer.{HasPlan, IsFoundPlan, IsLimit}
use Rattle.best_first.specs.declared.found.Found.{Found}
use Rattle.best_first.specs.declared.found.Found.TheVariants as found
use Rattle.instance_queue.specs.Level.{AreDueInTurn, due_instances}
use Rattle.instance_queue.specs.declared.due.Due.{Due}
use Rattle.session_core.specs.Session.{IsLearnt, IsOf, IsSession}
use Rattle.session_core.specs.State.{State}
use Rattle.shown_plan.proofs.ShownLemmas.{valid_named, true_outcome}
use Rattle.shown_plan.specs.Shown.{AreNamedSteps, ShowsPlan}
use Rattle.task_model.specs.Known.{Known, IsCoherent}
use Rattle.task_model.specs.declared.limits.TheConstants.{MOST_DUE}
use Rattle.task_model.specs.Plans.{IsLeastCost, IsSolvable, IsValid, IsFar, IsReached, MoreThan}
use Rattle.task_model.proofs.StreamsLemmas.{nothing_due}
use Rattle.task_model.specs.Streams.{IsDue, MoreAreDue, NothingIsDue, Note}
use Rattle.task_model.specs.declared.stream.Instance.{Instance}
use Rattle.task_model.specs.declared.task.GroundAction.{GroundAction}
use Rattle.task_model.specs.declared.task.Plan.{Plan}
use Rattle.task_model.specs.declared.task.Task.{Task}
use Rattle.transcript_model.specs.Calls.{call_of_step}
use Rattle.transcript_model.specs.Legal.{IsClosed, IsLegal}
use Rattle.transcript_model.specs.Rounds.{limits_of}
use Rattle.transcript_model.specs.Transcript.{known_of, names_of, notes_of}
use Rattle.transcript_model.specs.declared.entry.Entry.{Entry}
use Rattle.transcript_model.specs.declared.head.Head.{Head}
use Rattle.transcript_model.specs.declared.head.Mode.TheVariants.{Incremental}
use Rattle.transcript_model.specs.declared.outcome.LimitKind.TheVariants.{Calls, States, Instances}
use Rattle.transcript_model.specs.declared.outcome.Outcome.{Outcome}
use Rattle.transcript_model.specs.declared.outcome.Outcome.TheVariants as outcome
use Rattle.turn_run.specs.Turns.{HasFewSteps, IsCostInRange, IsDecided, IsLeastOutcome, IsPast, IsSettledEnd, IsSure, IsTurn}
use Rattle.optimal_search.specs.Answer.{IsCheapest}
use Rattle.round_run.specs.Batches.{EndsBatch}
use Rattle.turn_laws.specs.Lazy.{IsLazyEnd, IsTurnNeeded}
use Rattle.transcript_model.specs.Turns.{between}
use Rattle.turn_run.specs.declared.decide.Decision.{Decision}
use Rattle.turn_run.specs.declared.decide.Decision.TheVariants.{Ends, Asks}
use Rattle.round_run.specs.declared.ending.Batch.{Batch}
use Rattle.round_run.specs.declared.ending.Batch.TheVariants.{Done, CallsSpent}

-- ---- past the limit of states

-- more states are reached, whatever plan is looked for
pub reached_past : (cheapest : Bool) (task : Task) (known : Known) (most : ℕ) → IsPast cheapest task known most
    → MoreThan most (IsReached task known)
reached_past false task known most far = far.reached
reached_past true task known most more = more

-- where any plan is looked for, so many also within the steps of each
pub far_past : (cheapest : Bool) (task : Task) (known : Known) (most : ℕ) → ¬ (cheapest ≡ true)
    → IsPast cheapest task known most → IsFar task known most
far_past false task known most any far = far
far_past true task known most any more = absurd (any refl)

-- where there is no plan, it is enough that more states are reached
pub past_where_none : (cheapest : Bool) (task : Task) (known : Known) (most : ℕ) → ¬ (IsSolvable task known)
    → MoreThan most (IsReached task known) → IsPast cheapest task known most
past_where_none false task known most none more =
    record { reached = more; nearer = λ steps cost valid. absurd (none (steps, cost, valid)) }
past_where_none true task known most none more = more

-- ---- outcomes between two turns

module _ (task : Task) (s : State) (works : s.failed ≡ false) (learnt : IsLearnt s) (h : IsSession task s) where
  whole : take s.learnt s.entries ≡ s.entries
  whole = ap (λ n. take n s.entries) learnt.all ∙ take-length s.entries

  pub known_is : s.known ≡ known_of task s.entries
  known_is = h.known works ∙ ap (known_of task) whole

  pub notes_are : s.notes ≡ notes_of task s.entries
  notes_are = h.notes works ∙ ap (notes_of task) whole

  -- of facts that are what the session knows
  module _ (known : Known) (is : known ≡ s.known) where
    pub all_known : known ≡ known_of task s.entries
    all_known = is ∙ known_is

    pub names_known : known.names ≡ names_of task s.entries
    names_known = ap (λ (k : Known). k.names) all_known

    pub valid_there : (steps : List GroundAction) (cost : ℕ) → IsValid task (known_of task s.entries) steps cost
        → IsValid task known steps cost
    valid_there steps cost valid = subst (λ k. IsValid task k steps cost) (sym all_known) valid

    pub steps_named : IsCoherent known → (steps : List GroundAction) (cost : ℕ)
        → IsValid task known steps cost
        → AreNamedSteps task (names_of task s.entries) steps
    steps_named coherent steps cost valid =
        subst (λ ns. AreNamedSteps task ns steps) names_known (valid_named task known coherent steps cost valid)

    pub unsolvable_there : ¬ (IsSolvable task known) → ¬ (IsSolvable task (known_of task s.entries))
    unsolvable_there none solvable = none (subst (IsSolvable task) (sym all_known) solvable)

    pub few_there : (limit : ℕ) → ¬ (MoreThan limit (IsReached task known))
        → ¬ (MoreThan limit (IsReached task (known_of task s.entries)))
    few_there limit none more =
        none (subst (λ k. MoreThan limit (IsReached task k)) (sym all_known) more)

    module _ (head : Head) (of : IsOf head s) where
      pub legal_head : IsLegal head.version task s.entries
      legal_head = subst (λ v. IsLegal v task s.entries) of.version h.legal

      plan_sure : (steps : List GroundAction) (cost : ℕ) (o : Outcome)
          → ShowsPlan head.version task s.entries steps cost o → IsValid task known steps cost → length steps ≤ head.states
          → (head.optimal ≡ true → IsLeastCost task (known_of task s.entries) cost) → cost < 2 ^ 64
          → IsSure head task s.entries o
      plan_sure steps cost o shows valid few least small = record {
        holds = true_outcome (limits_of head) task s.entries steps cost o shows
            (subst (λ k. IsValid task k steps cost) all_known valid);
        least = λ asked. subst (IsLeastOutcome task s.entries) (sym shows.is) (least asked);
        past = λ e. let both = sym e ∙ shows.is in absurd (cc);
        within = λ e. let both = sym e ∙ shows.is in absurd (cc);
        room = subst IsCostInRange (sym shows.is) small;
        short = subst (HasFewSteps head) (sym shows.is)
            (omega (arith, few, ap length shows.shown, length-map steps (call_of_step task (names_of task s.entries))));
      }

      pub plan_settled : (steps : List GroundAction) (cost : ℕ) (o : Outcome)
          → ShowsPlan head.version task s.entries steps cost o → IsValid task known steps cost → length steps ≤ head.states
          → (head.optimal ≡ true → IsLeastCost task (known_of task s.entries) cost) → cost < 2 ^ 64
          → IsSettledEnd head task s.entries o
      plan_settled steps cost o shows valid few least small = record {
        sure = plan_sure steps cost o shows valid few least small;
        end = end;
        few = λ e. let both = sym e ∙ shows.is in absurd (cc);
      }
        where
          end : IsLazyEnd (limits_of head) task s.entries between o
          end (inl e) = let both = sym e ∙ shows.is in absurd (cc)
          end (inr e) = let both = sym e.0 ∙ shows.is in absurd (cc)

  module _ (head : Head) (of : IsOf head s) where
    pub closed_there : NothingIsDue task (known_of task s.entries) (notes_of task s.entries)
        → IsClosed head.version task s.entries
    closed_there due =
        record { legal = subst (λ v. IsLegal v task s.entries) of.version h.legal; none_open = h.none_open; finished = due }

    -- in incremental mode, or where nothing is due
    pub states_settled : IsPast head.optimal task (known_of task s.entries) head.states
        → (¬ (head.mode ≡ Incremental) → IsClosed head.version task s.entries)
        → IsSettledEnd head task s.entries (outcome.Limit States)
    states_settled past closed = record {
      sure = record {
        holds = record { many = reached_past head.optimal task (known_of task s.entries) head.states past; closed = closed };
        least = λ asked. tt;
        past = λ e. past;
        within = λ e. absurd (cc);
        room = tt;
        short = tt;
      };
      end = end;
      few = λ e. absurd (cc);
    }
      where
        end : IsLazyEnd (limits_of head) task s.entries between (outcome.Limit States)
        end (inl e) = absurd (cc)
        end (inr e) = let kinds = e.0 in absurd (cc)

    pub calls_sure : length s.asked ≡ head.calls → (i : Instance)
        → IsDue task (known_of task s.entries) (notes_of task s.entries) i
        → IsSure head task s.entries (outcome.Limit Calls)
    calls_sure spent i due = record {
      holds = record { calls = sym h.counted ∙ spent; none_open = h.none_open; instance = i; due = due };
      least = λ asked. tt;
      past = λ e. absurd (cc);
      within = λ e. absurd (cc);
      room = tt;
      short = tt;
    }

    pub instances_settled : IsTurnNeeded (limits_of head) task s.entries
        → MoreAreDue MOST_DUE task (known_of task s.entries) (notes_of task s.entries)
        → IsSettledEnd head task s.entries (outcome.Limit Instances)
    instances_settled needed more = record {
      sure = record {
        holds = more;
        least = λ asked. tt;
        past = λ e. absurd (cc);
        within = λ e. absurd (cc);
        room = tt;
        short = tt;
      };
      end = λ e. needed;
      few = λ e. absurd (cc);
    }

    pub calls_settled : IsTurnNeeded (limits_of head) task s.entries → length s.asked ≡ head.calls
        → (dues : List Due) → AreDueInTurn task (known_of task s.entries) (notes_of task s.entries) dues
        → (i : Instance) → IsDue task (known_of task s.entries) (notes_of task s.entries) i
        → IsSettledEnd head task s.entries (outcome.Limit Calls)
    calls_settled needed spent dues due i is_due = record {
      sure = calls_sure spent i is_due;
      end = λ e. needed;
      few = λ e at. (due_instances dues, due.due, omega (arith, due.few, length-map dues (λ (d : Due). d.instance)));
    }

    pub no_plan_settled : ¬ (IsSolvable task (known_of task s.entries))
        → ¬ (MoreThan head.states (IsReached task (known_of task s.entries)))
        → NothingIsDue task (known_of task s.entries) (notes_of task s.entries) → IsSettledEnd head task s.entries outcome.NoPlan
    no_plan_settled none few due = record {
      sure = record {
        holds = record { closed = closed_there due; unsolvable = none };
        least = λ asked. tt;
        past = λ e. absurd (cc);
        within = λ e. few;
        room = tt;
        short = tt;
      };
      end = end;
      few = λ e. absurd (cc);
    }
      where
        end : IsLazyEnd (limits_of head) task s.entries between outcome.NoPlan
        end (inl e) = absurd (cc)
        end (inr e) = let kinds = e.0 in absurd (cc)

-- ---- the list of what is due

pub none_due : (task : Task) (known : Known) (notes : List Note) (dues : List Due)
    → AreDueInTurn task known notes dues → dues ≡ []
    → NothingIsDue task known notes
none_due task known notes dues turn empty =
    nothing_due task known notes (due_instances dues) turn.due (ap due_instances empty)

-- ---- what a search has found

pub found_plan : (task : Task) (known : Known) (limit : ℕ) (f : Found) (plan : Plan) (cost : ℕ)
    → f ≡ found.Plan plan cost
    → HasPlan task known limit f → IsFoundPlan task known limit plan.steps cost
found_plan task known limit f plan cost is has = subst (HasPlan task known limit) is has

pub found_least : (task : Task) (known : Known) (f : Found) (plan : Plan) (cost : ℕ) → f ≡ found.Plan plan cost
    → IsCheapest task known f → IsLeastCost task known cost
found_least task known f plan cost is least = subst (IsCheapest task known) is least

pub found_limit : (cheapest : Bool) (task : Task) (known : Known) (limit : ℕ) (f : Found) → f ≡ found.Limit
    → (IsLimit f → IsPast cheapest task known limit) → IsPast cheapest task known limit
found_limit cheapest task known limit f is past = past (subst IsLimit (sym is) tt)

-- ---- what was decided

pub decided_outcome : (head : Head) (task : Task) (entries : List Entry) (asks : ℕ) (d : Decision) (o : Outcome)
    → d ≡ Ends o
    → IsDecided head task entries asks d → IsSettledEnd head task entries o
decided_outcome head task entries asks d o is h = subst (IsDecided head task entries asks) is h

pub decided_dues : (head : Head) (task : Task) (entries : List Entry) (asks : ℕ) (d : Decision) (dues : Vec Due Global)
    → d ≡ Asks dues
    → IsDecided head task entries asks d → IsTurn head task entries asks dues.items
decided_dues head task entries asks d dues is h = subst (IsDecided head task entries asks) is h

-- ---- how a level ends

pub spent_sure : (head : Head) (task : Task) (s : State) (before many : ℕ) (b : Batch)
    → s.failed ≡ false → IsLearnt s → IsSession task s
    → IsOf head s → b ≡ CallsSpent → EndsBatch task s.entries before (length s.asked) head.calls many b
    → IsSure head task s.entries (outcome.Limit Calls)
spent_sure head task s before many b works learnt h of is ends =
    by (subst (EndsBatch task s.entries before (length s.asked) head.calls many) is ends)
  where
    by : EndsBatch task s.entries before (length s.asked) head.calls many CallsSpent
        → IsSure head task s.entries (outcome.Limit Calls)
    by (all, more, left) = calls_sure task s works learnt h head of all left.0 left.1

pub all_asked : (task : Task) (entries : List Entry) (before after calls many : ℕ) (b : Batch)
    → b ≡ Done
    → EndsBatch task entries before after calls many b → (after ≡ before + many) × (after ≤ calls)
all_asked task entries before after calls many b is ends =
    subst (EndsBatch task entries before after calls many) is ends
