-- Lines that requests stand behind, and the calls on children, one part of a run after another.
use Rattle.std.proofs.Common.{◌≡◌, ℕ, suc, arith, true, List, [], ◌∷◌, ◌++◌, Option, refl, sym, subst, ap, ◌∙◌, append_assoc, inl, inr, ◌⊎◌}
use Rattle.std.proofs.lemmas.List.{append_cancel_left}
use Rattle.io_world.specs.Talks.{Event}
use Rattle.lemmas.proofs.Members.{get_append}
use Rattle.task_model.specs.declared.task.Task.{Task}
use Rattle.transcript_model.proofs.LegalNumberLemmas.{asks_more}
use Rattle.transcript_model.specs.Legal.{HasNoneOpen, IsLegal, asks_of, is_mark}
use Rattle.transcript_model.specs.declared.entry.Entry.{Entry}
use Rattle.transcript_model.specs.declared.entry.Entry.TheVariants as entry
use Rattle.transcript_model.specs.declared.head.Head.{Head}
use Rattle.transcript_model.specs.declared.head.Mode.{Mode}
use Rattle.transcript_model.specs.declared.head.Mode.TheVariants.{Incremental, Focused, Binding, Adaptive}
use Rattle.round_run.specs.TurnLines.{Advances, TurnBreaks, HasTurnLine, opens_requests}
use Rattle.round_run.proofs.BreakingRunLemmas.{marked_breaks, quiet_breaks, run_breaks_as, stops_then_stops}
use Rattle.round_run.proofs.CallsRunLemmas.{runs_mark, runs_marked, runs_none, stops_none}
use Rattle.round_run.proofs.StoppedLemmas.{goes_then}
use Rattle.round_run.proofs.StretchLemmas.{breaks_on, runs_on}
use Rattle.round_run.specs.Breaking.{RunBreaks, Tells}
use Rattle.round_run.specs.Calls.{LogStops, Runs}
use Rattle.round_run.specs.Resting.{GoesInOrder}
use Rattle.round_run.specs.declared.fault.RunFault.{RunFault}

-- ---- lines that requests stand behind

pub opens_level : (mode : Mode) → opens_requests mode entry.Level ≡ true
opens_level Incremental = refl
opens_level Focused = refl
opens_level Binding = refl
opens_level Adaptive = refl

pub line_front : (mode : Mode) (front more : List Entry) → HasTurnLine mode front → HasTurnLine mode (front ++ more)
line_front mode front more (k, e, at, opens) = (k, e, get_append front more k e at, opens)

pub line_behind : (mode : Mode) (front more : List Entry) → HasTurnLine mode more → HasTurnLine mode (front ++ more)
line_behind mode [] more there = there
line_behind mode (e ∷ front) more there = by (line_behind mode front more there)
  where
    by : HasTurnLine mode (front ++ more) → HasTurnLine mode (e ∷ front ++ more)
    by (k, x, at, opens) = (suc k, x, at, opens)

line_put : (mode : Mode) (e : Entry) → opens_requests mode e ≡ true → (before front more : List Entry)
    → before ++ e ∷ [] ≡ before ++ front → HasTurnLine mode (front ++ more)
line_put mode e opens before front more is =
    subst (λ es. HasTurnLine mode (es ++ more)) (append_cancel_left before (e ∷ []) front is) (0, e, refl, opens)

-- one stretch needed no call, or has such a line, and so has the next
line_on : (mode : Mode) (P Q : Type 0) (R : Type 0) (first second : List Entry) → (P → Q → R)
    → P ⊎ HasTurnLine mode first → Q ⊎ HasTurnLine mode second → R ⊎ HasTurnLine mode (first ++ second)
line_on mode P Q R first second both (inl p) (inl q) = inl (both p q)
line_on mode P Q R first second both (inr there) w = inr (line_front mode first second there)
line_on mode P Q R first second both (inl p) (inr there) = inr (line_behind mode first second there)

-- ---- what went well

pub advances_none : (task : Task) (head : Head) (before : List Entry) (log : Option (List Event)) → before ≡ []
    → Advances task head [] before log log
advances_none task head before log is =
    record { runs = runs_none task head before log is; needed = inl refl; untouched = λ none. refl }

-- a mark alone
pub mark_advances : (task : Task) (head : Head) (e : Entry) → is_mark e ≡ true → (before after : List Entry)
    (log : Option (List Event))
    → after ≡ before ++ e ∷ [] → Advances task head before after log log
mark_advances task head e mark before after log is =
    record { runs = runs_mark task head e mark before after log is; needed = inl refl; untouched = λ none. refl }

-- a line that requests stand behind, and some of these
pub line_advances : (task : Task) (head : Head) (e : Entry) → is_mark e ≡ true → opens_requests head.mode e ≡ true
    → (before mid after : List Entry) (old new : Option (List Event)) → mid ≡ before ++ e ∷ []
    → (asks_of after ≡ asks_of before → new ≡ old)
    → Runs task head mid after old new → Advances task head before after old new
line_advances task head e mark opens before mid after old new is some runs =
    let all = runs_marked task head e mark before mid after old new is runs in
    let same : e ∷ runs.more ≡ all.more =
    append_cancel_left before (e ∷ runs.more) all.more
    (sym (runs.pushed ∙ ap (λ es. es ++ runs.more) is ∙ append_assoc before (e ∷ []) runs.more) ∙ all.pushed) in
    record {
      runs = all;
      needed = inr (subst (HasTurnLine head.mode) same (0, e, refl, opens));
      untouched = λ none. some (omega (arith, ap asks_of all.pushed, asks_more before all.more, none));
    }

-- a mark, and what came behind it
pub marked_advances : (task : Task) (head : Head) (e : Entry) → is_mark e ≡ true → (before mid after : List Entry)
    (old new : Option (List Event))
    → mid ≡ before ++ e ∷ [] → Advances task head mid after old new → Advances task head before after old new
marked_advances task head e mark before mid after old new is next =
    let all = runs_marked task head e mark before mid after old new is next.runs in
    let same : e ∷ next.runs.more ≡ all.more =
    append_cancel_left before (e ∷ next.runs.more) all.more
    (sym (next.runs.pushed ∙ ap (λ es. es ++ next.runs.more) is ∙ append_assoc before (e ∷ []) next.runs.more) ∙ all.pushed) in
    record {
      runs = all;
      needed = subst (λ es. (new ≡ old) ⊎ HasTurnLine head.mode es) same (by next.needed);
      untouched = λ none. next.untouched (omega (
        arith,
        ap asks_of all.pushed,
        asks_more before all.more,
        none,
        ap asks_of next.runs.pushed,
        asks_more mid next.runs.more,
        ap asks_of is,
        asks_more before (e ∷ []),
      ));
    }
  where
    by : (new ≡ old) ⊎ HasTurnLine head.mode next.runs.more → (new ≡ old) ⊎ HasTurnLine head.mode (e ∷ next.runs.more)
    by (inl still) = inl still
    by (inr there) = inr (line_behind head.mode (e ∷ []) next.runs.more there)

-- one after another
pub advances_on : (task : Task) (head : Head) (base a b : List Entry) (old mid new : Option (List Event))
    → Advances task head base a old mid → Advances task head a b mid new → Advances task head base b old new
advances_on task head base a b old mid new first second =
    let runs = runs_on task head base a b old mid new first.runs second.runs in
    let all : runs.more ≡ first.runs.more ++ second.runs.more =
    append_cancel_left base runs.more (first.runs.more ++ second.runs.more)
    (sym runs.pushed ∙ second.runs.pushed ∙ ap (λ es. es ++ second.runs.more) first.runs.pushed
    ∙ append_assoc base first.runs.more second.runs.more) in
    record {
      runs = runs;
      needed = subst (λ es. (new ≡ old) ⊎ HasTurnLine head.mode es) (sym all)
          (line_on head.mode (mid ≡ old) (new ≡ mid) (new ≡ old) first.runs.more second.runs.more (λ was still. still ∙ was)
          first.needed second.needed);
      untouched = λ none.
          let sum = ap asks_of all in
          let parts = asks_more first.runs.more second.runs.more in
          second.untouched (omega (arith, none, sum, parts)) ∙ first.untouched (omega (arith, none, sum, parts));
    }

pub adds_then : (task : Task) (head : Head) (a b : List Entry) (old mid new : Option (List ℕ))
    (was half now : Option (List Event))
    → GoesInOrder [] a old mid (Advances task head [] a was half) → GoesInOrder a b mid new (Advances task head a b half now)
    → GoesInOrder [] b old new (Advances task head [] b was now)
adds_then task head a b old mid new was half now first second = record {
  goes = goes_then [] a b old mid new first.goes second.goes;
  order = advances_on task head [] a b was half now first.order second.order;
}

-- ---- what broke off

-- no call was made
pub quiet_turn : (task : Task) (head : Head) (Front : List Entry → Type 0) (e : Entry) → is_mark e ≡ true
    → (before : List Entry) (fault : RunFault) (log : Option (List Event))
    → Tells (HasNoneOpen before) fault [] → (more : List Entry) → (more ≡ []) ⊎ (more ≡ e ∷ [])
    → TurnBreaks task head before fault log log Front more
quiet_turn task head Front e mark before fault log tells more is =
    (quiet_breaks task head Front e mark before fault log tells more is, inl refl)

-- behind a mark
pub marked_turn_breaks : (task : Task) (head : Head) (Front : List Entry → Type 0) (e : Entry) → is_mark e ≡ true
    → (before mid front : List Entry) (fault : RunFault) (old new : Option (List Event))
    → mid ≡ before ++ e ∷ [] → mid ≡ before ++ front → (more : List Entry) → TurnBreaks task head mid fault old new Front more
    → TurnBreaks task head before fault old new Front (front ++ more)
marked_turn_breaks task head Front e mark before mid front fault old new marked pushed more (broken, needed) =
    (marked_breaks task head Front e mark before mid front fault old new marked pushed more broken, by needed)
  where
    by : (new ≡ old) ⊎ HasTurnLine head.mode more → (new ≡ old) ⊎ HasTurnLine head.mode (front ++ more)
    by (inl still) = inl still
    by (inr there) = inr (line_behind head.mode front more there)

-- behind a line that requests stand behind
pub line_breaks : (task : Task) (head : Head) (Front : List Entry → Type 0) (e : Entry) → is_mark e ≡ true
    → opens_requests head.mode e ≡ true → (before mid front : List Entry) (fault : RunFault) (old new : Option (List Event))
    → mid ≡ before ++ e ∷ [] → mid ≡ before ++ front → (more : List Entry) → RunBreaks task head mid fault old new Front more
    → TurnBreaks task head before fault old new Front (front ++ more)
line_breaks task head Front e mark opens before mid front fault old new marked pushed more broken = (
  marked_breaks task head Front e mark before mid front fault old new marked pushed more broken,
  inr (line_put head.mode e opens before front more (sym marked ∙ pushed)),
)

-- behind what went well
pub turn_breaks_on : (task : Task) (head : Head) (Front : List Entry → Type 0) (base a front : List Entry) (fault : RunFault)
    (old mid new : Option (List Event))
    → Advances task head base a old mid → a ≡ base ++ front → (more : List Entry) → TurnBreaks task head a fault mid new Front more
    → TurnBreaks task head base fault old new Front (front ++ more)
turn_breaks_on task head Front base a front fault old mid new first pushed more (broken, needed) = (
  breaks_on task head Front base a front fault old mid new first.runs pushed more broken,
  line_on head.mode (mid ≡ old) (new ≡ mid) (new ≡ old) front more (λ was still. still ∙ was)
      (subst (λ es. (mid ≡ old) ⊎ HasTurnLine head.mode es)
      (append_cancel_left base first.runs.more front (sym first.runs.pushed ∙ pushed)) first.needed) needed,
)

-- the front of one is the front of another
pub turn_breaks_as : (task : Task) (head : Head) (Other Front : List Entry → Type 0)
    → ((es : List Entry) → IsLegal head.version task es → Other es → Front es)
    → (before : List Entry) (fault : RunFault) (old new : Option (List Event)) (more : List Entry)
    → TurnBreaks task head before fault old new Other more → TurnBreaks task head before fault old new Front more
turn_breaks_as task head Other Front wider before fault old new more (broken, needed) =
    (run_breaks_as task head Other Front wider before fault old new more broken, needed)

-- ---- with stops

pub needed_stops : (mode : Mode) (entries : List Entry) (old new : Option (List Event))
    → (new ≡ old) ⊎ HasTurnLine mode entries
    → LogStops old new ⊎ HasTurnLine mode entries
needed_stops mode entries old new (inl same) = inl (subst (LogStops old) (sym same) (stops_none old))
needed_stops mode entries old new (inr there) = inr there

pub needed_more : (mode : Mode) (entries : List Entry) (old mid new : Option (List Event))
    → LogStops old mid ⊎ HasTurnLine mode entries → LogStops mid new
    → LogStops old new ⊎ HasTurnLine mode entries
needed_more mode entries old mid new (inl first) second = inl (stops_then_stops old mid new first second)
needed_more mode entries old mid new (inr there) second = inr there
