-- Turns of focused mode, and what would go on as one.
use Rattle.std.proofs.Common.{◌≡◌, ◌≤◌, ◌+◌, nat_lt, Bool, true, false, List, [], ◌∷◌, ◌++◌, length, take, refl, sym, ap, subst, ◌∙◌, append_assoc, inl, inr}
use Rattle.std.proofs.lemmas.Bool.{ltb-false}
use Rattle.std.proofs.lemmas.List.{take_all}
use Rattle.solve_run.specs.Focusing.{IsDreamLine, MayFallBack, carried, carrying}
use Rattle.turn_run.specs.Advancing.{IsFrontOfTurn}
use Rattle.turn_run.specs.Asking.{IsAskedBehind, IsFrontBehind}
use Rattle.solve_run.specs.Levels.{IsFrontOfFallback}
use Rattle.round_run.specs.TurnLines.{opens_requests}
use Rattle.turn_laws.specs.Modes.{TurnOf}
use Rattle.task_model.specs.Dreams as dreams
use Rattle.task_model.specs.declared.stream.Instance.{Instance}
use Rattle.task_model.specs.declared.task.Task.{Task}
use Rattle.transcript_model.specs.Dreaming.{HasNoDreamAfter, IsDreamAfter, Sent, next_sent, sent_instances}
use Rattle.transcript_model.specs.Legal.{asks_of}
use Rattle.transcript_model.specs.Rounds.{IsBatch, Limits, calls_left, limits_of}
use Rattle.transcript_model.specs.Transcript.{names_of}
use Rattle.transcript_model.specs.Turns.{FocusedTurn, IsEmptyTurn, IsFallback, Skeleton, is_cut}
use Rattle.transcript_model.specs.declared.entry.Call.{Call}
use Rattle.transcript_model.specs.declared.entry.DreamUse.{DreamUse}
use Rattle.transcript_model.specs.declared.entry.Entry.{Entry}
use Rattle.transcript_model.specs.declared.entry.Entry.TheVariants as entry
use Rattle.transcript_model.specs.declared.head.Head.{Head}
use Rattle.transcript_model.specs.declared.head.Mode.{Mode}
use Rattle.transcript_model.specs.declared.head.Mode.TheVariants.{Incremental, Focused, Binding, Adaptive}

-- ---- the line of a dream

-- a dream of few steps whose line this is
pub record Dreamt (limits : Limits) (task : Task) (before : List Entry) (tried : List Instance) (line : Entry)
    (entries : List dreams.SupposedEntry) : Type 0 where
  pub uses : List DreamUse
  pub steps : List Call
  pub is : line ≡ entry.Dream uses steps
  pub dream : IsDreamAfter limits task before tried uses steps entries
  pub few : length steps ≤ limits.states

pub dreamt : (limits : Limits) (task : Task) (before : List Entry) (tried : List Instance) (line : Entry) (entries : List dreams.SupposedEntry)
    → IsDreamLine limits task before tried line entries → Dreamt limits task before tried line entries
dreamt limits task before tried entry.Level entries d = absurd d
dreamt limits task before tried (entry.Ask number turn call) entries d = absurd d
dreamt limits task before tried (entry.Got number tuples values) entries d = absurd d
dreamt limits task before tried (entry.Value number value) entries d = absurd d
dreamt limits task before tried (entry.End number) entries d = absurd d
dreamt limits task before tried (entry.Dream uses steps) entries d = record {
  uses = uses;
  steps = steps;
  is = refl;
  dream = d.0;
  few = d.1;
}
dreamt limits task before tried entry.Nothing entries d = absurd d
dreamt limits task before tried entry.Reset entries d = absurd d
dreamt limits task before tried (entry.Pick number) entries d = absurd d
dreamt limits task before tried (entry.Retire number) entries d = absurd d

pub opens_dream : (mode : Mode) (uses : List DreamUse) (steps : List Call) → mode ≡ Focused
    → opens_requests mode (entry.Dream uses steps) ≡ true
opens_dream mode uses steps is = ap (λ m. opens_requests m (entry.Dream uses steps)) is

-- ---- turns

module _ (head : Head) (task : Task) (is : head.mode ≡ Focused) where
  focused_turn : (tried next : List Instance) (before now : List Entry) (cut : Bool)
      → FocusedTurn (limits_of head) task tried before now next cut
      → TurnOf head.mode (limits_of head) task (carried tried) before now (carried next) cut
  focused_turn tried next before now cut turn =
      subst (λ (m : Mode). TurnOf m (limits_of head) task (carried tried) before now (carried next) cut) (sym is) (turn, refl)

  module _ (tried : List Instance) (before : List Entry) (uses : List DreamUse) (steps : List Call) (entries : List dreams.SupposedEntry)
      (dream : IsDreamAfter (limits_of head) task before tried uses steps entries) where
    -- the transcript with the dream, and what is asked behind it
    abbrev pub marked : List Entry
    marked = before ++ entry.Dream uses steps ∷ []

    abbrev pub firsts : List Sent
    firsts = next_sent task marked (length (names_of task before)) [] (asks_of marked + 1) [] entries

    abbrev pub joined : List Instance
    joined = tried ++ sent_instances (take (calls_left (limits_of head) marked) firsts)

    pub dream_turn : (list : List Instance) (now : List Entry) → sent_instances firsts ≡ list
        → IsAskedBehind head task before (entry.Dream uses steps) list now
        → TurnOf head.mode (limits_of head) task (carried tried) before now (carried joined) (is_cut (limits_of head) marked firsts)
    dream_turn list now same asked =
        focused_turn tried joined before now (is_cut (limits_of head) marked firsts) (inl (record {
          uses = uses;
          steps = steps;
          entries = entries;
          dream = dream;
          rest = asked.rest;
          is = asked.is;
          sent = take (calls_left (limits_of head) marked) firsts;
          batches = record {
            list = firsts;
            ready = refl;
            batch = subst (λ instances. IsBatch (limits_of head) task marked instances asked.rest) (sym same) asked.batch;
            asked = refl;
            cut_is = refl;
          };
          joined = refl;
        }))

    -- the first of a dream and of what is asked behind it
    pub dream_front : (list : List Instance) (es : List Entry) → sent_instances firsts ≡ list
        → IsFrontBehind head task before (entry.Dream uses steps) list es
        → IsFrontOfTurn task head (carried tried) before es
    dream_front list es same f = inr (record {
      part = f.part;
      rest = f.rest;
      is = f.is;
      whole = (carried joined, is_cut (limits_of head) marked firsts, dream_turn list (f.part ++ f.rest) same f.whole);
    })

    -- where no calls were wanting, all of them join those that were tried
    pub joined_all : (list : List Instance) → sent_instances firsts ≡ list → is_cut (limits_of head) marked firsts ≡ false
        → joined ≡ tried ++ list
    joined_all list same whole =
        ap (λ sent. tried ++ sent_instances sent) (take_all (calls_left (limits_of head) marked) firsts (ltb-false _ _ whole))
        ∙ ap (λ is. tried ++ is) same

-- ---- turns without a dream

module _ (head : Head) (task : Task) (skeletons : List Skeleton) (may : MayFallBack head.mode skeletons) where
  pub empty_turn : (tried : List Instance) (before more : List Entry) (cut : Bool)
      → HasNoDreamAfter (limits_of head) task before tried
      → IsFallback (limits_of head) task (before ++ entry.Nothing ∷ []) tried more cut
      → TurnOf head.mode (limits_of head) task (carrying skeletons tried) before (entry.Nothing ∷ more) (carrying skeletons []) cut
  empty_turn tried before more cut none fallback = by head.mode may
    where
      empty : IsEmptyTurn (limits_of head) task tried before (entry.Nothing ∷ more) [] cut
      empty = record { none = none; rest = more; is = refl; fallback = fallback; forgotten = refl }

      by : (m : Mode) → MayFallBack m skeletons
          → TurnOf m (limits_of head) task (carrying skeletons tried) before (entry.Nothing ∷ more) (carrying skeletons []) cut
      by Incremental never = absurd never
      by Focused may = (inr empty, refl)
      by Binding may = (inr empty, refl)
      by Adaptive retired = inr (inr (record { all_retired = retired; tried = []; turn = empty; next_is = refl }))

  -- the first of a turn without a dream
  pub empty_front : (tried : List Instance) (is_tried : Bool) (before mid es : List Entry)
      → HasNoDreamAfter (limits_of head) task before tried → nat_lt 0 (length tried) ≡ is_tried
      → mid ≡ before ++ entry.Nothing ∷ []
      → IsFrontOfFallback head task is_tried mid es → IsFrontOfTurn task head (carrying skeletons tried) before es
  empty_front tried is_tried before mid es none even at f = inr (record {
    part = entry.Nothing ∷ f.part;
    rest = f.rest;
    is = f.is ∙ ap (λ t. t ++ f.part) at ∙ append_assoc before (entry.Nothing ∷ []) f.part;
    whole = (
      carrying skeletons [],
      f.whole.0,
      empty_turn tried before (f.part ++ f.rest) f.whole.0 none
          (subst (λ m. IsFallback (limits_of head) task m tried (f.part ++ f.rest) f.whole.0) at (f.whole.1 tried even)),
    );
  })
