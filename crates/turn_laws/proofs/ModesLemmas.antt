-- Turns of one family, and whole turns one behind another.
use Rattle.std.proofs.Common.{List, [], ◌++◌, Bool, true, false, refl, sym, subst, append_assoc}
use Rattle.std.proofs.lemmas.List.{append-nil}
use Rattle.turn_laws.specs.Modes.{LeadTo, TurnOf, none_left as lead_none, nothing_kept, whole as lead_whole}
use Rattle.task_model.specs.declared.stream.Instance.{Instance}
use Rattle.task_model.specs.declared.task.Task.{Task}
use Rattle.transcript_model.specs.Rounds.{Limits}
use Rattle.transcript_model.specs.Turns.{AreTurns, AreTurnsOf, BindingTurn, FocusedTurn, IncrementalTurn, Kept, MayBegin, Stage, between, cut_off, none_left, stopped, whole}
use Rattle.transcript_model.specs.declared.entry.Entry.{Entry}
use Rattle.transcript_model.specs.declared.head.Mode.{Mode}
use Rattle.transcript_model.specs.declared.head.Mode.TheVariants.{Incremental, Focused, Binding, Adaptive}

-- ---- families

-- what one family carries stands for what the other carries
pub map_turns : {A B : Type 0} (limits : Limits) (task : Task)
    (turn : A → List Entry → List Entry → A → Bool → Type 0) (other : B → List Entry → List Entry → B → Bool → Type 0) (f : A → B)
    → ((a : A) (before now : List Entry) (next : A) (cut : Bool) → turn a before now next cut → other (f a) before now (f next) cut)
    → (a : A) (before es : List Entry) (stage : Stage)
    → AreTurns limits task turn a before es stage → AreTurns limits task other (f a) before es stage
map_turns limits task turn other f each a before es stage none_left = none_left
map_turns limits task turn other f each a before es stage (whole next {now = now} {rest = rest} may this more) =
    whole (f next) may (each a before now next false this) (map_turns limits task turn other f each next (before ++ now) rest stage more)
map_turns limits task turn other f each a before es stage (cut_off next may this) =
    cut_off (f next) may (each a before es next true this)
map_turns limits task turn other f each a before es stage (stopped next more cut may this) =
    stopped (f next) more cut may (each a before (es ++ more) next cut this)

pub of_mode : (mode : Mode) (limits : Limits) (task : Task) (entries : List Entry) (stage : Stage)
    → AreTurns limits task (TurnOf mode limits task) nothing_kept [] entries stage → AreTurnsOf mode limits task entries stage
of_mode Incremental limits task entries stage =
    map_turns limits task (TurnOf Incremental limits task) (IncrementalTurn limits task) (λ k. tt)
    (λ a before now next cut t. t.0) nothing_kept [] entries stage
of_mode Focused limits task entries stage =
    map_turns limits task (TurnOf Focused limits task) (FocusedTurn limits task) (λ (k : Kept). k.tried)
    (λ a before now next cut t. t.0) nothing_kept [] entries stage
of_mode Binding limits task entries stage =
    map_turns limits task (TurnOf Binding limits task) (BindingTurn limits task) (λ (k : Kept). k.tried)
    (λ a before now next cut t. t.0) nothing_kept [] entries stage
of_mode Adaptive limits task entries stage = λ turns. turns

abbrev tried_only : List Instance → Kept
tried_only tried = record { tried = tried; skeletons = [] }

pub as_family : (mode : Mode) (limits : Limits) (task : Task) (entries : List Entry) (stage : Stage)
    → AreTurnsOf mode limits task entries stage → AreTurns limits task (TurnOf mode limits task) nothing_kept [] entries stage
as_family Incremental limits task entries stage =
    map_turns limits task (IncrementalTurn limits task) (TurnOf Incremental limits task)
    (λ k. nothing_kept) (λ a before now next cut t. (t, refl)) tt [] entries stage
as_family Focused limits task entries stage =
    map_turns limits task (FocusedTurn limits task) (TurnOf Focused limits task) tried_only
    (λ a before now next cut t. (t, refl)) [] [] entries stage
as_family Binding limits task entries stage =
    map_turns limits task (BindingTurn limits task) (TurnOf Binding limits task) tried_only
    (λ a before now next cut t. (t, refl)) [] [] entries stage
as_family Adaptive limits task entries stage = λ turns. turns

-- ---- whole turns

-- whole turns, and then turns
pub lead_then : (limits : Limits) (task : Task) (k last : Kept) (before es rest : List Entry) (stage : Stage)
    → LeadTo limits task k before es last
    → AreTurns limits task (TurnOf limits.mode limits task) last (before ++ es) rest stage
    → AreTurns limits task (TurnOf limits.mode limits task) k before (es ++ rest) stage
lead_then limits task k last before es rest stage lead_none turns =
    subst (λ b. AreTurns limits task (TurnOf limits.mode limits task) k b rest stage) (append-nil before) turns
lead_then limits task k last before es rest stage (lead_whole {rest = later} next now may this more) turns =
    subst (λ all. AreTurns limits task (TurnOf limits.mode limits task) k before all stage) (sym (append_assoc now later rest))
    (whole next may this (lead_then limits task next last (before ++ now) later rest stage more
    (subst (λ b. AreTurns limits task (TurnOf limits.mode limits task) last b rest stage) (sym (append_assoc before now later)) turns)))

-- one whole turn more
pub lead_more : (limits : Limits) (task : Task) (k mid : Kept) (before es now : List Entry) (next : Kept)
    → LeadTo limits task k before es mid → MayBegin limits task (before ++ es)
    → TurnOf limits.mode limits task mid (before ++ es) now next false → LeadTo limits task k before (es ++ now) next
lead_more limits task k mid before es now next lead_none may this =
    subst (λ all. LeadTo limits task k before all next) (append-nil now)
    (lead_whole next now (subst (MayBegin limits task) (append-nil before) may)
    (subst (λ b. TurnOf limits.mode limits task k b now next false) (append-nil before) this) lead_none)
lead_more limits task k mid before es now next (lead_whole {rest = later} next_first first may_first this_first more) may this =
    subst (λ all. LeadTo limits task k before all next) (sym (append_assoc first later now))
    (lead_whole next_first first may_first this_first (lead_more limits task next_first mid (before ++ first) later now next more
    (subst (MayBegin limits task) (sym (append_assoc before first later)) may)
    (subst (λ b. TurnOf limits.mode limits task mid b now next false) (sym (append_assoc before first later)) this)))

-- between two turns whole turns lead there
pub between_leads : (limits : Limits) (task : Task) (k : Kept) (before es : List Entry)
    → AreTurns limits task (TurnOf limits.mode limits task) k before es between
    → (last : Kept) × LeadTo limits task k before es last
between_leads limits task k before es none_left = (k, lead_none)
between_leads limits task k before es (whole next {now = now} {rest = rest} may this more) =
    let later = between_leads limits task next (before ++ now) rest more in
    (later.0, lead_whole next now may this later.1)

pub leads_between : (limits : Limits) (task : Task) (k last : Kept) (before es : List Entry)
    → LeadTo limits task k before es last
    → AreTurns limits task (TurnOf limits.mode limits task) k before es between
leads_between limits task k last before es lead_none = none_left
leads_between limits task k last before es (lead_whole {rest = rest} next now may this more) =
    whole next may this (leads_between limits task next last (before ++ now) rest more)
