-- The run of the first worked task: its transcript is legal and one whole level, and its plan is true.
use Rattle.std.proofs.Common.{◌≡◌, ℕ, zero, suc, ◌≤◌, ◌==◌, Bool, true, false, ◌&&◌, ◌||◌, not, List, [], ◌∷◌, codes, length, refl, sym, ap, subst, ◌∙◌, arith, slice_get, Contains, ◌⊎◌, inl, inr, eqb-true}
use Rattle.std.proofs.lemmas.Option.{same_Some}
use Rattle.std.specs.Ordering.{nat_cmp}
use Rattle.std.specs.Cmp.Lexicographic.{slice_cmp}
use Rattle.gen_lines.specs.Reply.{is_value}
use Rattle.lemmas.proofs.Ascending.{contains_cases, contains_here, contains_later, contains_none}
use Rattle.lemmas.proofs.Bools.{from_or_false}
use Rattle.lemmas.proofs.Options.{none_at}
use Rattle.lemmas.specs.Lists.{AreAscending}
use Rattle.task_model.specs.Roles.{role_of}
use Rattle.task_model.specs.Streams.{AreDue, IsDue, instance_cmp}
use Rattle.task_model.specs.declared.limits.TheConstants.{MOST_DUE}
use Rattle.task_model.specs.declared.stream.Instance.{Instance}
use Rattle.transcript_model.specs.Legal.{HasNoneOpen, IsLegal, IsRightAsk, IsRightGot, MayFollow, asks_of}
use Rattle.transcript_model.specs.Names.{generated}
use Rattle.transcript_model.specs.Outcomes.{AreOrigins, IsOrigin, IsTruePlan, IsUsed, has_value}
use Rattle.transcript_model.specs.Rounds.{IsBatch}
use Rattle.transcript_model.specs.Transcript.{known_of, notes_of}
use Rattle.transcript_model.specs.Turns.{AreTurnsOf, IsLevel, MayBegin, between, none_left, whole}
use Rattle.transcript_model.specs.declared.entry.Call.{Call}
use Rattle.transcript_model.specs.declared.entry.Entry.{Entry}
use Rattle.transcript_model.specs.declared.entry.Entry.TheVariants as entry
use Rattle.transcript_model.specs.declared.head.Mode.TheVariants.{Incremental}
use Rattle.witness_laws.specs.Fetch.{fetch, grip, grip_cup}
use Rattle.witness_laws.specs.Level.{IsFirstRun, cup_entries, cup_limits, cup_origins, cup_plan, cup_step}
use Rattle.witness_laws.proofs.PlanLemmas.{cup_valid, no_plan_yet, plan_step}
use Rattle.witness_laws.proofs.StateLemmas.{both_true}
use Rattle.witness_laws.proofs.TranscriptLemmas.{due_is, first_item}

abbrev cup : Instance
cup = record { stream = 0; inputs = 0 ∷ [] }

abbrev begun : List Entry
begun = entry.Level ∷ []

abbrev asking : List Entry
asking = entry.Level ∷ entry.Ask 1 0 grip_cup ∷ []

abbrev got_left : Entry
got_left = entry.Got 1 1 (codes "left" ∷ [])

-- the only member of a list
only : {A : Type 0} (x y : A) → Contains (x ∷ []) y → x ≡ y
only x y m = by (contains_cases x [] y m)
  where
    by : (x ≡ y) ⊎ Contains [] y → x ≡ y
    by (inl same) = same
    by (inr none) = absurd (contains_none y none)

-- ---- legal

cup_due : IsDue fetch (known_of fetch begun) (notes_of fetch begun) cup
unfolding role_of
cup_due = record { stream = grip; named = refl; reachable = refl; unfinished = refl }

right_ask : IsRightAsk fetch begun 1 0 grip_cup
right_ask = record {
  next = refl;
  instance = cup;
  named = refl;
  due = cup_due;
  closed = λ n a is same. refl;
  turned = refl;
}

right_got : IsRightGot 1 fetch asking 1 1 (codes "left" ∷ [])
unfolding is_value
right_got = record {
  waiting = refl;
  request = record { stream = grip; instance = cup };
  of = refl;
  no_cost = refl;
  right = record {
    some = omega arith;
    few = omega arith;
    one = λ e. refl;
    test = λ e. refl;
    count = refl;
    valid = refl;
  };
}

cup_legal : IsLegal 1 fetch cup_entries
cup_legal zero e at = subst (MayFollow 1 fetch []) (same_Some entry.Level e at) tt
cup_legal (suc zero) e at = subst (MayFollow 1 fetch begun) (same_Some (entry.Ask 1 0 grip_cup) e at) right_ask
cup_legal (suc (suc zero)) e at = subst (MayFollow 1 fetch asking) (same_Some got_left e at) right_got
cup_legal (suc (suc (suc k))) e at = absurd (none_at k e at)

both_or_none : (b : Bool) → ((b || false) && not (b || false)) ≡ false
both_or_none true = refl
both_or_none false = refl

cup_closed : HasNoneOpen cup_entries
cup_closed n = both_or_none (n == 1)

-- ---- a whole level

pub first_due : IsDue fetch (known_of fetch []) (notes_of fetch []) cup
unfolding role_of
first_due = record { stream = grip; named = refl; reachable = refl; unfinished = refl }

one_ascends : AreAscending (instance_cmp (known_of fetch []).names) (cup ∷ [])
one_ascends i zero a b lt at_i at_j = absurd (omega (arith, lt))
one_ascends i (suc j) a b lt at_i at_j = absurd (none_at j b at_j)

cup_is_due : AreDue fetch (known_of fetch []) (notes_of fetch []) (cup ∷ [])
cup_is_due = record {
  each = λ i. (
    λ m. subst (IsDue fetch (known_of fetch []) (notes_of fetch [])) (only cup i m) first_due,
    λ d. subst (Contains (cup ∷ [])) (sym (due_is (known_of fetch []) first_item i.stream i.inputs d.stream d.named d.reachable))
        (contains_here cup []),
  );
  ascend = one_ascends;
}

may_begin : MayBegin cup_limits fetch []
may_begin = record {
  list = cup ∷ [];
  due = cup_is_due;
  some = omega arith;
  few = let n : length (cup ∷ []) ≡ 1 = refl in let m : MOST_DUE ≡ 1000000 = refl in omega (arith, n, m);
  left = let n : asks_of [] ≡ 0 = refl in omega (arith, n);
}

cup_batch : IsBatch cup_limits fetch begun (cup ∷ []) (entry.Ask 1 0 grip_cup ∷ got_left ∷ [])
cup_batch = record {
  rounds = (cup ∷ []) ∷ [];
  cut = ([], refl, omega arith, refl, tt, refl);
  run = (entry.Ask 1 0 grip_cup ∷ got_left ∷ [], [], refl, (got_left ∷ [], refl, (refl, tt)), refl);
}

cup_level : IsLevel cup_limits fetch [] cup_entries false
cup_level = record {
  list = cup ∷ [];
  due = cup_is_due;
  rest = entry.Ask 1 0 grip_cup ∷ got_left ∷ [];
  is = refl;
  batch = cup_batch;
  cut_is = refl;
}

cup_turns : AreTurnsOf Incremental cup_limits fetch cup_entries between
cup_turns = whole tt {before = []} {now = cup_entries} {rest = []} {stage = between} may_begin cup_level none_left

-- ---- the plan is true

args_are : (call : Call) → Contains cup_plan call → call.args ≡ codes "cup" ∷ codes "#left" ∷ []
args_are call m = by (contains_cases (cup_step (codes "take")) (cup_step (codes "drop") ∷ []) call m)
  where
    by : (cup_step (codes "take") ≡ call) ⊎ Contains (cup_step (codes "drop") ∷ []) call
        → call.args ≡ codes "cup" ∷ codes "#left" ∷ []
    by (inl same) = ap (λ (c : Call). c.args) (sym same)
    by (inr later) = ap (λ (c : Call). c.args) (sym (only (cup_step (codes "drop")) call later))

one_generated : (name value : List ℕ) → name ≡ generated value → Contains (codes "cup" ∷ codes "#left" ∷ []) name
    → Contains (codes "#left" ∷ []) name
one_generated name value e m = by (contains_cases (codes "cup") (codes "#left" ∷ []) name m)
  where
    by : (codes "cup" ≡ name) ⊎ Contains (codes "#left" ∷ []) name → Contains (codes "#left" ∷ []) name
    by (inl same) =
        let h : 99 ≡ 35 = same_Some 99 35 (ap (λ xs. slice_get xs 0) (same ∙ e)) in absurd (omega (arith, h))
    by (inr left) = left

used_left : IsUsed cup_plan (codes "#left")
used_left = (
  codes "left",
  cup_step (codes "take"),
  refl,
  contains_here (cup_step (codes "take")) (cup_step (codes "drop") ∷ []),
  contains_later (codes "cup") (codes "#left" ∷ []) (codes "#left") (contains_here (codes "#left") []),
)

left_first : (n : ℕ) → has_value cup_entries n (codes "left") ≡ true → 1 ≤ n
left_first n h =
    let same : n ≡ 1 = eqb-true n 1 (both_true (n == 1) true (from_or_false ((n == 1) && true) h)).0 in
    omega (arith, same)

left_origin : IsOrigin 1 cup_entries (record { object = codes "#left"; number = 1; tuple = 1 })
left_origin = record {
  value = codes "left";
  named = refl;
  there = refl;
  first = left_first;
  one = λ e. refl;
  tuple = λ other. absurd (other refl);
}

name_ascends : AreAscending (slice_cmp nat_cmp) (codes "#left" ∷ [])
name_ascends i zero a b lt at_i at_j = absurd (omega (arith, lt))
name_ascends i (suc j) a b lt at_i at_j = absurd (none_at j b at_j)

left_origins : AreOrigins 1 cup_entries cup_plan cup_origins
left_origins = record {
  each = λ name. (
    λ m. subst (IsUsed cup_plan) (only (codes "#left") name m) used_left,
    λ u. one_generated name u.0 u.2 (subst (λ xs. Contains xs name) (args_are u.1 u.3) u.4),
  );
  ascend = name_ascends;
  origins = λ origin m. subst (IsOrigin 1 cup_entries) (only (record { object = codes "#left"; number = 1; tuple = 1 }) origin m) left_origin;
}

cup_true : IsTruePlan 1 fetch cup_entries cup_plan 2 cup_origins
cup_true = record { steps = plan_step 0 ∷ plan_step 1 ∷ []; shown = refl; valid = cup_valid; origins = left_origins }

pub first_run : IsFirstRun
first_run = record {
  legal = cup_legal;
  turns = cup_turns;
  closed = cup_closed;
  needed = no_plan_yet;
  plan = cup_true;
}
