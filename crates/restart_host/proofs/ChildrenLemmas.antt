-- Flags of children of which one is set.
use Rattle.std.proofs.Common.{◌≡◌, ◌≢◌, ℕ, zero, suc, ◌+◌, ◌<◌, ◌≤◌, Bool, true, false, cond, List, [], ◌∷◌, length, get_or, refl, sym, ap, subst, ◌∙◌, arith, option_map, slice_get, Option, Some, None, slice_set, unwrap_or, count_by, inl, inr, ◌++◌, Result, Ok, Err, is_ok, MatchResult}
use Rattle.std.proofs.lemmas.Bool.Decides.{eqb_tells}
use Rattle.std.proofs.lemmas.List.Sums.{sum_by-set}
use Rattle.lemmas.proofs.Counts.{count_head, count_last}
use Rattle.io_world.specs.Talks.{Becomes, Same}
use Rattle.io_world.specs.declared.host.HostFault.{HostFault}
use Rattle.io_world.specs.declared.host.TheConstants.{CHILDREN}
use Rattle.restart_host.specs.Kept.{AreIdle, IsKeptChild, is_alive, is_on, runs_outside}
use Rattle.restart_host.specs.declared.kept.Kept.{Kept}

-- the flag of a member
abbrev pub flag : {A : Type 0} → (A → Bool) → List A → ℕ → Bool
flag f xs k = unwrap_or (option_map f (slice_get xs k)) false

pub flag_at : {A : Type 0} (f : A → Bool) (xs : List A) (i : ℕ) (x : A) → i < length xs → x ≡ get_or xs i x
    → flag f xs i ≡ f x
flag_at f [] i x within is = absurd (omega arith)
flag_at f (y ∷ ys) zero x within is = ap f (sym is)
flag_at f (y ∷ ys) (suc i) x within is = flag_at f ys i x (omega arith) is

pub flag_here : {A : Type 0} (f : A → Bool) (xs : List A) (i : ℕ) (x : A) → i < length xs
    → flag f (slice_set xs i x) i ≡ f x
flag_here f [] i x within = absurd (omega arith)
flag_here f (y ∷ ys) zero x within = refl
flag_here f (y ∷ ys) (suc i) x within = flag_here f ys i x (omega arith)

pub flag_other : {A : Type 0} (f : A → Bool) (xs : List A) (i k : ℕ) (x : A) → k ≢ i
    → flag f (slice_set xs i x) k ≡ flag f xs k
flag_other f [] i k x other = refl
flag_other f (y ∷ ys) zero zero x other = absurd (other refl)
flag_other f (y ∷ ys) zero (suc k) x other = refl
flag_other f (y ∷ ys) (suc i) zero x other = refl
flag_other f (y ∷ ys) (suc i) (suc k) x other = flag_other f ys i k x (λ same. other (ap suc same))

-- a flag of each number, where one member was set
pub flags_set : {A : Type 0} (f : A → Bool) (xs : List A) (i : ℕ) (x : A) (old new : ℕ → Bool) → i < length xs
    → ((k : ℕ) → old k ≡ flag f xs k) → ((k : ℕ) → k ≢ i → new k ≡ old k) → new i ≡ f x
    → (k : ℕ) → new k ≡ flag f (slice_set xs i x) k
flags_set f xs i x old new within was others here k = elim (eqb_tells k i) [
  | inl same ↦ subst (λ j. new j ≡ flag f (slice_set xs i x) j) (sym same.1) (here ∙ sym (flag_here f xs i x within))
  | inr differs ↦ others k differs.1 ∙ was k ∙ sym (flag_other f xs i k x differs.1)
]

-- how many flags there are, where one member was set
pub count_set : {A : Type 0} (f : A → Bool) (xs : List A) (i : ℕ) (was now : A) → i < length xs → was ≡ get_or xs i was
    → count_by f (slice_set xs i now) + cond (f was) 1 0 ≡ count_by f xs + cond (f now) 1 0
count_set f xs i was now within is =
    ap (λ x. count_by f (slice_set xs i now) + cond (f x) 1 0) is ∙ sum_by-set (λ x. cond (f x) 1 0) xs i now was within

-- a number that is a flag's is at most 1
pub flag_most : (b : Bool) → cond b 1 0 ≤ 1
flag_most true = omega arith
flag_most false = omega arith

-- a member that has the flag is counted
pub one_counted : {A : Type 0} (f : A → Bool) (xs : List A) (i : ℕ) (x : A) → i < length xs → x ≡ get_or xs i x
    → f x ≡ true → 0 < count_by f xs
one_counted f [] i x within is has = absurd (omega arith)
one_counted f (y ∷ ys) zero x within is has =
    let yes : cond {A = ℕ} (f y) 1 0 ≡ 1 = ap (λ b. cond b 1 0) (ap f (sym is) ∙ has) in
    omega (arith, count_head f y ys, yes)
one_counted f (y ∷ ys) (suc i) x within is has =
    let rest : 0 < count_by f ys = one_counted f ys i x (omega arith) is has in
    omega (arith, count_head f y ys, rest)

-- no member has the flag, nor the one that is put behind
pub flag_push : {A : Type 0} (f : A → Bool) (xs : List A) (x : A) → ((k : ℕ) → flag f xs k ≡ false) → f x ≡ false
    → (k : ℕ) → flag f (xs ++ x ∷ []) k ≡ false
flag_push f [] x none off zero = off
flag_push f [] x none off (suc k) = refl
flag_push f (y ∷ ys) x none off zero = none 0
flag_push f (y ∷ ys) x none off (suc k) = flag_push f ys x (λ j. none (suc j)) off k

-- ---- children

pub on_at : (xs : List Kept) (i : ℕ) (x : Kept) → i < length xs → x ≡ get_or xs i x → runs_outside xs i ≡ x.running
on_at xs i x within is = flag_at is_on xs i x within is

pub alive_at : (xs : List Kept) (i : ℕ) (x : Kept) → i < length xs → x ≡ get_or xs i x → is_alive xs i ≡ x.life.alive
alive_at xs i x within is = flag_at (λ (kept : Kept). kept.life.alive) xs i x within is

-- what is kept of one
pub kept_at : (xs : List Kept) (i : ℕ) (x : Kept) (below : ℕ → Bool) (on : Bool) → i < CHILDREN → i < length xs
    → x ≡ get_or xs i x → ((k : ℕ) → below k ≡ is_alive xs k) → runs_outside xs i ≡ on → IsKeptChild i below x on
kept_at xs i x below on number within is ties runs = record {
  number = number;
  running = sym (on_at xs i x within is) ∙ runs;
  ties = ties i ∙ alive_at xs i x within is;
}

-- where one runs, one at least is counted
pub some_on : (xs : List Kept) (i : ℕ) (x : Kept) → i < length xs → x ≡ get_or xs i x → x.running ≡ true
    → 0 < count_by is_on xs
some_on xs i x within is runs = one_counted is_on xs i x within is runs

-- which children run in the host below, where one was called
pub flags_alive : (xs : List Kept) (i : ℕ) (now : Kept) (old new : ℕ → Bool) → i < length xs
    → ((k : ℕ) → old k ≡ is_alive xs k) → ((k : ℕ) → k ≢ i → new k ≡ old k) → new i ≡ now.life.alive
    → (k : ℕ) → new k ≡ is_alive (slice_set xs i now) k
flags_alive xs i now old new within was others here =
    flags_set (λ (kept : Kept). kept.life.alive) xs i now old new within was others here

-- a child that was stopped: one less runs
pub one_less : (xs : List Kept) (i : ℕ) (was now : Kept) (before after : ℕ) → i < length xs → was ≡ get_or xs i was
    → was.running ≡ true → now.running ≡ false → count_by is_on xs ≤ before → before ≡ after + 1
    → count_by is_on (slice_set xs i now) ≤ after
one_less xs i was now before after within is runs ended room kept =
    let yes : cond {A = ℕ} (is_on was) 1 0 ≡ 1 = ap (λ b. cond b 1 0) runs in
    let no : cond {A = ℕ} (is_on now) 1 0 ≡ 0 = ap (λ b. cond b 1 0) ended in
    omega (arith, count_set is_on xs i was now within is, yes, no, room, kept)

-- a child that runs as before
pub as_many : (xs : List Kept) (i : ℕ) (was now : Kept) (before after : ℕ) → i < length xs → was ≡ get_or xs i was
    → now.running ≡ was.running → count_by is_on xs ≤ before → after ≡ before
    → count_by is_on (slice_set xs i now) ≤ after
as_many xs i was now before after within is same room kept =
    let even : cond {A = ℕ} (is_on now) 1 0 ≡ cond (is_on was) 1 0 = ap (λ b. cond b 1 0) same in
    omega (arith, count_set is_on xs i was now within is, even, room, kept)

-- a child that may have been started
pub one_more : (xs : List Kept) (i : ℕ) (was now : Kept) (before after : ℕ) (b : Bool) → i < length xs
    → was ≡ get_or xs i was
    → now.running ≡ b → count_by is_on xs ≤ before → before ≤ after → (b ≡ true → after ≡ before + 1)
    → count_by is_on (slice_set xs i now) ≤ after
one_more xs i was now before after true within is on room later kept =
    let yes : cond {A = ℕ} (is_on now) 1 0 ≡ 1 = ap (λ b. cond b 1 0) on in
    omega (arith, count_set is_on xs i was now within is, yes, room, kept refl)
one_more xs i was now before after false within is on room later kept =
    let no : cond {A = ℕ} (is_on now) 1 0 ≡ 0 = ap (λ b. cond b 1 0) on in
    omega (arith, count_set is_on xs i was now within is, no, room, later)

pub becomes_off : (xs : List Kept) (i : ℕ) (now : Kept) → i < length xs → now.running ≡ false
    → Becomes i false (runs_outside xs) (runs_outside (slice_set xs i now))
becomes_off xs i now within off = record {
  here = flag_here is_on xs i now within ∙ off;
  others = λ k other. flag_other is_on xs i k now other;
}

pub becomes_on : (xs : List Kept) (i : ℕ) (now : Kept) → i < length xs → now.running ≡ true
    → Becomes i true (runs_outside xs) (runs_outside (slice_set xs i now))
becomes_on xs i now within on = record {
  here = flag_here is_on xs i now within ∙ on;
  others = λ k other. flag_other is_on xs i k now other;
}

-- a child runs as before
pub same_on : (xs : List Kept) (i : ℕ) (was now : Kept) → i < length xs → was ≡ get_or xs i was
    → now.running ≡ was.running → Same (runs_outside xs) (runs_outside (slice_set xs i now))
same_on xs i was now within is same k = elim (eqb_tells k i) [
  | inl here ↦ subst (λ j. runs_outside (slice_set xs i now) j ≡ runs_outside xs j) (sym here.1)
      (flag_here is_on xs i now within ∙ same ∙ sym (flag_at is_on xs i was within is))
  | inr differs ↦ flag_other is_on xs i k now differs.1
]

-- a child that was to be started runs, or it doesn't as before
pub started_on : {T : Type 0} (xs : List Kept) (i : ℕ) (was now : Kept) (result : Result T HostFault) → i < length xs
    → was ≡ get_or xs i was
    → was.running ≡ false → now.running ≡ is_ok result
    → MatchResult result (λ _. Becomes i true (runs_outside xs) (runs_outside (slice_set xs i now)))
    (λ _. Same (runs_outside xs) (runs_outside (slice_set xs i now)))
started_on xs i was now (Ok value) within is idle on = becomes_on xs i now within on
started_on xs i was now (Err fault) within is idle on = same_on xs i was now within is (on ∙ sym idle)

pub idle_none : AreIdle []
idle_none = record { running = λ k. refl; alive = λ k. refl; none = refl }

pub idle_more : (xs : List Kept) (x : Kept) → AreIdle xs → x.running ≡ false → x.life.alive ≡ false
    → AreIdle (xs ++ x ∷ [])
idle_more xs x idle off dead = record {
  running = flag_push is_on xs x idle.running off;
  alive = flag_push (λ (kept : Kept). kept.life.alive) xs x idle.alive dead;
  none =
      let no : cond {A = ℕ} (is_on x) 1 0 ≡ 0 = ap (λ b. cond b 1 0) off in
      omega (arith, count_last is_on xs x, no, idle.none);
}

-- where none runs here, none runs in the host below
pub idle_below : (children : List Kept) → ((k : ℕ) → runs_outside children k ≡ false) → (k : ℕ)
    → is_alive children k ≡ false
idle_below children idle k = of (slice_get children k) (idle k)
  where
    off : (alive running : Bool) → (alive ≡ true → running ≡ true) → running ≡ false → alive ≡ false
    off true running only is = sym (only refl) ∙ is
    off false running only is = refl

    of : (found : Option Kept) → unwrap_or (option_map (λ (kept : Kept). kept.running) found) false ≡ false
        → unwrap_or (option_map (λ (kept : Kept). kept.life.alive) found) false ≡ false
    of None is = refl
    of (Some kept) is = off kept.life.alive kept.running kept.only is
