-- A call on one of many generators.
use Rattle.std.proofs.Common.{◌≡◌, ◌≢◌, ◌⊎◌, inl, inr, ℕ, zero, suc, ◌<◌, Bool, true, false, eqb, is_ok, List, [], ◌∷◌, length, get_or, Option, Some, None, Result, Ok, Err, MatchResult, option_map, slice_get, refl, sym, ap, ◌∙◌, subst, arith}
use Rattle.std.proofs.Math.ListN.{set}
use Rattle.std.proofs.lemmas.Bool.Decides.{eqb_tells}
use Rattle.std.proofs.lemmas.Iterator.Adapters.{option_map_id}
use Rattle.std.proofs.lemmas.Option.{slice_get_read}
use Rattle.io_world.specs.Faults.{last_count, Counts}
use Rattle.io_world.specs.Talks.{Talk, Becomes, Same}
use Rattle.io_world.specs.declared.host.HostFault.{HostFault}
use Rattle.io_world.specs.declared.host.HostFault.TheVariants.{Failed}
use Rattle.io_world.specs.declared.host.TheConstants.{CHILDREN}
use Rattle.gen_host.proofs.MembersLemmas.{caused}
use Rattle.gen_host.specs.Calls.{CallsMember, CallsOne}
use Rattle.gen_host.specs.Members.{at_member, at_members}

get_set_same : {B : Type 0} (xs : List B) (i : ℕ) (y : B) → i < length xs → slice_get (set xs i y) i ≡ Some y
get_set_same [] i y within = absurd (omega arith)
get_set_same (x ∷ xs) zero y within = refl
get_set_same (x ∷ xs) (suc i) y within = get_set_same xs i y (omega arith)

get_set_other : {B : Type 0} (xs : List B) (i k : ℕ) (y : B) → k ≢ i → slice_get (set xs i y) k ≡ slice_get xs k
get_set_other [] i k y apart = refl
get_set_other (x ∷ xs) zero zero y apart = absurd (apart refl)
get_set_other (x ∷ xs) zero (suc k) y apart = refl
get_set_other (x ∷ xs) (suc i) zero y apart = refl
get_set_other (x ∷ xs) (suc i) (suc k) y apart = get_set_other xs i k y (λ e. apart (ap suc e))

-- a member of which the same is told leaves what is told at each place
at_same : {A B : Type 0} (none : A) (value : B → A) (xs : List B) (i k : ℕ) (y d : B)
    → value y ≡ value (get_or xs i d)
    → at_members none value (set xs i y) k ≡ at_members none value xs k
at_same none value [] i k y d e = refl
at_same none value (x ∷ xs) zero zero y d e = e
at_same none value (x ∷ xs) zero (suc k) y d e = refl
at_same none value (x ∷ xs) (suc i) zero y d e = refl
at_same none value (x ∷ xs) (suc i) (suc k) y d e = at_same none value xs i k y d e

-- one member was called, and put in its place again
pub calls_member : {B T : Type 0} (running : B → Bool) (spoken : B → Option Talk) (faults : B → ℕ) (child : ℕ) (now : Bool)
    (say : T → Talk → Talk) (xs : List B) (old new : B) (result : Result T HostFault)
    → length xs ≡ CHILDREN → child < CHILDREN → old ≡ get_or xs child old
    → CallsOne running spoken faults now say old new result
    → CallsMember running spoken faults child now say xs (set xs child new) result
calls_member {B} {T} running spoken faults child now say xs old new result size within same called =
    let was : slice_get xs child ≡ Some old = slice_get_read xs CHILDREN child old (sym size) within same in
    let is : slice_get (set xs child new) child ≡ Some new = get_set_same xs child new (omega arith) in
    let of : (r : Result T HostFault)
    → MatchResult r (λ n. spoken new ≡ option_map (say n) (spoken old)) (λ _. spoken new ≡ spoken old)
    → MatchResult r
    (λ n. Becomes child (option_map (say n) (at_members None spoken xs child)) (at_members None spoken xs)
    (at_members None spoken (set xs child new)))
    (λ _. Same (at_members None spoken xs) (at_members None spoken (set xs child new))) = elim [
      | Ok n ↦ λ said. record {
        here = ap (at_member None spoken) is ∙ said ∙ ap (option_map (say n)) (sym (ap (at_member None spoken) was));
        others = λ k apart. ap (at_member None spoken) (get_set_other xs child k new apart);
      }
      | Err e ↦ λ said k. at_same None spoken xs child k new old (said ∙ ap spoken same)
    ] in
    record {
      runs = record {
        here = ap (at_member false running) is ∙ called.runs;
        others = λ k apart. ap (at_member false running) (get_set_other xs child k new apart);
      };
      said = of result called.said;
      cause = caused CHILDREN last_count Failed faults xs child old new result size within same called.cause;
      counts = subst (λ n. Counts Failed last_count (at_members 0 faults xs child) n result) (sym (ap (at_member 0 faults) is))
          (subst (λ n. Counts Failed last_count n (faults new) result) (sym (ap (at_member 0 faults) was)) called.counts);
      others = λ k apart. get_set_other xs child k new apart;
    }

-- ---- what a host tells of it

-- where that was so before, all stays
pub stays_so : {A : Type 0} (child : ℕ) (value : A) (old new : ℕ → A) → old child ≡ value → Becomes child value old new
    → Same old new
stays_so child value old new was becomes k = of (eqb_tells k child) where
  of : ((eqb k child ≡ true) × (k ≡ child)) ⊎ ((eqb k child ≡ false) × (k ≢ child)) → new k ≡ old k
  of (inl p) = ap new p.1 ∙ becomes.here ∙ sym was ∙ ap old (sym p.1)
  of (inr p) = becomes.others k p.1

pub start_runs : {T E : Type 0} (result : Result T E) (child : ℕ) (old new : ℕ → Bool) → old child ≡ false
    → Becomes child (is_ok result) old new
    → MatchResult result (λ _. Becomes child true old new) (λ _. Same old new)
start_runs (Ok u) child old new idle becomes = becomes
start_runs (Err e) child old new idle becomes = stays_so child false old new idle becomes

pub stop_said : {T E : Type 0} (result : Result T E) (child : ℕ) (old new : ℕ → Option Talk)
    → MatchResult result (λ _. Becomes child (option_map (λ (talk : Talk). talk) (old child)) old new) (λ _. Same old new)
    → Same old new
stop_said (Ok u) child old new said = stays_so child _ old new (sym (option_map_id (old child))) said
stop_said (Err e) child old new said = said
