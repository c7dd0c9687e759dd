-- Skeletons: how many are kept.
use Rattle.std.proofs.Common.{◌≡◌, ℕ, ◌+◌, ◌*◌, ◌<◌, ◌≤◌, arith, Bool, true, false, cond, not, ◌&&◌, All, List, [], ◌∷◌, ◌++◌, length, get_or, slice_set, slice_get, count_by, refl, sym, subst, ap, ◌∙◌, Some}
use Rattle.std.proofs.lemmas.List.{append-nil, length-append, length-set}
use Rattle.std.proofs.lemmas.List.Elements.{All-append, All-set}
use Rattle.std.proofs.lemmas.List.Sums.{count_by-le-length, sum_by-set}
use Rattle.std.proofs.lemmas.Option.{slice_get-get_or, slice_get_within}
use Rattle.std.specs.List.{list_all}
use Rattle.solve_run.specs.Skeletons.{AreFewKept, idle_with, is_kept}
use Rattle.solve_run.proofs.DreamtLemmas.{idle_one}
use Rattle.solve_run.specs.Focusing.{idle_of}
use Rattle.lemmas.proofs.ListTests.{all_one}
use Rattle.lemmas.proofs.Counts.{count_joined, count_one}
use Rattle.skeletons.proofs.SkeletonLemmas.{last_picked}
use Rattle.task_model.specs.declared.stream.Instance.{Instance}
use Rattle.transcript_model.specs.Dreaming.{Sent, sent_instances}
use Rattle.transcript_model.specs.Turns.{IsPicked, Skeleton, is_given_up, with_pick}

-- ---- lists

pub at_all : {A : Type 0} (P : A → Type 0) (xs : List A) (k : ℕ) (x : A) → All P xs → slice_get xs k ≡ Some x → P x
at_all P xs k x all at =
    let lt = slice_get_within xs k x at in
    let both : Some (get_or xs k x) ≡ Some x = sym (slice_get-get_or xs k x lt) ∙ at in
    let same : get_or xs k x ≡ x = cc in
    subst P same (all k x lt)

set_end : {A : Type 0} (xs : List A) (x y : A) → slice_set (xs ++ x ∷ []) (length xs) y ≡ xs ++ y ∷ []
set_end [] x y = refl
set_end (z ∷ zs) x y = ap (λ ws. z ∷ ws) (set_end zs x y)

-- ---- which is picked

-- a new dream is picked at once, where each other was picked before
pub new_picked : (xs : List Skeleton) (x : Skeleton) (asked : ℕ) → x.retired ≡ false → x.picks ≡ 0 → AreFewKept xs asked
    → IsPicked (xs ++ x ∷ []) (length xs) x
new_picked xs x asked kept none h =
    last_picked xs x kept (λ k other at is.
    let low = at_all (λ (s : Skeleton). s.retired ≡ false → (1 ≤ s.picks) × (s.picks ≤ asked)) xs k other h.picked at is in
    omega (arith, none, low.0))

-- ---- how many are kept

-- the one that is picked, after a pick by which these were asked
abbrev pub after_pick : Skeleton → List Sent → Skeleton
after_pick s sent = record { entries = s.entries; real = s.real; picks = s.picks + 1; retired = is_given_up sent }

picked_once : (s : Skeleton) (sent : List Sent) (asked now : ℕ) → s.picks ≤ asked → now ≡ asked + length sent
    → (after_pick s sent).retired ≡ false → (1 ≤ (after_pick s sent).picks) × ((after_pick s sent).picks ≤ now)
picked_once s [] asked now low is kept = absurd (let bad : true ≡ false = kept in cc)
picked_once s (first ∷ sent) asked now low is kept = (omega arith, omega (arith, low, is))

-- an old one was picked
pub kept_old : (xs : List Skeleton) (place : ℕ) (s : Skeleton) (sent : List Sent) (asked now : ℕ) → AreFewKept xs asked
    → s.picks ≤ asked → now ≡ asked + length sent → AreFewKept (with_pick xs place s sent) now
kept_old xs place s sent asked now h low is = record {
  few = omega (arith, length-set xs place (after_pick s sent), h.few, is);
  picked = All-set (λ (x : Skeleton). x.retired ≡ false → (1 ≤ x.picks) × (x.picks ≤ now)) xs place (after_pick s sent)
      (picked_once s sent asked now low is)
      (λ k d lt kept. let q = h.picked k d lt kept in (q.0, omega (arith, q.1, is)));
}

-- a new one was picked, and something was asked
pub kept_new : (xs : List Skeleton) (s : Skeleton) (sent : List Sent) (asked now : ℕ) → AreFewKept xs asked
    → s.picks ≡ 0 → now ≡ asked + length sent → 0 < length sent → AreFewKept (with_pick (xs ++ s ∷ []) (length xs) s sent) now
kept_new xs s sent asked now h none is some =
    subst (λ ys. AreFewKept ys now) (sym (set_end xs s (after_pick s sent))) (record {
      few = omega (arith, length-append xs (after_pick s sent ∷ []), h.few, is, some);
      picked = All-append (λ (x : Skeleton). x.retired ≡ false → (1 ≤ x.picks) × (x.picks ≤ now)) xs (after_pick s sent ∷ [])
          (λ k d lt kept. let q = h.picked k d lt kept in (q.0, omega (arith, q.1, is)))
          (all_one (λ (x : Skeleton). x.retired ≡ false → (1 ≤ x.picks) × (x.picks ≤ now)) (after_pick s sent)
          (picked_once s sent asked now (omega (arith, none)) is));
    })

-- ---- how many turns may ask nothing

pub idle_low : (xs : List Skeleton) (tried : List Instance) (asked : ℕ) → AreFewKept xs asked → idle_with xs tried ≤ 2 * asked + 1
idle_low xs tried asked h = omega (arith, count_by-le-length is_kept xs, h.few, idle_one tried)

abbrev kept_once : Bool → ℕ
kept_once b = cond b 1 0

-- a pick that asked nothing gives up a skeleton
pub idle_falls : (xs : List Skeleton) (place : ℕ) (s : Skeleton) (tried : List Instance) → IsPicked xs place s
    → idle_with (with_pick xs place s []) (tried ++ sent_instances []) < idle_with xs tried
idle_falls xs place s tried is =
    let lt = slice_get_within xs place s is.there in
    let both : Some (get_or xs place s) ≡ Some s = sym (slice_get-get_or xs place s lt) ∙ is.there in
    let same : get_or xs place s ≡ s = cc in
    let was : kept_once (is_kept (get_or xs place s)) ≡ 1 =
    ap (λ (x : Skeleton). kept_once (is_kept x)) same ∙ ap (λ b. kept_once (not b)) is.kept in
    let set = sum_by-set (λ (x : Skeleton). cond (is_kept x) 1 0) xs place (after_pick s []) s lt in
    let left : tried ++ [] ≡ tried = append-nil tried in
    omega (arith, set, was, ap idle_of left)

-- where all are given up none is kept
pub none_kept : (xs : List Skeleton) → list_all (λ (s : Skeleton). s.retired) xs ≡ true → count_by is_kept xs ≡ 0
none_kept [] all = refl
none_kept (x ∷ xs) all = by x.retired refl (none_kept xs)
  where
    by : (b : Bool) → x.retired ≡ b → (list_all (λ (s : Skeleton). s.retired) xs ≡ true → count_by is_kept xs ≡ 0)
        → count_by is_kept (x ∷ xs) ≡ 0
    by true is rest =
        let later : list_all (λ (s : Skeleton). s.retired) xs ≡ true =
        sym (ap (λ b. b && list_all (λ (s : Skeleton). s.retired) xs) is) ∙ all in
        let first : count_by is_kept (x ∷ []) ≡ 0 = count_one is_kept x ∙ ap (λ b. cond (not b) 1 0) is in
        omega (arith, count_joined is_kept (x ∷ []) xs, first, rest later)
    by false is rest =
        absurd (let bad : false ≡ true = sym (ap (λ b. b && list_all (λ (s : Skeleton). s.retired) xs) is) ∙ all in cc)
