-- The origins that are due are one list.
use Rattle.std.proofs.Common.{◌≡◌, ℕ, suc, ◌+◌, ◌/◌, ◌<◌, ◌≤◌, ◌⊎◌, inl, inr, ◌==◌, Bool, true, false, not, List, [], ◌∷◌, map, length, take, refl, sym, ap, subst, ◌∙◌, Option, Some, None, slice_get, Contains, arith, eqb-true, if◌then◌else◌}
use Rattle.std.proofs.lemmas.Bool.{cases_lt, true≢false}
use Rattle.std.specs.Cmp.{second_so}
use Rattle.std.specs.Cmp.Lexicographic.{slice_cmp, nat_list_cmp_total}
use Rattle.std.specs.List.{list_any, position}
use Rattle.std.specs.Option.{option_map}
use Rattle.std.specs.Ordering.{nat_cmp}
use Rattle.std.proofs.lemmas.Map.Keys.{any_passes_from_place}
use Rattle.lemmas.proofs.Ascending.{same_list}
use Rattle.lemmas.proofs.Members.{member_at, place_of, get_take}
use Rattle.lemmas.proofs.Options.{same_some}
use Rattle.task_model.specs.Known.{same_numbers}
use Rattle.task_model.specs.declared.task.Task.{Task}
use Rattle.transcript_model.proofs.LegalNumberLemmas.{waiting_of}
use Rattle.transcript_model.specs.Legal.{IsLegal, is_ask_of, is_answer_to}
use Rattle.transcript_model.specs.Outcomes.{AreOrigins, IsOrigin, has_value, tuple_with}
use Rattle.transcript_model.specs.Transcript.{tuples_in}
use Rattle.transcript_model.specs.declared.entry.Call.{Call}
use Rattle.transcript_model.specs.declared.entry.Entry.{Entry}
use Rattle.transcript_model.specs.declared.entry.Entry.TheVariants as entry
use Rattle.transcript_model.specs.declared.outcome.Origin.{Origin}

-- ---- a request is answered once

not_both : (a : Bool) → a ≡ true → not a ≡ true → ⊥
not_both true first second = absurd (cc)
not_both false first second = absurd (cc)

answered_before : (version : ℕ) (task : Task) (entries : List Entry) (n j k : ℕ) (e f : Entry)
    → IsLegal version task entries
    → slice_get entries j ≡ Some e → slice_get entries k ≡ Some f → is_answer_to n e ≡ true → is_answer_to n f ≡ true → j < k → ⊥
answered_before version task entries n j k e f legal at_j at_k first second lt =
    let open_there = waiting_of version task (take k entries) n f (legal k f at_k) second in
    let unanswered = second_so (list_any (is_ask_of n) (take k entries)) (not (list_any (is_answer_to n) (take k entries))) open_there in
    not_both (list_any (is_answer_to n) (take k entries))
    (any_passes_from_place (is_answer_to n) (take k entries) j e (get_take entries j k e at_j lt) first) unanswered

pub answered_once : (version : ℕ) (task : Task) (entries : List Entry) (n j k : ℕ) (e f : Entry)
    → IsLegal version task entries
    → slice_get entries j ≡ Some e → slice_get entries k ≡ Some f → is_answer_to n e ≡ true → is_answer_to n f ≡ true → e ≡ f
answered_once version task entries n j k e f legal at_j at_k first second =
    by (cases_lt j k) (cases_lt k j)
  where
    by : (j < k) ⊎ (k ≤ j) → (k < j) ⊎ (j ≤ k) → e ≡ f
    by (inl lt) q =
        absurd (answered_before version task entries n j k e f legal at_j at_k first second lt)
    by (inr ge) (inl lt) =
        absurd (answered_before version task entries n k j f e legal at_k at_j second first lt)
    by (inr ge) (inr le) =
        let same : j ≡ k = omega (arith, ge, le) in
        same_some (slice_get entries k) e f (ap (slice_get entries) (sym same) ∙ at_j) at_k

chosen : (b : Bool) (o : Option ℕ) (t : ℕ) → (if b then o else None) ≡ Some t → b ≡ true
chosen true o t e = refl
chosen false o t e = absurd (cc)

-- a yield with the value answers the request
found_answers : (value : List ℕ) (n t : ℕ) (e : Entry) → tuple_with value n e ≡ Some t
    → is_answer_to n e ≡ true
found_answers value n t (entry.Got number tuples values) is =
    chosen (n == number)
    (option_map (λ place. place + 1) (position (list_any (same_numbers value)) (tuples_in (length values / tuples) tuples values))) t is
found_answers value n t e is = absurd (cc)

-- ---- one origin

module _ (version : ℕ) (task : Task) (entries : List Entry) (legal : IsLegal version task entries) where
  tuple_once : (value : List ℕ) (n s t : ℕ) (e f : Entry) → Contains entries e → Contains entries f
      → tuple_with value n e ≡ Some s
      → tuple_with value n f ≡ Some t → s ≡ t
  tuple_once value n s t e f in_e in_f first second =
      let j = place_of entries e in_e in
      let k = place_of entries f in_f in
      let same = answered_once version task entries n j.0 k.0 e f legal j.1 k.1
      (found_answers value n s e first) (found_answers value n t f second) in
      same_some (tuple_with value n f) s t (ap (tuple_with value n) (sym same) ∙ first) second

  origin_once : (o p : Origin) → IsOrigin version entries o → IsOrigin version entries p
      → o.object ≡ p.object → o ≡ p
  origin_once o p first second same =
      let values : first.value ≡ second.value =
      let both : 35 ∷ first.value ≡ 35 ∷ second.value = sym first.named ∙ same ∙ second.named in cc in
      let low = first.first p.number (subst (λ v. has_value entries p.number v ≡ true) (sym values) second.there) in
      let high = second.first o.number (subst (λ v. has_value entries o.number v ≡ true) values first.there) in
      let numbers : o.number ≡ p.number = omega (arith, low, high) in
      let tuples = by values numbers (version == 1) refl in
      λ i. record { object = same i; number = numbers i; tuple = tuples i }
    where
      by : first.value ≡ second.value → o.number ≡ p.number → (b : Bool) → (version == 1) ≡ b
          → o.tuple ≡ p.tuple
      by values numbers true one =
          first.one (eqb-true version 1 one) ∙ sym (second.one (eqb-true version 1 one))
      by values numbers false more =
          let other : version ≡ 1 → ⊥ = λ e. true≢false (sym (ap (λ n. n == 1) e) ∙ more) in
          let x = first.tuple other in
          let y = second.tuple other in
          tuple_once first.value o.number o.tuple p.tuple x.0 y.0 x.1 y.1 x.2
          (subst (λ n. tuple_with first.value n y.0 ≡ Some p.tuple)
          (sym numbers) (subst (λ v. tuple_with v p.number y.0 ≡ Some p.tuple) (sym values) y.2))

-- ---- one list

abbrev object_of : Origin → List ℕ
object_of o = o.object

same_members : (xs ys : List Origin) → map object_of xs ≡ map object_of ys
    → ((o p : Origin) → Contains xs o → Contains ys p → o.object ≡ p.object → o ≡ p) → xs ≡ ys
same_members [] [] e each = refl
same_members [] (y ∷ ys) e each = absurd (cc)
same_members (x ∷ xs) [] e each = absurd (cc)
same_members (x ∷ xs) (y ∷ ys) e each =
    let heads : x.object ≡ y.object = cc in
    let tails : map object_of xs ≡ map object_of ys = cc in
    let here = each x y (member_at (x ∷ xs) 0 x refl) (member_at (y ∷ ys) 0 y refl) heads in
    let rest = same_members xs ys tails (λ o p in_o in_p. each o p (behind x xs o in_o) (behind y ys p in_p)) in
    λ i. here i ∷ rest i
  where
    behind : (w : Origin) (ws : List Origin) (z : Origin) → Contains ws z → Contains (w ∷ ws) z
    behind w ws z there = let p = place_of ws z there in member_at (w ∷ ws) (suc p.0) z p.1

pub origins_once : (version : ℕ) (task : Task) (entries : List Entry) (calls : List Call) (xs ys : List Origin)
    → IsLegal version task entries → AreOrigins version entries calls xs → AreOrigins version entries calls ys → xs ≡ ys
origins_once version task entries calls xs ys legal first second =
    let names = same_list (slice_cmp nat_cmp) nat_list_cmp_total (map object_of xs) (map object_of ys) first.ascend second.ascend
    (λ z m. (second.each z).1 ((first.each z).0 m)) (λ z m. (first.each z).1 ((second.each z).0 m)) in
    same_members xs ys names (λ o p in_o in_p. origin_once version task entries legal o p (first.origins o in_o) (second.origins p in_p))
