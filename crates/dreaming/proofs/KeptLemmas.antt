-- What is kept of a list where some of it is left out.
use Rattle.std.proofs.Common.{◌≡◌, ℕ, suc, ◌+◌, ◌-◌, ◌<◌, ◌≤◌, ◌⊎◌, inl, inr, arith, true, false, cond, List, [], ◌∷◌, ◌++◌, length, take, drop, refl, sym, ap, subst, ◌∙◌, Some, slice_get, Contains}
use Rattle.std.proofs.Math.Nat.{le-suc_iff}
use Rattle.std.proofs.lemmas.List.{length-append, length-take-le, length-drop}
use Rattle.std.proofs.lemmas.List.Elements.{All-head, All-tail, Contains-append_cases}
use Rattle.std.specs.Cmp.{nat_cmp_is}
use Rattle.std.specs.List.{cons_option}
use Rattle.std.specs.Ordering.{nat_cmp}
use Rattle.std.specs.Prelude.{Bool}
use Rattle.std.specs.declared.cmp.Ordering.TheVariants.{Less, Equal}
use Rattle.turn_laws.proofs.DreamSupportLemmas.{support_none, support_front, support_after}
use Rattle.lemmas.proofs.Ascending.{contains_none, contains_cases, contains_later}
use Rattle.lemmas.proofs.ListTests.{get_there, all_by_place}
use Rattle.lemmas.proofs.Members.{push_cases, get_single, from_take, place_of}
use Rattle.lemmas.specs.Lists.{AreAscending}
use Rattle.optimistic_set.specs.Dreamable.{Dreamable}
use Rattle.task_model.specs.Dreams.{SupposedEntry, is_supported, HaveSupport, supported_after, without_entry}
use Rattle.task_model.specs.Known.{Known}
use Rattle.task_model.specs.declared.task.GroundAction.{GroundAction}
use Rattle.task_model.specs.declared.task.Task.{Task}
use Rattle.dreaming.proofs.PartLemmas.{has_support_is}
use Rattle.dreaming.proofs.PlacesLemmas.{AreBelow, AreBefore, at_place, below_front, below_rest, entries_pushed, entries_front, entries_rest, ascend_push, ascend_front, ascend_rest, front_before, from_drop}
use Rattle.dreaming.specs.Parts.{entries_at}
use Rattle.dreaming.specs.Thinning.{has_support, supported_places, places_without, IsValidWith, IsEssential, IsKeptOf, AreNeededOf}
use Rattle.dreaming.specs.declared.trial.Kept.{Kept}

module _ (task : Task) (known : Known) (list : List SupposedEntry) where
  -- what holds of what is left, whichever of the rest has support
  pub below_push : (kept : List ℕ) (p : ℕ) → AreBelow list kept → p < length list → AreBelow list (kept ++ p ∷ [])
  below_push kept p below lt = all_by_place (λ place. place < length list) (kept ++ p ∷ []) each
    where
      each : (k q : ℕ) → slice_get (kept ++ p ∷ []) k ≡ Some q → q < length list
      each k q at =
          elim (push_cases kept p k q at) [
            | inl early ↦ at_place list kept below k q early
            | inr last ↦ subst (λ n. n < length list) (sym last.1) lt
          ]

  places_below : (kept rest : List ℕ) → AreBelow list kept → AreBelow list rest
      → AreBelow list (supported_places task known list kept rest)
  places_below kept [] below others = below
  places_below kept (p ∷ ps) below others =
      elim (has_support task known list kept p) as (λ b. AreBelow list
      (cond b (supported_places task known list (kept ++ p ∷ []) ps) (supported_places task known list kept ps))) [
        | true ↦ places_below (kept ++ p ∷ []) ps
            (below_push kept p below (All-head (λ place. place < length list) p ps others))
            (All-tail (λ place. place < length list) p ps others)
        | false ↦ places_below kept ps below (All-tail (λ place. place < length list) p ps others)
      ]

  places_few : (kept rest : List ℕ) → length (supported_places task known list kept rest) ≤ length kept + length rest
  places_few kept [] = omega arith
  places_few kept (p ∷ ps) =
      elim (has_support task known list kept p) as (λ b. length
      (cond b (supported_places task known list (kept ++ p ∷ []) ps) (supported_places task known list kept ps))
      ≤ length kept + length (p ∷ ps)) [
        | true ↦ omega (arith, places_few (kept ++ p ∷ []) ps, length-append kept (p ∷ []))
        | false ↦ omega (arith, places_few kept ps)
      ]

  places_ascend : (kept rest : List ℕ) → AreAscending nat_cmp kept → AreAscending nat_cmp rest → AreBefore kept rest
      → AreAscending nat_cmp (supported_places task known list kept rest)
  places_ascend kept [] ascend others before = ascend
  places_ascend kept (p ∷ ps) ascend others before =
      elim (has_support task known list kept p) as (λ b. AreAscending nat_cmp
      (cond b (supported_places task known list (kept ++ p ∷ []) ps) (supported_places task known list kept ps))) [
        | true ↦ places_ascend (kept ++ p ∷ []) ps (ascend_push kept p ascend first) tail pushed
        | false ↦ places_ascend kept ps ascend tail later
      ]
    where
      first : AreBefore kept (p ∷ [])
      first i j a b at_i at_j =
          let here = get_single p b j at_j in before i 0 a b at_i (ap Some here.1)

      tail : AreAscending nat_cmp ps
      tail i j a b lt at_i at_j = others (suc i) (suc j) a b (omega (arith, lt)) at_i at_j

      later : AreBefore kept ps
      later i j a b at_i at_j = before i (suc j) a b at_i at_j

      pushed : AreBefore (kept ++ p ∷ []) ps
      pushed i j a b at_i at_j =
          elim (push_cases kept p i a at_i) [
            | inl early ↦ later i j a b early at_j
            | inr last ↦ others 0 (suc j) a b (omega arith) (ap Some (sym last.1)) at_j
          ]

  either : (kept : List ℕ) (p : ℕ) (ps : List ℕ) (e : SupposedEntry) → slice_get list p ≡ Some e
      → entries_at list (supported_places task known list (kept ++ p ∷ []) ps)
      ≡ supported_after task known list (entries_at list (kept ++ p ∷ [])) (entries_at list ps)
      → entries_at list (supported_places task known list kept ps)
      ≡ supported_after task known list (entries_at list kept) (entries_at list ps)
      → (b : Bool) → entries_at list
      (cond b (supported_places task known list (kept ++ p ∷ []) ps) (supported_places task known list kept ps))
      ≡ cond b (supported_after task known list (entries_at list kept ++ e ∷ []) (entries_at list ps))
      (supported_after task known list (entries_at list kept) (entries_at list ps))
  either kept p ps e at more fewer true =
      more ∙ ap (λ es. supported_after task known list es (entries_at list ps)) (entries_pushed list kept p e at)
  either kept p ps e at more fewer false = fewer

  pub entries_supported : (kept rest : List ℕ) → AreBelow list kept → AreBelow list rest
      → entries_at list (supported_places task known list kept rest)
      ≡ supported_after task known list (entries_at list kept) (entries_at list rest)
  entries_supported kept [] below others = refl
  entries_supported kept (p ∷ ps) below others =
      let lt = All-head (λ place. place < length list) p ps others in
      let tail = All-tail (λ place. place < length list) p ps others in
      let there = get_there list p lt in
      let more = entries_supported (kept ++ p ∷ []) ps (below_push kept p below lt) tail in
      let fewer = entries_supported kept ps below tail in
      ap (λ b. entries_at list
      (cond b (supported_places task known list (kept ++ p ∷ []) ps) (supported_places task known list kept ps)))
      (has_support_is task known list kept p there.0 there.1)
      ∙ either kept p ps there.0 there.1 more fewer (is_supported task known list (entries_at list kept) there.0)
      ∙ sym (ap (λ o. supported_after task known list (entries_at list kept) (cons_option o (entries_at list ps))) there.1)

  pub without_is : (places : List ℕ) (place : ℕ) → AreBelow list places
      → entries_at list (places_without task known list places place (place + 1))
      ≡ without_entry task known list (entries_at list places) place
  without_is places place below =
      entries_supported (take place places) (drop (place + 1) places) (below_front list places place below)
      (below_rest list places (place + 1) below)
      ∙ (λ i. supported_after task known list (entries_front list places place below i) (entries_rest list places (place + 1) below i))

  pub without_fewer : (places : List ℕ) (from to : ℕ) → from < to → to ≤ length places
      → length (places_without task known list places from to) < length places
  without_fewer places from to some most =
      omega (
        arith,
        some,
        most,
        places_few (take from places) (drop to places),
        length-take-le from places (omega (arith, some, most)),
        length-drop to places,
      )

  -- what is left is of these
  pub places_from : (kept rest : List ℕ) (q : ℕ) → Contains (supported_places task known list kept rest) q
      → Contains kept q ⊎ Contains rest q
  places_from kept [] q m = inl m
  places_from kept (p ∷ ps) q m =
      elim (has_support task known list kept p) as (λ b. Contains
      (cond b (supported_places task known list (kept ++ p ∷ []) ps) (supported_places task known list kept ps)) q
      → Contains kept q ⊎ Contains (p ∷ ps) q) [
        | true ↦ λ c. elim (places_from (kept ++ p ∷ []) ps q c) [
          | inl early ↦ elim (Contains-append_cases kept (p ∷ []) q early) [
            | inl old ↦ inl old
            | inr here ↦ elim (contains_cases p [] q here)
                [ inl same ↦ inr (0, omega arith, same) | inr none ↦ absurd (contains_none q none) ]
          ]
          | inr late ↦ inr (contains_later p ps q late)
        ]
        | false ↦ λ c. elim (places_from kept ps q c) [ inl early ↦ inl early | inr late ↦ inr (contains_later p ps q late) ]
      ] m

module _ (task : Task) (d : Dreamable) (steps : List GroundAction) where
  -- what is left without some of what is kept
  left_below : (old : Kept) (from to : ℕ) → IsKeptOf task d steps old
      → AreBelow d.list (places_without task d.base d.list old.places.items from to)
  left_below old from to h =
      places_below task d.base d.list (take from old.places.items) (drop to old.places.items)
      (below_front d.list old.places.items from h.below) (below_rest d.list old.places.items to h.below)

  left_support : (old : Kept) (from to : ℕ) → IsKeptOf task d steps old
      → HaveSupport task d.base d.list (entries_at d.list (places_without task d.base d.list old.places.items from to))
  left_support old from to h =
      subst (HaveSupport task d.base d.list)
      (sym (entries_supported task d.base d.list (take from old.places.items) (drop to old.places.items)
      (below_front d.list old.places.items from h.below) (below_rest d.list old.places.items to h.below)))
      (support_after task d.base d.list (entries_at d.list (take from old.places.items)) (entries_at d.list (drop to old.places.items))
      (subst (HaveSupport task d.base d.list) (sym (entries_front d.list old.places.items from h.below))
      (support_front task d.base d.list (entries_at d.list old.places.items) from h.support)))

  pub kept_is : (old new : Kept) (from to : ℕ) → IsKeptOf task d steps old → from ≤ to
      → new.places.items ≡ places_without task d.base d.list old.places.items from to
      → IsValidWith task d steps new.places.items new.cost → IsKeptOf task d steps new
  kept_is old new from to h few are valid = record {
    below = subst (AreBelow d.list) (sym are) (left_below old from to h);
    ascend = subst (AreAscending nat_cmp) (sym are)
        (places_ascend task d.base d.list (take from old.places.items) (drop to old.places.items)
        (ascend_front old.places.items from h.ascend) (ascend_rest old.places.items to h.ascend)
        (front_before old.places.items from to few h.ascend));
    support = subst (λ ps. HaveSupport task d.base d.list (entries_at d.list ps)) (sym are) (left_support old from to h);
    valid = valid;
  }

  -- of some places those that have support by then
  pub some_kept : (new : Kept) (places : List ℕ) → AreBelow d.list places → AreAscending nat_cmp places
      → new.places.items ≡ supported_places task d.base d.list [] places
      → IsValidWith task d steps new.places.items new.cost → IsKeptOf task d steps new
  some_kept new places below ascend are valid = record {
    below = subst (AreBelow d.list) (sym are) (places_below task d.base d.list [] places none below);
    ascend = subst (AreAscending nat_cmp) (sym are)
        (places_ascend task d.base d.list [] places (λ i j a b lt at_i at_j. absurd (cc)) ascend (λ i j a b at_i at_j. absurd (cc)));
    support = subst (λ ps. HaveSupport task d.base d.list (entries_at d.list ps)) (sym are)
        (subst (HaveSupport task d.base d.list) (sym (entries_supported task d.base d.list [] places none below))
        (support_after task d.base d.list [] (entries_at d.list places) (support_none task d.base d.list)));
    valid = valid;
  }
    where
      none : AreBelow d.list []
      none = all_by_place (λ place. place < length d.list) [] (λ k p at. absurd (cc))

-- without an entry that can't be left out the plan isn't valid
pub essential_needed : (task : Task) (d : Dreamable) (steps : List GroundAction) (old : Kept) (from to place : ℕ)
    → IsKeptOf task d steps old → Contains (take (to - from) (drop from old.places.items)) place → IsEssential task d steps place
    → AreNeededOf task d steps old.places.items from to
essential_needed task d steps old from to place h member essential cost valid =
    let places = old.places.items in
    let there = essential (places_without task d.base d.list places from to) cost (left_below task d steps old from to h)
    (left_support task d steps old from to h) valid in
    elim (places_from task d.base d.list (take from places) (drop to places) place there) [
      | inl early ↦
          let p = place_of (take from places) place early in
          let r = from_take places from p.0 place p.1 in
          apart p.0 (from + here) (omega (arith, r.0)) r.1 stands
      | inr late ↦
          let p = place_of (drop to places) place late in
          apart (from + here) (to + p.0) (omega (arith, within)) stands (from_drop to places p.0 place p.1)
    ]
  where
    m : (k : ℕ) × (slice_get (take (to - from) (drop from old.places.items)) k ≡ Some place)
    m = place_of (take (to - from) (drop from old.places.items)) place member

    here : ℕ
    here = m.0

    within : here < to - from
    within = (from_take (drop from old.places.items) (to - from) here place m.1).0

    stands : slice_get old.places.items (from + here) ≡ Some place
    stands = from_drop from old.places.items here place (from_take (drop from old.places.items) (to - from) here place m.1).1

    apart : (j k : ℕ) → j < k → slice_get old.places.items j ≡ Some place → slice_get old.places.items k ≡ Some place → ⊥
    apart j k less at_j at_k =
        let same : Less ≡ Equal = sym (h.ascend j k place place less at_j at_k) ∙ sym (nat_cmp_is place place Equal refl) in absurd (cc)

-- those up to here are needed, and so is this one
pub needed_next : (task : Task) (d : Dreamable) (steps : List GroundAction) (places : List ℕ) (from to : ℕ) → to ≡ from + 1
    → ((place : ℕ) → place < from → AreNeededOf task d steps places place (place + 1))
    → AreNeededOf task d steps places from to
    → (place : ℕ) → place < to → AreNeededOf task d steps places place (place + 1)
needed_next task d steps places from to next before here place lt =
    let within : place + 1 ≤ suc from = omega (arith, next, lt) in
    elim (le-suc_iff.0 within) [
      | inl early ↦ before place (omega (arith, early))
      | inr last ↦
          let same : from ≡ place = omega (arith, last) in
          let end : to ≡ place + 1 = omega (arith, last, next) in
          subst (λ n. AreNeededOf task d steps places place n) end (subst (λ n. AreNeededOf task d steps places n to) same here)
    ]
