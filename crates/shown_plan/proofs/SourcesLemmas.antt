-- The source of a value, entry after entry.
use Rattle.std.proofs.Common.{◌≡◌, ℕ, ◌+◌, ◌<◌, ◌≤◌, arith, true, false, ◌||◌, ◌⊎◌, inl, inr, List, [], ◌∷◌, ◌++◌, length, take, get_or, refl, sym, subst, ap, ◌∙◌, Option, None, Some, IfSome, IfNone, eqb-true, eq-eqb}
use Rattle.std.proofs.lemmas.Bool.{or_cases, or_left, or_right, both_ways}
use Rattle.std.proofs.lemmas.List.{take_more}
use Rattle.std.proofs.lemmas.List.Elements.{Contains-append_left, Contains-append_right}
use Rattle.std.proofs.lemmas.List.Folds.{list_any-append}
use Rattle.transcript_model.specs.Outcomes.{has_value}
use Rattle.transcript_model.specs.declared.entry.Entry.{Entry}
use Rattle.shown_plan.specs.Sources.{IsSource, IsSourceIn, IsBest}
use Rattle.shown_plan.specs.declared.source.Source.{Source}

-- ---- one entry more

pub value_next : (entries : List Entry) (e : Entry) (n : ℕ) (value : List ℕ)
    → has_value (entries ++ e ∷ []) n value ≡ (has_value entries n value || has_value (e ∷ []) n value)
value_next entries e n value = list_any-append _ entries (e ∷ [])

module _ (entries : List Entry) (e : Entry) (value : List ℕ) where
  -- what is there before is there after
  value_before : (n : ℕ) → has_value entries n value ≡ true
      → has_value (entries ++ e ∷ []) n value ≡ true
  value_before n h = value_next entries e n value ∙ or_left _ _ h

  value_here : (n : ℕ) → has_value (e ∷ []) n value ≡ true
      → has_value (entries ++ e ∷ []) n value ≡ true
  value_here n h = value_next entries e n value ∙ or_right _ _ h

  value_cases : (n : ℕ) → has_value (entries ++ e ∷ []) n value ≡ true
      → (has_value entries n value ≡ true) ⊎ (has_value (e ∷ []) n value ≡ true)
  value_cases n h = or_cases _ _ (sym (value_next entries e n value) ∙ h)

  none_next : ((n : ℕ) → has_value entries n value ≡ false)
      → ((n : ℕ) → has_value (e ∷ []) n value ≡ false) → (n : ℕ)
      → has_value (entries ++ e ∷ []) n value ≡ false
  none_next before here n = value_next entries e n value ∙ (λ i. before n i || here n i)

  -- the entry doesn't have the value
  kept_none : (source : Source) → IsSource entries value source
      → ((n : ℕ) → has_value (e ∷ []) n value ≡ false)
      → IsSource (entries ++ e ∷ []) value source
  kept_none source s here = record {
    there = value_before source.number s.there;
    first = λ n h. elim (value_cases n h) [ inl before ↦ s.first n before | inr now ↦ absurd (both_ways _ (here n) now) ];
    tuple = (s.tuple.0, Contains-append_left entries (e ∷ []) s.tuple.0 s.tuple.1, s.tuple.2);
  }

  -- the entry has the value, for no lesser request
  kept_some : (source found : Source) → IsSource entries value source → IsSourceIn e value found
      → source.number ≤ found.number
      → IsSource (entries ++ e ∷ []) value source
  kept_some source found s f le = record {
    there = value_before source.number s.there;
    first = λ n h. elim (value_cases n h) [
      | inl before ↦ s.first n before
      | inr now ↦ let same : n ≡ found.number = eqb-true n found.number (sym (f.there n) ∙ now) in omega (arith, le, same)
    ];
    tuple = (s.tuple.0, Contains-append_left entries (e ∷ []) s.tuple.0 s.tuple.1, s.tuple.2);
  }

  -- the entry has the value, for the least request
  taken : (found : Source) → IsSourceIn e value found
      → ((n : ℕ) → has_value entries n value ≡ true → found.number ≤ n)
      → IsSource (entries ++ e ∷ []) value found
  taken found f before = record {
    there = value_here found.number (f.there found.number ∙ eq-eqb found.number found.number refl);
    first = λ n h. elim (value_cases n h) [
      | inl old ↦ before n old
      | inr now ↦ let same : n ≡ found.number = eqb-true n found.number (sym (f.there n) ∙ now) in omega (arith, same)
    ];
    tuple = (e, Contains-append_right entries (e ∷ []) e (0, omega arith, refl), f.tuple);
  }

  pub best_next : (best found result : Option Source) → IsBest entries value best
      → IfNone found ((n : ℕ) → has_value (e ∷ []) n value ≡ false) → IfSome found (IsSourceIn e value) → (result ≡ best) ⊎ (result ≡ found)
      → IfSome result (λ (least : Source). IfSome best (λ (source : Source). least.number ≤ source.number))
      → IfSome result (λ (least : Source). IfSome found (λ (source : Source). least.number ≤ source.number))
      → IfNone result ((best ≡ None) × (found ≡ None)) → IsBest (entries ++ e ∷ []) value result
  best_next None None None b none some one lb lf nn =
      record { some = tt; none = none_next b.none none }
  best_next None None (Some r) b none some one lb lf nn =
      elim one [ inl h ↦ absurd (cc) | inr h ↦ absurd (cc) ]
  best_next (Some s) found None b none some one lb lf nn =
      let no : Some s ≡ None = nn.0 in absurd (cc)
  best_next None (Some f) None b none some one lb lf nn =
      let no : Some f ≡ None = nn.1 in absurd (cc)
  best_next None (Some f) (Some r) b none some one lb lf nn = elim one [
    | inl h ↦ absurd (cc)
    | inr h ↦ let same : r ≡ f = cc in
        record {
          some = subst (IsSource (entries ++ e ∷ []) value) (sym same) (taken f some (λ n there. absurd (both_ways _ (b.none n) there)));
          none = tt;
        }
  ]
  best_next (Some s) None (Some r) b none some one lb lf nn = elim one [
    | inl h ↦ let same : r ≡ s = cc in
        record { some = subst (IsSource (entries ++ e ∷ []) value) (sym same) (kept_none s b.some none); none = tt }
    | inr h ↦ absurd (cc)
  ]
  best_next (Some s) (Some f) (Some r) b none some one lb lf nn = elim one [
    | inl h ↦ let same : r ≡ s = cc in
        record {
          some =
              subst (IsSource (entries ++ e ∷ []) value)
              (sym same) (kept_some s f b.some some (subst (λ (x : Source). x.number ≤ f.number) same lf));
          none = tt;
        }
    | inr h ↦ let same : r ≡ f = cc in
        record {
          some =
              subst (IsSource (entries ++ e ∷ []) value) (sym same)
              (taken f some (λ n there.
              let below : f.number ≤ s.number = subst (λ (x : Source). x.number ≤ s.number) same lb in
              omega (arith, below, b.some.first n there)));
          none = tt;
        }
  ]

  -- the entry was looked at before
  pub best_again : (best found result : Option Source) → IsBest (entries ++ e ∷ []) value best
      → IfSome found (IsSourceIn e value) → (result ≡ best) ⊎ (result ≡ found)
      → IfSome result (λ (least : Source). IfSome best (λ (source : Source). least.number ≤ source.number))
      → IfNone result ((best ≡ None) × (found ≡ None)) → IsBest (entries ++ e ∷ []) value result
  best_again best found result b some one lb nn = elim one [
    | inl h ↦ subst (IsBest (entries ++ e ∷ []) value) (sym h) b
    | inr h ↦ other best found b some
        (subst (λ (o : Option Source). IfSome o (λ (least : Source). IfSome best (λ (source : Source). least.number ≤ source.number))) h lb)
        (subst (λ (o : Option Source). IfNone o ((best ≡ None) × (found ≡ None))) h nn) h
  ]
    where
      other : (best found : Option Source) → IsBest (entries ++ e ∷ []) value best
          → IfSome found (IsSourceIn e value)
          → IfSome found (λ (least : Source). IfSome best (λ (source : Source). least.number ≤ source.number))
          → IfNone found ((best ≡ None) × (found ≡ None)) → result ≡ found → IsBest (entries ++ e ∷ []) value result
      other best None b some lb nn h = subst (IsBest (entries ++ e ∷ []) value) (nn.0 ∙ sym h) b
      other None (Some f) b some lb nn h =
          absurd (both_ways _ (b.none f.number) (value_here f.number (some.there f.number ∙ eq-eqb f.number f.number refl)))
      other (Some s) (Some f) b some lb nn h = subst (IsBest (entries ++ e ∷ []) value) (sym h) (record {
        some = record {
          there = value_here f.number (some.there f.number ∙ eq-eqb f.number f.number refl);
          first = λ n there. omega (arith, lb, b.some.first n there);
          tuple = (e, Contains-append_right entries (e ∷ []) e (0, omega arith, refl), some.tuple);
        };
        none = tt;
      })

pub next_entry : (entries : List Entry) (i : ℕ) (e : Entry) → i < length entries
    → e ≡ get_or entries i e
    → take (i + 1) entries ≡ take i entries ++ e ∷ []
next_entry entries i e lt is =
    take_more entries i e lt ∙ ap (λ x. take i entries ++ x ∷ []) (sym is)
