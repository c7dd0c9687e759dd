-- Tables of values with their sources.
use Rattle.std.proofs.Common.{◌≡◌, ℕ, ◌≤◌, Bool, true, false, cond, ◌||◌, ◌&&◌, ◌==◌, arith, ◌⊎◌, inl, inr, List, [], ◌∷◌, ◌++◌, refl, sym, subst, ap, ◌∙◌, Option, None, Some, IfSome, IfNone}
use Rattle.std.proofs.lemmas.Bool.{or_left, or_right, both_ways}
use Rattle.std.proofs.lemmas.List.Folds.{list_any-append}
use Rattle.std.specs.Map.{lookup, set_value, KeepsOthers}
use Rattle.task_model.proofs.KnownLemmas.{numbers_decided}
use Rattle.task_model.specs.Known.{same_numbers}
use Rattle.transcript_model.specs.Names.{generated}
use Rattle.transcript_model.specs.Outcomes.{has_value}
use Rattle.transcript_model.specs.declared.entry.Entry.{Entry}
use Rattle.transcript_model.specs.declared.entry.Entry.TheVariants as entry
use Rattle.shown_plan.proofs.SourcesLemmas.{best_next, best_again}
use Rattle.shown_plan.specs.Sources.{HasBest, IsSourceIn, is_among}
use Rattle.shown_plan.specs.declared.source.Source.{Source}

pub same_value : (a b : List ℕ) → generated a ≡ generated b → a ≡ b
same_value a b e = cc

-- a value that is written leaves what other keys have
pub others_stay : {K V : Type 0} (shows : K → List ℕ) (value other : List ℕ) (es : List (K × V)) (w : V)
    → same_numbers other value ≡ false
    → lookup (λ k. same_numbers other (shows k)) (set_value (λ k. same_numbers value (shows k)) es w)
    ≡ lookup (λ k. same_numbers other (shows k)) es
others_stay shows value other [] w differs = refl
others_stay shows value other (e ∷ es) w differs =
    elim (same_numbers value (shows e.0)) as (λ b.
    same_numbers value (shows e.0) ≡ b
    → lookup (λ k. same_numbers other (shows k)) (cond b ((e.0, w) ∷ es) (e ∷ set_value (λ k. same_numbers value (shows k)) es w))
    ≡ lookup (λ k. same_numbers other (shows k)) (e ∷ es)) [
      | true ↦ λ same. let not : same_numbers other (shows e.0) ≡ false =
          ap (same_numbers other) (sym ((numbers_decided value (shows e.0)).0 same)) ∙ differs in
          rw not refl
      | false ↦ λ _. ap (λ r. cond (same_numbers other (shows e.0)) (Some e.1) r) (others_stay shows value other es w differs)
    ] refl

-- the source after an entry, whether it was looked at for this value before or not
pub noted : (before : List Entry) (e : Entry) (value : List ℕ) (best found result : Option Source)
    → HasBest before value (Some best) ⊎ HasBest (before ++ e ∷ []) value (Some best)
    → IfNone found ((n : ℕ) → has_value (e ∷ []) n value ≡ false) → IfSome found (IsSourceIn e value) → (result ≡ best) ⊎ (result ≡ found)
    → IfSome result (λ (least : Source). IfSome best (λ (source : Source). least.number ≤ source.number))
    → IfSome result (λ (least : Source). IfSome found (λ (source : Source). least.number ≤ source.number))
    → IfNone result ((best ≡ None) × (found ≡ None)) → HasBest (before ++ e ∷ []) value (Some result)
noted before e value best found result old none some one lb lf nn = elim old [
  | inl first ↦ best_next before e value best found result first none some one lb lf nn
  | inr again ↦ best_again before e value best found result again some one lb nn
]

-- an entry without the value
pub passed_by : (before : List Entry) (e : Entry) (value : List ℕ) (found : Option (Option Source))
    → ((n : ℕ) → has_value (e ∷ []) n value ≡ false)
    → HasBest before value found → HasBest (before ++ e ∷ []) value found
passed_by before e value None none h = h
passed_by before e value (Some None) none h =
    best_next before e value None None None h none tt (inl refl) tt tt (refl, refl)
passed_by before e value (Some (Some s)) none h =
    best_next before e value (Some s) None (Some s) h none tt (inl refl) (omega arith) tt tt

-- ---- the values that are sought

module _ {K : Type 0} (shows : K → List ℕ) where
  abbrev has : List ℕ → K → Bool
  has value key = same_numbers value (shows key)

  put_elsewhere : (old new : List (K × Option Source)) (key : K) (value : List ℕ)
      → KeepsOthers (λ a b. has (shows a) b) (has (shows key)) old new → same_numbers value (shows key) ≡ false
      → lookup (has value) new ≡ lookup (has value) old
  unfolding KeepsOthers
  put_elsewhere old new key value keeps differs =
      keeps (has value)
      (λ x y same. ap (λ v. same_numbers v (shows y)) ((numbers_decided value (shows x)).0 same))
      (λ k same. ap (same_numbers value) (sym ((numbers_decided (shows key) (shows k)).0 same)) ∙ differs)

  -- one generated object's value more is put in
  pub sought_next : (old new : List (K × Option Source)) (key : K) (name value : List ℕ) (rest : List (List ℕ))
      → name ≡ generated (shows key) → lookup (has (shows key)) new ≡ Some None
      → KeepsOthers (λ a b. has (shows a) b) (has (shows key)) old new
      → (lookup (has value) old ≡ Some None) ⊎ (is_among (name ∷ rest) (generated value) ≡ true)
      → (lookup (has value) new ≡ Some None) ⊎ (is_among rest (generated value) ≡ true)
  sought_next old new key name value rest named put keeps before =
      by (same_numbers value (shows key)) refl
    where
      by : (b : Bool) → same_numbers value (shows key) ≡ b
          → (lookup (has value) new ≡ Some None) ⊎ (is_among rest (generated value) ≡ true)
      by true same = inl (ap (λ v. lookup (has v) new) ((numbers_decided value (shows key)).0 same) ∙ put)
      by false differs = elim before [
        | inl there ↦ inl (put_elsewhere old new key value keeps differs ∙ there)
        | inr among ↦
            inr (ap (λ b. b || is_among rest (generated value)) (sym (ap (same_numbers (generated value)) named ∙ differs)) ∙ among)
      ]

-- ---- the values of one entry

-- the entry was taken into account where the value is among those that were looked at
pub record IsMidway (before : List Entry) (e : Entry) (seen : List (List ℕ)) (value : List ℕ)
    (found : Option (Option Source)) : Type 0 where
  pub taken : is_among seen value ≡ true → HasBest (before ++ e ∷ []) value found
  pub waits : is_among seen value ≡ false → HasBest before value found

module _ (before : List Entry) (e : Entry) (value : List ℕ) where
  pub midway_next : (seen : List (List ℕ)) (next : List ℕ) (old new : Option (Option Source)) → IsMidway before e seen value old
      → (same_numbers value next ≡ true → HasBest before value old ⊎ HasBest (before ++ e ∷ []) value old
      → HasBest (before ++ e ∷ []) value new)
      → (same_numbers value next ≡ false → new ≡ old)
      → IsMidway before e (seen ++ next ∷ []) value new
  midway_next seen next old new m here others =
      by (is_among seen value) refl (same_numbers value next) refl
    where
      split : is_among (seen ++ next ∷ []) value ≡ (is_among seen value || (same_numbers value next || false))
      split = list_any-append (same_numbers value) seen (next ∷ [])

      by : (a : Bool) → is_among seen value ≡ a → (b : Bool) → same_numbers value next ≡ b
          → IsMidway before e (seen ++ next ∷ []) value new
      by a ea true eb = record {
        taken = λ _. here eb (elim a as (λ x. is_among seen value ≡ x → HasBest before value old ⊎ HasBest (before ++ e ∷ []) value old)
            [ true ↦ λ t. inr (m.taken t) | false ↦ λ f. inl (m.waits f) ] ea);
        waits = λ f. absurd (both_ways _ f (split ∙ or_right _ _ (or_left _ _ eb)));
      }
      by true ea false eb = record {
        taken = λ _. subst (HasBest (before ++ e ∷ []) value) (sym (others eb)) (m.taken ea);
        waits = λ f. absurd (both_ways _ f (split ∙ or_left _ _ ea));
      }
      by false ea false eb = record {
        taken = λ t. absurd (both_ways _ (split ∙ (λ i. ea i || (eb i || false))) t);
        waits = λ _. subst (HasBest before value) (sym (others eb)) (m.waits ea);
      }

pub midway_last : (before : List Entry) (number tuples : ℕ) (values : List (List ℕ)) (value : List ℕ) (found : Option (Option Source))
    → IsMidway before (entry.Got number tuples values) values value found
    → HasBest (before ++ entry.Got number tuples values ∷ []) value found
midway_last before number tuples values value found m =
    elim (is_among values value) as (λ b. is_among values value ≡ b → HasBest (before ++ entry.Got number tuples values ∷ []) value found) [
      | true ↦ λ t. m.taken t
      | false ↦ λ f. passed_by before (entry.Got number tuples values) value found (λ n. absent n f) (m.waits f)
    ] refl
  where
    neither : (a : Bool) → ((a && false) || false) ≡ false
    neither true = refl
    neither false = refl

    absent : (n : ℕ) → is_among values value ≡ false → has_value (entry.Got number tuples values ∷ []) n value ≡ false
    absent n f = ap (λ b. ((n == number) && b) || false) f ∙ neither (n == number)

-- an entry that is no yield has no value
pub no_yield : (e : Entry) (value : List ℕ) (n : ℕ)
    → ((number tuples : ℕ) (values : List (List ℕ)) → e ≡ entry.Got number tuples values → ⊥)
    → has_value (e ∷ []) n value ≡ false
no_yield (entry.Got number tuples values) value n not = absurd (not number tuples values refl)
no_yield entry.Level value n not = refl
no_yield (entry.Ask number turn call) value n not = refl
no_yield (entry.Value number name) value n not = refl
no_yield (entry.End number) value n not = refl
no_yield (entry.Dream uses steps) value n not = refl
no_yield entry.Nothing value n not = refl
no_yield entry.Reset value n not = refl
no_yield (entry.Pick number) value n not = refl
no_yield (entry.Retire number) value n not = refl
