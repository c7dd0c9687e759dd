-- The outcome that a run writes has the stated form.
use Rattle.std.proofs.Common.{◌≡◌, ℕ, zero, suc, ◌+◌, ◌/◌, ◌≤◌, inl, inr, ◌==◌, ◌&&◌, ◌||◌, Bool, true, false, List, [], ◌∷◌, length, drop, All, Contains, refl, sym, ap, subst, ◌∙◌, Option, Some, None, slice_get, arith, eqb-true, if◌then◌else◌}
use Rattle.std.proofs.lemmas.List.Elements.{All-weaker}
use Rattle.std.proofs.lemmas.Option.{slice_get_within}
use Rattle.std.specs.Cmp.{first_so, second_so}
use Rattle.std.specs.List.{list_any, position}
use Rattle.std.specs.Option.{option_map}
use Rattle.std.proofs.lemmas.Bool.{true≢false}
use Rattle.gen_lines.specs.Reply.{is_value}
use Rattle.turn_run.specs.Turns.{HasFewSteps, IsCostInRange}
use Rattle.shown_plan.proofs.ShownLemmas.{valid_named}
use Rattle.task_model.proofs.KnownLemmas.{numbers_decided}
use Rattle.lemmas.proofs.Members.{member_at, place_of}
use Rattle.lemmas.proofs.Bools.{from_or_false}
use Rattle.lemmas.proofs.ListTests.{all_at, any_found, all_by_place}
use Rattle.task_model.specs.Fit.{IsFit}
use Rattle.task_model.specs.Known.{same_numbers}
use Rattle.task_model.specs.declared.task.Task.{Task}
use Rattle.transcript_model.proofs.CoherentLemmas.{coherent}
use Rattle.transcript_model.proofs.NamesLemmas.{map_some, position_at}
use Rattle.report_text.specs.Forms.{IsFormedCall, IsFormedOrigin, IsFormedOutcome, IsObject, IsTerm}
use Rattle.transcript_model.specs.Legal.{IsLegal}
use Rattle.transcript_model.specs.Outcomes.{IsOrigin, IsTrueOutcome, IsTruePlan, has_value, tuple_with}
use Rattle.transcript_model.specs.Rounds.{Limits}
use Rattle.transcript_model.specs.Transcript.{known_of, names_of, tuples_in}
use Rattle.transcript_model.specs.declared.entry.Call.{Call}
use Rattle.transcript_model.specs.declared.entry.Entry.{Entry}
use Rattle.transcript_model.specs.declared.entry.Entry.TheVariants as entry
use Rattle.transcript_model.specs.declared.outcome.Origin.{Origin}
use Rattle.transcript_model.specs.declared.outcome.Outcome.{Outcome}
use Rattle.transcript_model.specs.declared.outcome.Outcome.TheVariants as outcome
use Rattle.report_text.proofs.FormsNameLemmas.{names_formed}
use Rattle.laws.proofs.RunFormedCallLemmas.{steps_formed}
use Rattle.laws.proofs.RunFormedEntryLemmas.{AreFew, answer_few}
use Rattle.task_model.specs.declared.limits.TheConstants.{MOST_STATES}
use Rattle.transcript_model.specs.declared.head.Head.{Head}

-- ---- steps

module _ (version : ℕ) (task : Task) (fit : IsFit task) (entries : List Entry)
    (legal : IsLegal version task entries) where
  pub names_terms : All IsTerm (names_of task entries)
  names_terms =
      All-weaker IsObject IsTerm (λ name is. inl is) (names_of task entries)
      (names_formed version task fit entries legal)

  plan_formed : (limits : Limits) (calls : List Call) (cost : ℕ) (from : List Origin)
      → IsTruePlan limits.version task entries calls cost from → All (IsFormedCall IsTerm) calls
  plan_formed limits calls cost from plan =
      let named = valid_named task (known_of task entries)
      (coherent version task entries fit legal) plan.steps cost plan.valid in
      subst (All (IsFormedCall IsTerm)) (sym plan.shown)
      (steps_formed task fit (names_of task entries) names_terms plan.steps named)

-- ---- origins

-- the first entry that has the value
has_at : (number : ℕ) (value : List ℕ) (es : List Entry) → has_value es number value ≡ true
    → (k : ℕ) × (e : Entry) × (slice_get es k ≡ Some e) × (has_value (e ∷ []) number value ≡ true)
has_at number value [] has = absurd (cc)
has_at number value (entry.Got n tuples values ∷ xs) has =
    by ((number == n) && list_any (same_numbers value) values) refl has (has_at number value xs)
  where
    by : (b : Bool) → ((number == n) && list_any (same_numbers value) values) ≡ b
        → (b || has_value xs number value) ≡ true
        → (has_value xs number value ≡ true → (k : ℕ) × (e : Entry) × (slice_get xs k ≡ Some e)
        × (has_value (e ∷ []) number value ≡ true))
        → (k : ℕ) × (e : Entry) × (slice_get (entry.Got n tuples values ∷ xs) k ≡ Some e)
        × (has_value (e ∷ []) number value ≡ true)
    by true here all later = (0, entry.Got n tuples values, refl, (rw here refl))
    by false other all later = let r = later all in (suc r.0, r.1, r.2, r.3)
has_at number value (x ∷ xs) has = let r = has_at number value xs has in (suc r.0, r.1, r.2, r.3)

module _ (version : ℕ) (task : Task) (fit : IsFit task) (entries : List Entry)
    (legal : IsLegal version task entries) (few : AreFew entries) where
  -- the value is one of an answer's, and the request is one that was made
  given : (number : ℕ) (value : List ℕ) (k : ℕ) (e : Entry) → slice_get entries k ≡ Some e
      → has_value (e ∷ []) number value ≡ true
      → (is_value value ≡ true) × (number ≤ 100000)
  given number value k (entry.Got n tuples values) at has =
      let parts = from_or_false ((number == n) && list_any (same_numbers value) values) has in
      let same = eqb-true number n (first_so (number == n) (list_any (same_numbers value) values) parts) in
      let there = any_found (same_numbers value) values
      (second_so (number == n) (list_any (same_numbers value) values) parts) in
      let is = (numbers_decided value there.1).0 there.3 in
      let valid = (legal k (entry.Got n tuples values) at).right.valid in
      let most = answer_few version task fit entries legal few k n tuples values at in
      (ap is_value is ∙ all_at is_value values there.0 there.1 valid there.2, omega (arith, same, most))
  given number value k e at has = absurd (cc)

  value_given : (number : ℕ) (value : List ℕ) → has_value entries number value ≡ true
      → (is_value value ≡ true) × (number ≤ 100000)
  value_given number value has = let there = has_at number value entries has in
      given number value there.0 there.1 there.2 there.3

  tuples_long : (width tuples : ℕ) (values : List (List ℕ))
      → length (tuples_in width tuples values) ≡ tuples
  tuples_long width zero values = refl
  tuples_long width (suc tuples) values =
      let rest = tuples_long width tuples (drop width values) in omega (arith, rest)

  tuple_few : (value : List ℕ) (number tuple k : ℕ) (e : Entry) → slice_get entries k ≡ Some e
      → tuple_with value number e ≡ Some tuple
      → tuple ≤ 16
  tuple_few value number tuple k (entry.Got n tuples values) at is =
      let list = tuples_in (length values / tuples) tuples values in
      let found = chosen (number == n)
      (option_map (λ place. place + 1) (position (list_any (same_numbers value)) list)) is in
      let place = map_some (λ (place : ℕ). place + 1) (position (list_any (same_numbers value)) list) tuple found in
      let there = position_at (list_any (same_numbers value)) list place.0 place.1 in
      let below = slice_get_within list place.0 there.0 there.1 in
      omega (
        arith,
        below,
        place.2,
        tuples_long (length values / tuples) tuples values,
        (legal k (entry.Got n tuples values) at).right.few,
      )
    where
      chosen : (b : Bool) (o : Option ℕ) → (if b then o else None) ≡ Some tuple → o ≡ Some tuple
      chosen true o e = e
      chosen false o e = absurd (cc)
  tuple_few value number tuple k e at is = absurd (cc)

  origin_formed : (o : Origin) → IsOrigin version entries o → IsFormedOrigin version o
  origin_formed o origin =
      let there = value_given o.number origin.value origin.there in
      record {
        object = inr (origin.value, origin.named, there.0);
        number = omega (arith, there.1);
        tuple = by (version == 1) refl;
        one = origin.one;
      }
    where
      by : (b : Bool) → (version == 1) ≡ b → o.tuple ≤ 255
      by true e = omega (arith, origin.one (eqb-true version 1 e))
      by false e =
          let found = origin.tuple (λ same. true≢false (sym (ap (λ n. n == 1) same) ∙ e)) in
          let place = place_of entries found.0 found.1 in
          omega (arith, tuple_few origin.value o.number o.tuple place.0 found.0 place.1 found.2)

  -- ---- outcomes

  pub outcome_formed : (limits : Limits) → limits.version ≡ version → (o : Outcome)
      → IsTrueOutcome limits task entries o → IsCostInRange o
      → (head : Head) → HasFewSteps head o → head.states ≤ MOST_STATES → IsFormedOutcome version o
  outcome_formed limits same (outcome.Plan calls cost from) plan room head short few_states =
      let origins = subst (λ v. (o : Origin) → Contains from o → IsOrigin v entries o) same plan.origins.origins in (
        omega (arith, short, few_states),
        room,
        plan_formed version task fit entries legal limits calls cost from plan,
        all_by_place (IsFormedOrigin version) from (λ k o at. origin_formed o (origins o (member_at from k o at))),
      )
  outcome_formed limits same outcome.NoPlan holds room head short few_states = tt
  outcome_formed limits same (outcome.Limit kind) holds room head short few_states = tt
