-- No entry of a transcript that is made of turns is wrong.
use Rattle.std.proofs.Common.{◌≡◌, ℕ, suc, ◌+◌, ◌<◌, ◌≤◌, true, List, [], ◌∷◌, ◌++◌, take, drop, length, refl, sym, ap, subst, ◌∙◌, Some, slice_get, arith}
use Rattle.std.proofs.lemmas.Bool.{true≢false}
use Rattle.std.proofs.lemmas.List.{length-map}
use Rattle.dream_check.proofs.DreamLinesLemmas.{dream_lines}
use Rattle.dream_check.specs.Lines.{IsWrongLine}
use Rattle.lemmas.proofs.Members.{take_next}
use Rattle.course_check.specs.Courses.{Course}
use Rattle.course_check.proofs.StepsLemmas.{at_first_rest, leads_on_apart}
use Rattle.course_check.proofs.TurnsLemmas.{turns_lead}
use Rattle.course_check.proofs.WholeLemmas.{left_kept}
use Rattle.course_check.specs.Places.{IsBatchStep, IsModeStep, LeadsOn, ModePlace, at_start, begins_level, falls_back, goes_on, picks, resets, retires, tells_dream, tells_none}
use Rattle.turn_laws.proofs.ModeCountsLemmas.{turn_keeps, turns_keep}
use Rattle.turn_laws.proofs.ModeFrontsLemmas.{front_turns}
use Rattle.turn_laws.proofs.ModesLemmas.{as_family, of_mode}
use Rattle.turn_laws.specs.Modes.{Leaves, TurnOf, nothing_kept}
use Rattle.pools.specs.Pools.{HaveWorkers}
use Rattle.task_model.specs.Dreams as dreams
use Rattle.task_model.specs.declared.stream.Instance.{Instance}
use Rattle.task_model.specs.declared.task.Task.{Task}
use Rattle.transcript_model.proofs.LegalNumberLemmas.{asks_more, request_number}
use Rattle.transcript_model.proofs.LegalOnceLemmas.{cut_at}
use Rattle.transcript_model.specs.Dreaming.{HasNoDreamAfter, IsDreamAfter}
use Rattle.transcript_model.specs.Legal.{IsLegal, asks_of, is_ask, is_mark}
use Rattle.transcript_model.specs.Rounds.{Limits}
use Rattle.transcript_model.specs.Turns.{AreTurnsOf, Kept, Stage}
use Rattle.transcript_model.specs.declared.entry.Call.{Call}
use Rattle.transcript_model.specs.declared.entry.DreamUse.{DreamUse}
use Rattle.transcript_model.specs.declared.entry.Entry.{Entry}
use Rattle.transcript_model.specs.declared.entry.Entry.TheVariants as entry
use Rattle.replay_check.proofs.PlacesLemmas.{batch_no_mark, begins_here}
use Rattle.replay_check.specs.Breaches.{AreBegun, BeginsTurn, BreaksEntry, IsFalseDream, IsFalseNone, IsOutOfOrder, MayAsk}
use Rattle.replay_check.specs.declared.verdict.BreachKind.{BreachKind}
use Rattle.replay_check.specs.declared.verdict.BreachKind.TheVariants as kind

-- a dream uses something
some_uses : (limits : Limits) (task : Task) (before : List Entry) (tried : List Instance) (uses : List DreamUse) (steps : List Call)
    (entries : List dreams.SupposedEntry) → IsDreamAfter limits task before tried uses steps entries → 0 < length uses
some_uses limits task before tried uses steps entries x =
    let numbers = ap length x.numbers in
    let uses_long = length-map uses (λ (u : DreamUse). u.number) in
    let places_long = length-map x.dream.places (λ place. place + 1) in
    let chosen = ap length x.dream.chosen in
    let there_long = length-map x.dream.places (slice_get x.list) in
    let entries_long = length-map entries (λ (e : dreams.SupposedEntry). Some e) in
    let some = x.dream.some in
    omega (arith, numbers, uses_long, places_long, chosen, there_long, entries_long, some)

-- ---- an entry that is a step

module _ (limits : Limits) (task : Task) (workers : HaveWorkers limits.pools)
    (before : List Entry) (p q : ModePlace) (leads : LeadsOn limits task at_start [] before p) where
  kept_is : (k : Kept) → Leaves limits task before k → k ≡ p.kept
  kept_is k left = (left_kept limits task before p leads k left).1

  no_batch : {A : Type 0} (e : Entry) (d : Course) → is_mark e ≡ true → IsBatchStep limits task before p.batch e d → A
  no_batch e d mark step = absurd (true≢false (sym mark ∙ batch_no_mark limits task before p e d leads step))

  -- ---- dreams

  dream_step : (uses : List DreamUse) (steps : List Call) → IsModeStep limits task before p (entry.Dream uses steps) q
      → BeginsTurn limits task before × (entries : List dreams.SupposedEntry)
      × IsDreamAfter limits task before p.kept.tried uses steps entries
  dream_step uses steps (goes_on d t is) = no_batch (entry.Dream uses steps) d refl t
  dream_step uses steps (begins_level t) = absurd (let is = t.begins.is in cc)
  dream_step uses steps (tells_dream t) =
      let is = t.is in
      let same_uses : t.uses ≡ uses = cc in
      let same_steps : t.steps ≡ steps = cc in (
        begins_here limits task before p leads workers t.may,
        t.entries,
        subst (λ us. IsDreamAfter limits task before p.kept.tried us steps t.entries) same_uses
            (subst (λ ss. IsDreamAfter limits task before p.kept.tried t.uses ss t.entries) same_steps t.dream),
      )
  dream_step uses steps (tells_none t) = absurd (let is = t.is in cc)
  dream_step uses steps (resets t) = absurd (let is = t.is in cc)
  dream_step uses steps (falls_back t) = absurd (let is = t.is in cc)
  dream_step uses steps (picks t) = absurd (let is = t.is in cc)
  dream_step uses steps (retires t) = absurd (let is = t.is in cc)

  none_step : IsModeStep limits task before p entry.Nothing q
      → BeginsTurn limits task before × HasNoDreamAfter limits task before p.kept.tried
  none_step (goes_on d t is) = no_batch entry.Nothing d refl t
  none_step (begins_level t) = absurd (let is = t.begins.is in cc)
  none_step (tells_dream t) = absurd (let is = t.is in cc)
  none_step (tells_none t) = (begins_here limits task before p leads workers t.may, t.no_dream)
  none_step (resets t) = absurd (let is = t.is in cc)
  none_step (falls_back t) = absurd (let is = t.is in cc)
  none_step (picks t) = absurd (let is = t.is in cc)
  none_step (retires t) = absurd (let is = t.is in cc)

  -- ---- what could be wrong with it

  in_order : (e : Entry) → IsModeStep limits task before p e q → AreBegun limits task (before ++ e ∷ [])
      → IsOutOfOrder limits task before e → ⊥
  in_order (entry.Dream uses steps) step begun bad =
      let d = dream_step uses steps step in
      bad (d.0, some_uses limits task before p.kept.tried uses steps d.1 d.2)
  in_order entry.Nothing step begun bad = bad (none_step step).0
  in_order (entry.Ask n turn call) step begun bad = bad begun
  in_order (entry.Got n tuples values) step begun bad = bad begun
  in_order (entry.Value n value) step begun bad = bad begun
  in_order (entry.End n) step begun bad = bad begun
  in_order entry.Level step begun bad = bad begun
  in_order entry.Reset step begun bad = bad begun
  in_order (entry.Pick n) step begun bad = bad begun
  in_order (entry.Retire n) step begun bad = bad begun

  dream_right : (e : Entry) (offset : ℕ) → IsModeStep limits task before p e q → IsFalseDream limits task before e offset → ⊥
  dream_right (entry.Dream uses steps) offset step (k, left, wrong) =
      let d = dream_step uses steps step in
      dream_lines limits task before p.kept.tried uses steps d.1 d.2 offset
      (subst (λ (x : Kept). IsWrongLine limits task before x.tried uses steps offset) (kept_is k left) wrong)
  dream_right entry.Nothing offset step wrong = wrong
  dream_right (entry.Ask n turn call) offset step wrong = wrong
  dream_right (entry.Got n tuples values) offset step wrong = wrong
  dream_right (entry.Value n value) offset step wrong = wrong
  dream_right (entry.End n) offset step wrong = wrong
  dream_right entry.Level offset step wrong = wrong
  dream_right entry.Reset offset step wrong = wrong
  dream_right (entry.Pick n) offset step wrong = wrong
  dream_right (entry.Retire n) offset step wrong = wrong

  none_right : (e : Entry) → IsModeStep limits task before p e q → IsFalseNone limits task before e → ⊥
  none_right entry.Nothing step (k, left, wrong) =
      wrong (subst (λ (x : Kept). HasNoDreamAfter limits task before x.tried) (sym (kept_is k left)) (none_step step).1)
  none_right (entry.Dream uses steps) step wrong = wrong
  none_right (entry.Ask n turn call) step wrong = wrong
  none_right (entry.Got n tuples values) step wrong = wrong
  none_right (entry.Value n value) step wrong = wrong
  none_right (entry.End n) step wrong = wrong
  none_right entry.Level step wrong = wrong
  none_right entry.Reset step wrong = wrong
  none_right (entry.Pick n) step wrong = wrong
  none_right (entry.Retire n) step wrong = wrong

-- ---- all entries

module _ (limits : Limits) (task : Task) (entries : List Entry) (stage : Stage)
    (workers : HaveWorkers limits.pools) (legal : IsLegal limits.version task entries)
    (turns : AreTurnsOf limits.mode limits task entries stage) where
  all_few : asks_of entries ≤ limits.calls
  all_few =
      turns_keep limits task (TurnOf limits.mode limits task) (turn_keeps limits task limits.mode) nothing_kept [] entries stage
      (as_family limits.mode limits task entries stage turns) (omega arith)

  front_few : (place : ℕ) (e : Entry) → slice_get entries place ≡ Some e
      → asks_of (take place entries ++ e ∷ []) ≤ limits.calls
  front_few place e at =
      let parts = ap asks_of (cut_at entries place e at) in
      let whole = asks_more (take place entries) (e ∷ drop (suc place) entries) in
      let behind = asks_more (e ∷ []) (drop (suc place) entries) in
      let front = asks_more (take place entries) (e ∷ []) in
      let few = all_few in
      omega (arith, parts, whole, behind, front, few)

  may_ask : (place : ℕ) (e : Entry) → slice_get entries place ≡ Some e → is_ask e ≡ true
      → MayAsk limits task (take place entries) e
  may_ask place (entry.Ask number turn call) at is =
      let next = request_number limits.version task entries place number turn call legal at in
      let more = asks_more (take place entries) (entry.Ask number turn call ∷ []) in
      let few = front_few place (entry.Ask number turn call) at in
      (legal place (entry.Ask number turn call) at, omega (arith, next, more, few))
  may_ask place (entry.Got number tuples values) at is = absurd (cc)
  may_ask place (entry.Value number value) at is = absurd (cc)
  may_ask place (entry.End number) at is = absurd (cc)
  may_ask place entry.Level at is = absurd (cc)
  may_ask place (entry.Dream uses steps) at is = absurd (cc)
  may_ask place entry.Nothing at is = absurd (cc)
  may_ask place entry.Reset at is = absurd (cc)
  may_ask place (entry.Pick number) at is = absurd (cc)
  may_ask place (entry.Retire number) at is = absurd (cc)

  begun : (place : ℕ) (e : Entry) → slice_get entries place ≡ Some e
      → AreBegun limits task (take place entries ++ e ∷ [])
  begun place e at =
      let front = front_turns limits task (TurnOf limits.mode limits task) nothing_kept [] entries stage
      (as_family limits.mode limits task entries stage turns) (suc place) in (
        front.0,
        subst (λ es. AreTurnsOf limits.mode limits task es front.0) (take_next entries place e at)
            (of_mode limits.mode limits task (take (suc place) entries) front.0 front.1),
      )

  -- where the entries before it lead, and it is a step from there
  pub record HasStep (place : ℕ) (e : Entry) : Type 0 where
    pub from : ModePlace
    pub to : ModePlace
    pub leads : LeadsOn limits task at_start [] (take place entries) from
    pub step : IsModeStep limits task (take place entries) from e to

  has_step : (place : ℕ) (e : Entry) → slice_get entries place ≡ Some e → HasStep place e
  has_step place e at =
      let whole = turns_lead limits task nothing_kept [] entries stage at_start
      (as_family limits.mode limits task entries stage turns) refl at_first_rest in
      let parts = leads_on_apart limits task at_start [] (take place entries) (e ∷ drop (suc place) entries) whole.last
      (subst (λ es. LeadsOn limits task at_start [] es whole.last) (cut_at entries place e at) whole.leads) in
      record { from = parts.0; to = parts.2.0; leads = parts.1; step = parts.2.1 }

  pub entry_right : (place : ℕ) (e : Entry) (offset : ℕ) (k : BreachKind) → slice_get entries place ≡ Some e
      → BreaksEntry limits task (take place entries) e offset k → ⊥
  entry_right place e offset kind.Ask at wrong = wrong.2 (may_ask place e at wrong.1)
  entry_right place e offset kind.Answer at wrong = wrong.2 (legal place e at)
  entry_right place e offset kind.Order at wrong =
      let h = has_step place e at in
      in_order limits task workers (take place entries) h.from h.to h.leads e h.step (begun place e at) wrong.1
  entry_right place e offset kind.Dream at wrong =
      let h = has_step place e at in
      dream_right limits task workers (take place entries) h.from h.to h.leads e offset h.step wrong
  entry_right place e offset kind.Outcome at wrong =
      let h = has_step place e at in
      none_right limits task workers (take place entries) h.from h.to h.leads e h.step wrong.1
  entry_right place e offset kind.Text at wrong = wrong
  entry_right place e offset kind.Head at wrong = wrong
  entry_right place e offset kind.Plan at wrong = wrong
  entry_right place e offset kind.Cost at wrong = wrong
  entry_right place e offset kind.From at wrong = wrong
