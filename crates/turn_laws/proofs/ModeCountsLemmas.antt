-- No turn of any mode makes more requests than the limit allows.
use Rattle.std.proofs.Common.{◌≡◌, ℕ, ◌+◌, ◌-◌, ◌≤◌, inl, inr, Bool, true, false, List, [], ◌∷◌, ◌++◌, length, take, min, sym, ap, refl, subst, ◌∙◌, arith, append_assoc}
use Rattle.std.proofs.lemmas.List.{append-nil, length-append, length-take}
use Rattle.turn_laws.specs.Modes.{TurnOf}
use Rattle.task_model.specs.Dreams as dreams
use Rattle.task_model.specs.declared.stream.Instance.{Instance}
use Rattle.task_model.specs.declared.task.Task.{Task}
use Rattle.transcript_model.proofs.LegalNumberLemmas.{asks_marked, asks_more}
use Rattle.transcript_model.proofs.RoundsLemmas.{requests_asks, answers_asks}
use Rattle.transcript_model.specs.Dreaming.{Sent}
use Rattle.transcript_model.specs.Legal.{asks_of, is_ask}
use Rattle.transcript_model.specs.Rounds.{AreRounds, AreRoundsRun, IsBatch, Limits, calls_left, requests}
use Rattle.transcript_model.specs.Turns.{AreBatches, AreTurns, IsDreamTurn, IsEmptyTurn, IsFallback, IsFirstBatch, IsLevel, IsNewSkeleton, IsOldSkeleton, IsPickTurn, Kept, Stage, cut_off, finished, further, last, level, none_left, reset, retiring, stopped, whole}
use Rattle.transcript_model.specs.declared.entry.Entry.{Entry}
use Rattle.transcript_model.specs.declared.entry.Entry.TheVariants as entry
use Rattle.transcript_model.specs.declared.head.Mode.{Mode}
use Rattle.transcript_model.specs.declared.head.Mode.TheVariants.{Incremental, Focused, Binding, Adaptive}

-- behind entries within the limit these are within it too
abbrev pub Keeps : Limits → List Entry → List Entry → Type 0
Keeps limits before now = asks_of before ≤ limits.calls → asks_of (before ++ now) ≤ limits.calls

-- ---- one behind the other

none_keeps : (limits : Limits) (before : List Entry) → Keeps limits before []
none_keeps limits before few = omega (arith, ap asks_of (append-nil before), few)

joined_keeps : (limits : Limits) (before now rest : List Entry) → Keeps limits before now
    → Keeps limits (before ++ now) rest → Keeps limits before (now ++ rest)
joined_keeps limits before now rest first second few =
    omega (arith, second (first few), ap asks_of (append_assoc before now rest))

-- an entry that is no request, and others
mark_keeps : (limits : Limits) (before rest : List Entry) (e : Entry) → is_ask e ≡ false
    → Keeps limits (before ++ e ∷ []) rest → Keeps limits before (e ∷ rest)
mark_keeps limits before rest e none later =
    joined_keeps limits before (e ∷ []) rest (λ few. omega (arith, asks_marked before e none, few)) later

-- ---- batches

pub rounds_count : (limits : Limits) (task : Task) (rounds : List (List Instance)) (list : List Instance) (before es : List Entry)
    → AreRounds limits.pools list rounds → AreRoundsRun task before rounds es → asks_of es ≡ length list
rounds_count limits task [] list before es none run = ap asks_of run ∙ sym (ap length none)
rounds_count limits task (round ∷ rounds) list before es
    (rest, parts, some, fit, full, more) (now, later, es_is, (answers, now_is, right), run) =
    let first = ap asks_of now_is in
    let asked = asks_more (requests task before round) answers in
    let count = requests_asks task before (asks_of before + 1) round in
    let none = answers_asks (asks_of before + 1) (length round) answers right in
    let next = rounds_count limits task rounds rest (before ++ now) later more run in
    let joined = ap asks_of es_is in
    let sum = asks_more now later in
    let all = ap length parts ∙ length-append round rest in
    omega (arith, first, asked, count, none, next, joined, sum, all)

batch_keeps : (limits : Limits) (task : Task) (before now : List Entry) (list : List Instance)
    → IsBatch limits task before list now → Keeps limits before now
batch_keeps limits task before now list batch few =
    let most = calls_left limits before in
    let count = rounds_count limits task batch.rounds (take most list) before now batch.cut batch.run in
    let taken = length-take most list in
    let least : min most (length list) ≤ most = omega arith in
    omega (arith, count, taken, least, asks_more before now, few)

pub level_keeps : (limits : Limits) (task : Task) (before now : List Entry) (cut : Bool)
    → IsLevel limits task before now cut → Keeps limits before now
level_keeps limits task before now cut this =
    subst (Keeps limits before) (sym this.is)
    (mark_keeps limits before this.rest entry.Level refl
    (batch_keeps limits task (before ++ entry.Level ∷ []) this.rest this.list this.batch))

fallback_keeps : (limits : Limits) (task : Task) (before : List Entry) (tried : List Instance) (now : List Entry) (cut : Bool)
    → IsFallback limits task before tried now cut → Keeps limits before now
fallback_keeps limits task before tried now cut (reset first more) =
    mark_keeps limits before [] entry.Reset refl (none_keeps limits (before ++ entry.Reset ∷ []))
fallback_keeps limits task before tried now cut (level this) = level_keeps limits task before now cut this

batches_keep : (limits : Limits) (task : Task) (real : ℕ) (entries : List dreams.SupposedEntry) (sent : List Sent)
    (before now : List Entry) (after : List Sent) (cut : Bool)
    → AreBatches limits task real entries sent before now after cut → Keeps limits before now
batches_keep limits task real entries sent before now after cut (finished none) = none_keeps limits before
batches_keep limits task real entries sent before now after cut (last next is more batch) = batch_keeps limits task before now _ batch
batches_keep limits task real entries sent before now after cut (further {now = first} {rest = rest} next is some all batch more) =
    joined_keeps limits before first rest (batch_keeps limits task before first _ batch)
    (batches_keep limits task real entries (sent ++ next) (before ++ first) rest after cut more)

-- ---- turns

-- the line that gives up a skeleton is no request
pub retiring_none : (number : ℕ) (sent : List Sent) → asks_of (retiring number sent) ≡ 0
retiring_none number [] = refl
retiring_none number (s ∷ sent) = refl

module _ (limits : Limits) (task : Task) where
  dream_keeps : (asks : ℕ → List dreams.SupposedEntry → List Entry → List Entry → List Sent → Bool → Type 0)
      (tried : List Instance) (before now : List Entry) (next : List Instance) (cut : Bool)
      → ((real : ℕ) (entries : List dreams.SupposedEntry) (b n : List Entry) (s : List Sent) (c : Bool) → asks real entries b n s c
      → Keeps limits b n)
      → IsDreamTurn limits task asks tried before now next cut → Keeps limits before now
  dream_keeps asks tried before now next cut each this =
      subst (Keeps limits before) (sym this.is)
      (mark_keeps limits before this.rest (entry.Dream this.uses this.steps) refl
      (each _ this.entries _ this.rest this.sent cut this.batches))

  empty_keeps : (tried : List Instance) (before now : List Entry) (next : List Instance) (cut : Bool)
      → IsEmptyTurn limits task tried before now next cut → Keeps limits before now
  empty_keeps tried before now next cut this =
      subst (Keeps limits before) (sym this.is)
      (mark_keeps limits before this.rest entry.Nothing refl
      (fallback_keeps limits task (before ++ entry.Nothing ∷ []) tried this.rest cut this.fallback))

  pick_keeps : (kept : Kept) (before now : List Entry) (next : Kept) (cut : Bool)
      → IsPickTurn limits task kept before now next cut → Keeps limits before now
  pick_keeps kept before now next cut this =
      let marked = before ++ entry.Pick (this.place + 1) ∷ [] in
      let end = retiring (this.place + 1) this.sent in
      subst (Keeps limits before) (sym this.is)
      (mark_keeps limits before (this.batches ++ end) (entry.Pick (this.place + 1)) refl
      (joined_keeps limits marked this.batches end
      (batches_keep limits task this.skeleton.real this.skeleton.entries [] marked this.batches this.sent cut this.run)
      (λ few. omega (arith, asks_more (marked ++ this.batches) end, retiring_none (this.place + 1) this.sent, few))))

  new_keeps : (kept : Kept) (before now : List Entry) (next : Kept) (cut : Bool)
      → IsNewSkeleton limits task kept before now next cut → Keeps limits before now
  new_keeps kept before now next cut this =
      subst (Keeps limits before) (sym this.is)
      (mark_keeps limits before this.rest (entry.Dream this.uses this.steps) refl (pick_keeps _ _ this.rest next cut this.pick))

  old_keeps : (kept : Kept) (before now : List Entry) (next : Kept) (cut : Bool)
      → IsOldSkeleton limits task kept before now next cut → Keeps limits before now
  old_keeps kept before now next cut this =
      subst (Keeps limits before) (sym this.is)
      (mark_keeps limits before this.rest entry.Nothing refl (pick_keeps kept _ this.rest next cut this.pick))

  -- a turn of any mode
  pub turn_keeps : (mode : Mode) (kept : Kept) (before now : List Entry) (next : Kept) (cut : Bool)
      → TurnOf mode limits task kept before now next cut → Keeps limits before now
  turn_keeps Incremental kept before now next cut this = level_keeps limits task before now cut this.0
  turn_keeps Focused kept before now next cut (inl this, same) =
      dream_keeps (IsFirstBatch limits task) kept.tried before now next.tried cut
      (λ real entries b n s c first. batch_keeps limits task b n _ first.batch) this
  turn_keeps Focused kept before now next cut (inr this, same) = empty_keeps kept.tried before now next.tried cut this
  turn_keeps Binding kept before now next cut (inl this, same) =
      dream_keeps (λ real entries. AreBatches limits task real entries []) kept.tried before now next.tried cut
      (λ real entries b n s c run. batches_keep limits task real entries [] b n s c run) this
  turn_keeps Binding kept before now next cut (inr this, same) = empty_keeps kept.tried before now next.tried cut this
  turn_keeps Adaptive kept before now next cut (inl this) = new_keeps kept before now next cut this
  turn_keeps Adaptive kept before now next cut (inr (inl this)) = old_keeps kept before now next cut this
  turn_keeps Adaptive kept before now next cut (inr (inr this)) = empty_keeps kept.tried before now this.tried cut this.turn

-- ---- runs

-- turns of any family whose turns keep the limit
pub turns_keep : {Carried : Type 0} (limits : Limits) (task : Task) (turn : Carried → List Entry → List Entry → Carried → Bool → Type 0)
    → ((k : Carried) (before now : List Entry) (next : Carried) (cut : Bool) → turn k before now next cut → Keeps limits before now)
    → (kept : Carried) (before es : List Entry) (stage : Stage) → AreTurns limits task turn kept before es stage → Keeps limits before es
turns_keep limits task turn each kept before es stage none_left = none_keeps limits before
turns_keep limits task turn each kept before es stage (whole next {now = now} {rest = rest} may this more) =
    joined_keeps limits before now rest (each kept before now next false this)
    (turns_keep limits task turn each next (before ++ now) rest stage more)
turns_keep limits task turn each kept before es stage (cut_off next may this) = each kept before es next true this
turns_keep limits task turn each kept before es stage (stopped next more cut may this) = λ few.
    let all = each kept before (es ++ more) next cut this few in
    omega (arith, all, asks_more before (es ++ more), asks_more es more, asks_more before es)
