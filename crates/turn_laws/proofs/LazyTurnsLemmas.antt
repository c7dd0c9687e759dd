-- A turn that begins where one is needed leaves a lazy transcript lazy, in every mode.
use Rattle.std.proofs.Common.{◌≡◌, ℕ, ◌+◌, All, Bool, false, List, [], ◌∷◌, ◌++◌, inl, inr, refl, sym, subst, append_assoc}
use Rattle.std.proofs.lemmas.List.Elements.{All-append, All-cons, All-nil}
use Rattle.turn_laws.proofs.LazyLemmas.{lazy_push, lazy_quiet, rounds_quiet}
use Rattle.turn_laws.specs.Lazy.{IsLazy, IsTurnNeeded, is_dream_line, begins}
use Rattle.turn_laws.specs.Modes.{TurnOf}
use Rattle.task_model.specs.Dreams as dreams
use Rattle.task_model.specs.declared.stream.Instance.{Instance}
use Rattle.task_model.specs.declared.task.Task.{Task}
use Rattle.transcript_model.specs.Dreaming.{Sent}
use Rattle.transcript_model.specs.Rounds.{IsBatch, Limits}
use Rattle.transcript_model.specs.Turns.{AreBatches, IsDreamTurn, IsEmptyTurn, IsFallback, IsFirstBatch, IsPickTurn, Kept, finished, further, last, level, reset, retiring}
use Rattle.transcript_model.specs.declared.entry.Entry.{Entry}
use Rattle.transcript_model.specs.declared.entry.Entry.TheVariants as entry
use Rattle.transcript_model.specs.declared.head.Mode.{Mode}
use Rattle.transcript_model.specs.declared.head.Mode.TheVariants.{Incremental, Focused, Binding, Adaptive}

-- behind the first entry none begins a turn of the mode
pub record Opens (mode : Mode) (now : List Entry) : Type 0 where
  pub first : Entry
  pub rest : List Entry
  pub is : now ≡ first ∷ rest
  pub quiet : All (λ e. begins mode e ≡ false) rest

-- none of them begins a turn of a mode that dreams
abbrev Dreamless : List Entry → Type 0
Dreamless entries = All (λ e. is_dream_line e ≡ false) entries

before_all : (e : Entry) (rest : List Entry) → is_dream_line e ≡ false → Dreamless rest → Dreamless (e ∷ rest)
before_all e rest quiet all = All-cons (λ x. is_dream_line x ≡ false) e rest quiet all

joined : (xs ys : List Entry) → Dreamless xs → Dreamless ys → Dreamless (xs ++ ys)
joined xs ys first second = All-append (λ x. is_dream_line x ≡ false) xs ys first second

module _ (limits : Limits) (task : Task) where
  batch_dreamless : (before now : List Entry) (list : List Instance) → IsBatch limits task before list now
      → Dreamless now
  batch_dreamless before now list batch = rounds_quiet Focused task before batch.rounds now batch.run

  fallback_dreamless : (before : List Entry) (tried : List Instance) (now : List Entry) (cut : Bool)
      → IsFallback limits task before tried now cut → Dreamless now
  fallback_dreamless before tried now cut (reset first more) =
      before_all entry.Reset [] refl (All-nil (λ x. is_dream_line x ≡ false))
  fallback_dreamless before tried now cut (level this) =
      subst Dreamless (sym this.is)
      (before_all entry.Level this.rest refl (batch_dreamless (before ++ entry.Level ∷ []) this.rest this.list this.batch))

  batches_dreamless : (real : ℕ) (entries : List dreams.SupposedEntry) (sent : List Sent)
      (before now : List Entry) (after : List Sent) (cut : Bool)
      → AreBatches limits task real entries sent before now after cut → Dreamless now
  batches_dreamless real entries sent before now after cut (finished none) = All-nil (λ x. is_dream_line x ≡ false)
  batches_dreamless real entries sent before now after cut (last next is more batch) = batch_dreamless before now _ batch
  batches_dreamless real entries sent before now after cut (further {now = first} {rest = rest} next is some all batch more) =
      joined first rest (batch_dreamless before first _ batch)
      (batches_dreamless real entries (sent ++ next) (before ++ first) rest after cut more)

  retiring_dreamless : (number : ℕ) (sent : List Sent) → Dreamless (retiring number sent)
  retiring_dreamless number [] = before_all (entry.Retire number) [] refl (All-nil (λ x. is_dream_line x ≡ false))
  retiring_dreamless number (s ∷ sent) = All-nil (λ x. is_dream_line x ≡ false)

  dream_opens : (asks : ℕ → List dreams.SupposedEntry → List Entry → List Entry → List Sent → Bool → Type 0)
      (tried : List Instance) (before now : List Entry) (next : List Instance) (cut : Bool)
      → ((real : ℕ) (entries : List dreams.SupposedEntry) (b n : List Entry) (s : List Sent) (c : Bool) → asks real entries b n s c
      → Dreamless n)
      → IsDreamTurn limits task asks tried before now next cut → Opens Focused now
  dream_opens asks tried before now next cut each this = record {
    first = entry.Dream this.uses this.steps;
    rest = this.rest;
    is = this.is;
    quiet = each _ this.entries _ this.rest this.sent cut this.batches;
  }

  empty_opens : (tried : List Instance) (before now : List Entry) (next : List Instance) (cut : Bool)
      → IsEmptyTurn limits task tried before now next cut → Opens Focused now
  empty_opens tried before now next cut this = record {
    first = entry.Nothing;
    rest = this.rest;
    is = this.is;
    quiet = fallback_dreamless (before ++ entry.Nothing ∷ []) tried this.rest cut this.fallback;
  }

  pick_dreamless : (kept : Kept) (before now : List Entry) (next : Kept) (cut : Bool)
      → IsPickTurn limits task kept before now next cut → Dreamless now
  pick_dreamless kept before now next cut this =
      let number = this.place + 1 in
      subst Dreamless (sym this.is)
      (before_all (entry.Pick number) (this.batches ++ retiring number this.sent) refl
      (joined this.batches (retiring number this.sent)
      (batches_dreamless this.skeleton.real this.skeleton.entries [] (before ++ entry.Pick number ∷ []) this.batches this.sent cut
      this.run)
      (retiring_dreamless number this.sent)))

  turn_opens : (mode : Mode) (kept : Kept) (before now : List Entry) (next : Kept) (cut : Bool)
      → TurnOf mode limits task kept before now next cut → Opens mode now
  turn_opens Incremental kept before now next cut (this, same) = record {
    first = entry.Level;
    rest = this.rest;
    is = this.is;
    quiet = rounds_quiet Incremental task (before ++ entry.Level ∷ []) this.batch.rounds this.rest this.batch.run;
  }
  turn_opens Focused kept before now next cut (inl this, same) =
      dream_opens (IsFirstBatch limits task) kept.tried before now next.tried cut
      (λ real entries b n s c first. batch_dreamless b n _ first.batch) this
  turn_opens Focused kept before now next cut (inr this, same) = empty_opens kept.tried before now next.tried cut this
  turn_opens Binding kept before now next cut (inl this, same) =
      let opens = dream_opens (λ real entries. AreBatches limits task real entries []) kept.tried before now next.tried cut
      (λ real entries b n s c run. batches_dreamless real entries [] b n s c run) this in
      record { first = opens.first; rest = opens.rest; is = opens.is; quiet = opens.quiet }
  turn_opens Binding kept before now next cut (inr this, same) =
      let opens = empty_opens kept.tried before now next.tried cut this in
      record { first = opens.first; rest = opens.rest; is = opens.is; quiet = opens.quiet }
  turn_opens Adaptive kept before now next cut (inl this) = record {
    first = entry.Dream this.uses this.steps;
    rest = this.rest;
    is = this.is;
    quiet = pick_dreamless _ _ this.rest next cut this.pick;
  }
  turn_opens Adaptive kept before now next cut (inr (inl this)) =
      record { first = entry.Nothing; rest = this.rest; is = this.is; quiet = pick_dreamless kept _ this.rest next cut this.pick }
  turn_opens Adaptive kept before now next cut (inr (inr this)) =
      let opens = empty_opens kept.tried before now this.tried cut this.turn in
      record { first = opens.first; rest = opens.rest; is = opens.is; quiet = opens.quiet }

  -- a turn behind a lazy transcript, where one is needed
  pub turn_lazy : (kept : Kept) (before now : List Entry) (next : Kept) (cut : Bool) → IsLazy limits task before
      → IsTurnNeeded limits task before → TurnOf limits.mode limits task kept before now next cut
      → IsLazy limits task (before ++ now)
  turn_lazy kept before now next cut lazy needed turn =
      let opens = turn_opens limits.mode kept before now next cut turn in
      subst (λ es. IsLazy limits task (before ++ es)) (sym opens.is)
      (subst (IsLazy limits task) (append_assoc before (opens.first ∷ []) opens.rest)
      (lazy_quiet limits task (before ++ opens.first ∷ []) opens.rest
      (lazy_push limits task before opens.first lazy (λ b. needed)) opens.quiet))
