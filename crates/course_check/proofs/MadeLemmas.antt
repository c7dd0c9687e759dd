-- What the code of a course does behind lines that are no requests, as steps of the place that it stands for.
use Rattle.std.proofs.Common.{◌≡◌, ℕ, ◌&&◌, ◌+◌, ◌-◌, ◌<◌, nat_lt, Bool, true, false, List, [], ◌∷◌, ◌++◌, length, take, refl, sym, ap, subst, ◌∙◌, arith}
use Rattle.std.proofs.lemmas.Bool.{and_parts}
use Rattle.std.proofs.lemmas.List.{append-nil, length-map}
use Rattle.dream_asks.specs.Noting.{WereMade}
use Rattle.dream_asks.specs.Progress.{numbered}
use Rattle.instance_queue.specs.Level.{due_instances}
use Rattle.instance_queue.specs.declared.due.Due.{Due}
use Rattle.lemmas.proofs.Bools.{zero_and_not}
use Rattle.course_check.specs.BatchAgendas.{Agenda, is_over, place_in}
use Rattle.course_check.specs.Courses.{Opens}
use Rattle.course_check.proofs.MovesLemmas.{nexts_made, runs_made, starts_open}
use Rattle.course_check.proofs.OpensLemmas.{opens_at}
use Rattle.course_check.specs.Agendas.{BeginsBatch, HasPicked, ModeAgenda, MovesOn, is_dreamt, is_resting, is_undreamt, mode_place_in, with_run}
use Rattle.course_check.specs.Places.{AwaitsPhase, AwaitsLine, AwaitsPick, HasNoneToPick, IsBehindDream, IsDreamStep, IsFallbackStep, IsLevelStep, IsNoneStep, IsPickStep, IsResetStep, IsRetireStep, MayDream, Phase, ModePlace, RunsNext, RunsOnce, asked_first, awaits_line, dreamt, forgetting, joining, keeping, phase_behind, picking, repeated, resting, sent_first, unasked, undreamt}
use Rattle.course_check.specs.Running.{asking, sent_of}
use Rattle.pools.specs.Pools.{HaveWorkers}
use Rattle.task_model.specs.Dreams as dreams
use Rattle.task_model.specs.Fit.{IsFit}
use Rattle.task_model.specs.Known.{Known}
use Rattle.task_model.specs.Streams.{AreDue, Note}
use Rattle.task_model.specs.declared.stream.Instance.{Instance}
use Rattle.task_model.specs.declared.task.Task.{Task}
use Rattle.transcript_model.proofs.LegalNumberLemmas.{asks_marked}
use Rattle.transcript_model.specs.Dreaming.{HasNoDreamAfter, IsDreamAfter, Sent, sent_instances}
use Rattle.transcript_model.specs.Legal.{HasNoneOpen, IsLegal, asks_of, is_ask}
use Rattle.transcript_model.specs.Rounds.{Limits, calls_left, requests_from}
use Rattle.transcript_model.specs.Transcript.{known_of, names_of, notes_of}
use Rattle.transcript_model.specs.Turns.{IsPicked, Kept, MayBegin, Skeleton, is_cut}
use Rattle.transcript_model.specs.declared.entry.Call.{Call}
use Rattle.transcript_model.specs.declared.entry.DreamUse.{DreamUse}
use Rattle.transcript_model.specs.declared.entry.Entry.{Entry}
use Rattle.transcript_model.specs.declared.entry.Entry.TheVariants as entry
use Rattle.transcript_model.specs.declared.head.Mode.{Mode}
use Rattle.transcript_model.specs.declared.head.Mode.TheVariants.{Adaptive, Binding, Focused, Incremental}

resting_is : (phase : Phase) → is_resting phase ≡ true → phase ≡ resting
resting_is resting e = refl
resting_is undreamt e = absurd (cc)
resting_is dreamt e = absurd (cc)
resting_is (repeated real entries sent) e = absurd (cc)
resting_is (unasked place) e = absurd (cc)

undreamt_is : (phase : Phase) → is_undreamt phase ≡ true → phase ≡ undreamt
undreamt_is resting e = absurd (cc)
undreamt_is undreamt e = refl
undreamt_is dreamt e = absurd (cc)
undreamt_is (repeated real entries sent) e = absurd (cc)
undreamt_is (unasked place) e = absurd (cc)

dreamt_is : (phase : Phase) → is_dreamt phase ≡ true → phase ≡ dreamt
dreamt_is resting e = absurd (cc)
dreamt_is undreamt e = absurd (cc)
dreamt_is dreamt e = refl
dreamt_is (repeated real entries sent) e = absurd (cc)
dreamt_is (unasked place) e = absurd (cc)

-- where no request is to come, it doesn't matter behind which entries
place_same : (task : Task) (xs ys : List Entry) (b : Agenda) → b.to_ask ≡ [] → place_in task xs b ≡ place_in task ys b
place_same task xs ys b none =
    let asks : requests_from task xs (asks_of xs + 1) b.to_ask ≡ requests_from task ys (asks_of ys + 1) b.to_ask =
    ap (requests_from task xs (asks_of xs + 1)) none ∙ sym (ap (requests_from task ys (asks_of ys + 1)) none) in
    λ i. record { asks = asks i; next = b.next; answers = b.answers; later = b.later; is_cut = b.is_cut }

-- the tests of the code
module _ (task : Task) (entries : List Entry) (a : ModeAgenda) where
  pub awaits_where : (phase : Phase) → is_over a.batch ≡ true → a.phase ≡ phase → AwaitsPhase (mode_place_in task entries a) phase
  awaits_where phase over is =
      let parts = zero_and_not a.batch.answers a.batch.is_cut over in
      record { phase_is = is; answered = parts.0; uncut = parts.1 }

  pub between_awaits : (is_over a.batch && is_resting a.phase) ≡ true → AwaitsPhase (mode_place_in task entries a) resting
  between_awaits e =
      let parts = and_parts (is_over a.batch) (is_resting a.phase) e in
      awaits_where resting parts.0 (resting_is a.phase parts.1)

  pub undreamt_awaits : (is_over a.batch && is_undreamt a.phase) ≡ true → AwaitsPhase (mode_place_in task entries a) undreamt
  undreamt_awaits e =
      let parts = and_parts (is_over a.batch) (is_undreamt a.phase) e in
      awaits_where undreamt parts.0 (undreamt_is a.phase parts.1)

  pub dreamt_awaits : (is_over a.batch && is_dreamt a.phase) ≡ true → AwaitsPhase (mode_place_in task entries a) dreamt
  dreamt_awaits e =
      let parts = and_parts (is_over a.batch) (is_dreamt a.phase) e in
      awaits_where dreamt parts.0 (dreamt_is a.phase parts.1)

  pub line_awaits : (is_over a.batch && awaits_line a.phase) ≡ true → AwaitsLine (mode_place_in task entries a)
  line_awaits e =
      let parts = and_parts (is_over a.batch) (awaits_line a.phase) e in
      let over = zero_and_not a.batch.answers a.batch.is_cut parts.0 in
      record { line = parts.1; answered = over.0; uncut = over.1 }

module _ (limits : Limits) (task : Task) (entries : List Entry) (a new : ModeAgenda) where
  abbrev pub here : ModePlace
  here = mode_place_in task entries a

  -- where the entry leads
  abbrev pub there : Entry → ModePlace
  there e = mode_place_in task (entries ++ e ∷ []) new

  -- ---- lines behind which no batch begins

  same_batch : (e : Entry) → a.batch.to_ask ≡ [] → new.batch ≡ a.batch
      → place_in task (entries ++ e ∷ []) new.batch ≡ place_in task entries a.batch
  same_batch e idle batch =
      ap (place_in task (entries ++ e ∷ [])) batch ∙ place_same task (entries ++ e ∷ []) entries a.batch idle

  pub none_made : a.batch.to_ask ≡ [] → MayDream limits task entries here → HasNoDreamAfter limits task entries a.kept.tried
      → new.batch ≡ a.batch → new.phase ≡ undreamt → new.kept ≡ a.kept
      → IsNoneStep limits task entries here entry.Nothing (there entry.Nothing)
  none_made idle may no_dream batch phase kept =
      let same = same_batch entry.Nothing idle batch in
      record {
        may = may;
        is = refl;
        no_dream = no_dream;
        after_is = λ i. record { batch = same i; phase = phase i; kept = kept i };
      }

  pub reset_made : a.batch.to_ask ≡ [] → AwaitsPhase here undreamt → HasNoneToPick limits.mode a.kept → 0 < length a.kept.tried
      → new.batch ≡ a.batch → new.phase ≡ resting → new.kept ≡ forgetting a.kept
      → IsResetStep limits here entry.Reset (there entry.Reset)
  reset_made idle awaits none_left tried batch phase kept =
      let same = same_batch entry.Reset idle batch in
      record {
        awaits = awaits;
        no_skeleton = none_left;
        tried = tried;
        is = refl;
        after_is = λ i. record { batch = same i; phase = phase i; kept = kept i };
      }

  -- the dream becomes the last skeleton
  pub keep_made : limits.mode ≡ Adaptive → a.batch.to_ask ≡ [] → (uses : List DreamUse) (steps : List Call)
      → (needs : List dreams.SupposedEntry) → MayDream limits task entries here
      → IsDreamAfter limits task entries a.kept.tried uses steps needs → new.batch ≡ a.batch → new.phase ≡ dreamt
      → new.kept ≡ keeping a.kept needs (length (names_of task entries))
      → IsDreamStep limits task entries here (entry.Dream uses steps) (there (entry.Dream uses steps))
  keep_made mode idle uses steps needs may dream batch phase kept =
      let line = entry.Dream uses steps in
      let same = same_batch line idle batch in
      let place : there line
      ≡ record { batch = here.batch; phase = dreamt; kept = keeping a.kept needs (length (names_of task entries)) } =
      λ i. record { batch = same i; phase = phase i; kept = kept i } in
      record {
        may = may;
        uses = uses;
        steps = steps;
        is = refl;
        entries = needs;
        dream = dream;
        behind = subst (λ (m : Mode). IsBehindDream m limits task (length (names_of task entries)) (entries ++ line ∷ []) needs
            here (there line)) (sym mode) place;
      }

  -- nothing was asked of the skeleton
  pub retire_made : a.batch.to_ask ≡ [] → (place : ℕ) → AwaitsPhase here (unasked place) → new.batch ≡ a.batch
      → new.phase ≡ resting → new.kept ≡ a.kept
      → IsRetireStep here (entry.Retire (place + 1)) (there (entry.Retire (place + 1)))
  retire_made idle place awaits batch phase kept =
      let same = same_batch (entry.Retire (place + 1)) idle batch in
      record {
        place = place;
        awaits = awaits;
        is = refl;
        after_is = λ i. record { batch = same i; phase = phase i; kept = kept i };
      }

  -- ---- lines behind which a batch begins

  module _ (workers : HaveWorkers limits.pools) (dues : List Due) where
    begun_opens : (e : Entry) (kept : Kept) → is_ask e ≡ false → BeginsBatch limits.pools dues (asks_of entries) limits.calls kept new
        → Opens limits task (entries ++ e ∷ []) (take (calls_left limits entries) (due_instances dues))
        (is_cut limits entries (due_instances dues)) (place_in task (entries ++ e ∷ []) new.batch)
    begun_opens e kept mark begins =
        let list = take (calls_left limits entries) (due_instances dues) in
        let number : asks_of entries + 1 ≡ asks_of (entries ++ e ∷ []) + 1 =
        ap (λ n. n + 1) (sym (asks_marked entries e mark)) in
        let cut : nat_lt (limits.calls - asks_of entries) (length dues) ≡ is_cut limits entries (due_instances dues) =
        ap (nat_lt (limits.calls - asks_of entries)) (sym (length-map dues (λ (d : Due). d.instance))) in
        subst (λ (b : Bool). Opens limits task (entries ++ e ∷ []) list b (place_in task (entries ++ e ∷ []) new.batch)) cut
        (starts_open limits task (entries ++ e ∷ []) list (asks_of entries + 1)
        (nat_lt (limits.calls - asks_of entries) (length dues)) new.batch workers number begins.batch)

    pub level_made : limits.mode ≡ Incremental → AwaitsPhase here resting → (may : MayBegin limits task entries)
        → due_instances dues ≡ may.list → BeginsBatch limits.pools dues (asks_of entries) limits.calls a.kept new
        → IsLevelStep limits task entries here entry.Level (there entry.Level)
    level_made mode awaits may lists begins =
        record {
          mode = mode;
          awaits = awaits;
          batch = place_in task (entries ++ entry.Level ∷ []) new.batch;
          begins = record {
            resting = awaits.answered;
            uncut = awaits.uncut;
            is = refl;
            may = may;
            opens = subst (λ (is : List Instance). Opens limits task (entries ++ entry.Level ∷ [])
                (take (calls_left limits entries) is) (is_cut limits entries is)
                (place_in task (entries ++ entry.Level ∷ []) new.batch)) lists (begun_opens entry.Level a.kept refl begins);
          };
          after_is = λ i. record {
            batch = place_in task (entries ++ entry.Level ∷ []) new.batch;
            phase = begins.phase_is i;
            kept = begins.kept_is i;
          };
        }

    pub fallback_made : AwaitsPhase here undreamt → HasNoneToPick limits.mode a.kept → a.kept.tried ≡ []
        → AreDue task (known_of task entries) (notes_of task entries) (due_instances dues)
        → BeginsBatch limits.pools dues (asks_of entries) limits.calls a.kept new
        → IsFallbackStep limits task entries here entry.Level (there entry.Level)
    fallback_made awaits none_left untried due begins =
        record {
          awaits = awaits;
          no_skeleton = none_left;
          untried = untried;
          is = refl;
          list = due_instances dues;
          due = due;
          batch = place_in task (entries ++ entry.Level ∷ []) new.batch;
          opens = begun_opens entry.Level a.kept refl begins;
          after_is = λ i. record {
            batch = place_in task (entries ++ entry.Level ∷ []) new.batch;
            phase = begins.phase_is i;
            kept = begins.kept_is i;
          };
        }

    -- the one batch of a dream
    pub dream_made : limits.mode ≡ Focused → (uses : List DreamUse) (steps : List Call) (needs : List dreams.SupposedEntry)
        → MayDream limits task entries here
        → IsDreamAfter limits task entries a.kept.tried uses steps needs
        → due_instances dues
        ≡ sent_instances (sent_first task (length (names_of task entries)) (entries ++ entry.Dream uses steps ∷ []) needs)
        → BeginsBatch limits.pools dues (asks_of entries) limits.calls
        (joining a.kept (take (limits.calls - asks_of entries) (due_instances dues))) new
        → IsDreamStep limits task entries here (entry.Dream uses steps) (there (entry.Dream uses steps))
    dream_made mode uses steps needs may dream same begins =
        let line = entry.Dream uses steps in
        let marked = entries ++ line ∷ [] in
        let real = length (names_of task entries) in
        let firsts = sent_first task real marked needs in
        let counted : asks_of entries ≡ asks_of marked = sym (asks_marked entries line refl) in
        let asked : take (calls_left limits entries) (due_instances dues) ≡ asked_first limits task real marked needs =
        λ i. take (limits.calls - counted i) (same i) in
        let long : length (due_instances dues) ≡ length firsts = ap length same ∙ length-map firsts (λ (s : Sent). s.instance) in
        let cuts : is_cut limits entries (due_instances dues) ≡ is_cut limits marked firsts =
        λ i. nat_lt (limits.calls - counted i) (long i) in
        let kept = joining a.kept (take (calls_left limits entries) (due_instances dues)) in
        let keeps : new.kept ≡ joining a.kept (asked_first limits task real marked needs) =
        begins.kept_is ∙ ap (joining a.kept) asked in
        let once : RunsOnce limits task real marked needs a.kept (there line) =
        record {
          batch = place_in task marked new.batch;
          opens = opens_at limits task marked (take (calls_left limits entries) (due_instances dues))
              (asked_first limits task real marked needs) (is_cut limits entries (due_instances dues)) (is_cut limits marked firsts)
              (place_in task marked new.batch) asked cuts (begun_opens line kept refl begins);
          after_is = λ i. record {
            batch = place_in task marked new.batch;
            phase = begins.phase_is i;
            kept = keeps i;
          };
        } in
        record {
          may = may;
          uses = uses;
          steps = steps;
          is = refl;
          entries = needs;
          dream = dream;
          behind = subst (λ (m : Mode). IsBehindDream m limits task real marked needs here (there line)) (sym mode) once;
        }

  -- ---- lines behind which the first of several batches begins

  module _ (workers : HaveWorkers limits.pools) (version : ℕ) (fit : IsFit task) (known : Known) (notes : List Note) where
    -- the batch behind the line, of which nothing was asked yet
    module _ (e : Entry) (legal : IsLegal version task (entries ++ e ∷ [])) (closed : HasNoneOpen (entries ++ e ∷ []))
        (known_is : known ≡ known_of task (entries ++ e ∷ [])) (notes_is : notes ≡ notes_of task (entries ++ e ∷ []))
        (over : Phase) (needs : List dreams.SupposedEntry) (real from before : ℕ) (counted : before ≡ asks_of (entries ++ e ∷ []))
        (middle : ModeAgenda)
        (m : MovesOn task known notes [] limits.pools over limits.calls (with_run a needs real from before) middle) where
      abbrev marked : List Entry
      marked = entries ++ e ∷ []

      whole : marked ++ [] ≡ marked
      whole = append-nil marked

      known_here : known ≡ known_of task (marked ++ [])
      known_here = known_is ∙ ap (known_of task) (sym whole)

      notes_here : notes ≡ notes_of task (marked ++ [])
      notes_here = notes_is ∙ ap (notes_of task) (sym whole)

      none_made_yet : WereMade version task marked [] known.names (before + 1) 0
      none_made_yet =
          let same = ap asks_of whole in
          record {
            fit = fit;
            legal = subst (IsLegal version task) (sym whole) legal;
            closed = closed;
            first = ap (λ n. n + 1) counted;
            many = omega (arith, same);
            names = ap (λ (k : Known). k.names) known_here;
          }

      first_runs : RunsNext limits task over real marked needs [] a.kept (mode_place_in task marked middle)
      first_runs =
          subst (λ es. RunsNext limits task over real es needs [] a.kept (mode_place_in task es middle)) whole
          (runs_made limits task marked [] version known notes known_here notes_here over (with_run a needs real from before) middle m
          none_made_yet workers)

      first_sent : sent_of (asking (with_run a needs real from before).run m.asks) ≡ sent_first task real marked needs
      first_sent =
          ap (λ n. numbered n m.asks) (let same : before + 1 ≡ (before + 0) + 1 = omega arith in same)
          ∙ nexts_made limits task marked [] version known notes known_here notes_here over (with_run a needs real from before) middle m
          none_made_yet
          ∙ ap (λ es. sent_first task real es needs) whole

    -- a dream's line
    pub run_made : limits.mode ≡ Binding → (uses : List DreamUse) (steps : List Call) (needs : List dreams.SupposedEntry)
        → MayDream limits task entries here → IsDreamAfter limits task entries a.kept.tried uses steps needs
        → IsLegal version task (entries ++ entry.Dream uses steps ∷ []) → HasNoneOpen (entries ++ entry.Dream uses steps ∷ [])
        → known ≡ known_of task (entries ++ entry.Dream uses steps ∷ [])
        → notes ≡ notes_of task (entries ++ entry.Dream uses steps ∷ []) → (real from before : ℕ)
        → real ≡ length (names_of task entries) → before ≡ asks_of (entries ++ entry.Dream uses steps ∷ [])
        → MovesOn task known notes [] limits.pools resting limits.calls (with_run a needs real from before) new
        → IsDreamStep limits task entries here (entry.Dream uses steps) (there (entry.Dream uses steps))
    run_made mode uses steps needs may dream legal closed known_is notes_is real from before real_is counted m =
        let line = entry.Dream uses steps in
        let runs = first_runs line legal closed known_is notes_is resting needs real from before counted new m in
        record {
          may = may;
          uses = uses;
          steps = steps;
          is = refl;
          entries = needs;
          dream = dream;
          behind = subst (λ (x : Mode). IsBehindDream x limits task (length (names_of task entries)) (entries ++ line ∷ []) needs
              here (there line)) (sym mode)
              (subst (λ n. RunsNext limits task resting n (entries ++ line ∷ []) needs [] a.kept (there line)) real_is runs);
        }

    -- a skeleton's pick
    pub pick_made : limits.mode ≡ Adaptive → AwaitsPick here → (place : ℕ) (s : Skeleton) → IsPicked a.kept.skeletons place s
        → IsLegal version task (entries ++ entry.Pick (place + 1) ∷ []) → HasNoneOpen (entries ++ entry.Pick (place + 1) ∷ [])
        → known ≡ known_of task (entries ++ entry.Pick (place + 1) ∷ [])
        → notes ≡ notes_of task (entries ++ entry.Pick (place + 1) ∷ []) → (from before : ℕ)
        → before ≡ asks_of (entries ++ entry.Pick (place + 1) ∷ [])
        → HasPicked task known notes limits.pools place s from before limits.calls a new
        → IsPickStep limits task entries here (entry.Pick (place + 1)) (there (entry.Pick (place + 1)))
    pick_made mode awaits place s picked legal closed known_is notes_is from before counted h =
        let line = entry.Pick (place + 1) in
        let marked = entries ++ line ∷ [] in
        let runs = first_runs line legal closed known_is notes_is (unasked place) s.entries s.real from before counted h.middle h.moves in
        let firsts = sent_first task s.real marked s.entries in
        let own = is_cut limits marked firsts in
        let asked = asked_first limits task s.real marked s.entries in
        let sent : sent_of new.run ≡ firsts =
        ap sent_of (h.run_is ∙ h.moves.begins.run_is)
        ∙ first_sent line legal closed known_is notes_is (unasked place) s.entries s.real from before counted h.middle h.moves in
        let middle_kept : h.middle.kept ≡ joining a.kept asked = ap (λ (x : ModePlace). x.kept) runs.after_is in
        let kept : new.kept ≡ joining (picking a.kept place s firsts) asked =
        h.kept_is ∙ (λ i. picking (middle_kept i) place s (sent i)) in
        let batch : place_in task marked new.batch ≡ runs.batch =
        ap (place_in task marked) h.batch_is ∙ ap (λ (x : ModePlace). x.batch) runs.after_is in
        let phase : new.phase ≡ phase_behind (unasked place) own s.real s.entries [] firsts =
        h.phase_is ∙ ap (λ (x : ModePlace). x.phase) runs.after_is in
        record {
          mode = mode;
          awaits = awaits;
          place = place;
          skeleton = s;
          picked = picked;
          is = refl;
          runs = record {
            batch = runs.batch;
            opens = runs.opens;
            after_is = λ i. record { batch = batch i; phase = phase i; kept = kept i };
          };
        }
