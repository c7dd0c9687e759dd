-- Entries that lead on from where a turn begins: turns whose last part is a batch, or the batches of a dream.
use Rattle.std.proofs.Common.{◌≡◌, ℕ, suc, ◌-◌, ◌≤◌, inl, inr, All, Bool, true, false, List, [], ◌∷◌, ◌++◌, length, take, refl, sym, ap, subst, ◌∙◌, arith, append_assoc}
use Rattle.std.proofs.lemmas.List.{append-nil, length-append}
use Rattle.course_check.specs.Courses.{Course, Opens}
use Rattle.course_check.proofs.BatchesLemmas.{Parts, over, over_run, parts, still, still_run}
use Rattle.course_check.proofs.OpensLemmas.{AreRun}
use Rattle.course_check.proofs.RunPartsLemmas.{RunParts, rest_stays, run_cut, run_over, run_parts, run_still}
use Rattle.course_check.proofs.RunsLemmas.{at_rest}
use Rattle.course_check.proofs.StepsLemmas.{nothing_more}
use Rattle.course_check.specs.Laws.{IsPlaceAt}
use Rattle.course_check.specs.Places.{AwaitsPhase, IsCutOff, IsLevelStep, LeadsOn, ModePlace, RunsNext, joining, resting, with_batch}
use Rattle.turn_laws.specs.Modes.{TurnOf}
use Rattle.task_model.specs.Dreams as dreams
use Rattle.task_model.specs.Streams.{AreDue}
use Rattle.task_model.specs.declared.stream.Instance.{Instance}
use Rattle.task_model.specs.declared.task.Task.{Task}
use Rattle.transcript_model.proofs.LegalNumberLemmas.{asks_marked}
use Rattle.transcript_model.specs.Dreaming.{Sent, sent_instances}
use Rattle.transcript_model.specs.Rounds.{AreRounds, Limits, Share, calls_left}
use Rattle.transcript_model.specs.Transcript.{known_of, notes_of}
use Rattle.transcript_model.specs.Turns.{AreBatches, AreTurns, IsLevel, Kept, MayBegin, Stage, after_cut, cut_off, inside, is_cut, stopped, whole}
use Rattle.transcript_model.specs.declared.entry.Entry.{Entry}
use Rattle.transcript_model.specs.declared.entry.Entry.TheVariants as entry
use Rattle.transcript_model.specs.declared.head.Mode.{Mode}

-- the entries are turns up to where they lead
pub record Turned (limits : Limits) (task : Task) (k : Kept) (before es : List Entry) (q : ModePlace) : Type 0 where
  pub stage : Stage
  pub at : IsPlaceAt q stage
  pub turns : AreTurns limits task (TurnOf limits.mode limits task) k before es stage

-- that shorter lists of entries from later places on are turns
abbrev pub Shorter : Limits → Task → ℕ → Type 0
Shorter limits task n =
    (before es : List Entry) (p q : ModePlace) → length es ≤ n → AwaitsPhase p resting → LeadsOn limits task p before es q
    → Turned limits task p.kept before es q

-- ---- a level's line and what is asked behind it

pub level_of : (limits : Limits) (task : Task) (before now : List Entry) (list : List Instance)
    → AreDue task (known_of task before) (notes_of task before) list
    → AreRun limits task (before ++ entry.Level ∷ []) (take (calls_left limits before) list) now
    → IsLevel limits task before (entry.Level ∷ now) (is_cut limits before list)
level_of limits task before now list due run =
    let taken : take (calls_left limits before) list ≡ take (calls_left limits (before ++ entry.Level ∷ [])) list =
    ap (λ n. take (limits.calls - n) list) (sym (asks_marked before entry.Level refl)) in
    record {
      list = list;
      due = due;
      rest = now;
      is = refl;
      batch = record {
        rounds = run.0;
        cut = subst (λ (is : List Instance). AreRounds limits.pools is run.0) taken run.1;
        run = run.2;
      };
      cut_is = refl;
    }

-- turns that begin with an entry that is known
pub as_it_is : (limits : Limits) (task : Task) (k : Kept) (before es : List Entry) (e x : Entry) (m p q : ModePlace) → e ≡ x → m ≡ p
    → LeadsOn limits task m (before ++ e ∷ []) es q
    → (LeadsOn limits task p (before ++ x ∷ []) es q → Turned limits task k before (x ∷ es) q)
    → Turned limits task k before (e ∷ es) q
as_it_is limits task k before es e x m p q is same leads onward =
    subst (λ (y : Entry). Turned limits task k before (y ∷ es) q) (sym is)
    (onward (subst (λ (y : Entry). LeadsOn limits task p (before ++ y ∷ []) es q) is
    (subst (λ (r : ModePlace). LeadsOn limits task r (before ++ e ∷ []) es q) same leads)))

-- ---- a turn whose last part is a batch

module _ (limits : Limits) (task : Task) (workers : All (λ (s : Share). 1 ≤ s.workers) limits.pools) (n : ℕ)
    (shorter : Shorter limits task n) where
  module _ (k : Kept) (before head : List Entry) (may : MayBegin limits task before) (list : List Instance) (cut : Bool)
      (c : Course) (next : Kept) (opens : Opens limits task (before ++ head) list cut c)
      (turn : (now : List Entry) → AreRun limits task (before ++ head) list now
      → TurnOf limits.mode limits task k before (head ++ now) next cut) where
    -- behind the head
    abbrev begun : ModePlace
    begun = record { batch = c; phase = resting; kept = next }

    over_turned : (es now rest : List Entry) (m : Course) (q : ModePlace) (b : Bool) → cut ≡ b → length es ≤ n
        → es ≡ now ++ rest → AreRun limits task (before ++ head) list now → m.answers ≡ 0 → m.is_cut ≡ cut
        → LeadsOn limits task (with_batch begun m) ((before ++ head) ++ now) rest q → Turned limits task k before (head ++ es) q
    over_turned es now rest m q false uncut few is run none same later =
        let short : length rest ≤ n = omega (arith, few, ap length is, length-append now rest) in
        let t = shorter (before ++ (head ++ now)) rest (with_batch begun m) q short
        (record { phase_is = refl; answered = none; uncut = same ∙ uncut })
        (subst (λ xs. LeadsOn limits task (with_batch begun m) xs rest q) (append_assoc before head now) later) in
        let this : TurnOf limits.mode limits task k before (head ++ now) next false =
        subst (λ (x : Bool). TurnOf limits.mode limits task k before (head ++ now) next x) uncut (turn now run) in
        record {
          stage = t.stage;
          at = t.at;
          turns = subst (λ xs. AreTurns limits task (TurnOf limits.mode limits task) k before xs t.stage)
              (append_assoc head now rest ∙ ap (λ xs. head ++ xs) (sym is)) (whole next may this t.turns);
        }
    over_turned es now rest m q true spent few is run none same later =
        let end = nothing_more limits task (with_batch begun m) q ((before ++ head) ++ now) rest none (same ∙ spent) later in
        let all : now ≡ es = sym (is ∙ ap (λ xs. now ++ xs) end.0 ∙ append-nil now) in
        let this : TurnOf limits.mode limits task k before (head ++ now) next true =
        subst (λ (x : Bool). TurnOf limits.mode limits task k before (head ++ now) next x) spent (turn now run) in
        record {
          stage = after_cut;
          at = subst IsCutOff end.1 (record { phase_is = refl; answered = none; cut = same ∙ spent });
          turns = subst (λ xs. AreTurns limits task (TurnOf limits.mode limits task) k before (head ++ xs) after_cut) all
              (cut_off next may this);
        }

    pub batch_turned : (es : List Entry) (q : ModePlace) → length es ≤ n → LeadsOn limits task begun (before ++ head) es q
        → Turned limits task k before (head ++ es) q
    batch_turned es q few leads = by (parts limits task begun (before ++ head) es q c.answers (inr refl) refl leads)
      where
        by : Parts limits task begun (before ++ head) es q → Turned limits task k before (head ++ es) q
        by (over now rest m after is run none settles later) =
            let r = over_run limits task workers (before ++ head) list cut c opens now m run none in
            let same = rest_stays limits task (with_batch begun m) after ((before ++ head) ++ now) refl settles in
            over_turned es now rest m q cut refl few is r.0 none r.1
            (subst (λ (x : ModePlace). LeadsOn limits task x ((before ++ head) ++ now) rest q) same later)
        by (still run some) =
            let r = still_run limits task workers (before ++ head) list cut c opens es q.batch run some in
            record {
              stage = inside;
              at = inl some;
              turns = stopped next r.0 cut may
                  (subst (λ xs. TurnOf limits.mode limits task k before xs next cut) (sym (append_assoc head es r.0))
                  (turn (es ++ r.0) r.1));
            }

  -- ---- a turn whose last part are the batches of a dream

  module _ (k : Kept) (before head : List Entry) (may : MayBegin limits task before) (real : ℕ)
      (entries : List dreams.SupposedEntry) (base : Kept) (p : ModePlace)
      (r : RunsNext limits task resting real (before ++ head) entries [] (joining base []) p)
      (turn : (now : List Entry) (after : List Sent) (cut : Bool)
      → AreBatches limits task real entries [] (before ++ head) now after cut
      → TurnOf limits.mode limits task k before (head ++ now) (joining base (sent_instances after)) cut) where
    pub run_turned : (es : List Entry) (q : ModePlace) → length es ≤ n → LeadsOn limits task p (before ++ head) es q
        → Turned limits task k before (head ++ es) q
    run_turned es q few leads =
        by (run_parts limits task real entries base workers (suc n) [] (before ++ head) es p q (omega (arith, few)) r leads)
      where
        by : RunParts limits task real entries base [] (before ++ head) es q → Turned limits task k before (head ++ es) q
        by (run_over now rest after end is run none uncut later) =
            let next = joining base (sent_instances after) in
            let short : length rest ≤ n = omega (arith, few, ap length is, length-append now rest) in
            let t = shorter (before ++ (head ++ now)) rest (at_rest end next) q short
            (record { phase_is = refl; answered = none; uncut = uncut })
            (subst (λ xs. LeadsOn limits task (at_rest end next) xs rest q) (append_assoc before head now) later) in
            record {
              stage = t.stage;
              at = t.at;
              turns = subst (λ xs. AreTurns limits task (TurnOf limits.mode limits task) k before xs t.stage)
                  (append_assoc head now rest ∙ ap (λ xs. head ++ xs) (sym is))
                  (whole next may (turn now after false run) t.turns);
            }
        by (run_cut after run cut) = record {
          stage = after_cut;
          at = cut;
          turns = cut_off (joining base (sent_instances after)) may (turn es after true run);
        }
        by (run_still more after cut run some) =
            let next = joining base (sent_instances after) in
            record {
              stage = inside;
              at = inl some;
              turns = stopped next more cut may
                  (subst (λ xs. TurnOf limits.mode limits task k before xs next cut) (sym (append_assoc head es more))
                  (turn (es ++ more) after cut run));
            }

  -- ---- a level

  pub level_turned : (before es : List Entry) (e : Entry) (p m q : ModePlace) → length es ≤ n
      → IsLevelStep limits task before p e m → LeadsOn limits task m (before ++ e ∷ []) es q
      → Turned limits task p.kept before (e ∷ es) q
  level_turned before es e p m q few s leads =
      let may = s.begins.may in
      let list = take (calls_left limits before) may.list in
      let cut = is_cut limits before may.list in
      let turn : (now : List Entry) → AreRun limits task (before ++ entry.Level ∷ []) list now
      → TurnOf limits.mode limits task p.kept before (entry.Level ∷ now) p.kept cut =
      λ now run. subst (λ (mode : Mode). TurnOf mode limits task p.kept before (entry.Level ∷ now) p.kept cut) (sym s.mode)
      (level_of limits task before now may.list may.due run, refl) in
      as_it_is limits task p.kept before es e entry.Level m (record { batch = s.batch; phase = resting; kept = p.kept }) q s.begins.is
      s.after_is leads
      (batch_turned p.kept before (entry.Level ∷ []) may list cut s.batch p.kept
      (subst (λ (y : Entry). Opens limits task (before ++ y ∷ []) list cut s.batch) s.begins.is s.begins.opens) turn es q few)
