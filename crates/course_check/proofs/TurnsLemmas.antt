-- Turns, entry by entry.
use Rattle.std.proofs.Common.{◌≡◌, ℕ, ◌-◌, ◌<◌, inl, inr, Bool, true, false, List, [], ◌∷◌, ◌++◌, length, take, refl, sym, ap, subst, ◌∙◌, arith}
use Rattle.std.proofs.lemmas.List.{append-nil, take-map}
use Rattle.course_check.specs.Courses.{Course, Opens}
use Rattle.course_check.proofs.BatchesLemmas.{opens_back}
use Rattle.course_check.proofs.OpensLemmas.{opens_at}
use Rattle.course_check.proofs.PicksLemmas.{pick_leads}
use Rattle.course_check.proofs.RunsLemmas.{LeadsTurn, at_rest, batch_ends, run_leads, through_of}
use Rattle.course_check.proofs.StepsLemmas.{leads_on_apart, leads_on_then}
use Rattle.course_check.specs.Laws.{IsPlaceAt}
use Rattle.course_check.specs.Places.{AwaitsPhase, HasNoneToPick, IsBehindDream, LeadsOn, ModePlace, RunsNext, asked_first, begins_level, dreamt, falls_back, forgetting, joining, keeping, resets, resting, sent_first, tells_dream, tells_none, undreamt}
use Rattle.turn_laws.specs.Modes.{LeadTo, TurnOf, none_left as lead_none, whole as lead_whole}
use Rattle.task_model.proofs.StreamsLemmas.{due_once}
use Rattle.task_model.specs.Dreams as dreams
use Rattle.task_model.specs.declared.stream.Instance.{Instance}
use Rattle.task_model.specs.declared.task.Task.{Task}
use Rattle.transcript_model.proofs.LegalNumberLemmas.{asks_marked}
use Rattle.transcript_model.specs.Dreaming.{HasNoDreamAfter, Sent, sent_instances}
use Rattle.transcript_model.specs.Legal.{asks_of}
use Rattle.transcript_model.specs.Rounds.{IsBatch, Limits, calls_left}
use Rattle.transcript_model.specs.Transcript.{known_of, names_of, notes_of}
use Rattle.transcript_model.specs.Turns.{AdaptiveTurn, AreBatches, AreTurns, IsDreamTurn, IsEmptyTurn, IsFallback, IsFirstBatch, IsLevel, Kept, MayBegin, Stage, cut_off, inside, is_cut, level, none_left, reset, stopped, whole}
use Rattle.transcript_model.specs.declared.entry.Entry.{Entry}
use Rattle.transcript_model.specs.declared.entry.Entry.TheVariants as entry
use Rattle.transcript_model.specs.declared.head.Mode.{Mode}
use Rattle.transcript_model.specs.declared.head.Mode.TheVariants.{Adaptive, Binding, Focused, Incremental}

-- ---- modes

pub focused_dreams : (m : Mode) → m ≡ Focused → ¬ (m ≡ Incremental)
focused_dreams m is = λ other. absurd (let e : Focused ≡ Incremental = sym is ∙ other in cc)

pub binding_dreams : (m : Mode) → m ≡ Binding → ¬ (m ≡ Incremental)
binding_dreams m is = λ other. absurd (let e : Binding ≡ Incremental = sym is ∙ other in cc)

pub adaptive_dreams : (m : Mode) → m ≡ Adaptive → ¬ (m ≡ Incremental)
adaptive_dreams m is = λ other. absurd (let e : Adaptive ≡ Incremental = sym is ∙ other in cc)

pub focused_keeps : (m : Mode) (k : Kept) → m ≡ Focused → HasNoneToPick m k
focused_keeps m k is = λ other. absurd (let e : Focused ≡ Adaptive = sym is ∙ other in cc)

pub binding_keeps : (m : Mode) (k : Kept) → m ≡ Binding → HasNoneToPick m k
binding_keeps m k is = λ other. absurd (let e : Binding ≡ Adaptive = sym is ∙ other in cc)

module _ (limits : Limits) (task : Task) where
  -- one entry more in front
  in_front : (p q : ModePlace) (before now : List Entry) (e : Entry) (next : Kept) (cut : Bool)
      → ((last : Course) → LeadsOn limits task q (before ++ e ∷ []) now (at_rest last next)
      → LeadsOn limits task p before (e ∷ now) (at_rest last next))
      → LeadsTurn limits task q (before ++ e ∷ []) now next cut → LeadsTurn limits task p before (e ∷ now) next cut
  in_front p q before now e next cut step l =
      record { last = l.last; leads = step l.last l.leads; answered = l.answered; cut_is = l.cut_is }

  -- ---- a batch

  -- a batch leads from where it opens to its end
  pub record LeadsBatch (before now : List Entry) (list : List Instance) (cut : Bool) (next : Kept) : Type 0 where
    pub first : Course
    pub opens : Opens limits task before list cut first
    pub through : LeadsTurn limits task (at_rest first next) before now next cut

  batch_through : (before now : List Entry) (list : List Instance) (cut : Bool) (next : Kept)
      → IsBatch limits task before list now → LeadsBatch before now (take (calls_left limits before) list) cut next
  batch_through before now list cut next b =
      let asked = take (calls_left limits before) list in
      let t = through_of limits task before now list cut b in
      record {
        first = t.first;
        opens = opens_back limits task before asked cut t.first t.opens;
        through = batch_ends limits task before now asked cut resting next refl t;
      }

  -- ---- levels

  -- what is asked behind the line of a level, in the words of the line
  level_opens : (before now : List Entry) (cut : Bool) (list : List Instance) (first : Course) (l : IsLevel limits task before now cut)
      → l.list ≡ list
      → Opens limits task (before ++ entry.Level ∷ []) (take (calls_left limits (before ++ entry.Level ∷ [])) l.list) cut first
      → Opens limits task (before ++ entry.Level ∷ []) (take (calls_left limits before) list) (is_cut limits before list) first
  level_opens before now cut list first l lists o =
      let marked = before ++ entry.Level ∷ [] in
      let taken : take (calls_left limits marked) l.list ≡ take (calls_left limits before) list =
      λ i. take (limits.calls - asks_marked before entry.Level refl i) (lists i) in
      opens_at limits task marked (take (calls_left limits marked) l.list) (take (calls_left limits before) list) cut
      (is_cut limits before list) first taken (l.cut_is ∙ ap (λ (is : List Instance). is_cut limits before is) lists) o

  level_leads : (p : ModePlace) (before now : List Entry) (cut : Bool) → limits.mode ≡ Incremental → AwaitsPhase p resting
      → MayBegin limits task before → IsLevel limits task before now cut → LeadsTurn limits task p before now p.kept cut
  level_leads p before now cut mode awaits may l =
      let lists : l.list ≡ may.list = due_once task (known_of task before) (notes_of task before) l.list may.list l.due may.due in
      let b = batch_through (before ++ entry.Level ∷ []) l.rest l.list cut p.kept l.batch in
      let opens = level_opens before now cut may.list b.first l lists b.opens in
      subst (λ xs. LeadsTurn limits task p before xs p.kept cut) (sym l.is)
      (in_front p (at_rest b.first p.kept) before l.rest entry.Level p.kept cut (λ last leads. (
        at_rest b.first p.kept,
        begins_level (record {
          mode = mode;
          awaits = awaits;
          batch = b.first;
          begins = record { resting = awaits.answered; uncut = awaits.uncut; is = refl; may = may; opens = opens };
          after_is = refl;
        }),
        leads,
      )) b.through)

  -- ---- dreams

  -- behind the line of a dream
  dream_line : (mode : Mode) (p q : ModePlace) (before now : List Entry)
      (asks : ℕ → List dreams.SupposedEntry → List Entry → List Entry → List Sent → Bool → Type 0) (next : Kept) (cut : Bool)
      (last : List Instance) → limits.mode ≡ mode → ¬ (mode ≡ Incremental) → AwaitsPhase p resting → MayBegin limits task before
      → (t : IsDreamTurn limits task asks p.kept.tried before now last cut)
      → IsBehindDream mode limits task (length (names_of task before)) (before ++ entry.Dream t.uses t.steps ∷ []) t.entries p q
      → LeadsTurn limits task q (before ++ entry.Dream t.uses t.steps ∷ []) t.rest next cut
      → LeadsTurn limits task p before now next cut
  dream_line mode p q before now asks next cut last is dreams_mode awaits may t behind through =
      let line = entry.Dream t.uses t.steps in
      let marked = before ++ line ∷ [] in
      subst (λ xs. LeadsTurn limits task p before xs next cut) (sym t.is)
      (in_front p q before t.rest line next cut (λ end leads. (
        q,
        tells_dream (record {
          may = record {
            mode = subst (λ (m : Mode). ¬ (m ≡ Incremental)) (sym is) dreams_mode;
            awaits = awaits;
            may = may;
          };
          uses = t.uses;
          steps = t.steps;
          is = refl;
          entries = t.entries;
          dream = t.dream;
          behind = subst (λ (m : Mode). IsBehindDream m limits task (length (names_of task before)) marked t.entries p q) (sym is) behind;
        }),
        leads,
      )) through)

  dream_leads : (p : ModePlace) (before now : List Entry) (next : Kept) (cut : Bool) → limits.mode ≡ Focused → AwaitsPhase p resting
      → MayBegin limits task before → IsDreamTurn limits task (IsFirstBatch limits task) p.kept.tried before now next.tried cut
      → next.skeletons ≡ p.kept.skeletons → LeadsTurn limits task p before now next cut
  dream_leads p before now next cut mode awaits may t skeletons =
      let line = entry.Dream t.uses t.steps in
      let marked = before ++ line ∷ [] in
      let real = length (names_of task before) in
      let first = t.batches in
      let firsts = sent_first task real marked t.entries in
      let asked = asked_first limits task real marked t.entries in
      let kept = joining p.kept asked in
      let b = batch_through marked t.rest (sent_instances first.list) cut kept first.batch in
      let opens = opens_at limits task marked (take (calls_left limits marked) (sent_instances first.list)) asked cut
      (is_cut limits marked firsts) b.first
      (ap (λ (l : List Sent). take (calls_left limits marked) (sent_instances l)) first.ready)
      (first.cut_is ∙ ap (λ (l : List Sent). is_cut limits marked l) first.ready) b.opens in
      let sent : t.sent ≡ take (calls_left limits marked) firsts =
      first.asked ∙ ap (λ (l : List Sent). take (calls_left limits marked) l) first.ready in
      let tried : next.tried ≡ p.kept.tried ++ asked =
      t.joined ∙ ap (λ (l : List Sent). p.kept.tried ++ sent_instances l) sent
      ∙ ap (λ (is : List Instance). p.kept.tried ++ is)
      (sym (take-map (λ (s : Sent). s.instance) (calls_left limits marked) firsts)) in
      let same : kept ≡ next = λ i. record { tried = sym tried i; skeletons = sym skeletons i } in
      subst (λ (k : Kept). LeadsTurn limits task p before now k cut) same
      (dream_line Focused p (at_rest b.first kept) before now (IsFirstBatch limits task) kept cut next.tried
      mode (focused_dreams Focused refl) awaits may t (record { batch = b.first; opens = opens; after_is = refl }) b.through)

  run_dream_leads : (p : ModePlace) (before now : List Entry) (next : Kept) (cut : Bool) → limits.mode ≡ Binding → AwaitsPhase p resting
      → MayBegin limits task before
      → IsDreamTurn limits task (λ real entries. AreBatches limits task real entries []) p.kept.tried before now next.tried cut
      → next.skeletons ≡ p.kept.skeletons → LeadsTurn limits task p before now next cut
  run_dream_leads p before now next cut mode awaits may t skeletons =
      let marked = before ++ entry.Dream t.uses t.steps ∷ [] in
      let real = length (names_of task before) in
      let run = run_leads limits task real t.entries p.kept [] marked t.rest t.sent cut t.batches in
      let same : joining p.kept (sent_instances t.sent) ≡ next =
      λ i. record { tried = sym t.joined i; skeletons = sym skeletons i } in
      let begun : joining p.kept [] ≡ p.kept = λ i. record { tried = append-nil p.kept.tried i; skeletons = p.kept.skeletons } in
      let through : LeadsTurn limits task run.first marked t.rest next cut =
      subst (λ (k : Kept). LeadsTurn limits task run.first marked t.rest k cut) same run.through in
      dream_line Binding p run.first before now (λ real entries. AreBatches limits task real entries [])
      next cut next.tried mode (binding_dreams Binding refl) awaits may t
      (subst (λ (k : Kept). RunsNext limits task resting real marked t.entries [] k run.first) begun run.runs) through

  -- ---- turns without a dream

  fallback_leads : (p : ModePlace) (before : List Entry) (next : Kept) (tried : List Instance) (now : List Entry) (cut : Bool)
      → IsFallback limits task before tried now cut → p.kept.tried ≡ tried → AwaitsPhase p undreamt
      → HasNoneToPick limits.mode p.kept → next.tried ≡ []
      → next.skeletons ≡ p.kept.skeletons → LeadsTurn limits task p before now next cut
  fallback_leads p before next tried now cut (reset first more) are awaits no_skeleton forgotten skeletons =
      let some : 0 < length p.kept.tried = subst (λ (is : List Instance). 0 < length is) (sym are) (omega arith) in
      record {
        last = p.batch;
        leads = (
          at_rest p.batch (forgetting p.kept),
          resets (record { awaits = awaits; no_skeleton = no_skeleton; tried = some; is = refl; after_is = refl }),
          λ i. at_rest p.batch (record { tried = sym forgotten i; skeletons = sym skeletons i }),
        );
        answered = awaits.answered;
        cut_is = awaits.uncut;
      }
  fallback_leads p before next tried now cut (level l) are awaits no_skeleton forgotten skeletons =
      let b = batch_through (before ++ entry.Level ∷ []) l.rest l.list cut p.kept l.batch in
      let opens = level_opens before now cut l.list b.first l refl b.opens in
      let same : p.kept ≡ next = λ i. record { tried = (are ∙ sym forgotten) i; skeletons = sym skeletons i } in
      subst (λ (k : Kept). LeadsTurn limits task p before now k cut) same
      (subst (λ xs. LeadsTurn limits task p before xs p.kept cut) (sym l.is)
      (in_front p (at_rest b.first p.kept) before l.rest entry.Level p.kept cut (λ last leads. (
        at_rest b.first p.kept,
        falls_back (record {
          awaits = awaits;
          no_skeleton = no_skeleton;
          untried = are;
          is = refl;
          list = l.list;
          due = l.due;
          batch = b.first;
          opens = opens;
          after_is = refl;
        }),
        leads,
      )) b.through))

  -- behind the line that there is no dream
  none_line : (p : ModePlace) (before rest : List Entry) (next : Kept) (cut : Bool) → ¬ (limits.mode ≡ Incremental)
      → AwaitsPhase p resting → MayBegin limits task before → HasNoDreamAfter limits task before p.kept.tried
      → LeadsTurn limits task (record { batch = p.batch; phase = undreamt; kept = p.kept })
      (before ++ entry.Nothing ∷ []) rest next cut
      → LeadsTurn limits task p before (entry.Nothing ∷ rest) next cut
  none_line p before rest next cut mode awaits may none through =
      let behind : ModePlace = record { batch = p.batch; phase = undreamt; kept = p.kept } in
      in_front p behind before rest entry.Nothing next cut (λ last leads. (
        behind,
        tells_none (record {
          may = record { mode = mode; awaits = awaits; may = may };
          is = refl;
          no_dream = none;
          after_is = refl;
        }),
        leads,
      )) through

  empty_leads : (p : ModePlace) (before now : List Entry) (next : Kept) (cut : Bool) → ¬ (limits.mode ≡ Incremental)
      → HasNoneToPick limits.mode p.kept → AwaitsPhase p resting
      → MayBegin limits task before → IsEmptyTurn limits task p.kept.tried before now next.tried cut
      → next.skeletons ≡ p.kept.skeletons → LeadsTurn limits task p before now next cut
  empty_leads p before now next cut mode no_skeleton awaits may t skeletons =
      let behind : ModePlace = record { batch = p.batch; phase = undreamt; kept = p.kept } in
      subst (λ xs. LeadsTurn limits task p before xs next cut) (sym t.is)
      (none_line p before t.rest next cut mode awaits may t.none
      (fallback_leads behind (before ++ entry.Nothing ∷ []) next p.kept.tried t.rest cut t.fallback refl
      (record { phase_is = refl; answered = awaits.answered; uncut = awaits.uncut }) no_skeleton t.forgotten skeletons))

  -- ---- skeletons

  adaptive_leads : (p : ModePlace) (before now : List Entry) (next : Kept) (cut : Bool) → limits.mode ≡ Adaptive → AwaitsPhase p resting
      → MayBegin limits task before → AdaptiveTurn limits task p.kept before now next cut
      → LeadsTurn limits task p before now next cut
  adaptive_leads p before now next cut mode awaits may (inl t) =
      let line = entry.Dream t.uses t.steps in
      let real = length (names_of task before) in
      let q : ModePlace = record { batch = p.batch; phase = dreamt; kept = keeping p.kept t.entries real } in
      let left : asks_of (before ++ line ∷ []) < limits.calls =
      let less = may.left in omega (arith, less, asks_marked before line refl) in
      let through = pick_leads limits task q (before ++ line ∷ []) t.rest next cut mode
      (inl (record { phase_is = refl; answered = awaits.answered; uncut = awaits.uncut })) left t.pick in
      subst (λ xs. LeadsTurn limits task p before xs next cut) (sym t.is)
      (in_front p q before t.rest line next cut (λ end leads. (
        q,
        tells_dream (record {
          may = record { mode = adaptive_dreams limits.mode mode; awaits = awaits; may = may };
          uses = t.uses;
          steps = t.steps;
          is = refl;
          entries = t.entries;
          dream = t.dream;
          behind = subst (λ (m : Mode). IsBehindDream m limits task real (before ++ line ∷ []) t.entries p q) (sym mode) refl;
        }),
        leads,
      )) through)
  adaptive_leads p before now next cut mode awaits may (inr (inl t)) =
      let behind : ModePlace = record { batch = p.batch; phase = undreamt; kept = p.kept } in
      let left : asks_of (before ++ entry.Nothing ∷ []) < limits.calls =
      let less = may.left in omega (arith, less, asks_marked before entry.Nothing refl) in
      subst (λ xs. LeadsTurn limits task p before xs next cut) (sym t.is)
      (none_line p before t.rest next cut (adaptive_dreams limits.mode mode) awaits may t.none
      (pick_leads limits task behind (before ++ entry.Nothing ∷ []) t.rest next cut mode
      (inr (record { phase_is = refl; answered = awaits.answered; uncut = awaits.uncut })) left t.pick))
  adaptive_leads p before now next cut mode awaits may (inr (inr t)) =
      let last : Kept = record { tried = t.tried; skeletons = p.kept.skeletons } in
      subst (λ (k : Kept). LeadsTurn limits task p before now k cut) (sym t.next_is)
      (empty_leads p before now last cut (adaptive_dreams limits.mode mode) (λ same. t.all_retired) awaits may t.turn refl)

  -- ---- any turn

  mode_leads : (mode : Mode) (p : ModePlace) (before now : List Entry) (next : Kept) (cut : Bool) → limits.mode ≡ mode
      → AwaitsPhase p resting → MayBegin limits task before
      → TurnOf mode limits task p.kept before now next cut → LeadsTurn limits task p before now next cut
  mode_leads Incremental p before now next cut is awaits may (this, same) =
      subst (λ (k : Kept). LeadsTurn limits task p before now k cut) (sym same) (level_leads p before now cut is awaits may this)
  mode_leads Focused p before now next cut is awaits may (inl this, same) =
      dream_leads p before now next cut is awaits may this same
  mode_leads Focused p before now next cut is awaits may (inr this, same) =
      empty_leads p before now next cut (focused_dreams limits.mode is) (focused_keeps limits.mode p.kept is) awaits may this same
  mode_leads Binding p before now next cut is awaits may (inl this, same) =
      run_dream_leads p before now next cut is awaits may this same
  mode_leads Binding p before now next cut is awaits may (inr this, same) =
      empty_leads p before now next cut (binding_dreams limits.mode is) (binding_keeps limits.mode p.kept is) awaits may this same
  mode_leads Adaptive p before now next cut is awaits may this =
      adaptive_leads p before now next cut is awaits may this

  turn_leads : (p : ModePlace) (k : Kept) (before now : List Entry) (next : Kept) (cut : Bool) → p.kept ≡ k → AwaitsPhase p resting
      → MayBegin limits task before → TurnOf limits.mode limits task k before now next cut → LeadsTurn limits task p before now next cut
  turn_leads p k before now next cut same awaits may this =
      mode_leads limits.mode p before now next cut refl awaits may
      (subst (λ (x : Kept). TurnOf limits.mode limits task x before now next cut) (sym same) this)

  -- behind a turn that isn't cut
  rests : (c : Course) (k : Kept) → c.answers ≡ 0 → c.is_cut ≡ false → AwaitsPhase (at_rest c k) resting
  rests c k none uncut = record { phase_is = refl; answered = none; uncut = uncut }

  -- the turns lead to where their stage says, unless they stop inside one
  pub record LeadsTo (p : ModePlace) (before es : List Entry) (stage : Stage) : Type 0 where
    pub last : ModePlace
    pub leads : LeadsOn limits task p before es last
    pub at : ¬ (stage ≡ inside) → IsPlaceAt last stage

  pub turns_lead : (k : Kept) (before es : List Entry) (stage : Stage) (p : ModePlace)
      → AreTurns limits task (TurnOf limits.mode limits task) k before es stage → p.kept ≡ k → AwaitsPhase p resting
      → LeadsTo p before es stage
  turns_lead k before es stage p none_left same awaits = record { last = p; leads = refl; at = λ other. awaits }
  turns_lead k before es stage p (whole next {now = now} {rest = rest} may this more) same awaits =
      let t = turn_leads p k before now next false same awaits may this in
      let q = at_rest t.last next in
      let later = turns_lead next (before ++ now) rest stage q more refl (rests t.last next t.answered t.cut_is) in
      record {
        last = later.last;
        leads = leads_on_then limits task p before now rest q later.last t.leads later.leads;
        at = later.at;
      }
  turns_lead k before es stage p (cut_off next may this) same awaits =
      let t = turn_leads p k before es next true same awaits may this in
      record {
        last = at_rest t.last next;
        leads = t.leads;
        at = λ other. record { phase_is = refl; answered = t.answered; cut = t.cut_is };
      }
  turns_lead k before es stage p (stopped next more cut may this) same awaits =
      let t = turn_leads p k before (es ++ more) next cut same awaits may this in
      let front = leads_on_apart limits task p before es more (at_rest t.last next) t.leads in
      record { last = front.0; leads = front.1; at = λ other. absurd (other refl) }

  -- whole turns lead to where this is kept
  pub record LeadsWhole (p : ModePlace) (before es : List Entry) (last : Kept) : Type 0 where
    pub batch : Course
    pub leads : LeadsOn limits task p before es (at_rest batch last)
    pub awaits : AwaitsPhase (at_rest batch last) resting

  pub whole_lead : (k last : Kept) (before es : List Entry) (p : ModePlace) → LeadTo limits task k before es last → p.kept ≡ k
      → AwaitsPhase p resting → LeadsWhole p before es last
  whole_lead k last before es p lead_none same awaits = record {
    batch = p.batch;
    leads = λ i. record { batch = p.batch; phase = awaits.phase_is i; kept = same i };
    awaits = rests p.batch k awaits.answered awaits.uncut;
  }
  whole_lead k last before es p (lead_whole {rest = rest} next now may this more) same awaits =
      let t = turn_leads p k before now next false same awaits may this in
      let q = at_rest t.last next in
      let later = whole_lead next last (before ++ now) rest q more refl (rests t.last next t.answered t.cut_is) in
      record {
        batch = later.batch;
        leads = leads_on_then limits task p before now rest q (at_rest later.batch last) t.leads later.leads;
        awaits = later.awaits;
      }
