-- Where outcomes stand.
use Rattle.std.proofs.Common.{◌≡◌, ℕ, zero, suc, ◌+◌, ◌<◌, ◌≤◌, ◌⊎◌, inl, inr, Bool, true, false, ◌&&◌, ◌||◌, List, [], ◌∷◌, ◌++◌, length, refl, sym, ap, subst, ◌∙◌, arith, eq-eqb}
use Rattle.std.proofs.lemmas.Bool.{cases_lt, true≢false, false_from_ne_true}
use Rattle.course_check.specs.Courses.{Course, IsBehind, Opens, with_asks}
use Rattle.course_check.proofs.MadeLemmas.{between_awaits, line_awaits}
use Rattle.course_check.proofs.StepsLemmas.{batch_open}
use Rattle.course_check.specs.Agendas.{mode_place_in}
use Rattle.course_check.specs.BatchAgendas.{is_over}
use Rattle.course_check.specs.Laws.{IsPlaceAt}
use Rattle.course_check.specs.Places.{AwaitsPhase, AwaitsLine, IsBatchStep, ModePlace, Settles, asked_next, awaits_line, goes_on, is_repeated, joining, moves, phase_behind, resting, sent_next, stays, with_batch}
use Rattle.course_check.specs.Running.{sent_of}
use Rattle.task_model.specs.Streams.{yields_of}
use Rattle.task_model.specs.declared.stream.Instance.{Instance}
use Rattle.task_model.specs.declared.task.Task.{Task}
use Rattle.transcript_model.proofs.RoundsFrontLemmas.{front_of}
use Rattle.transcript_model.specs.Legal.{HasNoneOpen, asks_of, is_answer, is_ask, is_mark, is_open}
use Rattle.transcript_model.specs.Names.{call_of_instance}
use Rattle.transcript_model.specs.Outcomes.{IsPastCalls}
use Rattle.transcript_model.specs.Rounds.{Limits, requests, requests_from}
use Rattle.transcript_model.specs.Transcript.{names_of, notes_of}
use Rattle.transcript_model.specs.Turns.{AreTurnsOf, Stage, after_cut, between, inside, is_cut}
use Rattle.transcript_model.specs.declared.entry.Entry.{Entry}
use Rattle.transcript_model.specs.declared.entry.Entry.TheVariants as entry
use Rattle.transcript_model.specs.declared.outcome.LimitKind.TheVariants.{Calls}
use Rattle.transcript_model.specs.declared.outcome.Outcome.{Outcome}
use Rattle.transcript_model.specs.declared.outcome.Outcome.TheVariants as outcome
use Rattle.replay_check.proofs.FindingsLemmas.{placed_at}
use Rattle.replay_check.proofs.NextLemmas.{awaits_a_line, awaits_between}
use Rattle.replay_check.proofs.PlacesLemmas.{batch_of, between_inside, next_step, stage_at, step_begun, stops}
use Rattle.replay_check.specs.Breaches.{AreBegun, AreInBatch, HasPlace}
use Rattle.replay_check.specs.Findings.{IsEndPlaced, IsRightEnd, MayEndAt}
use Rattle.replay_check.specs.Standings.{AreBounds, IsStanding, StandsBehind, limits_by}
use Rattle.replay_check.specs.declared.bounds.Bounds.{Bounds}
use Rattle.replay_check.specs.declared.standing.Standing.{Standing}

cut_inside : ¬ (after_cut ≡ inside)
cut_inside e = absurd (cc)

-- requests and answers are no marks
talk_no_mark : (e : Entry) → (is_ask e || is_answer e) ≡ true → is_mark e ≡ false
talk_no_mark (entry.Ask n turn call) talks = refl
talk_no_mark (entry.Got n tuples values) talks = refl
talk_no_mark (entry.Value n value) talks = refl
talk_no_mark (entry.End n) talks = refl
talk_no_mark entry.Level talks = absurd (cc)
talk_no_mark (entry.Dream uses steps) talks = absurd (cc)
talk_no_mark entry.Nothing talks = absurd (cc)
talk_no_mark entry.Reset talks = absurd (cc)
talk_no_mark (entry.Pick n) talks = absurd (cc)
talk_no_mark (entry.Retire n) talks = absurd (cc)

module _ (b : Bounds) (bounds : AreBounds b) (entries : List Entry) (s : Standing) (standing : IsStanding b entries s) where
  abbrev task : Task
  task = b.task.now

  abbrev limits : Limits
  limits = limits_by b

  abbrev stands : StandsBehind limits task entries s.knowledge s.course
  stands = standing.stands

  abbrev here : ModePlace
  here = mode_place_in task entries s.course

  -- ---- inside a batch

  -- a batch opens over any list
  opened : (before : List Entry) (list : List Instance) (cut : Bool) → (after : Course) × Opens limits task before list cut after
  opened before list cut =
      let f = front_of limits.pools list bounds.workers in (
        record {
          asks = requests task before f.round;
          next = asks_of before + 1;
          answers = length f.round;
          later = f.rest;
          is_cut = cut;
        },
        record { round = f.round; rest = f.rest; parts = f.parts; fit = f.fit; full = f.full; some = f.some; is = refl },
      )

  -- an answer that may come next leads somewhere
  behind_answer : (left : ℕ) (e : Entry) → (after : Course) × IsBehind limits task (entries ++ e ∷ []) here.batch left after
  behind_answer zero e = opened (entries ++ e ∷ []) s.course.batch.later s.course.batch.is_cut
  behind_answer (suc left) e = (
    record {
      asks = [];
      next = s.course.batch.next + 1;
      answers = suc left;
      later = s.course.batch.later;
      is_cut = s.course.batch.is_cut;
    },
    refl,
  )

  -- the batch of a dream that may go on isn't cut
  is_uncut : (left : ℕ) (e : Entry) (c : Course) → is_repeated s.course.phase ≡ true
      → IsBehind limits task (entries ++ e ∷ []) here.batch left c → c.is_cut ≡ false
  is_uncut zero e c repeats opens = ap (λ (x : Course). x.is_cut) opens.is ∙ (stands.run repeats).uncut
  is_uncut (suc left) e c repeats is = ap (λ (x : Course). x.is_cut) is ∙ (stands.run repeats).uncut

  -- behind an answer the place comes to rest somewhere
  settles_there : (left : ℕ) (e : Entry) (c : Course) → IsBehind limits task (entries ++ e ∷ []) here.batch left c
      → (after : ModePlace) × Settles limits task (entries ++ e ∷ []) (with_batch here c) after
  settles_there left e c behind = by (cases_lt 0 c.answers) (is_repeated s.course.phase) refl
    where
      by : (0 < c.answers) ⊎ (c.answers ≤ 0) → (x : Bool) → is_repeated s.course.phase ≡ x
          → (after : ModePlace) × Settles limits task (entries ++ e ∷ []) (with_batch here c) after
      by (inl some) x is = (with_batch here c, stays (inl some) refl)
      by (inr none) false is = (with_batch here c, stays (inr is) refl)
      by (inr none) true is =
          let r = stands.run is in
          let run = s.course.run in
          let next = sent_next task run.real (entries ++ e ∷ []) run.entries (sent_of run) in
          let list = asked_next limits task run.real (entries ++ e ∷ []) run.entries (sent_of run) in
          let cut = is_cut limits (entries ++ e ∷ []) next in
          let first = opened (entries ++ e ∷ []) list cut in
          let after : ModePlace = record {
            batch = first.0;
            phase = phase_behind resting cut run.real run.entries (sent_of run) next;
            kept = joining s.course.kept list;
          } in (
            after,
            moves run.real run.entries (sent_of run)
                (record { phase_is = r.phase_is; answered = omega (arith, none); uncut = is_uncut left e c is behind })
                (record { batch = first.0; opens = first.1; after_is = refl }),
          )

  -- where something is open, a request or an answer may come next
  in_batch : 0 < s.course.batch.answers → AreInBatch limits task entries
  in_batch some = by s.course.batch.to_ask refl
    where
      goes : (e : Entry) (c : Course) (after : ModePlace) → IsBatchStep limits task entries here.batch e c
          → Settles limits task (entries ++ e ∷ []) (with_batch here c) after → AreBegun limits task (entries ++ e ∷ [])
      goes e c after step settles =
          step_begun limits task entries here stands.leads bounds.workers e after (goes_on c step settles)

      answered : (n : ℕ) → s.course.batch.answers ≡ n → (left : ℕ) × (s.course.batch.answers ≡ suc left)
      answered zero none = absurd (omega (arith, some, none))
      answered (suc left) is = (left, is)

      by : (is : List Instance) → s.course.batch.to_ask ≡ is → AreInBatch limits task entries
      by [] none =
          let left = answered s.course.batch.answers refl in
          let e = entry.End s.course.batch.next in
          let behind = behind_answer left.0 e in
          let rests = settles_there left.0 e behind.0 behind.1 in (
            e,
            refl,
            goes e behind.0 rests.0 (inr (record {
              asked = ap (requests_from task entries (asks_of entries + 1)) none;
              left = left.0;
              answers = left.1;
              to = eq-eqb s.course.batch.next s.course.batch.next refl;
              behind = behind.1;
            })) rests.1,
          )
      by (i ∷ is) there =
          let number = asks_of entries + 1 in
          let e = entry.Ask number (yields_of (notes_of task entries) i) (call_of_instance task (names_of task entries) i) in
          let rest = requests_from task entries (number + 1) is in
          let c : Course = with_asks here.batch rest in (
            e,
            refl,
            goes e c (with_batch here c)
                (inl (record { more = some; rest = rest; asks = ap (requests_from task entries number) there; is = refl }))
                (stays (inl some) refl),
          )

  -- ---- outcomes that have no place

  -- where another line of the turn comes, neither a request nor an answer does
  line_alone : AwaitsLine here → AreInBatch limits task entries → ⊥
  line_alone awaits (e, talks, begun) =
      let step = next_step limits task entries here stands.leads e begun in
      let batch = batch_of limits task entries here e step.0 (talk_no_mark e talks) step.1 in
      let some = batch_open limits task entries here.batch e batch.0 batch.1 in
      let none = awaits.answered in
      omega (arith, some, none)

  pub misplaced : (o : Outcome) → ¬ (MayEndAt s.course o) → ¬ (HasPlace limits task entries o)
  misplaced o elsewhere (inl turns) =
      elsewhere (inl (awaits_between task entries s.course
      (stage_at limits task entries here stands.leads between between_inside turns)))
  misplaced o elsewhere (inr (is, there)) =
      elsewhere (inr (
        is,
        false_from_ne_true (is_over s.course.batch && awaits_line s.course.phase)
            (λ comes. by (line_awaits task entries s.course comes) there),
      ))
    where
      by : AwaitsLine here → (AreTurnsOf limits.mode limits task entries after_cut ⊎ AreInBatch limits task entries) → ⊥
      by awaits (inl turns) =
          let cut = stage_at limits task entries here stands.leads after_cut cut_inside turns in
          true≢false (sym cut.cut ∙ awaits.uncut)
      by awaits (inr talks) = line_alone awaits talks

  -- ---- outcomes that have one

  module _ (limit : ℕ) where
    -- between two turns each outcome may stand
    between_placed : (o : Outcome) → AwaitsPhase here resting → IsEndPlaced limits limit task entries o
    between_placed o awaits =
        let st = stops limits task entries here stands.leads bounds.workers in
        by st.stage st.at st.turns
      where
        by : (stage : Stage) → IsPlaceAt here stage → AreTurnsOf limits.mode limits task entries stage
            → IsEndPlaced limits limit task entries o
        by between at turns = placed_at limits limit task entries o between turns (inl refl)
        by after_cut at turns = absurd (true≢false (sym at.cut ∙ awaits.uncut))
        by inside (inl some) turns = let none = awaits.answered in absurd (omega (arith, some, none))
        by inside (inr other) turns = absurd (true≢false (sym other.line ∙ ap awaits_line awaits.phase_is))

    -- where all calls are made and answered, no answer is wanted
    all_answered : IsPastCalls limits task entries → 0 < s.course.batch.answers → ⊥
    all_answered past some =
        let left = stands.counts.left in
        let count = stands.counts.count in
        let calls = past.calls in
        let waits : is_open entries s.course.batch.next ≡ true =
        stands.counts.waiting s.course.batch.next (omega arith) (omega (arith, left, count, calls, some)) in
        true≢false (sym waits ∙ past.none_open s.course.batch.next)

    calls_placed : (is_over s.course.batch && awaits_line s.course.phase) ≡ false
        → IsEndPlaced limits limit task entries (outcome.Limit Calls)
    calls_placed other =
        let st = stops limits task entries here stands.leads bounds.workers in
        record { place = there st.stage st.at st.turns; stands = λ past. right past st.stage st.at st.turns }
      where
        there : (stage : Stage) → IsPlaceAt here stage → AreTurnsOf limits.mode limits task entries stage
            → HasPlace limits task entries (outcome.Limit Calls)
        there between at turns = inl turns
        there after_cut at turns = inr (refl, inl turns)
        there inside (inl some) turns = inr (refl, inr (in_batch some))
        there inside (inr awaits) turns = absurd (true≢false (sym (awaits_a_line task entries s.course awaits) ∙ other))

        right : IsPastCalls limits task entries → (stage : Stage) → IsPlaceAt here stage
            → AreTurnsOf limits.mode limits task entries stage
            → IsRightEnd limits limit task entries (outcome.Limit Calls)
        right past between at turns = record { stage = between; turns = turns; stands = inl refl; true = past }
        right past after_cut at turns = record { stage = after_cut; turns = turns; stands = inr (refl, refl); true = past }
        right past inside (inl some) turns = absurd (all_answered past some)
        right past inside (inr awaits) turns = absurd (true≢false (sym (awaits_a_line task entries s.course awaits) ∙ other))

    pub has_its_place : (o : Outcome) → MayEndAt s.course o → IsEndPlaced limits limit task entries o
    has_its_place o (inl rests) = between_placed o (between_awaits task entries s.course rests)
    has_its_place o (inr (is, other)) = subst (IsEndPlaced limits limit task entries) (sym is) (calls_placed other)

  -- where another outcome has its place, no request is open
  pub none_waits : (o : Outcome) → MayEndAt s.course o → ¬ (o ≡ outcome.Limit Calls) → HasNoneOpen entries
  none_waits o (inr (is, other)) no_limit n = absurd (no_limit is)
  none_waits o (inl rests) no_limit n =
      false_from_ne_true (is_open entries n) (λ waits.
      let within = stands.counts.answered n waits in
      let first = within.0 in
      let last = within.1 in
      let count = stands.counts.count in
      let some = stands.counts.some in
      let none = (between_awaits task entries s.course rests).answered in
      omega (arith, first, last, count, some, none))
