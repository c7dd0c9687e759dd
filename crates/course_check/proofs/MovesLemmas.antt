-- What the code of a course does where a batch of a dream begins, as what is asked next of the dream.
use Rattle.std.proofs.Common.{◌≡◌, ℕ, ◌+◌, ◌-◌, inl, inr, nat_lt, ◌==◌, ◌&&◌, not, Bool, true, false, List, ◌++◌, drop, length, take, refl, sym, ap, subst, ◌∙◌, arith}
use Rattle.std.proofs.lemmas.Bool.{and_parts, eqb-false, true≢false}
use Rattle.std.proofs.lemmas.List.{take-append-drop}
use Rattle.dream_asks.proofs.ProgressLemmas.{numbered_instances, numbered_length}
use Rattle.dream_asks.specs.Next.{asked_instances}
use Rattle.dream_asks.specs.Noting.{WereMade}
use Rattle.dream_asks.specs.Progress.{numbered}
use Rattle.lemmas.proofs.Bools.{zero_and_not}
use Rattle.course_check.specs.BatchAgendas.{Agenda, Starts, is_over, place_in}
use Rattle.course_check.specs.Courses.{Opens}
use Rattle.course_check.proofs.OpensLemmas.{opens_at}
use Rattle.course_check.specs.Agendas.{HasSettled, KeepsRun, ModeAgenda, MovesOn, RunsBehind, is_to_settle, left_behind, mode_place_in}
use Rattle.course_check.specs.Places.{IsStaying, Phase, RunsNext, Settles, asked_next, is_repeated, joining, moves, phase_behind, resting, sent_next, stays}
use Rattle.course_check.specs.Running.{made_by, sent_of}
use Rattle.pools.specs.Pools.{HaveWorkers}
use Rattle.task_model.specs.Fit.{IsFit}
use Rattle.task_model.specs.Known.{Known}
use Rattle.task_model.specs.Streams.{Note}
use Rattle.task_model.specs.declared.stream.Instance.{Instance}
use Rattle.task_model.specs.declared.task.Task.{Task}
use Rattle.transcript_model.specs.Dreaming.{Sent, sent_instances}
use Rattle.transcript_model.specs.Legal.{IsLegal, asks_of}
use Rattle.transcript_model.specs.Rounds.{Limits, requests_from}
use Rattle.transcript_model.specs.Transcript.{known_of, notes_of}
use Rattle.transcript_model.specs.Turns.{is_cut}
use Rattle.transcript_model.specs.declared.entry.Entry.{Entry}

-- the first round of a list that begins is that of the place
pub starts_open : (limits : Limits) (task : Task) (es : List Entry) (list : List Instance) (number : ℕ) (cut : Bool) (b : Agenda)
    → HaveWorkers limits.pools → number ≡ asks_of es + 1 → Starts limits.pools list number cut b
    → Opens limits task es list cut (place_in task es b)
starts_open limits task es list number cut b workers next st =
    record {
      round = st.round;
      rest = st.rest;
      parts = st.parts;
      fit = st.fit;
      full = st.full;
      some = st.some workers;
      is =
          ap (place_in task es) st.is
          ∙ (λ k. record {
            asks = requests_from task es (asks_of es + 1) st.round;
            next = next k;
            answers = length st.round;
            later = st.rest;
            is_cut = cut;
          });
    }

-- ---- what is asked next

module _ (limits : Limits) (task : Task) (front behind : List Entry) (version : ℕ) (known : Known) (notes : List Note)
    (known_is : known ≡ known_of task (front ++ behind)) (notes_is : notes ≡ notes_of task (front ++ behind)) (over : Phase)
    (old new : ModeAgenda) (m : MovesOn task known notes behind limits.pools over limits.calls old new)
    (made : WereMade version task front behind known.names (old.run.before + 1) (length old.run.asks)) where
  abbrev all : List Entry
  all = front ++ behind

  -- what the definition of turns asks
  abbrev next : List Sent
  next = sent_next task old.run.real all old.run.entries (sent_of old.run)

  counts : made_by old.run ≡ asks_of all
  counts = let first = made.first in let many = made.many in omega (arith, first, many)

  pub nexts_made : numbered (made_by old.run + 1) m.asks ≡ next
  nexts_made =
      ap (λ n. numbered (n + 1) m.asks) counts ∙ m.next version front (asks_of all + 1) made known_is notes_is

  instances_made : asked_instances m.asks ≡ sent_instances next
  instances_made = sym (numbered_instances m.asks (made_by old.run + 1)) ∙ ap sent_instances nexts_made

  lists_made : take (left_behind limits.calls old.run) (asked_instances m.asks)
      ≡ asked_next limits task old.run.real all old.run.entries (sent_of old.run)
  lists_made = λ i. take (limits.calls - counts i) (instances_made i)

  cuts_made : nat_lt (left_behind limits.calls old.run) (length m.asks) ≡ is_cut limits all next
  cuts_made =
      let long : length m.asks ≡ length next =
      sym (numbered_length m.asks (made_by old.run + 1)) ∙ ap length nexts_made in
      λ i. nat_lt (limits.calls - counts i) (long i)

  pub runs_made : HaveWorkers limits.pools
      → RunsNext limits task over old.run.real all old.run.entries (sent_of old.run) old.kept (mode_place_in task all new)
  runs_made workers =
      let b = m.begins in
      let sent = sent_of old.run in
      let list = take (left_behind limits.calls old.run) (asked_instances m.asks) in
      let cut = nat_lt (left_behind limits.calls old.run) (length m.asks) in
      let number : made_by old.run + 1 ≡ asks_of all + 1 = ap (λ n. n + 1) counts in
      let phase : new.phase ≡ phase_behind over (is_cut limits all next) old.run.real old.run.entries sent next =
      b.phase_is ∙ (λ i. phase_behind over (cuts_made i) old.run.real old.run.entries sent (nexts_made i)) in
      let kept : new.kept ≡ joining old.kept (asked_next limits task old.run.real all old.run.entries sent) =
      b.kept_is ∙ ap (joining old.kept) lists_made in
      record {
        batch = place_in task all new.batch;
        opens = opens_at limits task all list (asked_next limits task old.run.real all old.run.entries sent) cut
            (is_cut limits all next) (place_in task all new.batch) lists_made cuts_made
            (starts_open limits task all list (made_by old.run + 1) cut new.batch workers number b.batch);
        after_is = λ i. record {
          batch = place_in task all new.batch;
          phase = phase i;
          kept = kept i;
        };
      }

-- ---- where the last answer of a batch was given

module _ (limits : Limits) (task : Task) (entries : List Entry) (a new : ModeAgenda) (version : ℕ) (known : Known)
    (notes : List Note) (fit : IsFit task) (legal : IsLegal version task entries) (known_is : known ≡ known_of task entries)
    (notes_is : notes ≡ notes_of task entries) (keeps : KeepsRun limits.calls entries a) where
  moved : is_over a.batch ≡ true → RunsBehind limits.calls entries a → HaveWorkers limits.pools
      → MovesOn task known notes (drop a.run.from entries) limits.pools resting limits.calls a new
      → Settles limits task entries (mode_place_in task entries a) (mode_place_in task entries new)
  moved idle r workers m =
      let front = take a.run.from entries in
      let behind = drop a.run.from entries in
      let parts : front ++ behind ≡ entries = take-append-drop a.run.from entries in
      let over = zero_and_not a.batch.answers a.batch.is_cut idle in
      let none = r.whole over.0 in
      let count = r.made in
      let before = r.before in
      let many : asks_of entries ≡ asks_of front + length a.run.asks =
      omega (arith, count, before, ap length none.0, ap length none.1) in
      let known_here : known ≡ known_of task (front ++ behind) = known_is ∙ ap (known_of task) (sym parts) in
      let made : WereMade version task front behind known.names (a.run.before + 1) (length a.run.asks) = record {
        fit = fit;
        legal = subst (IsLegal version task) (sym parts) legal;
        closed = r.closed;
        first = ap (λ n. n + 1) before;
        many = ap asks_of parts ∙ many;
        names = ap (λ (k : Known). k.names) known_here;
      } in
      let runs = runs_made limits task front behind version known notes known_here
      (notes_is ∙ ap (notes_of task) (sym parts)) resting a new m made workers in
      moves a.run.real a.run.entries (sent_of a.run)
      (record { phase_is = r.phase_is; answered = over.0; uncut = over.1 })
      (subst (λ es. RunsNext limits task resting a.run.real es a.run.entries (sent_of a.run) a.kept (mode_place_in task es new))
      parts runs)

  -- where further batches may come, something is open
  settled : (b : Bool) → is_repeated a.phase ≡ b → is_to_settle a ≡ false → IsStaying (mode_place_in task entries a)
  settled false other stays_here = inr other
  settled true is stays_here =
      let r = keeps is in
      let waits : (a.batch.answers == 0) ≡ false = by (a.batch.answers == 0) refl r.uncut in
      let some = eqb-false a.batch.answers 0 waits in
      inl (omega (arith, some))
    where
      by : (x : Bool) → (a.batch.answers == 0) ≡ x → a.batch.is_cut ≡ false → (a.batch.answers == 0) ≡ false
      by false zero uncut = zero
      by true zero uncut =
          let settles : is_to_settle a ≡ true = λ i. (zero i && not (uncut i)) && is i in
          absurd (true≢false (sym settles ∙ stays_here))

  pub settle_made : HaveWorkers limits.pools → HasSettled task known notes entries limits.pools limits.calls a new
      → Settles limits task entries (mode_place_in task entries a) (mode_place_in task entries new)
  settle_made workers h = by (is_to_settle a) refl
    where
      by : (b : Bool) → is_to_settle a ≡ b
          → Settles limits task entries (mode_place_in task entries a) (mode_place_in task entries new)
      by false is = stays (settled (is_repeated a.phase) refl is) (ap (mode_place_in task entries) (h.stays is))
      by true is =
          let both = and_parts (is_over a.batch) (is_repeated a.phase) is in
          moved both.0 (keeps both.1) workers (h.moves is)
