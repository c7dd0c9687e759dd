-- What the code of a course shows where the next batch of a dream begins.
use Rattle.std.proofs.Common.{◌≡◌, ◌⊎◌, ℕ, ◌+◌, ◌-◌, ◌<◌, ◌≤◌, inl, inr, ◌==◌, nat_lt, Bool, List, [], ◌∷◌, ◌++◌, length, take, refl, sym, ap, subst, ◌∙◌, arith}
use Rattle.std.proofs.lemmas.Bool.{le-ltb, lt-ltb, ne_eqb}
use Rattle.std.proofs.lemmas.List.{append-nil, length-map}
use Rattle.dream_asks.specs.Next.{AreDuesOf, asked_instances}
use Rattle.dream_asks.specs.Progress.{numbered}
use Rattle.dream_asks.specs.declared.asks.DreamAsk.{DreamAsk}
use Rattle.instance_queue.specs.Level.{due_instances}
use Rattle.instance_queue.specs.declared.due.Due.{Due}
use Rattle.course_check.specs.BatchAgendas.{Starts}
use Rattle.course_check.specs.Agendas.{BeginsBatch, ModeAgenda, MovesOn, left_behind, phase_of, shown_mode}
use Rattle.course_check.specs.Places.{Phase, joining, phase_behind, repeated, resting}
use Rattle.course_check.specs.Running.{AreNextOf, Run, asking, made_by, run_of, sent_of}
use Rattle.course_check.specs.declared.course.ModeCourse.TheInside.{Inside}
use Rattle.course_check.specs.declared.course.Phase as stored
use Rattle.course_check.specs.declared.course.Phase.TheVariants.{Dreamt, Repeated, Resting, Unasked, Undreamt}
use Rattle.course_check.specs.declared.running.Running.{Running}
use Rattle.task_model.specs.Known.{Known}
use Rattle.task_model.specs.Streams.{Note}
use Rattle.task_model.specs.declared.stream.Instance.{Instance}
use Rattle.task_model.specs.declared.task.Task.{Task}
use Rattle.transcript_model.specs.Dreaming.{Sent}
use Rattle.transcript_model.specs.Rounds.{Share}
use Rattle.transcript_model.specs.Turns.{Kept, is_given_up}
use Rattle.transcript_model.specs.declared.entry.Entry.{Entry}

-- requests of more asks
numbered_more : (number : ℕ) (xs ys : List DreamAsk)
    → numbered number (xs ++ ys) ≡ numbered number xs ++ numbered (number + length xs) ys
numbered_more number [] ys = ap (λ n. numbered n ys) (let none : number ≡ number + 0 = omega arith in none)
numbered_more number (x ∷ xs) ys =
    let same : (number + 1) + length xs ≡ number + length (x ∷ xs) = omega arith in
    ap (λ (l : List Sent). record { number = number; instance = x.instance; outputs = x.outputs } ∷ l)
    (numbered_more (number + 1) xs ys ∙ ap (λ n. numbered (number + 1) xs ++ numbered n ys) same)

-- the dream's requests, with these
pub sent_more : (r : Run) (asks : List DreamAsk) → sent_of (asking r asks) ≡ sent_of r ++ numbered (made_by r + 1) asks
sent_more r asks =
    let same : (r.before + 1) + length r.asks ≡ made_by r + 1 = omega arith in
    numbered_more (r.before + 1) r.asks asks ∙ ap (λ n. sent_of r ++ numbered n asks) same

-- ---- what comes behind the batch

-- the code has set what comes: what is to come where nothing is left, or a further batch, or nothing more
abbrev pub IsSet : stored.Phase → Run → List DreamAsk → ℕ → stored.Phase → Type 0
IsSet over r asks left f =
    ((f ≡ over) × (asks ≡ []))
    ⊎ (((f ≡ Repeated) × (0 < length asks) × (length asks ≤ left)) ⊎ ((phase_of f r ≡ resting) × (left < length asks)))

-- the next turn comes, whatever dream was run
rests_any : (f : stored.Phase) (r also : Run) → phase_of f r ≡ resting → phase_of f also ≡ resting
rests_any Resting r also is = refl
rests_any Undreamt r also is = is
rests_any Dreamt r also is = is
rests_any Repeated r also is = absurd (let bad : repeated r.real r.entries (sent_of r) ≡ resting = is in cc)
rests_any (Unasked place) r also is = is

module _ (over : stored.Phase) (r : Run) (left : ℕ) (f : stored.Phase) where
  -- what comes behind a batch of these
  abbrev behind : List DreamAsk → Bool → Phase
  behind asks cut =
      phase_behind (phase_of over r) cut r.real r.entries (sent_of r) (numbered (made_by r + 1) asks)

  phase_set : (asks : List DreamAsk) → IsSet over r asks left f
      → phase_of f (asking r asks) ≡ behind asks (nat_lt left (length asks))
  phase_set [] (inl (is, none)) =
      ap (λ (p : stored.Phase). phase_of p (asking r [])) is
      ∙ ap (λ (l : List DreamAsk). phase_of over (record {
        entries = r.entries;
        real = r.real;
        from = r.from;
        before = r.before;
        asks = l;
      })) (append-nil r.asks)
  phase_set (a ∷ asks) (inl (is, none)) = let long = ap length none in absurd (omega (arith, long))
  phase_set [] (inr (inl (is, some, low))) = absurd (omega (arith, some))
  phase_set (a ∷ asks) (inr (inl (is, some, low))) =
      ap (λ (p : stored.Phase). phase_of p (asking r (a ∷ asks))) is
      ∙ ap (repeated r.real r.entries) (sent_more r (a ∷ asks))
      ∙ sym (ap (behind (a ∷ asks)) (le-ltb left (length (a ∷ asks)) low))
  phase_set [] (inr (inr (rests, high))) = absurd (omega (arith, high))
  phase_set (a ∷ asks) (inr (inr (rests, high))) =
      rests_any f r (asking r (a ∷ asks)) rests ∙ sym (ap (behind (a ∷ asks)) (lt-ltb left (length (a ∷ asks)) high))

-- ---- the batch

module _ (task : Task) (known : Known) (notes : List Note) (behind : List Entry) (pools : List Share) (over : stored.Phase)
    (calls : ℕ) (s t x : Inside) (f : stored.Phase)
    (x_is : x ≡ record { batch = t.batch; phase = f; tried = t.tried; skeletons = t.skeletons; run = t.run; alloc = t.alloc })
    (r : Running) (asks : List DreamAsk) (dues : List Due) (before : ℕ) where
  -- the dream before
  abbrev run : Run
  run = run_of s.run

  pub next_moves : AreNextOf task known notes run behind asks → AreDuesOf notes asks dues → before ≡ made_by run
      → BeginsBatch pools dues before calls (joining (shown_mode s).kept (take (calls - before) (due_instances dues))) (shown_mode t)
      → run_of t.run ≡ run → run_of r ≡ asking (run_of x.run) asks → IsSet over (run_of t.run) asks (calls - before) f
      → MovesOn task known notes behind pools (phase_of over run) calls (shown_mode s)
      (shown_mode (record { batch = x.batch; phase = x.phase; tried = x.tried; skeletons = x.skeletons; run = r; alloc = x.alloc }))
  next_moves next of counted begins same run_is set =
      let long : length dues ≡ length asks =
      sym (length-map dues (λ (d : Due). d.instance)) ∙ ap length of.instances ∙ length-map asks (λ (a : DreamAsk). a.instance) in
      let runs : run_of r ≡ asking run asks =
      run_is ∙ ap (λ (y : Inside). asking (run_of y.run) asks) x_is ∙ ap (λ (y : Run). asking y asks) same in
      let starts : Starts pools (take (left_behind calls run) (asked_instances asks)) (made_by run + 1)
      (nat_lt (left_behind calls run) (length asks)) t.batch =
      subst (λ n. Starts pools (take (calls - n) (asked_instances asks)) (n + 1) (nat_lt (calls - n) (length asks)) t.batch) counted
      (subst (λ n. Starts pools (take (calls - before) (asked_instances asks)) (before + 1) (nat_lt (calls - before) n) t.batch) long
      (subst (λ (is : List Instance). Starts pools (take (calls - before) is) (before + 1)
      (nat_lt (calls - before) (length dues)) t.batch) of.instances begins.batch)) in
      let set_here : IsSet over run asks (left_behind calls run) f =
      subst (λ n. IsSet over run asks (calls - n) f) counted
      (subst (λ (y : Run). IsSet over y asks (calls - before) f) same set) in
      record {
        asks = asks;
        next = next;
        begins = record {
          batch = subst (λ (y : Inside). Starts pools (take (left_behind calls run) (asked_instances asks)) (made_by run + 1)
              (nat_lt (left_behind calls run) (length asks)) y.batch) (sym x_is) starts;
          phase_is =
              ap (λ (y : Inside). phase_of y.phase (run_of r)) x_is
              ∙ ap (phase_of f) runs
              ∙ phase_set over run (left_behind calls run) f asks set_here;
          kept_is =
              ap (λ (y : Inside). (shown_mode y).kept) x_is
              ∙ begins.kept_is
              ∙ (λ i. joining (shown_mode s).kept (take (calls - counted i) (of.instances i)));
          run_is = runs;
        };
      }

-- what counts is the dream that is run, and what is kept
pub moves_from : (task : Task) (known : Known) (notes : List Note) (behind : List Entry) (pools : List Share) (over : Phase)
    (calls : ℕ) (old also new : ModeAgenda) → old.run ≡ also.run → old.kept ≡ also.kept
    → MovesOn task known notes behind pools over calls old new → MovesOn task known notes behind pools over calls also new
moves_from task known notes behind pools over calls old also new run kept m =
    let b = m.begins in
    let same : MovesOn task known notes behind pools over calls
    (record { batch = also.batch; phase = also.phase; kept = old.kept; run = old.run }) new =
    record {
      asks = m.asks;
      next = m.next;
      begins = record { batch = b.batch; phase_is = b.phase_is; kept_is = b.kept_is; run_is = b.run_is };
    } in
    subst (λ (k : Kept). MovesOn task known notes behind pools over calls
    (record { batch = also.batch; phase = also.phase; kept = k; run = also.run }) new) kept
    (subst (λ (r : Run). MovesOn task known notes behind pools over calls
    (record { batch = also.batch; phase = also.phase; kept = old.kept; run = r }) new) run same)

-- ---- picks

-- nothing was asked where there are no asks
pub given_up_is : (number : ℕ) (asks : List DreamAsk) → (length asks == 0) ≡ is_given_up (numbered number asks)
given_up_is number [] = refl
given_up_is number (a ∷ asks) = ne_eqb (length (a ∷ asks)) 0 (λ none. omega (arith, none))
