-- What a turn with a dream has done.
use Rattle.std.proofs.Common.{◌≡◌, ℕ, ◌+◌, ◌≤◌, arith, Bool, true, false, cond, nat_lt, count_by, Contains, List, [], ◌∷◌, ◌++◌, length, refl, sym, ap, subst, ◌∙◌, inl, inr, Option, take}
use Rattle.std.proofs.lemmas.Bool.{and_parts}
use Rattle.std.proofs.lemmas.List.{length-map}
use Rattle.std.specs.List.{filter, list_all}
use Rattle.std.specs.Prelude.{⊤}
use Rattle.dream_asks.proofs.FirstLemmas.{first_sent}
use Rattle.dream_asks.specs.First.{AreFirstAsks, first_instances, is_askable}
use Rattle.turn_laws.proofs.DreamLemmas.{dream_asks}
use Rattle.dream_asks.proofs.EntriesLemmas.{dream_distinct}
use Rattle.solve_run.proofs.FocusingLemmas.{Dreamt, dream_front, dream_turn, joined_all, opens_dream}
use Rattle.solve_run.specs.Focusing.{HasCallLeft, RanFocused, carried, idle_of}
use Rattle.instance_queue.specs.Level.{due_instances}
use Rattle.instance_queue.specs.declared.due.Due.{Due}
use Rattle.io_world.specs.Talks.{Talk}
use Rattle.lemmas.proofs.Ascending.{contains_cases, contains_here, contains_later, contains_none}
use Rattle.lemmas.proofs.Bools.{cond_le_one}
use Rattle.lemmas.proofs.Distinct.{distinct_cons, distinct_tail, head_is_new}
use Rattle.lemmas.proofs.Members.{distinct_nil}
use Rattle.lemmas.specs.Lists.{AreDistinct}
use Rattle.turn_run.proofs.ReportsCountLemmas.{asked_counts}
use Rattle.turn_run.proofs.ShortDreamLemmas.{IsShortFirst, turn_short}
use Rattle.turn_run.proofs.TurnsLevelLemmas.{batch_cut}
use Rattle.turn_run.proofs.TurnsOutcomeLemmas.{all_known, names_known, notes_are, spent_sure}
use Rattle.turn_run.specs.Advancing.{StandsBetween, IsFrontOfTurn}
use Rattle.round_run.specs.TurnLines.{opens_requests}
use Rattle.turn_run.specs.Asking.{IsAskedBehind, IsFrontBehind, MayAskBehind, RanBehind}
use Rattle.turn_run.specs.Turns.{HasShortDreams, cut_by}
use Rattle.turn_run.specs.declared.turns.Turned.{Turned}
use Rattle.turn_run.specs.declared.turns.Turned.TheVariants as turned
use Rattle.turn_laws.specs.Modes.{TurnOf}
use Rattle.round_run.specs.Held.{Held}
use Rattle.round_run.specs.Resting.{Rests}
use Rattle.round_run.specs.declared.ending.Batch.{Batch}
use Rattle.round_run.specs.declared.ending.Batch.TheVariants.{Done, CallsSpent}
use Rattle.lemmas.proofs.Counts.{count_joined}
use Rattle.session_core.specs.Session.{IsLearnt, IsSession}
use Rattle.session_core.specs.State.{State}
use Rattle.task_model.proofs.StreamsLemmas.{due_holds}
use Rattle.task_model.specs.Dreams as dreams
use Rattle.task_model.specs.Fit.{IsFit}
use Rattle.task_model.specs.Known.{Known}
use Rattle.task_model.specs.Streams.{IsDue, Note, is_due}
use Rattle.task_model.specs.declared.stream.Instance.{Instance}
use Rattle.task_model.specs.declared.task.Task.{Task}
use Rattle.transcript_model.proofs.LegalNumberLemmas.{asks_marked}
use Rattle.transcript_model.proofs.LegalStepLemmas.{mark_adds}
use Rattle.transcript_model.specs.Dreaming.{Sent, next_sent, sent_instances}
use Rattle.transcript_model.specs.Laws.{AddsMark}
use Rattle.transcript_model.specs.Legal.{IsLegal, asks_of, is_level, is_mark}
use Rattle.transcript_model.specs.Rounds.{calls_left, limits_of}
use Rattle.transcript_model.specs.Transcript.{known_of, names_of, notes_of}
use Rattle.transcript_model.specs.Turns.{is_cut}
use Rattle.transcript_model.specs.declared.entry.Entry.{Entry}
use Rattle.transcript_model.specs.declared.entry.Entry.TheVariants as entry
use Rattle.transcript_model.specs.declared.head.Head.{Head}
use Rattle.transcript_model.specs.declared.head.Mode.TheVariants.{Focused}

-- ---- what a test leaves of a list

-- it was there, and the test holds of it
kept_was : {A : Type 0} (p : A → Bool) (xs : List A) (x : A) → Contains (filter p xs) x → Contains xs x × (p x ≡ true)
kept_was p [] x m = absurd (contains_none x m)
kept_was p (y ∷ ys) x m = by (p y) refl m (λ later. kept_was p ys x later)
  where
    by : (b : Bool) → p y ≡ b → Contains (cond b (y ∷ filter p ys) (filter p ys)) x
        → (Contains (filter p ys) x → Contains ys x × (p x ≡ true)) → Contains (y ∷ ys) x × (p x ≡ true)
    by true = λ holds there behind. elim (contains_cases y (filter p ys) x there) [
      | inl same ↦ (subst (Contains (y ∷ ys)) same (contains_here y ys), subst (λ z. p z ≡ true) same holds)
      | inr later ↦ (contains_later y ys x (behind later).0, (behind later).1)
    ]
    by false = λ holds there behind. (contains_later y ys x (behind there).0, (behind there).1)

kept_distinct : {A : Type 0} (p : A → Bool) (xs : List A) → AreDistinct xs → AreDistinct (filter p xs)
kept_distinct p [] distinct = distinct_nil
kept_distinct p (y ∷ ys) distinct = by (p y) (kept_distinct p ys (distinct_tail y ys distinct))
  where
    by : (b : Bool) → AreDistinct (filter p ys) → AreDistinct (cond b (y ∷ filter p ys) (filter p ys))
    by true = λ rest. distinct_cons y (filter p ys) rest (λ there. head_is_new y ys distinct (kept_was p ys y there).0)
    by false = λ rest. rest

-- one turn at most may ask nothing
pub idle_one : (tried : List Instance) → idle_of tried ≤ 1
idle_one tried = cond_le_one (nat_lt 0 (length tried))

-- ---- what is asked of a dream

-- what is asked first is that after the session's transcript
pub firsts_after : (task : Task) (s : State) → s.failed ≡ false → IsLearnt s → IsSession task s → (x y : State) (at : Task)
    (known : Known) (notes : List Note) (real : ℕ) (list entries : List dreams.SupposedEntry) (dues slice : List Due)
    → known ≡ x.known → x ≡ s → notes ≡ y.notes → y ≡ s → at ≡ task → real ≡ length known.names → list ≡ entries → slice ≡ dues
    → AreFirstAsks at known notes real list dues
    → AreFirstAsks task (known_of task s.entries) (notes_of task s.entries) (length (names_of task s.entries)) entries slice
firsts_after task s works learnt h x y at known notes real list entries dues slice known_is first notes_is second same real_is needs is
    asks =
    let facts = known_is ∙ ap (λ (z : State). z.known) first in
    let names = real_is ∙ ap length (names_known task s works learnt h known facts) in
    subst (λ ds. AreFirstAsks task (known_of task s.entries) (notes_of task s.entries) (length (names_of task s.entries)) entries ds)
    (sym is)
    (subst (λ n. AreFirstAsks task (known_of task s.entries) (notes_of task s.entries) n entries dues) names
    (subst (λ ns. AreFirstAsks task (known_of task s.entries) ns real entries dues)
    (notes_is ∙ ap (λ (z : State). z.notes) second ∙ notes_are task s works learnt h)
    (subst (λ k. AreFirstAsks task k notes real entries dues) (all_known task s works learnt h known facts)
    (subst (λ es. AreFirstAsks task known notes real es dues) needs
    (subst (λ t. AreFirstAsks t known notes real list dues) same asks)))))

module _ (head : Head) (task : Task) (fit : IsFit task) (is : head.mode ≡ Focused) (tried : List Instance) (line : Entry)
    (entries : List dreams.SupposedEntry) (old : State) (legal : IsLegal head.version task old.entries)
    (d : Dreamt (limits_of head) task old.entries tried line entries) (dues : List Due)
    (asked : AreFirstAsks task (known_of task old.entries) (notes_of task old.entries) (length (names_of task old.entries)) entries dues)
    (room : HasCallLeft head old) where
  distinct : AreDistinct (dreams.instances_of entries)
  distinct = dream_distinct (limits_of head) task old.entries tried d.uses d.steps entries d.dream

  -- the transcript with the dream's line, and what a turn of the mode asks behind it
  abbrev marked : List Entry
  marked = old.entries ++ entry.Dream d.uses d.steps ∷ []

  abbrev real : ℕ
  real = length (names_of task old.entries)

  abbrev firsts : List Sent
  firsts = next_sent task marked real [] (asks_of marked + 1) [] entries

  same : AddsMark task old.entries marked
  same = mark_adds head.version task old.entries fit.problem.objects.names.distinct legal (entry.Dream d.uses d.steps) refl

  pub are_firsts : sent_instances firsts ≡ due_instances dues
  are_firsts =
      first_sent task marked real (asks_of marked + 1) entries distinct
      ∙ (λ i. first_instances task (same.same.known i) (same.same.notes i) real entries) ∙ sym asked.instances

  as_many : length firsts ≡ length dues
  as_many = omega (
    arith,
    ap length are_firsts,
    length-map firsts (λ (x : Sent). x.instance),
    length-map dues (λ (x : Due). x.instance),
  )

  is_due_there : (i : Instance) → Contains (due_instances dues) i → IsDue task (known_of task old.entries) (notes_of task old.entries) i
  is_due_there i m =
      let kept = kept_was (is_askable task (known_of task old.entries) (notes_of task old.entries) real) (dreams.instances_of entries) i
      (subst (λ list. Contains list i) asked.instances m) in
      due_holds task (known_of task old.entries) (notes_of task old.entries) i
      (and_parts (list_all (λ o. nat_lt o real) i.inputs) (is_due task (known_of task old.entries) (notes_of task old.entries) i) kept.1).1

  pub may_ask : MayAskBehind task head line dues old
  may_ask = record {
    mark = ap is_mark d.is;
    opens = ap (opens_requests head.mode) d.is ∙ opens_dream head.mode d.uses d.steps is;
    ready = record {
      due = is_due_there;
      turns = asked.turns;
      distinct = subst AreDistinct (sym asked.instances)
          (kept_distinct (is_askable task (known_of task old.entries) (notes_of task old.entries) real)
          (dreams.instances_of entries) distinct);
    };
    some = omega (
      arith,
      as_many,
      dream_asks (limits_of head) task old.entries tried fit legal d.uses d.steps entries (asks_of marked + 1) d.dream,
    );
    left = room.left;
  }

  -- the first of it are the first of a turn
  pub dreamt_front : (es : List Entry) → IsFrontBehind head task old.entries line (due_instances dues) es
      → IsFrontOfTurn task head (carried tried) old.entries es
  dreamt_front es f =
      dream_front head task is tried old.entries d.uses d.steps entries d.dream (due_instances dues) es are_firsts
      (subst (λ e. IsFrontBehind head task old.entries e (due_instances dues) es) d.is f)

  -- ---- what was asked

  module _ (counted : length old.asked ≡ asks_of old.entries) (new : State) (b : Batch)
      (ran : RanBehind task head line dues old new b) where
    asks : IsAskedBehind head task old.entries (entry.Dream d.uses d.steps) (due_instances dues) ran.now
    asks = subst (λ e. IsAskedBehind head task old.entries e (due_instances dues) ran.now) d.is ran.asks

    cut : cut_by b ≡ is_cut (limits_of head) marked firsts
    cut =
        batch_cut head task marked new.entries (length old.asked) (length new.asked) (length dues) firsts b
        (counted ∙ sym (asks_marked old.entries (entry.Dream d.uses d.steps) refl)) (omega (arith, room.left)) as_many ran.ends

    turn : TurnOf head.mode (limits_of head) task (carried tried) old.entries ran.now
        (carried (tried ++ sent_instances (take (calls_left (limits_of head) marked) firsts))) (cut_by b)
    turn =
        subst (λ c. TurnOf head.mode (limits_of head) task (carried tried) old.entries ran.now
        (carried (tried ++ sent_instances (take (calls_left (limits_of head) marked) firsts))) c) (sym cut)
        (dream_turn head task is tried old.entries d.uses d.steps entries d.dream (due_instances dues) ran.now are_firsts asks)

    -- where no calls were wanting, all of them join those that were tried
    all_joined : b ≡ Done → tried ++ sent_instances (take (calls_left (limits_of head) marked) firsts) ≡ tried ++ due_instances dues
    all_joined e =
        joined_all head task is tried old.entries d.uses d.steps entries d.dream (due_instances dues) are_firsts (sym cut ∙ ap cut_by e)

    short : HasShortDreams head.states ran.now
    short =
        turn_short head task (carried tried) old.entries ran.now
        (carried (tried ++ sent_instances (take (calls_left (limits_of head) marked) firsts))) (cut_by b) turn
        (subst (IsShortFirst head.states) (sym asks.is) d.few)

    levels : count_by is_level new.entries ≤ length new.asked
    levels = omega (
      arith,
      room.levels,
      ran.more,
      ap (count_by is_level) ran.pushed,
      count_joined is_level old.entries ran.now,
      asked_counts head task old.entries (entry.Dream d.uses d.steps) (due_instances dues) ran.now refl asks,
    )

    fits : StandsBetween (λ asked. ⊤) (idle_of (tried ++ due_instances dues)) new
    fits = record { holds = tt; room = omega (arith, idle_one (tried ++ due_instances dues)); levels = levels }

    is_whole : b ≡ Done → RanFocused task head tried (tried ++ due_instances dues) old new turned.Done
    is_whole e = record {
      turned = (
        ran.now,
        ran.pushed,
        subst (λ next. TurnOf head.mode (limits_of head) task (carried tried) old.entries ran.now (carried next) false) (all_joined e)
            (subst (λ c. TurnOf head.mode (limits_of head) task (carried tried) old.entries ran.now
            (carried (tried ++ sent_instances (take (calls_left (limits_of head) marked) firsts))) c) (ap cut_by e) turn),
        short,
      );
      falls = λ done. inl ran.more;
      fits = fits;
    }

    module _ (held : Held) (running : ℕ → Bool) (spoken : ℕ → Option Talk) (rests : Rests task head new held running spoken) where
      is_cut_off : b ≡ CallsSpent → RanFocused task head tried (tried ++ due_instances dues) old new turned.Spent
      is_cut_off e = record {
        turned = (
          ran.now,
          carried (tried ++ sent_instances (take (calls_left (limits_of head) marked) firsts)),
          ran.pushed,
          subst (λ c. TurnOf head.mode (limits_of head) task (carried tried) old.entries ran.now
              (carried (tried ++ sent_instances (take (calls_left (limits_of head) marked) firsts))) c) (ap cut_by e) turn,
          spent_sure head task new (length old.asked) (length dues) b rests.works.listens.working rests.works.learnt
              rests.works.listens.session rests.works.of e ran.ends,
          short,
        );
        falls = λ done. inl ran.more;
        fits = fits;
      }

      pub ran_dreamt : (t : Turned) → (b ≡ Done → t ≡ turned.Done) → (b ≡ CallsSpent → t ≡ turned.Spent)
          → RanFocused task head tried (tried ++ due_instances dues) old new t
      ran_dreamt t done spent = by b refl
        where
          by : (c : Batch) → b ≡ c → RanFocused task head tried (tried ++ due_instances dues) old new t
          by Done = λ e. subst (RanFocused task head tried (tried ++ due_instances dues) old new) (sym (done e)) (is_whole e)
          by CallsSpent = λ e. subst (RanFocused task head tried (tried ++ due_instances dues) old new) (sym (spent e)) (is_cut_off e)
