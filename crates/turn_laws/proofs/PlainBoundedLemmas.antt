-- A task without streams is bounded by every table.
use Rattle.std.proofs.Common.{◌≡◌, ℕ, suc, Bool, true, false, cond, List, [], ◌∷◌, Option, None, Some, slice_get, refl, sym, ap, subst, ◌∙◌, arith, eq-eqb}
use Rattle.std.specs.List.{filter}
use Rattle.std.specs.Option.{option_and_then, option_map}
use Rattle.turn_laws.proofs.PlainSaidLemmas.{knows_same}
use Rattle.task_model.specs.Plans.{IsReached, MoreThan}
use Rattle.task_model.specs.declared.stream.Instance.{Instance}
use Rattle.task_model.specs.declared.stream.Stream.{Stream}
use Rattle.task_model.specs.declared.task.Task.{Task}
use Rattle.transcript_model.proofs.LegalPrefixLemmas.{answered}
use Rattle.transcript_model.specs.Legal.{IsLegal, is_answer, is_answer_to, is_ask}
use Rattle.transcript_model.specs.Names.{instance_of}
use Rattle.transcript_model.specs.Tables.{Answers, IsBounded}
use Rattle.transcript_model.specs.Transcript.{asked, asked_of, call_of, known_of, names_of}
use Rattle.transcript_model.specs.declared.entry.Entry.{Entry}
use Rattle.transcript_model.specs.declared.entry.Entry.TheVariants as entry

-- a test that fails at each place finds nothing
nothing_found : (test : Entry → Bool) (xs : List Entry) → ((k : ℕ) (x : Entry) → slice_get xs k ≡ Some x → test x ≡ false)
    → filter test xs ≡ []
nothing_found test [] fails = refl
nothing_found test (x ∷ xs) fails =
    ap (λ b. cond b (x ∷ filter test xs) (filter test xs)) (fails 0 x refl)
    ∙ nothing_found test xs (λ k y at. fails (suc k) y at)

no_stream : (task : Task) → task.streams ≡ [] → (place : ℕ) (s : Stream) → slice_get task.streams place ≡ Some s → ⊥
no_stream task none place s at = let no : slice_get [] place ≡ Some s = ap (λ ss. slice_get ss place) (sym none) ∙ at in absurd (cc)

-- without streams nothing was asked
nothing_asked : (task : Task) → task.streams ≡ [] → (i : Option Instance) → option_and_then (asked_of task) i ≡ None
nothing_asked task none None = refl
nothing_asked task none (Some i) =
    ap (λ ss. option_map (λ (s : Stream). record { stream = s; instance = i }) (slice_get ss i.stream)) none

module _ (version : ℕ) (task : Task) (none : task.streams ≡ []) (entries : List Entry) (legal : IsLegal version task entries) where
  no_ask : (k : ℕ) (e : Entry) → slice_get entries k ≡ Some e → is_ask e ≡ false
  no_ask k (entry.Ask n turn call) at =
      let due = (legal k (entry.Ask n turn call) at).due in absurd (no_stream task none _ due.stream due.named)
  no_ask k e at = refl

  unasked : {A : Type 0} (k n : ℕ) (e : Entry) → slice_get entries k ≡ Some e → is_answer_to n e ≡ true → A
  unasked k n e at to =
      let there = answered version task entries k n e legal at to in
      let never : asked task entries n ≡ None =
      nothing_asked task none (option_and_then (instance_of task (names_of task entries)) (call_of entries n)) in
      absurd (let no : None ≡ Some there.0 = sym never ∙ there.1 in cc)

  no_answer : (k : ℕ) (e : Entry) → slice_get entries k ≡ Some e → is_answer e ≡ false
  no_answer k (entry.Got n tuples values) at = unasked k n (entry.Got n tuples values) at (eq-eqb n n refl)
  no_answer k (entry.Value n value) at = unasked k n (entry.Value n value) at (eq-eqb n n refl)
  no_answer k (entry.End n) at = unasked k n (entry.End n) at (eq-eqb n n refl)
  no_answer k e at = refl

pub no_streams : (version : ℕ) (task : Task) (answers : Answers) (calls states : ℕ) → task.streams ≡ []
    → ¬ (MoreThan states (IsReached task (known_of task []))) → IsBounded version task answers calls states
no_streams version task answers calls states none few entries agrees =
    let same = knows_same task entries [] (nothing_found is_ask entries (no_ask version task none entries agrees.legal))
    (nothing_found is_answer entries (no_answer version task none entries agrees.legal)) in
    (omega (arith, same.asks), λ many. few (subst (λ k. MoreThan states (IsReached task k)) same.known many))
