-- What a round leaves as it was: how instances that it doesn't ask are shown, and how often they yielded.
use Rattle.std.proofs.Common.{◌≡◌, ℕ, zero, suc, ◌+◌, ◌<◌, true, false, All, Contains, List, [], ◌∷◌, ◌++◌, length, map, Some, slice_get, refl, replicate, sym, ap, subst, ◌∙◌, arith, append_assoc, eqb-true}
use Rattle.std.proofs.lemmas.List.Concat.{flat_map-append}
use Rattle.std.proofs.lemmas.List.Elements.{All-contains, All-head, All-tail}
use Rattle.std.specs.List.{flat_map, list_any}
use Rattle.std.specs.Option.{unwrap_or}
use Rattle.fact_store.proofs.StoreLemmas.{all_in_more}
use Rattle.lemmas.proofs.Ascending.{contains_here, contains_later}
use Rattle.lemmas.proofs.Members.{get_append, take_append, get_behind}
use Rattle.lemmas.specs.Lists.{AreDistinct}
use Rattle.task_model.proofs.StreamsLemmas.{instances_apart, named_at}
use Rattle.task_model.specs.Fit.{IsFit}
use Rattle.task_model.specs.Initial.{declared_names}
use Rattle.task_model.specs.Known.{IsIn, Known}
use Rattle.task_model.specs.Streams.{Yielded, name_at, yields_of}
use Rattle.task_model.specs.declared.stream.Instance.{Instance}
use Rattle.task_model.specs.declared.task.Task.{Task}
use Rattle.transcript_model.proofs.CallNameLemmas.{call_names_instance}
use Rattle.transcript_model.proofs.LegalNumberLemmas.{next_is_fresh}
use Rattle.transcript_model.proofs.LegalPrefixLemmas.{asked-kept, legal_front, longer, names_of-distinct, names_of-front}
use Rattle.transcript_model.proofs.LegalStepLemmas.{request_adds}
use Rattle.transcript_model.specs.Legal.{IsLegal, IsRightAsk, MayFollow, is_answer_to, is_ask_of}
use Rattle.transcript_model.specs.Names.{call_of_instance, instance_of}
use Rattle.transcript_model.specs.Rounds.{AreAnswers, requests_from}
use Rattle.transcript_model.specs.Transcript.{Asked, asked, names_of, note_of, notes_of}
use Rattle.transcript_model.specs.declared.entry.Call.{Call}
use Rattle.transcript_model.specs.declared.entry.Entry.{Entry}
use Rattle.transcript_model.specs.declared.entry.Entry.TheVariants as entry
use Rattle.task_model.proofs.KnownLemmas.{below_names}
use Rattle.transcript_model.proofs.LegalOnceLemmas.{yields_more}

-- ---- names of instances

-- The instances are of streams of the task, and their inputs have names.
pub record AreNamed (task : Task) (names : List (List ℕ)) (list : List Instance) : Type 0 where
  pub streamed : (i : Instance) → Contains list i → i.stream < length task.streams
  pub inputs : (i : Instance) → Contains list i → All (IsIn names) i.inputs

name_kept : (names added : List (List ℕ)) (o : ℕ) → IsIn names o → name_at (names ++ added) o ≡ name_at names o
name_kept names added o known =
    ap (λ n. unwrap_or n []) (get_append names added o (name_at names o) (named_at names o known))

names_kept : (names added : List (List ℕ)) (objects : List ℕ) → All (IsIn names) objects
    → map (name_at (names ++ added)) objects ≡ map (name_at names) objects
names_kept names added [] known = refl
names_kept names added (o ∷ objects) known = λ k.
    name_kept names added o (All-head (IsIn names) o objects known) k
    ∷ names_kept names added objects (All-tail (IsIn names) o objects known) k

-- behind more entries an instance is shown as before
pub call_kept : (task : Task) (before now : List Entry) (i : Instance) → All (IsIn (names_of task before)) i.inputs
    → call_of_instance task (names_of task (before ++ now)) i ≡ call_of_instance task (names_of task before) i
call_kept task before now i known =
    let front = names_of-front task before now in
    ap (λ names. call_of_instance task names i) front.1
    ∙ (λ k. record {
      name = (call_of_instance task (names_of task before) i).name;
      args = names_kept (names_of task before) front.0 i.inputs known k;
    })

-- and has names still
pub named_kept : (task : Task) (before now : List Entry) (list : List Instance) → AreNamed task (names_of task before) list
    → AreNamed task (names_of task (before ++ now)) list
named_kept task before now list named =
    let front = names_of-front task before now in
    record {
      streamed = named.streamed;
      inputs = λ i m. subst (λ names. All (IsIn names) i.inputs) (sym front.1)
          (all_in_more (names_of task before) front.0 i.inputs (named.inputs i m));
    }

-- ---- what a round's requests ask

module _ (version : ℕ) (task : Task) (fit : IsFit task) where
  distinct : AreDistinct (declared_names task)
  distinct = fit.problem.objects.names.distinct

  -- an instance is found again by its call
  pub shown : (before : List Entry) (list : List Instance) → AreNamed task (names_of task before) list
      → (i : Instance) → Contains list i
      → instance_of task (names_of task before) (call_of_instance task (names_of task before) i) ≡ Some i
  shown before list named i m =
      call_names_instance task (names_of task before) i fit (names_of-distinct task before distinct) (named.streamed i m)
      (λ o c. below_names (names_of task before) o (All-contains (IsIn (names_of task before)) i.inputs o (named.inputs i m) c))

  -- what a request behind these entries is
  right_ask : (at more : List Entry) (number turn : ℕ) (call : Call) → IsLegal version task (at ++ entry.Ask number turn call ∷ more)
      → IsRightAsk task at number turn call
  right_ask at more number turn call legal =
      subst (λ es. MayFollow version task es (entry.Ask number turn call)) (take_append at (entry.Ask number turn call ∷ more))
      (legal (length at) (entry.Ask number turn call)
      (ap (slice_get (at ++ entry.Ask number turn call ∷ more)) (let n : length at ≡ length at + 0 = omega arith in n)
      ∙ get_behind at (entry.Ask number turn call ∷ more) 0 (entry.Ask number turn call) refl))

  -- the request of this number asks the instance
  pub record AsksIt (all : List Entry) (number : ℕ) (i : Instance) : Type 0 where
    pub request : Asked
    pub asks : asked task all number ≡ Some request
    pub instance : request.instance ≡ i

  asks_moved : (xs ys : List Entry) (m n : ℕ) (i : Instance) → xs ≡ ys → m ≡ n → AsksIt xs m i → AsksIt ys n i
  asks_moved xs ys m n i same number asks = subst (λ es. AsksIt es n i) same (subst (λ k. AsksIt xs k i) number asks)

  -- the first request of some: it brings no name, and asks its instance
  record AsksFirst (before at : List Entry) (number : ℕ) (r : Instance) (e : Entry) : Type 0 where
    names : names_of task (at ++ e ∷ []) ≡ names_of task before
    asks : AsksIt (at ++ e ∷ []) number r

  first_asks : (before at more : List Entry) (number turn : ℕ) (r : Instance)
      → IsLegal version task (at ++ entry.Ask number turn (call_of_instance task (names_of task before) r) ∷ more)
      → names_of task at ≡ names_of task before
      → instance_of task (names_of task before) (call_of_instance task (names_of task before) r) ≡ Some r
      → AsksFirst before at number r (entry.Ask number turn (call_of_instance task (names_of task before) r))
  first_asks before at more number turn r legal names again =
      let call = call_of_instance task (names_of task before) r in
      let right = right_ask at more number turn call legal in
      let found : instance_of task (names_of task at) call ≡ Some r = ap (λ ns. instance_of task ns call) names ∙ again in
      let both : Some right.instance ≡ Some r = sym right.named ∙ found in
      let same : right.instance ≡ r = cc in
      let front = legal_front version task at (entry.Ask number turn call ∷ more) legal in
      let fresh : list_any (is_ask_of number) at ≡ false =
      subst (λ n. list_any (is_ask_of n) at ≡ false) (sym right.next) (next_is_fresh version task at front) in
      let streamed : slice_get task.streams r.stream ≡ Some right.due.stream =
      subst (λ (x : Instance). slice_get task.streams x.stream ≡ Some right.due.stream) same right.due.named in
      let adds = request_adds version task at distinct front number turn call right.due.stream r right fresh found streamed in
      record {
        names = ap (λ (k : Known). k.names) adds.same.known ∙ names;
        asks = record { request = record { stream = right.due.stream; instance = r }; asks = adds.here; instance = refl };
      }

  -- the requests of a round ask its instances, in order
  pub requests_ask : (before at more : List Entry) (number : ℕ) (round : List Instance)
      → IsLegal version task (at ++ (requests_from task before number round ++ more))
      → names_of task at ≡ names_of task before
      → ((i : Instance) → Contains round i
      → instance_of task (names_of task before) (call_of_instance task (names_of task before) i) ≡ Some i)
      → (j : ℕ) (i : Instance) → slice_get round j ≡ Some i
      → AsksIt (at ++ (requests_from task before number round ++ more)) (number + j) i
  requests_ask before at more number [] legal names again j i there = absurd (cc)
  requests_ask before at more number (r ∷ round) legal names again zero i there =
      let e = entry.Ask number (yields_of (notes_of task before) r) (call_of_instance task (names_of task before) r) in
      let rest = requests_from task before (number + 1) round in
      let first =
      first_asks before at (rest ++ more) number
      (yields_of (notes_of task before) r) r legal names (again r (contains_here r round)) in
      let same : r ≡ i = cc in
      let kept : AsksIt ((at ++ e ∷ []) ++ (rest ++ more)) number r =
      record {
        request = first.asks.request;
        asks = asked-kept task (at ++ e ∷ []) (rest ++ more) number first.asks.request first.asks.asks;
        instance = first.asks.instance;
      } in
      asks_moved ((at ++ e ∷ []) ++ (rest ++ more)) (at ++ ((e ∷ rest) ++ more)) number (number + 0) i
      (append_assoc at (e ∷ []) (rest ++ more)) (omega arith) (subst (AsksIt ((at ++ e ∷ []) ++ (rest ++ more)) number) same kept)
  requests_ask before at more number (r ∷ round) legal names again (suc j) i there =
      let e = entry.Ask number (yields_of (notes_of task before) r) (call_of_instance task (names_of task before) r) in
      let rest = requests_from task before (number + 1) round in
      let whole = append_assoc at (e ∷ []) (rest ++ more) in
      let first =
      first_asks before at (rest ++ more) number
      (yields_of (notes_of task before) r) r legal names (again r (contains_here r round)) in
      asks_moved ((at ++ e ∷ []) ++ (rest ++ more)) (at ++ ((e ∷ rest) ++ more)) ((number + 1) + j) (number + suc j) i
      whole (omega arith)
      (requests_ask before (at ++ e ∷ []) more (number + 1) round (subst (IsLegal version task) (sym whole) legal) first.names
      (λ x m. again x (contains_later r round x m)) j i there)

-- ---- notes on others

yields_apart : (count : ℕ) (i other : Instance) → ¬ (i ≡ other) → yields_of (replicate count (Yielded other)) i ≡ 0
yields_apart zero i other apart = refl
yields_apart (suc count) i other apart =
    let one : yields_of (Yielded other ∷ []) i ≡ 0 = rw (instances_apart i other apart) refl in
    omega (arith, yields_more (Yielded other ∷ []) (replicate count (Yielded other)) i, one, yields_apart count i other apart)

-- an answer to a request of another instance brings no yield of this one
answer_apart : (task : Task) (all : List Entry) (e : Entry) (number : ℕ) (a : Asked) (i : Instance) → is_answer_to number e ≡ true
    → asked task all number ≡ Some a → ¬ (i ≡ a.instance) → yields_of (note_of task all e) i ≡ 0
answer_apart task all (entry.Got n tuples values) number a i to was apart =
    let there : asked task all n ≡ Some a = ap (asked task all) (sym (eqb-true number n to)) ∙ was in
    rw there (yields_apart tuples i a.instance apart)
answer_apart task all (entry.Value n value) number a i to was apart =
    let there : asked task all n ≡ Some a = ap (asked task all) (sym (eqb-true number n to)) ∙ was in
    rw there refl
answer_apart task all (entry.End n) number a i to was apart =
    let there : asked task all n ≡ Some a = ap (asked task all) (sym (eqb-true number n to)) ∙ was in
    rw there refl
answer_apart task all e number a i to was apart = refl

module _ (version : ℕ) (task : Task) (fit : IsFit task) where
  answers_apart : (all : List Entry) (number : ℕ) (round : List Instance) (answers : List Entry) (i : Instance)
      → ((j : ℕ) (r : Instance) → slice_get round j ≡ Some r → AsksIt version task fit all (number + j) r)
      → ¬ (Contains round i) → AreAnswers number (length round) answers
      → yields_of (flat_map (note_of task all) answers) i ≡ 0
  answers_apart all number [] [] i asks apart are = refl
  answers_apart all number [] (e ∷ answers) i asks apart are = absurd are
  answers_apart all number (r ∷ round) [] i asks apart are = absurd are
  answers_apart all number (r ∷ round) (e ∷ answers) i asks apart (to, are) =
      let first = asks 0 r refl in
      let here : asked task all number ≡ Some first.request =
      ap (asked task all) (let n : number ≡ number + 0 = omega arith in n) ∙ first.asks in
      let one = answer_apart task all e number first.request i to here
      (λ same. apart (subst (Contains (r ∷ round)) (sym (same ∙ first.instance)) (contains_here r round))) in
      let more = answers_apart all (number + 1) round answers i
      (λ j x at. asks_moved version task fit all all (number + suc j) ((number + 1) + j) x refl (omega arith) (asks (suc j) x at))
      (λ m. apart (contains_later r round i m)) are in
      omega (arith, yields_more (note_of task all e) (flat_map (note_of task all) answers) i, one, more)

  no_notes : (all before : List Entry) (number : ℕ) (round : List Instance)
      → flat_map (note_of task all) (requests_from task before number round) ≡ []
  no_notes all before number [] = refl
  no_notes all before number (i ∷ round) = no_notes all before (number + 1) round

  -- a round brings no yield of an instance that it doesn't ask
  pub yields_kept : (before answers : List Entry) (number : ℕ) (round : List Instance) (i : Instance)
      → IsLegal version task (before ++ (requests_from task before number round ++ answers))
      → AreNamed task (names_of task before) round → ¬ (Contains round i) → AreAnswers number (length round) answers
      → yields_of (notes_of task (before ++ (requests_from task before number round ++ answers))) i
      ≡ yields_of (notes_of task before) i
  yields_kept before answers number round i legal named apart are =
      let asks = requests_from task before number round in
      let all = before ++ (asks ++ answers) in
      let told = (longer version task before (asks ++ answers) fit.problem.objects.names.distinct
      (legal_front version task before (asks ++ answers) legal)).notes in
      let none : flat_map (note_of task all) (asks ++ answers) ≡ flat_map (note_of task all) answers =
      flat_map-append (note_of task all) asks answers
      ∙ ap (λ ns. ns ++ flat_map (note_of task all) answers) (no_notes all before number round) in
      let zero_more = answers_apart all number round answers i
      (requests_ask version task fit before before answers number round legal refl (shown version task fit before round named)) apart
      are in
      ap (λ ns. yields_of ns i) told
      ∙ yields_more (notes_of task before) (flat_map (note_of task all) (asks ++ answers)) i
      ∙ ap (λ ns. yields_of (notes_of task before) i + yields_of ns i) none
      ∙ ap (λ n. yields_of (notes_of task before) i + n) zero_more
      ∙ (let n : yields_of (notes_of task before) i + 0 ≡ yields_of (notes_of task before) i = omega arith in n)
