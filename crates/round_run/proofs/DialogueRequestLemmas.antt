-- The requests of a transcript, and those of a round.
use Rattle.std.proofs.Common.{◌≡◌, ℕ, zero, suc, ◌+◌, ◌<◌, arith, true, cond, List, [], ◌∷◌, ◌++◌, length, take, Some, refl, sym, subst, ap, ◌∙◌, slice_get, option_map, unwrap_or}
use Rattle.std.proofs.lemmas.List.Elements.{filter-append}
use Rattle.instance_queue.specs.declared.due.Due.{Due}
use Rattle.lemmas.proofs.Counts.{count_joined, count_one}
use Rattle.pools.specs.Pools.{Workers, child_for}
use Rattle.session_core.specs.Slots.{Slot, asks_from, slot_for, slots_from, wanted_at}
use Rattle.task_model.specs.Fit.{IsFit}
use Rattle.task_model.specs.declared.stream.Instance.{Instance}
use Rattle.task_model.specs.declared.task.Task.{Task}
use Rattle.transcript_model.proofs.CallNameLemmas.{call_names_instance}
use Rattle.transcript_model.proofs.NamesLemmas.{map_some}
use Rattle.transcript_model.specs.Legal.{asks_of, is_ask, is_answer}
use Rattle.transcript_model.specs.Names.{call_of_instance, places_of, stream_named}
use Rattle.transcript_model.specs.declared.entry.Entry.{Entry}
use Rattle.transcript_model.specs.declared.entry.Entry.TheVariants as entry
use Rattle.round_run.specs.Dialogue.{IsOneOf, Request, last_round, replies_of, requests_after, called_stream}
use Rattle.round_run.specs.Talking.{IsSlotOf}
use Rattle.lemmas.proofs.Options.{and_then_some}

-- ---- transcripts that go on

module _ (task : Task) (pools : List Workers) where
  pub requests_join : (round : List ℕ) (xs ys : List Entry)
      → requests_after task pools round (xs ++ ys)
      ≡ requests_after task pools round xs ++ requests_after task pools (last_round task round xs) ys
  requests_join round [] ys = refl
  requests_join round (entry.Ask number turn call ∷ xs) ys =
      ap (λ rs. record { child = child_for pools round (called_stream task call); number = number; turn = turn; call = call } ∷ rs)
      (requests_join (round ++ called_stream task call ∷ []) xs ys)
  requests_join round (e ∷ xs) ys = requests_join [] xs ys

  pub requests_counted : (round : List ℕ) (xs : List Entry)
      → length (requests_after task pools round xs) ≡ asks_of xs
  requests_counted round [] = refl
  requests_counted round (entry.Ask number turn call ∷ xs) =
      omega (
        arith,
        requests_counted (round ++ called_stream task call ∷ []) xs,
        count_joined is_ask (entry.Ask number turn call ∷ []) xs,
        count_one is_ask (entry.Ask number turn call),
      )
  requests_counted round (e ∷ xs) =
      omega (arith, requests_counted [] xs, count_joined is_ask (e ∷ []) xs, count_one is_ask e)

pub last_join : (task : Task) (round : List ℕ) (xs ys : List Entry)
    → last_round task round (xs ++ ys) ≡ last_round task (last_round task round xs) ys
last_join task round [] ys = refl
last_join task round (entry.Ask number turn call ∷ xs) ys =
    last_join task (round ++ called_stream task call ∷ []) xs ys
last_join task round (e ∷ xs) ys = last_join task [] xs ys

-- ---- lists of requests alone, and of answers alone

abbrev pub AreAsks : List Entry → Type 0
AreAsks es = (k : ℕ) (e : Entry) → slice_get es k ≡ Some e → is_ask e ≡ true

abbrev pub AreReplies : List Entry → Type 0
AreReplies es = (k : ℕ) (e : Entry) → slice_get es k ≡ Some e → is_answer e ≡ true

pub asks_are : (task : Task) (names : List (List ℕ)) (n : ℕ) (dues : List Due)
    → AreAsks (asks_from task names n dues)
asks_are task names n [] k e at = absurd (cc)
asks_are task names n (d ∷ ds) zero e at =
    let same : entry.Ask n d.turn (call_of_instance task names d.instance) ≡ e = cc in ap is_ask (sym same)
asks_are task names n (d ∷ ds) (suc k) e at = asks_are task names (n + 1) ds k e at

module _ (task : Task) (pools : List Workers) where
  -- the first requests are those of the first entries
  pub requests_front : (round : List ℕ) (es : List Entry) (n : ℕ) → AreAsks es
      → requests_after task pools round (take n es) ≡ take n (requests_after task pools round es)
  requests_front round es zero asks = refl
  requests_front round [] (suc n) asks = refl
  requests_front round (entry.Ask number turn call ∷ es) (suc n) asks =
      ap (λ rs. record { child = child_for pools round (called_stream task call); number = number; turn = turn; call = call } ∷ rs)
      (requests_front (round ++ called_stream task call ∷ []) es n (λ k e at. asks (suc k) e at))
  requests_front round (e ∷ es) (suc n) asks = absurd (let bad = asks 0 e refl in cc)

  pub requests_long : (round : List ℕ) (es : List Entry) → AreAsks es
      → length (requests_after task pools round es) ≡ length es
  requests_long round [] asks = refl
  requests_long round (entry.Ask number turn call ∷ es) asks =
      ap suc (requests_long (round ++ called_stream task call ∷ []) es (λ k e at. asks (suc k) e at))
  requests_long round (e ∷ es) asks = absurd (let bad = asks 0 e refl in cc)

  -- answers are no requests
  pub no_requests : (round : List ℕ) (es : List Entry) → AreReplies es
      → requests_after task pools round es ≡ []
  no_requests round [] replies = refl
  no_requests round (entry.Ask number turn call ∷ es) replies =
      absurd (let bad = replies 0 (entry.Ask number turn call) refl in cc)
  no_requests round (e ∷ es) replies = no_requests [] es (λ k x at. replies (suc k) x at)

-- behind answers no request stands
pub closed_by : (task : Task) (round : List ℕ) (es : List Entry) → AreReplies es → 0 < length es
    → last_round task round es ≡ []
closed_by task round [] replies some = absurd (omega (arith, some))
closed_by task round (entry.Ask number turn call ∷ es) replies some =
    absurd (let bad = replies 0 (entry.Ask number turn call) refl in cc)
closed_by task round (e ∷ es) replies some = still es (λ k x at. replies (suc k) x at)
  where
    still : (xs : List Entry) → AreReplies xs → last_round task [] xs ≡ []
    still [] rs = refl
    still (entry.Ask number turn call ∷ xs) rs =
        absurd (let bad = rs 0 (entry.Ask number turn call) refl in cc)
    still (x ∷ xs) rs = still xs (λ k y at. rs (suc k) y at)

pub no_replies : (es : List Entry) → AreAsks es → replies_of es ≡ []
no_replies [] asks = refl
no_replies (entry.Ask number turn call ∷ es) asks = no_replies es (λ k e at. asks (suc k) e at)
no_replies (e ∷ es) asks = absurd (let bad = asks 0 e refl in cc)

pub all_replies : (es : List Entry) → AreReplies es → replies_of es ≡ es
all_replies [] replies = refl
all_replies (e ∷ es) replies =
    ap (λ b. cond b (e ∷ replies_of es) (replies_of es)) (replies 0 e refl)
    ∙ ap (λ xs. e ∷ xs) (all_replies es (λ k x at. replies (suc k) x at))

pub replies_join : (xs ys : List Entry) → replies_of (xs ++ ys) ≡ replies_of xs ++ replies_of ys
replies_join xs ys = filter-append is_answer xs ys

-- ---- the slots of a round

-- the stream of an instance as it is shown
pub stream_shown : (task : Task) (names : List (List ℕ)) (i : Instance) → IsFit task
    → i.stream < length task.streams
    → called_stream task (call_of_instance task names i) ≡ i.stream
stream_shown task names i fit below =
    let bare : Instance = record { stream = i.stream; inputs = [] } in
    let named =
    call_names_instance task [] bare fit (λ j k x at_j at_k. absurd (cc)) below (λ o inside. absurd (omega (arith, inside.1))) in
    let stream =
    and_then_some (λ stream. option_map (λ inputs. record { stream = stream; inputs = inputs }) (places_of [] []))
    (stream_named task (call_of_instance task [] bare).name) bare named in
    let inputs =
    map_some (λ inputs. let j : Instance = record { stream = stream.0; inputs = inputs } in j) (places_of [] []) bare stream.2 in
    ap (λ o. unwrap_or o 0) stream.1 ∙ ap (λ (j : Instance). j.stream) inputs.2

module _ (task : Task) (names : List (List ℕ)) (version : ℕ) (pools : List Workers) (fit : IsFit task) where
  -- the requests of these asks are what their slots ask
  pub slots_ask : (n : ℕ) (before : List ℕ) (dues : List Due)
      → ((k : ℕ) (d : Due) → slice_get dues k ≡ Some d → d.instance.stream < length task.streams)
      → ((k : ℕ) (t : Slot) → slice_get (slots_from task names version pools n before dues) k ≡ Some t → IsOneOf pools t.child)
      → (k : ℕ) (r : Request) (t : Slot) → slice_get (requests_after task pools before (asks_from task names n dues)) k ≡ Some r
      → slice_get (slots_from task names version pools n before dues) k ≡ Some t → IsSlotOf task version pools r t
  slots_ask n before [] within one k r t at_r at_t = absurd (cc)
  slots_ask n before (d ∷ ds) within one zero r t at_r at_t =
      let here : called_stream task (call_of_instance task names d.instance) ≡ d.instance.stream =
      stream_shown task names d.instance fit (within 0 d refl) in
      let asks : record {
        child = child_for pools before (called_stream task (call_of_instance task names d.instance));
        number = n;
        turn = d.turn;
        call = call_of_instance task names d.instance;
      } ≡ r =
      cc in
      let slot : slot_for task names version pools n before d ≡ t = cc in
      subst (λ (q : Request). IsSlotOf task version pools q t) asks
      (subst (λ (u : Slot).
      IsSlotOf task version pools (record {
        child = child_for pools before (called_stream task (call_of_instance task names d.instance));
        number = n;
        turn = d.turn;
        call = call_of_instance task names d.instance;
      }) u) slot
      (record {
        one = subst (λ stream. IsOneOf pools (child_for pools before stream))
            (sym here) (subst (λ (u : Slot). IsOneOf pools u.child) (sym slot) (one 0 t at_t));
        child = ap (child_for pools before) (sym here);
        number = refl;
        text = refl;
        wanted = ap (λ stream. wanted_at task version stream) (sym here);
      }))
  slots_ask n before (d ∷ ds) within one (suc k) r t at_r at_t =
      let here : called_stream task (call_of_instance task names d.instance) ≡ d.instance.stream =
      stream_shown task names d.instance fit (within 0 d refl) in
      slots_ask (n + 1) (before ++ d.instance.stream ∷ []) ds (λ j u at. within (suc j) u at) (λ j u at. one (suc j) u at) k r t
      (ap (λ stream. slice_get (requests_after task pools (before ++ stream ∷ []) (asks_from task names (n + 1) ds)) k) (sym here) ∙ at_r)
      at_t
