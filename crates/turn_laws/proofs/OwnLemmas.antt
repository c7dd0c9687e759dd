-- A legal transcript agrees with the table of its own answers.
use Rattle.std.proofs.Common.{◌≡◌, ℕ, zero, suc, ◌<◌, Bool, true, false, not, ◌&&◌, ◌==◌, cond, List, [], ◌∷◌, take, drop, Option, None, Some, slice_get, refl, sym, ap, subst, ◌∙◌, eqb-true, eq-eqb, inl, inr}
use Rattle.std.proofs.lemmas.Bool.{and_from, cases_order}
use Rattle.std.proofs.lemmas.List.{take-append-drop}
use Rattle.std.proofs.lemmas.List.Elements.{All-cons, All-nil}
use Rattle.std.proofs.lemmas.Map.Keys.{any_passes_from_place}
use Rattle.std.specs.Cmp.{first_so, second_so}
use Rattle.std.specs.Cmp.Lexicographic.{pointwise, pointwise_decides}
use Rattle.std.specs.List.{find, list_any}
use Rattle.std.specs.Option.{option_map, option_map_or}
use Rattle.gen_lines.specs.Reply.{ends}
use Rattle.lemmas.proofs.ListTests.{find_none, find_passes}
use Rattle.lemmas.proofs.Members.{get_take, place_of}
use Rattle.lemmas.proofs.Numbers.{suc_same}
use Rattle.lemmas.proofs.Options.{and_then_some, same_some}
use Rattle.turn_laws.specs.Own.{own_rows, reply_by, row_of, rows_from}
use Rattle.task_model.proofs.KnownLemmas.{numbers_decided}
use Rattle.task_model.specs.Fit.{IsFit}
use Rattle.task_model.specs.Known.{same_numbers}
use Rattle.task_model.specs.declared.stream.Instance.{Instance}
use Rattle.task_model.specs.declared.task.Task.{Task}
use Rattle.transcript_model.proofs.LegalNumberLemmas.{numbers_own, waiting_of}
use Rattle.transcript_model.proofs.LegalOnceLemmas.{not_twice}
use Rattle.transcript_model.proofs.LegalPrefixLemmas.{asked-later, first_request, names_of-front}
use Rattle.transcript_model.proofs.NamesLemmas.{instance_kept, map_some}
use Rattle.transcript_model.specs.Legal.{IsLegal, IsRightAsk, IsRightGot, IsRightValue, is_answer_to, is_ask_of}
use Rattle.transcript_model.specs.Names.{instance_of, places_of, stream_named}
use Rattle.transcript_model.specs.Tables.{AgreesWith, IsTable, IsTableRow, MayAnswer, entry_of_reply, reply_in, same_call}
use Rattle.transcript_model.specs.Transcript.{Asked, asked, call_of, names_of}
use Rattle.transcript_model.specs.declared.entry.Call.{Call}
use Rattle.transcript_model.specs.declared.entry.Entry.{Entry}
use Rattle.transcript_model.specs.declared.entry.Entry.TheVariants as entry

-- ---- calls and rows

pub call_itself : (call : Call) → same_call call call ≡ true
call_itself call =
    and_from (same_numbers call.name call.name) (pointwise same_numbers call.args call.args)
    ((numbers_decided call.name call.name).1 refl) ((pointwise_decides numbers_decided call.args call.args).1 refl)

pub calls_same : (a b : Call) → same_call a b ≡ true → a ≡ b
calls_same a b e =
    let name = (numbers_decided a.name b.name).0 (first_so (same_numbers a.name b.name) (pointwise same_numbers a.args b.args) e) in
    let args = (pointwise_decides numbers_decided a.args b.args).0
    (second_so (same_numbers a.name b.name) (pointwise same_numbers a.args b.args) e) in
    λ k. record { name = name k; args = args k }

-- a found member stands somewhere
find_there : {A : Type 0} (p : A → Bool) (xs : List A) (x : A) → find p xs ≡ Some x → (k : ℕ) × (slice_get xs k ≡ Some x)
find_there p [] x e = absurd (cc)
find_there p (y ∷ ys) x e =
    elim (p y) as (λ b. cond b (Some y) (find p ys) ≡ Some x → (k : ℕ) × (slice_get (y ∷ ys) k ≡ Some x)) [
      | true ↦ λ here. (0, here)
      | false ↦ λ later. let there = find_there p ys x later in (suc there.0, there.1)
    ] e

-- the reply of a request's row, where no other request is of its call and turn
row_found : (all es : List Entry) (i n turn : ℕ) (call : Call) → slice_get es i ≡ Some (entry.Ask n turn call)
    → ((k m : ℕ) → slice_get es k ≡ Some (entry.Ask m turn call) → k ≡ i)
    → reply_in (rows_from all es) call turn ≡ (row_of all n turn call).reply
row_found all [] i n turn call at only = absurd (cc)
row_found all (entry.Ask m t c ∷ es) zero n turn call at only =
    let same : entry.Ask m t c ≡ entry.Ask n turn call = cc in
    let here : (same_call call call && (turn == turn)) ≡ true =
    and_from (same_call call call) (turn == turn) (call_itself call) (eq-eqb turn turn refl) in
    ap (λ e. reply_in (rows_from all (e ∷ es)) call turn) same
    ∙ ap (λ b. cond b (row_of all n turn call).reply (reply_in (rows_from all es) call turn)) here
row_found all (entry.Ask m t c ∷ es) (suc i) n turn call at only =
    by (row_found all es i n turn call at (λ k x there. suc_same k i (only (suc k) x there))) (same_call c call && (t == turn)) refl
  where
    by : reply_in (rows_from all es) call turn ≡ (row_of all n turn call).reply
        → (b : Bool) → (same_call c call && (t == turn)) ≡ b
        → cond b (row_of all m t c).reply (reply_in (rows_from all es) call turn) ≡ (row_of all n turn call).reply
    by later true is =
        let calls = calls_same c call (first_so (same_call c call) (t == turn) is) in
        let turns : t ≡ turn = eqb-true t turn (second_so (same_call c call) (t == turn) is) in
        let no : 0 ≡ suc i = only 0 m (λ k. Some (entry.Ask m (turns k) (calls k))) in
        absurd (cc)
    by later false is = later
row_found all (e ∷ es) zero n turn call at only = absurd (cc)
row_found all (e ∷ es) (suc i) n turn call at only =
    row_found all es i n turn call at (λ k x there. suc_same k i (only (suc k) x there))

-- an answer says itself
reply_back : (n : ℕ) (e : Entry) → is_answer_to n e ≡ true → entry_of_reply n (reply_by e) ≡ e ∷ []
reply_back n (entry.Got m tuples values) to = ap (λ k. entry.Got k tuples values ∷ []) (eqb-true n m to)
reply_back n (entry.Value m value) to = ap (λ k. entry.Value k value ∷ []) (eqb-true n m to)
reply_back n (entry.End m) to = ap (λ k. entry.End k ∷ []) (eqb-true n m to)
reply_back n e to = absurd (cc)

-- ---- legal transcripts

module _ (version : ℕ) (task : Task) (entries : List Entry) (fit : IsFit task) (legal : IsLegal version task entries) where
  answered_before_later : (n j k : ℕ) (e x : Entry) → slice_get entries j ≡ Some e → slice_get entries k ≡ Some x
      → is_answer_to n e ≡ true → is_answer_to n x ≡ true → j < k → ⊥
  answered_before_later n j k e x at_j at_k to_e to_x lt =
      let before = take k entries in
      let waiting = waiting_of version task before n x (legal k x at_k) to_x in
      let told : list_any (is_answer_to n) before ≡ true =
      any_passes_from_place (is_answer_to n) before j e (get_take entries j k e at_j lt) to_e in
      let open_still : not (list_any (is_answer_to n) before) ≡ true =
      second_so (list_any (is_ask_of n) before) (not (list_any (is_answer_to n) before)) waiting in
      let no : not true ≡ true = ap not (sym told) ∙ open_still in
      absurd (cc)

  -- a request has one answer
  answered_once : (n j k : ℕ) (e x : Entry) → slice_get entries j ≡ Some e → slice_get entries k ≡ Some x
      → is_answer_to n e ≡ true → is_answer_to n x ≡ true → e ≡ x
  answered_once n j k e x at_j at_k to_e to_x =
      elim (cases_order j k) [
        | inl same ↦ same_some (slice_get entries k) e x (subst (λ i. slice_get entries i ≡ Some e) same at_j) at_k
        | inr apart ↦
            elim apart [
              | inl lt ↦ absurd (answered_before_later n j k e x at_j at_k to_e to_x lt)
              | inr lt ↦ absurd (answered_before_later n k j x e at_k at_j to_x to_e lt)
            ]
      ]

  -- what a call stands for stays
  named_later : (k : ℕ) (call : Call) (i : Instance) → instance_of task (names_of task (take k entries)) call ≡ Some i
      → instance_of task (names_of task entries) call ≡ Some i
  named_later k call i is =
      let front = names_of-front task (take k entries) (drop k entries) in
      let names = ap (names_of task) (sym (take-append-drop k entries)) ∙ front.1 in
      subst (λ ns. instance_of task ns call ≡ Some i) (sym names)
      (instance_kept task (names_of task (take k entries)) front.0 call i is)

  -- requests of one call and one turn are one
  asked_once : (i k n m turn : ℕ) (call : Call) → slice_get entries i ≡ Some (entry.Ask n turn call)
      → slice_get entries k ≡ Some (entry.Ask m turn call) → k ≡ i
  asked_once i k n m turn call at_i at_k =
      let first : IsRightAsk task (take i entries) n turn call = legal i (entry.Ask n turn call) at_i in
      let second : IsRightAsk task (take k entries) m turn call = legal k (entry.Ask m turn call) at_k in
      let same : first.instance ≡ second.instance =
      same_some (instance_of task (names_of task entries) call) first.instance second.instance
      (named_later i call first.instance first.named) (named_later k call second.instance second.named) in
      not_twice version task fit.problem.objects.names.distinct entries k i m n turn call call second.instance legal at_k at_i second.named
      (first.named ∙ ap Some same)

  own_reply : (i n turn : ℕ) (call : Call) → slice_get entries i ≡ Some (entry.Ask n turn call)
      → reply_in (own_rows entries) call turn ≡ option_map_or reply_by (find (is_answer_to n) entries) ends
  own_reply i n turn call at =
      row_found entries entries i n turn call at (λ k m there. asked_once i k n m turn call at there)

  -- the answer that is found is the one that is there
  found_is : (n j : ℕ) (e : Entry) → slice_get entries j ≡ Some e → is_answer_to n e ≡ true
      → find (is_answer_to n) entries ≡ Some e
  found_is n j e at to = by (find (is_answer_to n) entries) refl
    where
      by : (o : Option Entry) → find (is_answer_to n) entries ≡ o → o ≡ Some e
      by None none =
          let no : true ≡ false = sym to ∙ find_none (is_answer_to n) entries none j e at in
          absurd (cc)
      by (Some x) some =
          let there = find_there (is_answer_to n) entries x some in
          ap Some (answered_once n there.0 j x e there.1 at (find_passes (is_answer_to n) entries x some) to)

  pub own_agrees : AgreesWith version task (reply_in (own_rows entries)) entries
  own_agrees = record {
    legal = legal;
    by = λ n turn call e asked said to.
        let i = place_of entries (entry.Ask n turn call) asked in
        let j = place_of entries e said in
        ap (entry_of_reply n)
        (own_reply i.0 n turn call i.1 ∙ ap (λ o. option_map_or reply_by o ends) (found_is n j.0 e j.1 to))
        ∙ reply_back n e to;
  }

  -- what a request asks is of its call's stream
  record IsAskedOf (n : ℕ) (call : Call) : Type 0 where
    place : ℕ
    request : Asked
    named : stream_named task call.name ≡ Some place
    at : slice_get task.streams place ≡ Some request.stream
    asks : asked task entries n ≡ Some request

  asked_of_call : (i n turn : ℕ) (call : Call) → slice_get entries i ≡ Some (entry.Ask n turn call) → IsAskedOf n call
  asked_of_call i n turn call at =
      let right : IsRightAsk task (take i entries) n turn call = legal i (entry.Ask n turn call) at in
      let named = named_later i call right.instance right.named in
      let first = first_request entries n
      (any_passes_from_place (is_ask_of n) entries i (entry.Ask n turn call) at (eq-eqb n n refl)) in
      let place = numbers_own version task entries first.0 i n first.1 turn first.2 call legal first.3 at in
      let both : Some (entry.Ask n first.1 first.2) ≡ Some (entry.Ask n turn call) =
      sym first.3 ∙ ap (slice_get entries) place ∙ at in
      let same : first.2 ≡ call = cc in
      let calls : call_of entries n ≡ Some call = first.4 ∙ ap Some same in
      let names = names_of task entries in
      let stream = and_then_some (λ s. option_map (λ inputs. record { stream = s; inputs = inputs }) (places_of names call.args))
      (stream_named task call.name) right.instance named in
      let inputs = map_some (λ inputs. record { stream = stream.0; inputs = inputs }) (places_of names call.args) right.instance stream.2
      in
      let streams : stream.0 ≡ right.instance.stream = ap (λ (x : Instance). x.stream) inputs.2 in
      record {
        place = stream.0;
        request = record { stream = right.due.stream; instance = right.instance };
        named = stream.1;
        at = ap (slice_get task.streams) streams ∙ right.due.named;
        asks = rw (calls, named, right.due.named) refl;
      }

  -- what was answered to a request its stream may be answered
  may_answer : (n k : ℕ) (e : Entry) (a : Asked) → slice_get entries k ≡ Some e → is_answer_to n e ≡ true
      → asked task entries n ≡ Some a → MayAnswer version a.stream (reply_by e)
  may_answer n k (entry.Got m tuples values) a at to asks =
      let right : IsRightGot version task (take k entries) m tuples values = legal k (entry.Got m tuples values) at in
      let same : right.request ≡ a =
      same_some (asked task entries n) right.request a
      (ap (asked task entries) (eqb-true n m to) ∙ asked-later task entries k m right.request right.of) asks in
      subst (λ (x : Asked). MayAnswer version x.stream (reply_by (entry.Got m tuples values))) same (right.no_cost, right.right)
  may_answer n k (entry.Value m value) a at to asks =
      let right : IsRightValue task (take k entries) m value = legal k (entry.Value m value) at in
      let same : right.request ≡ a =
      same_some (asked task entries n) right.request a
      (ap (asked task entries) (eqb-true n m to) ∙ asked-later task entries k m right.request right.of) asks in
      subst (λ (x : Asked). MayAnswer version x.stream (reply_by (entry.Value m value))) same (right.cost, right.few)
  may_answer n k (entry.End m) a at to asks = tt
  may_answer n k e a at to asks = absurd (cc)

  row_right : (i n turn : ℕ) (call : Call) → slice_get entries i ≡ Some (entry.Ask n turn call)
      → IsTableRow version task (row_of entries n turn call)
  row_right i n turn call at =
      let a = asked_of_call i n turn call at in
      record {
        place = a.place;
        stream = a.request.stream;
        named = a.named;
        at = a.at;
        may = by a (find (is_answer_to n) entries) refl;
      }
    where
      by : (a : IsAskedOf n call) (o : Option Entry) → find (is_answer_to n) entries ≡ o
          → MayAnswer version a.request.stream (option_map_or reply_by o ends)
      by a None none = tt
      by a (Some x) some =
          let there = find_there (is_answer_to n) entries x some in
          may_answer n there.0 x a.request there.1 (find_passes (is_answer_to n) entries x some) a.asks

  rows_right : (es : List Entry) → ((k : ℕ) (e : Entry) → slice_get es k ≡ Some e → (i : ℕ) × (slice_get entries i ≡ Some e))
      → IsTable version task (rows_from entries es)
  rows_right [] inside = All-nil (IsTableRow version task)
  rows_right (entry.Ask n turn call ∷ es) inside =
      let here = inside 0 (entry.Ask n turn call) refl in
      All-cons (IsTableRow version task) (row_of entries n turn call) (rows_from entries es) (row_right here.0 n turn call here.1)
      (rows_right es (λ k e at. inside (suc k) e at))
  rows_right (e ∷ es) inside = rows_right es (λ k x at. inside (suc k) x at)

  pub own_table : IsTable version task (own_rows entries)
  own_table = rows_right entries (λ k e at. (k, at))
