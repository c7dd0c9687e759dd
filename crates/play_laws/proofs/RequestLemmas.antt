-- The request behind an answer, and what the grid answered to it.
use Rattle.std.proofs.Common.{◌≡◌, ℕ, true, false, cond, ◌==◌, List, [], ◌∷◌, ◌++◌, map, take, drop, length, refl, sym, subst, ap, ◌∙◌, suc, Some, None, slice_get, eqb-true, option_map}
use Rattle.std.proofs.lemmas.List.{take-append-drop}
use Rattle.std.specs.Cmp.{first_so, second_so}
use Rattle.std.specs.List.{flat_map, list_all}
use Rattle.std.specs.Option.{option_and_then, option_or}
use Rattle.gen_lines.specs.Reply.{yields}
use Rattle.grid_play.specs.Replies.{reply_of_answer}
use Rattle.grid_text.specs.Grids.{GridFile}
use Rattle.grid_world.specs.Answers.{answer_to}
use Rattle.grid_world.specs.Asks.{ask_to}
use Rattle.grid_world.specs.Words.{served_stream}
use Rattle.lemmas.proofs.ListTests.{all_at, all_from}
use Rattle.lemmas.proofs.Members.{member_at}
use Rattle.lemmas.proofs.Options.{and_then_some, same_some}
use Rattle.lemmas.specs.Lists.{AreDistinct}
use Rattle.play_laws.specs.Problems.{AreTrueYields}
use Rattle.task_model.proofs.KnownLemmas.{facts_kept, numbers_decided}
use Rattle.task_model.proofs.StreamsLemmas.{names_there}
use Rattle.task_model.proofs.TruthLemmas.{have_types-length}
use Rattle.task_model.specs.Initial.{declared_names}
use Rattle.task_model.specs.Known.{is_fact, same_numbers}
use Rattle.task_model.specs.Streams.{fact_of, name_at}
use Rattle.task_model.specs.Truth.{have_types, slots_of}
use Rattle.task_model.specs.declared.fact.Fact.{Fact}
use Rattle.task_model.specs.declared.stream.Instance.{Instance}
use Rattle.task_model.specs.declared.stream.Stream.{Stream}
use Rattle.task_model.specs.declared.task.Task.{Task}
use Rattle.transcript_model.proofs.CallNameLemmas.{places_exact}
use Rattle.transcript_model.proofs.LegalPrefixLemmas.{legal_take, longer, names_of-distinct, names_of-front}
use Rattle.transcript_model.proofs.NamesLemmas.{instance_kept, map_some, position_at}
use Rattle.transcript_model.specs.Legal.{IsLegal, IsRightAsk}
use Rattle.transcript_model.specs.Names.{instance_of, places_of, stream_named}
use Rattle.transcript_model.specs.Transcript.{Asked, asked, asked_of, call_of, certified, known_of, names_of}
use Rattle.transcript_model.specs.declared.entry.Call.{Call}
use Rattle.transcript_model.specs.declared.entry.Entry.{Entry}
use Rattle.transcript_model.specs.declared.entry.Entry.TheVariants as entry

call_at : (xs : List Entry) (n : ℕ) (call : Call) → call_of xs n ≡ Some call
    → (j : ℕ) × (turn : ℕ) × (slice_get xs j ≡ Some (entry.Ask n turn call))
call_at [] n call e = absurd (cc)
call_at (entry.Ask number turn c ∷ xs) n call e =
    elim (n == number) as (λ b.
    (n == number) ≡ b → option_or (cond b (Some c) None) (call_of xs n) ≡ Some call
    → (j : ℕ) × (t : ℕ) × (slice_get (entry.Ask number turn c ∷ xs) j ≡ Some (entry.Ask n t call))) [
      | true ↦ λ same h. let same_call : c ≡ call = cc in
          (0, turn, λ i. Some (entry.Ask (sym (eqb-true n number same) i) turn (same_call i)))
      | false ↦ λ other h. let r = call_at xs n call h in (suc r.0, r.1, r.2)
    ] refl e
call_at (x ∷ xs) n call e = let r = call_at xs n call e in (suc r.0, r.1, r.2)

asked_streamed : (task : Task) (i : Instance) (a : Asked) → asked_of task i ≡ Some a
    → (slice_get task.streams a.instance.stream ≡ Some a.stream) × (i ≡ a.instance)
asked_streamed task i a e =
    let stream = map_some (λ stream. record { stream = stream; instance = i }) (slice_get task.streams i.stream) a e in (
      subst (λ (x : Asked). slice_get task.streams x.instance.stream ≡ Some x.stream) stream.2 stream.1,
      ap (λ (x : Asked). x.instance) stream.2,
    )

-- The request asks this instance, by its words, and what the instance's stream asks of it is known.
pub record Request (task : Task) (entries : List Entry) (n : ℕ) (a : Asked) : Type 0 where
  pub place : ℕ
  pub turn : ℕ
  pub call : Call
  pub at : slice_get entries place ≡ Some (entry.Ask n turn call)
  pub streamed : slice_get task.streams a.instance.stream ≡ Some a.stream
  pub many : length a.instance.inputs ≡ length a.stream.inputs
  pub name : call.name ≡ a.stream.name
  pub words : call.args ≡ map (name_at (names_of task entries)) a.instance.inputs
  pub known : list_all (λ p. is_fact (known_of task entries).facts (fact_of (slots_of a.instance.inputs) p)) a.stream.domain
      ≡ true

module _ (version : ℕ) (task : Task) (entries : List Entry) (distinct : AreDistinct (declared_names task))
    (legal : IsLegal version task entries) where
  -- what was known before some entry is known
  kept : (j : ℕ) (f : Fact) → is_fact (known_of task (take j entries)).facts f ≡ true
      → is_fact (known_of task entries).facts f ≡ true
  kept j f e =
      let more = longer version task (take j entries) (drop j entries) distinct (legal_take version task entries j legal) in
      subst (λ all. is_fact (known_of task all).facts f ≡ true) (take-append-drop j entries)
      (subst (λ facts. is_fact facts f ≡ true) (sym more.facts)
      (facts_kept (known_of task (take j entries)).facts
      (flat_map (certified task (take j entries ++ drop j entries)) (drop j entries)) f e))

  pub request_of : (n : ℕ) (a : Asked) → asked task entries n ≡ Some a → Request task entries n a
  request_of n a e =
      let names = names_of task entries in
      let whole = and_then_some (asked_of task) (option_and_then (instance_of task names) (call_of entries n)) a e in
      let call = and_then_some (instance_of task names) (call_of entries n) whole.0 whole.1 in
      let at = call_at entries n call.0 call.1 in
      let right : IsRightAsk task (take at.0 entries) n at.1 call.0 = legal at.0 _ at.2 in
      let front = names_of-front task (take at.0 entries) (drop at.0 entries) in
      let longer_names : names ≡ names_of task (take at.0 entries) ++ front.0 =
      ap (names_of task) (sym (take-append-drop at.0 entries)) ∙ front.1 in
      let later : instance_of task names call.0 ≡ Some right.instance =
      subst (λ ns. instance_of task ns call.0 ≡ Some right.instance)
      (sym longer_names) (instance_kept task (names_of task (take at.0 entries)) front.0 call.0 right.instance right.named) in
      let streamed = asked_streamed task whole.0 a whole.2 in
      let same : right.instance ≡ a.instance = same_some _ _ _ later call.2 ∙ streamed.1 in
      let same_stream : right.due.stream ≡ a.stream =
      same_some _ _ _ (subst (λ (x : Instance). slice_get task.streams x.stream ≡ Some right.due.stream) same right.due.named)
      streamed.0 in
      let before = known_of task (take at.0 entries) in
      let typed : have_types before right.instance.inputs right.due.stream.inputs ≡ true =
      first_so (have_types before right.instance.inputs right.due.stream.inputs)
      (list_all (λ p. is_fact before.facts (fact_of (slots_of right.instance.inputs) p)) right.due.stream.domain) right.due.reachable in
      let facts : list_all (λ p. is_fact before.facts (fact_of (slots_of right.instance.inputs) p)) right.due.stream.domain ≡ true =
      second_so (have_types before right.instance.inputs right.due.stream.inputs)
      (list_all (λ p. is_fact before.facts (fact_of (slots_of right.instance.inputs) p)) right.due.stream.domain) right.due.reachable in
      let named : instance_of task names call.0 ≡ Some a.instance = call.2 ∙ ap Some streamed.1 in
      let by_stream =
      and_then_some (λ stream. option_map (λ inputs. record { stream = stream; inputs = inputs }) (places_of names call.0.args))
      (stream_named task call.0.name) a.instance named in
      let by_inputs = map_some (λ inputs. record { stream = by_stream.0; inputs = inputs }) (places_of names call.0.args) a.instance by_stream.2 in
      let found = position_at (λ (s : Stream). same_numbers call.0.name s.name) task.streams by_stream.0 by_stream.1 in
      let places : by_stream.0 ≡ a.instance.stream = ap (λ (x : Instance). x.stream) by_inputs.2 in
      let inputs : by_inputs.0 ≡ a.instance.inputs = ap (λ (x : Instance). x.inputs) by_inputs.2 in
      let one : found.0 ≡ a.stream =
      same_some _ _ _ found.1 (ap (slice_get task.streams) places ∙ streamed.0) in
      record {
        place = at.0;
        turn = at.1;
        call = call.0;
        at = at.2;
        streamed = streamed.0;
        many = (λ i. length (sym same i).inputs)
            ∙ have_types-length before right.instance.inputs right.due.stream.inputs typed
            ∙ ap (λ (s : Stream). length s.inputs) same_stream;
        name = (numbers_decided call.0.name found.0.name).0 found.2 ∙ ap (λ (s : Stream). s.name) one;
        words = sym (names_there names call.0.args by_inputs.0
            ((places_exact names call.0.args by_inputs.0 (names_of-distinct task entries distinct)).0 by_inputs.1))
            ∙ ap (map (name_at names)) inputs;
        known = all_from (λ p. is_fact (known_of task entries).facts (fact_of (slots_of a.instance.inputs) p)) a.stream.domain
            (λ k p there. kept at.0 (fact_of (slots_of a.instance.inputs) p)
            (all_at (λ p. is_fact before.facts (fact_of (slots_of a.instance.inputs) p)) a.stream.domain k p
            (subst (λ (s : Stream). list_all (λ p. is_fact before.facts (fact_of (slots_of a.instance.inputs) p)) s.domain ≡ true) same_stream
            (subst (λ (x : Instance). list_all (λ p. is_fact before.facts (fact_of (slots_of x.inputs) p)) right.due.stream.domain ≡ true) same facts))
            there));
      }

  -- what the grid answered to it
  pub replied : (grid : GridFile) → AreTrueYields grid entries → (n tuples k : ℕ) (values : List (List ℕ)) (a : Asked)
      → slice_get entries k ≡ Some (entry.Got n tuples values) → (r : Request task entries n a)
      → reply_of_answer (answer_to grid (ask_to r.turn (map (name_at (names_of task entries)) a.instance.inputs) (served_stream a.stream.name)))
      ≡ yields tuples values
  replied grid yielded n tuples k values a at r =
      let said = yielded n tuples r.turn values r.call (member_at entries k (entry.Got n tuples values) at)
      (member_at entries r.place (entry.Ask n r.turn r.call) r.at) in
      ap (λ args. reply_of_answer (answer_to grid (ask_to r.turn args (served_stream a.stream.name)))) (sym r.words)
      ∙ ap (λ name. reply_of_answer (answer_to grid (ask_to r.turn r.call.args (served_stream name)))) (sym r.name)
      ∙ said
