-- The requests of a round, and the children that they go to.
use Rattle.std.proofs.Common.{◌≡◌, ℕ, zero, suc, ◌+◌, ◌<◌, inl, inr, true, false, List, [], ◌∷◌, ◌++◌, map, length, take, eqb-true, count_by, refl, sym, ap, subst, ◌∙◌, Option, None, Some, slice_get, arith, append_assoc}
use Rattle.std.proofs.lemmas.Bool.{cases_lt}
use Rattle.std.proofs.lemmas.List.{append-nil}
use Rattle.std.proofs.lemmas.List.Elements.{All-contains}
use Rattle.std.proofs.lemmas.Option.{slice_get_within, slice_get-map}
use Rattle.std.specs.Option.{option_map}
use Rattle.instance_queue.specs.Level.{due_instances}
use Rattle.instance_queue.specs.declared.due.Due.{Due}
use Rattle.lemmas.proofs.Members.{get_append, get_behind, member_at}
use Rattle.lemmas.proofs.Options.{and_then_some}
use Rattle.pools.proofs.PoolsLemmas.{server_is, workers_fit}
use Rattle.pools.specs.Pools.{AreFitPools, HasChild, Workers, child_for, has_stream, server, shares_of, asked_streams}
use Rattle.round_run.proofs.DialogueRequestLemmas.{AreAsks, stream_shown}
use Rattle.round_run.specs.Dialogue.{IsOneOf, Request, count_to, is_to, called_stream, requests_after}
use Rattle.lemmas.proofs.Counts.{count_passes, count_whole}
use Rattle.table_runs.proofs.AskingPlaceLemmas.{passing_there}
use Rattle.task_model.proofs.KnownLemmas.{numbers_decided}
use Rattle.task_model.specs.Fit.{IsFit, is_name}
use Rattle.task_model.specs.Known.{same_numbers}
use Rattle.task_model.specs.Streams.{yields_of}
use Rattle.task_model.specs.declared.stream.Instance.{Instance}
use Rattle.task_model.specs.declared.stream.Stream.{Stream}
use Rattle.task_model.specs.declared.task.Task.{Task}
use Rattle.gen_lines.specs.Request.{stream_name}
use Rattle.transcript_model.proofs.NamedObjectLemmas.{passes_all}
use Rattle.transcript_model.proofs.NamesLemmas.{position_at}
use Rattle.transcript_model.specs.Legal.{is_ask, IsLegal}
use Rattle.transcript_model.specs.Names.{call_of_instance, places_of, stream_named}
use Rattle.transcript_model.specs.Rounds.{fits, requests_from}
use Rattle.transcript_model.specs.Transcript.{names_of, notes_of}
use Rattle.transcript_model.specs.declared.entry.Call.{Call}
use Rattle.transcript_model.specs.declared.entry.Entry.{Entry}
use Rattle.transcript_model.specs.declared.entry.Entry.TheVariants as entry

-- ---- the streams that are named

module _ (task : Task) where
  -- each request's stream is one of the task
  abbrev pub NameStreams : List Entry → Type 0
  NameStreams es =
      (k n turn : ℕ) (call : Call) → slice_get es k ≡ Some (entry.Ask n turn call)
      → (place : ℕ) × (stream_named task call.name ≡ Some place)

  pub legal_names : (version : ℕ) (entries : List Entry) → IsLegal version task entries → NameStreams entries
  legal_names version entries legal k n turn call at =
      let right = legal k (entry.Ask n turn call) at in
      let named =
      and_then_some (λ stream. option_map (λ inputs. record { stream = stream; inputs = inputs })
      (places_of (names_of task (take k entries)) call.args)) (stream_named task call.name) right.instance right.named in
      (named.0, named.1)

  pub names_front : (xs ys : List Entry) → NameStreams (xs ++ ys) → NameStreams xs
  names_front xs ys all k n turn call at = all k n turn call (get_append xs ys k (entry.Ask n turn call) at)

  pub names_behind : (xs ys : List Entry) → NameStreams (xs ++ ys) → NameStreams ys
  names_behind xs ys all k n turn call at =
      all (length xs + k) n turn call (get_behind xs ys k (entry.Ask n turn call) at)

  -- a stream whose name is found is one of the task
  stream_below : IsFit task → (k place : ℕ) → stream_named task (stream_name task k) ≡ Some place → k < length task.streams
  stream_below fit k place named = by (slice_get task.streams k) refl
    where
      by : (o : Option Stream) → slice_get task.streams k ≡ o → k < length task.streams
      by (Some s) is = slice_get_within task.streams k s is
      by None is =
          let unnamed : stream_name task k ≡ [] = rw is refl in
          let found = position_at (λ (s : Stream). same_numbers (stream_name task k) s.name) task.streams place named in
          let same = (numbers_decided (stream_name task k) found.0.name).0 found.2 in
          let there = slice_get-map (λ (s : Stream). s.name) task.streams place ∙ ap (option_map (λ (s : Stream). s.name)) found.1 in
          let right : is_name found.0.name ≡ true =
          All-contains (λ name. is_name name ≡ true) (map (λ (s : Stream). s.name) task.streams) found.0.name
          (passes_all is_name (λ name. is_name name ≡ true) (map (λ (s : Stream). s.name) task.streams)
          (λ name e. e) fit.streams.names.each) (member_at (map (λ (s : Stream). s.name) task.streams) place found.0.name there) in
          let wrong : false ≡ true = ap is_name (sym unnamed ∙ same) ∙ right in
          absurd (cc)

  -- ---- the entries of a round's requests

  pub requests_ask : (before : List Entry) (n : ℕ) (list : List Instance) → AreAsks (requests_from task before n list)
  requests_ask before n [] k e at = absurd (cc)
  requests_ask before n (i ∷ list) zero e at =
      let same : entry.Ask n (yields_of (notes_of task before) i) (call_of_instance task (names_of task before) i) ≡ e = cc in
      ap is_ask (sym same)
  requests_ask before n (i ∷ list) (suc k) e at = requests_ask before (n + 1) list k e at

  pub requests_many : (before : List Entry) (n : ℕ) (list : List Instance) → length (requests_from task before n list) ≡ length list
  requests_many before n [] = refl
  requests_many before n (i ∷ list) = ap suc (requests_many before (n + 1) list)

-- ---- how many of a round a pool serves

abbrev due_of : Instance → Due
due_of i = record { instance = i; turn = 0 }

instances_are : (list : List Instance) → due_instances (map due_of list) ≡ list
instances_are [] = refl
instances_are (i ∷ list) = ap (λ is. i ∷ is) (instances_are list)

abbrev streams_in : List Instance → List ℕ
streams_in = map (λ (i : Instance). i.stream)

streams_are : (list : List Instance) → asked_streams (map due_of list) ≡ streams_in list
streams_are [] = refl
streams_are (i ∷ list) = ap (λ ss. i.stream ∷ ss) (streams_are list)

take_streams : (list : List Instance) (k : ℕ) → streams_in (take k list) ≡ take k (streams_in list)
take_streams list zero = refl
take_streams [] (suc k) = refl
take_streams (i ∷ list) (suc k) = ap (λ ss. i.stream ∷ ss) (take_streams list k)

module _ (task : Task) (pools : List Workers) (fit : IsFit task) (able : AreFitPools task pools) where
  -- ---- one round

  -- the instance of a request of a round, and its child
  pub record Sends (round : List ℕ) (list : List Instance) (k child : ℕ) : Type 0 where
    instance : Instance
    there : slice_get list k ≡ Some instance
    below : instance.stream < length task.streams
    is : child ≡ child_for pools (round ++ streams_in (take k list)) instance.stream

  -- the stream of the first request, as it is shown
  first_below : (before : List Entry) (n : ℕ) (i : Instance) (list : List Instance)
      → NameStreams task (requests_from task before n (i ∷ list)) → i.stream < length task.streams
  first_below before n i list named =
      let found =
      named 0 n (yields_of (notes_of task before) i) (call_of_instance task (names_of task before) i) refl in
      stream_below task fit i.stream found.0 found.1

  pub sends_at : (before : List Entry) (n : ℕ) (round : List ℕ) (list : List Instance) → NameStreams task (requests_from task before n list)
      → (k : ℕ) (r : Request) → slice_get (requests_after task pools round (requests_from task before n list)) k ≡ Some r
      → Sends round list k r.child
  sends_at before n round [] named k r at = absurd (cc)
  sends_at before n round (i ∷ list) named zero r at =
      let call = call_of_instance task (names_of task before) i in
      let below = first_below before n i list named in
      let same : child_for pools round (called_stream task call) ≡ r.child = cc in
      record {
        instance = i;
        there = refl;
        below = below;
        is =
            sym same
            ∙ ap (child_for pools round) (stream_shown task (names_of task before) i fit below)
            ∙ ap (λ ss. child_for pools ss i.stream) (sym (append-nil round));
      }
  sends_at before n round (i ∷ list) named (suc k) r at =
      let shown = stream_shown task (names_of task before) i fit (first_below before n i list named) in
      let later =
      sends_at before (n + 1) (round ++ i.stream ∷ []) list (λ m number turn c e. named (suc m) number turn c e) k r
      (subst (λ s. slice_get (requests_after task pools (round ++ s ∷ []) (requests_from task before (n + 1) list)) k ≡ Some r)
      shown at) in
      record {
        instance = later.instance;
        there = later.there;
        below = later.below;
        is =
            later.is
            ∙ ap (λ ss. child_for pools ss later.instance.stream) (append_assoc round (i.stream ∷ []) (streams_in (take k list)));
      }

  -- the child is one of the pool that serves the stream
  pub sent_one : (list : List Instance) (k child : ℕ) → fits (shares_of pools) list ≡ true → Sends [] list k child → IsOneOf pools child
  sent_one list k child few s =
      let found = able.served s.instance.stream s.below in
      let is = server_is pools s.instance.stream found.0 found.1 in
      let p = found.0 in
      let at : slice_get (streams_in list) k ≡ Some s.instance.stream =
      slice_get-map (λ (i : Instance). i.stream) list k ∙ ap (option_map (λ (i : Instance). i.stream)) s.there in
      let enough = count_whole (has_stream p) (streams_in list) k s.instance.stream at is.2 in
      let most =
      workers_fit pools (map due_of list) (ap (fits (shares_of pools)) (instances_are list) ∙ few) is.0 p is.1 in
      let many = ap (count_by (has_stream p)) (streams_are list) in
      let child_is = s.is ∙ from p found.1 ∙ ap (λ ss. p.first + count_by (has_stream p) ss) (take_streams list k) in
      record {
        place = is.0;
        pool = p;
        at = is.1;
        has = record { from = omega (arith, child_is); to = omega (arith, child_is, enough, most, many) };
      }
    where
      from : (p : Workers) → server pools s.instance.stream ≡ Some p
          → child_for pools (streams_in (take k list)) s.instance.stream ≡ p.first + count_by (has_stream p) (streams_in (take k list))
      from p e = rw e refl

  -- the pool that serves it, and the child's number there
  record Place (list : List Instance) (k child : ℕ) : Type 0 where
    place : ℕ
    pool : Workers
    at : slice_get pools place ≡ Some pool
    stream : ℕ
    there : slice_get (streams_in list) k ≡ Some stream
    serves : has_stream pool stream ≡ true
    is : child ≡ pool.first + count_by (has_stream pool) (take k (streams_in list))
    has : HasChild pool child

  placed : (list : List Instance) (k child : ℕ) → fits (shares_of pools) list ≡ true → Sends [] list k child → Place list k child
  placed list k child few s =
      let found = able.served s.instance.stream s.below in
      let is = server_is pools s.instance.stream found.0 found.1 in
      let p = found.0 in
      let at : slice_get (streams_in list) k ≡ Some s.instance.stream =
      slice_get-map (λ (i : Instance). i.stream) list k ∙ ap (option_map (λ (i : Instance). i.stream)) s.there in
      let enough = count_whole (has_stream p) (streams_in list) k s.instance.stream at is.2 in
      let most =
      workers_fit pools (map due_of list) (ap (fits (shares_of pools)) (instances_are list) ∙ few) is.0 p is.1 in
      let many = ap (count_by (has_stream p)) (streams_are list) in
      let child_is : child ≡ p.first + count_by (has_stream p) (take k (streams_in list)) =
      s.is ∙ from p found.1 ∙ ap (λ ss. p.first + count_by (has_stream p) ss) (take_streams list k) in
      record {
        place = is.0;
        pool = p;
        at = is.1;
        stream = s.instance.stream;
        there = at;
        serves = is.2;
        is = child_is;
        has = record { from = omega (arith, child_is); to = omega (arith, child_is, enough, most, many) };
      }
    where
      from : (p : Workers) → server pools s.instance.stream ≡ Some p
          → child_for pools (streams_in (take k list)) s.instance.stream ≡ p.first + count_by (has_stream p) (streams_in (take k list))
      from p e = rw e refl

  -- no child is asked twice in a round
  pub not_again : (list : List Instance) (m k child : ℕ) → fits (shares_of pools) list ≡ true → m < k
      → Sends [] list m child → Sends [] list k child → ⊥
  not_again list m k child few less first second =
      let a = placed list m child few first in
      let b = placed list k child few second in
      let same : a.place ≡ b.place = able.apart a.place b.place child a.pool b.pool a.at b.at a.has b.has in
      let both : Some a.pool ≡ Some b.pool = sym a.at ∙ ap (slice_get pools) same ∙ b.at in
      let pool : a.pool ≡ b.pool = cc in
      let later : child ≡ a.pool.first + count_by (has_stream a.pool) (take k (streams_in list)) =
      b.is ∙ ap (λ (p : Workers). p.first + count_by (has_stream p) (take k (streams_in list))) (sym pool) in
      absurd (omega (arith, a.is, later, count_passes (has_stream a.pool) (streams_in list) m k a.stream less a.there a.serves))

  pub none_to : (c : ℕ) (rs : List Request) → ((m : ℕ) (r : Request) → slice_get rs m ≡ Some r → r.child ≡ c → ⊥) → count_to c rs ≡ 0
  none_to c rs each = elim (cases_lt 0 (count_to c rs)) [
    | inl some ↦
        let found = passing_there (is_to c) rs some in
        absurd (each found.0 found.1 found.2 (eqb-true found.1.child c found.3))
    | inr none ↦ omega (arith, none)
  ]
