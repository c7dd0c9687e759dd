-- No stream leads to itself where there is no fault of cycles.
use Rattle.std.proofs.Common.{◌≡◌, ℕ, zero, suc, ◌+◌, ◌<◌, true, false, cond, ◌==◌, List, [], ◌∷◌, ◌++◌, length, refl, ap, subst, ◌∙◌, Option, Some, None, slice_get, unwrap_or, eq-eqb, arith}
use Rattle.std.proofs.lemmas.Bool.{or_left}
use Rattle.lemmas.proofs.ListTests.{any_append_left, any_append_right}
use Rattle.sexpr_text.specs.Trees.{Trees, nothing, word, list}
use Rattle.task_model.specs.Fit.{leads, stream_leads}
use Rattle.lemmas.specs.Lists.{LeadsAlong, has_number}
use Rattle.task_model.specs.declared.domain.Domain.{Domain}
use Rattle.task_model.specs.declared.stream.Stream as stream
use Rattle.task_model.specs.declared.task.Task.{Task}
use Rattle.form_reader.specs.declared.fault.Fault.{Fault}
use Rattle.form_reader.specs.declared.fault.InputKind.TheVariants.{StreamCycle}
use Rattle.form_reader.specs.declared.keys.Keyed.{Keyed}
use Rattle.form_reader.specs.Rows.{tail_of}
use Rattle.name_tables.specs.Graphs.{HasWay}
use Rattle.name_tables.specs.Graphs as graphs
use Rattle.name_tables.specs.declared.vocabulary.Vocabulary.{Vocabulary}
use Rattle.task_model.specs.Edges.{streams_within}
use Rattle.stream_reader.specs.Cycles.{candidates_of, edges_from, edges_of, is_there, next_streams, next_one}
use Rattle.name_tables.specs.Cycles.{CycleFaults, no_more, cyclic, free}
use Rattle.stream_reader.specs.Streams.{item_streams, streams_of}
use Rattle.stream_reader.specs.Tables.{kind_of}
use Rattle.name_tables.specs.declared.cycles.Candidate.{Candidate}

-- ---- no candidate is on a cycle

abbrev AllFree : List (List ℕ) → List Candidate → Type 0
AllFree edges [] = Unit {0}
AllFree edges (c ∷ cs) = (¬ (HasWay edges c.node c.node)) × AllFree edges cs

all_free : {edges : List (List ℕ)} {cs : List Candidate} {fs : List Fault}
    → CycleFaults StreamCycle edges cs fs → fs ≡ [] → AllFree edges cs
all_free no_more e = tt
all_free (cyclic way more) e = absurd (cc)
all_free (free none more) e = (none, all_free more e)

shifted : (edges : List (List ℕ)) (n m : ℕ) → n ≡ m → ¬ (HasWay edges n n) → ¬ (HasWay edges m m)
shifted edges n m e none = subst (λ k. ¬ (HasWay edges k k)) e none

free_step :
    (edges : List (List ℕ)) (v : Vocabulary) (o : Option Keyed) (n at : ℕ) (items : Trees)
    (ss : List stream.Stream) (cs more : List Candidate)
    →
    AllFree edges (cond (is_there o) (record { node = n; place = at } ∷ cs) more) →
    (AllFree edges cs → (k : ℕ) → k < length ss → ¬ (HasWay edges (n + 1 + k) (n + 1 + k))) →
    (AllFree edges more → (k : ℕ) → k < length ss → ¬ (HasWay edges (n + k) (n + k))) →
    (k : ℕ) → k < length (item_streams v o items ++ ss) → ¬ (HasWay edges (n + k) (n + k))
free_step edges v None n at items ss cs more f later same k h = same f k h
free_step edges v (Some keyed) n at items ss cs more f later same zero h =
    let e : n ≡ n + 0 = omega arith in shifted edges n (n + 0) e f.0
free_step edges v (Some keyed) n at items ss cs more f later same (suc k) h =
    let e : n + 1 + k ≡ n + suc k = omega arith in shifted edges (n + 1 + k) (n + suc k) e (later f.1 k (omega arith))

free_at : (edges : List (List ℕ)) (v : Vocabulary) (n : ℕ) (body : Trees)
    → AllFree edges (candidates_of n body) → (k : ℕ) → k < length (streams_of v body)
    → ¬ (HasWay edges (n + k) (n + k))
free_at edges v n nothing f k h = absurd (omega arith)
free_at edges v n (word w at rest) f k h = free_at edges v n rest f k h
free_at edges v n (list items at rest) f k h =
    free_step edges v (kind_of items) n at (tail_of items) (streams_of v rest) (candidates_of (n + 1) rest)
    (candidates_of n rest) f (free_at edges v (n + 1) rest) (free_at edges v n rest) k h

-- ---- the edges are what leads where

number_there : (d : Domain) (s u : stream.Stream) (number : ℕ) → stream_leads d s u ≡ true
    → has_number (next_one d s u number) number ≡ true
number_there d s u number e =
    ap (λ b. has_number (cond b (number ∷ []) []) number) e
    ∙ or_left (number == number) false (eq-eqb number number refl)

next_there : (d : Domain) (s u : stream.Stream) (number : ℕ) (ts : List stream.Stream) (k : ℕ)
    → slice_get ts k ≡ Some u → stream_leads d s u ≡ true
    → has_number (next_streams d s number ts) (number + k) ≡ true
next_there d s u number [] k e h = absurd (cc)
next_there d s u number (t ∷ ts) zero e h =
    let same : t ≡ u = cc in
    let zeros : number ≡ number + 0 = omega arith in
    any_append_left (λ m. number + 0 == m) (next_one d s t number) (next_streams d s (number + 1) ts)
    (subst (λ n. has_number (next_one d s t number) n ≡ true) zeros (number_there d s t number (ap (stream_leads d s) same ∙ h)))
next_there d s u number (t ∷ ts) (suc k) e h =
    let up : number + 1 + k ≡ number + suc k = omega arith in
    any_append_right (λ m. number + suc k == m) (next_one d s t number) (next_streams d s (number + 1) ts)
    (subst (λ n. has_number (next_streams d s (number + 1) ts) n ≡ true) up (next_there d s u (number + 1) ts k e h))

edge_at : (d : Domain) (all ss : List stream.Stream) (k : ℕ) (s : stream.Stream)
    → slice_get ss k ≡ Some s → slice_get (edges_from d all ss) k ≡ Some (next_streams d s 0 all)
edge_at d all [] k s e = absurd (cc)
edge_at d all (t ∷ ss) zero s e = let same : t ≡ s = cc in ap (λ r. Some (next_streams d r 0 all)) same
edge_at d all (t ∷ ss) (suc k) s e = edge_at d all ss k s e

module _ (task : Task) where
  abbrev edges : List (List ℕ)
  edges = edges_of task.domain task.streams

  abbrev led_by : Option stream.Stream → Option stream.Stream → Type 0
  led_by (Some s) (Some u) = stream_leads task.domain s u ≡ true
  led_by None u = ⊥
  led_by (Some s) None = ⊥

  leads_there : (from to : ℕ) → leads task from to ≡ true → (s u : stream.Stream)
      → slice_get task.streams from ≡ Some s → slice_get task.streams to ≡ Some u
      → stream_leads task.domain s u ≡ true
  leads_there from to h s u e f = rw (e, f) at h

  get_there : (ss : List stream.Stream) (k : ℕ) → k < length ss
      → (s : stream.Stream) × (slice_get ss k ≡ Some s)
  get_there [] k h = absurd (omega arith)
  get_there (s ∷ ss) zero h = (s, refl)
  get_there (s ∷ ss) (suc k) h = get_there ss k (omega arith)

  edge_there : (from to : ℕ) → leads task from to ≡ true → graphs.has_edge edges from to ≡ true
  edge_there from to h =
      let within = streams_within task from to h in
      let first = get_there task.streams from within.0 in
      let second = get_there task.streams to within.1 in
      let zeros : 0 + to ≡ to = omega arith in
      let row : graphs.next_of edges from ≡ next_streams task.domain first.0 0 task.streams =
      ap (λ o. unwrap_or o []) (edge_at task.domain task.streams task.streams from first.0 first.1) in
      ap (λ ns. has_number ns to) row
      ∙ subst (λ n. has_number (next_streams task.domain first.0 0 task.streams) n ≡ true) zeros
      (next_there task.domain first.0 second.0 0 task.streams to second.1 (leads_there from to h first.0 second.0 first.1 second.1))

  way_there : (from : ℕ) (between : List ℕ) (to : ℕ) → LeadsAlong (leads task) from between to
      → LeadsAlong (graphs.has_edge edges) from between to
  way_there from [] to h = edge_there from to h
  way_there from (next ∷ more) to h = (edge_there from next h.0, way_there next more to h.1)

  first_within : (from : ℕ) (between : List ℕ) (to : ℕ) → LeadsAlong (leads task) from between to
      → from < length task.streams
  first_within from [] to h = (streams_within task from to h).0
  first_within from (next ∷ more) to h = (streams_within task from next h.0).0

  -- where these are the streams of a text without faults of cycles
  pub acyclic : (v : Vocabulary) (body : Trees) → task.streams ≡ streams_of v body
      → CycleFaults StreamCycle edges (candidates_of 0 body) [] → (s : ℕ) (between : List ℕ)
      → ¬ (LeadsAlong (leads task) s between s)
  acyclic v body is clean s between way =
      let low : s < length (streams_of v body) = omega (arith, first_within s between s way, ap length is) in
      let zeros : 0 + s ≡ s = omega arith in
      shifted edges (0 + s) s zeros (free_at edges v 0 body (all_free clean refl) s low)
      (record { between = between; steps = way_there s between s way })
