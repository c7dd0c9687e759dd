-- What the joins find is what is sought.
use Rattle.std.proofs.Common.{◌≡◌, ℕ, ◌+◌, ◌-◌, ◌<◌, ◌≤◌, ◌⊎◌, Bool, true, inl, inr, List, [], ◌∷◌, ◌++◌, map, length, get_or, take, sym, ap, subst, ◌∙◌, arith, Some, slice_get, Contains, ◌↔◌, length-append, append_assoc}
use Rattle.std.proofs.lemmas.Bool.{cases_lt, and_from}
use Rattle.std.proofs.lemmas.List.{length-map, map_push, take_more}
use Rattle.std.proofs.lemmas.List.Elements.{Contains-append_left, Contains-append_right, Contains-append_cases}
use Rattle.std.proofs.lemmas.Option.{slice_get_within, same_Some}
use Rattle.std.specs.Cmp.{first_so, second_so}
use Rattle.std.specs.List.{list_all}
use Rattle.fact_join.specs.Adding.{AreAll, Adds, ComesOf}
use Rattle.fact_join.specs.Answers.{IsAnswer, is_known, is_atom_over, is_pattern_of}
use Rattle.fact_join.specs.Partials.{Agrees}
use Rattle.fact_join.specs.declared.partial.Partial.{Partial}
use Rattle.fact_join.specs.declared.query.JoinFault.{JoinFault}
use Rattle.fact_join.specs.declared.query.JoinFault.TheVariants.{TooMany, Memory}
use Rattle.fact_join.specs.declared.query.QueryAtom.{QueryAtom}
use Rattle.lemmas.proofs.Ascending.{contains_none}
use Rattle.lemmas.proofs.Distinct.{distinct_append, from_mapped, in_mapped, distinct_mapped}
use Rattle.lemmas.proofs.ListTests.{all_mapped, get_some}
use Rattle.lemmas.proofs.Members.{distinct_nil}
use Rattle.lemmas.specs.Lists.{AreDistinct}
use Rattle.task_model.specs.Known.{Known, is_fact}
use Rattle.task_model.specs.Streams.{is_reachable, fact_of}
use Rattle.task_model.specs.Truth.{slots_of, have_types}
use Rattle.task_model.specs.declared.domain.Pattern.{Pattern}
use Rattle.task_model.specs.declared.stream.Instance.{Instance}
use Rattle.task_model.specs.declared.stream.Stream.{Stream}
use Rattle.task_model.specs.declared.task.Task.{Task}
use Rattle.instance_search.specs.Found.{Seeks, IsFound, instance_at, pattern_of_query, AreDomainAtoms, is_sought_at, IsSoughtInput, AddsInstances, IsSoughtBelow}
use Rattle.instance_search.specs.Readable.{IsReadableStream}

-- ---- one stream

pub atoms_fit : (stream : Stream) (atoms : List QueryAtom) → IsReadableStream stream
    → AreDomainAtoms stream atoms
    → list_all (is_atom_over (length stream.inputs)) atoms ≡ true
atoms_fit stream atoms readable are =
    let p = is_pattern_of (length stream.inputs) in
    sym (all_mapped pattern_of_query p atoms) ∙ ap (list_all p) are ∙ readable.slots

module _ (known : Known) (seeks : Seeks) (stream : Stream) (place : ℕ)
    (partial : Partial) (free : (slots : List ℕ) → Agrees partial slots)
    (atoms : List QueryAtom) (are : AreDomainAtoms stream atoms) where
  abbrev sought : List ℕ → Bool
  sought inputs = seeks stream (instance_at place inputs)

  abbrev Answers : List ℕ → Type 0
  Answers = IsAnswer known stream.inputs sought partial atoms

  known_domain : (slots : List ℕ)
      → list_all (is_known known slots) atoms ≡ list_all (λ p. is_fact known.facts (fact_of slots p)) stream.domain
  known_domain slots =
      let p = λ (pattern : Pattern). is_fact known.facts (fact_of slots pattern) in
      sym (all_mapped pattern_of_query p atoms) ∙ ap (list_all p) are

  answer_is_sought : (inputs : List ℕ) → Answers inputs ↔ IsSoughtInput known seeks stream place inputs
  answer_is_sought inputs = (
    λ a.
        let facts = sym (known_domain (slots_of inputs)) ∙ a.known_atoms in
        let reaches = and_from (have_types known inputs stream.inputs) _ a.types facts in
        and_from (is_reachable stream known (instance_at place inputs)) (sought inputs) reaches a.wanted,
    λ due.
        let reaches = first_so (is_reachable stream known (instance_at place inputs)) (sought inputs) due in
        record {
          agrees = free (slots_of inputs);
          types = first_so (have_types known inputs stream.inputs) _ reaches;
          known_atoms = known_domain (slots_of inputs) ∙ second_so (have_types known inputs stream.inputs) _ reaches;
          wanted = second_so (is_reachable stream known (instance_at place inputs)) (sought inputs) due;
        },
  )

  pub joined_rows : (rows : List (List ℕ)) → Adds Answers [] rows
      → AreAll (IsSoughtInput known seeks stream place) rows
  joined_rows rows (more, is, all) =
      subst (AreAll (IsSoughtInput known seeks stream place)) (sym is) (record {
        distinct = all.distinct;
        each = λ x. (λ m. (answer_is_sought x).0 ((all.each x).0 m), λ d. (all.each x).1 ((answer_is_sought x).1 d));
      })

  pub joined_fault : (most : ℕ) (f : JoinFault) → ComesOf most Answers [] f
      → ComesOf most (IsSoughtInput known seeks stream place) [] f
  joined_fault most TooMany (more, distinct, each, many) =
      (more, distinct, λ x m. (answer_is_sought x).0 (each x m), many)
  joined_fault most Memory h = tt

-- ---- instances of one stream

same_inputs : (place : ℕ) (xs ys : List ℕ) → instance_at place xs ≡ instance_at place ys → xs ≡ ys
same_inputs place xs ys e = ap (λ (i : Instance). i.inputs) e

distinct_rows : (place : ℕ) (rows : List (List ℕ)) → AreDistinct rows
    → AreDistinct (map (instance_at place) rows)
distinct_rows place rows d = distinct_mapped (instance_at place) (same_inputs place) rows d

pub instances_more : (place : ℕ) (rows : List (List ℕ)) (i : ℕ) (inputs copied : List ℕ)
    (old instances : List Instance) → i < length rows
    → inputs ≡ get_or rows i inputs → copied ≡ inputs
    → instances ≡ old ++ map (instance_at place) (take i rows)
    → instances ++ instance_at place copied ∷ [] ≡ old ++ map (instance_at place) (take (i + 1) rows)
instances_more place rows i inputs copied old instances within is same passed =
    let at = instance_at place in
    let front = take i rows in
    let taken : take (i + 1) rows ≡ front ++ inputs ∷ [] =
    take_more rows i inputs within ∙ ap (λ xs. front ++ xs ∷ []) (sym is) in
    (λ k. passed k ++ at (same k) ∷ []) ∙ append_assoc old (map at front) (at inputs ∷ [])
    ∙ ap (λ xs. old ++ xs) (sym (map_push at front inputs)) ∙ ap (λ xs. old ++ map at xs) (sym taken)

-- ---- one stream more

pub stream_at : (streams items : List Stream) (place : ℕ) (stream : Stream) → items ≡ streams
    → place < length items → stream ≡ get_or items place stream → slice_get streams place ≡ Some stream
stream_at streams items place stream same within is =
    ap (λ ss. slice_get ss place) (sym same) ∙ get_some items place stream within is

module _ (streams : List Stream) (known : Known) (seeks : Seeks) (place : ℕ)
    (stream : Stream) (at : slice_get streams place ≡ Some stream) where
  -- none of the first streams has an instance of this one
  no_row : (rows : List (List ℕ)) (i : Instance) → IsSoughtBelow streams known seeks place i
      → Contains (map (instance_at place) rows) i → ⊥
  no_row rows i due m =
      let r = from_mapped (instance_at place) rows i m in
      let here : i.stream ≡ place = ap (λ (j : Instance). j.stream) r.2 in
      absurd (omega (arith, due.0, here))

  row_due : (inputs : List ℕ) → IsSoughtInput known seeks stream place inputs
      → IsSoughtBelow streams known seeks (place + 1) (instance_at place inputs)
  row_due inputs due = (omega arith, stream, at, due)

  row_below : (rows : List (List ℕ))
      → ((inputs : List ℕ) → Contains rows inputs → IsSoughtInput known seeks stream place inputs)
      → (i : Instance) → Contains (map (instance_at place) rows) i
      → IsSoughtBelow streams known seeks (place + 1) i
  row_below rows each i m =
      let r = from_mapped (instance_at place) rows i m in
      subst (IsSoughtBelow streams known seeks (place + 1)) (sym r.2) (row_due r.0 (each r.0 r.1))

  together : (xs : List Instance) (rows : List (List ℕ))
      → AreAll (IsSoughtBelow streams known seeks place) xs → AreDistinct rows
      → AreDistinct (xs ++ map (instance_at place) rows)
  together xs rows all distinct =
      distinct_append xs (map (instance_at place) rows) all.distinct (distinct_rows place rows distinct)
      (λ i m n. no_row rows i ((all.each i).0 m) n)

  later : (i : Instance) → IsSoughtBelow streams known seeks place i
      → IsSoughtBelow streams known seeks (place + 1) i
  later i (below, s, named, due) = (omega (arith, below), s, named, due)

  earlier : (i : Instance) → IsSoughtBelow streams known seeks (place + 1) i
      → IsSoughtBelow streams known seeks place i ⊎ ((i ≡ instance_at place i.inputs) × IsSoughtInput known seeks stream place i.inputs)
  earlier i (below, s, named, due) =
      elim (cases_lt i.stream place) [
        | inl less ↦ inl (less, s, named, due)
        | inr over ↦
            let here : i.stream ≡ place = omega (arith, below, over) in
            let whole : i ≡ instance_at place i.inputs = λ j. record { stream = here j; inputs = i.inputs } in
            let same : s ≡ stream = same_Some s stream (sym named ∙ ap (slice_get streams) here ∙ at) in
            inr (whole, (λ j. is_sought_at known seeks (sym same j) (sym whole j)) ∙ due)
      ]

  pub stream_more : (old new : List Instance) → AreAll (IsSoughtBelow streams known seeks place) old
      → AddsInstances known seeks stream place old new
      → AreAll (IsSoughtBelow streams known seeks (place + 1)) new
  stream_more xs new all (rows, is, those) =
      let here = map (instance_at place) rows in
      subst (AreAll (IsSoughtBelow streams known seeks (place + 1))) (sym is) (record {
        distinct = together xs rows all those.distinct;
        each = λ i. (
          λ m. elim (Contains-append_cases xs here i m) [
            | inl h ↦ later i ((all.each i).0 h)
            | inr t ↦ row_below rows (λ inputs. (those.each inputs).0) i t
          ],
          λ due. elim (earlier i due) [
            | inl before ↦ Contains-append_left xs here i ((all.each i).1 before)
            | inr now ↦
                let m = in_mapped (instance_at place) rows i.inputs ((those.each i.inputs).1 now.1) in
                Contains-append_right xs here i (subst (Contains here) (sym now.0) m)
          ],
        );
      })

pub none_below : (streams : List Stream) (known : Known) (seeks : Seeks) (most : ℕ) (instances : List Instance)
    → instances ≡ []
    → AreAll (IsSoughtBelow streams known seeks 0) instances × (length instances ≤ most)
none_below streams known seeks most instances none = (
  subst (AreAll (IsSoughtBelow streams known seeks 0)) (sym none)
      (record { distinct = distinct_nil; each = λ i. (λ m. absurd (contains_none i m), λ due. absurd (omega (arith, due.0))) }),
  omega (arith, ap length none),
)

-- past the last stream nothing more comes
pub whole_below : (streams : List Stream) (known : Known) (seeks : Seeks) (place : ℕ) (xs : List Instance)
    → length streams ≤ place → AreAll (IsSoughtBelow streams known seeks place) xs
    → AreAll (IsSoughtBelow streams known seeks (length streams)) xs
whole_below streams known seeks place xs past all = record {
  distinct = all.distinct;
  each = λ i. (
    λ m. let d = (all.each i).0 m in (slice_get_within streams i.stream d.1 d.2, d.1, d.2, d.3),
    λ due. (all.each i).1 (omega (arith, due.0, past), due.1, due.2, due.3),
  );
}

below_is_found : (task : Task) (known : Known) (seeks : Seeks) (count : ℕ) (i : Instance)
    → IsSoughtBelow task.streams known seeks count i
    → IsFound task known seeks i
below_is_found task known seeks count i (below, s, named, due) = record {
  stream = s;
  named = named;
  reachable = first_so (is_reachable s known i) (seeks s i) due;
  sought = second_so (is_reachable s known i) (seeks s i) due;
}

pub found_below : (task : Task) (known : Known) (seeks : Seeks) (i : Instance)
    → IsSoughtBelow task.streams known seeks (length task.streams) i ↔ IsFound task known seeks i
found_below task known seeks i = (
  below_is_found task known seeks (length task.streams) i,
  λ found.
      let below = slice_get_within task.streams i.stream found.stream found.named in
      (below, found.stream, found.named, and_from (is_reachable found.stream known i) (seeks found.stream i) found.reachable found.sought),
)

-- more than are left were found in one stream
pub stream_fault : (task : Task) (known : Known) (seeks : Seeks) (place : ℕ) (stream : Stream) (most : ℕ)
    (xs : List Instance) (f : JoinFault)
    → slice_get task.streams place ≡ Some stream
    → AreAll (IsSoughtBelow task.streams known seeks place) xs
    → length xs ≤ most → ComesOf (most - length xs) (IsSoughtInput known seeks stream place) [] f
    → ComesOf most (IsFound task known seeks) [] f
stream_fault task known seeks place stream most xs TooMany at all few (rows, distinct, each, many) =
    let here = map (instance_at place) rows in
    let long : length (xs ++ here) ≡ length xs + length rows =
    length-append xs here ∙ ap (λ n. length xs + n) (length-map rows (instance_at place)) in (
      xs ++ here,
      together task.streams known seeks place stream at xs rows all distinct,
      λ i m. elim (Contains-append_cases xs here i m) [
        | inl h ↦ below_is_found task known seeks place i ((all.each i).0 h)
        | inr t ↦
            below_is_found task known seeks (place + 1) i (row_below task.streams known seeks place stream at rows each i t)
      ],
      omega (arith, long, many, few),
    )
stream_fault task known seeks place stream most xs Memory at all few h = tt
