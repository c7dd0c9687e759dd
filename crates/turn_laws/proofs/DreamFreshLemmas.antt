-- The outputs of supposed entries are objects of their own, and of the entries only its own certifies a type of one.
use Rattle.std.proofs.Common.{◌≡◌, ℕ, zero, suc, ◌+◌, ◌<◌, ◌≤◌, inl, inr, arith, true, List, [], ◌∷◌, ◌++◌, length, take, map, sum_by, refl, sym, ap, subst, ◌∙◌, Option, Some, None, slice_get, Contains, All}
use Rattle.std.proofs.lemmas.Bool.{cases_order}
use Rattle.std.proofs.lemmas.List.Elements.{All-contains, Contains-append_cases}
use Rattle.std.proofs.lemmas.List.Sums.{sum_by-cons}
use Rattle.std.proofs.lemmas.Option.{slice_get_within, same_Some}
use Rattle.std.specs.List.{flat_map}
use Rattle.turn_laws.proofs.DreamListLemmas.{added_behind, added_front, each_is_of}
use Rattle.lemmas.proofs.Ascending.{contains_none, contains_cases, contains_later, from_flat_map}
use Rattle.lemmas.proofs.Distinct.{from_mapped}
use Rattle.lemmas.proofs.ListTests.{all_by_place}
use Rattle.lemmas.proofs.Members.{append_cases, get_and_take}
use Rattle.lemmas.proofs.Numbers.{length-numbers_from}
use Rattle.lemmas.specs.Lists.{numbers_from}
use Rattle.task_model.proofs.KnownLemmas.{below_names, fact_member, with_facts-is}
use Rattle.task_model.specs.Dreams.{AreSupposed, SupposedEntry, HasFreshOutputs, entry_facts, supposing}
use Rattle.task_model.specs.Initial.{sorts_with, type_facts}
use Rattle.task_model.specs.Known.{IsCoherent, IsIn, Known, type_fact}
use Rattle.task_model.specs.Streams.{Note, certified_by, fact_of, output_types}
use Rattle.task_model.specs.Truth.{has_type, slots_of}
use Rattle.task_model.specs.declared.domain.Domain.{Domain}
use Rattle.task_model.specs.declared.fact.Fact.{Fact}
use Rattle.task_model.specs.declared.stream.Instance.{Instance}
use Rattle.task_model.specs.declared.stream.Stream.{Stream}
use Rattle.task_model.specs.declared.task.Task.{Task}

-- ---- numbers of outputs

abbrev pub outputs_in : List SupposedEntry → ℕ
outputs_in list = sum_by (λ (e : SupposedEntry). length e.outputs) list

pub outputs_behind : (list : List SupposedEntry) (k : ℕ) (e : SupposedEntry) → slice_get list k ≡ Some e
    → outputs_in (take k list) + length e.outputs ≤ outputs_in list
outputs_behind [] k e at = absurd (cc)
outputs_behind (x ∷ xs) zero e at =
    let same : length x.outputs ≡ length e.outputs = ap (λ (y : SupposedEntry). length y.outputs) (same_Some x e at) in
    omega (arith, same, sum_by-cons (λ (y : SupposedEntry). length y.outputs) x xs)
outputs_behind (x ∷ xs) (suc k) e at =
    let rest = outputs_behind xs k e at in
    omega (
      arith,
      rest,
      sum_by-cons (λ (y : SupposedEntry). length y.outputs) x xs,
      sum_by-cons (λ (y : SupposedEntry). length y.outputs) x (take k xs),
    )

in_row : (first n o : ℕ) → Contains (numbers_from first n) o → (first ≤ o) × (o < first + n)
in_row first zero o m = absurd (contains_none o m)
in_row first (suc n) o m =
    elim (contains_cases first (numbers_from (first + 1) n) o m) [
      | inl here ↦ (omega (arith, here), omega (arith, here))
      | inr later ↦ let r = in_row (first + 1) n o later in (omega (arith, r.0), omega (arith, r.1))
    ]

-- ---- outputs are fresh

module _ (task : Task) (known : Known) (notes : List Note) (tried : List Instance) where
  pub each_is_fresh : (depth : ℕ) (list : List SupposedEntry) → AreSupposed task known notes tried depth list → (k : ℕ) (e : SupposedEntry)
      → slice_get list k ≡ Some e → HasFreshOutputs task known (take k list) e
  each_is_fresh zero list so k e at = let none : slice_get [] k ≡ Some e = ap (λ es. slice_get es k) (sym so) ∙ at in absurd (cc)
  each_is_fresh (suc depth) list (old, so_far, pass) k e at =
      elim (append_cases old pass.more k e (ap (λ es. slice_get es k) (sym pass.added) ∙ at)) [
        | inl early ↦
            subst (λ es. HasFreshOutputs task known es e)
            (sym (added_front list old pass.more pass.added k (omega (arith, slice_get_within old k e early))))
            (each_is_fresh depth old so_far k e early)
        | inr later ↦
            subst (λ es. HasFreshOutputs task known es e)
            (sym (added_behind list old pass.more pass.added k later.0 later.1)) (pass.fresh later.0 e later.2)
      ]

-- the outputs of an entry are numbers in a row
pub record AreInRow (known : Known) (before : List SupposedEntry) (e : SupposedEntry) : Type 0 where
  pub count : ℕ
  pub are : e.outputs ≡ numbers_from (length known.names + outputs_in before) count

rows : (task : Task) (known : Known) (before : List SupposedEntry) (e : SupposedEntry) → HasFreshOutputs task known before e
    → AreInRow known before e
rows task known before e fresh = by (slice_get task.streams e.instance.stream) refl
  where
    by : (o : Option Stream) → slice_get task.streams e.instance.stream ≡ o → AreInRow known before e
    by None at = record { count = 0; are = rw at at fresh }
    by (Some s) at = record { count = length s.outputs; are = rw at at fresh }

outputs_many : (task : Task) (known : Known) (before : List SupposedEntry) (e : SupposedEntry) (s : Stream) → HasFreshOutputs task known before e
    → slice_get task.streams e.instance.stream ≡ Some s → length e.outputs ≡ length s.outputs
outputs_many task known before e s fresh named =
    ap length row ∙ length-numbers_from (length known.names + outputs_in before) (length s.outputs)
  where
    row : e.outputs ≡ numbers_from (length known.names + outputs_in before) (length s.outputs)
    row = rw named at fresh

-- no entry has more outputs than a stream of the task
pub few_outputs : (task : Task) (known : Known) (notes : List Note) (tried : List Instance) (depth most : ℕ) (list : List SupposedEntry)
    → AreSupposed task known notes tried depth list
    → ((k : ℕ) (s : Stream) → slice_get task.streams k ≡ Some s → length s.outputs ≤ most)
    → All (λ (e : SupposedEntry). length e.outputs ≤ most) list
few_outputs task known notes tried depth most list so few = all_by_place (λ (e : SupposedEntry). length e.outputs ≤ most) list one
  where
    one : (k : ℕ) (e : SupposedEntry) → slice_get list k ≡ Some e → length e.outputs ≤ most
    one k e at =
        let o = each_is_of task known notes tried depth list so k e at in
        omega (
          arith,
          few e.instance.stream o.stream o.named,
          outputs_many task known (take k list) e o.stream (each_is_fresh task known notes tried depth list so k e at) o.named,
        )

module _ (task : Task) (known : Known) (list : List SupposedEntry)
    (fresh : (k : ℕ) (e : SupposedEntry) → slice_get list k ≡ Some e → HasFreshOutputs task known (take k list) e) where
  -- where an output of an entry stands
  pub own_behind : (k : ℕ) (e : SupposedEntry) (object : ℕ) → slice_get list k ≡ Some e → Contains e.outputs object
      → length known.names + outputs_in (take k list) ≤ object
  own_behind k e object at out =
      let r = rows task known (take k list) e (fresh k e at) in
      (in_row (length known.names + outputs_in (take k list)) r.count object (subst (λ os. Contains os object) r.are out)).0

  own_before : (k : ℕ) (e : SupposedEntry) (object : ℕ) → slice_get list k ≡ Some e → Contains e.outputs object
      → object < length known.names + outputs_in (take k list) + length e.outputs
  own_before k e object at out =
      let r = rows task known (take k list) e (fresh k e at) in
      let low = in_row (length known.names + outputs_in (take k list)) r.count object (subst (λ os. Contains os object) r.are out) in
      let many : length e.outputs ≡ r.count =
      ap length r.are ∙ length-numbers_from (length known.names + outputs_in (take k list)) r.count in
      omega (arith, low.1, many)

  apart : (j k : ℕ) (d e : SupposedEntry) (object : ℕ) → j < k → slice_get list j ≡ Some d → slice_get list k ≡ Some e
      → Contains d.outputs object → Contains e.outputs object → ⊥
  apart j k d e object less at_j at_k out_d out_e =
      let there = get_and_take list j k d less at_j in
      let low = outputs_behind (take k list) j d there.0 in
      let same = ap outputs_in there.1 in
      omega (arith, low, same, own_before j d object at_j out_d, own_behind k e object at_k out_e)

  -- no object is an output of two entries
  pub one_owner : (j k : ℕ) (d e : SupposedEntry) (object : ℕ) → slice_get list j ≡ Some d → slice_get list k ≡ Some e
      → Contains d.outputs object → Contains e.outputs object → j ≡ k
  one_owner j k d e object at_j at_k out_d out_e =
      elim (cases_order j k) [
        | inl same ↦ same
        | inr (inl less) ↦ absurd (apart j k d e object less at_j at_k out_d out_e)
        | inr (inr more) ↦ absurd (apart k j e d object more at_k at_j out_e out_d)
      ]

-- ---- types

type_of_output : (domain : Domain) (sorts objects : List ℕ) (sort object : ℕ)
    → Contains (output_types domain sorts objects) (type_fact sort object) → Contains objects object
type_of_output domain [] objects sort object m = absurd (contains_none (type_fact sort object) m)
type_of_output domain (s ∷ ss) [] sort object m = absurd (contains_none (type_fact sort object) m)
type_of_output domain (s ∷ ss) (o ∷ os) sort object m =
    elim (Contains-append_cases (type_facts domain s o) (output_types domain ss os) (type_fact sort object) m) [
      | inl here ↦
          let r = from_mapped (λ n. type_fact n o) (sorts_with domain s) (type_fact sort object) here in
          let args : object ∷ [] ≡ o ∷ [] = ap (λ (f : Fact). f.args) r.2 in
          let same : object ≡ o = cc in
          (0, omega arith, sym same)
      | inr later ↦ contains_later o os object (type_of_output domain ss os sort object later)
    ]

module _ (task : Task) where
  type_of_entry : (e : SupposedEntry) (sort object : ℕ) → Contains (entry_facts task e) (type_fact sort object) → Contains e.outputs object
  type_of_entry e sort object m = by (slice_get task.streams e.instance.stream) refl
    where
      by : (o : Option Stream) → slice_get task.streams e.instance.stream ≡ o → Contains e.outputs object
      by None at =
          let none : Contains [] (type_fact sort object) = rw at at m in absurd (contains_none (type_fact sort object) none)
      by (Some s) at =
          let here : Contains (certified_by task.domain s e.instance.inputs e.outputs) (type_fact sort object) = rw at at m in
          elim (Contains-append_cases (output_types task.domain s.outputs e.outputs)
          (map (fact_of (slots_of (e.instance.inputs ++ e.outputs))) s.certified) (type_fact sort object) here) [
            | inl typed ↦ type_of_output task.domain s.outputs e.outputs sort object typed
            | inr atom ↦
                let r = from_mapped (fact_of (slots_of (e.instance.inputs ++ e.outputs))) s.certified (type_fact sort object) atom in
                let kind = ap (λ (f : Fact). f.kind) r.2 in
                absurd (cc)
          ]

  module _ (known : Known) (coherent : IsCoherent known) (list : List SupposedEntry)
      (fresh : (k : ℕ) (e : SupposedEntry) → slice_get list k ≡ Some e → HasFreshOutputs task known (take k list) e) where
    typed_below : (sort object : ℕ) → Contains known.facts (type_fact sort object) → object < length known.names
    typed_below sort object m =
        below_names known.names object
        (All-contains (λ (f : Fact). All (IsIn known.names) f.args) known.facts (type_fact sort object) coherent.objects m 0 object
        (omega arith))

    -- with which a type of an output is known, among those is an entry that has it
    pub owner_there : (kept : List SupposedEntry) (sort object : ℕ) → has_type (supposing task known list kept) object sort ≡ true
        → (k : ℕ) (e : SupposedEntry) → slice_get list k ≡ Some e → Contains e.outputs object
        → (d : SupposedEntry) × Contains kept d × Contains d.outputs object
    owner_there kept sort object typed k e at out =
        let more = flat_map (entry_facts task) kept in
        let now = supposing task known list kept in
        let m = (fact_member now.facts (type_fact sort object)).0 typed in
        elim (Contains-append_cases known.facts more (type_fact sort object)
        (((with_facts-is known.facts more).members (type_fact sort object)).0 m)) [
          | inl before ↦
              absurd (omega (arith, typed_below sort object before, own_behind task known list fresh k e object at out))
          | inr certified ↦
              let r = from_flat_map (entry_facts task) kept (type_fact sort object) certified in
              (r.0, r.1, type_of_entry r.0 sort object r.2)
        ]
