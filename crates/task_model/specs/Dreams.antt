-- What is supposed of streams that haven't answered, and the plans that rest on it (PDDLStream 2020; how
-- entries are found and what a dream leaves out are this project's).
use Rattle.std.specs.Prelude.{◌≡◌, ℕ, zero, suc, ◌+◌, ◌<◌, ◌≤◌, ◌⊎◌, ◌↔◌, List, [], ◌∷◌, ◌++◌, map, length, take, drop, sum_by, Bool, true, false, Some, slice_get, Contains, if◌then◌else◌}
use Rattle.std.specs.Fmt.{decimal}
use Rattle.std.specs.List.{list_any, flat_map}
use Rattle.std.specs.Ordering.{nat_cmp}
use Rattle.task_model.specs.Known.{Known, with_facts, with_values}
use Rattle.lemmas.specs.Lists.{AreAscending, numbers_from}
use Rattle.task_model.specs.Plans.{IsValid, IsSolvable, IsReached, MoreThan}
use Rattle.task_model.specs.Streams.{Note, IsDue, at_stream, instance_cmp, same_instance, certified_by, worth_by, is_reachable}
use Rattle.task_model.specs.declared.fact.Fact.{Fact}
use Rattle.task_model.specs.declared.limits.TheConstants.{MOST_SUPPOSED}
use Rattle.task_model.specs.declared.stream.Instance.{Instance}
use Rattle.task_model.specs.declared.task.GroundAction.{GroundAction}
use Rattle.task_model.specs.declared.task.Task.{Task}
use Rattle.task_model.specs.declared.task.Valued.{Valued}

-- ---- entries

-- an instance that is supposed to answer, with the placeholder objects that stand for its outputs
pub record SupposedEntry : Type 0 where
  pub instance : Instance
  pub outputs : List ℕ

-- an entry certifies what a yield of its outputs would
abbrev pub entry_facts : Task → SupposedEntry → List Fact
entry_facts task entry =
    at_stream task entry.instance.stream []
    (λ stream. certified_by task.domain stream entry.instance.inputs entry.outputs)

-- an entry of a cost stream gives its term the value 0
abbrev pub entry_values : Task → SupposedEntry → List Valued
entry_values task entry =
    at_stream task entry.instance.stream [] (λ stream. worth_by stream entry.instance.inputs 0)

-- ---- placeholders

-- the name of the i-th output of the j-th entry: `@j.i`
abbrev pub placeholder : ℕ → ℕ → List ℕ
placeholder j i = 64 ∷ decimal j ++ 46 ∷ decimal i

-- the names of so many outputs of the j-th entry, from the i-th on
abbrev pub placeholders : ℕ → ℕ → ℕ → List (List ℕ)
placeholders j i zero = []
placeholders j i (suc n) = placeholder j i ∷ placeholders j (i + 1) n

-- the names of the outputs of entries, the first of which is the j-th
abbrev pub entry_names : ℕ → List SupposedEntry → List (List ℕ)
entry_names j [] = []
entry_names j (entry ∷ entries) =
    placeholders j 1 (length entry.outputs) ++ entry_names (j + 1) entries

-- The outputs are objects of their own: those after the table of names and the earlier entries' outputs.
abbrev pub HasFreshOutputs : Task → Known → List SupposedEntry → SupposedEntry → Type 0
HasFreshOutputs task known before entry =
    let first = length known.names + sum_by (λ (e : SupposedEntry). length e.outputs) before in
    entry.outputs ≡ at_stream task entry.instance.stream [] (λ stream. numbers_from first (length stream.outputs))

-- What is known where some entries of the list are supposed besides. The whole list's placeholders have names.
abbrev pub supposing : Task → Known → List SupposedEntry → List SupposedEntry → Known
supposing task known list entries =
    record {
      names = known.names ++ entry_names 1 list;
      facts = with_facts known.facts (flat_map (entry_facts task) entries);
      values = with_values known.values (flat_map (entry_values task) entries);
    }

-- ---- the list of entries

-- the instances that entries suppose
abbrev pub instances_of : List SupposedEntry → List Instance
instances_of entries = map (λ (e : SupposedEntry). e.instance) entries

-- One pass: behind the list as it stood come, in the order of asks, the instances that are due by it,
-- have no entry in it and weren't tried.
pub record IsPass (task : Task) (known : Known) (notes : List Note) (tried : List Instance)
    (old new : List SupposedEntry) : Type 0 where
  pub more : List SupposedEntry
  pub added : new ≡ old ++ more
  pub each : (i : Instance)
      → Contains (instances_of more) i
      ↔ (IsDue task (supposing task known old old) notes i × (list_any (same_instance i) tried ≡ false)
      × (list_any (same_instance i) (instances_of old) ≡ false))
  pub ascend : AreAscending (instance_cmp (supposing task known old old).names) (instances_of more)
  pub fresh : (k : ℕ) (e : SupposedEntry) → slice_get more k ≡ Some e
      → HasFreshOutputs task known (old ++ take k more) e

-- the list after so many passes, from the empty list
abbrev pub AreSupposed : Task → Known → List Note → List Instance → ℕ → List SupposedEntry → Type 0
AreSupposed task known notes tried zero entries = entries ≡ []
AreSupposed task known notes tried (suc passes) entries =
    (old : List SupposedEntry) × AreSupposed task known notes tried passes old × IsPass task known notes tried old entries

-- ---- dreams

module _ (task : Task) (known : Known) (list : List SupposedEntry) where
  -- its inputs' types and its domain facts are known, or certified by the entries before it
  abbrev pub is_supported : List SupposedEntry → SupposedEntry → Bool
  is_supported before entry =
      at_stream task entry.instance.stream false
      (λ stream. is_reachable stream (supposing task known list before) entry.instance)

  -- each entry has support among those before it
  abbrev pub HaveSupport : List SupposedEntry → Type 0
  HaveSupport entries =
      (k : ℕ) (e : SupposedEntry) → slice_get entries k ≡ Some e → is_supported (take k entries) e ≡ true

  -- the kept entries, and then those of the rest that still have support behind what is kept
  abbrev pub supported_after : List SupposedEntry → List SupposedEntry → List SupposedEntry
  supported_after kept [] = kept
  supported_after kept (e ∷ rest) =
      if is_supported kept e then supported_after (kept ++ e ∷ []) rest else supported_after kept rest

  -- without the entry at this place, and without those that then lack support
  abbrev pub without_entry : List SupposedEntry → ℕ → List SupposedEntry
  without_entry entries place = supported_after (take place entries) (drop (place + 1) entries)

  -- Some entries of the list, in its order, and a plan over what is known with them: each entry has
  -- support, and with any one left out the plan isn't valid.
  pub record IsDream (entries : List SupposedEntry) (steps : List GroundAction) : Type 0 where
    pub few : length list ≤ MOST_SUPPOSED
    pub some : 0 < length entries
    pub places : List ℕ
    pub ascend : AreAscending nat_cmp places
    pub chosen : map (slice_get list) places ≡ map Some entries
    pub support : HaveSupport entries
    pub cost : ℕ
    pub valid : IsValid task (supposing task known list entries) steps cost
    pub needed : (place other : ℕ) → place < length entries
        → ¬ (IsValid task (supposing task known list (without_entry entries place)) steps other)

  -- No plan rests on the list: none exists over all of it, or it is too long, or more than so many states are reached
  -- over it.
  abbrev pub HasNoDream : ℕ → Type 0
  HasNoDream most =
      (¬ (IsSolvable task (supposing task known list list)))
      ⊎ ((MOST_SUPPOSED < length list) ⊎ MoreThan most (IsReached task (supposing task known list list)))
