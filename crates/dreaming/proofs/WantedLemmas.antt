-- What a plan can't do without.
use Rattle.std.proofs.Common.{◌≡◌, ℕ, zero, suc, ◌⊎◌, inl, inr, Bool, true, false, List, [], ◌∷◌, take, set, replicate, get_or, refl, sym, ap, subst, Some, slice_get, Contains}
use Rattle.std.specs.Cmp.{first_so, second_so}
use Rattle.std.specs.List.{flat_map}
use Rattle.turn_laws.proofs.DreamFreshLemmas.{one_owner, owner_there}
use Rattle.turn_laws.proofs.DreamSupportLemmas.{stream_of}
use Rattle.lemmas.proofs.Ascending.{contains_none, contains_cases, from_flat_map}
use Rattle.lemmas.proofs.Members.{from_take, member_at, place_of}
use Rattle.optimistic_set.specs.Dreamable.{Dreamable}
use Rattle.task_model.specs.Dreams.{SupposedEntry, supposing}
use Rattle.task_model.specs.Known.{Known, IsCoherent}
use Rattle.task_model.specs.Plans.{Executes}
use Rattle.task_model.specs.State.{Atoms}
use Rattle.task_model.specs.Steps.{IsStep}
use Rattle.task_model.specs.Truth.{has_type, have_types}
use Rattle.task_model.specs.declared.task.GroundAction.{GroundAction}
use Rattle.task_model.specs.declared.task.Task.{Task}
use Rattle.dreaming.proofs.PlacesLemmas.{from_entries, in_entries}
use Rattle.dreaming.specs.Parts.{entries_at, IsListed}
use Rattle.dreaming.specs.Thinning.{IsEssential}

-- ---- marks

pub none_marked : (n object : ℕ) → ¬ (get_or (replicate n false) object false ≡ true)
none_marked zero object e = absurd (cc)
none_marked (suc n) zero e = absurd (cc)
none_marked (suc n) (suc object) e = none_marked n object e

-- what is marked where one more is
pub marked_then : (marks : List Bool) (place object : ℕ) → get_or (set marks place true) object false ≡ true
    → (get_or marks object false ≡ true) ⊎ (place ≡ object)
marked_then [] zero object e = inl e
marked_then [] (suc place) object e = inl e
marked_then (m ∷ ms) zero zero e = inr refl
marked_then (m ∷ ms) zero (suc object) e = inl e
marked_then (m ∷ ms) (suc place) zero e = inl e
marked_then (m ∷ ms) (suc place) (suc object) e =
    elim (marked_then ms place object e) [ inl old ↦ inl old | inr same ↦ inr (ap suc same) ]

-- ---- types of arguments

module _ (known : Known) where
  has_sort : (objects sorts : List ℕ) → have_types known objects sorts ≡ true → (object : ℕ) → Contains objects object
      → (sort : ℕ) × (has_type known object sort ≡ true)
  has_sort [] sorts e object m = absurd (contains_none object m)
  has_sort (o ∷ os) [] e object m = absurd (cc)
  has_sort (o ∷ os) (s ∷ ss) e object m =
      elim (contains_cases o os object m) [
        | inl here ↦ (s, subst (λ x. has_type known x s ≡ true) here (first_so (has_type known o s) (have_types known os ss) e))
        | inr later ↦ has_sort os ss (second_so (has_type known o s) (have_types known os ss) e) object later
      ]

  step_sort : (task : Task) (before after : Atoms) (steps : List GroundAction) (total : ℕ)
      → Executes task known before steps after total → (step : GroundAction) → Contains steps step → (object : ℕ)
      → Contains step.args object → (sort : ℕ) × (has_type known object sort ≡ true)
  step_sort task before after [] total e step m object arg = absurd (contains_none step m)
  step_sort task before after (s ∷ ss) total e step m object arg =
      let one : IsStep task known before s e.0 e.1 = e.3 in
      elim (contains_cases s ss step m) [
        | inl here ↦
            has_sort s.args one.action.params one.typed object
            (subst (λ (x : GroundAction). Contains x.args object) (sym here) arg)
        | inr later ↦ step_sort task e.0 after ss e.2 e.4 step later object arg
      ]

-- ---- what can't be left out

module _ (task : Task) (d : Dreamable) (h : IsListed task d) (coherent : IsCoherent d.base) where
  -- the place of an entry whose output has a type that is known with some of those at the places
  its_place : (places : List ℕ) (kept : List SupposedEntry)
      → ((x : SupposedEntry) → Contains kept x → Contains (entries_at d.list places) x) → (object sort : ℕ)
      → has_type (supposing task d.base d.list kept) object sort ≡ true → (place : ℕ) (e : SupposedEntry)
      → slice_get d.list place ≡ Some e → Contains e.outputs object → Contains places place
  its_place places kept within object sort typed place e at out =
      let owner = owner_there task d.base coherent d.list h.fresh kept sort object typed place e at out in
      let there = from_entries d.list places owner.0 (within owner.0 owner.1) in
      subst (Contains places)
      (one_owner task d.base d.list h.fresh there.0 place owner.0 e object there.2 at owner.2 out) there.1

  module _ (steps : List GroundAction) where
    -- the entry of an object of a step
    pub step_essential : (object : ℕ) → Contains (flat_map (λ (s : GroundAction). s.args) steps) object → (place : ℕ) (e : SupposedEntry)
        → slice_get d.list place ≡ Some e → Contains e.outputs object → IsEssential task d steps place
    step_essential object m place e at out places cost below support valid =
        let r = from_flat_map (λ (s : GroundAction). s.args) steps object m in
        let t = step_sort (supposing task d.base d.list (entries_at d.list places)) task _ valid.0 steps cost valid.1 r.0 r.1 object r.2 in
        its_place places (entries_at d.list places) (λ x c. c) object t.0 t.1 place e at out

    -- the entry of an input of one that can't be left out
    pub input_essential : (user : ℕ) (u : SupposedEntry) → slice_get d.list user ≡ Some u → IsEssential task d steps user → (object : ℕ)
        → Contains u.instance.inputs object → (place : ℕ) (e : SupposedEntry) → slice_get d.list place ≡ Some e
        → Contains e.outputs object → IsEssential task d steps place
    input_essential user u at_user essential object input place e at out places cost below support valid =
        let kept = entries_at d.list places in
        let there = place_of kept u (in_entries d.list places user u (essential places cost below support valid) at_user) in
        let s = stream_of task d.base d.list (take there.0 kept) u (support there.0 u there.1) in
        let now = supposing task d.base d.list (take there.0 kept) in
        let t = has_sort now u.instance.inputs s.stream.inputs (first_so (have_types now u.instance.inputs s.stream.inputs) _ s.reached)
        object input in
        its_place places (take there.0 kept) (front kept there.0) object t.0 t.1 place e at out
      where
        front : (xs : List SupposedEntry) (n : ℕ) (x : SupposedEntry) → Contains (take n xs) x → Contains xs x
        front xs n x c =
            let p = place_of (take n xs) x c in member_at xs p.0 x (from_take xs n p.0 x p.1).1
