-- The entries of a dream have instances of their own.
use Rattle.std.proofs.Common.{◌≡◌, ℕ, zero, suc, Bool, true, false, Contains, List, [], ◌∷◌, ◌||◌, map, Option, Some, None, slice_get, refl, sym, ap, subst, ◌∙◌, inl, inr}
use Rattle.std.proofs.lemmas.List.{map-append}
use Rattle.std.proofs.lemmas.Option.{slice_get-map}
use Rattle.std.specs.Option.{option_map}
use Rattle.std.specs.Ordering.{nat_cmp}
use Rattle.std.specs.Cmp.{nat_cmp_total}
use Rattle.std.specs.List.{list_any}
use Rattle.lemmas.proofs.Ascending.{contains_cases, contains_none}
use Rattle.lemmas.proofs.Bools.{not_both}
use Rattle.lemmas.proofs.Distinct.{ascending_distinct, distinct_append}
use Rattle.lemmas.proofs.Members.{distinct_nil}
use Rattle.lemmas.specs.Lists.{AreAscending, AreDistinct}
use Rattle.task_model.proofs.StreamsLemmas.{instance_itself, instances_total}
use Rattle.task_model.specs.Dreams as dreams
use Rattle.task_model.specs.Dreams.{AreSupposed, supposing}
use Rattle.task_model.specs.Known.{Known}
use Rattle.task_model.specs.Streams.{Note, instance_cmp, same_instance}
use Rattle.task_model.specs.declared.stream.Instance.{Instance}
use Rattle.task_model.specs.declared.task.Task.{Task}
use Rattle.transcript_model.specs.Dreaming.{IsDreamAfter}
use Rattle.transcript_model.specs.Rounds.{Limits}
use Rattle.transcript_model.specs.declared.entry.Call.{Call}
use Rattle.transcript_model.specs.declared.entry.DreamUse.{DreamUse}
use Rattle.transcript_model.specs.declared.entry.Entry.{Entry}

among : (i : Instance) (list : List Instance) → Contains list i → list_any (same_instance i) list ≡ true
among i [] m = absurd (contains_none i m)
among i (j ∷ js) m =
    elim (contains_cases j js i m) [
      | inl same ↦ subst (λ k. list_any (same_instance i) (k ∷ js) ≡ true) (sym same) (rw (instance_itself i) refl)
      | inr later ↦ behind (same_instance i j) (among i js later)
    ]
  where
    behind : (b : Bool) → list_any (same_instance i) js ≡ true → b || list_any (same_instance i) js ≡ true
    behind true e = refl
    behind false e = e

-- each instance has one entry in the list
pub supposed_distinct : (task : Task) (known : Known) (notes : List Note) (tried : List Instance) (passes : ℕ) (list : List dreams.SupposedEntry)
    → AreSupposed task known notes tried passes list → AreDistinct (dreams.instances_of list)
supposed_distinct task known notes tried zero list none = subst (λ l. AreDistinct (dreams.instances_of l)) (sym none) distinct_nil
supposed_distinct task known notes tried (suc passes) list (old, before, pass) =
    let names = (supposing task known old old).names in
    subst (λ l. AreDistinct (dreams.instances_of l)) (sym pass.added)
    (subst AreDistinct (sym (map-append (λ (e : dreams.SupposedEntry). e.instance) old pass.more))
    (distinct_append (dreams.instances_of old) (dreams.instances_of pass.more) (supposed_distinct task known notes tried passes old before)
    (ascending_distinct (instance_cmp names) (instances_total names) (dreams.instances_of pass.more) pass.ascend)
    (λ i there again. not_both (list_any (same_instance i) (dreams.instances_of old)) (among i (dreams.instances_of old) there)
    ((pass.each i).0 again).2)))

at_same : (places : List ℕ) (i p q : ℕ) → p ≡ q → slice_get places i ≡ Some p → slice_get places i ≡ Some q
at_same places i p q same at = at ∙ ap Some same

-- what is chosen of a list at ascending places
chosen_distinct : (list entries : List dreams.SupposedEntry) (places : List ℕ) → AreAscending nat_cmp places
    → map (slice_get list) places ≡ map Some entries → AreDistinct (dreams.instances_of list)
    → AreDistinct (dreams.instances_of entries)
chosen_distinct list entries places ascend chosen distinct i j x at_i at_j =
    let a = from i at_i in
    let b = from j at_j in
    let same : a.0 ≡ b.0 = distinct a.0 b.0 x a.1.1 b.1.1 in
    ascending_distinct nat_cmp nat_cmp_total places ascend i j b.0 (at_same places i a.0 b.0 same a.1.0) b.1.0
  where
    by : (p : Option ℕ) (e : Option dreams.SupposedEntry) → option_map (slice_get list) p ≡ option_map Some e
        → option_map (λ (y : dreams.SupposedEntry). y.instance) e ≡ Some x
        → (q : ℕ) × ((p ≡ Some q) × (option_map (λ (y : dreams.SupposedEntry). y.instance) (slice_get list q) ≡ Some x))
    by (Some q) (Some e) is has =
        (q, (refl, (let there : slice_get list q ≡ Some e = cc in ap (option_map (λ (y : dreams.SupposedEntry). y.instance)) there ∙ has)))
    by (Some q) None is has = absurd (cc)
    by None (Some e) is has = absurd (cc)
    by None None is has = absurd (cc)

    from : (k : ℕ) → slice_get (dreams.instances_of entries) k ≡ Some x
        → (q : ℕ) × ((slice_get places k ≡ Some q) × (slice_get (dreams.instances_of list) q ≡ Some x))
    from k at =
        let r = by (slice_get places k) (slice_get entries k)
        (sym (slice_get-map (slice_get list) places k) ∙ ap (λ os. slice_get os k) chosen ∙ slice_get-map Some entries k)
        (sym (slice_get-map (λ (y : dreams.SupposedEntry). y.instance) entries k) ∙ at) in
        (r.0, (r.1.0, slice_get-map (λ (y : dreams.SupposedEntry). y.instance) list r.0 ∙ r.1.1))

pub dream_distinct : (limits : Limits) (task : Task) (before : List Entry) (tried : List Instance)
    (uses : List DreamUse) (steps : List Call)
    (entries : List dreams.SupposedEntry) → IsDreamAfter limits task before tried uses steps entries
    → AreDistinct (dreams.instances_of entries)
dream_distinct limits task before tried uses steps entries d =
    chosen_distinct d.list entries d.dream.places d.dream.ascend d.dream.chosen
    (supposed_distinct task _ _ tried limits.depth d.list d.supposed)
