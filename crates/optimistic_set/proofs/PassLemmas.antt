-- A pass over all streams, and passes one after another.
use Rattle.std.proofs.Common.{◌≡◌, ℕ, zero, suc, ◌+◌, ◌-◌, ◌<◌, ◌≤◌, arith, false, not, ◌&&◌, List, [], ◌∷◌, ◌++◌, length, take, get_or, refl, sym, ap, subst, ◌∙◌, inl, inr, Some, slice_get, Contains, append_assoc}
use Rattle.std.proofs.lemmas.Bool.{and_from, not-true}
use Rattle.std.proofs.lemmas.List.{append-nil, map-append, take_more, take-append-le}
use Rattle.std.specs.Cmp.{first_so, second_so}
use Rattle.std.specs.List.{list_any}
use Rattle.fact_join.specs.Adding.{Exceeds, ComesOf as Lacks}
use Rattle.fact_join.specs.declared.query.JoinFault.{JoinFault}
use Rattle.fact_join.specs.declared.query.JoinFault.TheVariants as join
use Rattle.instance_search.proofs.InstanceOrderLemmas.{reachable_in}
use Rattle.instance_search.specs.Found.{Seeks, IsFound, AreFound}
use Rattle.lemmas.proofs.Members.{push_cases, member_at, take_append}
use Rattle.lemmas.specs.Lists.{AreAscending}
use Rattle.task_model.proofs.TruthLemmas.{have_types-length}
use Rattle.task_model.specs.Dreams.{SupposedEntry, instances_of, supposing, HasFreshOutputs, IsPass, AreSupposed}
use Rattle.task_model.specs.Known.{Known, IsCoherent}
use Rattle.task_model.specs.Streams.{Note, IsDue, is_finished, same_instance, instance_cmp}
use Rattle.task_model.specs.Truth.{have_types}
use Rattle.task_model.specs.declared.stream.Instance.{Instance}
use Rattle.task_model.specs.declared.task.Task.{Task}
use Rattle.optimistic_set.specs.Drafts.{ArePlainInstances, IsPushed, AddsEntries, LacksPass, seeks_new}
use Rattle.optimistic_set.specs.Faults.{HasListCause, optimistic_fault}
use Rattle.optimistic_set.specs.declared.fault.OptimisticFault.{OptimisticFault}
use Rattle.optimistic_set.specs.declared.fault.OptimisticFault.TheVariants as fault

-- ---- entries of instances, one after another

pub adds_none : (task : Task) (known : Known) (old : List SupposedEntry) → AddsEntries task known old old []
adds_none task known old = record {
  more = [];
  added = sym (append-nil old);
  same = refl;
  fresh = λ k e at. absurd (nothing k e at);
}
  where
    nothing : (k : ℕ) (e : SupposedEntry) → slice_get [] k ≡ Some e → ⊥
    nothing k e at = absurd (cc)

pub adds_more : (task : Task) (known : Known) (old mid new : List SupposedEntry) (instances : List Instance) (i : ℕ) (instance : Instance)
    → i < length instances → instance ≡ get_or instances i instance
    → AddsEntries task known old mid (take i instances) → IsPushed task known instance mid new
    → AddsEntries task known old new (take (i + 1) instances)
adds_more task known old mid new instances i instance lt is so_far (e, pushed, of, fresh) =
    let behind : so_far.more ++ e ∷ [] ≡ so_far.more ++ e ∷ [] = refl in
    record {
      more = so_far.more ++ e ∷ [];
      added = pushed ∙ ap (λ es. es ++ e ∷ []) so_far.added ∙ append_assoc old so_far.more (e ∷ []);
      same = map-append (λ (x : SupposedEntry). x.instance) so_far.more (e ∷ [])
          ∙ (λ k. so_far.same k ++ of k ∷ [])
          ∙ sym (take_more instances i instance lt ∙ ap (λ x. take i instances ++ x ∷ []) (sym is));
      fresh = λ k x at. elim (push_cases so_far.more e k x at) [
        | inl before ↦
            subst (λ es. HasFreshOutputs task known (old ++ es) x)
            (sym (take-append-le k so_far.more (e ∷ []) (within so_far.more k x before))) (so_far.fresh k x before)
        | inr here ↦
            subst (λ es. HasFreshOutputs task known es x)
            (so_far.added ∙ ap (λ es. old ++ es) (sym (ap (λ n. take n (so_far.more ++ e ∷ [])) here.0 ∙ take_append so_far.more (e ∷ []))))
            (subst (HasFreshOutputs task known mid) (sym here.1) fresh)
      ];
    }
  where
    within : (xs : List SupposedEntry) (k : ℕ) (x : SupposedEntry) → slice_get xs k ≡ Some x → k ≤ length xs
    within [] k x at = absurd (cc)
    within (y ∷ ys) zero x at = omega arith
    within (y ∷ ys) (suc k) x at = omega (arith, within ys k x at)

-- ---- what a pass finds

module _ (task : Task) (known : Known) (notes : List Note) (tried : List Instance) (old : List SupposedEntry) where
  abbrev there : Known
  there = supposing task known old old

  abbrev seeks : Seeks
  seeks = seeks_new notes tried (instances_of old)

  found_is_due : (i : Instance) → IsFound task there seeks i
      → IsDue task there notes i × (list_any (same_instance i) tried ≡ false) × (list_any (same_instance i) (instances_of old) ≡ false)
  found_is_due i f =
      let a = not (is_finished f.stream notes i) in
      let b = not (list_any (same_instance i) tried) in
      let c = not (list_any (same_instance i) (instances_of old)) in
      let rest = second_so a (b && c) f.sought in (
        record {
          stream = f.stream;
          named = f.named;
          reachable = f.reachable;
          unfinished = not-true (is_finished f.stream notes i) (first_so a (b && c) f.sought);
        },
        not-true (list_any (same_instance i) tried) (first_so b c rest),
        not-true (list_any (same_instance i) (instances_of old)) (second_so b c rest),
      )

  due_is_found : (i : Instance) → IsDue task there notes i → list_any (same_instance i) tried ≡ false
      → list_any (same_instance i) (instances_of old) ≡ false → IsFound task there seeks i
  due_is_found i d untried absent = record {
    stream = d.stream;
    named = d.named;
    reachable = d.reachable;
    sought = and_from _ _ (ap not d.unfinished) (and_from _ _ (ap not untried) (ap not absent));
  }

  pub pass_is : (new : List SupposedEntry) (instances : List Instance) → AreFound task there seeks instances
      → AddsEntries task known old new instances → IsPass task known notes tried old new
  pass_is new instances found adds = record {
    more = adds.more;
    added = adds.added;
    each = λ i. (
      λ m. found_is_due i ((found.each i).0 (subst (λ is. Contains is i) adds.same m)),
      λ d. subst (λ is. Contains is i) (sym adds.same) ((found.each i).1 (due_is_found i d.0 d.1 d.2)),
    );
    ascend = subst (λ is. AreAscending (instance_cmp there.names) is) (sym adds.same) found.ascend;
    fresh = adds.fresh;
  }

  -- the instances that are found have inputs with names
  pub found_plain : (instances : List Instance) → IsCoherent there → AreFound task there seeks instances
      → ArePlainInstances task there.names instances
  found_plain instances c found k i at =
      let f = (found.each i).0 (member_at instances k i at) in
      let types = first_so (have_types there i.inputs f.stream.inputs) _ f.reachable in
      record {
        stream = f.stream;
        named = f.named;
        inputs = have_types-length there i.inputs f.stream.inputs types;
        given = reachable_in f.stream there c i f.reachable;
      }

  pub too_many : (passes depth : ℕ) → passes < depth → AreSupposed task known notes tried passes old → length old ≤ 20000
      → (f : OptimisticFault) → LacksPass task known notes tried old f → HasListCause task known notes tried depth f
  too_many passes depth early supposed few fault.TooManyEntries (more, distinct, each, many) = record {
    passes = passes;
    early = early;
    list = old;
    supposed = supposed;
    next = more;
    distinct = distinct;
    due = λ i m. (found_is_due i (each i m)).0;
    new = λ i m. let d = found_is_due i (each i m) in (d.1, d.2);
    many = omega (arith, many, few);
  }
  too_many passes depth early supposed few fault.Memory h = tt

-- the faults of what is sought are those of the pass
pub pass_fault : (task : Task) (known : Known) (notes : List Note) (tried : List Instance) (old : List SupposedEntry) (asked : List Instance)
    (f : JoinFault) → asked ≡ instances_of old
    → Lacks (20000 - length old) (IsFound task (supposing task known old old) (seeks_new notes tried asked)) [] f
    → LacksPass task known notes tried old (optimistic_fault f)
pass_fault task known notes tried old asked join.TooMany same h =
    subst (λ a. Exceeds (20000 - length old) (IsFound task (supposing task known old old) (seeks_new notes tried a)) []) same h
pass_fault task known notes tried old asked join.Memory same h = tt

pub supposed_more : (task : Task) (known : Known) (notes : List Note) (tried : List Instance) (passes : ℕ) (old new : List SupposedEntry)
    → AreSupposed task known notes tried passes old → IsPass task known notes tried old new
    → AreSupposed task known notes tried (passes + 1) new
supposed_more task known notes tried passes old new so_far pass =
    let next : suc passes ≡ passes + 1 = omega arith in
    subst (λ n. AreSupposed task known notes tried n new) next (old, so_far, pass)
