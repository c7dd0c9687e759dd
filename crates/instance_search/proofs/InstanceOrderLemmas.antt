-- The order of instances, and that what is sorted by it ascends.
use Rattle.std.proofs.Common.{◌≡◌, ℕ, length, subst, Bool, true, false, List, [], ◌∷◌, map, refl, sym, ap, ◌∙◌, Some, arith, Contains, All, eqb-true}
use Rattle.std.proofs.lemmas.List.Elements.{All-nil, All-cons, All-head, All-tail, All-contains}
use Rattle.std.proofs.lemmas.List.Sorted.{ranks_by, sorted_far}
use Rattle.std.proofs.lemmas.Option.{slice_get_within, get_or_from_slice_get}
use Rattle.std.specs.Cmp.{IsStrictWeakOrder, first_so, second_so, unsigned_ties}
use Rattle.std.specs.Cmp.Lexicographic.{slice_cmp, lists_ties, pointwise_decides}
use Rattle.std.specs.List.Sorted.{IsPermutation, IsSortedBy}
use Rattle.std.specs.Bool.{Decides}
use Rattle.std.proofs.lemmas.List.Sorted.{IsPermutation-sym, Contains-permutation}
use Rattle.fact_join.specs.Adding.{AreAll}
use Rattle.lemmas.proofs.Distinct.{distinct_permuted}
use Rattle.instance_search.proofs.FoundLemmas.{found_below}
use Rattle.instance_search.specs.Found.{Seeks, IsFound, AreFound, IsSoughtBelow}
use Rattle.std.specs.Ordering.{is_lt, is_eq, nat_cmp, ordering_reverse}
use Rattle.std.specs.declared.cmp.Ordering.{Ordering}
use Rattle.std.specs.declared.cmp.Ordering.TheVariants.{Less, Equal, Greater}
use Rattle.task_model.proofs.KnownLemmas.{numbers_decided, fact_member}
use Rattle.task_model.proofs.StreamsLemmas.{named_at, instances_total, instances_same, instance_itself}
use Rattle.lemmas.proofs.Members.{member_at}
use Rattle.lemmas.proofs.Bools.{not_both}
use Rattle.lemmas.proofs.Ascending.{then_equal}
use Rattle.task_model.specs.Known.{Known, IsCoherent, IsIn, type_fact}
use Rattle.lemmas.specs.Lists.{AreDistinct, AreAscending}
use Rattle.task_model.specs.Streams.{instance_cmp, name_at, is_reachable, same_instance}
use Rattle.task_model.specs.Truth.{have_types, has_type}
use Rattle.task_model.specs.declared.fact.Fact.{Fact}
use Rattle.task_model.specs.declared.stream.Instance.{Instance}
use Rattle.task_model.specs.declared.stream.Stream.{Stream}
use Rattle.task_model.specs.declared.task.Task.{Task}

-- ---- a total order

abbrev pub comes_before : List (List ℕ) → Instance → Instance → Bool
comes_before names x y = is_lt (instance_cmp names x y)

pub instances_ranked : (names : List (List ℕ)) → IsStrictWeakOrder (comes_before names)
instances_ranked names = ranks_by (instances_total names) (λ (i : Instance). i)

pub instance_decided : (a b : Instance) → Decides (same_instance a b) (a ≡ b)
instance_decided a b =
    (instances_same a b, λ e. subst (λ x. same_instance a x ≡ true) e (instance_itself a))

-- ---- equal in the order

numbers_tie : (x y : ℕ) → nat_cmp x y ≡ Equal → x ≡ y
numbers_tie x y e = eqb-true x y (unsigned_ties x y ∙ ap is_eq e)

texts_tie : (xs ys : List (List ℕ)) → slice_cmp (slice_cmp nat_cmp) xs ys ≡ Equal → xs ≡ ys
texts_tie xs ys e =
    (pointwise_decides numbers_decided xs ys).0 (lists_ties (slice_cmp nat_cmp) (lists_ties nat_cmp unsigned_ties) xs ys ∙ ap is_eq e)

-- ---- names tell objects apart

same_objects : (names : List (List ℕ)) → AreDistinct names → (xs ys : List ℕ) → All (IsIn names) xs
    → All (IsIn names) ys
    → map (name_at names) xs ≡ map (name_at names) ys → xs ≡ ys
same_objects names d [] [] h g e = refl
same_objects names d [] (y ∷ ys) h g e = absurd (cc)
same_objects names d (x ∷ xs) [] h g e = absurd (cc)
same_objects names d (x ∷ xs) (y ∷ ys) h g e =
    let first : name_at names x ≡ name_at names y = cc in
    let rest : map (name_at names) xs ≡ map (name_at names) ys = cc in
    let same : x ≡ y = d x y (name_at names y) (named_at names x (All-head (IsIn names) x xs h) ∙ ap Some first)
    (named_at names y (All-head (IsIn names) y ys g)) in
    λ i. same i ∷ same_objects names d xs ys (All-tail (IsIn names) x xs h) (All-tail (IsIn names) y ys g) rest i

one_in : (known : Known) → IsCoherent known → (object sort : ℕ) → has_type known object sort ≡ true
    → IsIn known.names object
one_in known c object sort e =
    All-head (IsIn known.names) object [] (All-contains (λ (f : Fact). All (IsIn known.names) f.args) known.facts (type_fact sort object)
    c.objects ((fact_member known.facts (type_fact sort object)).0 e))

-- objects with types have names
pub typed_in : (known : Known) → IsCoherent known → (objects sorts : List ℕ)
    → have_types known objects sorts ≡ true
    → All (IsIn known.names) objects
typed_in known c [] [] e = All-nil (IsIn known.names)
typed_in known c [] (s ∷ ss) e = absurd (cc)
typed_in known c (o ∷ os) [] e = absurd (cc)
typed_in known c (o ∷ os) (s ∷ ss) e = All-cons (IsIn known.names) o os
    (one_in known c o s (first_so (has_type known o s) (have_types known os ss) e))
    (typed_in known c os ss (second_so (has_type known o s) (have_types known os ss) e))

-- so have the inputs of an instance that is reachable
pub reachable_in : (stream : Stream) (known : Known) → IsCoherent known → (i : Instance)
    → is_reachable stream known i ≡ true → All (IsIn known.names) i.inputs
reachable_in stream known c i e =
    typed_in known c i.inputs stream.inputs (first_so (have_types known i.inputs stream.inputs) _ e)

pub same_instances : (names : List (List ℕ)) → AreDistinct names → (a b : Instance)
    → All (IsIn names) a.inputs → All (IsIn names) b.inputs → instance_cmp names a b ≡ Equal → a ≡ b
same_instances names distinct a b in_a in_b e =
    let both = then_equal (nat_cmp a.stream b.stream)
    (slice_cmp (slice_cmp nat_cmp) (map (name_at names) a.inputs) (map (name_at names) b.inputs)) e in
    let inputs = same_objects names distinct a.inputs b.inputs in_a in_b (texts_tie _ _ both.1) in
    λ i. record { stream = numbers_tie a.stream b.stream both.0 i; inputs = inputs i }

-- ---- sorted instances ascend

pub ascending : (names : List (List ℕ)) → AreDistinct names → (ys : List Instance)
    → ((i : Instance) → Contains ys i → All (IsIn names) i.inputs) → AreDistinct ys
    → IsSortedBy (comes_before names) ys → AreAscending (instance_cmp names) ys
ascending names named ys are_in d up i j a b below at_i at_j =
    let far = sorted_far (comes_before names) (instances_ranked names) ys up i j a (omega (arith, below))
    (slice_get_within ys j b at_j) in
    let not_back : is_lt (instance_cmp names b a) ≡ false =
    (λ k. comes_before names (sym (get_or_from_slice_get ys j b a at_j) k) (sym (get_or_from_slice_get ys i a a at_i) k))
    ∙ far in
    by (instance_cmp names a b) refl not_back
  where
    by : (o : Ordering) → instance_cmp names a b ≡ o
        → is_lt (instance_cmp names b a) ≡ false
        → instance_cmp names a b ≡ Less
    by Less e not_back = e
    by Equal e not_back =
        let same : a ≡ b = same_instances names named a b (are_in a (member_at ys i a at_i)) (are_in b (member_at ys j b at_j)) e in
        let place : i ≡ j = d i j b (at_i ∙ ap Some same) at_j in
        absurd (omega (arith, below, place))
    by Greater e not_back =
        let back : instance_cmp names b a ≡ Less = (instances_total names).antisymm b a ∙ ap ordering_reverse e in
        absurd (not_both (is_lt (instance_cmp names b a)) (ap is_lt back) not_back)

-- what is found, sorted, is in the order of asks
pub found_sorted : (task : Task) (known : Known) (seeks : Seeks) → IsCoherent known → (xs ys : List Instance)
    → AreAll (IsSoughtBelow task.streams known seeks (length task.streams)) xs
    → IsPermutation xs ys → IsSortedBy (comes_before known.names) ys
    → AreFound task known seeks ys
found_sorted task known seeks c xs ys all moved up =
    let back : IsPermutation ys xs = IsPermutation-sym xs ys moved in
    let found : (i : Instance) → Contains ys i → IsFound task known seeks i =
    λ i m. (found_below task known seeks i).0 ((all.each i).0 (Contains-permutation ys xs i back m)) in
    record {
      each = λ i. (
        found i,
        λ f. Contains-permutation xs ys i moved ((all.each i).1 ((found_below task known seeks i).1 f)),
      );
      ascend = ascending known.names c.names ys (λ i m. let f = found i m in reachable_in f.stream known c i f.reachable)
          (distinct_permuted same_instance instance_decided xs ys moved all.distinct) up;
    }
