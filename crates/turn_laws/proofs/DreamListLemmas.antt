-- Lists of supposed entries: there is one after so many passes, and each of its entries has support.
use Rattle.std.proofs.Common.{◌≡◌, ℕ, zero, suc, ◌+◌, ◌<◌, ◌≤◌, inl, inr, arith, true, false, List, [], ◌∷◌, ◌++◌, length, take, sum_by, refl, sym, ap, subst, ◌∙◌, Some, slice_get, Contains, append_assoc}
use Rattle.std.proofs.Math.Nat.{le-suc_iff}
use Rattle.std.proofs.Math.Seq.{take-append-add}
use Rattle.std.proofs.lemmas.List.{append-nil, length-append, length-map, take-append-le}
use Rattle.std.proofs.lemmas.Option.{slice_get_within}
use Rattle.lemmas.proofs.Ascending.{same_list}
use Rattle.lemmas.proofs.Distinct.{in_mapped}
use Rattle.lemmas.proofs.Members.{append_cases, member_at}
use Rattle.lemmas.proofs.Pigeonhole.{pigeons}
use Rattle.task_model.proofs.StreamsLemmas.{instances_total}
use Rattle.task_model.specs.Dreams.{SupposedEntry, instances_of, supposing, HasFreshOutputs, IsPass, AreSupposed, is_supported, HaveSupport}
use Rattle.task_model.specs.Known.{Known}
use Rattle.task_model.specs.Streams.{Note, IsDue, at_stream, instance_cmp, same_instance, is_finished}
use Rattle.task_model.specs.declared.stream.Instance.{Instance}
use Rattle.task_model.specs.declared.stream.Stream.{Stream}
use Rattle.task_model.specs.declared.task.Task.{Task}
use Rattle.transcript_model.specs.Dreaming.{MoreAreSupposed}
use Rattle.lemmas.specs.Lists.{numbers_from}
use Rattle.std.specs.List.{list_any}
use Rattle.turn_laws.proofs.DreamSupportLemmas.{supported_later, support_stays}

-- ---- fronts of what was added to

pub added_front : (list old more : List SupposedEntry) → list ≡ old ++ more → (n : ℕ) → n ≤ length old → take n list ≡ take n old
added_front list old more added n few = ap (take n) added ∙ take-append-le n old more few

pub added_behind : (list old more : List SupposedEntry) → list ≡ old ++ more → (k j : ℕ) → k ≡ length old + j
    → take k list ≡ old ++ take j more
added_behind list old more added k j is =
    ap (take k) added ∙ ap (λ n. take n (old ++ more)) is ∙ take-append-add old more j

module _ (task : Task) (known : Known) where
  abbrev AreFresh : List SupposedEntry → List SupposedEntry → Type 0
  AreFresh old more = (k : ℕ) (e : SupposedEntry) → slice_get more k ≡ Some e → HasFreshOutputs task known (old ++ take k more) e

  -- ---- entries are their instances

  head_fresh : (old more : List SupposedEntry) (x : SupposedEntry) → AreFresh old (x ∷ more) → HasFreshOutputs task known old x
  head_fresh old more x fresh = subst (λ es. HasFreshOutputs task known es x) (append-nil old) (fresh 0 x refl)

  tail_fresh : (old more : List SupposedEntry) (x : SupposedEntry) → AreFresh old (x ∷ more) → AreFresh (old ++ x ∷ []) more
  tail_fresh old more x fresh k e at =
      subst (λ es. HasFreshOutputs task known es e) (sym (append_assoc old (x ∷ []) (take k more))) (fresh (suc k) e at)

  same_entry : (old : List SupposedEntry) (x y : SupposedEntry) → x.instance ≡ y.instance → HasFreshOutputs task known old x
      → HasFreshOutputs task known old y → x ≡ y
  same_entry old x y same first second =
      let outputs : x.outputs ≡ y.outputs =
      first
      ∙ ap (λ (i : Instance). at_stream task i.stream [] (λ stream.
      numbers_from (length known.names + sum_by (λ (e : SupposedEntry). length e.outputs) old) (length stream.outputs))) same
      ∙ sym second in
      λ i. record { instance = same i; outputs = outputs i }

  same_entries : (old xs ys : List SupposedEntry) → instances_of xs ≡ instances_of ys → AreFresh old xs → AreFresh old ys → xs ≡ ys
  same_entries old [] [] same first second = refl
  same_entries old [] (y ∷ ys) same first second = absurd (cc)
  same_entries old (x ∷ xs) [] same first second = absurd (cc)
  same_entries old (x ∷ xs) (y ∷ ys) same first second =
      let head : x.instance ≡ y.instance = cc in
      let rest : instances_of xs ≡ instances_of ys = cc in
      let one = same_entry old x y head (head_fresh old xs x first) (head_fresh old ys y second) in
      let others = same_entries (old ++ x ∷ []) xs ys rest (tail_fresh old xs x first)
      (subst (λ z. AreFresh (old ++ z ∷ []) ys) (sym one) (tail_fresh old ys y second)) in
      λ i. one i ∷ others i

  module _ (notes : List Note) (tried : List Instance) where
    -- ---- one list

    pass_once : (old xs ys : List SupposedEntry) → IsPass task known notes tried old xs → IsPass task known notes tried old ys → xs ≡ ys
    pass_once old xs ys first second =
        let names = (supposing task known old old).names in
        let same = same_list (instance_cmp names) (instances_total names) (instances_of first.more) (instances_of second.more)
        first.ascend second.ascend (λ i m. (second.each i).1 ((first.each i).0 m)) (λ i m. (first.each i).1 ((second.each i).0 m)) in
        first.added ∙ ap (λ es. old ++ es) (same_entries old first.more second.more same first.fresh second.fresh) ∙ sym second.added

    pub supposed_once : (depth : ℕ) (xs ys : List SupposedEntry) → AreSupposed task known notes tried depth xs
        → AreSupposed task known notes tried depth ys → xs ≡ ys
    supposed_once zero xs ys first second = first ∙ sym second
    supposed_once (suc depth) xs ys (old, so_far, pass) (other, likewise, again) =
        let same = supposed_once depth old other so_far likewise in
        pass_once old xs ys pass (subst (λ es. IsPass task known notes tried es ys) (sym same) again)

    -- ---- what comes of more

    -- the list after fewer passes is a front of the list
    pub record HasFront (passes : ℕ) (list : List SupposedEntry) : Type 0 where
      pub front : List SupposedEntry
      pub supposed : AreSupposed task known notes tried passes front
      pub rest : List SupposedEntry
      pub added : list ≡ front ++ rest

    pub front_after : (depth passes : ℕ) (list : List SupposedEntry) → passes ≤ depth → AreSupposed task known notes tried depth list
        → HasFront passes list
    front_after zero passes list few so =
        let none : 0 ≡ passes = omega (arith, few) in
        record {
          front = list;
          supposed = subst (λ n. AreSupposed task known notes tried n list) none so;
          rest = [];
          added = sym (append-nil list);
        }
    front_after (suc depth) passes list few (old, so_far, pass) =
        elim (le-suc_iff.0 few) [
          | inl fewer ↦
              let h = front_after depth passes old fewer so_far in
              record {
                front = h.front;
                supposed = h.supposed;
                rest = h.rest ++ pass.more;
                added = pass.added ∙ ap (λ es. es ++ pass.more) h.added ∙ append_assoc h.front h.rest pass.more;
              }
          | inr all ↦ record {
            front = list;
            supposed = subst (λ n. AreSupposed task known notes tried n list) (sym all) (old, so_far, pass);
            rest = [];
            added = sym (append-nil list);
          }
        ]

    pub more_come : (most depth : ℕ) (list : List SupposedEntry) → MoreAreSupposed most task known notes tried depth
        → AreSupposed task known notes tried depth list → most < length list
    more_come most depth list m so = by found found.supposed
      where
        found : HasFront (suc m.passes) list
        found = front_after depth (suc m.passes) list (omega (arith, m.early)) so

        by : (h : HasFront (suc m.passes) list) → AreSupposed task known notes tried (suc m.passes) h.front → most < length list
        by h (old, so_far, pass) =
            let same : m.list ≡ old = supposed_once m.passes m.list old m.supposed so_far in
            let due : (i : Instance) → Contains m.next i → Contains (instances_of pass.more) i =
            λ i c. (pass.each i).1 (
              subst (λ es. IsDue task (supposing task known es es) notes i) same (m.due i c),
              (m.new i c).0,
              subst (λ es. list_any (same_instance i) (instances_of es) ≡ false) same (m.new i c).1,
            ) in
            let many = pigeons m.next (instances_of pass.more) m.distinct due in
            omega (
              arith,
              many,
              m.many,
              ap length same,
              length-map pass.more (λ (e : SupposedEntry). e.instance),
              ap length pass.added,
              length-append old pass.more,
              ap length h.added,
              length-append h.front h.rest,
            )

    -- ---- entries of a list

    -- each entry is of a stream of the task, is reachable by what is known with earlier entries, and hasn't finished
    pub record IsOfList (list : List SupposedEntry) (k : ℕ) (e : SupposedEntry) : Type 0 where
      pub stream : Stream
      pub named : slice_get task.streams e.instance.stream ≡ Some stream
      pub unfinished : is_finished stream notes e.instance ≡ false
      pub supported : is_supported task known list (take k list) e ≡ true

    pub each_is_of : (depth : ℕ) (list : List SupposedEntry) → AreSupposed task known notes tried depth list → (k : ℕ) (e : SupposedEntry)
        → slice_get list k ≡ Some e → IsOfList list k e
    each_is_of zero list so k e at = let none : slice_get [] k ≡ Some e = ap (λ es. slice_get es k) (sym so) ∙ at in absurd (cc)
    each_is_of (suc depth) list (old, so_far, pass) k e at =
        elim (append_cases old pass.more k e (ap (λ es. slice_get es k) (sym pass.added) ∙ at)) [
          | inl early ↦ kept (each_is_of depth old so_far k e early) (omega (arith, slice_get_within old k e early))
          | inr later ↦ new later.0 later.1 later.2
        ]
      where
        kept : IsOfList old k e → k ≤ length old → IsOfList list k e
        kept h few = record {
          stream = h.stream;
          named = h.named;
          unfinished = h.unfinished;
          supported = subst (λ es. is_supported task known list es e ≡ true)
              (append-nil (take k old) ∙ sym (added_front list old pass.more pass.added k few))
              (support_stays task known old list (take k old) [] e h.supported);
        }

        new : (j : ℕ) → k ≡ length old + j → slice_get pass.more j ≡ Some e → IsOfList list k e
        new j is there =
            let d = ((pass.each e.instance).0 (in_mapped (λ (x : SupposedEntry). x.instance) pass.more e (member_at pass.more j e there))).0 in
            record {
              stream = d.stream;
              named = d.named;
              unfinished = d.unfinished;
              supported = subst (λ es. is_supported task known list es e ≡ true) (sym (added_behind list old pass.more pass.added k j is))
                  (supported_later task known old list old (take j pass.more) e d.stream d.named d.reachable);
            }

    pub list_supported : (depth : ℕ) (list : List SupposedEntry) → AreSupposed task known notes tried depth list
        → HaveSupport task known list list
    list_supported depth list so k e at = (each_is_of depth list so k e at).supported
