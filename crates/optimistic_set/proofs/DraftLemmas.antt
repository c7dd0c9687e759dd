-- Entries, one after another.
use Rattle.std.proofs.Common.{◌≡◌, ℕ, zero, suc, ◌+◌, ◌*◌, ◌<◌, ◌≤◌, arith, List, [], ◌∷◌, ◌++◌, length, sum_by, refl, sym, ap, subst, ◌∙◌, inl, inr, Some, slice_get, All, append_assoc}
use Rattle.std.proofs.lemmas.Grind.{flat_map-append}
use Rattle.std.proofs.lemmas.List.{append-nil, length-append, map-append}
use Rattle.std.proofs.lemmas.List.Elements.{All-nil, All-cons}
use Rattle.std.proofs.lemmas.List.Sums.{sum_by-cons}
use Rattle.std.specs.List.{flat_map}
use Rattle.learning.proofs.FitStreamLemmas.{fit_parts}
use Rattle.fact_layer.specs.Laid.{laid_over}
use Rattle.fact_store.proofs.StoreLemmas.{all_in_more}
use Rattle.lemmas.proofs.ListTests.{all_by_place}
use Rattle.lemmas.proofs.Members.{push_cases}
use Rattle.lemmas.proofs.Numbers.{length-numbers_from}
use Rattle.lemmas.specs.Lists.{numbers_from}
use Rattle.task_model.proofs.KnownLemmas.{facts_then, in_names}
use Rattle.task_model.specs.Dreams.{SupposedEntry, entry_facts, entry_values, placeholders, entry_names, instances_of, supposing, HasFreshOutputs}
use Rattle.task_model.specs.Known.{Known, IsCoherent, IsIn, with_facts, with_values}
use Rattle.task_model.specs.Streams.{certified_by, worth_by}
use Rattle.task_model.specs.declared.stream.Instance.{Instance}
use Rattle.task_model.specs.declared.task.Task.{Task}
use Rattle.transcript_model.proofs.NamedObjectLemmas.{fit_stream_at}
use Rattle.optimistic_set.proofs.PlaceholderLemmas.{HaveFew}
use Rattle.optimistic_set.proofs.SupposingLemmas.{supposing_coherent}
use Rattle.optimistic_set.specs.Drafts.{IsDraft, IsPlainInstance, IsPushed}
use Rattle.optimistic_set.specs.Entries.{IsBase, IsPlainEntry}
use Rattle.optimistic_set.specs.declared.draft.Draft.{Draft}
use Rattle.transcript_model.proofs.LegalPrefixLemmas.{values_then}

-- ---- names of entries

entry_names-append : (j : ℕ) (xs ys : List SupposedEntry)
    → entry_names j (xs ++ ys) ≡ entry_names j xs ++ entry_names (j + length xs) ys
entry_names-append j [] ys = let same : j ≡ j + 0 = omega arith in ap (λ n. entry_names n ys) same
entry_names-append j (x ∷ xs) ys =
    let next : j + 1 + length xs ≡ j + length (x ∷ xs) = omega arith in
    ap (λ ns. placeholders j 1 (length x.outputs) ++ ns) (entry_names-append (j + 1) xs ys)
    ∙ sym (append_assoc (placeholders j 1 (length x.outputs)) (entry_names (j + 1) xs) (entry_names (j + 1 + length xs) ys))
    ∙ ap (λ n. (placeholders j 1 (length x.outputs) ++ entry_names (j + 1) xs) ++ entry_names n ys) next

pub names_pushed : (list : List SupposedEntry) (e : SupposedEntry)
    → entry_names 1 (list ++ e ∷ []) ≡ entry_names 1 list ++ placeholders (length list + 1) 1 (length e.outputs)
names_pushed list e =
    let next : 1 + length list ≡ length list + 1 = omega arith in
    entry_names-append 1 list (e ∷ [])
    ∙ ap (λ ns. entry_names 1 list ++ ns) (append-nil (placeholders (1 + length list) 1 (length e.outputs)))
    ∙ ap (λ n. entry_names 1 list ++ placeholders n 1 (length e.outputs)) next

pub length-placeholders : (j i n : ℕ) → length (placeholders j i n) ≡ n
length-placeholders j i zero = refl
length-placeholders j i (suc n) = ap suc (length-placeholders j (i + 1) n)

length-entry_names : (j : ℕ) (list : List SupposedEntry)
    → length (entry_names j list) ≡ sum_by (λ (e : SupposedEntry). length e.outputs) list
length-entry_names j [] = refl
length-entry_names j (e ∷ es) =
    length-append (placeholders j 1 (length e.outputs)) (entry_names (j + 1) es)
    ∙ (λ i. length-placeholders j 1 (length e.outputs) i + length-entry_names (j + 1) es i)
    ∙ sym (sum_by-cons (λ (x : SupposedEntry). length x.outputs) e es)

pub few_names : (j : ℕ) (list : List SupposedEntry) → HaveFew list → length (entry_names j list) ≤ 8 * length list
few_names j [] few = omega arith
few_names j (e ∷ es) few =
    let here : length e.outputs ≤ 8 = few 0 e (omega arith) in
    let rest = few_names (j + 1) es (λ k d lt. few (suc k) d (omega arith)) in
    omega (
      arith,
      here,
      rest,
      length-append (placeholders j 1 (length e.outputs)) (entry_names (j + 1) es),
      length-placeholders j 1 (length e.outputs),
    )

-- ---- placeholders have names

pub numbers_in : (names : List (List ℕ)) (first n : ℕ) → first + n ≤ length names → All (IsIn names) (numbers_from first n)
numbers_in names first zero le = All-nil (IsIn names)
numbers_in names first (suc n) le =
    All-cons (IsIn names) first (numbers_from (first + 1) n) (in_names names first (omega (arith, le)))
    (numbers_in names (first + 1) n (omega (arith, le)))

pub plain_later : (task : Task) (names more : List (List ℕ)) (e : SupposedEntry) → IsPlainEntry task names e
    → IsPlainEntry task (names ++ more) e
plain_later task names more e p = record {
  stream = p.stream;
  named = p.named;
  inputs = p.inputs;
  outputs = p.outputs;
  given = all_in_more names more e.instance.inputs p.given;
  fresh = all_in_more names more e.outputs p.fresh;
}

pub instance_later : (task : Task) (names more : List (List ℕ)) (i : Instance) → IsPlainInstance task names i
    → IsPlainInstance task (names ++ more) i
instance_later task names more i p = record {
  stream = p.stream;
  named = p.named;
  inputs = p.inputs;
  given = all_in_more names more i.inputs p.given;
}

-- ---- values

flat_map-push : {X A : Type 0} (f : X → List A) (xs : List X) (x : X) → flat_map f (xs ++ x ∷ []) ≡ flat_map f xs ++ f x
flat_map-push f xs x = flat_map-append f xs (x ∷ []) ∙ ap (λ ys. flat_map f xs ++ ys) (append-nil (f x))

-- ---- a draft

module _ (task : Task) (known : Known) (base : IsBase task known) where
  few_outputs : (names : List (List ℕ)) (e : SupposedEntry) → IsPlainEntry task names e → length e.outputs ≤ 8
  few_outputs names e p =
      let parts = fit_parts task.domain p.stream (fit_stream_at task e.instance.stream p.stream base.fit p.named) in
      omega (arith, p.outputs, parts.outputs)

  pub have_few : (draft : Draft) → IsDraft task known draft → HaveFew draft.entries.items
  have_few draft d =
      all_by_place (λ (e : SupposedEntry). length e.outputs ≤ 8) draft.entries.items
      (λ k e at. few_outputs (known.names ++ draft.names.items) e (d.plain k e at))

  pub few_draft_names : (draft : Draft) → IsDraft task known draft → length draft.names.items ≤ 160000
  few_draft_names draft d =
      omega (arith, ap length d.names, few_names 1 draft.entries.items (have_few draft d), d.few)

  -- what is written, seen as what is supposed
  pub draft_known : (draft : Draft) → IsDraft task known draft
      → laid_over known draft.names.items draft.more.facts draft.more.values
      ≡ supposing task known draft.entries.items draft.entries.items
  draft_known draft d = λ i. record { names = known.names ++ d.names i; facts = d.facts i; values = d.values i }

  pub draft_coherent : (draft : Draft) → IsDraft task known draft → IsCoherent known
      → IsCoherent (laid_over known draft.names.items draft.more.facts draft.more.values)
  draft_coherent draft d c =
      subst IsCoherent (sym (draft_known draft d))
      (supposing_coherent task known draft.entries.items draft.entries.items base.fit base.declared c base.real (have_few draft d) d.few
      (λ k e at. subst (λ ns. IsPlainEntry task (known.names ++ ns) e) d.names (d.plain k e at)))

  -- what had names has them still with more entries
  pub instance_in_draft : (old now : Draft) (more : List SupposedEntry) (i : Instance) → IsDraft task known old → IsDraft task known now
      → now.entries.items ≡ old.entries.items ++ more → IsPlainInstance task (known.names ++ old.names.items) i
      → IsPlainInstance task (known.names ++ now.names.items) i
  instance_in_draft old now more i d e added p =
      let others = entry_names (1 + length old.entries.items) more in
      let grown : now.names.items ≡ old.names.items ++ others =
      e.names ∙ ap (entry_names 1) added ∙ entry_names-append 1 old.entries.items more ∙ ap (λ ns. ns ++ others) (sym d.names) in
      subst (λ ns. IsPlainInstance task ns i)
      (append_assoc known.names old.names.items others ∙ ap (λ ns. known.names ++ ns) (sym grown))
      (instance_later task (known.names ++ old.names.items) others i p)

  module _ (old new : Draft) (i : Instance) (outputs : List ℕ) (d : IsDraft task known old)
      (p : IsPlainInstance task (known.names ++ old.names.items) i) (room : length old.entries.items < 20000)
      (same : new.facts.now.known ≡ known)
      (fresh : outputs ≡ numbers_from (length known.names + length old.names.items) (length p.stream.outputs))
      (names : new.names.items ≡ old.names.items ++ placeholders (length old.entries.items + 1) 1 (length p.stream.outputs))
      (facts : known.facts ++ new.more.facts
      ≡ with_facts (known.facts ++ old.more.facts) (certified_by task.domain p.stream i.inputs outputs))
      (values : known.values ++ new.more.values ≡ with_values (known.values ++ old.more.values) (worth_by p.stream i.inputs 0))
      (entries : new.entries.items ≡ old.entries.items ++ record { instance = i; outputs = outputs } ∷ [])
      (asked : new.asked ≡ old.asked ++ i ∷ []) where
    abbrev one : SupposedEntry
    one = record { instance = i; outputs = outputs }

    many : length outputs ≡ length p.stream.outputs
    many =
        ap length fresh ∙ length-numbers_from (length known.names + length old.names.items) (length p.stream.outputs)

    pushed_names : new.names.items ≡ entry_names 1 (old.entries.items ++ one ∷ [])
    pushed_names =
        names ∙ (λ k. d.names k ++ placeholders (length old.entries.items + 1) 1 (sym many k))
        ∙ sym (names_pushed old.entries.items one)

    pushed_facts : known.facts ++ new.more.facts ≡ with_facts known.facts (flat_map (entry_facts task) (old.entries.items ++ one ∷ []))
    pushed_facts =
        facts ∙ ap (λ fs. with_facts fs (certified_by task.domain p.stream i.inputs outputs)) d.facts
        ∙ sym (facts_then known.facts (flat_map (entry_facts task) old.entries.items) (certified_by task.domain p.stream i.inputs outputs))
        ∙ ap (λ fs. with_facts known.facts (flat_map (entry_facts task) old.entries.items ++ fs)) (sym here)
        ∙ ap (with_facts known.facts) (sym (flat_map-push (entry_facts task) old.entries.items one))
      where
        here : entry_facts task one ≡ certified_by task.domain p.stream i.inputs outputs
        here = rw p.named

    pushed_values : known.values ++ new.more.values
        ≡ with_values known.values (flat_map (entry_values task) (old.entries.items ++ one ∷ []))
    pushed_values =
        values ∙ ap (λ vs. with_values vs (worth_by p.stream i.inputs 0)) d.values
        ∙ sym (values_then known.values (flat_map (entry_values task) old.entries.items) (worth_by p.stream i.inputs 0))
        ∙ ap (λ vs. with_values known.values (flat_map (entry_values task) old.entries.items ++ vs)) (sym here)
        ∙ ap (with_values known.values) (sym (flat_map-push (entry_values task) old.entries.items one))
      where
        here : entry_values task one ≡ worth_by p.stream i.inputs 0
        here = rw p.named

    grown : known.names ++ new.names.items
        ≡ (known.names ++ old.names.items) ++ placeholders (length old.entries.items + 1) 1 (length p.stream.outputs)
    grown =
        ap (λ ns. known.names ++ ns) names
        ∙ sym (append_assoc known.names old.names.items (placeholders (length old.entries.items + 1) 1 (length p.stream.outputs)))

    long_enough : (length known.names + length old.names.items) + length p.stream.outputs ≤ length (known.names ++ new.names.items)
    long_enough =
        omega (
          arith,
          ap length grown,
          length-append (known.names ++ old.names.items) (placeholders (length old.entries.items + 1) 1 (length p.stream.outputs)),
          length-append known.names old.names.items,
          length-placeholders (length old.entries.items + 1) 1 (length p.stream.outputs),
        )

    one_is_plain : IsPlainEntry task (known.names ++ new.names.items) one
    one_is_plain = record {
      stream = p.stream;
      named = p.named;
      inputs = p.inputs;
      outputs = many;
      given = subst (λ ns. All (IsIn ns) i.inputs) (sym grown) (all_in_more _ _ i.inputs p.given);
      fresh = subst (All (IsIn (known.names ++ new.names.items))) (sym fresh)
          (numbers_in (known.names ++ new.names.items) (length known.names + length old.names.items) (length p.stream.outputs) long_enough);
    }

    each_is_plain : (k : ℕ) (e : SupposedEntry) → slice_get (old.entries.items ++ one ∷ []) k ≡ Some e
        → IsPlainEntry task (known.names ++ new.names.items) e
    each_is_plain k e at =
        elim (push_cases old.entries.items one k e at) [
          | inl before ↦
              subst (λ ns. IsPlainEntry task ns e) (sym grown) (plain_later task (known.names ++ old.names.items) _ e (d.plain k e before))
          | inr here ↦ subst (IsPlainEntry task (known.names ++ new.names.items)) (sym here.1) one_is_plain
        ]

    pub draft_pushed : IsDraft task known new
    draft_pushed = record {
      base = same;
      names = pushed_names ∙ ap (entry_names 1) (sym entries);
      facts = pushed_facts ∙ ap (λ es. with_facts known.facts (flat_map (entry_facts task) es)) (sym entries);
      values = pushed_values ∙ ap (λ es. with_values known.values (flat_map (entry_values task) es)) (sym entries);
      asked = asked ∙ ap (λ is. is ++ i ∷ []) d.asked
          ∙ sym (ap instances_of entries ∙ map-append (λ (e : SupposedEntry). e.instance) old.entries.items (one ∷ []));
      few = omega (arith, room, ap length entries, length-append old.entries.items (one ∷ []));
      plain = λ k e at. each_is_plain k e (sym (ap (λ es. slice_get es k) entries) ∙ at);
    }

    pub entry_pushed : IsPushed task known i old.entries.items new.entries.items
    entry_pushed = (one, entries, refl, fresh_outputs)
      where
        fresh_outputs : HasFreshOutputs task known old.entries.items one
        fresh_outputs =
            rw p.named (fresh ∙ ap (λ n. numbers_from (length known.names + n) (length p.stream.outputs))
            (ap length d.names ∙ length-entry_names 1 old.entries.items))
