-- What a dream shows has the stated forms.
use Rattle.std.proofs.Common.{◌≡◌, ℕ, zero, suc, ◌+◌, ◌<◌, ◌≤◌, inl, inr, true, ◌&&◌, List, [], ◌∷◌, ◌++◌, length, map, All, refl, sym, ap, subst, ◌∙◌, Some, slice_get, arith}
use Rattle.std.proofs.lemmas.List.{length-map}
use Rattle.std.proofs.lemmas.List.Elements.{All-nil, All-cons, All-append, All-weaker}
use Rattle.std.proofs.lemmas.Option.{same_Some, slice_get-map, slice_get_within}
use Rattle.std.specs.Cmp.{first_so, nat_cmp_total}
use Rattle.std.specs.List.{flat_map, list_all}
use Rattle.std.specs.Option.{option_map}
use Rattle.std.specs.Ordering.{nat_cmp}
use Rattle.learning.proofs.OutputsLemmas.{names_grow}
use Rattle.lemmas.proofs.Distinct.{ascending_distinct}
use Rattle.lemmas.proofs.ListTests.{all_by_place}
use Rattle.lemmas.proofs.Members.{member_at, place_of}
use Rattle.lemmas.proofs.Numbers.{length-numbers_from}
use Rattle.lemmas.proofs.Pigeonhole.{pigeons}
use Rattle.lemmas.specs.Lists.{numbers_from}
use Rattle.optimistic_set.proofs.PlaceholderLemmas.{HaveFew}
use Rattle.optimistic_set.specs.Dreamable.{AreReal}
use Rattle.report_text.proofs.FormsNameLemmas.{names_formed}
use Rattle.report_text.specs.Forms.{IsFormedCall, IsFormedEntry, IsFormedUse, IsObject, IsTerm}
use Rattle.laws.proofs.RunFormedCallLemmas.{instance_formed, steps_formed}
use Rattle.laws.proofs.RunSupposedLemmas as supposed
use Rattle.shown_plan.proofs.ShownLemmas.{valid_named}
use Rattle.task_model.specs.Dreams as dreams
use Rattle.task_model.specs.Dreams.{entry_names, instances_of, placeholder, placeholders, supposing}
use Rattle.task_model.specs.Fit.{IsFit, is_letter, is_name, is_name_byte}
use Rattle.task_model.specs.Initial.{declared_names}
use Rattle.task_model.specs.declared.domain.Declared.{Declared}
use Rattle.task_model.specs.declared.stream.Instance.{Instance}
use Rattle.task_model.specs.declared.task.Task.{Task}
use Rattle.transcript_model.proofs.CoherentLemmas.{coherent}
use Rattle.transcript_model.specs.Dreaming.{IsDreamAfter}
use Rattle.transcript_model.specs.Legal.{IsLegal}
use Rattle.transcript_model.specs.Names.{call_of_instance}
use Rattle.transcript_model.specs.Rounds.{Limits}
use Rattle.transcript_model.specs.Transcript.{known_of, names_of, notes_of, objects_in}
use Rattle.transcript_model.specs.declared.entry.Call.{Call}
use Rattle.transcript_model.specs.declared.entry.DreamUse.{DreamUse}
use Rattle.transcript_model.specs.declared.entry.Entry.{Entry}
use Rattle.transcript_model.specs.declared.entry.Entry.TheVariants as entry

-- ---- lists

-- what stands in one place of two lists that are mapped to the same
maps_meet : {A B C : Type 0} (f : A → C) (g : B → C) (xs : List A) (ys : List B) → map f xs ≡ map g ys → (k : ℕ) (x : A)
    → slice_get xs k ≡ Some x → (y : B) × (slice_get ys k ≡ Some y) × (f x ≡ g y)
maps_meet f g [] ys same k x at = absurd (cc)
maps_meet f g (z ∷ zs) [] same k x at = absurd (cc)
maps_meet f g (z ∷ zs) (y ∷ ys) same zero x at =
    let heads : f z ≡ g y = cc in
    (y, refl, ap f (sym (same_Some z x at)) ∙ heads)
maps_meet f g (z ∷ zs) (y ∷ ys) same (suc k) x at =
    let rest : map f zs ≡ map g ys = cc in
    maps_meet f g zs ys rest k x at

number_at : (first n k : ℕ) → k < n → slice_get (numbers_from first n) k ≡ Some (first + k)
number_at first zero k less = absurd (omega (arith, less))
number_at first (suc n) zero less = let same : first ≡ first + 0 = omega arith in ap Some same
number_at first (suc n) (suc k) less =
    let same : first + 1 + k ≡ first + suc k = omega arith in
    number_at (first + 1) n k (omega (arith, less)) ∙ ap Some same

-- ---- names

placeholders_formed : (j i n : ℕ) → 0 < j → 0 < i → j ≤ 4294967295 → i + n ≤ 4294967295
    → All IsTerm (placeholders j i n)
placeholders_formed j i zero some one low high = All-nil IsTerm
placeholders_formed j i (suc n) some one low high =
    All-cons IsTerm (placeholder j i) (placeholders j (i + 1) n)
    (inr (record { j = j; i = i; is = refl; from = (some, one); upto = (low, omega (arith, high)) }))
    (placeholders_formed j (i + 1) n some (omega arith) low (omega (arith, high)))

entry_names_formed : (j : ℕ) (list : List dreams.SupposedEntry) → HaveFew list → 0 < j → j + length list ≤ 4294967295
    → All IsTerm (entry_names j list)
entry_names_formed j [] few some high = All-nil IsTerm
entry_names_formed j (e ∷ es) few some high =
    let most = few 0 e (omega arith) in
    All-append IsTerm (placeholders j 1 (length e.outputs)) (entry_names (j + 1) es)
    (placeholders_formed j 1 (length e.outputs) some (omega arith) (omega (arith, high)) (omega (arith, most)))
    (entry_names_formed (j + 1) es (λ k d lt. few (suc k) d (omega arith)) (omega arith) (omega (arith, high)))

name_real : (name : List ℕ) → is_name name ≡ true → ¬ (slice_get name 0 ≡ Some 64)
name_real [] e at = absurd (cc)
name_real (byte ∷ bytes) e at =
    let is : byte ≡ 64 = same_Some byte 64 at in
    let letter : is_letter byte ≡ true =
    first_so (is_letter byte) _ (first_so (is_letter byte && list_all is_name_byte bytes) _ e) in
    let no : is_letter 64 ≡ true = subst (λ n. is_letter n ≡ true) is letter in
    absurd (cc)

object_real : (name : List ℕ) → IsObject name → ¬ (slice_get name 0 ≡ Some 64)
object_real name (inl is) at = name_real name is at
object_real name (inr made) at =
    let no : 35 ≡ 64 = same_Some 35 64 (ap (λ xs. slice_get xs 0) (sym made.1) ∙ at) in absurd (omega (arith, no))

-- ---- a dream

module _ (limits : Limits) (task : Task) (fit : IsFit task) (before : List Entry)
    (legal : IsLegal limits.version task before)
    (tried : List Instance) (uses : List DreamUse) (steps : List Call) (entries : List dreams.SupposedEntry)
    (d : IsDreamAfter limits task before tried uses steps entries) where
  enough : length task.problem.objects ≤ length (names_of task before)
  enough =
      omega (
        arith,
        names_grow (declared_names task) (flat_map objects_in before),
        length-map task.problem.objects (λ (o : Declared). o.name),
      )

  real : AreReal (names_of task before)
  real =
      All-weaker IsObject (λ name. ¬ (slice_get name 0 ≡ Some 64)) object_real (names_of task before)
      (names_formed limits.version task fit before legal)

  abbrev names : List (List ℕ)
  names = names_of task before ++ entry_names 1 d.list

  terms : All IsTerm names
  terms =
      All-append IsTerm (names_of task before) (entry_names 1 d.list)
      (All-weaker IsObject IsTerm (λ name is. inl is) (names_of task before)
      (names_formed limits.version task fit before legal))
      (entry_names_formed 1 d.list (supposed.have_few task (known_of task before)
      (notes_of task before) tried fit enough
      (coherent limits.version task before fit legal) real limits.depth d.list d.supposed d.dream.few) (omega arith)
      (omega (arith, d.dream.few)))

  -- where an entry of the dream stands in the list
  chosen_at : (k : ℕ) (e : dreams.SupposedEntry) → slice_get entries k ≡ Some e → (p : ℕ)
      × (slice_get d.list p ≡ Some e)
  chosen_at k e at =
      let there = maps_meet Some (slice_get d.list) entries d.dream.places (sym d.dream.chosen) k e at in
      (there.0, sym there.2)

  use_formed : (k : ℕ) (u : DreamUse) → slice_get uses k ≡ Some u → IsFormedUse u
  use_formed k u at =
      let place =
      maps_meet (λ (x : DreamUse). x.number) (λ p. p + 1) uses d.dream.places d.numbers k u at in
      let chosen = maps_meet (slice_get d.list) Some d.dream.places entries d.dream.chosen k place.0 place.1 in
      let call =
      maps_meet (λ (x : DreamUse). x.call) (call_of_instance task names) uses (instances_of entries) d.calls k u at in
      let same : call.0 ≡ chosen.0.instance =
      same_Some call.0 chosen.0.instance
      (sym call.1 ∙ slice_get-map (λ (e : dreams.SupposedEntry). e.instance) entries k
      ∙ ap (option_map (λ (e : dreams.SupposedEntry). e.instance)) chosen.1) in
      let plain =
      supposed.plain task (known_of task before) (notes_of task before) tried fit enough
      (coherent limits.version task before fit legal) real limits.depth d.list d.supposed d.dream.few place.0
      chosen.0 chosen.2 in (
        omega (arith, place.2, slice_get_within d.list place.0 chosen.0 chosen.2, d.dream.few),
        subst (IsFormedCall IsTerm) (sym (call.2 ∙ ap (call_of_instance task names) same))
            (instance_formed task fit names terms chosen.0.instance
            (slice_get_within task.streams chosen.0.instance.stream plain.stream plain.named) plain.given),
      )

  few_uses : length uses ≤ 20000
  few_uses =
      let most = pigeons d.dream.places (numbers_from 0 (length d.list))
      (ascending_distinct nat_cmp nat_cmp_total d.dream.places d.dream.ascend) (λ p m.
      let at = place_of d.dream.places p m in
      let chosen = maps_meet (slice_get d.list) Some d.dream.places entries d.dream.chosen at.0 p at.1 in
      let same : 0 + p ≡ p = omega arith in
      member_at (numbers_from 0 (length d.list)) p p
      (number_at 0 (length d.list) p (slice_get_within d.list p chosen.0 chosen.2) ∙ ap Some same)) in
      omega (
        arith,
        most,
        d.dream.few,
        length-numbers_from 0 (length d.list),
        ap length d.numbers,
        length-map uses (λ (x : DreamUse). x.number),
        length-map d.dream.places (λ p. p + 1),
      )

  dream_steps : All (IsFormedCall IsTerm) steps
  dream_steps =
      let there =
      supposed.some_coherent task (known_of task before) (notes_of task before) tried fit enough
      (coherent limits.version task before fit legal) real limits.depth d.list d.supposed d.dream.few entries
      chosen_at in
      subst (All (IsFormedCall IsTerm)) (sym d.shown)
      (steps_formed task fit names terms d.plan
      (valid_named task (supposing task (known_of task before) d.list entries) there d.plan d.dream.cost d.dream.valid))

  pub dream_formed : length steps ≤ 4294967295 → IsFormedEntry limits.version (entry.Dream uses steps)
  dream_formed short = (omega (arith, few_uses), short, all_by_place IsFormedUse uses use_formed, dream_steps)
