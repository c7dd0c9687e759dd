-- Uses, one after another.
use Rattle.std.proofs.Common.{◌≡◌, ℕ, ◌+◌, ◌<◌, ◌≤◌, ◌⊎◌, ◌↔◌, ◌==◌, arith, inl, inr, Bool, true, false, nat_lt, cond, List, [], ◌∷◌, ◌++◌, length, map, take, refl, sym, ap, subst, ◌∙◌, Some, slice_get}
use Rattle.std.proofs.Math.Seq.{take-append_seam}
use Rattle.std.proofs.lemmas.Bool.{ltb-true}
use Rattle.std.proofs.lemmas.List.{length_push, map-append, take-map}
use Rattle.std.proofs.lemmas.List.Elements.{All-nil}
use Rattle.std.proofs.lemmas.Option.{same_Some, slice_get_within}
use Rattle.std.specs.Cmp.{nat_cmp_is}
use Rattle.std.specs.Ordering.{nat_cmp}
use Rattle.std.specs.declared.cmp.Ordering.TheVariants.{Less, Equal, Greater}
use Rattle.turn_laws.proofs.DreamLemmas.{places_same}
use Rattle.turn_laws.proofs.DreamSupportLemmas.{support_front, support_none, support_pushed}
use Rattle.dreaming.proofs.KeptLemmas.{below_push}
use Rattle.dreaming.proofs.PlacesLemmas.{AreBelow, AreBefore, ascend_front, ascend_push, at_place, below_front, entries_front, entries_pushed}
use Rattle.dreaming.specs.Parts.{entries_at}
use Rattle.lemmas.proofs.ListTests.{get_there}
use Rattle.lemmas.proofs.Members.{get_at_length, get_single, get_append, push_cases}
use Rattle.lemmas.specs.Lists.{AreAscending}
use Rattle.optimistic_set.specs.Dreamable.{Dreamable}
use Rattle.shown_steps.proofs.RunsLemmas.{ends}
use Rattle.task_model.specs.Dreams.{SupposedEntry, HaveSupport, instances_of, is_supported}
use Rattle.task_model.specs.declared.stream.Instance.{Instance}
use Rattle.task_model.specs.declared.task.Task.{Task}
use Rattle.transcript_model.specs.Names.{call_of_instance}
use Rattle.transcript_model.specs.declared.entry.Call.{Call}
use Rattle.transcript_model.specs.declared.entry.DreamUse.{DreamUse}
use Rattle.dream_check.specs.Listed.{AreUsed, IsNext, MayBeUsed}

-- ---- the next place

not_less : (b : Bool) → cond b Equal Greater ≡ Less → ⊥
not_less true e = absurd (cc)
not_less false e = absurd (cc)

from_less : (a b : ℕ) → nat_cmp a b ≡ Less → a < b
from_less a b e =
    elim (nat_lt a b) as (λ t. nat_lt a b ≡ t → cond t Less (cond (a == b) Equal Greater) ≡ Less → a < b) [
      | true ↦ λ is _. ltb-true a b is
      | false ↦ λ _ other. absurd (not_less (a == b) other)
    ] refl e

less : (a b : ℕ) → a < b → nat_cmp a b ≡ Less
less a b lt = sym (nat_cmp_is a b Less lt)

-- before all places
pub next_first : IsNext [] 0
next_first place = (λ le. one, λ ascend. omega arith)
  where
    one : AreAscending nat_cmp (place ∷ [])
    one i j a b lt at_i at_j =
        let first = get_single place a i at_i in
        let second = get_single place b j at_j in
        absurd (omega (arith, lt, first.0, second.0))

-- behind one place more
module _ (places : List ℕ) (last : ℕ) (ascend : AreAscending nat_cmp (places ++ last ∷ [])) (place : ℕ) where
  before : last + 1 ≤ place → AreBefore (places ++ last ∷ []) (place ∷ [])
  before le i j a b at_i at_j =
      let end = get_single place b j at_j in
      elim (push_cases places last i a at_i) [
        | inl early ↦
            let within = slice_get_within places i a early in
            let lt =
            from_less a last
            (ascend i (length places) a last within (get_append places (last ∷ []) i a early) (get_at_length places last)) in
            less a b (omega (arith, lt, le, end.1))
        | inr same ↦ less a b (omega (arith, same.1, le, end.1))
      ]

  behind : AreAscending nat_cmp ((places ++ last ∷ []) ++ place ∷ []) → last + 1 ≤ place
  behind all =
      let many : length (places ++ last ∷ []) ≡ length places + 1 = length_push places last in
      let at_last = get_append (places ++ last ∷ []) (place ∷ []) (length places) last (get_at_length places last) in
      let at_place = get_at_length (places ++ last ∷ []) place in
      let lt =
      from_less last place (all (length places) (length (places ++ last ∷ [])) last place (omega (arith, many)) at_last at_place) in
      omega (arith, lt)

  next_at : (last + 1 ≤ place) ↔ AreAscending nat_cmp ((places ++ last ∷ []) ++ place ∷ [])
  next_at = (λ le. ascend_push (places ++ last ∷ []) place ascend (before le), behind)

pub next_behind : (places : List ℕ) (last : ℕ) → AreAscending nat_cmp (places ++ last ∷ [])
    → IsNext (places ++ last ∷ []) (last + 1)
next_behind places last ascend place = next_at places last ascend place

-- ---- uses of a list

last_same : {A : Type 0} (xs : List A) (x y : A) → xs ++ x ∷ [] ≡ xs ++ y ∷ [] → x ≡ y
last_same [] x y e = cc
last_same (z ∷ zs) x y e = let rest : zs ++ x ∷ [] ≡ zs ++ y ∷ [] = cc in last_same zs x y rest

module _ (task : Task) (d : Dreamable) where
  abbrev shown_as : Instance → Call
  shown_as = call_of_instance task d.known.names

  -- no use
  pub none_used : AreUsed task d [] []
  none_used = record {
    below = All-nil (λ place. place < length d.list);
    ascend = λ i j a b lt at_i at_j. absurd (cc);
    support = support_none task d.base d.list;
    numbers = refl;
    calls = refl;
  }

  -- the first of them
  pub used_front : (uses : List DreamUse) (places : List ℕ) (k : ℕ) → AreUsed task d uses places
      → AreUsed task d (take k uses) (take k places)
  used_front uses places k h =
      let front = entries_front d.list places k h.below in
      record {
        below = below_front d.list places k h.below;
        ascend = ascend_front places k h.ascend;
        support = subst (HaveSupport task d.base d.list) (sym front)
            (support_front task d.base d.list (entries_at d.list places) k h.support);
        numbers = sym (take-map (λ (u : DreamUse). u.number) k uses) ∙ ap (take k) h.numbers ∙ take-map (λ place. place + 1) k places;
        calls = sym (take-map (λ (u : DreamUse). u.call) k uses) ∙ ap (take k) h.calls
            ∙ take-map shown_as k (instances_of (entries_at d.list places))
            ∙ ap (map shown_as) (take-map (λ (e : SupposedEntry). e.instance) k (entries_at d.list places))
            ∙ ap (λ es. map shown_as (instances_of es)) (sym front);
      }

  module _ (uses : List DreamUse) (places : List ℕ) (u : DreamUse) (used : AreUsed task d uses places) where
    abbrev entries : List SupposedEntry
    entries = entries_at d.list places

    -- one use more
    pub one_more : (place : ℕ) (e : SupposedEntry) → slice_get d.list place ≡ Some e → AreAscending nat_cmp (places ++ place ∷ [])
        → u.number ≡ place + 1 → u.call ≡ shown_as e.instance → is_supported task d.base d.list entries e ≡ true
        → AreUsed task d (uses ++ u ∷ []) (places ++ place ∷ [])
    one_more place e at ascend number call support =
        let pushed = entries_pushed d.list places place e at in
        record {
          below = below_push task d.base d.list places place used.below (slice_get_within d.list place e at);
          ascend = ascend;
          support = subst (HaveSupport task d.base d.list) (sym pushed)
              (support_pushed task d.base d.list entries e used.support support);
          numbers = map-append (λ (x : DreamUse). x.number) uses (u ∷ [])
              ∙ (λ i. used.numbers i ++ number i ∷ [])
              ∙ sym (map-append (λ place. place + 1) places (place ∷ []));
          calls = map-append (λ (x : DreamUse). x.call) uses (u ∷ []) ∙ (λ i. used.calls i ++ call i ∷ [])
              ∙ sym (map-append shown_as (instances_of entries) (e.instance ∷ []))
              ∙ ap (map shown_as) (sym (map-append (λ (x : SupposedEntry). x.instance) entries (e ∷ [])))
              ∙ ap (λ es. map shown_as (instances_of es)) (sym pushed);
        }

    -- the entry that the last of them names
    pub record NamesLast (all : List ℕ) : Type 0 where
      pub place : ℕ
      pub are : all ≡ places ++ place ∷ []
      pub number : u.number ≡ place + 1
      pub entry : SupposedEntry
      pub at : slice_get d.list place ≡ Some entry
      pub ascend : AreAscending nat_cmp (places ++ place ∷ [])
      pub call : u.call ≡ shown_as entry.instance
      pub support : is_supported task d.base d.list entries entry ≡ true

    pub last_used : (all : List ℕ) → AreUsed task d (uses ++ u ∷ []) all → NamesLast all
    last_used all h = record {
      place = parts.1;
      are = are;
      number = parts.4;
      entry = there.0;
      at = there.1;
      ascend = subst (λ ps. AreAscending nat_cmp ps) are h.ascend;
      call = last_same (map shown_as (instances_of entries)) u.call (shown_as there.0.instance)
          (ap (λ cs. cs ++ u.call ∷ []) (sym used.calls) ∙ ends_so);
      support = subst (λ es. is_supported task d.base d.list es there.0 ≡ true) (take-append_seam entries (there.0 ∷ []))
          (subst (HaveSupport task d.base d.list) pushed h.support (length entries) there.0 (get_at_length entries there.0));
    }
      where
        numbers : map (λ (x : DreamUse). x.number) uses ++ u.number ∷ [] ≡ map (λ place. place + 1) all
        numbers = sym (map-append (λ (x : DreamUse). x.number) uses (u ∷ [])) ∙ h.numbers

        parts : (front : List ℕ) × (last : ℕ) × (all ≡ front ++ last ∷ [])
            × (map (λ (x : DreamUse). x.number) uses ≡ map (λ place. place + 1) front) × (u.number ≡ last + 1)
        parts = ends (λ place. place + 1) (map (λ (x : DreamUse). x.number) uses) u.number all numbers

        are : all ≡ places ++ parts.1 ∷ []
        are = parts.2 ∙ ap (λ ps. ps ++ parts.1 ∷ []) (places_same parts.0 places (sym parts.3 ∙ used.numbers))

        within : parts.1 < length d.list
        within =
            at_place d.list (places ++ parts.1 ∷ []) (subst (AreBelow d.list) are h.below) (length places) parts.1
            (get_at_length places parts.1)

        there : (e : SupposedEntry) × (slice_get d.list parts.1 ≡ Some e)
        there = get_there d.list parts.1 within

        pushed : entries_at d.list all ≡ entries ++ there.0 ∷ []
        pushed = ap (entries_at d.list) are ∙ entries_pushed d.list places parts.1 there.0 there.1

        ends_so : map (λ (x : DreamUse). x.call) uses ++ u.call ∷ []
            ≡ map shown_as (instances_of entries) ++ shown_as there.0.instance ∷ []
        ends_so =
            sym (map-append (λ (x : DreamUse). x.call) uses (u ∷ [])) ∙ h.calls
            ∙ ap (λ es. map shown_as (instances_of es)) pushed
            ∙ ap (map shown_as) (map-append (λ (x : SupposedEntry). x.instance) entries (there.0 ∷ []))
            ∙ map-append shown_as (instances_of entries) (there.0.instance ∷ [])

    -- ---- why it may not be used

    pub out_of_reach : (next : ℕ) → IsNext places next → (u.number ≤ next) ⊎ (length d.list < u.number)
        → ¬ (MayBeUsed task d (uses ++ u ∷ []))
    out_of_reach next is wrong m = by wrong
      where
        l : NamesLast m.0
        l = last_used m.0 m.1

        by : (u.number ≤ next) ⊎ (length d.list < u.number) → ⊥
        by (inl early) =
            let le = (is l.place).1 l.ascend in
            let number = l.number in omega (arith, early, le, number)
        by (inr far) =
            let within = slice_get_within d.list l.place l.entry l.at in
            let number = l.number in omega (arith, far, number, within)

    module _ (place : ℕ) (e : SupposedEntry) (at : slice_get d.list place ≡ Some e) (number : u.number ≡ place + 1) where
      same_last : (all : List ℕ) (l : NamesLast all) → l.entry ≡ e
      same_last all l =
          let also = l.number in
          let same : l.place ≡ place = omega (arith, number, also) in
          same_Some l.entry e (sym l.at ∙ ap (slice_get d.list) same ∙ at)

      pub shown_otherwise : ¬ (u.call ≡ shown_as e.instance) → ¬ (MayBeUsed task d (uses ++ u ∷ []))
      shown_otherwise other m =
          let l = last_used m.0 m.1 in
          other (l.call ∙ ap (λ (x : SupposedEntry). shown_as x.instance) (same_last m.0 l))

      pub unsupported : is_supported task d.base d.list entries e ≡ false → ¬ (MayBeUsed task d (uses ++ u ∷ []))
      unsupported none m =
          let l = last_used m.0 m.1 in
          let here : is_supported task d.base d.list entries e ≡ true =
          subst (λ x. is_supported task d.base d.list entries x ≡ true) (same_last m.0 l) l.support in
          absurd (cc)
