-- Lists of which something is read of each member, one after another.
use Rattle.std.proofs.Common.{◌≡◌, ℕ, ◌+◌, ◌<◌, ◌≤◌, arith, Bool, true, cond, ◌&&◌, codes, inl, inr, List, [], ◌∷◌, ◌++◌, length, get_or, drop, map, refl, sym, ap, ◌∙◌, append_assoc, Option, Some, None, option_map, option_and_then, String, Global, string_bytes}
use Rattle.std.proofs.lemmas.List.{at_drop_more, at_drop_all, append-nil}
use Rattle.std.proofs.lemmas.Option.{same_Some}
use Rattle.std.specs.List.{list_all}
use Rattle.std.specs.Map.{keys_of}
use Rattle.serde_json.specs.Data.{Data, null, boolean, number, string, array, object}
use Rattle.serde_json.specs.View.{view, items_of, items_view, members_view}
use Rattle.serde_json.specs.declared.value.Value.{Value}
use Rattle.serde_json.specs.Find.{as_array, as_object, get}
use Rattle.stream_map.specs.Faults.{Only}
use Rattle.stream_map.specs.Form.{all_keys, datas, each_of, has_only, if_some, is_map_key, listed, map_in_data, pool_of}
use Rattle.stream_map.specs.declared.fault.MapFault.{MapFault}

pub datas-items_of : (ds : List Data) → datas (items_of ds) ≡ ds
datas-items_of [] = refl
datas-items_of (d ∷ ds) = ap (λ es. d ∷ es) (datas-items_of ds)

pub all_keys-members_view : (is_key : List ℕ → Bool) (es : List (String Global × Value))
    → all_keys is_key (members_view es) ≡ list_all (λ k. is_key (string_bytes k)) (keys_of es)
all_keys-members_view is_key [] = refl
all_keys-members_view is_key (e ∷ es) =
    ap (λ b. is_key (string_bytes e.0) && b) (all_keys-members_view is_key es)

module _ {D B : Type 0} (f : D → Option B) where
  abbrev behind : List B → Option (List B) → Option (List B)
  behind done o = option_map (λ ys. done ++ ys) o

  behind_more : (done : List B) (y : B) (o : Option (List B))
      → behind done (option_map (λ ys. y ∷ ys) o) ≡ behind (done ++ y ∷ []) o
  behind_more done y None = refl
  behind_more done y (Some ys) = ap Some (sym (append_assoc done (y ∷ []) ys))

  behind_none : (o : Option (List B)) → o ≡ behind [] o
  behind_none None = refl
  behind_none (Some ys) = refl

  step : (d : D) (rest : List D) (y : B) (done : List B) → f d ≡ Some y
      → behind done (each_of f (d ∷ rest)) ≡ behind (done ++ y ∷ []) (each_of f rest)
  step d rest y done is =
      ap (λ o. behind done (option_and_then (λ z. option_map (λ ys. z ∷ ys) (each_of f rest)) o)) is
      ∙ behind_more done y (each_of f rest)

  stop : (d : D) (rest : List D) (done : List B) → f d ≡ None
      → behind done (each_of f (d ∷ rest)) ≡ None
  stop d rest done is =
      ap (λ o. behind done (option_and_then (λ z. option_map (λ ys. z ∷ ys) (each_of f rest)) o)) is

  -- these were read of so many members, and the others are left
  abbrev pub Reads : List D → ℕ → List B → Type 0
  Reads xs i done = each_of f xs ≡ option_map (λ ys. done ++ ys) (each_of f (drop i xs))

  pub reads_nothing : (xs : List D) → Reads xs 0 []
  reads_nothing xs = behind_none (each_of f xs)

  module _ (xs : List D) where
    at_place : (i : ℕ) (x : D) (done : List B) → i < length xs → x ≡ get_or xs i x
        → behind done (each_of f (drop i xs)) ≡ behind done (each_of f (x ∷ drop (i + 1) xs))
    at_place i x done within is =
        at_drop_more (λ rest. behind done (each_of f rest)) xs i x within ∙ ap (λ v. behind done (each_of f (v ∷ drop (i + 1) xs))) (sym is)

    pub reads_more : (i : ℕ) (x : D) (y : B) (done : List B) → i < length xs → x ≡ get_or xs i x
        → f x ≡ Some y → Reads xs i done → Reads xs (i + 1) (done ++ y ∷ [])
    reads_more i x y done within is gives so_far =
        so_far ∙ at_place i x done within is ∙ step x (drop (i + 1) xs) y done gives

    pub reads_stop : (i : ℕ) (x : D) (done : List B) → i < length xs → x ≡ get_or xs i x
        → f x ≡ None → Reads xs i done → each_of f xs ≡ None
    reads_stop i x done within is gives so_far =
        so_far ∙ at_place i x done within is ∙ stop x (drop (i + 1) xs) done gives

    pub reads_all : (i : ℕ) (done : List B) → length xs ≤ i → Reads xs i done
        → each_of f xs ≡ Some done
    reads_all i done past so_far =
        so_far ∙ at_drop_all (λ rest. behind done (each_of f rest)) xs i past
        ∙ ap Some (append-nil done)

each_of-map : {V D B : Type 0} (seen : V → D) (f : D → Option B) (xs : List V)
    → each_of f (map seen xs) ≡ each_of (λ v. f (seen v)) xs
each_of-map seen f [] = refl
each_of-map seen f (x ∷ xs) = ap (λ o. option_and_then (λ y. option_map (λ ys. y ∷ ys) o) (f (seen x))) (each_of-map seen f xs)

-- what is read of an array is read of its values
pub listed-array : {B : Type 0} (f : Data → Option B) (d : Data) (vs : List Value)
    → as_array d ≡ Some (items_view vs) → listed f d ≡ each_of (λ v. f (view v)) vs
listed-array f d vs is =
    ap (option_and_then (λ ds. each_of f (datas ds))) is
    ∙ ap (each_of f) (datas-items_of (map view vs)) ∙ each_of-map view f vs

-- the pools of a map are read of the values of its list
pub map_of-list : (d e : Data) (vs : List Value) → has_only is_map_key d ≡ true
    → get (codes "pools") d ≡ Some e → as_array e ≡ Some (items_view vs)
    → map_in_data d ≡ each_of (λ v. pool_of (view v)) vs
map_of-list d e vs only got list =
    ap (λ b. cond b (option_and_then (listed pool_of) (get (codes "pools") d)) None) only ∙ ap (option_and_then (listed pool_of)) got
    ∙ listed-array pool_of e vs list

pub if_some-filled : {A : Type 0} (xs : List A) → 1 ≤ length xs → if_some xs ≡ Some xs
if_some-filled [] some = absurd (omega (arith, some))
if_some-filled (x ∷ xs) some = refl

pub only_weaker : (fault : MapFault) (P Q : Type 0) (why : MapFault) → (P → Q) → Only fault P why
    → Only fault Q why
only_weaker fault P Q why then h = elim h [ inl e ↦ inl e | inr e ↦ inr (e.0, then e.1) ]

-- the keys of an object
pub has_only-object : (is_key : List ℕ → Bool) (d : Data) (es : List (String Global × Value))
    → Some (members_view es) ≡ as_object d
    → list_all (λ k. is_key (string_bytes k)) (keys_of es) ≡ has_only is_key d
has_only-object is_key null es e = absurd (cc)
has_only-object is_key (boolean b) es e = absurd (cc)
has_only-object is_key (number n) es e = absurd (cc)
has_only-object is_key (string s) es e = absurd (cc)
has_only-object is_key (array ds) es e = absurd (cc)
has_only-object is_key (object ms) es e =
    sym (all_keys-members_view is_key es) ∙ ap (all_keys is_key) (same_Some (members_view es) ms e)
