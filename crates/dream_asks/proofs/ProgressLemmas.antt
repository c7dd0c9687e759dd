-- What stands for the objects of a dream.
use Rattle.std.proofs.Common.{◌≡◌, ℕ, suc, ◌+◌, ◌<◌, ◌≤◌, Bool, true, false, cond, ◌==◌, List, [], ◌∷◌, ◌++◌, length, drop, get_or, append_assoc, refl, sym, ap, subst, ◌∙◌, Option, None, Some, is_some, eqb-true}
use Rattle.std.proofs.lemmas.List.{append-nil, drop_all, drop_more}
use Rattle.std.specs.Option.{option_map, option_and_then, option_or}
use Rattle.dream_asks.specs.Next.{asked_instances}
use Rattle.dream_asks.specs.Progress.{IsProgress, Progress, all_stand, came, itself, numbered, stands}
use Rattle.dream_asks.specs.declared.asks.DreamAsk.{DreamAsk}
use Rattle.task_model.specs.declared.task.Task.{Task}
use Rattle.transcript_model.specs.Dreaming.{Sent, all_replaced, first_tuple, paired, replaced, sent_instances}
use Rattle.transcript_model.specs.declared.entry.Entry.{Entry}

-- ---- lists and options

-- the next of a list, and what is left behind it
pub next_left : {A : Type 0} (xs : List A) (i : ℕ) (x : A) → i < length xs → x ≡ get_or xs i x
    → drop i xs ≡ x ∷ drop (i + 1) xs
next_left xs i x lt is = drop_more xs i x lt ∙ ap (λ y. y ∷ drop (i + 1) xs) (sym is)

pub or_assoc : {A : Type 0} (a b c : Option A) → option_or a (option_or b c) ≡ option_or (option_or a b) c
or_assoc None b c = refl
or_assoc (Some x) b c = refl

pub or_none : {A : Type 0} (a : Option A) → option_or a None ≡ a
or_none None = refl
or_none (Some x) = refl

-- ---- objects, one after another

front_none : (o : Option (List ℕ)) → o ≡ option_map (λ rest. [] ++ rest) o
front_none None = refl
front_none (Some rest) = refl

-- none of them was looked at
pub stood_none : (p : Progress) (all done : List ℕ) → done ≡ []
    → all_stand p all ≡ option_map (λ rest. done ++ rest) (all_stand p (drop 0 all))
stood_none p all done none =
    front_none (all_stand p all) ∙ ap (λ d. option_map (λ rest. d ++ rest) (all_stand p all)) (sym none)

module _ (p : Progress) (all done : List ℕ) (i o : ℕ) (lt : i < length all) (is : o ≡ get_or all i o)
    (so_far : all_stand p all ≡ option_map (λ rest. done ++ rest) (all_stand p (drop i all))) where
  looked : all_stand p all
      ≡ option_map (λ rest. done ++ rest)
      (option_and_then (λ object. option_map (λ objects. object ∷ objects) (all_stand p (drop (i + 1) all))) (stands p o))
  looked = so_far ∙ ap (λ os. option_map (λ rest. done ++ rest) (all_stand p os)) (next_left all i o lt is)

  -- an object stands for the next
  pub stood_next : (x : ℕ) (now : List ℕ) → stands p o ≡ Some x → now ≡ done ++ x ∷ []
      → all_stand p all ≡ option_map (λ rest. now ++ rest) (all_stand p (drop (i + 1) all))
  stood_next x now there is_now =
      looked
      ∙ ap (λ r. option_map (λ rest. done ++ rest)
      (option_and_then (λ object. option_map (λ objects. object ∷ objects) (all_stand p (drop (i + 1) all))) r)) there
      ∙ by (all_stand p (drop (i + 1) all))
      ∙ ap (λ d. option_map (λ rest. d ++ rest) (all_stand p (drop (i + 1) all))) (sym is_now)
    where
      by : (r : Option (List ℕ)) → option_map (λ rest. done ++ rest) (option_map (λ objects. x ∷ objects) r)
          ≡ option_map (λ rest. (done ++ x ∷ []) ++ rest) r
      by None = refl
      by (Some rest) = ap Some (sym (append_assoc done (x ∷ []) rest))

  -- none stands for the next
  pub stood_not : stands p o ≡ None → all_stand p all ≡ None
  stood_not there =
      looked
      ∙ ap (λ r. option_map (λ rest. done ++ rest)
      (option_and_then (λ object. option_map (λ objects. object ∷ objects) (all_stand p (drop (i + 1) all))) r)) there

-- all were looked at
pub stood_all : (p : Progress) (all done : List ℕ) (i : ℕ) → length all ≤ i
    → all_stand p all ≡ option_map (λ rest. done ++ rest) (all_stand p (drop i all)) → all_stand p all ≡ Some done
stood_all p all done i past so_far =
    so_far ∙ ap (λ os. option_map (λ rest. done ++ rest) (all_stand p os)) (drop_all i all past) ∙ ap Some (append-nil done)

-- ---- what a transcript's answers gave

module _ (task : Task) (before : List Entry) (real : ℕ) where
  pub replaced_came : (sent : List Sent) (o : ℕ)
      → replaced task before real sent o ≡ option_or (came task before sent o) (itself real o)
  replaced_came [] o = refl
  replaced_came (s ∷ sent) o =
      let first = option_and_then (λ objects. paired s.outputs objects o) (first_tuple task before s) in
      ap (option_or first) (replaced_came sent o) ∙ or_assoc first (came task before sent o) (itself real o)

pub came_joined : (task : Task) (entries : List Entry) (xs ys : List Sent) (o : ℕ)
    → came task entries (xs ++ ys) o ≡ option_or (came task entries xs o) (came task entries ys o)
came_joined task entries [] ys o = refl
came_joined task entries (s ∷ xs) ys o =
    let first = option_and_then (λ objects. paired s.outputs objects o) (first_tuple task entries s) in
    ap (option_or first) (came_joined task entries xs ys o)
    ∙ or_assoc first (came task entries xs o) (came task entries ys o)

module _ (task : Task) (before : List Entry) (p : Progress) (sent : List Sent) (is : IsProgress task before p sent) where
  pub stands_replaced : (o : ℕ) → stands p o ≡ replaced task before p.real sent o
  stands_replaced o = ap (λ r. option_or r (itself p.real o)) (is.values o) ∙ sym (replaced_came task before p.real sent o)

  pub all_stand_replaced : (os : List ℕ) → all_stand p os ≡ all_replaced task before p.real sent os
  all_stand_replaced [] = refl
  all_stand_replaced (o ∷ os) = λ k.
      option_and_then (λ object. option_map (λ objects. object ∷ objects) (all_stand_replaced os k)) (stands_replaced o k)

-- ---- requests

pub numbered_instances : (asks : List DreamAsk) (number : ℕ) → sent_instances (numbered number asks) ≡ asked_instances asks
numbered_instances [] number = refl
numbered_instances (a ∷ asks) number = ap (λ is. a.instance ∷ is) (numbered_instances asks (number + 1))

pub numbered_length : (asks : List DreamAsk) (number : ℕ) → length (numbered number asks) ≡ length asks
numbered_length [] number = refl
numbered_length (a ∷ asks) number = ap suc (numbered_length asks (number + 1))

-- ---- objects that came for placeholders

-- some object came for it before
put_kept : (b : Bool) (g : Option ℕ) (y : ℕ) (rest : Option ℕ) → (b ≡ true → is_some g ≡ true)
    → option_or g (cond b (Some y) rest) ≡ option_or g rest
put_kept b (Some z) y rest there = refl
put_kept true None y rest there = absurd (let bad : false ≡ true = there refl in cc)
put_kept false None y rest there = refl

-- none came for it before
put_new : (b : Bool) (g h : Option ℕ) (y : ℕ) (rest : Option ℕ) → (b ≡ true → g ≡ None) → h ≡ cond b (Some y) g
    → option_or g (cond b (Some y) rest) ≡ option_or h rest
put_new true g h y rest none is =
    ap (λ j. option_or j (Some y)) (none refl) ∙ sym (ap (λ j. option_or j rest) is)
put_new false g h y rest none is = sym (ap (λ j. option_or j rest) is)

-- the next placeholder and its object
module _ (all objects : List ℕ) (k x y : ℕ) (lt : k < length all) (is : x ≡ get_or all k x)
    (lt_y : k < length objects) (is_y : y ≡ get_or objects k y) where
  next_pair : (o : ℕ) → paired (drop k all) (drop k objects) o
      ≡ cond (x == o) (Some y) (paired (drop (k + 1) all) (drop (k + 1) objects) o)
  next_pair o = (λ i. paired (next_left all k x lt is i) (next_left objects k y lt_y is_y i) o)

  pub put_one : (g h : ℕ → Option ℕ) → g x ≡ None → ((o : ℕ) → h o ≡ cond (x == o) (Some y) (g o)) → (o : ℕ)
      → option_or (g o) (paired (drop k all) (drop k objects) o)
      ≡ option_or (h o) (paired (drop (k + 1) all) (drop (k + 1) objects) o)
  put_one g h none changed o =
      ap (option_or (g o)) (next_pair o)
      ∙ put_new (x == o) (g o) (h o) y (paired (drop (k + 1) all) (drop (k + 1) objects) o)
      (λ same. subst (λ q. g q ≡ None) (eqb-true x o same) none) (changed o)

  pub put_none : (g : ℕ → Option ℕ) → is_some (g x) ≡ true → (o : ℕ)
      → option_or (g o) (paired (drop k all) (drop k objects) o)
      ≡ option_or (g o) (paired (drop (k + 1) all) (drop (k + 1) objects) o)
  put_none g there o =
      ap (option_or (g o)) (next_pair o)
      ∙ put_kept (x == o) (g o) y (paired (drop (k + 1) all) (drop (k + 1) objects) o)
      (λ same. subst (λ q. is_some (g q) ≡ true) (eqb-true x o same) there)

-- no placeholder is left
pub none_more : (all objects : List ℕ) (k o : ℕ) (g : Option ℕ) → length all ≤ k
    → option_or g (paired (drop k all) (drop k objects) o) ≡ g
none_more all objects k o g past = ap (λ os. option_or g (paired os (drop k objects) o)) (drop_all k all past) ∙ or_none g

-- no object is left
pub none_left : (all objects : List ℕ) (k o : ℕ) (g : Option ℕ) → length objects ≤ k
    → option_or g (paired (drop k all) (drop k objects) o) ≡ g
none_left all objects k o g past =
    ap (λ os. option_or g (paired (drop k all) os o)) (drop_all k objects past) ∙ by (drop k all) ∙ or_none g
  where
    by : (os : List ℕ) → option_or g (paired os [] o) ≡ option_or g None
    by [] = refl
    by (p ∷ os) = refl
