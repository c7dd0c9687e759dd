-- One member more, behind the others.
use Rattle.std.proofs.Common.{◌≡◌, ℕ, suc, ◌+◌, ◌<◌, List, [], ◌∷◌, ◌++◌, length, map, refl, sym, subst, ap, ◌∙◌, arith, All, append_assoc, length-append, Some, None}
use Rattle.std.proofs.lemmas.List.{map-append}
use Rattle.std.proofs.lemmas.List.Elements.{All-push}
use Rattle.report_text.specs.Texts.{Line}
use Rattle.report_reader.specs.Finding.{HasNo, shown_lines, TakesLine, TakesAll, TakesMany, TakesFewer}
use Rattle.report_reader.specs.Splits.{fields_of}

pub push_row : {A : Type 0} (xs : List A) (x : A) (left new all : List A) → xs ++ left ≡ all
    → left ≡ x ∷ new → (xs ++ x ∷ []) ++ new ≡ all
push_row xs x left new all is next =
    append_assoc xs (x ∷ []) new ∙ ap (λ l. xs ++ l) (sym next) ∙ is

-- the library's lemma, under a name that code can cite
pub all_push : {A : Type 0} (P : A → Type 0) (xs : List A) (x : A) → All P xs → P x
    → All P (xs ++ x ∷ [])
all_push P xs x all here = All-push P xs x all here

pub all_middle : {A : Type 0} (P : A → Type 0) (xs : List A) (x : A) (ys : List A)
    → All P (xs ++ x ∷ ys) → P x
all_middle P [] x ys all = all 0 x (omega arith)
all_middle P (z ∷ xs) x ys all = all_middle P xs x ys (λ k d lt. all (suc k) d (omega arith))

pub push_line : {A : Type 0} (line_of : A → Line) (xs : List A) (x : A) (left new all : List (List (List ℕ)))
    → shown_lines line_of xs ++ left ≡ all → fields_of (line_of x) ∷ new ≡ left → shown_lines line_of (xs ++ x ∷ []) ++ new ≡ all
push_line line_of xs x left new all is next =
    let shown : shown_lines line_of (xs ++ x ∷ []) ≡ shown_lines line_of xs ++ fields_of (line_of x) ∷ [] =
    ap (map fields_of) (map-append line_of xs (x ∷ [])) ∙ map-append fields_of (map line_of xs) (line_of x ∷ []) in
    ap (λ l. l ++ new) shown ∙ push_row (shown_lines line_of xs) (fields_of (line_of x)) left new all is (sym next)

-- the fields that are left begin with one that isn't of the form, so not all are
pub spoiled : {A : Type 0} (P : A → Type 0) (xs : List A) (x : A) (left new all ys : List A)
    → xs ++ left ≡ all → left ≡ x ∷ new → ¬ (P x)
    → All P ys → ¬ (ys ≡ all)
spoiled P xs x left new all ys is next not formed same =
    let whole : ys ≡ xs ++ x ∷ new = same ∙ sym is ∙ ap (λ l. xs ++ l) next in
    not (all_middle P xs x new (subst (All P) whole formed))

-- ---- a counted row of lines

pub many_next : {A : Type 0} (F : A → Type 0) (line_of : A → Line) (n : ℕ) (xs : List A) (x : A) (all left new : List (List (List ℕ)))
    → TakesMany F line_of n xs all left → TakesLine F line_of (Some x) left new → TakesMany F line_of (n + 1) (xs ++ x ∷ []) all new
many_next F line_of n xs x all left new many took = record {
  formed = All-push F xs x many.formed took.0;
  lines = push_line line_of xs x left new all many.lines took.1;
  many = omega (arith, length-append xs (x ∷ []), many.many);
}

pub many_stop : {A : Type 0} (F : A → Type 0) (line_of : A → Line) (n count : ℕ) (xs : List A) (all left new : List (List (List ℕ)))
    → TakesMany F line_of n xs all left → n < count → TakesLine F line_of None left new → TakesFewer F line_of count all new
many_stop F line_of n count xs all left new many lt none = record {
  xs = xs;
  formed = many.formed;
  lines = ap (λ l. shown_lines line_of xs ++ l) none.0 ∙ many.lines;
  fewer = omega (arith, many.many);
  none = subst (HasNo F (λ x. fields_of (line_of x))) (sym none.0) none.1;
}

pub many_push : {A : Type 0} (F : A → Type 0) (line_of : A → Line) (xs : List A) (x : A) (all left new : List (List (List ℕ)))
    → TakesMany F line_of (length xs) xs all left → TakesLine F line_of (Some x) left new
    → TakesMany F line_of (length (xs ++ x ∷ [])) (xs ++ x ∷ []) all new
many_push F line_of xs x all left new many took = record {
  formed = All-push F xs x many.formed took.0;
  lines = push_line line_of xs x left new all many.lines took.1;
  many = refl;
}

-- where no further line shows an item, these are all
pub many_all : {A : Type 0} (F : A → Type 0) (line_of : A → Line) (n : ℕ) (xs : List A) (all left new : List (List (List ℕ)))
    → TakesMany F line_of n xs all left → TakesLine F line_of None left new → TakesAll F line_of xs all new
many_all F line_of n xs all left new many none = record {
  formed = many.formed;
  lines = ap (λ l. shown_lines line_of xs ++ l) none.0 ∙ many.lines;
  none = subst (HasNo F (λ x. fields_of (line_of x))) (sym none.0) none.1;
}
