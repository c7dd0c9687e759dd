-- Texts that are written to a sink piece by piece.
use Rattle.std.proofs.Common.{◌≡◌, ℕ, ◌+◌, ◌<◌, arith, List, [], ◌++◌, length, take, Option, None, Some, Result, Ok, Err, refl, sym, subst, ap, ◌∙◌, append_assoc}
use Rattle.std.proofs.Math.Seq.{take-append-add}
use Rattle.std.proofs.lemmas.List.{append-nil, length-append, take-append-le}
use Rattle.std.proofs.lemmas.Result.{err_from_is_err_and}
use Rattle.std.specs.Io.KnownBytes.{Appends}
use Rattle.std.specs.Result.{IsErrAnd, OnErr, OnOk}
use Rattle.report_text.specs.Prints.{CutOff, Prints}

pub appends_none : (old : Option (List ℕ)) → Appends old old []
appends_none None = tt
appends_none (Some xs) = sym (append-nil xs)

pub appends_then : (old mid new : Option (List ℕ)) (xs ys : List ℕ) → Appends old mid xs
    → Appends mid new ys → Appends old new (xs ++ ys)
appends_then None mid new xs ys first second = tt
appends_then (Some a) None new xs ys first second = absurd first
appends_then (Some a) (Some b) None xs ys first second = absurd second
appends_then (Some a) (Some b) (Some c) xs ys first second =
    second ∙ ap (λ front. front ++ ys) first ∙ append_assoc a xs ys

-- what a call that writes all says, in these words
pub prints_written : {T E : Type 0} (r : Result T E) (old new : Option (List ℕ)) (bytes : List ℕ)
    → OnOk r (Appends old new bytes)
    → OnErr r ((n : ℕ) × (n < length bytes) × Appends old new (take n bytes)) → Prints r old new bytes
prints_written (Ok x) old new bytes all part = all
prints_written (Err fault) old new bytes all (n, less, took) = record { count = n; less = less; took = took }

cut_more : (old new : Option (List ℕ)) (xs ys : List ℕ) → CutOff old new xs
    → CutOff old new (xs ++ ys)
cut_more old new xs ys c = record {
  count = c.count;
  less = omega (arith, c.less, length-append xs ys);
  took =
      subst (Appends old new) (sym (take-append-le c.count xs ys (omega (arith, c.less)))) c.took;
}

cut_then : (old mid new : Option (List ℕ)) (xs ys : List ℕ) → Appends old mid xs → CutOff mid new ys
    → CutOff old new (xs ++ ys)
cut_then old mid new xs ys first c = record {
  count = length xs + c.count;
  less = omega (arith, c.less, length-append xs ys);
  took = subst (Appends old new) (sym (take-append-add xs ys c.count)) (appends_then old mid new xs (take c.count ys) first c.took);
}

-- a piece failed, behind which more was to come
pub prints_cut : {T E : Type 0} (r : Result T E) (fault : E) (old new : Option (List ℕ)) (xs ys all : List ℕ)
    → all ≡ xs ++ ys
    → IsErrAnd r (λ y. y ≡ fault) → CutOff old new xs → Prints r old new all
prints_cut r fault old new xs ys all whole is cut =
    rw (err_from_is_err_and r is).1 (subst (CutOff old new) (sym whole) (cut_more old new xs ys cut))

-- pieces were written, and then one failed, behind which more was to come
pub prints_later : {T E : Type 0} (r : Result T E) (fault : E) (old mid new : Option (List ℕ)) (xs ys zs all : List ℕ)
    → all ≡ (xs ++ ys) ++ zs → IsErrAnd r (λ y. y ≡ fault) → Appends old mid xs → CutOff mid new ys → Prints r old new all
prints_later r fault old mid new xs ys zs all whole is first cut =
    prints_cut r fault old new (xs ++ ys) zs all whole is (cut_then old mid new xs ys first cut)

-- pieces were written, and then the last
pub prints_last : {T E : Type 0} (r : Result T E) (old mid new : Option (List ℕ)) (xs ys all : List ℕ)
    → all ≡ xs ++ ys
    → Appends old mid xs → Prints r mid new ys → Prints r old new all
prints_last (Ok x) old mid new xs ys all whole first rest =
    subst (Appends old new) (sym whole) (appends_then old mid new xs ys first rest)
prints_last (Err fault) old mid new xs ys all whole first cut =
    subst (CutOff old new) (sym whole) (cut_then old mid new xs ys first cut)

-- what was printed, in the words of clauses of their own
pub printed_all : {T E : Type 0} (r : Result T E) (old new : Option (List ℕ)) (bytes : List ℕ)
    → Prints r old new bytes
    → OnOk r (Appends old new bytes)
printed_all (Ok x) old new bytes p = p
printed_all (Err fault) old new bytes p = tt

pub printed_part : {T E : Type 0} (r : Result T E) (old new : Option (List ℕ)) (bytes : List ℕ)
    → Prints r old new bytes
    → OnErr r (CutOff old new bytes)
printed_part (Ok x) old new bytes p = tt
printed_part (Err fault) old new bytes p = p

-- So much was written that with these bytes it is all.
pub record IsBehind (old new : Option (List ℕ)) (left all : List ℕ) : Type 0 where
  pub bytes : List ℕ
  pub whole : all ≡ bytes ++ left
  pub took : Appends old new bytes

pub behind_none : (old : Option (List ℕ)) (all : List ℕ) → IsBehind old old all all
behind_none old all = record { bytes = []; whole = refl; took = appends_none old }

pub behind_next : (old mid new : Option (List ℕ)) (piece left rest all : List ℕ)
    → left ≡ piece ++ rest → Appends mid new piece
    → IsBehind old mid left all → IsBehind old new rest all
behind_next old mid new piece left rest all is next b = record {
  bytes = b.bytes ++ piece;
  whole = b.whole ∙ ap (λ t. b.bytes ++ t) is ∙ sym (append_assoc b.bytes piece rest);
  took = appends_then old mid new b.bytes piece b.took next;
}

pub behind_cut : {T E : Type 0} (r : Result T E) (fault : E) (old mid new : Option (List ℕ)) (piece left rest all : List ℕ)
    → left ≡ piece ++ rest → IsErrAnd r (λ y. y ≡ fault) → IsBehind old mid left all → CutOff mid new piece
    → Prints r old new all
behind_cut r fault old mid new piece left rest all is err b cut =
    prints_later r fault old mid new b.bytes piece rest all
    (b.whole ∙ ap (λ t. b.bytes ++ t) is ∙ sym (append_assoc b.bytes piece rest)) err b.took cut

pub behind_last : {T E : Type 0} (r : Result T E) (old mid new : Option (List ℕ)) (left all : List ℕ)
    → IsBehind old mid left all
    → Prints r mid new left → Prints r old new all
behind_last r old mid new left all b last =
    prints_last r old mid new b.bytes left all b.whole b.took last
