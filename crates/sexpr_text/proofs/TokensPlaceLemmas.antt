-- The places of tokens ascend.
use Rattle.std.proofs.Common.{◌≡◌, ℕ, ◌+◌, ◌<◌, ◌≤◌, Bool, true, false, not, ◌==◌, List, [], ◌∷◌, length, ap, arith}
use Rattle.sexpr_text.specs.declared.class.Class.{Class}
use Rattle.sexpr_text.specs.declared.class.Class.TheVariants.{Blank, Semicolon, Left, Right, Letter, Bad}
use Rattle.sexpr_text.specs.Tokens.{Token, tokens, tokens_of, class_of, folded, begins_word, opens_comment, joined, letter_then, token_then}
use Rattle.sexpr_text.specs.Trees.{Trees}
use Rattle.sexpr_text.specs.Spelling.{Begins, with_none, with_word, with_list}
use Rattle.sexpr_text.specs.Faults.{token_place, Stands}

-- Each token has a place from the first number to below the last, and greater than those before it.
pub data Ascends : ℕ → ℕ → List Token → Type 0 where
  no_tokens : {low end : ℕ} → Ascends low end []
  next_token : {low end : ℕ} {t : Token} {ts : List Token} → low ≤ token_place t
      → token_place t < end → Ascends (token_place t + 1) end ts → Ascends low end (t ∷ ts)

pub ascends_lower : {low end : ℕ} {ts : List Token} (lower : ℕ) → lower ≤ low → Ascends low end ts
    → Ascends lower end ts
ascends_lower lower h no_tokens = no_tokens
ascends_lower lower h (next_token p q more) = next_token (omega arith) q more

ascends-joined : (b place end : ℕ) (ts : List Token) → place < end → Ascends (place + 1) end ts
    → Ascends place end (joined b place ts)
ascends-joined b place end [] h a = no_tokens
ascends-joined b place end (Token.word text p ∷ ts) h (next_token low high more) =
    next_token (omega arith) h (ascends_lower (place + 1) (omega arith) more)
ascends-joined b place end (Token.left p ∷ ts) h a = ascends_lower place (omega arith) a
ascends-joined b place end (Token.right p ∷ ts) h a = ascends_lower place (omega arith) a
ascends-joined b place end (Token.bad p ∷ ts) h a = ascends_lower place (omega arith) a

ascends-letter_then : (b place end : ℕ) (v : Bool) (ts : List Token) → place < end
    → Ascends (place + 1) end ts → Ascends place end (letter_then b place v ts)
ascends-letter_then b place end true ts h a = ascends-joined (folded b) place end ts h a
ascends-letter_then b place end false ts h a = next_token (omega arith) h a

ascends-token_then : (k : Class) (b place end : ℕ) (v : Bool) (ts : List Token) → place < end
    → Ascends (place + 1) end ts → Ascends place end (token_then k b place v ts)
ascends-token_then Blank b place end v ts h a = ascends_lower place (omega arith) a
ascends-token_then Semicolon b place end v ts h a = ascends_lower place (omega arith) a
ascends-token_then Left b place end v ts h a = next_token (omega arith) h a
ascends-token_then Right b place end v ts h a = next_token (omega arith) h a
ascends-token_then Letter b place end v ts h a = ascends-letter_then b place end v ts h a
ascends-token_then Bad b place end v ts h a = next_token (omega arith) h a

ascends-tokens : (in_comment : Bool) (place end : ℕ) (bs : List ℕ) → place + length bs ≤ end
    → Ascends place end (tokens in_comment place bs)
ascends-tokens true place end [] h = no_tokens
ascends-tokens false place end [] h = no_tokens
ascends-tokens true place end (b ∷ bs) h =
    ascends_lower place (omega arith) (ascends-tokens (not (b == 10)) (place + 1) end bs (omega arith))
ascends-tokens false place end (b ∷ bs) h =
    ascends-token_then (class_of b) b place end (begins_word bs) (tokens (opens_comment (class_of b)) (place + 1) bs) (omega arith)
    (ascends-tokens (opens_comment (class_of b)) (place + 1) end bs (omega arith))

-- The places in a text ascend, below its length.
pub ascends_of : (bytes : List ℕ) → Ascends 0 (length bytes) (tokens_of bytes)
ascends_of bytes = ascends-tokens false 0 (length bytes) bytes (omega arith)

pub ascends_tail : {low end : ℕ} {t : Token} {ts : List Token} → Ascends low end (t ∷ ts)
    → Ascends low end ts
ascends_tail {low} (next_token p q more) = ascends_lower low (omega arith) more

-- So do those that are left behind trees.
pub ascends_behind : {t : Trees} {low end : ℕ} {ts us : List Token} → Begins t ts us
    → Ascends low end ts → Ascends low end us
ascends_behind with_none a = a
ascends_behind (with_word b) a = ascends_behind b (ascends_tail a)
ascends_behind (with_list b b') a =
    ascends_behind b' (ascends_tail (ascends_behind b (ascends_tail a)))

pub stands_none : (front : List Token) (t : Token) → Stands [] front t → ⊥
stands_none [] t s = let e = s.split in cc
stands_none (x ∷ front) t s = let e = s.split in cc

pub stands_first : (x : Token) (ts : List Token) (t : Token) → Stands (x ∷ ts) [] t → x ≡ t
stands_first x ts t s = let e = s.split in cc

pub stands_later : (x y : Token) (ts front : List Token) (t : Token) → Stands (x ∷ ts) (y ∷ front) t
    → (x ≡ y) × Stands ts front t
stands_later x y ts front t s = let e = s.split in (cc, record { behind = s.behind; split = cc })

pub stands_more : (x : Token) (ts front : List Token) (t : Token) → Stands ts front t
    → Stands (x ∷ ts) (x ∷ front) t
stands_more x ts front t s = record { behind = s.behind; split = ap (λ us. x ∷ us) s.split }

-- A token that stands among others has a place between theirs.
pub stands_within : (low end : ℕ) (ts front : List Token) (t : Token) → Ascends low end ts
    → Stands ts front t → (low ≤ token_place t) × (token_place t < end)
stands_within low end [] front t a s = absurd (stands_none front t s)
stands_within low end (x ∷ ts) [] t (next_token p q more) s =
    let e : token_place x ≡ token_place t = ap token_place (stands_first x ts t s) in (omega arith, omega arith)
stands_within low end (x ∷ ts) (y ∷ front) t (next_token p q more) s =
    let w = stands_within (token_place x + 1) end ts front t more (stands_later x y ts front t s).1 in (omega arith, omega arith)
