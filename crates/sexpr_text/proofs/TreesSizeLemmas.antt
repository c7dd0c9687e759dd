-- A tree is no larger than its text.
use Rattle.std.proofs.Common.{ℕ, ◌+◌, ◌≤◌, Bool, true, false, not, ◌==◌, List, [], ◌∷◌, length, subst, arith}
use Rattle.sexpr_text.specs.declared.class.Class.{Class}
use Rattle.sexpr_text.specs.declared.class.Class.TheVariants.{Blank, Semicolon, Left, Right, Letter, Bad}
use Rattle.sexpr_text.specs.Tokens.{Token, tokens, tokens_of, class_of, folded, begins_word, opens_comment, joined, letter_then, token_then}
use Rattle.sexpr_text.specs.Trees.{Trees, size}
use Rattle.sexpr_text.specs.Spelling.{Begins, with_none, with_word, with_list, Spells}
use Rattle.sexpr_text.proofs.LexingLemmas.{tokens_unique}

-- how many bytes the tokens have
abbrev weight : List Token → ℕ
weight [] = 0
weight (Token.word text place ∷ ts) = length text + weight ts
weight (Token.left place ∷ ts) = 1 + weight ts
weight (Token.right place ∷ ts) = 1 + weight ts
weight (Token.bad place ∷ ts) = 1 + weight ts

size_weight : {t : Trees} {ts us : List Token} → Begins t ts us → size t + weight us ≤ weight ts
size_weight with_none = omega arith
size_weight (with_word b) = let p = size_weight b in omega arith
size_weight (with_list b b') = let p = size_weight b in let q = size_weight b' in omega arith

weight-joined : (b place : ℕ) (ts : List Token) → weight (joined b place ts) ≤ 1 + weight ts
weight-joined b place [] = omega arith
weight-joined b place (Token.word text p ∷ ts) = omega arith
weight-joined b place (Token.left p ∷ ts) = omega arith
weight-joined b place (Token.right p ∷ ts) = omega arith
weight-joined b place (Token.bad p ∷ ts) = omega arith

weight-letter_then : (b place : ℕ) (v : Bool) (ts : List Token)
    → weight (letter_then b place v ts) ≤ 1 + weight ts
weight-letter_then b place true ts = weight-joined (folded b) place ts
weight-letter_then b place false ts = omega arith

weight-token_then : (k : Class) (b place : ℕ) (v : Bool) (ts : List Token)
    → weight (token_then k b place v ts) ≤ 1 + weight ts
weight-token_then Blank b place v ts = omega arith
weight-token_then Semicolon b place v ts = omega arith
weight-token_then Left b place v ts = omega arith
weight-token_then Right b place v ts = omega arith
weight-token_then Letter b place v ts = weight-letter_then b place v ts
weight-token_then Bad b place v ts = omega arith

weight-tokens : (in_comment : Bool) (place : ℕ) (bs : List ℕ)
    → weight (tokens in_comment place bs) ≤ length bs
weight-tokens true place [] = omega arith
weight-tokens false place [] = omega arith
weight-tokens true place (b ∷ bs) =
    let p = weight-tokens (not (b == 10)) (place + 1) bs in omega arith
weight-tokens false place (b ∷ bs) =
    let ts : List Token = tokens (opens_comment (class_of b)) (place + 1) bs in
    let p = weight-tokens (opens_comment (class_of b)) (place + 1) bs in
    let q = weight-token_then (class_of b) b place (begins_word bs) ts in
    omega arith

-- What is spelled by a text is no larger than it.
pub small : (bytes : List ℕ) (t : Trees) → Spells bytes t → size t ≤ length bytes
small bytes t s =
    let b : Begins t (tokens_of bytes) [] = subst (λ ts. Begins t ts []) (tokens_unique s.lexed) s.spelled in
    let p = size_weight b in
    let q = weight-tokens false 0 bytes in
    omega arith
