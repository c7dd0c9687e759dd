-- The tokens that are computed are those that the rules give, and no others.
use Rattle.std.proofs.Common.{◌≡◌, ◌≢◌, ℕ, ◌+◌, Bool, true, false, not, ◌==◌, List, [], ◌∷◌, ◌++◌, length, map, refl, sym, ◌∙◌, ap, subst, arith}
use Rattle.std.proofs.lemmas.Bool.{eqb-true, eqb-false, ne_eqb}
use Rattle.sexpr_text.specs.declared.class.Class.{Class}
use Rattle.sexpr_text.specs.declared.class.Class.TheVariants.{Blank, Semicolon, Left, Right, Letter, Bad}
use Rattle.sexpr_text.specs.Tokens.{Token, tokens, class_of, folded, is_letter_class, begins_word, opens_comment, joined, letter_then, token_then}
use Rattle.sexpr_text.specs.Lexing.{AreLetters, HasNoLineFeed, Lexes, no_bytes, blank, comment, last_comment, left, right, bad, word}

-- bytes that begin in a comment
data InComment : ℕ → List ℕ → List Token → Type 0 where
  to_line_feed : {place : ℕ} (body bs : List ℕ) {ts : List Token} → HasNoLineFeed body
      → Lexes (place + length body + 1) bs ts → InComment place (body ++ 10 ∷ bs) ts
  to_end : {place : ℕ} {body : List ℕ} → HasNoLineFeed body → InComment place body []

abbrev LexesIn : Bool → ℕ → List ℕ → List Token → Type 0
LexesIn true place bs ts = InComment place bs ts
LexesIn false place bs ts = Lexes place bs ts

moved : {p : ℕ} {bs : List ℕ} {ts : List Token} (q : ℕ) → p ≡ q → Lexes p bs ts → Lexes q bs ts
moved {bs = bs} {ts = ts} q e l = subst (λ r. Lexes r bs ts) e l

longer : {bs : List ℕ} {ts : List Token} (b place next : ℕ) → next ≡ place + 1 → b ≢ 10
    → InComment next bs ts → InComment place (b ∷ bs) ts
longer b place next e n (to_line_feed body bs h l) =
    to_line_feed (b ∷ body) bs (n, h) (moved (place + length (b ∷ body) + 1) (omega arith) l)
longer b place next e n (to_end h) = to_end (n, h)

begun : {bs : List ℕ} {ts : List Token} (b place next : ℕ) → next ≡ place + 1
    → class_of b ≡ Semicolon → InComment next bs ts → Lexes place (b ∷ bs) ts
begun b place next e k (to_line_feed body bs h l) =
    comment body bs k h (moved (place + length body + 2) (omega arith) l)
begun b place next e k (to_end h) = last_comment k h

-- one more letter before a word
grown : {bs : List ℕ} {ts : List Token} (b place next : ℕ) → next ≡ place + 1 → class_of b ≡ Letter
    → begins_word bs ≡ true → Lexes next bs ts → Lexes place (b ∷ bs) (joined (folded b) place ts)
grown b place next e k f no_bytes = cc
grown b place next e k f (blank h l) = let g = ap is_letter_class h in cc
grown b place next e k f (comment body bs h n l) = let g = ap is_letter_class h in cc
grown b place next e k f (last_comment h n) = let g = ap is_letter_class h in cc
grown b place next e k f (left h l) = let g = ap is_letter_class h in cc
grown b place next e k f (right h l) = let g = ap is_letter_class h in cc
grown b place next e k f (bad h l) = let g = ap is_letter_class h in cc
grown b place next e k f (word {b = c} letters bs ls h l) =
    word (c ∷ letters) bs (k, ls) h (moved (place + length (b ∷ c ∷ letters)) (omega arith) l)

letter_lexes : (b place : ℕ) (bs : List ℕ) (ts : List Token) (v : Bool) → class_of b ≡ Letter
    → begins_word bs ≡ v → Lexes (place + 1) bs ts → Lexes place (b ∷ bs) (letter_then b place v ts)
letter_lexes b place bs ts true k f l = grown b place (place + 1) refl k f l
letter_lexes b place bs ts false k f l = word [] bs (k, tt) f l

token_lexes : (k : Class) (b place : ℕ) (bs : List ℕ) (ts : List Token) → class_of b ≡ k
    → LexesIn (opens_comment k) (place + 1) bs ts
    → Lexes place (b ∷ bs) (token_then k b place (begins_word bs) ts)
token_lexes Blank b place bs ts e l = blank e l
token_lexes Semicolon b place bs ts e l = begun b place (place + 1) refl e l
token_lexes Left b place bs ts e l = left e l
token_lexes Right b place bs ts e l = right e l
token_lexes Letter b place bs ts e l = letter_lexes b place bs ts (begins_word bs) e refl l
token_lexes Bad b place bs ts e l = bad e l

comment_lexes : (b place : ℕ) (bs : List ℕ) (ts : List Token) (v : Bool) → (b == 10) ≡ v
    → LexesIn (not v) (place + 1) bs ts → InComment place (b ∷ bs) ts
comment_lexes b place bs ts true e l =
    let f : place + 1 ≡ place + 0 + 1 = omega arith in
    subst (λ c. InComment place (c ∷ bs) ts) (sym (eqb-true b 10 e)) (to_line_feed [] bs tt (moved (place + 0 + 1) f l))
comment_lexes b place bs ts false e l = longer b place (place + 1) refl (eqb-false b 10 e) l

lexes_in : (in_comment : Bool) (place : ℕ) (bs : List ℕ)
    → LexesIn in_comment place bs (tokens in_comment place bs)
lexes_in true place [] = to_end tt
lexes_in false place [] = no_bytes
lexes_in true place (b ∷ bs) =
    comment_lexes b place bs (tokens (not (b == 10)) (place + 1) bs) (b == 10) refl (lexes_in (not (b == 10)) (place + 1) bs)
lexes_in false place (b ∷ bs) =
    token_lexes (class_of b) b place bs (tokens (opens_comment (class_of b)) (place + 1) bs) refl
    (lexes_in (opens_comment (class_of b)) (place + 1) bs)

-- The tokens that are computed follow the rules.
pub lexes_tokens : (place : ℕ) (bs : List ℕ) → Lexes place bs (tokens false place bs)
lexes_tokens place bs = lexes_in false place bs

-- the tokens from a byte of a known class on
class_tokens : (k : Class) (b place : ℕ) (bs : List ℕ) → class_of b ≡ k
    → tokens false place (b ∷ bs) ≡ token_then k b place (begins_word bs) (tokens (opens_comment k) (place + 1) bs)
class_tokens k b place bs e =
    ap (λ c. token_then c b place (begins_word bs) (tokens (opens_comment c) (place + 1) bs)) e

comment_tokens : (place : ℕ) (body bs : List ℕ) → HasNoLineFeed body
    → tokens true place (body ++ 10 ∷ bs) ≡ tokens false (place + length body + 1) bs
comment_tokens place [] bs h =
    let e : place + 1 ≡ place + 0 + 1 = omega arith in ap (λ p. tokens false p bs) e
comment_tokens place (b ∷ body) bs h =
    let e : place + 1 + length body + 1 ≡ place + length (b ∷ body) + 1 = omega arith in
    ap (λ v. tokens (not v) (place + 1) (body ++ 10 ∷ bs)) (ne_eqb b 10 h.0) ∙ comment_tokens (place + 1) body bs h.1
    ∙ ap (λ p. tokens false p bs) e

last_tokens : (place : ℕ) (body : List ℕ) → HasNoLineFeed body → tokens true place body ≡ []
last_tokens place [] h = refl
last_tokens place (b ∷ body) h =
    ap (λ v. tokens (not v) (place + 1) body) (ne_eqb b 10 h.0) ∙ last_tokens (place + 1) body h.1

word_tokens : (b place : ℕ) (letters bs : List ℕ) → AreLetters (b ∷ letters)
    → begins_word bs ≡ false
    → tokens false place (b ∷ (letters ++ bs))
    ≡ Token.word (map folded (b ∷ letters)) place ∷ tokens false (place + length (b ∷ letters)) bs
word_tokens b place [] bs ls f =
    class_tokens Letter b place bs ls.0
    ∙ ap (λ v. letter_then b place v (tokens false (place + 1) bs)) f
word_tokens b place (c ∷ letters) bs ls f =
    let e : place + 1 + length (c ∷ letters) ≡ place + length (b ∷ c ∷ letters) = omega arith in
    class_tokens Letter b place (c ∷ (letters ++ bs)) ls.0
    ∙ ap (λ k. letter_then b place (is_letter_class k) (tokens false (place + 1) (c ∷ (letters ++ bs)))) ls.1.0
    ∙ ap (joined (folded b) place) (word_tokens c (place + 1) letters bs ls.1 f)
    ∙ ap (λ p. Token.word (map folded (b ∷ c ∷ letters)) place ∷ tokens false p bs) e

-- The rules give no others.
pub tokens_unique : {place : ℕ} {bs : List ℕ} {ts : List Token} → Lexes place bs ts
    → ts ≡ tokens false place bs
tokens_unique no_bytes = refl
tokens_unique (blank {place} {b} {bs} e l) = tokens_unique l ∙ sym (class_tokens Blank b place bs e)
tokens_unique (comment {place} {b} body bs e h l) =
    let f : place + length body + 2 ≡ place + 1 + length body + 1 = omega arith in
    tokens_unique l ∙ ap (λ p. tokens false p bs) f ∙ sym (comment_tokens (place + 1) body bs h)
    ∙ sym (class_tokens Semicolon b place (body ++ 10 ∷ bs) e)
tokens_unique (last_comment {place} {b} {body} e h) =
    sym (last_tokens (place + 1) body h) ∙ sym (class_tokens Semicolon b place body e)
tokens_unique (left {place} {b} {bs} e l) =
    ap (λ us. Token.left place ∷ us) (tokens_unique l) ∙ sym (class_tokens Left b place bs e)
tokens_unique (right {place} {b} {bs} e l) =
    ap (λ us. Token.right place ∷ us) (tokens_unique l) ∙ sym (class_tokens Right b place bs e)
tokens_unique (bad {place} {b} {bs} e l) =
    ap (λ us. Token.bad place ∷ us) (tokens_unique l) ∙ sym (class_tokens Bad b place bs e)
tokens_unique (word {place} {b} letters bs ls f l) =
    ap (λ us. Token.word (map folded (b ∷ letters)) place ∷ us) (tokens_unique l)
    ∙ sym (word_tokens b place letters bs ls f)
