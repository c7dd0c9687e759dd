-- Tokens at the front of bytes.
use Rattle.std.proofs.Common.{◌≡◌, ℕ, suc, ◌+◌, ◌<◌, ◌≤◌, Bool, true, false, cond, ◌&&◌, ◌==◌, List, [], ◌∷◌, ◌++◌, map, length, drop, take, get_or, refl, subst, sym, ◌∙◌, ap, arith, eqb-true}
use Rattle.std.specs.List.{take_while, prefix_len}
use Rattle.std.proofs.Math.Seq.{drop-cons, take-suc}
use Rattle.std.proofs.lemmas.List.{append_assoc, length-map}
use Rattle.std.proofs.lemmas.List.Folds.{length-prefix_len}
use Rattle.std.proofs.lemmas.List.Sums.{take_while-cons, prefix_len-le-length}
use Rattle.sexpr_text.specs.declared.class.Class.{Class}
use Rattle.sexpr_text.specs.declared.class.Class.TheVariants.{Blank, Semicolon, Left, Right, Letter, Bad}
use Rattle.sexpr_text.specs.declared.scanner.Lexeme.TheVariants as lexemes
use Rattle.sexpr_text.specs.Tokens.{class_of, is_letter_class, folded, tokens, Token, token_then, letter_then, joined, begins_word, opens_comment}
use Rattle.sexpr_text.specs.Scanning.{folded_word, BeginsWith, is_low}

-- a word at a place and the tokens after it
abbrev pub word_then : List ℕ → ℕ → List ℕ → List Token
word_then letters place bs =
    Token.word letters place ∷ tokens false (place + length letters) (drop (length letters) bs)

-- the token of a letter
letter_tokens : (k : Class) (b place : ℕ) (v : Bool) (bs : List ℕ) → is_letter_class k ≡ true
    → token_then k b place v (tokens (opens_comment k) (place + 1) bs) ≡ letter_then b place v (tokens false (place + 1) bs)
letter_tokens Blank b place v bs e = cc
letter_tokens Semicolon b place v bs e = cc
letter_tokens Left b place v bs e = cc
letter_tokens Right b place v bs e = cc
letter_tokens Letter b place v bs e = refl
letter_tokens Bad b place v bs e = cc

folded_word-cons : (b : ℕ) (bs : List ℕ) (v : Bool) → is_letter_class (class_of b) ≡ v
    → folded_word (b ∷ bs) ≡ cond v (folded b ∷ folded_word bs) []
folded_word-cons b bs v e =
    ap (map folded) (take_while-cons (λ c. is_letter_class (class_of c)) b bs)
    ∙ ap (λ w. map folded (cond w (b ∷ take_while (λ c. is_letter_class (class_of c)) bs) [])) e
    ∙ (elim v as (λ w. map folded (cond w (b ∷ take_while (λ c. is_letter_class (class_of c)) bs) []) ≡ cond w (folded b ∷ folded_word bs) [])
    [ true ↦ refl | false ↦ refl ])

-- A letter behind others is the next one of their word.
pub letter_next : (bs ls ms : List ℕ) (i : ℕ) (v : Bool) → i < length bs
    → v ≡ is_letter_class (class_of (get_or bs i 0)) → v ≡ true
    → folded_word bs ≡ ls ++ folded_word (drop i bs) → ms ≡ ls ++ folded (get_or bs i 0) ∷ []
    → folded_word bs ≡ ms ++ folded_word (drop (i + 1) bs)
letter_next bs ls ms i v within e letter so_far more =
    let next : suc i ≡ i + 1 = omega arith in
    so_far
    ∙ ap (λ cs. ls ++ folded_word cs) (drop-cons bs i 0 within)
    ∙ ap (λ k. ls ++ folded_word (get_or bs i 0 ∷ drop k bs)) next
    ∙ ap (λ cs. ls ++ cs) (folded_word-cons (get_or bs i 0) (drop (i + 1) bs) true (sym e ∙ letter))
    ∙ sym (append_assoc ls (folded (get_or bs i 0) ∷ []) (folded_word (drop (i + 1) bs)))
    ∙ ap (λ cs. cs ++ folded_word (drop (i + 1) bs)) (sym more)

both_hold : (v w : Bool) → (v && w) ≡ true → (v ≡ true) × (w ≡ true)
both_hold true w e = (refl, e)
both_hold false w e = cc

-- A letter that stands for itself is the next one of the word of which the bytes before it are the beginning.
pub low_next : (bs : List ℕ) (i : ℕ) → i < length bs → is_low (get_or bs i 0) ≡ true
    → folded_word bs ≡ take i bs ++ folded_word (drop i bs)
    → folded_word bs ≡ take (i + 1) bs ++ folded_word (drop (i + 1) bs)
low_next bs i within low so_far =
    let b : ℕ = get_or bs i 0 in
    let parts = both_hold (is_letter_class (class_of b)) (folded b == b) low in
    let next : i + 1 ≡ suc i = omega arith in
    letter_next bs (take i bs) (take (i + 1) bs) i true within (sym parts.0) refl so_far
    (ap (λ k. take k bs) next ∙ take-suc bs i 0 within ∙ ap (λ c. take i bs ++ c ∷ []) (sym (eqb-true (folded b) b parts.1)))

space_is_blank : (b : ℕ) → b ≡ 32 → class_of b ≡ Blank
unfolding class_of
space_is_blank b e = subst (λ m. class_of m ≡ Blank) (sym e) refl

-- A space has no token.
pub space_first : (bs : List ℕ) → 0 < length bs → get_or bs 0 0 ≡ 32 → (place : ℕ)
    → tokens false place bs ≡ tokens false (place + 1) (drop 1 bs)
space_first [] some e place = absurd (omega (arith, some))
space_first (b ∷ bs) some e place =
    ap (λ k. token_then k b place (begins_word bs) (tokens (opens_comment k) (place + 1) bs)) (space_is_blank b e)

shifted : (b x place : ℕ) (ls bs : List ℕ)
    → tokens false (place + 1 + length ls) (drop (length ls) bs) ≡ tokens false (place + length (x ∷ ls)) (drop (length (x ∷ ls)) (b ∷ bs))
shifted b x place ls bs =
    let f : place + 1 + length ls ≡ place + length (x ∷ ls) = omega arith in ap (λ p. tokens false p (drop (length ls) bs)) f

-- a letter in front of a byte of which it is known whether it is a letter
after_letter : (b place c : ℕ) (cs : List ℕ) (v : Bool) → is_letter_class (class_of c) ≡ v
    → (v ≡ true → tokens false (place + 1) (c ∷ cs) ≡ word_then (folded c ∷ folded_word cs) (place + 1) (c ∷ cs))
    → letter_then b place v (tokens false (place + 1) (c ∷ cs)) ≡ word_then (folded b ∷ folded_word (c ∷ cs)) place (b ∷ c ∷ cs)
after_letter b place c cs true e more =
    ap (joined (folded b) place) (more refl)
    ∙ ap (λ ts. Token.word (folded b ∷ folded c ∷ folded_word cs) place ∷ ts)
    (shifted b (folded b) place (folded c ∷ folded_word cs) (c ∷ cs))
    ∙ ap (λ ls. word_then (folded b ∷ ls) place (b ∷ c ∷ cs)) (sym (folded_word-cons c cs true e))
after_letter b place c cs false e more =
    ap (λ ls. word_then (folded b ∷ ls) place (b ∷ c ∷ cs)) (sym (folded_word-cons c cs false e))

-- Where a letter stands first, its word is the first token.
pub word_first : (b place : ℕ) (bs : List ℕ) → is_letter_class (class_of b) ≡ true
    → tokens false place (b ∷ bs) ≡ word_then (folded b ∷ folded_word bs) place (b ∷ bs)
word_first b place [] e = letter_tokens (class_of b) b place false [] e
word_first b place (c ∷ cs) e =
    letter_tokens (class_of b) b place (begins_word (c ∷ cs)) (c ∷ cs) e
    ∙ after_letter b place c cs (is_letter_class (class_of c)) refl (word_first c (place + 1) cs)

folded_word-within : (bs : List ℕ) → length (folded_word bs) ≤ length bs
folded_word-within bs =
    let p : ℕ → Bool = λ b. is_letter_class (class_of b) in
    let e : length (folded_word bs) ≡ length (take (prefix_len p bs) bs) = length-map (take_while p bs) folded in
    let f : length (take (prefix_len p bs) bs) ≡ prefix_len p bs = length-prefix_len p bs in
    let g : prefix_len p bs ≤ length bs = prefix_len-le-length p bs in
    omega arith

begins : (b : ℕ) (bs : List ℕ) → is_letter_class (class_of b) ≡ true
    → BeginsWith (lexemes.Word (folded_word (b ∷ bs))) (length (folded_word (b ∷ bs))) (b ∷ bs)
begins b bs e = record {
  within = folded_word-within (b ∷ bs);
  first = λ place. word_first b place bs e ∙ ap (λ ls. word_then ls place (b ∷ bs)) (sym (folded_word-cons b bs true e));
}

-- Bytes that begin with a letter begin with its word.
pub word_begins : (bs text : List ℕ) (taken : ℕ) → 0 < length bs → Letter ≡ class_of (get_or bs 0 0)
    → text ≡ folded_word bs → taken ≡ length text → BeginsWith (lexemes.Word text) taken bs
word_begins [] text taken some e f g = absurd (omega arith)
word_begins (b ∷ bs) text taken some e f g =
    subst (λ n. BeginsWith (lexemes.Word text) n (b ∷ bs)) (sym g)
    (subst (λ t. BeginsWith (lexemes.Word t) (length t) (b ∷ bs)) (sym f) (begins b bs (ap is_letter_class (sym e))))
