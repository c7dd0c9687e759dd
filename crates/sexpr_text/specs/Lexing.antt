-- How a text is cut into tokens, rule by rule.
use Rattle.std.specs.Prelude.{◌≡◌, ◌≢◌, ℕ, ◌+◌, false, List, [], ◌∷◌, ◌++◌, length, map}
use Rattle.sexpr_text.specs.declared.class.Class.TheVariants.{Blank, Semicolon, Left, Right, Letter, Bad}
use Rattle.sexpr_text.specs.Tokens.{Token, class_of, folded, begins_word}

abbrev pub AreLetters : List ℕ → Type 0
AreLetters [] = Unit {0}
AreLetters (b ∷ bs) = (class_of b ≡ Letter) × AreLetters bs

-- 10 is the line feed
abbrev pub HasNoLineFeed : List ℕ → Type 0
HasNoLineFeed [] = Unit {0}
HasNoLineFeed (b ∷ bs) = (b ≢ 10) × HasNoLineFeed bs

-- The bytes, which begin at a place, have these tokens. White space has none. A comment has none either, and
-- runs to a line feed or to the end. A word is a run of letters that no letter follows, in lower case.
pub data Lexes : ℕ → List ℕ → List Token → Type 0 where
  no_bytes : {place : ℕ} → Lexes place [] []
  blank : {place b : ℕ} {bs : List ℕ} {ts : List Token} → class_of b ≡ Blank
      → Lexes (place + 1) bs ts → Lexes place (b ∷ bs) ts
  comment : {place b : ℕ} (body bs : List ℕ) {ts : List Token} → class_of b ≡ Semicolon
      → HasNoLineFeed body → Lexes (place + length body + 2) bs ts
      → Lexes place (b ∷ (body ++ 10 ∷ bs)) ts
  last_comment : {place b : ℕ} {body : List ℕ} → class_of b ≡ Semicolon → HasNoLineFeed body
      → Lexes place (b ∷ body) []
  left : {place b : ℕ} {bs : List ℕ} {ts : List Token} → class_of b ≡ Left → Lexes (place + 1) bs ts
      → Lexes place (b ∷ bs) (Token.left place ∷ ts)
  right : {place b : ℕ} {bs : List ℕ} {ts : List Token} → class_of b ≡ Right
      → Lexes (place + 1) bs ts → Lexes place (b ∷ bs) (Token.right place ∷ ts)
  bad : {place b : ℕ} {bs : List ℕ} {ts : List Token} → class_of b ≡ Bad → Lexes (place + 1) bs ts
      → Lexes place (b ∷ bs) (Token.bad place ∷ ts)
  word : {place b : ℕ} (letters bs : List ℕ) {ts : List Token} → AreLetters (b ∷ letters)
      → begins_word bs ≡ false → Lexes (place + length (b ∷ letters)) bs ts
      → Lexes place (b ∷ (letters ++ bs)) (Token.word (map folded (b ∷ letters)) place ∷ ts)
