-- What the scanner gives.
use Rattle.std.specs.Prelude.{◌≡◌, ℕ, ◌+◌, ◌≤◌, ◌==◌, ◌&&◌, Bool, true, false, List, [], ◌∷◌, Option, Some, None, length, drop, map}
use Rattle.std.specs.List.{take_while}
use Rattle.sexpr_text.specs.declared.class.Class.{Class}
use Rattle.sexpr_text.specs.declared.class.Class.TheVariants.{Blank, Semicolon, Left, Right, Letter}
use Rattle.sexpr_text.specs.declared.scanner.Lexeme.{Lexeme}
use Rattle.sexpr_text.specs.declared.scanner.Lexeme.TheVariants as lexemes
use Rattle.sexpr_text.specs.declared.scanner.Placed.{Placed}
use Rattle.sexpr_text.specs.Tokens.{Token, class_of, is_letter_class, folded, tokens}

abbrev pub IsToken : Class → Type 0
IsToken Blank = ⊥
IsToken Semicolon = ⊥
IsToken _ = Unit {0}

abbrev pub is_word_or_parenthesis : Class → Bool
is_word_or_parenthesis Left = true
is_word_or_parenthesis Right = true
is_word_or_parenthesis Letter = true
is_word_or_parenthesis _ = false

-- a byte of a word that stands for itself
abbrev pub is_low : ℕ → Bool
is_low b = is_letter_class (class_of b) && (folded b == b)

-- bytes outside comments that begin with a token, if there are any
abbrev pub IsAtToken : List ℕ → Type 0
IsAtToken [] = Unit {0}
IsAtToken (b ∷ bs) = IsToken (class_of b)

abbrev pub token_of : Lexeme → ℕ → Token
token_of (lexemes.Word text) place = Token.word text place
token_of lexemes.Left place = Token.left place
token_of lexemes.Right place = Token.right place
token_of lexemes.Bad place = Token.bad place

abbrev pub token : Placed → Token
token p = token_of p.lexeme p.place

-- the old tokens are the one that was taken, and the new ones
abbrev pub TakesToken : List Token → Option Placed → List Token → Type 0
TakesToken old None new = old ≡ []
TakesToken old (Some p) new = old ≡ token p ∷ new

-- the letters at the front of these bytes, in lower case
abbrev pub folded_word : List ℕ → List ℕ
folded_word bs = map folded (take_while (λ b. is_letter_class (class_of b)) bs)

-- The first token of these bytes takes this many of them, whatever the place that they begin at.
pub record BeginsWith (lexeme : Lexeme) (taken : ℕ) (bs : List ℕ) : Type 0 where
  pub within : taken ≤ length bs
  pub first : (place : ℕ)
      → tokens false place bs ≡ token_of lexeme place ∷ tokens false (place + taken) (drop taken bs)
