-- The words and parentheses of a text, each with its place.
use Rattle.std.specs.Prelude.{ℕ, ◌+◌, Bool, true, false, not, ◌&&◌, ◌||◌, ◌==◌, nat_le, if◌then◌else◌, List, [], ◌∷◌}
use Rattle.sexpr_text.specs.declared.class.Class.{Class}
use Rattle.sexpr_text.specs.declared.class.Class.TheVariants.{Blank, Semicolon, Left, Right, Letter, Bad}

-- A word with its letters, or a parenthesis. A byte that may not stand is a token too.
pub data Token : Type 0 where
  word : List ℕ → ℕ → Token
  left : ℕ → Token
  right : ℕ → Token
  bad : ℕ → Token

-- a tab, a line feed, a CR or a space
abbrev pub is_blank : ℕ → Bool
is_blank b = b == 9 || b == 10 || b == 13 || b == 32

-- what a byte does outside comments: 59 is `;`, 40 and 41 are the parentheses, 33 to 126 are `!` to `~`
unfoldable pub class_of : ℕ → Class
class_of b =
    if is_blank b then Blank else
    if b == 59 then Semicolon else
    if b == 40 then Left else
    if b == 41 then Right else
    if nat_le 33 b && nat_le b 126 then Letter else Bad

-- `A` to `Z` in lower case
unfoldable pub folded : ℕ → ℕ
folded b = if nat_le 65 b && nat_le b 90 then b + 32 else b

abbrev pub is_letter_class : Class → Bool
is_letter_class Letter = true
is_letter_class _ = false

abbrev pub opens_comment : Class → Bool
opens_comment Semicolon = true
opens_comment _ = false

abbrev pub begins_word : List ℕ → Bool
begins_word [] = false
begins_word (b ∷ bs) = is_letter_class (class_of b)

-- the word with one more letter at its front
abbrev pub joined : ℕ → ℕ → List Token → List Token
joined b place [] = []
joined b place (word text after ∷ ts) = word (b ∷ text) place ∷ ts
joined b place (left p ∷ ts) = left p ∷ ts
joined b place (right p ∷ ts) = right p ∷ ts
joined b place (bad p ∷ ts) = bad p ∷ ts

-- A letter before a letter belongs to the word that begins there, and else is a word alone.
abbrev pub letter_then : ℕ → ℕ → Bool → List Token → List Token
letter_then b place true ts = joined (folded b) place ts
letter_then b place false ts = word (folded b ∷ []) place ∷ ts

-- the token of a byte outside comments, and then the tokens after it
abbrev pub token_then : Class → ℕ → ℕ → Bool → List Token → List Token
token_then Blank b place before_letter ts = ts
token_then Semicolon b place before_letter ts = ts
token_then Left b place before_letter ts = left place ∷ ts
token_then Right b place before_letter ts = right place ∷ ts
token_then Letter b place before_letter ts = letter_then b place before_letter ts
token_then Bad b place before_letter ts = bad place ∷ ts

-- The tokens of bytes that begin at a place, in a comment or outside of one. A line feed ends a comment.
abbrev pub tokens : Bool → ℕ → List ℕ → List Token
tokens in_comment place [] = []
tokens true place (b ∷ bs) = tokens (not (b == 10)) (place + 1) bs
tokens false place (b ∷ bs) =
    token_then (class_of b) b place (begins_word bs) (tokens (opens_comment (class_of b)) (place + 1) bs)

-- the tokens of a text
abbrev pub tokens_of : List ℕ → List Token
tokens_of bytes = tokens false 0 bytes
