-- Which faults a text has, wherever they stand, and which of them is answered.
use Rattle.std.specs.Prelude.{◌≡◌, ℕ, ◌+◌, ◌<◌, ◌≤◌, ◌⊎◌, List, [], ◌∷◌, ◌++◌, length}
use Rattle.sexpr_text.specs.declared.fault.TextFault.{TextFault}
use Rattle.sexpr_text.specs.declared.fault.TextFault.TheVariants.{BadByte, Unclosed, Extra, TooDeep, Memory}
use Rattle.sexpr_text.specs.Tokens.{Token}
use Rattle.sexpr_text.specs.Lexing.{Lexes}
use Rattle.sexpr_text.specs.Trees.{Trees}
use Rattle.sexpr_text.specs.Spelling.{Begins, IsOneList}

abbrev pub token_place : Token → ℕ
token_place (Token.word text place) = place
token_place (Token.left place) = place
token_place (Token.right place) = place
token_place (Token.bad place) = place

-- how many `(` there are
abbrev pub lefts : List Token → ℕ
lefts [] = 0
lefts (Token.word text place ∷ ts) = lefts ts
lefts (Token.left place ∷ ts) = 1 + lefts ts
lefts (Token.right place ∷ ts) = lefts ts
lefts (Token.bad place ∷ ts) = lefts ts

-- how many `)` there are
abbrev pub rights : List Token → ℕ
rights [] = 0
rights (Token.word text place ∷ ts) = rights ts
rights (Token.left place ∷ ts) = rights ts
rights (Token.right place ∷ ts) = 1 + rights ts
rights (Token.bad place ∷ ts) = rights ts

abbrev pub IsNotLeft : Token → Type 0
IsNotLeft (Token.left place) = ⊥
IsNotLeft _ = Unit {0}

-- The token stands right behind this front of the tokens.
pub record Stands (ts front : List Token) (t : Token) : Type 0 where
  pub behind : List Token
  pub split : ts ≡ front ++ t ∷ behind

-- The tokens begin with one whole list, and these come after it.
pub record AfterList (ts us : List Token) : Type 0 where
  pub whole : Trees
  pub one : IsOneList whole
  pub tokens : Begins whole ts us

-- A token outside of the list: the first one, if it is no `(`, or one that comes after a whole list.
pub data IsOutside (ts : List Token) (t : Token) : Type 0 where
  first_token : Stands ts [] t → IsNotLeft t → IsOutside ts t
  behind_list : {us front : List Token} → AfterList ts us → Stands us front t → IsOutside ts t

pub record HasBad (ts : List Token) (place : ℕ) : Type 0 where
  pub front : List Token
  pub stands : Stands ts front (Token.bad place)

-- No whole list is there, in a text that ends at this place.
pub record EndsTooSoon (end : ℕ) (ts : List Token) (place : ℕ) : Type 0 where
  pub at_end : place ≡ end
  pub no_list : (us : List Token) → AfterList ts us → ⊥

pub record HasExtra (ts : List Token) (place : ℕ) : Type 0 where
  pub token : Token
  pub at_place : token_place token ≡ place
  pub outside : IsOutside ts token

-- A `(` is there before which 64 more lists are opened than closed.
pub record OpensTooDeep (ts : List Token) (place : ℕ) : Type 0 where
  pub front : List Token
  pub stands : Stands ts front (Token.left place)
  pub deep : lefts front ≡ rights front + 64

-- Tokens of a text that ends at this place have this fault, perhaps among others.
abbrev pub IsFaultOf : ℕ → List Token → TextFault → Type 0
IsFaultOf end ts (BadByte place) = HasBad ts place
IsFaultOf end ts (Unclosed place) = EndsTooSoon end ts place
IsFaultOf end ts (Extra place) = HasExtra ts place
IsFaultOf end ts (TooDeep place) = OpensTooDeep ts place
IsFaultOf end ts Memory = ⊥

-- The text has this fault.
pub record HasFault (bytes : List ℕ) (f : TextFault) : Type 0 where
  pub tokens : List Token
  pub lexed : Lexes 0 bytes tokens
  pub fault : IsFaultOf (length bytes) tokens f

abbrev pub fault_place : TextFault → ℕ
fault_place (BadByte place) = place
fault_place (Unclosed place) = place
fault_place (Extra place) = place
fault_place (TooDeep place) = place
fault_place Memory = 0

-- the kinds in their order, which counts where two faults have one place
abbrev pub fault_number : TextFault → ℕ
fault_number (BadByte place) = 1
fault_number (Unclosed place) = 2
fault_number (Extra place) = 3
fault_number (TooDeep place) = 4
fault_number Memory = 5

-- The one has the lesser place, or at one place the lesser number, if they aren't the same.
abbrev pub ComesFirst : TextFault → TextFault → Type 0
ComesFirst f g =
    (fault_place f < fault_place g)
    ⊎ ((fault_place f ≡ fault_place g) × (fault_number f ≤ fault_number g))

-- The text has this fault, and any other that it has comes after it.
pub record IsLeastFault (bytes : List ℕ) (f : TextFault) : Type 0 where
  pub has : HasFault bytes f
  pub least : (g : TextFault) → HasFault bytes g → ComesFirst f g

-- What is told of the text, which is nothing where memory ran out.
abbrev pub BlamesPlace : List ℕ → TextFault → Type 0
BlamesPlace bytes Memory = Unit {0}
BlamesPlace bytes (BadByte place) = IsLeastFault bytes (BadByte place)
BlamesPlace bytes (Unclosed place) = IsLeastFault bytes (Unclosed place)
BlamesPlace bytes (Extra place) = IsLeastFault bytes (Extra place)
BlamesPlace bytes (TooDeep place) = IsLeastFault bytes (TooDeep place)

-- The text has no fault at all.
abbrev pub HasNoFault : List ℕ → Type 0
HasNoFault bytes = (f : TextFault) → HasFault bytes f → ⊥
