-- What a text is: a tree, or a text with a fault.
use Rattle.std.specs.Prelude.{◌≡◌, ℕ, ◌+◌, ◌-◌, ◌==◌, nat_lt, if◌then◌else◌, List, [], ◌∷◌, length, Option, Some, None, Result, Ok, Err}
use Rattle.sexpr_text.specs.declared.fault.TextFault.{TextFault}
use Rattle.sexpr_text.specs.declared.fault.TextFault.TheVariants.{BadByte, Unclosed, Extra, TooDeep, Memory}
use Rattle.sexpr_text.specs.Tokens.{Token, tokens_of}
use Rattle.sexpr_text.specs.Trees.{Trees, nothing, word, list}

-- Where a token stands: before the list, in this many lists, or after the list.
pub data ReadingStage : Type 0 where
  before : ReadingStage
  inside : ℕ → ReadingStage
  after : ReadingStage

-- where the next token stands when the innermost of this many lists is closed
abbrev pub out_of : ℕ → ReadingStage
out_of d = if d == 1 then after else inside (d - 1)

-- the fault of a token that stands before or after the list
abbrev pub outside_fault : Token → TextFault
outside_fault (Token.word text place) = Extra place
outside_fault (Token.left place) = Extra place
outside_fault (Token.right place) = Extra place
outside_fault (Token.bad place) = BadByte place

-- The first fault of the tokens from left to right, in a text that ends at the place end.
abbrev pub first_fault : ℕ → ReadingStage → List Token → Option TextFault
first_fault end before [] = Some (Unclosed end)
first_fault end before (Token.left place ∷ ts) = first_fault end (inside 1) ts
first_fault end before (t ∷ ts) = Some (outside_fault t)
first_fault end (inside d) [] = Some (Unclosed end)
first_fault end (inside d) (Token.word text place ∷ ts) = first_fault end (inside d) ts
first_fault end (inside d) (Token.left place ∷ ts) =
    if nat_lt d 64 then first_fault end (inside (d + 1)) ts else Some (TooDeep place)
first_fault end (inside d) (Token.right place ∷ ts) = first_fault end (out_of d) ts
first_fault end (inside d) (Token.bad place ∷ ts) = Some (BadByte place)
first_fault end after [] = None
first_fault end after (t ∷ ts) = Some (outside_fault t)

-- Trees by the lists that they stand in: those of the innermost list, and those that follow in each list around it.
pub record Levels : Type 0 where
  pub inner : Trees
  pub outer : List Trees

-- a `(` before the levels
abbrev pub opened : ℕ → Trees → List Trees → Levels
opened place inner [] = record { inner = list inner place nothing; outer = [] }
opened place inner (next ∷ outer) = record { inner = list inner place next; outer = outer }

-- The trees of tokens, from right to left: a `)` begins a list, and the `(` before it ends that list.
abbrev pub levels : List Token → Levels
levels [] = record { inner = nothing; outer = [] }
levels (Token.word text place ∷ ts) =
    record (levels ts) { inner = word text place (levels ts).inner }
levels (Token.left place ∷ ts) = opened place (levels ts).inner (levels ts).outer
levels (Token.right place ∷ ts) =
    record { inner = nothing; outer = (levels ts).inner ∷ (levels ts).outer }
levels (Token.bad place ∷ ts) = levels ts

abbrev pub unless_fault : Option TextFault → Trees → Result Trees TextFault
unless_fault None t = Ok t
unless_fault (Some fault) t = Err fault

-- the tree that the bytes spell, or their first fault
unfoldable pub reading : List ℕ → Result Trees TextFault
reading bytes = unless_fault (first_fault (length bytes) before (tokens_of bytes)) (levels (tokens_of bytes)).inner

-- What failed so fails by the definition too, unless memory ran out.
abbrev pub Fails : {Y : Type 0} → TextFault → Result Y TextFault → Type 0
Fails Memory read = Unit {0}
Fails (BadByte place) read = read ≡ Err (BadByte place)
Fails (Unclosed place) read = read ≡ Err (Unclosed place)
Fails (Extra place) read = read ≡ Err (Extra place)
Fails (TooDeep place) read = read ≡ Err (TooDeep place)

-- What was answered, seen so, is what the definition gives, unless memory ran out.
abbrev pub GivesRead : {X Y : Type 0} → (X → Y) → Result X TextFault → Result Y TextFault → Type 0
GivesRead view (Ok x) read = read ≡ Ok (view x)
GivesRead view (Err e) read = Fails e read
