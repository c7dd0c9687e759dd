-- What the parts of the reader do.
use Rattle.std.specs.Prelude.{◌≡◌, ℕ, ◌+◌, Bool, true, false, List, [], ◌∷◌, ◌++◌, length}
use Rattle.std.specs.Prelude.{Option, Some, Result, Ok, Err}
use Rattle.sexpr_text.specs.declared.fault.TextFault.{TextFault}
use Rattle.sexpr_text.specs.declared.fault.TextFault.TheVariants.{BadByte, Unclosed, Extra, TooDeep, Memory}
use Rattle.sexpr_text.specs.Nodes.{Node}
use Rattle.sexpr_text.specs.declared.tree.Tree.{Tree}
use Rattle.sexpr_text.specs.declared.nest.Begun.{Begun}
use Rattle.sexpr_text.specs.declared.nest.Nest.{Nest}
use Rattle.sexpr_text.specs.Tokens.{Token}
use Rattle.sexpr_text.specs.Trees.{Trees, list, trees, trees_then}
use Rattle.sexpr_text.specs.Reading.{inside, after, first_fault, Levels, levels, opened}

-- Open lists, each with the place of its `(` and what stands in it so far, apart from what is open: one list, or a list
-- within other open ones.
pub data Opens : Type 0 where
  one : ℕ → List Node → Opens
  within : Opens → ℕ → List Node → Opens

-- how many lists are open
abbrev pub open_count : Opens → ℕ
open_count (one place row) = 1
open_count (within os place row) = open_count os + 1

-- the place of the outermost
abbrev pub outermost : Opens → ℕ
outermost (one place row) = place
outermost (within os place row) = outermost os

-- what stands in the outermost so far
abbrev pub row_of : Opens → List Node
row_of (one place row) = row
row_of (within os place row) = row_of os ++ Node.list 0 place ∷ row

-- the open lists in the outermost, the innermost last
abbrev pub begun_in : Opens → List Begun
begun_in (one place row) = []
begun_in (within os place row) = begun_in os ++ record { at = length (row_of os); place = place } ∷ []

-- the innermost list with more in it
abbrev pub added : Opens → List Node → Opens
added (one place row) more = one place (row ++ more)
added (within os place row) more = within os place (row ++ more)

-- the levels that begin with all that is open, where these follow
abbrev pub nested : Opens → Levels → Levels
nested (one place row) l = opened place (trees_then row l.inner) l.outer
nested (within os place row) l = nested os (opened place (trees_then row l.inner) l.outer)

-- The row's lists have in them no more than is there.
abbrev pub IsClosed : List Node → Type 0
IsClosed row = (more : List Node) (rest : Trees) → trees_then (row ++ more) rest ≡ trees_then row (trees_then more rest)

abbrev pub AreClosed : Opens → Type 0
AreClosed (one place row) = IsClosed row
AreClosed (within os place row) = AreClosed os × IsClosed row

-- These lists are open.
pub record Holds (n : Nest) (os : Opens) : Type 0 where
  pub items : n.items.items ≡ row_of os
  pub place : n.place ≡ outermost os
  pub begun : n.begun.items ≡ begun_in os
  pub closed : AreClosed os

-- Some lists are open.
pub record IsNest (n : Nest) : Type 0 where
  pub opens : Opens
  pub holds : Holds n opens

-- The node stands in the innermost of these lists. A list is open then.
abbrev pub Adds : Opens → Node → Nest → Type 0
Adds os (Node.word text place) new = Holds new (added os (Node.word text place ∷ []))
Adds os (Node.list count place) new = count ≡ 0 → Holds new (within os place [])

-- The innermost of these lists was closed, if it isn't the outermost.
abbrev pub Closes : Opens → Bool → Nest → Type 0
Closes (one place row) was new = (was ≡ false) × Holds new (one place row)
Closes (within os place row) was new = (was ≡ true) × Holds new (added os (Node.list (length row) place ∷ row))

-- The fault is the first one, unless memory ran out.
abbrev pub IsFirst : TextFault → Option TextFault → Type 0
IsFirst Memory o = Unit {0}
IsFirst (BadByte place) o = o ≡ Some (BadByte place)
IsFirst (Unclosed place) o = o ≡ Some (Unclosed place)
IsFirst (Extra place) o = o ≡ Some (Extra place)
IsFirst (TooDeep place) o = o ≡ Some (TooDeep place)

pub record EndsWith (end place : ℕ) (old : List Token) (t : Tree) (new : List Token) : Type 0 where
  pub fault : first_fault end (inside 1) old ≡ first_fault end after new
  pub tree : (opened place (levels old).inner (levels old).outer).inner
      ≡ list (trees t.items.items) t.place (levels new).inner

-- the rest of a list whose `(` stands at the place
abbrev pub NestEnds : ℕ → ℕ → List Token → Result Tree TextFault → List Token → Type 0
NestEnds end place old (Ok t) new = EndsWith end place old t new
NestEnds end place old (Err e) new = IsFirst e (first_fault end (inside 1) old)
