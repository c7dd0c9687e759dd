-- Which tree a text spells.
use Rattle.std.specs.Prelude.{ℕ, ◌≤◌, List, [], ◌∷◌}
use Rattle.sexpr_text.specs.Tokens.{Token}
use Rattle.sexpr_text.specs.Lexing.{Lexes}
use Rattle.sexpr_text.specs.Trees.{Trees, nothing, word, list, depth}

-- These tokens are those of the trees, and then some others. A word is one token, and a list is a `(`,
-- the tokens of its trees and a `)`.
pub data Begins : Trees → List Token → List Token → Type 0 where
  with_none : {ts : List Token} → Begins nothing ts ts
  with_word : {text : List ℕ} {place : ℕ} {rest : Trees} {ts us : List Token} → Begins rest ts us
      → Begins (word text place rest) (Token.word text place ∷ ts) us
  with_list : {items rest : Trees} {place close : ℕ} {ts us vs : List Token}
      → Begins items ts (Token.right close ∷ us) → Begins rest us vs
      → Begins (list items place rest) (Token.left place ∷ ts) vs

-- one list alone
abbrev pub IsOneList : Trees → Type 0
IsOneList (list items place nothing) = Unit {0}
IsOneList _ = ⊥

-- The text is one list of depth at most 64, and this is it: its tokens are those of the tree.
pub record Spells (bytes : List ℕ) (t : Trees) : Type 0 where
  pub tokens : List Token
  pub lexed : Lexes 0 bytes tokens
  pub one : IsOneList t
  pub spelled : Begins t tokens []
  pub depth : depth t ≤ 64
