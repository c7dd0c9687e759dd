-- What is open, in front of what is left.
use Rattle.std.proofs.Common.{◌≡◌, ℕ, zero, suc, ◌+◌, ◌<◌, ◌≤◌, true, false, cond, List, ◌∷◌, [], length, Option, Some, subst, sym, ◌∙◌, ap, arith, lt-ltb}
use Rattle.sexpr_text.specs.declared.fault.TextFault.TheVariants.{TooDeep}
use Rattle.sexpr_text.specs.Nodes.{Node}
use Rattle.sexpr_text.specs.declared.tree.Tree.{Tree}
use Rattle.sexpr_text.specs.declared.nest.Nest.{Nest}
use Rattle.sexpr_text.specs.declared.scanner.Lexeme.{Lexeme}
use Rattle.sexpr_text.specs.declared.scanner.Placed.{Placed}
use Rattle.sexpr_text.specs.Tokens.{Token}
use Rattle.sexpr_text.specs.Scanning.{TakesToken, token_of}
use Rattle.sexpr_text.specs.Trees.{Trees, list, trees}
use Rattle.sexpr_text.specs.Reading.{inside, out_of, first_fault, Levels, levels, opened}
use Rattle.sexpr_text.specs.Nesting.{Opens, one, within, open_count, added, nested, AreClosed, Holds, Closes, EndsWith}
use Rattle.sexpr_text.proofs.ReadingSound.{out_of-suc}
use Rattle.sexpr_text.proofs.TreesLemmas.{list_alone}
use Rattle.sexpr_text.proofs.NestLemmas.{nested-added, open_count-added}

open_some : (os : Opens) → 1 ≤ open_count os
open_some (one place row) = omega arith
open_some (within os place row) = omega arith

out_inside : (d : ℕ) → 1 ≤ d → out_of (d + 1) ≡ inside d
out_inside zero p = absurd (omega arith)
out_inside (suc d) p = let e : suc d + 1 ≡ suc (suc d) = omega arith in ap out_of e ∙ out_of-suc d

-- the token that was taken
pub taken : (old new : List Token) (o : Option Placed) (p : Placed) (lexeme : Lexeme) → TakesToken old o new
    → o ≡ Some p → p.lexeme ≡ lexeme → old ≡ token_of lexeme p.place ∷ new
taken old new o p lexeme h e f = subst (λ u. TakesToken old u new) e h ∙ ap (λ x. token_of x p.place ∷ new) f

-- The open lists stand for what was read from the start on, before what is left.
pub record StandsFor (end : ℕ) (start : List Token) (whole : Levels) (os : Opens) (left : List Token) : Type 0 where
  pub closed : AreClosed os
  pub fault : first_fault end (inside 1) start ≡ first_fault end (inside (open_count os)) left
  pub tree : whole ≡ nested os (levels left)

-- These lists stand for what was read now.
pub record GoesOn (end : ℕ) (start : List Token) (whole : Levels) (n : Nest) (left : List Token) : Type 0 where
  pub opens : Opens
  pub holds : Holds n opens
  pub shallow : open_count opens ≤ 64
  pub fault : first_fault end (inside 1) start ≡ first_fault end (inside (open_count opens)) left
  pub tree : whole ≡ nested opens (levels left)

-- A word was read.
pub word_on : (end at : ℕ) (text : List ℕ) (start old new : List Token) (whole : Levels) (os : Opens) (n : Nest)
    → StandsFor end start whole os old → old ≡ Token.word text at ∷ new → open_count os ≤ 64
    → Holds n (added os (Node.word text at ∷ [])) → GoesOn end start whole n new
word_on end at text start old new whole os n s e low h =
    let count = open_count-added os (Node.word text at ∷ []) in
    record {
      opens = added os (Node.word text at ∷ []);
      holds = h;
      shallow = omega arith;
      fault = s.fault ∙ ap (first_fault end (inside (open_count os))) e
          ∙ ap (λ d. first_fault end (inside d) new) (sym count);
      tree = s.tree ∙ ap (λ ts. nested os (levels ts)) e
          ∙ sym (nested-added os (Node.word text at ∷ []) (levels new) s.closed);
    }

-- A list was opened.
pub left_on : (end at : ℕ) (start old new : List Token) (whole : Levels) (os : Opens) (n : Nest)
    → StandsFor end start whole os old → old ≡ Token.left at ∷ new → open_count os < 64
    → Holds n (within os at []) → GoesOn end start whole n new
left_on end at start old new whole os n s e low h = record {
  opens = within os at [];
  holds = h;
  shallow = omega arith;
  fault = s.fault ∙ ap (first_fault end (inside (open_count os))) e
      ∙ ap (λ v. cond v (first_fault end (inside (open_count os + 1)) new) (Some (TooDeep at)))
      (lt-ltb (open_count os) 64 low);
  tree = s.tree ∙ ap (λ ts. nested os (levels ts)) e;
}

-- The innermost list was closed, and others are open.
pub goes_on : (end at : ℕ) (start old new : List Token) (whole : Levels) (os : Opens) (n : Nest)
    → StandsFor end start whole os old → old ≡ Token.right at ∷ new → open_count os ≤ 64 → Closes os true n
    → GoesOn end start whole n new
goes_on end at start old new whole (one place row) n s e low c = absurd (let f = c.0 in cc)
goes_on end at start old new whole (within os place row) n s e low c =
    let count = open_count-added os (Node.list (length row) place ∷ row) in
    record {
      opens = added os (Node.list (length row) place ∷ row);
      holds = c.1;
      shallow = omega arith;
      fault = s.fault ∙ ap (first_fault end (inside (open_count os + 1))) e
          ∙ ap (λ stage. first_fault end stage new) (out_inside (open_count os) (open_some os))
          ∙ ap (λ d. first_fault end (inside d) new) (sym count);
      tree = s.tree ∙ ap (λ ts. nested (within os place row) (levels ts)) e
          ∙ ap (λ (t : Trees). nested os (record (levels new) { inner = t }))
          (sym (list_alone place row (levels new).inner))
          ∙ sym (nested-added os (Node.list (length row) place ∷ row) (levels new) s.closed.0);
    }

-- The outermost list was closed.
pub ends : (end place at : ℕ) (start old new : List Token) (os : Opens) (n : Nest) (t : Tree)
    → StandsFor end start (opened place (levels start).inner (levels start).outer) os old
    → old ≡ Token.right at ∷ new → Closes os false n → t.items ≡ n.items → t.place ≡ n.place
    → EndsWith end place start t new
ends end place at start old new (within os p row) n t s e c f g = absurd (let k = c.0 in cc)
ends end place at start old new (one p row) n t s e c f g = record {
  fault = s.fault ∙ ap (first_fault end (inside 1)) e;
  tree = ap (λ (l : Levels). l.inner) (s.tree ∙ ap (λ ts. nested (one p row) (levels ts)) e)
      ∙ ap (λ ts. list (trees ts) p (levels new).inner) (sym c.1.items ∙ sym (ap (λ v. v.items) f))
      ∙ ap (λ q. list (trees t.items.items) q (levels new).inner) (sym c.1.place ∙ sym g);
}
