-- A text without a fault is spelled by its tree.
use Rattle.std.proofs.Common.{◌≡◌, ℕ, ◌+◌, ◌-◌, ◌≤◌, ◌<◌, Bool, true, false, nat_lt, cond, List, [], ◌∷◌, length, max, Option, Some, None, Ok, refl, sym, ◌∙◌, ap, subst, arith, suc, zero}
use Rattle.std.proofs.Math.Nat.{max-le}
use Rattle.std.proofs.lemmas.Bool.{ne_eqb}
use borrow.Author.Tests.{ltb-true}
use Rattle.sexpr_text.proofs.LexingLemmas.{lexes_tokens}
use Rattle.sexpr_text.specs.declared.fault.TextFault.{TextFault}
use Rattle.sexpr_text.specs.Tokens.{Token, tokens_of}
use Rattle.sexpr_text.specs.Trees.{Trees, nothing, word, depth}
use Rattle.sexpr_text.specs.Spelling.{Begins, with_none, with_word, with_list, IsOneList, Spells}
use Rattle.sexpr_text.specs.Reading.{before, inside, after, out_of, first_fault, levels, opened, reading, unless_fault}

-- Tokens of the trees in the innermost of some lists, the `)` of that list, the trees after it, and so on.
pub data Stacks : ℕ → Trees → List Trees → List Token → Type 0 where
  at_end : Stacks 0 nothing [] []
  in_list : {d close : ℕ} {inner next : Trees} {outer : List Trees} {ts us : List Token}
      → Begins inner ts (Token.right close ∷ us) → depth inner + suc d ≤ 64 → Stacks d next outer us
      → Stacks (suc d) inner (next ∷ outer) ts

stacks_word : (d : ℕ) (inner : Trees) (outer : List Trees) (ts : List Token) (text : List ℕ) (place : ℕ)
    → Stacks (suc d) inner outer ts
    → Stacks (suc d) (word text place inner) outer (Token.word text place ∷ ts)
stacks_word d inner outer ts text place (in_list b low more) = in_list (with_word b) low more

depth_low : (a b d : ℕ) → a + suc (suc d) ≤ 64 → b + suc d ≤ 64 → max (a + 1) b + suc d ≤ 64
depth_low a b d p q =
    let r : max (a + 1) b ≤ 64 - suc d = max-le (omega arith) (omega arith) in
    let s : suc d ≤ 64 = omega arith in
    omega arith

stacks_left : (d : ℕ) (inner : Trees) (outer : List Trees) (ts : List Token) (place : ℕ)
    → Stacks (suc (suc d)) inner outer ts
    → Stacks (suc d) (opened place inner outer).inner (opened place inner outer).outer (Token.left place ∷ ts)
stacks_left d inner outer ts place (in_list b low (in_list {inner = next} b' low' more)) =
    in_list (with_list b b') (depth_low (depth inner) (depth next) d low low') more

-- no fault where a choice might have one
choice_none : (v : Bool) (o : Option TextFault) (f : TextFault) → cond v o (Some f) ≡ None
    → (v ≡ true) × (o ≡ None)
choice_none true o f e = (refl, e)
choice_none false o f e = cc

pub out_of-suc : (d : ℕ) → out_of (suc (suc d)) ≡ inside (suc d)
out_of-suc d =
    let e : suc (suc d) - 1 ≡ suc d = omega arith in
    ap (λ v. cond v after (inside (suc (suc d) - 1))) (ne_eqb (suc (suc d)) 1 (λ h. omega arith)) ∙ ap inside e

pub deeper : (end d : ℕ) (ts : List Token)
    → first_fault end (inside (suc d + 1)) ts ≡ first_fault end (inside (suc (suc d))) ts
deeper end d ts =
    let e : suc d + 1 ≡ suc (suc d) = omega arith in ap (λ n. first_fault end (inside n) ts) e

after_none : (end : ℕ) (ts : List Token) → first_fault end after ts ≡ None → ts ≡ []
after_none end [] e = refl
after_none end (Token.word text p ∷ ts) e = cc
after_none end (Token.left p ∷ ts) e = cc
after_none end (Token.right p ∷ ts) e = cc
after_none end (Token.bad p ∷ ts) e = cc

stacks_end : (ts : List Token) (close : ℕ) → ts ≡ []
    → Stacks 1 nothing ((levels ts).inner ∷ (levels ts).outer) (Token.right close ∷ ts)
stacks_end [] close e = in_list with_none (omega arith) at_end
stacks_end (t ∷ ts) close e = cc

-- where no token in a list has a fault
pub found_inside : (end d : ℕ) (ts : List Token) → suc d ≤ 64
    → first_fault end (inside (suc d)) ts ≡ None
    → Stacks (suc d) (levels ts).inner (levels ts).outer ts
found_inside end d [] low e = cc
found_inside end d (Token.bad p ∷ ts) low e = cc
found_inside end d (Token.word text p ∷ ts) low e =
    stacks_word d (levels ts).inner (levels ts).outer ts text p (found_inside end d ts low e)
found_inside end d (Token.left p ∷ ts) low e =
    let both = choice_none (nat_lt (suc d) 64) (first_fault end (inside (suc d + 1)) ts) (TextFault.TooDeep p) e in
    let more : suc d < 64 = ltb-true (suc d) 64 both.0 in
    stacks_left d (levels ts).inner (levels ts).outer ts p (found_inside end (suc d) ts (omega arith) (sym (deeper end d ts) ∙ both.1))
found_inside end zero (Token.right p ∷ ts) low e = stacks_end ts p (after_none end ts e)
found_inside end (suc d) (Token.right p ∷ ts) low e =
    in_list with_none (omega arith) (found_inside end d ts (omega arith) (ap (λ s. first_fault end s ts) (sym (out_of-suc d)) ∙ e))

-- a list alone, of depth at most 64, which the tokens spell
pub record IsWhole (ts : List Token) (t : Trees) : Type 0 where
  pub one : IsOneList t
  pub tokens : Begins t ts []
  pub depth : depth t ≤ 64

whole : (inner : Trees) (outer : List Trees) (ts : List Token) (place : ℕ) → Stacks 1 inner outer ts
    → IsWhole (Token.left place ∷ ts) (opened place inner outer).inner
whole inner outer ts place (in_list b low at_end) = record {
  one = tt;
  tokens = with_list b with_none;
  depth = max-le (omega arith) (omega arith);
}

found_before : (end : ℕ) (ts : List Token) → first_fault end before ts ≡ None
    → IsWhole ts (levels ts).inner
found_before end [] e = cc
found_before end (Token.bad p ∷ ts) e = cc
found_before end (Token.word text p ∷ ts) e = cc
found_before end (Token.right p ∷ ts) e = cc
found_before end (Token.left p ∷ ts) e =
    whole (levels ts).inner (levels ts).outer ts p (found_inside end 0 ts (omega arith) e)

-- an answer that is a tree
pub unless_ok : (o : Option TextFault) (t u : Trees) → unless_fault o t ≡ Ok u
    → (o ≡ None) × (t ≡ u)
unless_ok None t u e = (refl, cc)
unless_ok (Some f) t u e = cc

-- A tree that is read is spelled.
pub found : (bytes : List ℕ) (t : Trees) → reading bytes ≡ Ok t → Spells bytes t
unfolding reading
found bytes t e =
    let both = unless_ok (first_fault (length bytes) before (tokens_of bytes)) (levels (tokens_of bytes)).inner t e in
    let w = found_before (length bytes) (tokens_of bytes) both.0 in
    subst (Spells bytes) both.1
    (record { tokens = tokens_of bytes; lexed = lexes_tokens 0 bytes; one = w.one; spelled = w.tokens; depth = w.depth })
