-- What comes after the lists that are open.
use Rattle.std.proofs.Common.{ℕ, List, [], ◌∷◌, suc}
use Rattle.sexpr_text.specs.Tokens.{Token}
use Rattle.sexpr_text.specs.Trees.{Trees}
use Rattle.sexpr_text.specs.Spelling.{Begins, with_none, with_word, with_list}

-- These tokens close as many lists, and then come those.
pub data Closes : ℕ → List Token → List Token → Type 0 where
  closes_none : {ts : List Token} → Closes 0 ts ts
  closes_more : {items : Trees} {close d : ℕ} {ts us vs : List Token}
      → Begins items ts (Token.right close ∷ us) → Closes d us vs → Closes (suc d) ts vs

pub closes_nothing : {d : ℕ} {vs : List Token} → Closes (suc d) [] vs → ⊥
closes_nothing (closes_more b more) = elim b [ ]

pub closes_bad : {d p : ℕ} {ts vs : List Token} → Closes (suc d) (Token.bad p ∷ ts) vs → ⊥
closes_bad (closes_more b more) = elim b [ ]

pub closes_word : {d p : ℕ} {text : List ℕ} {ts vs : List Token}
    → Closes (suc d) (Token.word text p ∷ ts) vs → Closes (suc d) ts vs
closes_word (closes_more (with_word b) more) = closes_more b more

pub word_closes : {d p : ℕ} {text : List ℕ} {ts vs : List Token} → Closes (suc d) ts vs
    → Closes (suc d) (Token.word text p ∷ ts) vs
word_closes (closes_more b more) = closes_more (with_word b) more

pub closes_left : {d p : ℕ} {ts vs : List Token} → Closes (suc d) (Token.left p ∷ ts) vs
    → Closes (suc (suc d)) ts vs
closes_left (closes_more (with_list b b') more) = closes_more b (closes_more b' more)

pub left_closes : {d p : ℕ} {ts vs : List Token} → Closes (suc (suc d)) ts vs
    → Closes (suc d) (Token.left p ∷ ts) vs
left_closes (closes_more b (closes_more b' more)) = closes_more (with_list b b') more

pub closes_right : {d p : ℕ} {ts vs : List Token} → Closes (suc d) (Token.right p ∷ ts) vs
    → Closes d ts vs
closes_right (closes_more with_none more) = more

pub right_closes : {d p : ℕ} {ts vs : List Token} → Closes d ts vs
    → Closes (suc d) (Token.right p ∷ ts) vs
right_closes more = closes_more with_none more
