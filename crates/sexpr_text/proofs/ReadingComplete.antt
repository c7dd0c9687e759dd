-- A tree that is spelled is the one that is read.
use Rattle.std.proofs.Common.{◌≡◌, ℕ, ◌+◌, ◌≤◌, cond, List, [], length, max, Some, None, Ok, refl, ◌∙◌, ap, subst, arith, suc}
use Rattle.std.proofs.Math.Nat.{le-max_left, le-max_right}
use Rattle.std.proofs.lemmas.Bool.{lt-ltb}
use Rattle.sexpr_text.specs.declared.fault.TextFault.TheVariants.{TooDeep}
use Rattle.sexpr_text.specs.Tokens.{Token, tokens_of}
use Rattle.sexpr_text.specs.Trees.{Trees, nothing, word, list, depth}
use Rattle.sexpr_text.specs.Spelling.{Begins, with_none, with_word, with_list, IsOneList, Spells}
use Rattle.sexpr_text.specs.Reading.{before, inside, after, first_fault, Levels, levels, opened, reading, unless_fault}
use Rattle.sexpr_text.proofs.LexingLemmas.{tokens_unique}
use Rattle.sexpr_text.proofs.ReadingSound.{out_of-suc, deeper}

-- a row and then another one
row_then : Trees → Trees → Trees
row_then nothing rest = rest
row_then (word text place more) rest = word text place (row_then more rest)
row_then (list items place more) rest = list items place (row_then more rest)

row_then-nothing : (t : Trees) → row_then t nothing ≡ t
unfolding row_then
row_then-nothing nothing = refl
row_then-nothing (word text place more) = ap (word text place) (row_then-nothing more)
row_then-nothing (list items place more) = ap (list items place) (row_then-nothing more)

-- Trees have no fault of their own where they aren't too deep.
pub same_fault : {t : Trees} {ts us : List Token} (end d : ℕ) → Begins t ts us
    → depth t + suc d ≤ 64
    → first_fault end (inside (suc d)) ts ≡ first_fault end (inside (suc d)) us
same_fault end d with_none low = refl
same_fault end d (with_word b) low = same_fault end d b low
same_fault end d (with_list {items} {rest} {place} {close} {ts} {us} b b') low =
    let p : depth items + 1 ≤ max (depth items + 1) (depth rest) = le-max_left (depth items + 1) (depth rest) in
    let q : depth rest ≤ max (depth items + 1) (depth rest) = le-max_right (depth items + 1) (depth rest) in
    ap (λ v. cond v (first_fault end (inside (suc d + 1)) ts) (Some (TooDeep place))) (lt-ltb (suc d) 64 (omega arith))
    ∙ deeper end d ts
    ∙ same_fault end (suc d) b (omega arith)
    ∙ ap (λ s. first_fault end s us) (out_of-suc d)
    ∙ same_fault end d b' (omega arith)

-- The trees of tokens begin with those that the tokens begin with.
same_levels : {t : Trees} {ts us : List Token} → Begins t ts us
    → levels ts ≡ record { inner = row_then t (levels us).inner; outer = (levels us).outer }
unfolding row_then
same_levels with_none = refl
same_levels (with_word {text} {place} b) =
    ap (λ (l : Levels). record l { inner = word text place l.inner }) (same_levels b)
same_levels (with_list {items} {rest} {place} {close} {ts} {us} b b') =
    ap (λ (l : Levels). opened place l.inner l.outer) (same_levels b)
    ∙ ap (λ i. let l : Levels = record { inner = list i place (levels us).inner; outer = (levels us).outer } in l) (row_then-nothing items)
    ∙ ap (λ (l : Levels). let m : Levels = record { inner = list items place l.inner; outer = l.outer } in m) (same_levels b')

none_left : {ts us : List Token} → Begins nothing ts us → ts ≡ us
none_left with_none = refl

only_list : {items : Trees} {place : ℕ} {ts : List Token} (end : ℕ)
    → Begins (list items place nothing) ts [] → depth (list items place nothing) ≤ 64
    → unless_fault (first_fault end before ts) (levels ts).inner ≡ Ok (list items place nothing)
unfolding row_then
only_list end (with_list {items} {rest} {place} {close} {ts} {us} b b') low =
    let p : depth items + 1 ≤ max (depth items + 1) 0 = le-max_left (depth items + 1) 0 in
    let e : us ≡ [] = none_left b' in
    let f : first_fault end (inside 1) ts ≡ None = same_fault end 0 b (omega arith) ∙ ap (first_fault end after) e in
    let g : (opened place (levels ts).inner (levels ts).outer).inner ≡ list items place nothing =
    ap (λ (l : Levels). (opened place l.inner l.outer).inner) (same_levels b)
    ∙ ap (λ i. list i place (levels us).inner) (row_then-nothing items)
    ∙ ap (λ vs. list items place (levels vs).inner) e in
    ap (λ o. unless_fault o (opened place (levels ts).inner (levels ts).outer).inner) f ∙ ap Ok g

only_tokens : (end : ℕ) (ts : List Token) (t : Trees) → IsOneList t → Begins t ts [] → depth t ≤ 64
    → unless_fault (first_fault end before ts) (levels ts).inner ≡ Ok t
only_tokens end ts nothing one b low = absurd one
only_tokens end ts (word text place rest) one b low = absurd one
only_tokens end ts (list items place (word text p rest)) one b low = absurd one
only_tokens end ts (list items place (list i p rest)) one b low = absurd one
only_tokens end ts (list items place nothing) one b low = only_list end b low

-- A tree that is spelled is the one that is read.
pub only : (bytes : List ℕ) (t : Trees) → Spells bytes t → reading bytes ≡ Ok t
unfolding reading
only bytes t s =
    let b : Begins t (tokens_of bytes) [] = subst (λ ts. Begins t ts []) (tokens_unique s.lexed) s.spelled in
    only_tokens (length bytes) (tokens_of bytes) t s.one b s.depth
