-- The fault that is answered is the least one.
use Rattle.std.proofs.Common.{◌≡◌, ℕ, ◌+◌, ◌<◌, ◌≤◌, inl, inr, Bool, true, false, cond, nat_lt, List, [], ◌∷◌, Option, Some, refl, sym, subst, arith, suc, zero}
use Rattle.std.proofs.lemmas.Bool.{ltb-true, ltb-false}
use Rattle.sexpr_text.specs.declared.fault.TextFault.{TextFault}
use Rattle.sexpr_text.specs.declared.fault.TextFault.TheVariants.{BadByte, Unclosed, Extra, TooDeep, Memory}
use Rattle.sexpr_text.specs.Tokens.{Token}
use Rattle.sexpr_text.specs.Trees.{Trees, nothing, word, list}
use Rattle.sexpr_text.specs.Spelling.{Begins, with_list, with_none, IsOneList}
use Rattle.sexpr_text.specs.Reading.{ReadingStage, before, inside, after, out_of, first_fault}
use Rattle.sexpr_text.specs.Faults.{token_place, Stands, AfterList, HasBad, ComesFirst, fault_place, fault_number}
use Rattle.sexpr_text.proofs.ReadingSound.{out_of-suc, deeper}
use Rattle.sexpr_text.proofs.TokensPlaceLemmas.{Ascends, next_token, ascends_tail, stands_none, stands_within}
use Rattle.sexpr_text.proofs.SpellingCloseLemmas.{Closes, closes_none, closes_more, closes_nothing, closes_word, word_closes, closes_left, left_closes, closes_right, right_closes}
use Rattle.sexpr_text.proofs.FaultsStageLemmas.{Rest, OutAt, at_front, beyond, IsNotBad, FaultAt, Decided, Step, passed, bad_at, rest_ascends, fault_low, by_place}

-- the tokens stand at their own front
front_token : (t : Token) (ts : List Token) → Stands (t ∷ ts) [] t
front_token t ts = record { behind = ts; split = refl }

head_low : {low end : ℕ} {t : Token} {ts : List Token} → Ascends low end (t ∷ ts)
    → (token_place t < end) × Ascends (token_place t + 1) end ts
head_low (next_token p q more) = (q, more)

own_place : {low end : ℕ} {t : Token} {ts : List Token} → Ascends low end (t ∷ ts)
    → Ascends (token_place t) end (t ∷ ts)
own_place (next_token p q more) = next_token (omega arith) q more

bad_beyond : (t : Token) (ts : List Token) (low end p : ℕ) → IsNotBad t → Ascends low end (t ∷ ts)
    → HasBad (t ∷ ts) p → token_place t < p
bad_beyond t ts low end p good a h =
    let later = bad_at t ts h.front p good h.stands in
    let w = stands_within (token_place t + 1) end ts later.front (Token.bad p) (head_low a).1 later.stands in
    omega arith

no_out : (s : ReadingStage) (t : Token) → ((us : List Token) → Rest s [] us → ⊥) → OutAt s [] t → ⊥
no_out s t none (at_front b st n) = stands_none [] t st
no_out s t none (beyond {us} r st) = none us r

ended_least : (end : ℕ) (s : ReadingStage) → ((us : List Token) → Rest s [] us → ⊥)
    → (g : TextFault) → FaultAt end s [] g → ComesFirst (Unclosed end) g
ended_least end s none (BadByte p) h = absurd (stands_none h.front (Token.bad p) h.stands)
ended_least end s none (Unclosed p) h = let e = h.at_end in inr (sym e, omega arith)
ended_least end s none (Extra p) h = absurd (no_out s h.token none h.out)
ended_least end s none (TooDeep p) h = absurd (stands_none h.front (Token.left p) h.stands)
ended_least end s none Memory h = absurd h

no_list : {whole : Trees} {us : List Token} → IsOneList whole → Begins whole [] us → ⊥
no_list {whole = nothing} one b = one
no_list {whole = word text place rest} one b = one
no_list {whole = list items place rest} one b = elim b [ ]

nothing_out : (t : Token) → OutAt after [] t → ⊥
nothing_out t (at_front b st n) = b
nothing_out t (beyond {us} {front} r st) =
    stands_none front t (subst (λ vs. Stands vs front t) (sym r) st)

-- The tokens end before the list is whole.
ended : (end : ℕ) (s : ReadingStage) → ((us : List Token) → Rest s [] us → ⊥)
    → Decided end s [] (Some (Unclosed end))
ended end s none = (record { at_end = refl; no_rest = none }, ended_least end s none)

number_least : (end : ℕ) (s : ReadingStage) (ts : List Token) (g : TextFault) → FaultAt end s ts g
    → 1 ≤ fault_number g
number_least end s ts (BadByte p) h = omega arith
number_least end s ts (Unclosed p) h = omega arith
number_least end s ts (Extra p) h = omega arith
number_least end s ts (TooDeep p) h = omega arith
number_least end s ts Memory h = omega arith

-- A byte that may not stand comes next.
bad_next : (end low p : ℕ) (s : ReadingStage) (ts : List Token) → Ascends low end (Token.bad p ∷ ts)
    → Decided end s (Token.bad p ∷ ts) (Some (BadByte p))
bad_next end low p s ts a =
    let q = (head_low a).0 in (
      record { front = []; stands = front_token (Token.bad p) ts },
      λ g h. by_place p (fault_place g) 1 (fault_number g)
          (fault_low s p end (Token.bad p ∷ ts) g (omega arith) (own_place a) h) (number_least end s (Token.bad p ∷ ts) g h),
    )

extra_least : (end low : ℕ) (s : ReadingStage) (t : Token) (ts : List Token) → IsNotBad t
    → Ascends low end (t ∷ ts) → (g : TextFault) → FaultAt end s (t ∷ ts) g
    → ComesFirst (Extra (token_place t)) g
extra_least end low s t ts good a (BadByte p) h = inl (bad_beyond t ts low end p good a h)
extra_least end low s t ts good a (Unclosed p) h =
    let e = h.at_end in let q = (head_low a).0 in inl (omega arith)
extra_least end low s t ts good a (Extra p) h =
    let q = (head_low a).0 in
    by_place (token_place t) p 3 3 (fault_low s (token_place t) end (t ∷ ts) (Extra p) (omega arith) (own_place a) h) (omega arith)
extra_least end low s t ts good a (TooDeep p) h =
    let q = (head_low a).0 in
    by_place (token_place t) p 3 4 (fault_low s (token_place t) end (t ∷ ts) (TooDeep p) (omega arith) (own_place a) h) (omega arith)
extra_least end low s t ts good a Memory h = absurd h

-- A token outside of the list comes next.
extra_next : (end low : ℕ) (s : ReadingStage) (t : Token) (ts : List Token) → IsNotBad t
    → Ascends low end (t ∷ ts) → OutAt s (t ∷ ts) t
    → Decided end s (t ∷ ts) (Some (Extra (token_place t)))
extra_next end low s t ts good a out =
    (record { token = t; at_place = refl; out = out }, extra_least end low s t ts good a)

extra_beyond : (end low d p : ℕ) (t : Token) (ts : List Token) → Ascends low end (Token.left p ∷ ts)
    → OutAt (inside (suc d)) (Token.left p ∷ ts) t → p < token_place t
extra_beyond end low d p t ts a (at_front b st n) = absurd b
extra_beyond end low d p t ts a (beyond {us} {front} r st) =
    let w = stands_within (p + 1) end us front t
    (rest_ascends (inside (suc (suc d))) (p + 1) end ts us (closes_left r) (head_low a).1) st in
    omega arith

deep_least : (end low d p : ℕ) (ts : List Token) → Ascends low end (Token.left p ∷ ts)
    → (g : TextFault) → FaultAt end (inside (suc d)) (Token.left p ∷ ts) g
    → ComesFirst (TooDeep p) g
deep_least end low d p ts a (BadByte q) h = inl (bad_beyond (Token.left p) ts low end q tt a h)
deep_least end low d p ts a (Unclosed q) h =
    let e = h.at_end in let w = (head_low a).0 in inl (omega arith)
deep_least end low d p ts a (Extra q) h =
    let e = h.at_place in let w = extra_beyond end low d p h.token ts a h.out in inl (omega arith)
deep_least end low d p ts a (TooDeep q) h =
    let w = (head_low a).0 in
    by_place p q 4 4 (fault_low (inside (suc d)) p end (Token.left p ∷ ts) (TooDeep q) (omega arith) (own_place a) h) (omega arith)
deep_least end low d p ts a Memory h = absurd h

-- A `(` in 64 lists comes next.
deep_next : (end low d p : ℕ) (ts : List Token) → suc d ≡ 64 → Ascends low end (Token.left p ∷ ts)
    → Decided end (inside (suc d)) (Token.left p ∷ ts) (Some (TooDeep p))
deep_next end low d p ts e a =
    (record { front = []; stands = front_token (Token.left p) ts; deep = omega arith }, deep_least end low d p ts a)

-- The tokens that lead on.
word_step : (d p : ℕ) (text : List ℕ) → Step (inside (suc d)) (Token.word text p) (inside (suc d))
word_step d p text = record {
  to = λ ts us r. closes_word r;
  from = λ ts us r. word_closes r;
  count = omega arith;
  good = tt;
  low = λ q e. cc;
  starts = λ b n. b;
  begun = λ b. b;
}

left_step : (d p : ℕ) → suc d < 64 → Step (inside (suc d)) (Token.left p) (inside (suc (suc d)))
left_step d p low = record {
  to = λ ts us r. closes_left r;
  from = λ ts us r. left_closes r;
  count = omega arith;
  good = tt;
  low = λ q e. low;
  starts = λ b n. b;
  begun = λ b. b;
}

right_step : (d p : ℕ) → Step (inside (suc (suc d))) (Token.right p) (inside (suc d))
right_step d p = record {
  to = λ ts us r. closes_right r;
  from = λ ts us r. right_closes r;
  count = omega arith;
  good = tt;
  low = λ q e. cc;
  starts = λ b n. b;
  begun = λ b. b;
}

closes_all : {ts us : List Token} → Closes 0 ts us → ts ≡ us
closes_all closes_none = refl

last_step : (p : ℕ) → Step (inside 1) (Token.right p) after
last_step p = record {
  to = λ ts us r. closes_all (closes_right r);
  from = λ ts us r. right_closes (subst (Closes 0 ts) r closes_none);
  count = omega arith;
  good = tt;
  low = λ q e. cc;
  starts = λ b n. b;
  begun = λ b. b;
}

list_closes : {p : ℕ} {whole : Trees} {ts us : List Token} → IsOneList whole
    → Begins whole (Token.left p ∷ ts) us → Closes 1 ts us
list_closes {whole = nothing} one b = absurd one
list_closes {whole = word text place rest} one b = absurd one
list_closes {whole = list items place (word text q rest)} one b = absurd one
list_closes {whole = list items place (list i q rest)} one b = absurd one
list_closes {whole = list items place nothing} one (with_list b with_none) =
    closes_more b closes_none

closes_list : {p : ℕ} {ts us : List Token} → Closes 1 ts us → AfterList (Token.left p ∷ ts) us
closes_list {p} (closes_more {items} b closes_none) =
    record { whole = list items p nothing; one = tt; tokens = with_list b with_none }

first_step : (p : ℕ) → Step before (Token.left p) (inside 1)
first_step p = record {
  to = λ ts us r. list_closes r.one r.tokens;
  from = λ ts us r. closes_list r;
  count = omega arith;
  good = tt;
  low = λ q e. omega arith;
  starts = λ b n. n;
  begun = λ b. b;
}

beyond_front : (t : Token) (ts : List Token) → OutAt after (t ∷ ts) t
beyond_front t ts = beyond refl (front_token t ts)

no_fault_left : (end : ℕ) (g : TextFault) → FaultAt end after [] g → ⊥
no_fault_left end (BadByte p) h = stands_none h.front (Token.bad p) h.stands
no_fault_left end (Unclosed p) h = h.no_rest [] refl
no_fault_left end (Extra p) h = nothing_out h.token h.out
no_fault_left end (TooDeep p) h = stands_none h.front (Token.left p) h.stands
no_fault_left end Memory h = h

decided_after : (end low : ℕ) (ts : List Token) → Ascends low end ts
    → Decided end after ts (first_fault end after ts)
decided_after end low [] a = no_fault_left end
decided_after end low (Token.word text p ∷ ts) a =
    extra_next end low after (Token.word text p) ts tt a (beyond_front (Token.word text p) ts)
decided_after end low (Token.left p ∷ ts) a =
    extra_next end low after (Token.left p) ts tt a (beyond_front (Token.left p) ts)
decided_after end low (Token.right p ∷ ts) a =
    extra_next end low after (Token.right p) ts tt a (beyond_front (Token.right p) ts)
decided_after end low (Token.bad p ∷ ts) a = bad_next end low p after ts a

-- a choice that both ways decides
chosen : (end : ℕ) (s : ReadingStage) (ts : List Token) (v : Bool) (o p : Option TextFault)
    → (v ≡ true → Decided end s ts o) → (v ≡ false → Decided end s ts p)
    → Decided end s ts (cond v o p)
chosen end s ts true o p first second = first refl
chosen end s ts false o p first second = second refl

decided_inside : (end low d : ℕ) (ts : List Token) → suc d ≤ 64 → Ascends low end ts
    → Decided end (inside (suc d)) ts (first_fault end (inside (suc d)) ts)
decided_inside end low d [] le a = ended end (inside (suc d)) (λ us r. closes_nothing r)
decided_inside end low d (Token.bad p ∷ ts) le a = bad_next end low p (inside (suc d)) ts a
decided_inside end low d (Token.word text p ∷ ts) le a =
    passed end (inside (suc d)) (inside (suc d)) (Token.word text p) ts (first_fault end (inside (suc d)) ts)
    (word_step d p text) (decided_inside end low d ts le (ascends_tail a))
decided_inside end low d (Token.left p ∷ ts) le a =
    chosen end (inside (suc d)) (Token.left p ∷ ts) (nat_lt (suc d) 64) (first_fault end (inside (suc d + 1)) ts) (Some (TooDeep p))
    (λ e. let h : suc d < 64 = ltb-true (suc d) 64 e in
    passed end (inside (suc d)) (inside (suc (suc d))) (Token.left p) ts (first_fault end (inside (suc d + 1)) ts) (left_step d p h)
    (subst (Decided end (inside (suc (suc d))) ts)
    (sym (deeper end d ts)) (decided_inside end low (suc d) ts (omega arith) (ascends_tail a))))
    (λ e. let h = ltb-false (suc d) 64 e in deep_next end low d p ts (omega arith) a)
decided_inside end low zero (Token.right p ∷ ts) le a =
    passed end (inside 1) after (Token.right p) ts (first_fault end after ts) (last_step p) (decided_after end low ts (ascends_tail a))
decided_inside end low (suc d) (Token.right p ∷ ts) le a =
    passed end (inside (suc (suc d))) (inside (suc d)) (Token.right p) ts (first_fault end (out_of (suc (suc d))) ts) (right_step d p)
    (subst (λ s. Decided end (inside (suc d)) ts (first_fault end s ts))
    (sym (out_of-suc d)) (decided_inside end low d ts (omega arith) (ascends_tail a)))

-- What the first fault is, is decided so.
pub decided : (end low : ℕ) (ts : List Token) → Ascends low end ts
    → Decided end before ts (first_fault end before ts)
decided end low [] a = ended end before (λ us r. no_list r.one r.tokens)
decided end low (Token.bad p ∷ ts) a = bad_next end low p before ts a
decided end low (Token.word text p ∷ ts) a =
    extra_next end low before (Token.word text p) ts tt a (at_front tt (front_token (Token.word text p) ts) tt)
decided end low (Token.right p ∷ ts) a = extra_next end low before (Token.right p) ts tt a (at_front tt (front_token (Token.right p) ts) tt)
decided end low (Token.left p ∷ ts) a =
    passed end before (inside 1) (Token.left p) ts (first_fault end (inside 1) ts)
    (first_step p) (decided_inside end low 0 ts (omega arith) (ascends_tail a))
