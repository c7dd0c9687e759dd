-- Faults of the tokens from some stage on.
use Rattle.std.proofs.Common.{◌≡◌, ℕ, ◌+◌, ◌<◌, ◌≤◌, ◌⊎◌, inl, inr, List, [], ◌∷◌, Option, Some, None, sym, ap, subst, arith}
use Rattle.std.proofs.lemmas.Bool.Decides.{eqb_tells}
use Rattle.sexpr_text.specs.declared.fault.TextFault.{TextFault}
use Rattle.sexpr_text.specs.declared.fault.TextFault.TheVariants.{BadByte, Unclosed, Extra, TooDeep, Memory}
use Rattle.sexpr_text.specs.Tokens.{Token}
use Rattle.sexpr_text.specs.Reading.{ReadingStage, before, inside, after}
use Rattle.sexpr_text.specs.Faults.{token_place, lefts, rights, IsNotLeft, Stands, AfterList, HasBad, ComesFirst, fault_place}
use Rattle.sexpr_text.proofs.TokensPlaceLemmas.{Ascends, ascends_behind, ascends_tail, stands_first, stands_later, stands_more, stands_within}
use Rattle.sexpr_text.proofs.SpellingCloseLemmas.{Closes, closes_none, closes_more}

-- how many lists are open at a stage
abbrev pub open_at : ReadingStage → ℕ
open_at before = 0
open_at (inside d) = d
open_at after = 0

-- what comes after the list
abbrev pub Rest : ReadingStage → List Token → List Token → Type 0
Rest before ts us = AfterList ts us
Rest (inside d) ts us = Closes d ts us
Rest after ts us = ts ≡ us

abbrev pub IsBefore : ReadingStage → Type 0
IsBefore before = Unit {0}
IsBefore _ = ⊥

abbrev pub IsNotBad : Token → Type 0
IsNotBad (Token.bad p) = ⊥
IsNotBad _ = Unit {0}

pub data OutAt (s : ReadingStage) (ts : List Token) (t : Token) : Type 0 where
  at_front : IsBefore s → Stands ts [] t → IsNotLeft t → OutAt s ts t
  beyond : {us front : List Token} → Rest s ts us → Stands us front t → OutAt s ts t

pub record EndsAt (end : ℕ) (s : ReadingStage) (ts : List Token) (p : ℕ) : Type 0 where
  pub at_end : p ≡ end
  pub no_rest : (us : List Token) → Rest s ts us → ⊥

pub record ExtraAt (s : ReadingStage) (ts : List Token) (p : ℕ) : Type 0 where
  pub token : Token
  pub at_place : token_place token ≡ p
  pub out : OutAt s ts token

pub record DeepAt (n : ℕ) (ts : List Token) (p : ℕ) : Type 0 where
  pub front : List Token
  pub stands : Stands ts front (Token.left p)
  pub deep : n + lefts front ≡ rights front + 64

-- the tokens from some stage on have this fault
abbrev pub FaultAt : ℕ → ReadingStage → List Token → TextFault → Type 0
FaultAt end s ts (BadByte p) = HasBad ts p
FaultAt end s ts (Unclosed p) = EndsAt end s ts p
FaultAt end s ts (Extra p) = ExtraAt s ts p
FaultAt end s ts (TooDeep p) = DeepAt (open_at s) ts p
FaultAt end s ts Memory = ⊥

-- this is the least fault of the tokens, or they have none
abbrev pub Decided : ℕ → ReadingStage → List Token → Option TextFault → Type 0
Decided end s ts None = (g : TextFault) → FaultAt end s ts g → ⊥
Decided end s ts (Some f) =
    FaultAt end s ts f × ((g : TextFault) → FaultAt end s ts g → ComesFirst f g)

-- A token that has no fault leads from one stage to the next.
pub record Step (s : ReadingStage) (t : Token) (s' : ReadingStage) : Type 0 where
  pub to : (ts us : List Token) → Rest s (t ∷ ts) us → Rest s' ts us
  pub from : (ts us : List Token) → Rest s' ts us → Rest s (t ∷ ts) us
  pub count : open_at s + lefts (t ∷ []) ≡ rights (t ∷ []) + open_at s'
  pub good : IsNotBad t
  pub low : (p : ℕ) → t ≡ Token.left p → open_at s < 64
  pub starts : IsBefore s → IsNotLeft t → ⊥
  pub begun : IsBefore s' → ⊥

lefts-cons : (t : Token) (ts : List Token) → lefts (t ∷ ts) ≡ lefts (t ∷ []) + lefts ts
lefts-cons (Token.word text p) ts = omega arith
lefts-cons (Token.left p) ts = omega arith
lefts-cons (Token.right p) ts = omega arith
lefts-cons (Token.bad p) ts = omega arith

rights-cons : (t : Token) (ts : List Token) → rights (t ∷ ts) ≡ rights (t ∷ []) + rights ts
rights-cons (Token.word text p) ts = omega arith
rights-cons (Token.left p) ts = omega arith
rights-cons (Token.right p) ts = omega arith
rights-cons (Token.bad p) ts = omega arith

pub bad_at : (t : Token) (ts front : List Token) (p : ℕ) → IsNotBad t
    → Stands (t ∷ ts) front (Token.bad p) → HasBad ts p
bad_at t ts [] p good st = absurd (subst IsNotBad (stands_first t ts (Token.bad p) st) good)
bad_at t ts (y ∷ front) p good st =
    record { front = front; stands = (stands_later t y ts front (Token.bad p) st).1 }

deep_at : (s s' : ReadingStage) (t : Token) (ts front : List Token) (p : ℕ) → Step s t s'
    → Stands (t ∷ ts) front (Token.left p) → open_at s + lefts front ≡ rights front + 64
    → DeepAt (open_at s') ts p
deep_at s s' t ts [] p step st deep =
    let low = step.low p (stands_first t ts (Token.left p) st) in absurd (omega arith)
deep_at s s' t ts (y ∷ front) p step st deep =
    let later = stands_later t y ts front (Token.left p) st in
    let e : lefts (y ∷ []) ≡ lefts (t ∷ []) = ap (λ u. lefts (u ∷ [])) (sym later.0) in
    let f : rights (y ∷ []) ≡ rights (t ∷ []) = ap (λ u. rights (u ∷ [])) (sym later.0) in
    record { front = front; stands = later.1; deep = omega (arith, lefts-cons y front, rights-cons y front, step.count, deep, e, f) }

pub out_later : (s s' : ReadingStage) (t u : Token) (ts : List Token) → Step s t s'
    → OutAt s (t ∷ ts) u → OutAt s' ts u
out_later s s' t u ts step (at_front b st n) =
    absurd (step.starts b (subst IsNotLeft (sym (stands_first t ts u st)) n))
out_later s s' t u ts step (beyond {us} r st) = beyond (step.to ts us r) st

-- A fault of the tokens is one of those after the first.
fault_later : (end : ℕ) (s s' : ReadingStage) (t : Token) (ts : List Token) (g : TextFault)
    → Step s t s' → FaultAt end s (t ∷ ts) g → FaultAt end s' ts g
fault_later end s s' t ts (BadByte p) step h = bad_at t ts h.front p step.good h.stands
fault_later end s s' t ts (Unclosed p) step h =
    record { at_end = h.at_end; no_rest = λ us r. h.no_rest us (step.from ts us r) }
fault_later end s s' t ts (Extra p) step h =
    record { token = h.token; at_place = h.at_place; out = out_later s s' t h.token ts step h.out }
fault_later end s s' t ts (TooDeep p) step h = deep_at s s' t ts h.front p step h.stands h.deep
fault_later end s s' t ts Memory step h = h

out_earlier : (s s' : ReadingStage) (t u : Token) (ts : List Token) → Step s t s' → OutAt s' ts u
    → OutAt s (t ∷ ts) u
out_earlier s s' t u ts step (at_front b st n) = absurd (step.begun b)
out_earlier s s' t u ts step (beyond {us} r st) = beyond (step.from ts us r) st

-- And the other way round.
fault_earlier : (end : ℕ) (s s' : ReadingStage) (t : Token) (ts : List Token) (g : TextFault)
    → Step s t s' → FaultAt end s' ts g → FaultAt end s (t ∷ ts) g
fault_earlier end s s' t ts (BadByte p) step h =
    record { front = t ∷ h.front; stands = stands_more t ts h.front (Token.bad p) h.stands }
fault_earlier end s s' t ts (Unclosed p) step h =
    record { at_end = h.at_end; no_rest = λ us r. h.no_rest us (step.to ts us r) }
fault_earlier end s s' t ts (Extra p) step h = record
    { token = h.token; at_place = h.at_place; out = out_earlier s s' t h.token ts step h.out }
fault_earlier end s s' t ts (TooDeep p) step h = record {
  front = t ∷ h.front;
  stands = stands_more t ts h.front (Token.left p) h.stands;
  deep = omega (arith, lefts-cons t h.front, rights-cons t h.front, step.count, h.deep);
}
fault_earlier end s s' t ts Memory step h = h

-- What is decided of the tokens after a step is decided of them all.
pub passed : (end : ℕ) (s s' : ReadingStage) (t : Token) (ts : List Token) (o : Option TextFault)
    → Step s t s' → Decided end s' ts o → Decided end s (t ∷ ts) o
passed end s s' t ts None step d = λ g h. d g (fault_later end s s' t ts g step h)
passed end s s' t ts (Some f) step d =
    (fault_earlier end s s' t ts f step d.0, λ g h. d.1 g (fault_later end s s' t ts g step h))

pub closes_ascends : {d low end : ℕ} {ts us : List Token} → Closes d ts us → Ascends low end ts
    → Ascends low end us
closes_ascends closes_none a = a
closes_ascends (closes_more b more) a = closes_ascends more (ascends_tail (ascends_behind b a))

pub rest_ascends : (s : ReadingStage) (low end : ℕ) (ts us : List Token) → Rest s ts us
    → Ascends low end ts → Ascends low end us
rest_ascends before low end ts us r a = ascends_behind r.tokens a
rest_ascends (inside d) low end ts us r a = closes_ascends r a
rest_ascends after low end ts us r a = subst (Ascends low end) r a

pub out_low : (s : ReadingStage) (low end : ℕ) (ts : List Token) (t : Token) → Ascends low end ts
    → OutAt s ts t → low ≤ token_place t
out_low s low end ts t a (at_front b st n) = (stands_within low end ts [] t a st).0
out_low s low end ts t a (beyond {us} {front} r st) =
    (stands_within low end us front t (rest_ascends s low end ts us r a) st).0

-- No fault stands before the tokens.
pub fault_low : (s : ReadingStage) (low end : ℕ) (ts : List Token) (g : TextFault) → low ≤ end
    → Ascends low end ts → FaultAt end s ts g → low ≤ fault_place g
fault_low s low end ts (BadByte p) le a h =
    (stands_within low end ts h.front (Token.bad p) a h.stands).0
fault_low s low end ts (Unclosed p) le a h = let e = h.at_end in omega arith
fault_low s low end ts (Extra p) le a h =
    let e = h.at_place in let l = out_low s low end ts h.token a h.out in omega arith
fault_low s low end ts (TooDeep p) le a h =
    (stands_within low end ts h.front (Token.left p) a h.stands).0
fault_low s low end ts Memory le a h = absurd h

pub by_place : (p q m n : ℕ) → p ≤ q → m ≤ n → (p < q) ⊎ ((p ≡ q) × (m ≤ n))
by_place p q m n le h =
    elim (eqb_tells p q) [ inl e ↦ inr (e.1, h) | inr e ↦ inl (let f = e.1 in omega arith) ]
