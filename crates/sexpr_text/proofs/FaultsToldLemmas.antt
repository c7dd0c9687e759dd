-- What an answer tells of the faults of a text.
use Rattle.std.proofs.Common.{◌≡◌, ℕ, List, length, Option, Some, None, Ok, Err, subst, arith}
use Rattle.sexpr_text.specs.declared.fault.TextFault.{TextFault}
use Rattle.sexpr_text.specs.declared.fault.TextFault.TheVariants.{BadByte, Unclosed, Extra, TooDeep, Memory}
use Rattle.sexpr_text.specs.Tokens.{Token, tokens_of}
use Rattle.sexpr_text.specs.Trees.{Trees}
use Rattle.sexpr_text.specs.Reading.{before, first_fault, levels, reading, unless_fault}
use Rattle.sexpr_text.specs.Faults.{IsOutside, first_token, behind_list, IsFaultOf, HasFault, HasNoFault, IsLeastFault}
use Rattle.sexpr_text.proofs.LexingLemmas.{lexes_tokens, tokens_unique}
use Rattle.sexpr_text.proofs.ReadingSound.{unless_ok}
use Rattle.sexpr_text.proofs.TokensPlaceLemmas.{ascends_of}
use Rattle.sexpr_text.proofs.FaultsStageLemmas.{OutAt, at_front, beyond, FaultAt, Decided}
use Rattle.sexpr_text.proofs.FaultsLeast.{decided}

outside_out : (ts : List Token) (t : Token) → OutAt before ts t → IsOutside ts t
outside_out ts t (at_front b st n) = first_token st n
outside_out ts t (beyond r st) = behind_list r st

out_outside : (ts : List Token) (t : Token) → IsOutside ts t → OutAt before ts t
out_outside ts t (first_token st n) = at_front tt st n
out_outside ts t (behind_list r st) = beyond r st

-- A fault of the tokens from the beginning on is a fault of them, and the other way round.
at_is : (end : ℕ) (ts : List Token) (g : TextFault) → FaultAt end before ts g → IsFaultOf end ts g
at_is end ts (BadByte p) h = h
at_is end ts (Unclosed p) h = record { at_end = h.at_end; no_list = h.no_rest }
at_is end ts (Extra p) h =
    record { token = h.token; at_place = h.at_place; outside = outside_out ts h.token h.out }
at_is end ts (TooDeep p) h =
    record { front = h.front; stands = h.stands; deep = omega (arith, h.deep) }
at_is end ts Memory h = h

is_at : (end : ℕ) (ts : List Token) (g : TextFault) → IsFaultOf end ts g → FaultAt end before ts g
is_at end ts (BadByte p) h = h
is_at end ts (Unclosed p) h = record { at_end = h.at_end; no_rest = h.no_list }
is_at end ts (Extra p) h =
    record { token = h.token; at_place = h.at_place; out = out_outside ts h.token h.outside }
is_at end ts (TooDeep p) h =
    record { front = h.front; stands = h.stands; deep = omega (arith, h.deep) }
is_at end ts Memory h = h

fault_has : (bytes : List ℕ) (g : TextFault) → FaultAt (length bytes) before (tokens_of bytes) g
    → HasFault bytes g
fault_has bytes g h = record { tokens = tokens_of bytes; lexed = lexes_tokens 0 bytes; fault = at_is (length bytes) (tokens_of bytes) g h }

has_fault : (bytes : List ℕ) (g : TextFault) → HasFault bytes g
    → FaultAt (length bytes) before (tokens_of bytes) g
has_fault bytes g h = is_at (length bytes) (tokens_of bytes) g (subst (λ ts. IsFaultOf (length bytes) ts g) (tokens_unique h.lexed) h.fault)

unless_err : (o : Option TextFault) (t : Trees) (f : TextFault) → unless_fault o t ≡ Err f
    → o ≡ Some f
unless_err None t f e = cc
unless_err (Some g) t f e = cc

decided_of : (bytes : List ℕ) (o : Option TextFault)
    → first_fault (length bytes) before (tokens_of bytes) ≡ o
    → Decided (length bytes) before (tokens_of bytes) o
decided_of bytes o e =
    subst (Decided (length bytes) before (tokens_of bytes)) e (decided (length bytes) 0 (tokens_of bytes) (ascends_of bytes))

-- A fault that is answered is the least one.
pub blamed : (bytes : List ℕ) (f : TextFault) → reading bytes ≡ Err f → IsLeastFault bytes f
unfolding reading
blamed bytes f e =
    let d = decided_of bytes (Some f)
    (unless_err (first_fault (length bytes) before (tokens_of bytes)) (levels (tokens_of bytes)).inner f e) in
    record { has = fault_has bytes f d.0; least = λ g h. d.1 g (has_fault bytes g h) }

-- A text that is read has no fault.
pub faultless : (bytes : List ℕ) (t : Trees) → reading bytes ≡ Ok t → HasNoFault bytes
unfolding reading
faultless bytes t e =
    let both = unless_ok (first_fault (length bytes) before (tokens_of bytes)) (levels (tokens_of bytes)).inner t e in
    λ g h. decided_of bytes None both.0 g (has_fault bytes g h)
