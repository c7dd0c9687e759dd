-- Readings of texts.
use Rattle.std.proofs.Common.{◌≡◌, ◌⊎◌, ℕ, List, Result, Ok, Err, refl, arith, inl, inr}
use Rattle.sexpr_text.specs.Faults.{ComesFirst, IsLeastFault, fault_number, fault_place}
use Rattle.sexpr_text.specs.Reading.{reading}
use Rattle.sexpr_text.specs.Spelling.{Spells}
use Rattle.sexpr_text.specs.Trees.{Trees}
use Rattle.sexpr_text.specs.declared.fault.TextFault.{TextFault}
use Rattle.sexpr_text.specs.declared.fault.TextFault.TheVariants.{BadByte, Unclosed, Extra, TooDeep, Memory}
use Rattle.sexpr_text.proofs.FaultsToldLemmas.{blamed, faultless}
use Rattle.sexpr_text.proofs.ReadingSound.{found}

-- a place and a number are one fault
fault_by_number : (f g : TextFault) → fault_place f ≡ fault_place g → fault_number f ≡ fault_number g → f ≡ g
fault_by_number (BadByte p) (BadByte q) e n = rw e refl
fault_by_number (BadByte p) (Unclosed q) e n = absurd (omega (arith, n))
fault_by_number (BadByte p) (Extra q) e n = absurd (omega (arith, n))
fault_by_number (BadByte p) (TooDeep q) e n = absurd (omega (arith, n))
fault_by_number (BadByte p) Memory e n = absurd (omega (arith, n))
fault_by_number (Unclosed p) (BadByte q) e n = absurd (omega (arith, n))
fault_by_number (Unclosed p) (Unclosed q) e n = rw e refl
fault_by_number (Unclosed p) (Extra q) e n = absurd (omega (arith, n))
fault_by_number (Unclosed p) (TooDeep q) e n = absurd (omega (arith, n))
fault_by_number (Unclosed p) Memory e n = absurd (omega (arith, n))
fault_by_number (Extra p) (BadByte q) e n = absurd (omega (arith, n))
fault_by_number (Extra p) (Unclosed q) e n = absurd (omega (arith, n))
fault_by_number (Extra p) (Extra q) e n = rw e refl
fault_by_number (Extra p) (TooDeep q) e n = absurd (omega (arith, n))
fault_by_number (Extra p) Memory e n = absurd (omega (arith, n))
fault_by_number (TooDeep p) (BadByte q) e n = absurd (omega (arith, n))
fault_by_number (TooDeep p) (Unclosed q) e n = absurd (omega (arith, n))
fault_by_number (TooDeep p) (Extra q) e n = absurd (omega (arith, n))
fault_by_number (TooDeep p) (TooDeep q) e n = rw e refl
fault_by_number (TooDeep p) Memory e n = absurd (omega (arith, n))
fault_by_number Memory (BadByte q) e n = absurd (omega (arith, n))
fault_by_number Memory (Unclosed q) e n = absurd (omega (arith, n))
fault_by_number Memory (Extra q) e n = absurd (omega (arith, n))
fault_by_number Memory (TooDeep q) e n = absurd (omega (arith, n))
fault_by_number Memory Memory e n = refl

-- of two faults that come first one is the other
first_once : (f g : TextFault) → ComesFirst f g → ComesFirst g f → f ≡ g
first_once f g (inl a) (inl b) = absurd (omega (arith, a, b))
first_once f g (inl a) (inr b) = absurd (omega (arith, a, b.0))
first_once f g (inr a) (inl b) = absurd (omega (arith, a.0, b))
first_once f g (inr a) (inr b) = fault_by_number f g a.0 (omega (arith, a.1, b.1))

least_by : (bytes : List ℕ) (f : TextFault) (r : Result Trees TextFault) → reading bytes ≡ r → IsLeastFault bytes f
    → r ≡ Err f
least_by bytes f (Ok t) e least = absurd (faultless bytes t e f least.has)
least_by bytes f (Err g) e least =
    let other = blamed bytes g e in
    let same : g ≡ f = first_once g f (other.least f least.has) (least.least g other.has) in
    rw same refl

pub least_read : (bytes : List ℕ) (f : TextFault) → IsLeastFault bytes f → reading bytes ≡ Err f
least_read bytes f least = least_by bytes f (reading bytes) refl least

either_by : (bytes : List ℕ) (r : Result Trees TextFault) → reading bytes ≡ r
    → ((t : Trees) × Spells bytes t) ⊎ ((f : TextFault) × IsLeastFault bytes f)
either_by bytes (Ok t) e = inl (t, found bytes t e)
either_by bytes (Err f) e = inr (f, blamed bytes f e)

pub either_read : (bytes : List ℕ) → ((t : Trees) × Spells bytes t) ⊎ ((f : TextFault) × IsLeastFault bytes f)
either_read bytes = either_by bytes (reading bytes) refl
