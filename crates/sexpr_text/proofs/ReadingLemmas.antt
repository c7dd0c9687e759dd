-- What follows from the answer that the definition gives.
use Rattle.std.proofs.Common.{ℕ, ◌≤◌, List, length, Result, Ok, Err, IfOk, IfErr, subst}
use Rattle.sexpr_text.specs.declared.fault.TextFault.{TextFault}
use Rattle.sexpr_text.specs.declared.fault.TextFault.TheVariants.{BadByte, Unclosed, Extra, TooDeep, Memory}
use Rattle.sexpr_text.specs.declared.tree.Tree.{Tree}
use Rattle.sexpr_text.specs.Trees.{Trees, tree, size}
use Rattle.sexpr_text.specs.Spelling.{Spells}
use Rattle.sexpr_text.specs.Reading.{GivesRead, reading}
use Rattle.sexpr_text.specs.Faults.{BlamesPlace, HasNoFault}
use Rattle.sexpr_text.proofs.FaultsToldLemmas.{blamed, faultless}
use Rattle.sexpr_text.proofs.ReadingSound.{found}
use Rattle.sexpr_text.proofs.ReadingComplete.{only}
use Rattle.sexpr_text.proofs.TreesSizeLemmas.{small}

pub answered_found : (bytes : List ℕ) (r : Result Tree TextFault) → GivesRead tree r (reading bytes)
    → IfOk r (λ t. Spells bytes (tree t))
answered_found bytes (Ok t) g = found bytes (tree t) g
answered_found bytes (Err e) g = tt

pub answered_only : (bytes : List ℕ) (r : Result Tree TextFault) → GivesRead tree r (reading bytes)
    → (t : Trees) → Spells bytes t → GivesRead tree r (Ok t)
answered_only bytes r g t s = subst (GivesRead tree r) (only bytes t s) g

pub answered_small : (bytes : List ℕ) (r : Result Tree TextFault) → GivesRead tree r (reading bytes)
    → IfOk r (λ t. size (tree t) ≤ length bytes)
answered_small bytes (Ok t) g = small bytes (tree t) (found bytes (tree t) g)
answered_small bytes (Err e) g = tt

pub answered_clean : (bytes : List ℕ) (r : Result Tree TextFault) → GivesRead tree r (reading bytes)
    → IfOk r (λ t. HasNoFault bytes)
answered_clean bytes (Ok t) g = faultless bytes (tree t) g
answered_clean bytes (Err e) g = tt

pub answered_least : (bytes : List ℕ) (r : Result Tree TextFault) → GivesRead tree r (reading bytes)
    → IfErr r (BlamesPlace bytes)
answered_least bytes (Ok t) g = tt
answered_least bytes (Err (BadByte p)) g = blamed bytes (BadByte p) g
answered_least bytes (Err (Unclosed p)) g = blamed bytes (Unclosed p) g
answered_least bytes (Err (Extra p)) g = blamed bytes (Extra p) g
answered_least bytes (Err (TooDeep p)) g = blamed bytes (TooDeep p) g
answered_least bytes (Err Memory) g = tt
