-- The causes of how runs end.
use Rattle.std.proofs.Common.{◌≡◌, ℕ, ◌≤◌, arith, List, true, false, sym, ap, ◌∙◌, inl, inr, subst, Result, Ok, Err, IfErr, IsErrAnd}
use Rattle.io_world.specs.Faults.{HasCause, last_count}
use Rattle.round_run.proofs.StoppedLemmas.{same_err, handed_err}
use Rattle.round_run.specs.declared.fault.RunFault.TheVariants as fault
use Rattle.command_files.specs.declared.stop.Stop.TheVariants as stop
use Rattle.run_command.specs.Solving.{IsAtText}
use Rattle.run_command.specs.Making.{IsLined}
use Rattle.command_files.specs.Stop.{IsOfInput, is_write}
use Rattle.command_files.specs.declared.status.Status.{Status}
use Rattle.command_files.specs.declared.stop.Stop.{Stop}
use Rattle.command_files.specs.Outside.{Written}

-- a run that ends so has no fault of the host, nor of the sink
pub no_cause : {T : Type 0} (r : Result T Stop) (why bad : Stop) (last count : ℕ) → IsErrAnd r (λ e. e ≡ why)
    → IsOfInput why → (IsOfInput bad → ⊥) → HasCause bad last count count r
no_cause r why bad last count is input not = record {
  later = omega arith;
  cause = λ failed. absurd (not (subst IsOfInput (same_err (sym (handed_err r why is) ∙ failed)) input));
}

-- ---- made tasks

-- a sink that never fails is no cause
pub unfailed : {T : Type 0} (r : Result T Stop) (why : Stop) → r ≡ Err why
    → HasCause (stop.Run fault.Write) last_count 0 0 r → ¬ (why ≡ stop.Run fault.Write)
unfailed r why is h e = let rose = h.cause (is ∙ ap Err e) in omega (arith, rose)

-- neither want of memory nor a fault of the sink is a fault of the generator
pub lined_generator : (kind : Status) (line : List ℕ) (written : Written) (r : Result Status Stop) → IsLined kind line written r
    → IfErr r (λ why. ¬ (why ≡ stop.Run fault.Generator))
lined_generator kind line written (Ok status) said = tt
lined_generator kind line written (Err why) (inl m) = λ e. subst IsOfInput (sym m.0 ∙ e) tt
lined_generator kind line written (Err why) (inr w) = λ e.
    let other : true ≡ false = ap is_write (sym w.0 ∙ e) in absurd (cc)

-- so it counts none
pub spared : {T : Type 0} (r : Result T Stop) (why : Stop) (count : ℕ) → r ≡ Err why → ¬ (why ≡ stop.Run fault.Write)
    → HasCause (stop.Run fault.Write) last_count count count r
spared r why count is not = record {
  later = omega arith;
  cause = λ failed. absurd (not (same_err (sym is ∙ failed)));
}

pub lined_spares : (kind : Status) (line : List ℕ) (written : Written) (r : Result Status Stop) → IsLined kind line written r
    → r ≡ Err (stop.Run fault.Generator) → ⊥
lined_spares kind line written (Ok status) said failed = absurd (cc)
lined_spares kind line written (Err why) said failed = lined_generator kind line written (Err why) said (same_err failed)

pub host_of_lined : (kind : Status) (line : List ℕ) (written : Written) (r : Result Status Stop) → IsLined kind line written r
    → (last before now : ℕ) → before ≤ now → HasCause (stop.Run fault.Generator) last before now r
host_of_lined kind line written r said last before now later = record {
  later = later;
  cause = λ failed. absurd (lined_spares kind line written r said failed);
}

-- no text is to blame where the line of a run was written, or not
pub lined_at_text : (P : Type 0) (kind : Status) (line : List ℕ) (written : Written) (r : Result Status Stop)
    → IsLined kind line written r → IfErr r (λ why. IsAtText why → P)
lined_at_text P kind line written (Ok status) said = tt
lined_at_text P kind line written (Err why) (inl x) = λ t. absurd (subst IsAtText x.0 t)
lined_at_text P kind line written (Err why) (inr x) = λ t. absurd (subst IsAtText x.0 t)
