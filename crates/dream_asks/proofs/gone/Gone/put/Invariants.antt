use Rattle.std.proofs.Common.{◌≡◌, ℕ, drop, nat_eq}
use Rattle.std.specs.Map.{lookup}
use Rattle.std.specs.Option.{option_or}
use Rattle.dream_asks.specs.Progress.{got}
use Rattle.transcript_model.specs.Dreaming.{paired}
use Rattle.dream_asks.proofs.gone.Gone.put.Given as goal

-- the first are noted, and the others are still to be
abbrev pub invariant-loop-place : goal.invariant-loop-place
invariant-loop-place l = record {
  real : l.self-inside.real ≡ l.fn.self.real;
  taken : l.self-inside.taken ≡ l.fn.self.taken;
  left : (o : ℕ) → option_or (got l.fn.self o) (paired l.outputs l.objects o)
      ≡ option_or (lookup (nat_eq o) l.self-inside.values.entries) (paired (drop l.place l.outputs) (drop l.place l.objects) o);
}
