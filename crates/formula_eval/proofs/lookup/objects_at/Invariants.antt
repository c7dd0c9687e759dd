use Rattle.std.proofs.Common.{◌≡◌, take, map}
use Rattle.task_model.specs.Truth.{object_of}
use Rattle.formula_eval.proofs.lookup.objects_at.Given as goal

-- the terms that were passed have their objects
abbrev pub invariant-loop-place : goal.invariant-loop-place
invariant-loop-place l = take l.place l.objects ≡ map (object_of l.env) (take l.place l.terms)
