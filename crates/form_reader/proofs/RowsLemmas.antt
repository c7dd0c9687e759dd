-- Parts of a text are no larger and no deeper.
use Rattle.std.proofs.Common.{◌≤◌, arith}
use Rattle.sexpr_text.specs.Trees.{Trees, nothing, word, list, depth, size}
use Rattle.form_reader.specs.Rows.{inner_of, tail_of}

pub tail_small : (ts : Trees) → size (tail_of ts) ≤ size ts
tail_small nothing = omega arith
tail_small (word text at rest) = omega arith
tail_small (list items at rest) = omega arith

pub inner_small : (ts : Trees) → size (inner_of ts) ≤ size ts
inner_small nothing = omega arith
inner_small (word text at rest) = omega arith
inner_small (list items at rest) = omega arith

pub tail_shallow : (ts : Trees) → depth (tail_of ts) ≤ depth ts
tail_shallow nothing = omega arith
tail_shallow (word text at rest) = omega arith
tail_shallow (list items at rest) = omega arith
