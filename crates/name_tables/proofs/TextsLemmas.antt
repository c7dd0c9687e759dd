-- How large the items of a text are.
use Rattle.std.proofs.Common.{◌-◌, ◌≤◌, arith}
use Rattle.sexpr_text.specs.Trees.{Trees, nothing, word, list, depth, size}
use Rattle.form_reader.proofs.RowsLemmas.{tail_small, inner_small, tail_shallow}
use Rattle.form_reader.specs.Rows.{inner_of, tail_of}
use Rattle.name_tables.specs.Texts.{body_of}

pub inner_shallow : (ts : Trees) → depth (inner_of ts) ≤ depth ts - 1
inner_shallow nothing = omega arith
inner_shallow (word text at rest) = omega arith
inner_shallow (list items at rest) = omega arith

-- no larger than the text, and one level less deep
pub body_less : (t : Trees) → size (body_of t) ≤ size t
body_less t =
    omega (arith, inner_small t, tail_small (inner_of t), tail_small (tail_of (inner_of t)))

pub body_shallow : (t : Trees) → depth (body_of t) ≤ depth t - 1
body_shallow t =
    omega (arith, inner_shallow t, tail_shallow (inner_of t), tail_shallow (tail_of (inner_of t)))
