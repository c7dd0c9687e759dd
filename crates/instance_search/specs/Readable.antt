-- Streams whose domain facts can be looked up. Those of a fit task are such.
use Rattle.std.specs.Prelude.{◌≡◌, ◌≤◌, length, true, Bool, ◌&&◌, nat_le}
use Rattle.std.specs.List.{list_all}
use Rattle.formula_eval.specs.Readable.{is_readable_term}
use Rattle.fact_join.specs.Answers.{is_pattern_of}
use Rattle.task_model.specs.declared.domain.Pattern.{Pattern}
use Rattle.task_model.specs.declared.stream.Stream.{Stream}

-- at most eight terms, whose slots are below sixteen
abbrev pub is_bounded_pattern : Pattern → Bool
is_bounded_pattern p = nat_le (length p.args) 8 && list_all is_readable_term p.args

pub record IsReadableStream (stream : Stream) : Type 0 where
  pub narrow : length stream.inputs ≤ 8
  pub patterns : list_all is_bounded_pattern stream.domain ≡ true
  pub slots : list_all (is_pattern_of (length stream.inputs)) stream.domain ≡ true
