-- Answers at places.
use Rattle.std.proofs.Common.{◌≡◌, ℕ, ◌<◌, arith, Option, Some, None, option_to_list}
use Rattle.std.proofs.lemmas.List.{get_or_past}
use Rattle.grid_world.specs.Answers.{all_sides, nth}
use Rattle.grid_world.specs.declared.answer.GridAnswer.{GridAnswer}
use Rattle.grid_world.specs.declared.answer.GridAnswer.TheVariants.{End}

pub no_fifth_side : (k : ℕ) → 3 < k → nth k all_sides ≡ End
no_fifth_side k h = get_or_past all_sides k End (omega arith)

pub none_later : (o : Option GridAnswer) (k : ℕ) → 0 < k → nth k (option_to_list o) ≡ End
none_later None k h = get_or_past (option_to_list None) k End (omega arith)
none_later (Some x) k h = get_or_past (option_to_list (Some x)) k End (omega arith)
