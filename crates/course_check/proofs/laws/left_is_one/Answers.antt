use Rattle.course_check.proofs.WholeLemmas.{kept_left, left_kept}
use Rattle.course_check.proofs.laws.left_is_one.Goals as goal

pub returns : goal.returns
returns c = λ limits task entries p k workers leads. (
  λ left. left_kept limits task entries p leads k left,
  λ kept. kept_left limits task entries p leads k workers kept.0 kept.1,
)
