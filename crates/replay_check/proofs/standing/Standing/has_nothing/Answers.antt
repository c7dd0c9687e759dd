use Rattle.std.proofs.Common.{◌≡◌, ◌∙◌, rules, sym}
use Rattle.transcript_model.specs.declared.head.Mode.TheVariants.{Adaptive}
use Rattle.replay_check.proofs.DueLemmas.{none_where}
use Rattle.replay_check.proofs.standing.Standing.has_nothing.Goals as goal

pub returns-else-ne : goal.returns-else-ne
returns-else-ne c =
    let mode : c.args.bounds.now.mode ≡ Adaptive = search rules in
    let same = none_where c.args.self.now.course.kept.skeletons c.next_pick.result c.next_pick.ensures.some c.next_pick.ensures.none
    c.is_none.result (sym c.is_none.ensures) in (
      λ none. (sym c.is_undreamt.ensures ∙ c.if-is_undreamt.true, λ is. same.0 none),
      λ nothing. same.1 (nothing.1 mode),
    )
