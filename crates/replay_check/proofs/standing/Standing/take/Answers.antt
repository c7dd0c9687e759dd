use Rattle.std.proofs.Common.{◌∙◌, sym}
use Rattle.replay_check.proofs.WalksLemmas.{other_refused}
use Rattle.replay_check.proofs.standing.Standing.take.Goals as goal

pub returns-in_default-entry : goal.returns-in_default-entry
returns-in_default-entry c =
    let no = c.in_default-entry in
    other_refused c.args.bounds.now c.args.entries.now c.args.place c.index-entries-place.result
    (sym c.answered.ensures ∙ c.in_default.is) no.not-Ask no.not-Level no.not-Dream no.not-Nothing no.not-Reset no.not-Pick
    no.not-Retire
