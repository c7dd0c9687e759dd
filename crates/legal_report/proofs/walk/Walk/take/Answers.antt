use Rattle.std.proofs.Common.{◌∙◌, ap, get_or, sym, Some}
use Rattle.lemmas.proofs.ListTests.{get_some}
use Rattle.legal_report.proofs.WalksLemmas.{mark_taken, other_mark}
use Rattle.legal_report.proofs.walk.Walk.take.Goals as goal

pub returns-in_default-entry : goal.returns-in_default-entry
returns-in_default-entry c =
    let e = get_or c.args.self.now.entries.now c.args.place c.index-self-place.result in
    let there = get_some c.args.self.now.entries.now c.args.place c.index-self-place.result c.requires.within c.index-self-place.is
    ∙ ap Some c.index-self-place.is in
    mark_taken c.args.self.now c.args.place c.args.knowledge.now c.requires.stands e there
    (other_mark e (sym c.answered.ensures ∙ c.in_default.is) c.in_default-entry.not-Ask)
