use Rattle.std.proofs.Common.{◌∙◌, List, ap, arith, length, refl, subst, sym}
use Rattle.std.proofs.lemmas.Option.{slice_get_within}
use Rattle.learning.specs.declared.knowledge.Knowledge.{Knowledge}
use Rattle.transcript_model.specs.declared.entry.Entry.{Entry}
use Rattle.legal_report.proofs.ReportsLemmas.{walk_ends}
use Rattle.legal_report.specs.Reports.{IsCertifiedReport}
use Rattle.legal_report.specs.Walks.{IsWalkDone, StandsAtEntry}
use Rattle.legal_report.specs.declared.report.Certified.TheVariants.{Legal}
use Rattle.legal_report.specs.declared.walk.Walk.{Walk}
use Rattle.legal_report.proofs.report.certify_report.Goals as goal

pub walk-requires-clause-stands : goal.walk-requires-clause-stands
walk-requires-clause-stands c =
    let counted = (c.in_ok-new.ensures 1).counted in
    subst (StandsAtEntry _ 0) (sym (c.deref_mut.ensures.value ∙ c.in_ok-knowledge.ensures.ok))
    (record { knowledge = c.in_ok-new.ensures c.args.report.now.version; few = omega (arith, counted) })

pub line_of-requires-clause-within : goal.line_of-requires-clause-within
line_of-requires-clause-within c =
    let stops = subst (IsWalkDone _ _) c.in-Stops.is c.in_ok-walk.ensures in
    let within = slice_get_within c.as_slice.result.now c.in-Stops.place stops.e stops.there in
    let same = ap (λ (es : List Entry). length es) c.as_slice.ensures in
    omega (arith, within, same)

pub returns-in-Ends : goal.returns-in-Ends
returns-in-Ends c =
    let r = c.args.report.now in
    let w : Walk =
    record { alloc = c.args.alloc; task = c.args.task; version = r.version; entries = c.as_slice.result } in
    let stands = subst (IsWalkDone _ _) c.in-Ends.is c.in_ok-walk.ensures in
    subst (λ (l : Knowledge). IsCertifiedReport c.args.task.now r (Legal l)) (sym c.into_inner.ensures)
    (walk_ends w r refl c.as_slice.ensures c.walk.new.knowledge (record { knowledge = stands.knowledge; few = stands.few }))
