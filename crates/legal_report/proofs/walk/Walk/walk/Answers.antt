use Rattle.std.proofs.Common.{◌≡◌, arith, length, subst}
use Rattle.legal_report.specs.Walks.{StandsAtEntry}
use Rattle.legal_report.proofs.walk.Walk.walk.Goals as goal

pub loop-place-init : goal.loop-place-init
loop-place-init c = c.requires.stands

pub returns : goal.returns
returns c =
    let w = c.args.self.now in
    let all : c.loop-place.place ≡ length w.entries.now = omega (arith, c.loop-place-test.false, c.loop-place.auto.place-end) in
    subst (λ n. StandsAtEntry w n c.loop-place.knowledge) all c.loop-place.invariant
