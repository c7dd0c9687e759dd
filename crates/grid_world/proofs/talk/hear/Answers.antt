use Rattle.std.proofs.Common.{List, ℕ, arith, get_or, subst, sym, take}
use Rattle.std.proofs.lemmas.List.{take_more}
use Rattle.grid_world.specs.Sessions.{SessionGoesOn, SessionHearsByte}
use Rattle.grid_world.proofs.SessionsLemmas.{goes_more}
use Rattle.grid_world.proofs.talk.hear.Goals as goal

pub loop-byte-preserved : goal.loop-byte-preserved
loop-byte-preserved c written e =
    let grid = c.args.grid.now in
    let bytes = c.args.bytes.now in
    let i = c.loop-byte.byte-index in
    let old = c.loop-byte.heard in
    let new = c.hear_byte.new.heard in
    let hears : SessionHearsByte grid (get_or bytes i 0) old.begun.items old.answers.items new.begun.items new.answers.items =
    c.in_ok-hear_byte.ensures in
    subst (λ (front : List ℕ). SessionGoesOn grid written front new.begun.items new.answers.items) (sym (take_more bytes i 0 (omega arith)))
    (goes_more grid written (take i bytes) old.begun.items old.answers.items new.begun.items new.answers.items
    (get_or bytes i 0) (c.loop-byte.invariant written e) hears)
