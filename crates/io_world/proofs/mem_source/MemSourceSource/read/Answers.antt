use Rattle.std.proofs.Common.{arith, ◌<◌, length, ap, ◌∙◌, sym, List, ℕ}
use Rattle.io_world.specs.MemSourceState.{MemSourceState}
use Rattle.io_world.proofs.GivenLemmas.{left_after, none_left}
use Rattle.io_world.proofs.mem_source.MemSourceSource.read.Goals as goal

pub returns-clause-bytes : goal.returns-clause-bytes
returns-clause-bytes c =
    let given = left_after _ _ _ _ c.give-count.new.room c.deref-2.ensures.value c.give-count.ensures.given in
    let room : 0 < length c.args.room.now = omega arith in
    let left_of : MemSourceState → List ℕ = λ s. s.left in (
      sym (ap left_of c.self.view_is) ∙ given,
      λ empty more. none_left _ _ _ _ c.deref-2.ensures.value empty (c.give-count.ensures.end empty (c.cut_at-cut.ensures.some room) room),
    )
