use Rattle.std.proofs.Common.{ap, sym, ◌∙◌, ◌++◌, ◌∷◌, [], length, arith, length-append}
use Rattle.std.proofs.lemmas.List.{take_more}
use Rattle.std.proofs.lemmas.Option.{slice_get_within, get_or_from_slice_get}
use Rattle.gen_lines.specs.Told.{texts}
use Rattle.session_core.proofs.RoomLemmas.{all_short}
use Rattle.session_core.proofs.room.Room.fill.Goals as goal

pub name-requires : goal.name-requires
name-requires c = all_short (texts c.args.line.now c.args.spans.now) c.loop-value.value c.text.result.now c.requires.values c.text.ensures

pub loop-value-preserved : goal.loop-value-preserved
loop-value-preserved c =
    let all = texts c.args.line.now c.args.spans.now in
    let i = c.loop-value.value in
    let text = c.text.result.now in
    let names = c.push_reserved.ensures.items in
    let popped = ap length c.in-Some.ensures.items ∙ length-append c.pop.new.self.items (c.in-Some.blank ∷ []) in
    let longer = ap length names ∙ length-append c.loop-value.names.items _ in
    record {
      same =
          names
          ∙ (λ k. c.loop-value.invariant.same k ++ (c.name.ensures ∙ sym (get_or_from_slice_get all i text text c.text.ensures)) k ∷ [])
          ∙ sym (take_more all i text (slice_get_within all i text c.text.ensures));
      blanks = omega (arith, popped, c.loop-value.invariant.blanks);
      room = omega (arith, popped, longer, c.push_reserved.ensures.capacity, c.loop-value.invariant.room);
    }
