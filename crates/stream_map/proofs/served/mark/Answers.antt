use Rattle.std.proofs.Common.{◌≡◌, ◌<◌, ◌∙◌, refl, sym, get_or, length, false, rules, arith}
use Rattle.std.proofs.lemmas.Grind.{common_steps}
use Rattle.std.proofs.lemmas.List.{length-set}
use Rattle.stream_map.proofs.ServedLemmas.{mark_next, marks_end, repeat_more}
use Rattle.stream_map.proofs.served.mark.Goals as goal

pub loop-stream-preserved : goal.loop-stream-preserved
loop-stream-preserved c =
    let ks = c.args.streams.now in
    let i = c.loop-stream.stream-index in
    let within : i < length ks = omega arith in
    let bounded = c.requires i 0 within in
    let low : get_or ks i 0 < length c.loop-stream.marks.items = omega (arith, bounded, c.loop-stream.invariant.count) in
    record {
      count =
          length-set c.loop-stream.marks.items (get_or ks i 0) _ ∙ c.loop-stream.invariant.count;
      marks = λ before marked. mark_next before ks c.loop-stream.marks.items i within low (c.loop-stream.invariant.marks before marked);
      repeats = λ before marked.
          let unmarked : get_or c.loop-stream.marks.items (get_or ks i 0) false ≡ false =
          first_of (search rules, grind (arith, common_steps)) in
          let fresh = sym (c.loop-stream.invariant.marks before marked (get_or ks i 0) false low) ∙ unmarked in
          c.loop-stream.invariant.repeats before marked ∙ repeat_more before ks i (get_or ks i 0) within refl fresh;
    }

pub returns-clause-marks : goal.returns-clause-marks
returns-clause-marks c before marked =
    marks_end before c.args.streams.now c.loop-stream.marks.items c.loop-stream.stream-index
    (omega arith) (c.loop-stream.invariant.marks before marked)
