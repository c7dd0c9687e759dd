use Rattle.std.proofs.Common.{◌≡◌, ◌<◌, ◌+◌, ◌++◌, ◌∙◌, sym, ap, subst, List, ℕ, take, All, true, false, rules, arith}
use Rattle.std.specs.List.{list_all}
use Rattle.stream_map.specs.Served.{AreMarks, has_repeat, streams_in}
use Rattle.stream_map.proofs.ServedLemmas.{all_of_pool, doubled_here, repeats_more, served_end, streams_more}
use Rattle.stream_map.proofs.served.served_fault.Goals as goal

pub mark-requires : goal.mark-requires
mark-requires c =
    let part = all_of_pool (λ s. s < c.args.count) c.args.pools.now c.loop-pool.pool-index c.pool-item.result
    (omega arith) c.pool-item.is c.requires in
    let P : List ℕ → Type 0 = All (λ s. s < c.args.count) in
    let low = subst P (sym c.as_slice.ensures) part in
    λ k d lt. let here = low k d lt in omega (arith, here, c.loop-pool.invariant.count)

pub returns-then-mark : goal.returns-then-mark
returns-then-mark c =
    let before = streams_in (take c.loop-pool.pool-index c.args.pools.now) in
    let old : has_repeat before c.pool-item.result.streams ≡ true =
    ap (has_repeat before) (sym c.as_slice.ensures) ∙ sym (c.mark.ensures.repeat before c.loop-pool.invariant.marks) ∙ c.if-mark.true in
    doubled_here c.args.pools.now c.loop-pool.pool-index c.pool-item.result
    (omega arith) c.pool-item.is c.loop-pool.invariant.repeats old c.args.count

pub loop-pool-preserved : goal.loop-pool-preserved
loop-pool-preserved c =
    let before = streams_in (take c.loop-pool.pool-index c.args.pools.now) in
    let fresh : has_repeat before c.pool-item.result.streams ≡ false =
    ap (has_repeat before) (sym c.as_slice.ensures) ∙ sym (c.mark.ensures.repeat before c.loop-pool.invariant.marks) ∙ c.if-mark.false in
    let more : before ++ c.as_slice.result.now ≡ streams_in (take (c.loop-pool.pool-index + 1) c.args.pools.now) =
    ap (λ ks. before ++ ks) c.as_slice.ensures
    ∙ sym (streams_more c.args.pools.now c.loop-pool.pool-index c.pool-item.result (omega arith) c.pool-item.is) in
    let P : List ℕ → Type 0 = λ ks. AreMarks ks c.mark.new.marks.items in
    record {
      count = c.mark.ensures.count ∙ c.loop-pool.invariant.count;
      marks = subst P more (c.if-mark.ensures.marks before c.loop-pool.invariant.marks);
      repeats = repeats_more c.args.pools.now c.loop-pool.pool-index c.pool-item.result
          (omega arith) c.pool-item.is c.loop-pool.invariant.repeats fresh;
    }

pub returns-then-are_all_marked : goal.returns-then-are_all_marked
returns-then-are_all_marked c =
    let all : true ≡ list_all (λ b. b) c.loop-pool.marks.items = search rules in
    served_end c.args.count c.args.pools.now c.loop-pool.pool-index c.loop-pool.marks.items
    (omega arith) c.loop-pool.invariant.count c.loop-pool.invariant.marks c.loop-pool.invariant.repeats true all

pub returns : goal.returns
returns c =
    let all : false ≡ list_all (λ b. b) c.loop-pool.marks.items = search rules in
    served_end c.args.count c.args.pools.now c.loop-pool.pool-index c.loop-pool.marks.items
    (omega arith) c.loop-pool.invariant.count c.loop-pool.invariant.marks c.loop-pool.invariant.repeats false all
