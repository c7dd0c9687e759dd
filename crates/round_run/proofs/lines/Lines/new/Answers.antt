use Rattle.std.proofs.Common.{◌≡◌, ℕ, List, [], ◌∷◌, ap, arith, length, length-append, slice_get, subst, sym, unwrap_or}
use Rattle.round_run.proofs.TalkingLineLemmas.{none_held}
use Rattle.round_run.proofs.lines.Lines.new.Goals as goal

pub returns-clause-empty : goal.returns-clause-empty
returns-clause-empty c = c.loop.invariant.empty

pub loop-preserved : goal.loop-preserved
loop-preserved c =
    let items = c.in_ok-push.ensures.items in
    record {
      many = omega (arith, ap length items, length-append c.loop.buffers.items (c.in_ok-new.field-0 ∷ []), c.loop.invariant.many);
      empty = subst (λ (held : List (List ℕ)). (k : ℕ) → unwrap_or (slice_get held k) [] ≡ [])
          (sym items) (none_held c.loop.buffers.items c.in_ok-new.field-0 c.loop.invariant.empty c.in_ok-new.ensures);
      most = omega (arith, c.loop-test.true);
    }
