use Rattle.std.proofs.Common.{◌+◌, ◌∙◌, ap, map, subst, sym, rules, arith}
use Rattle.std.proofs.lemmas.List.{map_push}
use Rattle.serde_json.specs.View.{view}
use Rattle.stream_map.proofs.FormLemmas.{Reads, map_of-list, reads_more, reads_nothing}
use Rattle.stream_map.specs.Form.{pool_of}
use Rattle.stream_map.specs.Spelled.{shown_pool_text}
use Rattle.stream_map.proofs.form.map_of.Goals as goal

pub loop-item-init : goal.loop-item-init
loop-item-init c = record {
  list = map_of-list (view c.args.value.now) (view c.in_ok-list.list.now) c.deref-item-items.result.now (search rules)
      (search rules) (search rules);
  reads = subst (λ ps. Reads (λ v. pool_of (view v)) c.deref-item-items.result.now 0 (map shown_pool_text ps))
      (sym c.new-pools.ensures.items) (reads_nothing (λ v. pool_of (view v)) c.deref-item-items.result.now);
}

pub loop-item-preserved : goal.loop-item-preserved
loop-item-preserved c =
    let read = reads_more (λ v. pool_of (view v)) c.deref-item-items.result.now c.loop-item.item-index c.item-item.result
    (shown_pool_text c.in_ok-pool_of.field-0) (map shown_pool_text c.loop-item.pools.items)
    (omega arith) c.item-item.is c.in_ok-pool_of.ensures.pool c.loop-item.invariant.reads in
    record {
      list = c.loop-item.invariant.list;
      reads = subst (λ ps. Reads (λ v. pool_of (view v)) c.deref-item-items.result.now (c.loop-item.item-index + 1) ps)
          (sym (ap (map shown_pool_text) c.in_ok-push.ensures.items ∙ map_push shown_pool_text c.loop-item.pools.items c.in_ok-pool_of.field-0)) read;
    }
