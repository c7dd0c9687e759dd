use Rattle.std.proofs.Common.{◌≡◌, ◌≤◌, ◌+◌, ◌||◌, ◌++◌, ◌∷◌, ◌∙◌, sym, ap, cond, map, true, add-zero, subst, sum_by, rules}
use Rattle.std.proofs.lemmas.List.{map_push}
use Rattle.std.specs.List.{list_any}
use Rattle.std.specs.Vec.Iter.{into_iter_items}
use Rattle.stream_map.specs.Children.{PlainPool, numbered_pools, plain}
use Rattle.stream_map.specs.Faults.{Only, has_wrong_number, is_grid, names_unknown, own_workers, stream_place, stream_places}
use Rattle.stream_map.specs.Form.{each_of}
use Rattle.stream_map.specs.Spelled.{shown_pool_text}
use Rattle.stream_map.specs.declared.fault.MapFault.TheVariants.{Unknown}
use Rattle.stream_map.proofs.ChildrenLemmas.{numbers_left, placed_more, workers_left}
use Rattle.stream_map.proofs.FaultsLemmas.{each_given, some_none}
use Rattle.stream_map.proofs.FormLemmas.{only_weaker}
use Rattle.stream_map.proofs.pools.placed_pools.Goals as goal
use Rattle.stream_map.proofs.pools.placed_pools.Goals.{then-grid, else-grid, then-not-grid, else-not-grid}

pub returns-in_err-streams-clause-unknown : goal.returns-in_err-streams-clause-unknown
returns-in_err-streams-clause-unknown c =
    let names = c.args.names.now in
    let items : into_iter_items c.loop-text.text-iterator ≡ c.in-Some.text ∷ into_iter_items c.next.new.self = search rules in
    let missed : Only Unknown (list_any (names_unknown names) (map shown_pool_text c.args.texts.items) ≡ true) c.in_err-streams.field-0.0 =
    only_weaker Unknown _ _ c.in_err-streams.field-0.0
    (λ none. sym c.loop-text.invariant.2.known ∙ ap (λ ts. list_any (names_unknown names) (map shown_pool_text ts)) items
    ∙ ap (λ b. b || list_any (names_unknown names) (map shown_pool_text (into_iter_items c.next.new.self)))
    (some_none (stream_place names) c.in-Some.text.streams (ap (each_of (stream_place names)) (sym c.as_slice.ensures) ∙ none)))
    c.in_err-streams.ensures.unknown in
    search rules

pub loop-text-preserved : goal.loop-text-preserved
loop-text-preserved c =
    let names = c.args.names.now in
    let text = shown_pool_text c.in-Some.text in
    let rest = map shown_pool_text (into_iter_items c.next.new.self) in
    let items : into_iter_items c.loop-text.text-iterator ≡ c.in-Some.text ∷ into_iter_items c.next.new.self = search rules in
    let given =
    each_given (stream_place names) c.in-Some.text.streams c.in_ok-streams.streams
    (ap (each_of (stream_place names)) (sym c.as_slice.ensures) ∙ c.in_ok-streams.ensures.places) in
    let first : c.if-grid.first ≡ cond (is_grid text) 16 c.loop-text.next =
    elim c.if-grid.branch [
      | then-grid w ↦
          w.first-is ∙ ap (λ b. cond b 16 c.loop-text.next) (sym (sym c.is_grid-grid.ensures ∙ w.if-grid.true))
      | else-grid w ↦ w.first-is ∙ ap (λ b. cond b 16 c.loop-text.next) (sym (sym c.is_grid-grid.ensures ∙ w.if-grid.false))
    ] in
    let after : c.if-not-grid.next ≡ c.loop-text.next + own_workers text =
    elim c.if-not-grid.branch [
      | then-not-grid w ↦
          w.next-is ∙ ap (λ b. c.loop-text.next + cond b 0 c.in-Some.text.workers) (sym (sym c.is_grid-grid.ensures ∙ w.if-not-grid.true))
      | else-not-grid w ↦
          w.next-is ∙ sym (add-zero c.loop-text.next)
          ∙ ap (λ b. c.loop-text.next + cond b 0 c.in-Some.text.workers) (sym (sym c.is_grid-grid.ensures ∙ w.if-not-grid.false))
    ] in
    let made : PlainPool = record
    { first = c.if-grid.first; workers = c.in-Some.text.workers; streams = c.in_ok-streams.streams; words = text.run } in
    let right : made ≡ record
    { first = cond (is_grid text) 16 c.loop-text.next; workers = text.workers; streams = stream_places names text; words = text.run } =
    (λ i. record { first = first i; workers = c.in-Some.text.workers; streams = sym given.0 i; words = text.run }) in
    let so_far =
    ap (λ ts. map plain c.loop-text.pools.items ++ numbered_pools names c.loop-text.next (map shown_pool_text ts)) (sym items)
    ∙ c.loop-text.invariant.2.pools in (
      tt,
      tt,
      record {
        pools = ap (λ ps. map plain ps ++ numbered_pools names c.if-not-grid.next rest) c.in_ok-push.ensures.items
            ∙ ap (λ ps. ps ++ numbered_pools names c.if-not-grid.next rest) (map_push plain c.loop-text.pools.items _)
            ∙ placed_more names (map plain c.loop-text.pools.items) _ c.loop-text.next c.if-not-grid.next text rest made so_far right after;
        known =
            ap (λ b. b || list_any (names_unknown names) rest) (sym given.1)
            ∙ ap (λ ts. list_any (names_unknown names) (map shown_pool_text ts)) (sym items)
            ∙ c.loop-text.invariant.2.known;
        numbers = (numbers_left text rest
            (ap (λ ts. list_any has_wrong_number (map shown_pool_text ts)) (sym items) ∙ c.loop-text.invariant.2.numbers)).1;
        workers = workers_left c.loop-text.next c.if-not-grid.next text rest
            (subst (λ ts. c.loop-text.next + sum_by own_workers (map shown_pool_text ts) ≤ 16) items c.loop-text.invariant.2.workers) after;
      },
    )
