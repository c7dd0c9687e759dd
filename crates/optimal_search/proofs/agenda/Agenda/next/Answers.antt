use Rattle.std.proofs.Common.{◌≡◌, ◌∷◌, None, sym, subst, ◌∙◌, arith, Option, slice_set}
use Rattle.std.specs.BinaryHeap.{heap_items}
use Rattle.std.proofs.lemmas.List.Sorted.{Contains-permutation, IsPermutation-sym}
use Rattle.lemmas.proofs.Ascending.{contains_here}
use Rattle.lemmas.proofs.ListTests.{get_some}
use Rattle.optimal_search.proofs.AgendaLemmas.{none_from, queued_closed, queued_least, queued_none, queued_passed, set_same}
use Rattle.optimal_search.specs.Agenda.{AreQueued, IsOpenNodeAt}
use Rattle.best_first.specs.declared.tree.Link.{Link}
use Rattle.optimal_search.proofs.agenda.Agenda.next.Goals as goal

pub index_mut-requires : goal.index_mut-requires
index_mut-requires c =
    let queue = heap_items c.loop-entry.self.queue in
    let now = heap_items c.pop.new.self in
    let first = c.in-Some.field-0 in
    let there = Contains-permutation (first ∷ now) queue first (IsPermutation-sym queue (first ∷ now) c.in-Some.ensures.permutation)
    (contains_here first now) in
    omega (arith, c.loop-entry.invariant.0.places first there, c.loop-entry.self.nodes.ok.0)

pub returns-in-Some-take : goal.returns-in-Some-take
returns-in-Some-take c =
    let nodes = c.loop-entry.self.nodes.items in
    let queue = heap_items c.loop-entry.self.queue in
    let now = heap_items c.pop.new.self in
    let first = c.in-Some.field-0 in
    let queued = c.loop-entry.invariant.0 in
    let there = Contains-permutation (first ∷ now) queue first (IsPermutation-sym queue (first ∷ now) c.in-Some.ensures.permutation)
    (contains_here first now) in
    let node = c.index_mut.result.now in
    let at = get_some nodes first.0.place node (queued.places first there) c.index_mut.ensures.value in
    let held : IsOpenNodeAt nodes first.0.place node c.in-Some-take.link = (at, sym c.take.ensures.value ∙ c.in-Some-take.is) in
    let least = queued_least nodes queue first node c.in-Some-take.link queued (c.in-Some.ensures.heap_order queued.heap).1 there held in
    let after = queued_closed nodes queue now first node queued c.in-Some.ensures.permutation
    (c.in-Some.ensures.heap_order queued.heap).0 at in
    let old = c.loop-entry.invariant.1 in
    record {
      node = node;
      there = subst (λ ns. IsOpenNodeAt ns first.0.place node c.in-Some-take.link) old held;
      least = λ other v l is. least other v l (subst (λ ns. IsOpenNodeAt ns other v l) (sym old) is);
      nodes = λ i. slice_set (old i) first.0.place (record { cost = node.cost; left = node.left; last = c.take.ensures.after i });
      agenda = subst (λ (l : Option Link). AreQueued (slice_set nodes first.0.place (record { cost = node.cost; left = node.left; last = l })) now)
          (sym c.take.ensures.after) after;
    }

pub loop-entry-preserved : goal.loop-entry-preserved
loop-entry-preserved c =
    let nodes = c.loop-entry.self.nodes.items in
    let queue = heap_items c.loop-entry.self.queue in
    let now = heap_items c.pop.new.self in
    let first = c.in-Some.field-0 in
    let queued = c.loop-entry.invariant.0 in
    let there = Contains-permutation (first ∷ now) queue first (IsPermutation-sym queue (first ∷ now) c.in-Some.ensures.permutation)
    (contains_here first now) in
    let node = c.index_mut.result.now in
    let at = get_some nodes first.0.place node (queued.places first there) c.index_mut.ensures.value in
    let none : node.last ≡ None = sym c.take.ensures.value ∙ none_from c.take.result c.in_default-take.not-Some in
    let same : slice_set nodes first.0.place (record { cost = node.cost; left = node.left; last = c.take.new.self }) ≡ nodes =
    (λ i. slice_set nodes first.0.place (record { cost = node.cost; left = node.left; last = (c.take.ensures.after ∙ sym none) i }))
    ∙ set_same nodes first.0.place node c.index_mut.ensures.value in (
      subst (λ ns. AreQueued ns now) (sym same)
          (queued_passed nodes queue now first node queued c.in-Some.ensures.permutation (c.in-Some.ensures.heap_order queued.heap).0 at none),
      same ∙ c.loop-entry.invariant.1,
    )

pub returns : goal.returns
returns c =
    let last = c.loop-entry.self in
    let none = queued_none last.nodes.items (heap_items last.queue) c.loop-entry.invariant.0
    (omega (arith, c.in_default.ensures.none, last.queue.data.ok.0)) in (
      c.loop-entry.invariant.1,
      λ place node link is. none place node link (subst (λ ns. IsOpenNodeAt ns place node link) (sym c.loop-entry.invariant.1) is),
    )
