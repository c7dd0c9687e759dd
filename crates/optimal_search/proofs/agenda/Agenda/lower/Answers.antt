use Rattle.std.proofs.Common.{◌≡◌, inl, inr, Bool, true, false, not, refl, ap, ◌∙◌, arith, Option, None, Some, is_some}
use Rattle.std.specs.BinaryHeap.{heap_items}
use Rattle.lemmas.proofs.ListTests.{get_some, one_there}
use Rattle.optimal_search.proofs.AgendaLemmas.{closed_not_open, queued_lowered, set_same}
use Rattle.optimal_search.specs.declared.agenda.Agenda.{Agenda}
use Rattle.optimal_search.specs.declared.agenda.Node.{Node}
use Rattle.best_first.specs.declared.tree.Link.{Link}
use Rattle.optimal_search.proofs.agenda.Agenda.lower.Goals as goal
use Rattle.optimal_search.proofs.agenda.Agenda.lower.Goals.{then-is_none-via-then-is_none, then-is_none-via-else-is_none+then-node-cost}

-- it is none, where the test says so
none_told : (last : Option Link) (none : Bool) → is_some last ≡ not none → none ≡ true → last ≡ None
none_told None none e t = refl
none_told (Some link) true e t = absurd (cc)
none_told (Some link) false e t = absurd (cc)

-- and else there is one
some_told : (last : Option Link) (none : Bool) → is_some last ≡ not none → none ≡ false → (link : Link) × (last ≡ Some link)
some_told None true e f = absurd (cc)
some_told None false e f = absurd (cc)
some_told (Some link) none e f = (link, refl)

pub returns-then-is_none-clause-nodes : goal.returns-then-is_none-clause-nodes
returns-then-is_none-clause-nodes c =
    let old = c.args.self.now.nodes.items in
    let node = c.index_mut-node.result.now in
    let at = get_some old c.args.place node (omega (arith, c.requires.there, c.args.self.now.nodes.ok.0)) c.index_mut-node.ensures.value in
    elim c.then-is_none.branch [
      | then-is_none-via-then-is_none w ↦
          inr (record {
            nodes = ap (λ (a : Agenda). a.nodes.items) w.self-is ∙ set_same old c.args.place node c.index_mut-node.ensures.value;
            cheap = λ v l is. absurd (closed_not_open old c.args.place node v l at (none_told node.last c.is_none.result c.is_none.ensures w.if-is_none.true) is);
          })
      | then-is_none-via-else-is_none+then-node-cost w ↦
          inr (record {
            nodes = ap (λ (a : Agenda). a.nodes.items) w.self-is ∙ set_same old c.args.place node c.index_mut-node.ensures.value;
            cheap = λ v l is. omega (arith, ap (λ (x : Node). x.cost) (one_there old c.args.place v node is.0 at), w.if-node-cost.true);
          })
    ]

pub returns-clause-agenda : goal.returns-clause-agenda
returns-clause-agenda c =
    let old = c.args.self.now in
    let node = c.index_mut-node.result.now in
    let at = get_some old.nodes.items c.args.place node (omega (arith, c.requires.there, old.nodes.ok.0)) c.index_mut-node.ensures.value in
    let open_by = some_told node.last c.is_none.result c.is_none.ensures c.if-is_none.false in
    queued_lowered old.nodes.items (heap_items old.queue) (heap_items c.push.new.self) c.args.place c.args.cost c.args.link node
    open_by.0 _ c.requires.agenda c.in_ok-push.ensures.permutation (c.in_ok-push.ensures.heap_order c.requires.agenda.heap)
    (at, open_by.1) (omega (arith, c.if-node-cost.false)) refl (omega arith)

pub returns-clause-nodes : goal.returns-clause-nodes
returns-clause-nodes c =
    let old = c.args.self.now in
    let node = c.index_mut-node.result.now in
    let at = get_some old.nodes.items c.args.place node (omega (arith, c.requires.there, old.nodes.ok.0)) c.index_mut-node.ensures.value in
    let open_by = some_told node.last c.is_none.result c.is_none.ensures c.if-is_none.false in
    inl (record {
      was = node;
      before = open_by.0;
      there = (at, open_by.1);
      dearer = omega (arith, c.if-node-cost.false);
      nodes = refl;
    })
