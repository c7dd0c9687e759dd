-- The nodes of stored states, and the queue of those that are open.
use Rattle.std.specs.Prelude.{◌≡◌, ℕ, ◌+◌, ◌<◌, ◌≤◌, ◌⊎◌, List, length, Option, None, Some, slice_get, slice_set, Contains}
use Rattle.std.specs.BinaryHeap.{IsHeap, heap_items}
use Rattle.std.specs.Ordering.{ordering_then, nat_cmp}
use Rattle.std.specs.declared.cmp.Ordering.{Ordering}
use Rattle.std.specs.declared.cmp.Reverse.{Reverse}
use Rattle.optimal_search.specs.declared.agenda.Agenda.{Agenda}
use Rattle.optimal_search.specs.declared.agenda.Node.{Node}
use Rattle.optimal_search.specs.declared.agenda.Open.{Open}
use Rattle.best_first.specs.declared.tree.Link.{Link}

-- the order of the queue: the least entry is its greatest
abbrev pub entry_cmp : Reverse Open → Reverse Open → Ordering
entry_cmp a b =
    ordering_then (nat_cmp b.0.rank a.0.rank)
    (ordering_then (nat_cmp b.0.left a.0.left) (nat_cmp b.0.place a.0.place))

-- the node is that of an open state, and this is the last step of the way there
abbrev pub IsOpenNodeAt : List Node → ℕ → Node → Link → Type 0
IsOpenNodeAt nodes place node link = (slice_get nodes place ≡ Some node) × (node.last ≡ Some link)

-- Each open node has an entry of its rank, and of no entry of an open one the rank is less.
pub record AreQueued (nodes : List Node) (queue : List (Reverse Open)) : Type 0 where
  pub heap : IsHeap entry_cmp queue
  pub places : (entry : Reverse Open) → Contains queue entry → entry.0.place < length nodes
  pub ranks : (entry : Reverse Open) (node : Node) (link : Link) → Contains queue entry
      → IsOpenNodeAt nodes entry.0.place node link → node.cost + node.left ≤ entry.0.rank
  pub entries : (place : ℕ) (node : Node) (link : Link) → IsOpenNodeAt nodes place node link
      → (entry : Reverse Open) × Contains queue entry × (entry.0.place ≡ place)
      × (entry.0.rank ≡ node.cost + node.left)

-- the same of an agenda
abbrev pub IsAgenda : Agenda → Type 0
IsAgenda agenda = AreQueued agenda.nodes.items (heap_items agenda.queue)

-- the node of the state once it is closed
abbrev pub closed : Node → Node
closed node = record { cost = node.cost; left = node.left; last = None }

-- the node with a cheaper way
abbrev pub lowered : Node → ℕ → Link → Node
lowered node cost link = record { cost = cost; left = node.left; last = Some link }

-- The state at this place is open and its way dearer, and gets this one.
pub record IsLowered (old : List Node) (place cost : ℕ) (link : Link) (new : List Node) : Type 0 where
  pub was : Node
  pub before : Link
  pub there : IsOpenNodeAt old place was before
  pub dearer : cost ≤ was.cost
  pub nodes : new ≡ slice_set old place (lowered was cost link)

-- nothing changes, for the state at this place is closed, or its way is no dearer
pub record IsLeft (old : List Node) (place cost : ℕ) (new : List Node) : Type 0 where
  pub nodes : new ≡ old
  pub cheap : (node : Node) (link : Link) → IsOpenNodeAt old place node link → node.cost ≤ cost

-- the state at this place gets the way if it is open and the way cheaper
abbrev pub Lowers : List Node → ℕ → ℕ → Link → List Node → Type 0
Lowers old place cost link new = IsLowered old place cost link new ⊎ IsLeft old place cost new

-- The open node of least rank, at this place and with this last step, is closed.
pub record IsNextClosed (old new : Agenda) (place : ℕ) (link : Link) : Type 0 where
  pub node : Node
  pub there : IsOpenNodeAt old.nodes.items place node link
  pub least : (other : ℕ) (v : Node) (l : Link) → IsOpenNodeAt old.nodes.items other v l
      → node.cost + node.left ≤ v.cost + v.left
  pub nodes : new.nodes.items ≡ slice_set old.nodes.items place (closed node)
  pub agenda : IsAgenda new

-- the node that is closed, if one is open
abbrev pub TakesLeast : Agenda → Agenda → Option (ℕ × Link) → Type 0
TakesLeast old new (Some next) = IsNextClosed old new next.0 next.1
TakesLeast old new None =
    (new.nodes.items ≡ old.nodes.items)
    × ((place : ℕ) (node : Node) (link : Link) → ¬ (IsOpenNodeAt old.nodes.items place node link))
