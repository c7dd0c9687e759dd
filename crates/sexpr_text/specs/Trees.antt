-- Words and lists without where they lie in memory.
use Rattle.std.specs.Prelude.{ℕ, zero, suc, ◌+◌, max, List, [], ◌∷◌, length, take, drop}
use Rattle.sexpr_text.specs.Nodes.{Node}
use Rattle.sexpr_text.specs.declared.tree.Tree.{Tree}

-- Trees one after the other, as they stand in a list. A word has its letters and its place, a list the
-- trees in it and its place. Each is followed by the trees after it.
pub data Trees : Type 0 where
  nothing : Trees
  word : List ℕ → ℕ → Trees → Trees
  list : Trees → ℕ → Trees → Trees

-- The trees that a row of nodes spells, and the trees after it. In a list stand as many of the nodes behind it as its
-- count says, or all where they are fewer. The number is at least the row's length.
abbrev pub spelled : ℕ → List Node → Trees → Trees
spelled n [] rest = rest
spelled zero (t ∷ ts) rest = rest
spelled (suc n) (Node.word text place ∷ ts) rest = word text place (spelled n ts rest)
spelled (suc n) (Node.list count place ∷ ts) rest =
    list (spelled n (take count ts) nothing) place (spelled n (drop count ts) rest)

abbrev pub trees_then : List Node → Trees → Trees
trees_then ts rest = spelled (length ts) ts rest

-- the trees of a row of nodes
abbrev pub trees : List Node → Trees
trees ts = trees_then ts nothing

-- one list alone
abbrev pub tree : Tree → Trees
tree t = list (trees t.items.items) t.place nothing

-- how many lists stand in one another
abbrev pub depth : Trees → ℕ
depth nothing = 0
depth (word text place rest) = depth rest
depth (list items place rest) = max (depth items + 1) (depth rest)

-- how many bytes the words have, and two for each list
abbrev pub size : Trees → ℕ
size nothing = 0
size (word text place rest) = length text + size rest
size (list items place rest) = size items + 2 + size rest

-- the place of the first tree
abbrev pub place_of_first : Trees → ℕ
place_of_first nothing = 0
place_of_first (word text place rest) = place
place_of_first (list items place rest) = place
