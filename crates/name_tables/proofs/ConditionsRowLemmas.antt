-- Conditions in a row, before others.
use Rattle.std.proofs.Common.{◌≡◌, List, [], ◌∷◌, ◌++◌, refl, ap}
use Rattle.task_model.specs.Condition.{Condition, Conditions, none, more, parts_of}

abbrev pub parts_then : List Condition → Conditions → Conditions
parts_then [] rest = rest
parts_then (c ∷ cs) rest = more c (parts_then cs rest)

pub push_part : (cs : List Condition) (c : Condition) (rest : Conditions)
    → parts_then (cs ++ c ∷ []) rest ≡ parts_then cs (more c rest)
push_part [] c rest = refl
push_part (x ∷ xs) c rest = ap (more x) (push_part xs c rest)

pub all_parts : (cs : List Condition) → parts_of cs ≡ parts_then cs none
all_parts [] = refl
all_parts (x ∷ xs) = ap (more x) (all_parts xs)
