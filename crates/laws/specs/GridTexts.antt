-- The texts that are the same for every task of the grid, line by line.
use Rattle.std.specs.Prelude.{ℕ, List, ◌++◌, codes}

-- The domain: a block is picked at its pose, from a side and a cell that reach it, and put at a pose where no other
-- block is in the way. It is placed in a region where its pose is one in that region.
abbrev pub grid_domain_text : List ℕ
grid_domain_text =
    codes "(define (domain grid)\n"
    ++ codes "  (:requirements :strips :typing :negative-preconditions :derived-predicates)\n"
    ++ codes "  (:types block region pose side cell)\n"
    ++ codes "  (:predicates (fits ?b - block ?r - region) (pose ?b - block ?p - pose)\n"
    ++ codes "    (in ?b - block ?p - pose ?r - region) (grasp ?b - block ?g - side)\n"
    ++ codes "    (reach ?b - block ?p - pose ?g - side ?c - cell)\n"
    ++ codes "    (clear ?b - block ?p - pose ?o - block ?q - pose)\n"
    ++ codes "    (at ?b - block ?p - pose) (free) (holding ?b - block ?g - side)\n"
    ++ codes "    (unsafe ?b - block ?p - pose) (placed ?b - block ?r - region))\n"
    ++ codes "  (:derived (unsafe ?b - block ?p - pose)\n"
    ++ codes "    (exists (?o - block ?q - pose)\n"
    ++ codes "      (and (at ?o ?q) (not (= ?o ?b)) (not (clear ?b ?p ?o ?q)))))\n"
    ++ codes "  (:derived (placed ?b - block ?r - region)\n"
    ++ codes "    (exists (?p - pose) (and (at ?b ?p) (in ?b ?p ?r))))\n"
    ++ codes "  (:action pick :parameters (?b - block ?p - pose ?g - side ?c - cell)\n"
    ++ codes "    :precondition (and (free) (at ?b ?p) (reach ?b ?p ?g ?c))\n"
    ++ codes "    :effect (and (holding ?b ?g) (not (at ?b ?p)) (not (free))))\n"
    ++ codes "  (:action put :parameters (?b - block ?p - pose ?g - side ?c - cell)\n"
    ++ codes "    :precondition (and (holding ?b ?g) (reach ?b ?p ?g ?c)\n"
    ++ codes "      (not (unsafe ?b ?p)))\n"
    ++ codes "    :effect (and (at ?b ?p) (free) (not (holding ?b ?g)))))\n"

-- the streams: the poses of a block in a region, its sides, the cells from which it is reached, and the test whether
-- two blocks at their poses keep clear of each other
abbrev pub grid_streams_text : List ℕ
grid_streams_text =
    codes "(define (stream grid)\n"
    ++ codes "  (:stream place :inputs (?b - block ?r - region) :domain (fits ?b ?r)\n"
    ++ codes "    :outputs (?p - pose) :certified (and (pose ?b ?p) (in ?b ?p ?r)))\n"
    ++ codes "  (:stream grasp :inputs (?b - block) :outputs (?g - side)\n"
    ++ codes "    :certified (grasp ?b ?g))\n"
    ++ codes "  (:stream reach :inputs (?b - block ?p - pose ?g - side)\n"
    ++ codes "    :domain (and (pose ?b ?p) (grasp ?b ?g)) :outputs (?c - cell)\n"
    ++ codes "    :certified (reach ?b ?p ?g ?c))\n"
    ++ codes "  (:stream clear\n"
    ++ codes "    :inputs (?b - block ?p - pose ?o - block ?q - pose)\n"
    ++ codes "    :domain (and (pose ?b ?p) (pose ?o ?q)) :certified (clear ?b ?p ?o ?q)))\n"
