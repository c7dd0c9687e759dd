-- The texts of the first worked task: a stream grips a cup.
use Rattle.std.specs.Prelude.{ℕ, List, ◌++◌, codes}

abbrev pub fetch_domain_text : List ℕ
fetch_domain_text =
    codes "(define (domain fetch)\n"
    ++ codes "  (:predicates (item ?x) (hold ?x ?g) (grip ?x ?g) (free) (done ?x))\n"
    ++ codes "  (:action take :parameters (?x ?g)\n"
    ++ codes "    :precondition (and (free) (grip ?x ?g))\n"
    ++ codes "    :effect (and (hold ?x ?g) (not (free))))\n"
    ++ codes "  (:action drop :parameters (?x ?g) :precondition (hold ?x ?g)\n"
    ++ codes "    :effect (and (done ?x) (free) (not (hold ?x ?g)))))"

abbrev pub fetch_problem_text : List ℕ
fetch_problem_text =
    codes "(define (problem one) (:domain fetch) (:objects cup)\n"
    ++ codes "  (:init (item cup) (free)) (:goal (done cup)))"

abbrev pub fetch_streams_text : List ℕ
fetch_streams_text =
    codes "(define (stream fetch) (:stream grip :inputs (?x) :domain (item ?x)\n"
    ++ codes "  :outputs (?g) :certified (grip ?x ?g)))"
