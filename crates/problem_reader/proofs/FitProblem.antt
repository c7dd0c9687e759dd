-- A problem without faults, over a fit domain that was read, is fit.
use Rattle.std.proofs.Common.{◌≡◌, ◌≤◌, true, ◌&&◌, List, [], ◌++◌, length, refl, sym, ap, subst, ◌∙◌, Result, Ok, Err, IfOk, arith}
use Rattle.std.specs.List.{list_all}
use Rattle.std.proofs.lemmas.Bool.{and_from, le-leb}
use Rattle.lemmas.proofs.Members.{none_both}
use Rattle.sexpr_text.specs.declared.tree.Tree.{Tree}
use Rattle.sexpr_text.specs.Trees.{Trees, nothing, word, list, size, tree}
use Rattle.task_model.specs.Fit.{IsFitProblem, is_fit_condition, is_fit_fact, is_fit_value, is_name, is_short}
use Rattle.task_model.specs.declared.domain.Domain.{Domain}
use Rattle.task_model.specs.declared.stream.Stream.{Stream}
use Rattle.task_model.specs.declared.task.Problem.{Problem}
use Rattle.form_reader.specs.declared.fault.InputFault.{InputFault}
use Rattle.form_reader.specs.declared.items.TextKind.TheVariants as text
use Rattle.form_reader.specs.Items.{items_faults}
use Rattle.form_reader.specs.Texts.{form_faults}
use Rattle.name_tables.specs.Sizes.{IsBoundedTree}
use Rattle.name_tables.proofs.TextsLemmas.{body_less, body_shallow}
use Rattle.name_tables.specs.declared.vocabulary.Vocabulary.{Vocabulary}
use Rattle.name_tables.proofs.OneTreeLemmas.{tree_there}
use Rattle.name_tables.proofs.TitleLemmas.{titled}
use Rattle.name_tables.proofs.VocabularyLemmas.{AreNamesOf}
use Rattle.domain_reader.specs.Names.{second_items}
use Rattle.domain_reader.specs.Tables.{name_of}
use Rattle.name_tables.specs.Texts.{body_of}
use Rattle.problem_reader.specs.Fitness.{IsFitOver, IsFitRead}
use Rattle.problem_reader.specs.Names.{problem_items_names}
use Rattle.problem_reader.specs.Problems.{IsProblemRead, ProblemReads, facts_of, init_of, problem_of, valueds_of}
use Rattle.problem_reader.specs.Tables.{problem_names}
use Rattle.problem_reader.specs.Values.{nothing_given, values_names}
use Rattle.problem_reader.proofs.FitConstants.{constants_read}
use Rattle.problem_reader.proofs.FitItems.{IsInit, goal_fit, init_good, init_small}
use Rattle.problem_reader.proofs.FitNames.{problem_known, problem_knows}
use Rattle.problem_reader.proofs.FitObjects.{AreConstants, constants_first, objects_fit, objects_long, objects_same}
use Rattle.problem_reader.proofs.FitRows.{facts_fit, facts_length, one_value, valueds_length, values_fit}

-- ---- the parts of a text

-- the text's name is a name, and its items have no form faults
record IsFormed (t : Trees) : Type 0 where
  named : is_name (name_of t) ≡ true
  items : items_faults text.Problem (body_of t) ≡ []

formed : (t : Trees) → ¬ (t ≡ nothing) → form_faults text.Problem t ≡ [] → IsFormed t
formed nothing some e = absurd (some refl)
formed (word w at rest) some e = absurd (cc)
formed (list items at rest) some e =
    let is = titled text.Problem items at rest e in record { named = is.named; items = is.items }

-- ---- the problem

module _ (d : Domain) (t : Trees) (over : IsFitRead d) (bounded : IsBoundedTree t) (some : ¬ (t ≡ nothing))
    (p : Problem) (read : IsProblemRead d t p) (streams : List Stream) where
  abbrev body : Trees
  body = body_of t

  abbrev v : Vocabulary
  v = problem_names d body

  names : AreNamesOf d (length v.objects) v
  names = problem_known d body over.fit

  form : IsFormed t
  form = formed t some read.formed

  clean : (problem_items_names v d body ++ second_items text.Problem [] body ≡ []) × (values_names nothing_given body ≡ [])
  clean = none_both (problem_items_names v d body ++ second_items text.Problem [] body) (values_names nothing_given body) read.named

  items_clean : problem_items_names v d body ≡ []
  items_clean = (none_both (problem_items_names v d body) (second_items text.Problem [] body) clean.0).0

  constants : AreConstants d.constants
  constants = constants_read over.text d over.read over.bounded.small

  few : size body ≤ 4194304
  few = omega (arith, body_less t, bounded.small)

  -- as many objects as there are names of objects
  long : length v.objects ≡ length (problem_of d t).objects
  long = sym (objects_long d v body over.fit constants names.sorts form.items items_clean
      ∙ ap length (objects_same d v body over.fit constants names.sorts form.items items_clean))

  abbrev init : Trees
  init = init_of body

  init_is : IsInit v d init
  init_is = init_good v d body form.items items_clean clean.1

  init_bytes : size init ≤ 4194304
  init_bytes = omega (arith, init_small body, few)

  init_fit : (is_short (facts_of v init) && list_all (is_fit_fact d (length (problem_of d t).objects)) (facts_of v init)) ≡ true
  init_fit =
      and_from (is_short (facts_of v init)) (list_all (is_fit_fact d (length (problem_of d t).objects)) (facts_of v init))
      (le-leb (length (facts_of v init)) 8388608 (omega (arith, facts_length v init, init_bytes)))
      (ap (λ n. list_all (is_fit_fact d n) (facts_of v init)) (sym long)
      ∙ facts_fit d (length v.objects) v over.fit names init init_is.formed init_is.named)

  valued_fit : (is_short (valueds_of v init) && list_all (is_fit_value d (length (problem_of d t).objects)) (valueds_of v init)) ≡ true
  valued_fit =
      and_from (is_short (valueds_of v init)) (list_all (is_fit_value d (length (problem_of d t).objects)) (valueds_of v init))
      (le-leb (length (valueds_of v init)) 8388608 (omega (arith, valueds_length v init, init_bytes)))
      (ap (λ n. list_all (is_fit_value d n) (valueds_of v init)) (sym long)
      ∙ values_fit d (length v.objects) v over.fit names init init_is.formed init_is.named)

  goal_is : is_fit_condition d (length (problem_of d t).objects) [] (problem_of d t).goal ≡ true
  goal_is =
      ap (λ n. is_fit_condition d n [] (problem_of d t).goal) (sym long)
      ∙ goal_fit v d (length v.objects) (problem_knows d body over.fit) body
      (omega (arith, few)) (omega (arith, body_shallow t, bounded.shallow)) form.items items_clean

  spelled_fit : IsFitProblem (record { domain = d; problem = problem_of d t; streams = streams })
  spelled_fit = record {
    name = form.named;
    objects = objects_fit d v body over.fit constants names.sorts form.items items_clean few;
    constants_first =
        constants_first d v body over.fit constants names.sorts form.items items_clean;
    init = init_fit;
    values = valued_fit;
    one_value = one_value d (length v.objects) v over.fit names nothing_given init refl init_is.formed init_is.named init_is.valued;
    goal = goal_is;
  }

-- over a fit domain that was read
pub read_problems_fit : (d : Domain) (t : Trees) (p : Problem) → IsFitRead d → IsBoundedTree t
    → ¬ (t ≡ nothing) → IsProblemRead d t p → IsFitOver d p
read_problems_fit d t p over bounded some read streams =
    subst (λ (q : Problem). IsFitProblem (record { domain = d; problem = q; streams = streams }))
    (sym read.problem) (spelled_fit d t over bounded some p read streams)

-- where it was read
pub fit_if_read : (d : Domain) (t : Tree) (result : Result Problem InputFault)
    → ProblemReads d (tree t) result
    → IfOk result (λ p. IsFitRead d → IsBoundedTree (tree t) → IsFitOver d p)
fit_if_read d t (Ok p) read =
    λ over bounded. read_problems_fit d (tree t) p over bounded (tree_there t) read
fit_if_read d t (Err fault) read = tt
