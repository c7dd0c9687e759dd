-- The texts of the first worked task spell it.
use Rattle.std.proofs.Common.{◌≡◌, ℕ, List, [], ◌∷◌, codes, refl}
use Rattle.std.proofs.lemmas.Bool.{false≢true}
use Rattle.form_reader.specs.Items.{domain_item_of, problem_item_of, stream_item_of}
use Rattle.form_reader.specs.Keys.{action_key_of, cost_stream_key_of, stream_key_of}
use Rattle.form_reader.specs.Texts.{form_faults}
use Rattle.form_reader.specs.Words.{condition_head_of, effect_head_of, is_change, is_connective, is_refused_condition, is_refused_effect, is_refused_in_atoms}
use Rattle.form_reader.specs.declared.items.TextKind.TheVariants as kind
use Rattle.domain_reader.specs.Cycles.{AreSorts, more_sorts, no_sorts}
use Rattle.domain_reader.specs.Domains.{AreNameFaults, ArePartsOf, domain_names, roles_of}
use Rattle.name_tables.specs.Cycles.{free, no_more}
use Rattle.name_tables.specs.Graphs.{has_edge}
use Rattle.name_tables.specs.Texts.{body_of}
use Rattle.lemmas.specs.Lists.{LeadsAlong}
use Rattle.problem_reader.specs.Problems.{IsProblemRead}
use Rattle.stream_reader.specs.Reading.{AreRead, AreStreamsNamed}
use Rattle.task_model.specs.Roles.{role_of}
use Rattle.task_reader.specs.Tasks.{SpellsTask}
use Rattle.task_reader.specs.Texts.{SpellsDomain}
use Rattle.witness_laws.specs.Fetch.{fetch, fetch_domain, fetch_problem, grip}
use Rattle.witness_laws.specs.Texts.{fetch_domain_text, fetch_problem_text, fetch_streams_text}
use Rattle.witness_laws.proofs.TreesLemmas.{domain_reads, domain_tree, problem_reads, problem_tree, streams_reads, streams_tree}

-- where there is one number that leads nowhere, no way leads from it
no_way : (b : ℕ) (between : List ℕ) → LeadsAlong (has_edge ([] ∷ [])) 0 between b → ⊥
no_way b [] steps = false≢true steps
no_way b (next ∷ more) steps = false≢true steps.0

-- ---- the domain

only_object : AreSorts ([] ∷ []) 0 (codes "object" ∷ []) (record { name = codes "object"; above = [] } ∷ [])
only_object =
    more_sorts (record {
      reached = [];
      right = record { only = λ b e. absurd (false≢true e); all = λ b between steps. absurd (no_way b between steps) };
      sorted = refl;
    }) no_sorts

domain_formed : form_faults kind.Domain domain_tree ≡ []
unfolding domain_item_of action_key_of is_connective is_change condition_head_of effect_head_of is_refused_condition is_refused_effect
domain_formed = refl

domain_named : AreNameFaults (domain_names domain_tree) (body_of domain_tree) []
unfolding domain_item_of action_key_of condition_head_of effect_head_of is_refused_condition is_refused_effect
domain_named = record { types = []; types_right = no_more; derived = []; derived_right = no_more; all = refl }

domain_parts : ArePartsOf (domain_names domain_tree) domain_tree fetch_domain
unfolding domain_item_of action_key_of condition_head_of effect_head_of is_refused_condition is_refused_effect
domain_parts = record {
  name = refl;
  sorts = only_object;
  predicates = refl;
  functions = refl;
  constants = refl;
  derived = refl;
  actions = refl;
}

domain_roles : fetch_domain.roles ≡ roles_of fetch_domain
unfolding role_of
domain_roles = refl

domain_spelled : SpellsDomain fetch_domain_text fetch_domain
domain_spelled = record {
  tree = domain_tree;
  spelled = domain_reads;
  holds = record { formed = domain_formed; named = domain_named; domain = record { parts = domain_parts; roles = domain_roles } };
}

-- ---- the problem

problem_read : IsProblemRead fetch_domain problem_tree fetch_problem
unfolding problem_item_of is_connective is_change condition_head_of is_refused_condition
problem_read = record { formed = refl; named = refl; problem = refl }

-- ---- the streams

streams_named : AreStreamsNamed fetch_domain streams_tree (grip ∷ [])
unfolding stream_item_of stream_key_of cost_stream_key_of is_connective is_change is_refused_in_atoms
streams_named = record {
  named = refl;
  acyclic = free (λ way. no_way 0 way.between way.steps) no_more;
  streams = refl;
}

streams_read : AreRead fetch_domain streams_tree (grip ∷ [])
unfolding stream_item_of stream_key_of cost_stream_key_of is_connective is_change is_refused_in_atoms
streams_read = record { formed = refl; named = streams_named }

pub first_task_spelled : SpellsTask fetch_domain_text fetch_problem_text fetch_streams_text fetch
first_task_spelled = record {
  domain = domain_spelled;
  problem = record { tree = problem_tree; spelled = problem_reads; holds = problem_read };
  streams = record { tree = streams_tree; spelled = streams_reads; holds = streams_read };
}
