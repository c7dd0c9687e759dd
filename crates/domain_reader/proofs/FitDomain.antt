-- A domain that is read of a tree as texts give it is fit.
use Rattle.std.proofs.Common.{◌≡◌, ◌≤◌, true, [], ◌++◌, map, length, sym, subst, arith, le-leb, Result, Ok, Err, IfOk}
use Rattle.std.specs.List.{list_all}
use Rattle.std.proofs.lemmas.Bool.{and_from}
use Rattle.lemmas.proofs.Members.{append_nil_first, append_nil_second}
use Rattle.sexpr_text.specs.declared.tree.Tree.{Tree}
use Rattle.sexpr_text.specs.Trees.{Trees, nothing, depth, size, tree}
use Rattle.task_model.specs.Fit.{AreNames, IsFitDomain, is_fit_action, is_fit_item, is_name, is_short}
use Rattle.task_model.specs.declared.domain.Action.{Action}
use Rattle.task_model.specs.declared.domain.Domain.{Domain}
use Rattle.form_reader.specs.declared.fault.InputFault.{InputFault}
use Rattle.form_reader.specs.declared.fault.InputKind.TheVariants.{DerivedCycle, TypeCycle}
use Rattle.form_reader.specs.declared.items.TextKind.TheVariants as text
use Rattle.name_tables.specs.Sizes.{IsBoundedTree}
use Rattle.name_tables.specs.declared.vocabulary.Vocabulary.{Vocabulary}
use Rattle.name_tables.proofs.OneTreeLemmas.{tree_there}
use Rattle.domain_reader.proofs.FitItems.{AreClean, items_clean, text_formed}
use Rattle.name_tables.proofs.TextsLemmas.{body_less, body_shallow}
use Rattle.domain_reader.proofs.FitActions.{actions_fit, actions_long, actions_named}
use Rattle.domain_reader.proofs.FitCycles.{rules_acyclic}
use Rattle.domain_reader.proofs.FitLists.{constants_fit, functions_fit, knows, predicates_fit}
use Rattle.domain_reader.proofs.FitRoles.{few_derived, not_derived}
use Rattle.domain_reader.proofs.FitRules.{rules_fit, rules_long}
use Rattle.domain_reader.proofs.FitSortsAll.{types_fit}
use Rattle.domain_reader.specs.Cycles.{derived_edges, derived_in, listed_in, type_edges}
use Rattle.name_tables.specs.Cycles.{CycleFaults}
use Rattle.domain_reader.specs.Domains.{AreNameFaults, IsDomainRead, DomainReads, actions_of, domain_names, plain_names, rules_of}
use Rattle.domain_reader.specs.Names.{items_names, second_actions, second_items, second_signatures, too_many_derived}
use Rattle.domain_reader.specs.Tables.{heads_in}
use Rattle.name_tables.specs.Texts.{body_of}
use Rattle.domain_reader.specs.declared.once.Declared.TheVariants.{Predicates, Functions}

-- what no name fault means
record IsNamed (v : Vocabulary) (body : Trees) : Type 0 where
  items : items_names v (heads_in [] body) body ≡ []
  actions : second_actions [] body ≡ []
  few : too_many_derived v.predicates.names [] body ≡ []
  types : CycleFaults TypeCycle (type_edges v.sorts body) (listed_in v.sorts [] body) []
  derived : CycleFaults DerivedCycle (derived_edges v.predicates.names body) (derived_in v.predicates.names body) []

all_named : (v : Vocabulary) (body : Trees) → AreNameFaults v body [] → IsNamed v body
all_named v body n =
    let items = items_names v (heads_in [] body) body in
    let twice = second_items text.Domain [] body in
    let predicates = second_signatures Predicates [] body in
    let functions = second_signatures Functions [] body in
    let actions = second_actions [] body in
    let many = too_many_derived v.predicates.names [] body in
    let whole : plain_names v body ++ n.types ++ n.derived ≡ [] = sym n.all in
    let front : plain_names v body ++ n.types ≡ [] = append_nil_first (plain_names v body ++ n.types) n.derived whole in
    let plain : plain_names v body ≡ [] = append_nil_first (plain_names v body) n.types front in
    let five : items ++ twice ++ predicates ++ functions ++ actions ≡ [] =
    append_nil_first (items ++ twice ++ predicates ++ functions ++ actions) many plain in
    let four : items ++ twice ++ predicates ++ functions ≡ [] = append_nil_first (items ++ twice ++ predicates ++ functions) actions five in
    let three : items ++ twice ++ predicates ≡ [] = append_nil_first (items ++ twice ++ predicates) functions four in
    record {
      items = append_nil_first items twice (append_nil_first (items ++ twice) predicates three);
      actions = append_nil_second (items ++ twice ++ predicates ++ functions) actions five;
      few = append_nil_second (items ++ twice ++ predicates ++ functions ++ actions) many plain;
      types = subst (CycleFaults TypeCycle (type_edges v.sorts body) (listed_in v.sorts [] body))
          (append_nil_second (plain_names v body) n.types front) n.types_right;
      derived = subst (CycleFaults DerivedCycle (derived_edges v.predicates.names body) (derived_in v.predicates.names body))
          (append_nil_second (plain_names v body ++ n.types) n.derived whole) n.derived_right;
    }

pub fit_domain : (t : Trees) (d : Domain) → (t ≡ nothing → ⊥) → IsDomainRead t d → IsBoundedTree t
    → IsFitDomain d
fit_domain t d there read bounded =
    let v = domain_names t in
    let body = body_of t in
    let heads = heads_in [] body in
    let formed = text_formed t there read.formed in
    let named = all_named v body read.named in
    let parts = read.domain.parts in
    let clean : AreClean v heads body = items_clean v heads body formed.items named.items in
    let small : size body ≤ 4194304 = omega (arith, body_less t, bounded.small) in
    let shallow : depth body ≤ 63 = omega (arith, body_shallow t, bounded.shallow) in
    let known = knows t d heads clean small parts in
    let rules : list_all (is_fit_item d) d.derived ≡ true =
    subst (λ rs. list_all (is_fit_item d) rs ≡ true)
    (sym parts.derived) (rules_fit v d known heads body clean (omega (arith, small)) (omega (arith, shallow))) in
    let actions : list_all (is_fit_action d) d.actions ≡ true =
    subst (λ as'. list_all (is_fit_action d) as' ≡ true) (sym parts.actions)
    (actions_fit v d known heads (not_derived d v heads body clean parts.derived) body clean small (omega (arith, shallow))) in
    let short_rules : is_short d.derived ≡ true =
    subst (λ rs. is_short rs ≡ true) (sym parts.derived)
    (le-leb (length (rules_of v body)) 8388608 (omega (arith, rules_long v body, small))) in
    let short_actions : is_short d.actions ≡ true =
    subst (λ as'. is_short as' ≡ true) (sym parts.actions)
    (le-leb (length (actions_of v body)) 8388608 (omega (arith, actions_long v body, small))) in
    record {
      name = subst (λ n. is_name n ≡ true) (sym parts.name) formed.named;
      types = types_fit heads body d.sorts clean small named.types parts.sorts;
      predicates = predicates_fit t d heads clean small parts;
      functions = functions_fit t d heads clean small parts;
      constants = constants_fit t d heads clean small parts;
      items = and_from (is_short d.derived) (list_all (is_fit_item d) d.derived) short_rules rules;
      few_derived = few_derived d v heads body clean parts.derived named.few read.domain.roles;
      acyclic = rules_acyclic v heads d body clean parts.derived named.derived;
      action_names =
          subst (λ as'. AreNames (map (λ (a : Action). a.name) as')) (sym parts.actions) (actions_named v heads body clean named.actions);
      actions = and_from (is_short d.actions) (list_all (is_fit_action d) d.actions) short_actions actions;
      roles = read.domain.roles;
    }

-- where it was read
pub fit_if_read : (t : Tree) (result : Result Domain InputFault) → DomainReads (tree t) result
    → IfOk result (λ d. IsBoundedTree (tree t) → IsFitDomain d)
fit_if_read t (Ok d) read = λ bounded. fit_domain (tree t) d (tree_there t) read bounded
fit_if_read t (Err fault) read = tt
