use Rattle.std.proofs.Common.{◌≡◌, ap, sym, subst, ◌∙◌, map, filter, length}
use Rattle.std.proofs.lemmas.List.{length-map}
use Rattle.std.specs.Cmp.{second_so}
use Rattle.std.specs.List.{list_all}
use Rattle.fact_store.proofs.InitialLemmas.{all_at_first}
use Rattle.fact_store.proofs.facts.Facts.fill.Goals as goal
use Rattle.task_model.specs.Fit.{is_fit_fact, is_fit_value, is_short}
use Rattle.task_model.specs.Initial.{is_static, declared_types}
use Rattle.task_model.specs.Known.{with_facts, with_values}
use Rattle.lemmas.specs.Lists.{AreDistinct}

pub add_names-requires-clause-distinct : goal.add_names-requires-clause-distinct
add_names-requires-clause-distinct c =
    subst (λ os. AreDistinct (map (λ d. d.name) os)) (sym c.as_slice.ensures) c.requires.fit.problem.objects.names.distinct

pub add_static-requires-clause-fit : goal.add_static-requires-clause-fit
add_static-requires-clause-fit c =
    let names = c.in_ok-add_objects.ensures.names ∙ c.in_ok-add_names.ensures.names ∙ ap (map (λ d. d.name)) c.as_slice.ensures in
    let size : length c.add_objects.new.facts.known.names ≡ length c.args.task.now.problem.objects =
    ap length names ∙ length-map c.args.task.now.problem.objects (λ d. d.name) in
    (λ i. list_all (is_fit_fact c.args.task.now.domain (size i)) (c.as_slice-3.ensures i))
    ∙ second_so (is_short c.args.task.now.problem.init)
    (list_all (is_fit_fact c.args.task.now.domain (length c.args.task.now.problem.objects)) c.args.task.now.problem.init)
    c.requires.fit.problem.init

pub add_values-requires : goal.add_values-requires
add_values-requires c =
    let names =
    c.in_ok-add_static.ensures.names ∙ c.in_ok-add_objects.ensures.names ∙ c.in_ok-add_names.ensures.names
    ∙ ap (map (λ d. d.name)) c.as_slice.ensures in
    let size : length c.add_static.new.facts.known.names ≡ length c.args.task.now.problem.objects =
    ap length names ∙ length-map c.args.task.now.problem.objects (λ d. d.name) in
    (λ i. list_all (is_fit_value c.args.task.now.domain (size i)) (c.as_slice-4.ensures i))
    ∙ second_so (is_short c.args.task.now.problem.values)
    (list_all (is_fit_value c.args.task.now.domain (length c.args.task.now.problem.objects)) c.args.task.now.problem.values)
    c.requires.fit.problem.values

pub returns : goal.returns
returns c =
    let names =
    c.in_ok-add_values.ensures.names ∙ c.in_ok-add_static.ensures.names ∙ c.in_ok-add_objects.ensures.names
    ∙ c.in_ok-add_names.ensures.names ∙ ap (map (λ d. d.name)) c.as_slice.ensures in
    let no_facts = c.in_ok-add_names.ensures.facts ∙ ap (λ s. s.known.facts) c.reserve.ensures ∙ ap (λ k. k.facts) c.requires.empty in
    let facts = c.in_ok-add_values.ensures.facts ∙ c.in_ok-add_static.ensures.facts
    ∙ (λ i. with_facts ((c.in_ok-add_objects.ensures.facts
    ∙ (λ j. with_facts (no_facts j) (declared_types c.args.task.now.domain 0 (c.as_slice-2.ensures j)))) i)
    (filter (is_static c.args.task.now.domain) (c.as_slice-3.ensures i))) in
    let no_values =
    c.in_ok-add_static.ensures.values ∙ c.in_ok-add_objects.ensures.values ∙ c.in_ok-add_names.ensures.values
    ∙ ap (λ s. s.known.values) c.reserve.ensures ∙ ap (λ k. k.values) c.requires.empty in
    let values = c.in_ok-add_values.ensures.values ∙ (λ i. with_values (no_values i) (c.as_slice-4.ensures i)) in
    ap (λ s. s.known) c.cover.ensures ∙ all_at_first c.args.task.now c.add_values.new.facts.known names facts values
