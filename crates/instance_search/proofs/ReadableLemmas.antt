-- Streams of fit tasks can be read.
use Rattle.std.proofs.Common.{◌≡◌, ℕ, ◌+◌, ◌≤◌, Bool, true, ◌&&◌, List, [], ◌∷◌, length, refl, Some, slice_get, nat_le, arith}
use Rattle.std.proofs.lemmas.Option.{slice_get_within, get_or_from_slice_get}
use Rattle.std.proofs.Common.{sym}
use Rattle.std.specs.Cmp.{first_so, second_so}
use Rattle.std.specs.List.{list_all}
use Rattle.std.proofs.lemmas.Bool.{and_from}
use Rattle.lemmas.proofs.ListTests.{all_at_or}
use Rattle.fact_join.proofs.FitLemmas.{fit_terms}
use Rattle.formula_eval.proofs.ReadableLemmas.{few_arguments, few_slots, readable_terms}
use Rattle.task_model.specs.Fit.{IsFit, IsFitDomain, has_arity, is_fit_pattern, is_fit_term, are_fit_patterns, are_static_patterns, is_fit_worth, is_fit_stream, is_short, are_places}
use Rattle.lemmas.specs.Lists.{numbers_from}
use Rattle.task_model.specs.declared.domain.Domain.{Domain}
use Rattle.task_model.specs.declared.domain.Pattern.{Pattern}
use Rattle.task_model.specs.declared.stream.Stream.{Stream}
use Rattle.task_model.specs.declared.task.Task.{Task}
use Rattle.fact_join.specs.Answers.{is_pattern_of}
use Rattle.instance_search.specs.Readable.{is_bounded_pattern, IsReadableStream}
use borrow.Author.Tests.{leb-true}

readable_patterns : (domain : Domain) → IsFitDomain domain → (objects n : ℕ) → n ≤ 16
    → (ps : List Pattern)
    → list_all (is_fit_pattern domain objects (numbers_from 0 n)) ps ≡ true → list_all is_bounded_pattern ps ≡ true
readable_patterns domain fit objects n few [] all = refl
readable_patterns domain fit objects n few (p ∷ ps) all =
    let one = first_so (is_fit_pattern domain objects (numbers_from 0 n) p) (list_all (is_fit_pattern domain objects (numbers_from 0 n)) ps)
    all in
    let rest = second_so (is_fit_pattern domain objects (numbers_from 0 n) p)
    (list_all (is_fit_pattern domain objects (numbers_from 0 n)) ps) all in
    let arity =
    first_so (has_arity domain.predicates p.pred (length p.args)) (list_all (is_fit_term objects (numbers_from 0 n)) p.args) one in
    let terms =
    second_so (has_arity domain.predicates p.pred (length p.args)) (list_all (is_fit_term objects (numbers_from 0 n)) p.args) one in
    and_from _ _
    (and_from _ _ (few_arguments domain.predicates p.pred (length p.args) fit.predicates.arities arity)
    (readable_terms objects (numbers_from 0 n) p.args (few_slots n few) terms))
    (readable_patterns domain fit objects n few ps rest)

patterns_of : (domain : Domain) → IsFitDomain domain → (objects n : ℕ) → (ps : List Pattern)
    → list_all (is_fit_pattern domain objects (numbers_from 0 n)) ps ≡ true
    → list_all (is_pattern_of n) ps ≡ true
patterns_of domain fit objects n [] all = refl
patterns_of domain fit objects n (p ∷ ps) all =
    let is_fit = is_fit_pattern domain objects (numbers_from 0 n) in
    let one = first_so (is_fit p) (list_all is_fit ps) all in
    let rest = second_so (is_fit p) (list_all is_fit ps) all in
    and_from (is_pattern_of n p) (list_all (is_pattern_of n) ps)
    (fit_terms domain.predicates fit.predicates.arities objects n p.pred p.args one) (patterns_of domain fit objects n ps rest)

-- a stream of a fit task is fit
pub fit_stream_at : (task : Task) → IsFit task → (place : ℕ) (s : Stream)
    → slice_get task.streams place ≡ Some s
    → is_fit_stream task.domain s ≡ true
fit_stream_at task fit place s at =
    all_at_or (is_fit_stream task.domain) task.streams place s
    (second_so (is_short task.streams) (list_all (is_fit_stream task.domain) task.streams) fit.streams.each)
    (slice_get_within task.streams place s at) (sym (get_or_from_slice_get task.streams place s s at))

module _ (domain : Domain) (s : Stream) (fit : is_fit_stream domain s ≡ true) where
  up_to_domain : (nat_le (length s.inputs) 8 && nat_le (length s.outputs) 8 && are_places (length domain.sorts) s.inputs
      && are_places (length domain.sorts) s.outputs
      && are_fit_patterns domain (length domain.constants) (numbers_from 0 (length s.inputs)) s.domain) ≡ true
  up_to_domain =
      let a = nat_le (length s.inputs) 8 && nat_le (length s.outputs) 8 && are_places (length domain.sorts) s.inputs
      && are_places (length domain.sorts) s.outputs
      && are_fit_patterns domain (length domain.constants) (numbers_from 0 (length s.inputs)) s.domain in
      let b = are_static_patterns domain s.domain in
      let c = are_fit_patterns domain (length domain.constants) (numbers_from 0 (length s.inputs + length s.outputs)) s.certified in
      let d = are_static_patterns domain s.certified in
      first_so a b (first_so (a && b) c (first_so (a && b && c) d (first_so (a && b && c && d) (is_fit_worth domain s) fit)))

  pub narrow_inputs : length s.inputs ≤ 8
  narrow_inputs =
      let a = nat_le (length s.inputs) 8 in
      let b = nat_le (length s.outputs) 8 in
      let c = are_places (length domain.sorts) s.inputs in
      let d = are_places (length domain.sorts) s.outputs in
      let e = are_fit_patterns domain (length domain.constants) (numbers_from 0 (length s.inputs)) s.domain in
      leb-true (length s.inputs) 8 (first_so a b (first_so (a && b) c
      (first_so (a && b && c) d (first_so (a && b && c && d) e up_to_domain))))

  abbrev is_fit_atom : Pattern → Bool
  is_fit_atom = is_fit_pattern domain (length domain.constants) (numbers_from 0 (length s.inputs))

  fit_atoms : list_all is_fit_atom s.domain ≡ true
  fit_atoms =
      let places = are_places (length domain.sorts) s.inputs in
      let d = nat_le (length s.inputs) 8 && nat_le (length s.outputs) 8 && places && are_places (length domain.sorts) s.outputs in
      let e = is_short s.domain && list_all is_fit_atom s.domain in
      second_so (is_short s.domain) (list_all is_fit_atom s.domain) (second_so d e up_to_domain)

  pub readable_domain : IsFitDomain domain → list_all is_bounded_pattern s.domain ≡ true
  readable_domain fit_domain =
      let few : length s.inputs ≤ 16 = omega (arith, narrow_inputs) in
      readable_patterns domain fit_domain (length domain.constants) (length s.inputs) few s.domain fit_atoms

  pub slots_of_domain : IsFitDomain domain → list_all (is_pattern_of (length s.inputs)) s.domain ≡ true
  slots_of_domain fit_domain =
      patterns_of domain fit_domain (length domain.constants) (length s.inputs) s.domain fit_atoms

pub fit_readable_stream : (task : Task) → IsFit task → (place : ℕ) (s : Stream)
    → slice_get task.streams place ≡ Some s → IsReadableStream s
fit_readable_stream task fit place s at =
    let one = fit_stream_at task fit place s at in
    record {
      narrow = narrow_inputs task.domain s one;
      patterns = readable_domain task.domain s one fit.domain;
      slots = slots_of_domain task.domain s one fit.domain;
    }
