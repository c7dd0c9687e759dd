-- What streams of fit tasks name.
use Rattle.std.proofs.Common.{◌≡◌, ℕ, zero, suc, ◌+◌, ◌<◌, ◌≤◌, arith, true, ◌&&◌, List, [], ◌∷◌, ◌++◌, length, get_or, refl, sym, subst, All, nat_le, slice_index, Some}
use Rattle.std.proofs.lemmas.Bool.{leb-true}
use Rattle.std.proofs.lemmas.List.{length-append}
use Rattle.std.proofs.lemmas.List.Elements.{All-append}
use Rattle.std.specs.Cmp.{first_so, second_so}
use Rattle.std.specs.List.{list_all}
use Rattle.formula_eval.proofs.ReadableLemmas.{few_slots, few_arguments, readable_terms}
use Rattle.formula_eval.specs.Readable.{is_readable_term}
use Rattle.learning.specs.Tuples.{ArePlain}
use Rattle.task_model.specs.Fit.{IsFitDomain, is_fit_stream, is_fit_pattern, are_fit_patterns, is_fit_application, has_arity, is_short, are_places, are_static_patterns, is_fit_worth}
use Rattle.task_model.specs.Known.{IsIn}
use Rattle.lemmas.specs.Lists.{numbers_from}
use Rattle.task_model.specs.Streams.{is_empty}
use Rattle.task_model.specs.Truth.{slots_of, objects_at}
use Rattle.task_model.specs.declared.condition.Term.{Term}
use Rattle.task_model.specs.declared.domain.Domain.{Domain}
use Rattle.task_model.specs.declared.domain.Pattern.{Pattern}
use Rattle.task_model.specs.declared.domain.Signature.{Signature}
use Rattle.task_model.specs.declared.stream.Stream.{Stream}
use Rattle.task_model.specs.declared.stream.Worth.{Worth}
use Rattle.transcript_model.proofs.NamedObjectLemmas.{terms_named, passes_all}

-- ---- slots and constants

in_front : (args more : List ℕ) (k : ℕ) → k < length args
    → slice_index (args ++ more) k ≡ get_or args k 0
in_front [] more k lt = absurd (omega arith)
in_front (a ∷ rest) more zero lt = refl
in_front (a ∷ rest) more (suc k) lt = in_front rest more k (omega arith)

-- ---- applications

module _ (signatures : List Signature) (few : list_all (λ (s : Signature). nat_le s.arity 8) signatures ≡ true) (constants : ℕ) (place : ℕ)
    (args : List Term) (n : ℕ) (most : n ≤ 16) (fit : is_fit_application signatures constants (numbers_from 0 n) place args ≡ true) where
  pub short_application : length args ≤ 8
  short_application =
      leb-true (length args) 8
      (few_arguments signatures place (length args) few (first_so (has_arity signatures place (length args)) _ fit))

  pub readable_application : list_all is_readable_term args ≡ true
  readable_application =
      readable_terms constants (numbers_from 0 n) args (few_slots n most) (second_so (has_arity signatures place (length args)) _ fit)

-- ---- patterns

module _ (domain : Domain) (fit : IsFitDomain domain) (names : List (List ℕ))
    (constants : length domain.constants ≤ length names) (args : List ℕ) (few : length args ≤ 16) (all : All (IsIn names) args) where
  one_of : (P : Pattern → Type 0)
      → ((p : Pattern) → is_fit_pattern domain (length domain.constants) (numbers_from 0 (length args)) p ≡ true → P p)
      → (ps : List Pattern) → list_all (is_fit_pattern domain (length domain.constants) (numbers_from 0 (length args))) ps ≡ true → All P ps
  one_of P one [] e k d lt = absurd (omega arith)
  one_of P one (p ∷ ps) e zero d lt =
      one p (first_so (is_fit_pattern domain (length domain.constants) (numbers_from 0 (length args)) p) _ e)
  one_of P one (p ∷ ps) e (suc k) d lt =
      one_of P one ps (second_so (is_fit_pattern domain (length domain.constants) (numbers_from 0 (length args)) p) _ e) k d (omega arith)

  pub plain_patterns : (ps : List Pattern)
      → list_all (is_fit_pattern domain (length domain.constants) (numbers_from 0 (length args))) ps ≡ true → ArePlain names args ps
  plain_patterns ps e = record {
    short = one_of (λ p. length p.args ≤ 8)
        (λ p f. short_application domain.predicates fit.predicates.arities (length domain.constants) p.pred p.args (length args) few f) ps
        e;
    readable = one_of (λ p. list_all is_readable_term p.args ≡ true)
        (λ p f. readable_application domain.predicates fit.predicates.arities (length domain.constants) p.pred p.args (length args) few f)
        ps e;
    named = one_of (λ p. All (IsIn names) (objects_at (slots_of args) p.args))
        (λ p f. terms_named names (length domain.constants) args p.args constants all
        (second_so (has_arity domain.predicates p.pred (length p.args)) _ f)) ps e;
  }

-- ---- streams

-- the parts of a fit stream that answers rest on
pub record HasFitParts (domain : Domain) (s : Stream) : Type 0 where
  pub inputs : length s.inputs ≤ 8
  pub outputs : length s.outputs ≤ 8
  pub certified : list_all (is_fit_pattern domain (length domain.constants) (numbers_from 0 (length s.inputs + length s.outputs)))
      s.certified
      ≡ true
  pub worth : is_fit_worth domain s ≡ true

pub fit_parts : (domain : Domain) (s : Stream) → is_fit_stream domain s ≡ true
    → HasFitParts domain s
fit_parts domain s e =
    let a = nat_le (length s.inputs) 8 in
    let b = nat_le (length s.outputs) 8 in
    let c = are_places (length domain.sorts) s.inputs in
    let d = are_places (length domain.sorts) s.outputs in
    let f = are_fit_patterns domain (length domain.constants) (numbers_from 0 (length s.inputs)) s.domain in
    let g = are_static_patterns domain s.domain in
    let h = are_fit_patterns domain (length domain.constants) (numbers_from 0 (length s.inputs + length s.outputs)) s.certified in
    let i = are_static_patterns domain s.certified in
    let j = is_fit_worth domain s in
    let to_i = first_so (a && b && c && d && f && g && h && i) j e in
    let to_h = first_so (a && b && c && d && f && g && h) i to_i in
    let to_g = first_so (a && b && c && d && f && g) h to_h in
    let to_f = first_so (a && b && c && d && f) g to_g in
    let to_d = first_so (a && b && c && d) f to_f in
    let to_c = first_so (a && b && c) d to_d in
    let to_b = first_so (a && b) c to_c in
    record {
      inputs = leb-true (length s.inputs) 8 (first_so a b to_b);
      outputs = leb-true (length s.outputs) 8 (second_so a b to_b);
      certified =
          second_so (is_short s.certified) _ (second_so (a && b && c && d && f && g) h to_h);
      worth = second_so (a && b && c && d && f && g && h && i) j e;
    }

-- the certified atoms of a fit stream, where inputs and outputs have names
module _ (domain : Domain) (fit : IsFitDomain domain) (names : List (List ℕ)) (constants : length domain.constants ≤ length names)
    (s : Stream) (parts : HasFitParts domain s) (inputs outputs : List ℕ) (some : length inputs ≡ length s.inputs)
    (others : length outputs ≡ length s.outputs) where
  pub few_args : length (inputs ++ outputs) ≤ 16
  few_args = omega (arith, length-append inputs outputs, parts.inputs, parts.outputs)

  pub plain_certified : All (IsIn names) inputs → All (IsIn names) outputs
      → ArePlain names (inputs ++ outputs) s.certified
  plain_certified first second =
      let long : length (inputs ++ outputs) ≡ length s.inputs + length s.outputs = omega (arith, length-append inputs outputs) in
      plain_patterns domain fit names constants (inputs ++ outputs) few_args
      (All-append (IsIn names) inputs outputs first second) s.certified
      (subst (λ n. list_all (is_fit_pattern domain (length domain.constants) (numbers_from 0 n)) s.certified ≡ true)
      (sym long) parts.certified)

-- what is asked of a pattern or a term before it is looked up
abbrev pub IsShort : List Term → Type 0
IsShort args = (length args ≤ 8) × (list_all is_readable_term args ≡ true)

-- the certified atoms of a fit stream can be looked up
pub short_certified : (domain : Domain) → IsFitDomain domain → (s : Stream) → HasFitParts domain s
    → All (λ (p : Pattern). IsShort p.args) s.certified
short_certified domain fit s parts =
    passes_all (is_fit_pattern domain (length domain.constants) (numbers_from 0 (length s.inputs + length s.outputs)))
    (λ (p : Pattern). IsShort p.args) s.certified
    (λ p f.
    let most : length s.inputs + length s.outputs ≤ 16 = omega (arith, parts.inputs, parts.outputs) in (
      short_application domain.predicates fit.predicates.arities (length domain.constants) p.pred p.args
          (length s.inputs + length s.outputs) most f,
      readable_application domain.predicates fit.predicates.arities (length domain.constants) p.pred p.args
          (length s.inputs + length s.outputs) most f,
    )) parts.certified

-- so can the term of a fit cost stream
pub short_worth : (domain : Domain) → IsFitDomain domain → (s : Stream) → HasFitParts domain s → (worth : Worth)
    → s.worth ≡ Some worth → IsShort worth.args
short_worth domain fit s parts worth e =
    let most : length s.inputs ≤ 16 = omega (arith, parts.inputs) in
    let whole : is_fit_worth domain (record s { worth = Some worth }) ≡ true =
    subst (λ w. is_fit_worth domain (record s { worth = w }) ≡ true) e parts.worth in
    let fits : is_fit_application domain.functions (length domain.constants)
    (numbers_from 0 (length s.inputs)) worth.func worth.args ≡ true =
    second_so (is_empty s.outputs && is_empty s.certified) _ whole in (
      short_application domain.functions fit.functions.arities (length domain.constants) worth.func worth.args (length s.inputs) most fits,
      readable_application domain.functions fit.functions.arities (length domain.constants) worth.func worth.args (length s.inputs) most
          fits,
    )

-- the term of a fit cost stream
pub record IsPlainWorth (names : List (List ℕ)) (inputs : List ℕ) (worth : Worth) : Type 0 where
  pub short : length worth.args ≤ 8
  pub readable : list_all is_readable_term worth.args ≡ true
  pub named : All (IsIn names) (objects_at (slots_of inputs) worth.args)

pub plain_worth : (domain : Domain) → IsFitDomain domain → (names : List (List ℕ))
    → length domain.constants ≤ length names → (s : Stream)
    → HasFitParts domain s → (inputs : List ℕ) → length inputs ≡ length s.inputs → All (IsIn names) inputs → (worth : Worth)
    → s.worth ≡ Some worth → IsPlainWorth names inputs worth
plain_worth domain fit names constants s parts inputs long all worth e =
    let most : length inputs ≤ 16 = omega (arith, parts.inputs) in
    let whole : is_fit_worth domain (record s { worth = Some worth }) ≡ true =
    subst (λ w. is_fit_worth domain (record s { worth = w }) ≡ true) e parts.worth in
    let application : is_fit_application domain.functions (length domain.constants)
    (numbers_from 0 (length s.inputs)) worth.func worth.args ≡ true =
    second_so (is_empty s.outputs && is_empty s.certified) _ whole in
    let fitting : is_fit_application domain.functions (length domain.constants)
    (numbers_from 0 (length inputs)) worth.func worth.args ≡ true =
    subst (λ n. is_fit_application domain.functions (length domain.constants) (numbers_from 0 n) worth.func worth.args ≡ true)
    (sym long) application in
    record {
      short = short_application domain.functions fit.functions.arities (length domain.constants) worth.func worth.args
          (length inputs) most fitting;
      readable = readable_application domain.functions fit.functions.arities (length domain.constants) worth.func worth.args
          (length inputs) most fitting;
      named = terms_named names (length domain.constants) inputs worth.args constants all
          (second_so (has_arity domain.functions worth.func (length worth.args)) _ fitting);
    }
