-- What one tuple of values teaches.
use Rattle.std.specs.Prelude.{◌≡◌, ◌≤◌, ℕ, List, [], All, length, map, true, unwrap_or}
use Rattle.std.specs.List.{list_all}
use Rattle.formula_eval.specs.Readable.{is_readable_term}
use Rattle.learning.specs.Outputs.{AreNamed}
use Rattle.task_model.specs.Fit.{IsFitDomain, is_fit_stream}
use Rattle.task_model.specs.Known.{IsIn, Known, with_facts, with_names}
use Rattle.task_model.specs.Streams.{certified_by}
use Rattle.task_model.specs.Truth.{objects_at, slots_of}
use Rattle.task_model.specs.declared.domain.Domain.{Domain}
use Rattle.task_model.specs.declared.domain.Pattern.{Pattern}
use Rattle.task_model.specs.declared.stream.Stream.{Stream}
use Rattle.transcript_model.specs.Names.{generated, places_of}

-- What is asked of patterns before their atoms are learnt: each is short, and its terms can be read and have objects
-- with names.
pub record ArePlain (names : List (List ℕ)) (args : List ℕ) (patterns : List Pattern) : Type 0 where
  pub short : All (λ (p : Pattern). length p.args ≤ 8) patterns
  pub readable : All (λ (p : Pattern). list_all is_readable_term p.args ≡ true) patterns
  pub named : All (λ (p : Pattern). All (IsIn names) (objects_at (slots_of args) p.args)) patterns

-- What is asked before an answer is learnt: the stream is one of a fit domain, there are as many inputs as it says, and
-- they have names, as the domain's constants have.
pub record MayTeach (domain : Domain) (stream : Stream) (inputs : List ℕ) (before : Known) : Type 0 where
  pub fit_domain : IsFitDomain domain
  pub fit_stream : is_fit_stream domain stream ≡ true
  pub many : length inputs ≡ length stream.inputs
  pub named : All (IsIn before.names) inputs
  pub constants : length domain.constants ≤ length before.names

-- The objects have the names of the values, what the stream certifies of the inputs and of them is known, and no more.
pub record Teaches (domain : Domain) (stream : Stream) (inputs : List ℕ) (tuple : List (List ℕ)) (before after : Known)
    (outputs : List ℕ) : Type 0 where
  pub names : after.names ≡ with_names before.names (map generated tuple)
  pub outputs_named : AreNamed after.names outputs tuple
  pub facts : after.facts ≡ with_facts before.facts (certified_by domain stream inputs outputs)
  pub values : after.values ≡ before.values

-- what is known after a tuple: its values' names, and what the stream certifies of the inputs and of their objects
abbrev pub with_tuple : Domain → Stream → List ℕ → List (List ℕ) → Known → Known
with_tuple domain stream inputs tuple before =
    let names = with_names before.names (map generated tuple) in
    let outputs = unwrap_or (places_of names (map generated tuple)) [] in
    record {
      names = names;
      facts = with_facts before.facts (certified_by domain stream inputs outputs);
      values = before.values;
    }
