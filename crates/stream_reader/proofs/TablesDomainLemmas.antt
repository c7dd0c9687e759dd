-- The names that streams look up are those of a fit domain.
use Rattle.std.proofs.Common.{◌≡◌, ◌<◌, List, length, sym, ap, codes}
use Rattle.task_model.specs.Fit.{IsFitDomain}
use Rattle.task_model.specs.declared.domain.Domain as domain
use Rattle.task_model.specs.declared.domain.Signature.{Signature}
use Rattle.name_tables.specs.Names.{Signed, with_signature}
use Rattle.name_tables.specs.Vocabulary.{vocabulary_of}
use Rattle.name_tables.specs.declared.vocabulary.Vocabulary.{Vocabulary}
use Rattle.name_tables.proofs.FitVocabulary.{names_known, signature_arities, signature_names, sorts_some}
use Rattle.name_tables.proofs.VocabularyLemmas.{AreSigned}
use Rattle.stream_reader.specs.Tables.{stream_vocabulary}

abbrev pub listed : List Signature → Signed
listed gs = record { names = signature_names gs; arities = signature_arities gs }

is_listed : (gs : List Signature) (s : Signed) → AreSigned gs s → s ≡ listed gs
is_listed gs s are = λ i. record { names = are.names i; arities = are.arities i }

-- The names are those of the domain, in its order; behind its functions the total cost may stand.
pub record AreKnown (d : domain.Domain) (v : Vocabulary) : Type 0 where
  pub sorts : length v.sorts ≡ length d.sorts
  pub some : 0 < length v.sorts
  pub predicates : AreSigned d.predicates v.predicates
  pub functions : v.functions ≡ with_signature (listed d.functions) (codes "total-cost") 0
  pub objects : length d.constants ≡ length v.objects

pub names_are : (d : domain.Domain) → IsFitDomain d → AreKnown d (stream_vocabulary d)
names_are d fit =
    let known = names_known d fit in
    record {
      sorts = known.sorts;
      some = sorts_some d (stream_vocabulary d) fit known.sorts;
      predicates = known.predicates;
      functions =
          ap (λ s. with_signature s (codes "total-cost") 0)
          (is_listed d.functions (vocabulary_of d).functions known.functions);
      objects = sym known.long;
    }
