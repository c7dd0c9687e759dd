-- What is answered of a text, from what its parts answer.
use Rattle.std.proofs.Common.{◌≡◌, List, [], sym, subst, ap, ◌∙◌, Some, None}
use Rattle.sexpr_text.specs.Trees.{Trees}
use Rattle.task_model.specs.declared.domain.Domain.{Domain}
use Rattle.task_model.specs.declared.stream.Stream as stream
use Rattle.form_reader.specs.declared.fault.Fault.{Fault}
use Rattle.form_reader.specs.declared.fault.InputKind.TheVariants.{StreamCycle}
use Rattle.form_reader.specs.Faults.{least_fault}
use Rattle.form_reader.proofs.FaultsLeastLemmas.{none_is_none}
use Rattle.name_tables.specs.declared.vocabulary.Vocabulary.{Vocabulary}
use Rattle.stream_reader.specs.Cycles.{candidates_of, edges_of}
use Rattle.name_tables.specs.Cycles.{CycleFaults}
use Rattle.stream_reader.specs.Names.{stream_plain_names}
use Rattle.stream_reader.specs.Reading.{AnswersAcyclic, AreCycleFaults, AreStreamsNamed, IsNameFault, stream_file_names, of_names, of_cycles, spelled_streams}
use Rattle.stream_reader.specs.Streams.{streams_of}
use Rattle.stream_reader.specs.Tables.{stream_vocabulary}
use Rattle.name_tables.specs.Texts.{body_of}

-- over the names of the domain and the items of the text
module _ (d : Domain) (t b : Trees) (v : Vocabulary) (eb : b ≡ body_of t) (ev : v ≡ stream_vocabulary d) where
  same_names : stream_plain_names v d.roles b ≡ stream_file_names d t
  same_names =
      ap (λ w. stream_plain_names w d.roles b) ev ∙ ap (λ c. stream_plain_names (stream_vocabulary d) d.roles c) eb

  same_streams : streams_of v b ≡ spelled_streams d t
  same_streams = ap (λ w. streams_of w b) ev ∙ ap (λ c. streams_of (stream_vocabulary d) c) eb

  pub plain_fault : (f : Fault) → Some f ≡ least_fault (stream_plain_names v d.roles b) → IsNameFault d t f
  plain_fault f e = of_names (sym (e ∙ ap least_fault same_names))

  no_names : None ≡ least_fault (stream_plain_names v d.roles b) → stream_file_names d t ≡ []
  no_names e = none_is_none (stream_file_names d t) (sym (e ∙ ap least_fault same_names))

  module _ (ss : List stream.Stream) (es : ss ≡ streams_of v b) where
    over_text : (fs : List Fault) → CycleFaults StreamCycle (edges_of d ss) (candidates_of 0 b) fs
        → AreCycleFaults d t fs
    over_text fs w =
        subst (λ c. CycleFaults StreamCycle (edges_of d (spelled_streams d t)) (candidates_of 0 c) fs) eb
        (subst (λ xs. CycleFaults StreamCycle (edges_of d xs) (candidates_of 0 b) fs) (es ∙ same_streams) w)

    pub cycle_fault : (f : Fault) → None ≡ least_fault (stream_plain_names v d.roles b)
        → AnswersAcyclic d ss b (Some f) → IsNameFault d t f
    cycle_fault f e a = of_cycles (no_names e) (over_text a.faults a.right) (sym a.least)

    pub all_named : None ≡ least_fault (stream_plain_names v d.roles b) → AnswersAcyclic d ss b None
        → AreStreamsNamed d t ss
    all_named e a = record {
      named = no_names e;
      acyclic = subst (AreCycleFaults d t) (none_is_none a.faults (sym a.least)) (over_text a.faults a.right);
      streams = es ∙ same_streams;
    }
