-- What reading a stream file gives.
use Rattle.std.specs.Prelude.{◌≡◌, List, [], Option, Some, None, Result, Ok, Err}
use Rattle.sexpr_text.specs.Trees.{Trees}
use Rattle.task_model.specs.declared.domain.Domain.{Domain}
use Rattle.task_model.specs.declared.stream.Stream as stream
use Rattle.form_reader.specs.declared.fault.Fault.{Fault}
use Rattle.form_reader.specs.declared.fault.InputFault.{InputFault}
use Rattle.form_reader.specs.declared.fault.InputFault.TheVariants as input
use Rattle.form_reader.specs.declared.fault.InputKind.TheVariants.{StreamCycle}
use Rattle.form_reader.specs.declared.items.TextKind.TheVariants.{Streams}
use Rattle.form_reader.specs.Faults.{least_fault}
use Rattle.form_reader.specs.Texts.{form_faults}
use Rattle.stream_reader.specs.Cycles.{candidates_of, edges_of}
use Rattle.name_tables.specs.Cycles.{CycleFaults, AnswersCycles}
use Rattle.stream_reader.specs.Names.{stream_plain_names}
use Rattle.stream_reader.specs.Streams.{streams_of}
use Rattle.stream_reader.specs.Tables.{stream_vocabulary}
use Rattle.name_tables.specs.Texts.{body_of}

-- over a domain, of a text that is this row of one tree

-- the name faults but for those of cycles
abbrev pub stream_file_names : Domain → Trees → List Fault
stream_file_names d t = stream_plain_names (stream_vocabulary d) d.roles (body_of t)

-- the streams that the text spells
abbrev pub spelled_streams : Domain → Trees → List stream.Stream
spelled_streams d t = streams_of (stream_vocabulary d) (body_of t)

-- these are all faults of streams that lead to themselves
abbrev pub AreCycleFaults : Domain → Trees → List Fault → Type 0
AreCycleFaults d t faults =
    CycleFaults StreamCycle (edges_of d (spelled_streams d t)) (candidates_of 0 (body_of t)) faults

-- The name fault is answered: the least but for cycles, and where there is none of them, the least of cycles.
pub data IsNameFault (d : Domain) (t : Trees) (f : Fault) : Type 0 where
  of_names : least_fault (stream_file_names d t) ≡ Some f → IsNameFault d t f
  of_cycles : {faults : List Fault} → stream_file_names d t ≡ [] → AreCycleFaults d t faults
      → least_fault faults ≡ Some f → IsNameFault d t f

-- there is no name fault, and these are the streams
pub record AreStreamsNamed (d : Domain) (t : Trees) (ss : List stream.Stream) : Type 0 where
  pub named : stream_file_names d t ≡ []
  pub acyclic : AreCycleFaults d t []
  pub streams : ss ≡ spelled_streams d t

-- of a text without form faults
abbrev pub StreamsReadNamed : Domain → Trees → Result (List stream.Stream) Fault → Type 0
StreamsReadNamed d t (Ok ss) = AreStreamsNamed d t ss
StreamsReadNamed d t (Err f) = IsNameFault d t f

-- The fault is answered: of form faults the least, and where there is none, the name fault.
pub data AreStreamsAnswered (d : Domain) (t : Trees) (f : Fault) : Type 0 where
  of_form : least_fault (form_faults Streams t) ≡ Some f → AreStreamsAnswered d t f
  of_text : form_faults Streams t ≡ [] → IsNameFault d t f → AreStreamsAnswered d t f

-- there is no fault, and these are the streams
pub record AreRead (d : Domain) (t : Trees) (ss : List stream.Stream) : Type 0 where
  pub formed : form_faults Streams t ≡ []
  pub named : AreStreamsNamed d t ss

-- Streams are read where there is no fault, and a fault is the answered one. Memory is free.
abbrev pub StreamsRead : Domain → Trees → Result (List stream.Stream) InputFault → Type 0
StreamsRead d t (Ok ss) = AreRead d t ss
StreamsRead d t (Err (input.At place kind)) =
    AreStreamsAnswered d t (record { place = place; kind = kind })
StreamsRead d t (Err input.Memory) = Unit {0}

-- the answered one of the faults of cycles, where these are the streams
abbrev pub AnswersAcyclic : Domain → List stream.Stream → Trees → Option Fault → Type 0
AnswersAcyclic d ss body answered =
    AnswersCycles StreamCycle (edges_of d ss) (candidates_of 0 body) None answered
