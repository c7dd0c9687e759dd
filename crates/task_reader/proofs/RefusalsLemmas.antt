-- The fault of a tree or of what it spells is the cause of the refusal that it is told by.
use Rattle.std.proofs.Common.{◌≡◌, ℕ, List, Ok, Err}
use Rattle.sexpr_text.specs.Reading.{reading}
use Rattle.sexpr_text.specs.Trees.{Trees}
use Rattle.task_model.specs.declared.domain.Domain.{Domain}
use Rattle.form_reader.specs.declared.fault.InputFault.{InputFault}
use Rattle.form_reader.specs.declared.fault.InputFault.TheVariants as input
use Rattle.domain_reader.specs.Domains as domains
use Rattle.stream_reader.specs.Reading as streams
use Rattle.task_reader.specs.Refusals.{Refuses, of_input}
use Rattle.task_reader.specs.Texts.{RefusesDomain, RefusesStreams}

pub no_domain : (bytes : List ℕ) (t : Trees) → reading bytes ≡ Ok t → (fault : InputFault)
    → domains.DomainReads t (Err fault)
    → Refuses (RefusesDomain bytes) (of_input fault)
no_domain bytes t spelled (input.At place kind) answered =
    record { tree = t; spelled = spelled; holds = answered }
no_domain bytes t spelled input.Memory answered = tt

pub no_streams : (d : Domain) (bytes : List ℕ) (t : Trees) → reading bytes ≡ Ok t
    → (fault : InputFault)
    → streams.StreamsRead d t (Err fault) → Refuses (RefusesStreams d bytes) (of_input fault)
no_streams d bytes t spelled (input.At place kind) answered =
    record { tree = t; spelled = spelled; holds = answered }
no_streams d bytes t spelled input.Memory answered = tt
