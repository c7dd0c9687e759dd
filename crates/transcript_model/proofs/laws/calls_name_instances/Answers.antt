use Rattle.transcript_model.proofs.CallNameLemmas.{call_names_instance}
use Rattle.transcript_model.proofs.laws.calls_name_instances.Goals as goal

pub returns : goal.returns
returns c = call_names_instance
