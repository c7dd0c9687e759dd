use Rattle.std.proofs.Common.{[]}
use Rattle.transcript_model.specs.Turns.{between}
use Rattle.turn_laws.specs.Modes.{nothing_kept}
use Rattle.turn_laws.proofs.ModesLemmas.{as_family, between_leads, leads_between, of_mode}
use Rattle.turn_laws.proofs.modes.whole_turns_lead.Goals as goal

pub returns : goal.returns
returns c = λ limits task entries. (
  λ turns. between_leads limits task nothing_kept [] entries (as_family limits.mode limits task entries between turns),
  λ left. of_mode limits.mode limits task entries between (leads_between limits task nothing_kept left.0 [] entries left.1),
)
