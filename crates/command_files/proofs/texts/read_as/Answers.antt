use Rattle.std.proofs.Common.{sym, subst}
use Rattle.command_files.proofs.InputsLemmas.{ends_refused}
use Rattle.command_files.specs.Inputs.{EndsHere}
use Rattle.command_files.proofs.texts.read_as.Goals as goal

pub returns-clause-stop : goal.returns-clause-stop
returns-clause-stop g c texts cause =
    let read = c.in_ok-bytes.bytes.items in
    subst (EndsHere _ texts _) (sym c.stop_of.ensures.stop)
    (ends_refused _ texts c.args.text c.args.path.now read c.in_ok-bytes.ensures.bytes c.in_ok-bytes.ensures.asked c.in-Err.refusal
    (cause read c.in-Err.refusal (c.as_slice.result, c.in-Err.ensures, c.as_slice.ensures.value)))
