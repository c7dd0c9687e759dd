use Rattle.std.proofs.Common.{◌≡◌, ◌∙◌, sym, subst, None}
use Rattle.sexpr_text.specs.Trees.{tree}
use Rattle.form_reader.proofs.FaultsLeastLemmas.{none_is_none}
use Rattle.form_reader.specs.declared.items.TextKind.TheVariants.{Streams}
use Rattle.form_reader.specs.Faults.{least_fault}
use Rattle.form_reader.specs.Texts.{form_faults}
use Rattle.stream_reader.specs.Reading.{StreamsReadNamed, of_text}
use Rattle.stream_reader.proofs.reader.read.Goals as goal

pub returns-in-Ok : goal.returns-in-Ok
returns-in-Ok c =
    let none : least_fault (form_faults Streams (tree c.args.text.now)) ≡ None = sym c.check_form.ensures ∙ c.in_default.is in
    record {
      formed = none_is_none (form_faults Streams (tree c.args.text.now)) none;
      named = subst (StreamsReadNamed c.args.domain.now (tree c.args.text.now)) c.in-Ok.is c.in_ok-streams.ensures;
    }

pub returns-in-Err : goal.returns-in-Err
returns-in-Err c =
    let none : least_fault (form_faults Streams (tree c.args.text.now)) ≡ None = sym c.check_form.ensures ∙ c.in_default.is in
    of_text (none_is_none (form_faults Streams (tree c.args.text.now)) none)
    (subst (StreamsReadNamed c.args.domain.now (tree c.args.text.now)) c.in-Err.is c.in_ok-streams.ensures)
