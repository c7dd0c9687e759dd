use Rattle.std.proofs.Common.{◌≡◌, ◌∙◌, sym, subst, Ok, None}
use Rattle.sexpr_text.specs.Trees.{tree}
use Rattle.form_reader.proofs.FaultsLeastLemmas.{none_is_none}
use Rattle.form_reader.specs.declared.items.TextKind.TheVariants.{Problem}
use Rattle.form_reader.specs.Faults.{least_fault}
use Rattle.form_reader.specs.Texts.{form_faults}
use Rattle.problem_reader.specs.Problems.{ProblemReadsNamed, name_faults, of_names}
use Rattle.problem_reader.proofs.reader.read.Goals as goal

pub returns-in-Ok : goal.returns-in-Ok
returns-in-Ok c =
    let none : least_fault (form_faults Problem (tree c.args.text.now)) ≡ None = sym c.check_form.ensures ∙ c.in_default.is in
    let both : ProblemReadsNamed c.args.domain.now (tree c.args.text.now) (Ok c.in-Ok.problem) =
    subst (ProblemReadsNamed c.args.domain.now (tree c.args.text.now)) c.in-Ok.is c.in_ok-problem.ensures in
    record {
      formed = none_is_none (form_faults Problem (tree c.args.text.now)) none;
      named = none_is_none (name_faults c.args.domain.now (tree c.args.text.now)) both.0;
      problem = both.1;
    }

pub returns-in-Err : goal.returns-in-Err
returns-in-Err c =
    let none : least_fault (form_faults Problem (tree c.args.text.now)) ≡ None = sym c.check_form.ensures ∙ c.in_default.is in
    of_names (none_is_none (form_faults Problem (tree c.args.text.now)) none)
    (subst (ProblemReadsNamed c.args.domain.now (tree c.args.text.now)) c.in-Err.is c.in_ok-problem.ensures)
