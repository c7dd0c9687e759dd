-- The domain, the problem, the streams and the task that short texts spell are fit.
use Rattle.std.proofs.Common.{◌≡◌, ℕ, List, Ok, subst, arith}
use Rattle.sexpr_text.proofs.ReadingSound.{found}
use Rattle.sexpr_text.proofs.TreesSizeLemmas.{small}
use Rattle.sexpr_text.specs.Reading.{reading}
use Rattle.sexpr_text.specs.Spelling as spelling
use Rattle.sexpr_text.specs.Trees.{Trees, nothing}
use Rattle.task_model.specs.Fit.{IsFitDomain}
use Rattle.task_model.specs.declared.domain.Domain.{Domain}
use Rattle.task_model.specs.declared.stream.Stream.{Stream}
use Rattle.task_model.specs.declared.task.Problem.{Problem}
use Rattle.name_tables.specs.Sizes.{IsBoundedTree}
use Rattle.domain_reader.proofs.FitDomain.{fit_domain}
use Rattle.problem_reader.specs.Fitness.{IsFitOver, IsFitRead}
use Rattle.problem_reader.proofs.FitProblem.{read_problems_fit}
use Rattle.stream_reader.specs.Fitness.{AreFitOver}
use Rattle.stream_reader.proofs.FitStreams.{read_streams_fit}
use Rattle.task_reader.specs.Fitness.{HasShortText, IsShort, SpelledTasksAreFit}
use Rattle.task_reader.specs.Texts.{SpellsDomain, SpellsProblem, SpellsStreams}

-- ---- the tree of a short text

-- a list, no larger and no deeper than texts give it
record IsTree (t : Trees) : Type 0 where
  bounded : IsBoundedTree t
  there : ¬ (t ≡ nothing)

tree_of : (bytes : List ℕ) (t : Trees) → IsShort bytes → reading bytes ≡ Ok t → IsTree t
tree_of bytes t short read =
    let is : spelling.Spells bytes t = found bytes t read in
    record {
      bounded = record { small = omega (arith, small bytes t is, short); shallow = is.depth };
      there = λ none. subst spelling.IsOneList none is.one;
    }

-- ---- each text

pub domain_fit : (bytes : List ℕ) (d : Domain) → IsShort bytes → SpellsDomain bytes d
    → IsFitDomain d
domain_fit bytes d short is =
    let tree = tree_of bytes is.tree short is.spelled in
    fit_domain is.tree d tree.there is.holds tree.bounded

fit_read : (d : Domain) → HasShortText d → IsFitRead d
fit_read d is = record {
  text = is.spelled.tree;
  bounded = (tree_of is.bytes is.spelled.tree is.short is.spelled.spelled).bounded;
  read = is.spelled.holds;
  fit = domain_fit is.bytes d is.short is.spelled;
}

pub problem_fit : (d : Domain) (bytes : List ℕ) (p : Problem) → HasShortText d → IsShort bytes
    → SpellsProblem d bytes p → IsFitOver d p
problem_fit d bytes p over short is =
    let tree = tree_of bytes is.tree short is.spelled in
    read_problems_fit d is.tree p (fit_read d over) tree.bounded tree.there is.holds

pub streams_fit : (d : Domain) (bytes : List ℕ) (ss : List Stream) → HasShortText d → IsShort bytes
    → SpellsStreams d bytes ss
    → AreFitOver d ss
streams_fit d bytes ss over short is =
    read_streams_fit d is.tree ss (domain_fit over.bytes d over.short over.spelled)
    (tree_of bytes is.tree short is.spelled).bounded is.holds

-- ---- the task

pub spelled_tasks_fit : SpelledTasksAreFit
spelled_tasks_fit domain_bytes problem_bytes stream_bytes task first second third is =
    let over : HasShortText task.domain = record { bytes = domain_bytes; short = first; spelled = is.domain } in
    record {
      domain = domain_fit domain_bytes task.domain first is.domain;
      problem =
          problem_fit task.domain problem_bytes task.problem over second is.problem task.streams;
      streams =
          streams_fit task.domain stream_bytes task.streams over third is.streams task.problem;
    }
