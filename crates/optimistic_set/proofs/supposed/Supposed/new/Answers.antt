use Rattle.std.proofs.Common.{◌++◌, List, ℕ, subst}
use Rattle.optimistic_set.proofs.DraftLemmas.{draft_coherent}
use Rattle.optimistic_set.specs.Entries.{IsPlainEntry}
use Rattle.optimistic_set.proofs.supposed.Supposed.new.Goals as goal

pub invariant_of-result : goal.invariant_of-result
invariant_of-result c = (
  draft_coherent c.args.task.now c.args.draft.facts.now.known c.requires.base c.args.draft c.requires.draft
      c.args.draft.facts.now.coherent,
  tt,
)

pub returns-clause-plain : goal.returns-clause-plain
returns-clause-plain c =
    let known = c.args.draft.facts.now.known in
    record {
      base = c.requires.base;
      few = c.requires.draft.few;
      each = λ k e at. subst (λ (ns : List (List ℕ)). IsPlainEntry c.args.task.now (known.names ++ ns) e) c.requires.draft.names
          (c.requires.draft.plain k e at);
    }
