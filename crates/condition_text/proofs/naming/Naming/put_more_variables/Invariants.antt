use Rattle.std.proofs.Common.{◌≡◌, ◌+◌, ◌++◌, drop}
use Rattle.condition_text.specs.Texts.{more_variables}
use Rattle.condition_text.proofs.naming.Naming.put_more_variables.Given as goal

-- what is left to put makes the whole
abbrev pub invariant-loop-place : goal.invariant-loop-place
invariant-loop-place l =
    l.text.items ++ more_variables l.self.domain.now (l.first + l.place) (drop l.place l.sorts)
    ≡ l.initial.text.items ++ more_variables l.self.domain.now l.first l.sorts
