-- What is known of a store with names, facts and values behind its own.
use Rattle.std.specs.Prelude.{ℕ, List, ◌++◌, min, Option, None, Some}
use Rattle.task_model.specs.Known.{Known}
use Rattle.task_model.specs.declared.fact.Fact.{Fact}
use Rattle.task_model.specs.declared.task.Valued.{Valued}

-- what is known with names, facts and values behind a store's own
abbrev pub laid_over : Known → List (List ℕ) → List Fact → List Valued → Known
laid_over known names facts values =
    record { names = known.names ++ names; facts = known.facts ++ facts; values = known.values ++ values }

-- the lesser of two numbers, or the one that there is
abbrev pub lesser_option : Option ℕ → Option ℕ → Option ℕ
lesser_option None second = second
lesser_option (Some n) None = Some n
lesser_option (Some n) (Some m) = Some (min n m)
