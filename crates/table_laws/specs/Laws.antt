-- Laws of tables that readers fill, said by what stands in the text. Each is a clause of a public function of `laws.rt`.
use Rattle.std.specs.Prelude.{List}
use Rattle.sexpr_text.specs.Trees.{Trees}
use Rattle.domain_reader.specs.Domains.{IsDomainRead}
use Rattle.name_tables.specs.Texts.{body_of}
use Rattle.problem_reader.specs.Problems.{IsProblemRead}
use Rattle.stream_reader.specs.Reading.{AreRead}
use Rattle.task_model.specs.declared.domain.Domain.{Domain}
use Rattle.task_model.specs.declared.stream.Stream.{Stream}
use Rattle.task_model.specs.declared.task.Problem.{Problem}
use Rattle.table_laws.specs.Changed.{AddAndDeleteLiterals}
use Rattle.table_laws.specs.Under.{AreClosed}
use Rattle.table_laws.specs.Declared.{HasDeclaredNames, HaveDeclaredNames, ObjectsHaveDeclaredNames}

-- The names of a domain that is read are exactly those that its items declare.
abbrev pub DomainNamesAreDeclared : Type 0
DomainNamesAreDeclared = (t : Trees) (d : Domain) → IsDomainRead t d → HasDeclaredNames (body_of t) d

-- The names of the objects of a problem that is read are exactly those of the domain's constants and those that its
-- items declare.
abbrev pub ObjectNamesAreDeclared : Type 0
ObjectNamesAreDeclared =
    (d : Domain) (t : Trees) (p : Problem) → IsProblemRead d t p → ObjectsHaveDeclaredNames d (body_of t) p.objects

-- The names of streams that are read are exactly those that their items declare.
abbrev pub StreamNamesAreDeclared : Type 0
StreamNamesAreDeclared =
    (d : Domain) (t : Trees) (streams : List Stream) → AreRead d t streams → HaveDeclaredNames (body_of t) streams

-- The adds and deletes of each action of a domain that is read are exactly its effect's literals.
abbrev pub EffectsAreLiterals : Type 0
EffectsAreLiterals = (t : Trees) (d : Domain) → IsDomainRead t d → AddAndDeleteLiterals t d

-- Above each type of a domain that is read are exactly those that it is under, by what `:types` lists.
abbrev pub TypesAreClosed : Type 0
TypesAreClosed = (t : Trees) (d : Domain) → IsDomainRead t d → AreClosed (body_of t) d
