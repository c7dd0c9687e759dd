-- The names that the items of a text declare (PDDL 2.1; streams are PDDLStream's, 2020).
use Rattle.std.specs.Prelude.{◌≡◌, ◌⊎◌, ◌↔◌, ℕ, List, [], map, Contains, codes}
use Rattle.sexpr_text.specs.Trees.{Trees}
use Rattle.form_reader.specs.Rows.{head_of}
use Rattle.form_reader.specs.declared.groups.Spot.TheVariants.{Start}
use Rattle.task_model.specs.declared.domain.Action.{Action}
use Rattle.task_model.specs.declared.domain.Declared as declared
use Rattle.task_model.specs.declared.domain.Domain.{Domain}
use Rattle.task_model.specs.declared.domain.Signature.{Signature}
use Rattle.task_model.specs.declared.domain.Sort as sort
use Rattle.task_model.specs.declared.stream.Stream as stream
use Rattle.table_laws.specs.Rows.{HasItem, HasList, HasName, HasWord}

-- `object`, or a word of a `:types` item other than `-`
abbrev pub IsTypeName : Trees → List ℕ → Type 0
IsTypeName body name =
    (name ≡ codes "object")
    ⊎ ((row : Trees) × HasItem (codes ":types") body row × HasWord name row × ¬ (name ≡ codes "-"))

-- the name of a declaration in an item of this key
abbrev pub IsDeclaredIn : List ℕ → Trees → List ℕ → Type 0
IsDeclaredIn key body name =
    (row : Trees) × HasItem key body row × ((declaration : Trees) × HasList declaration row × (name ≡ head_of declaration))

-- `total-cost`, or the name of a declaration in a `:functions` item
abbrev pub IsFunctionName : Trees → List ℕ → Type 0
IsFunctionName body name = (name ≡ codes "total-cost") ⊎ IsDeclaredIn (codes ":functions") body name

-- the name behind the key of such an item
abbrev pub IsItemName : List ℕ → Trees → List ℕ → Type 0
IsItemName key body name = (row : Trees) × HasItem key body row × (name ≡ head_of row)

-- a name of groups in an item of this key
abbrev pub IsGroupName : List ℕ → Trees → List ℕ → Type 0
IsGroupName key body name = (row : Trees) × HasItem key body row × HasName Start name row

-- the name of a constant of the domain, which has a type as each has that is read, or one in an `:objects` item
abbrev pub IsObjectName : Domain → Trees → List ℕ → Type 0
IsObjectName d body name =
    ((c : declared.Declared) × Contains d.constants c × ¬ (c.sorts ≡ []) × (name ≡ c.name))
    ⊎ IsGroupName (codes ":objects") body name

-- a domain's types, predicates, functions, constants and actions have exactly the names that its items declare
pub record HasDeclaredNames (body : Trees) (d : Domain) : Type 0 where
  pub types : (name : List ℕ) → Contains (map (λ (s : sort.Sort). s.name) d.sorts) name ↔ IsTypeName body name
  pub predicates : (name : List ℕ) → Contains (map (λ (s : Signature). s.name) d.predicates) name
      ↔ IsDeclaredIn (codes ":predicates") body name
  pub functions : (name : List ℕ) → Contains (map (λ (s : Signature). s.name) d.functions) name
      ↔ IsFunctionName body name
  pub constants : (name : List ℕ) → Contains (map (λ (c : declared.Declared). c.name) d.constants) name
      ↔ IsGroupName (codes ":constants") body name
  pub actions : (name : List ℕ) → Contains (map (λ (a : Action). a.name) d.actions) name
      ↔ IsItemName (codes ":action") body name

-- the objects of a problem over the domain have exactly the names of its constants and those that its items declare
abbrev pub ObjectsHaveDeclaredNames : Domain → Trees → List declared.Declared → Type 0
ObjectsHaveDeclaredNames d body objects =
    (name : List ℕ) → Contains (map (λ (o : declared.Declared). o.name) objects) name ↔ IsObjectName d body name

-- streams have exactly the names that `:stream` and `:cost-stream` items declare
abbrev pub HaveDeclaredNames : Trees → List stream.Stream → Type 0
HaveDeclaredNames body streams =
    (name : List ℕ) → Contains (map (λ (s : stream.Stream). s.name) streams) name
    ↔ (IsItemName (codes ":stream") body name ⊎ IsItemName (codes ":cost-stream") body name)
