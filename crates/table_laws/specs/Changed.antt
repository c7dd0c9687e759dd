-- The literals of an effect (PDDL 2.1): the atoms that it adds, and those that it takes away.
use Rattle.std.specs.Prelude.{◌≡◌, ◌⊎◌, ◌↔◌, ℕ, List, Bool, true, false, Contains, codes}
use Rattle.sexpr_text.specs.Trees.{Trees, nothing, word, list}
use Rattle.form_reader.specs.Rows.{head_of, inner_of, tail_of}
use Rattle.form_reader.specs.Words.{is_refused_effect}
use Rattle.form_reader.specs.declared.groups.Spot.TheVariants.{Start}
use Rattle.name_tables.specs.Terms.{pattern_of}
use Rattle.name_tables.specs.Texts.{value_at}
use Rattle.name_tables.specs.Variables.{named_words}
use Rattle.name_tables.specs.declared.vocabulary.Vocabulary.{Vocabulary}
use Rattle.domain_reader.specs.Domains.{domain_names}
use Rattle.task_model.specs.declared.domain.Action.{Action}
use Rattle.task_model.specs.declared.domain.Domain.{Domain}
use Rattle.task_model.specs.declared.domain.Pattern.{Pattern}
use Rattle.name_tables.specs.Texts.{body_of}
use Rattle.table_laws.specs.Rows.{HasItem}

-- the word begins an atom: it begins no other effect
pub record BeginsAtom (text : List ℕ) : Type 0 where
  pub no_and : ¬ (text ≡ codes "and")
  pub no_not : ¬ (text ≡ codes "not")
  pub no_increase : ¬ (text ≡ codes "increase")
  pub allowed : is_refused_effect text ≡ false

-- The atom is one that an effect adds, or one that it takes away: `ATOM`, `(not ATOM)`, or in one of the parts of an
-- `and`.
abbrev mutual
  pub RowChanges : Bool → Trees → Trees → Type 0
  RowChanges adds atom nothing = ⊥
  RowChanges adds atom (word text at rest) = RowChanges adds atom rest
  RowChanges adds atom (list items at rest) = Changes adds atom items ⊎ RowChanges adds atom rest

  pub Changes : Bool → Trees → Trees → Type 0
  Changes adds atom nothing = ⊥
  Changes adds atom (word text at rest) =
      ((text ≡ codes "and") × RowChanges adds atom rest)
      ⊎ (((text ≡ codes "not") × (adds ≡ false) × (atom ≡ inner_of rest))
      ⊎ (BeginsAtom text × (adds ≡ true) × (atom ≡ word text at rest)))
  Changes adds atom (list items at rest) = ⊥

-- The patterns are exactly those of the atoms that the effect of these keys adds, or takes away.
abbrev pub AreLiterals : Bool → Vocabulary → Trees → List Pattern → Type 0
AreLiterals adds v keys patterns =
    (p : Pattern) → Contains patterns p
    ↔ ((atom : Trees) × Changes adds atom (value_at (codes ":effect") keys)
    × (p ≡ pattern_of v (named_words Start (value_at (codes ":parameters") keys)) atom))

-- The action is that of an `:action` item: it has its name, and adds and takes away the literals of its effect.
pub record IsOfItem (v : Vocabulary) (row : Trees) (a : Action) : Type 0 where
  pub name : a.name ≡ head_of row
  pub adds : AreLiterals true v (tail_of row) a.adds
  pub deletes : AreLiterals false v (tail_of row) a.deletes

-- Each action of the domain is that of an `:action` item.
abbrev pub AddAndDeleteLiterals : Trees → Domain → Type 0
AddAndDeleteLiterals t d =
    (a : Action) → Contains d.actions a
    → (row : Trees) × HasItem (codes ":action") (body_of t) row × IsOfItem (domain_names t) row a
