-- The name and the items of a text without form faults.
use Rattle.std.proofs.Common.{◌≡◌, ℕ, true, List, [], codes}
use Rattle.std.specs.Str.{bytes_eq}
use Rattle.lemmas.proofs.Members.{none_both}
use Rattle.sexpr_text.specs.Trees.{Trees, nothing, word, list}
use Rattle.task_model.specs.Fit.{is_name}
use Rattle.form_reader.specs.declared.items.TextKind.{TextKind}
use Rattle.form_reader.specs.declared.words.WordSort.TheVariants.{Name}
use Rattle.form_reader.specs.Faults.{shape}
use Rattle.form_reader.specs.Items.{items_faults}
use Rattle.form_reader.specs.Rows.{end_faults, head_of, inner_of, one_faults, tail_of}
use Rattle.form_reader.specs.Texts.{define_faults, form_faults, missing_faults, title_faults, title_of, titled_faults}
use Rattle.form_reader.specs.Words.{is_of}
use Rattle.name_tables.proofs.NoFaultLemmas.{chosen}

pub one_name : (place : ℕ) (ts : Trees) → one_faults Name place ts ≡ []
    → is_name (head_of ts) ≡ true
one_name place nothing e = absurd (cc)
one_name place (word text at rest) e =
    (chosen (is_of Name text) (end_faults rest) (shape at) [] e).0
one_name place (list items at rest) e = absurd (cc)

titled_name : (text : TextKind) (place : ℕ) (ts : Trees) → title_faults text place ts ≡ []
    → is_name (head_of (tail_of ts)) ≡ true
titled_name text place nothing e = absurd (cc)
titled_name text place (word w at rest) e =
    one_name place rest ((chosen (bytes_eq w (title_of text)) (one_faults Name place rest) (shape at) [] e).1)
titled_name text place (list items at rest) e = absurd (cc)

-- a name, and items without form faults
pub record IsTitled (text : TextKind) (ts : Trees) : Type 0 where
  pub named : is_name (head_of (tail_of (inner_of (tail_of ts)))) ≡ true
  pub items : items_faults text (tail_of (tail_of ts)) ≡ []

titled_rest : (text : TextKind) (place : ℕ) (w : List ℕ) (at : ℕ) (ts : Trees)
    → titled_faults text place ts ≡ [] → IsTitled text (word w at ts)
titled_rest text place w at nothing e = absurd (cc)
titled_rest text place w at (word w' at' rest) e = absurd (cc)
titled_rest text place w at (list items at' rest) e =
    let both = none_both (title_faults text at' items) (items_faults text rest) e in
    record { named = titled_name text at' items both.0; items = both.1 }

defined : (text : TextKind) (place : ℕ) (ts : Trees) → define_faults text place ts ≡ []
    → IsTitled text ts
defined text place nothing e = absurd (cc)
defined text place (word w at rest) e =
    titled_rest text place w at rest ((chosen (bytes_eq w (codes "define")) (titled_faults text place rest) (shape at) [] e).1)
defined text place (list items at rest) e = absurd (cc)

pub titled : (text : TextKind) (items : Trees) (at : ℕ) (rest : Trees)
    → form_faults text (list items at rest) ≡ [] → IsTitled text items
titled text items at rest e = defined text at items ((none_both (missing_faults text at items) (define_faults text at items) e).1)
