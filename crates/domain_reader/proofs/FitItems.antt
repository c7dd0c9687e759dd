-- The items of a domain without faults, and how large they are.
use Rattle.std.proofs.Common.{◌≡◌, ℕ, true, List, [], codes, refl}
use Rattle.std.specs.Str.{bytes_eq}
use Rattle.lemmas.proofs.Members.{append_nil_first, append_nil_second}
use Rattle.sexpr_text.specs.Trees.{Trees, nothing, word, list}
use Rattle.task_model.specs.Fit.{is_name}
use Rattle.form_reader.specs.declared.items.Item.{Item}
use Rattle.form_reader.specs.declared.items.TextKind.TheVariants.{Domain}
use Rattle.form_reader.specs.declared.words.WordSort.TheVariants.{Name}
use Rattle.form_reader.specs.Faults.{shape}
use Rattle.form_reader.specs.Items.{body_faults, item_faults, item_of, items_faults}
use Rattle.form_reader.specs.Rows.{head_of, one_faults, tail_of}
use Rattle.form_reader.specs.Texts.{define_faults, form_faults, title_faults, title_of, titled_faults}
use Rattle.name_tables.specs.declared.vocabulary.Vocabulary.{Vocabulary}
use Rattle.name_tables.proofs.NoFaultLemmas.{chosen, some_fault}
use Rattle.name_tables.proofs.TitleLemmas.{one_name}
use Rattle.domain_reader.specs.Names.{body_names, items_names}
use Rattle.domain_reader.specs.Tables.{name_of}
use Rattle.name_tables.specs.Texts.{body_of}

-- ---- whole texts

pub record IsFormed (t : Trees) : Type 0 where
  pub items : items_faults Domain (body_of t) ≡ []
  pub named : is_name (name_of t) ≡ true

-- the name alone behind the title
title_named : (place : ℕ) (ts : Trees) → title_faults Domain place ts ≡ []
    → is_name (head_of (tail_of ts)) ≡ true
title_named place nothing e = absurd (some_fault (shape place) [] e)
title_named place (list items at rest) e = absurd (some_fault (shape at) [] e)
title_named place (word w at rest) e =
    one_name place rest (chosen (bytes_eq w (title_of Domain)) (one_faults Name place rest) (shape at) [] e).1

titled_formed : (place at : ℕ) (ts rest : Trees) (w : List ℕ) (here : ℕ)
    → titled_faults Domain place ts ≡ [] → IsFormed (list (word w here ts) at rest)
titled_formed place at nothing rest w here e = absurd (some_fault (shape place) [] e)
titled_formed place at (word v there more) rest w here e = absurd (some_fault (shape there) [] e)
titled_formed place at (list items there more) rest w here e = record {
  items = append_nil_second (title_faults Domain there items) (items_faults Domain more) e;
  named = title_named there items (append_nil_first (title_faults Domain there items) (items_faults Domain more) e);
}

define_formed : (at : ℕ) (ts rest : Trees) → define_faults Domain at ts ≡ []
    → IsFormed (list ts at rest)
define_formed at nothing rest e = absurd (some_fault (shape at) [] e)
define_formed at (list items there more) rest e = absurd (some_fault (shape there) [] e)
define_formed at (word w there more) rest e =
    titled_formed at at more rest w there (chosen (bytes_eq w (codes "define")) (titled_faults Domain at more) (shape there) [] e).1

pub text_formed : (t : Trees) → (t ≡ nothing → ⊥) → form_faults Domain t ≡ [] → IsFormed t
text_formed nothing there e = absurd (there refl)
text_formed (word w at rest) there e = absurd (some_fault (shape at) [] e)
text_formed (list items at rest) there e = define_formed at items rest e

-- ---- items

pub record IsClean (v : Vocabulary) (heads : List (List ℕ)) (it : Item) (rest : Trees) : Type 0 where
  pub place : ℕ
  pub word_place : ℕ
  pub formed : body_faults it place word_place rest ≡ []
  pub named : body_names v heads it rest ≡ []

abbrev pub AreClean : Vocabulary → List (List ℕ) → Trees → Type 0
AreClean v heads nothing = Unit {0}
AreClean v heads (word w at rest) = AreClean v heads rest
AreClean v heads (list items at rest) =
    IsClean v heads (item_of Domain (head_of items)) (tail_of items) × AreClean v heads rest

item_clean : (v : Vocabulary) (heads : List (List ℕ)) (place : ℕ) (items : Trees)
    → item_faults Domain place items ≡ []
    → body_names v heads (item_of Domain (head_of items)) (tail_of items) ≡ []
    → IsClean v heads (item_of Domain (head_of items)) (tail_of items)
item_clean v heads place nothing f n = absurd (some_fault (shape place) [] f)
item_clean v heads place (list items at rest) f n = absurd (some_fault (shape at) [] f)
item_clean v heads place (word w at rest) f n =
    record { place = place; word_place = at; formed = f; named = n }

pub items_clean : (v : Vocabulary) (heads : List (List ℕ)) (ts : Trees)
    → items_faults Domain ts ≡ [] → items_names v heads ts ≡ [] → AreClean v heads ts
items_clean v heads nothing f n = tt
items_clean v heads (word w at rest) f n =
    items_clean v heads rest (absurd (some_fault (shape at) [] f)) n
items_clean v heads (list items at rest) f n =
    let own = body_names v heads (item_of Domain (head_of items)) (tail_of items) in (
      item_clean v heads at items (append_nil_first (item_faults Domain at items) (items_faults Domain rest) f)
          (append_nil_first own (items_names v heads rest) n),
      items_clean v heads rest (append_nil_second (item_faults Domain at items) (items_faults Domain rest) f)
          (append_nil_second own (items_names v heads rest) n),
    )
