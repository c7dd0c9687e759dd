-- Items that are gone through: their name faults, and the facts that are held.
use Rattle.std.proofs.Common.{◌≡◌, Bool, true, false, cond, ◌||◌, List, refl, sym, ap, ◌∙◌, ℕ, Option}
use Rattle.std.proofs.lemmas.List.{append-nil}
use Rattle.sexpr_text.specs.Trees.{Trees, nothing, list}
use Rattle.task_model.specs.declared.fact.Fact.{Fact}
use Rattle.task_model.specs.declared.domain.Domain.{Domain}
use Rattle.form_reader.proofs.FaultsFirstLemmas.{first_append}
use Rattle.form_reader.specs.declared.fault.Fault.{Fault}
use Rattle.form_reader.specs.declared.items.Item.{Item}
use Rattle.form_reader.specs.declared.items.TextKind.TheVariants as text
use Rattle.form_reader.specs.Faults.{first}
use Rattle.form_reader.specs.Items.{item_of}
use Rattle.form_reader.specs.Rows.{head_of, tail_of}
use Rattle.name_tables.specs.declared.vocabulary.Vocabulary.{Vocabulary}
use Rattle.problem_reader.specs.Names.{problem_body_names, problem_items_names}
use Rattle.problem_reader.specs.Problems.{facts_with, first_facts, init_of}
use Rattle.problem_reader.specs.Values.{is_init}

-- behind the last item nothing is added
pub held_end : (v : Vocabulary) (begun : Bool) (facts : List Fact)
    → first_facts v begun facts nothing ≡ facts
held_end v true facts = refl
held_end v false facts = append-nil facts

held_by : (v : Vocabulary) (begun here : Bool) (facts : List Fact) (inner rest : Trees)
    → facts_with v begun true facts (cond here inner (init_of rest))
    ≡ first_facts v (begun || here) (facts_with v begun here facts inner) rest
held_by v true here facts inner rest = refl
held_by v false true facts inner rest = refl
held_by v false false facts inner rest = refl

-- one item is gone through
pub held_next : (v : Vocabulary) (begun : Bool) (facts : List Fact) (items rest : Trees) (at : ℕ)
    → first_facts v begun facts (list items at rest)
    ≡ first_facts v (begun || is_init (item_of text.Problem (head_of items)))
    (facts_with v begun (is_init (item_of text.Problem (head_of items))) facts (tail_of items)) rest
held_next v begun facts items rest at =
    held_by v begun (is_init (item_of text.Problem (head_of items))) facts (tail_of items) rest

-- ---- a list in front, whose first word is this item's and which has this behind it

module _ (v : Vocabulary) (left items rest inner : Trees) (at : ℕ) (item : Item) (is : left ≡ list items at rest)
    (named : item ≡ item_of text.Problem (head_of items)) (behind : inner ≡ tail_of items) where
  pub item_checked : (d : Domain) (before after : Option Fault)
      → after ≡ first before (problem_body_names v d item inner)
      → first before (problem_items_names v d left) ≡ first after (problem_items_names v d rest)
  item_checked d before after one =
      ap (λ t. first before (problem_items_names v d t)) is
      ∙ first_append before (problem_body_names v d (item_of text.Problem (head_of items)) (tail_of items))
      (problem_items_names v d rest)
      ∙ (λ i. first (first before (problem_body_names v d (sym named i) (sym behind i)))
      (problem_items_names v d rest))
      ∙ ap (λ f. first f (problem_items_names v d rest)) (sym one)

  pub item_held : (begun : Bool) (old new : List Fact) (now : Bool) → now ≡ (begun || is_init item)
      → new ≡ facts_with v begun (is_init item) old inner
      → first_facts v begun old left ≡ first_facts v now new rest
  item_held begun old new now there held =
      ap (first_facts v begun old) is
      ∙ held_next v begun old items rest at
      ∙ (λ i. first_facts v (begun || is_init (sym named i))
      (facts_with v begun (is_init (sym named i)) old (sym behind i)) rest)
      ∙ (λ i. first_facts v (sym there i) (sym held i) rest)
