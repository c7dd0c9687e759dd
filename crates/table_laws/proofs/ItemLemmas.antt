-- What the first word of an item or of an effect says, and items in a row.
use Rattle.std.proofs.Common.{◌≡◌, ℕ, true, false, cond, List, [], ◌++◌, refl, sym, ap, subst, ◌∙◌, ◌⊎◌, inl, inr, Contains, codes}
use Rattle.std.proofs.lemmas.Bool.{false≢true}
use Rattle.std.proofs.lemmas.List.Elements.{Contains-append_cases, Contains-append_left, Contains-append_right}
use Rattle.std.specs.Str.{bytes_eq}
use Rattle.lemmas.proofs.Ascending.{contains_none}
use Rattle.sexpr_text.specs.Trees.{Trees, nothing, word, list}
use Rattle.form_reader.specs.Items.{domain_item_of, other_item, problem_item_of, stream_item_of}
use Rattle.form_reader.specs.Words.{effect_head_of, is_keyword, is_refused_effect}
use Rattle.form_reader.specs.declared.items.Item.{Item}
use Rattle.form_reader.specs.declared.items.Item.TheVariants as item
use Rattle.form_reader.specs.declared.words.EffectHead.{EffectHead}
use Rattle.form_reader.specs.declared.words.EffectHead.TheVariants as effect
use Rattle.name_tables.proofs.NamesLemmas.{name_itself, same_name}
use Rattle.table_laws.specs.Changed.{BeginsAtom}
use Rattle.table_laws.specs.Rows.{HasList}

-- ---- the items of a domain

-- the word of an item that declares something
abbrev pub IsKeyOf : Item → List ℕ → Type 0
IsKeyOf item.Types w = w ≡ codes ":types"
IsKeyOf item.Constants w = w ≡ codes ":constants"
IsKeyOf item.Objects w = w ≡ codes ":objects"
IsKeyOf item.Predicates w = w ≡ codes ":predicates"
IsKeyOf item.Functions w = w ≡ codes ":functions"
IsKeyOf item.Action w = w ≡ codes ":action"
IsKeyOf item.Stream w = w ≡ codes ":stream"
IsKeyOf item.CostStream w = w ≡ codes ":cost-stream"
IsKeyOf i w = Unit {0}

by_test : (w key : List ℕ) (x y : Item) → (bytes_eq w key ≡ true → IsKeyOf x w) → IsKeyOf y w
    → IsKeyOf (cond (bytes_eq w key) x y) w
by_test w key x y first second =
    elim (bytes_eq w key) as (λ b. bytes_eq w key ≡ b → IsKeyOf (cond b x y) w) [
      | true ↦ λ e. first e
      | false ↦ λ _. second
    ] refl

other_key : (w : List ℕ) → IsKeyOf (other_item w) w
other_key w = elim (is_keyword w) as (λ b. IsKeyOf (cond b item.Unknown item.NoItem) w) [ true ↦ tt | false ↦ tt ]

module _ (w : List ℕ) where
  abbrev from_action : Item
  from_action = cond (bytes_eq w (codes ":action")) item.Action (other_item w)

  abbrev from_derived : Item
  from_derived = cond (bytes_eq w (codes ":derived")) item.Derived from_action

  abbrev from_functions : Item
  from_functions = cond (bytes_eq w (codes ":functions")) item.Functions from_derived

  abbrev from_predicates : Item
  from_predicates = cond (bytes_eq w (codes ":predicates")) item.Predicates from_functions

  abbrev from_constants : Item
  from_constants = cond (bytes_eq w (codes ":constants")) item.Constants from_predicates

  abbrev from_types : Item
  from_types = cond (bytes_eq w (codes ":types")) item.Types from_constants

pub key_of_domain : (w : List ℕ) → IsKeyOf (domain_item_of w) w
unfolding domain_item_of
key_of_domain w =
    by_test w (codes ":requirements") item.Requirements (from_types w) (λ e. tt)
    (by_test w (codes ":types") item.Types (from_constants w) (λ e. same_name w (codes ":types") e)
    (by_test w (codes ":constants") item.Constants (from_predicates w) (λ e. same_name w (codes ":constants") e)
    (by_test w (codes ":predicates") item.Predicates (from_functions w) (λ e. same_name w (codes ":predicates") e)
    (by_test w (codes ":functions") item.Functions (from_derived w) (λ e. same_name w (codes ":functions") e)
    (by_test w (codes ":derived") item.Derived (from_action w) (λ e. tt)
    (by_test w (codes ":action") item.Action (other_item w) (λ e. same_name w (codes ":action") e) (other_key w)))))))

pub types_item : domain_item_of (codes ":types") ≡ item.Types
unfolding domain_item_of
types_item = refl

pub predicates_item : domain_item_of (codes ":predicates") ≡ item.Predicates
unfolding domain_item_of
predicates_item = refl

pub functions_item : domain_item_of (codes ":functions") ≡ item.Functions
unfolding domain_item_of
functions_item = refl

pub action_item : domain_item_of (codes ":action") ≡ item.Action
unfolding domain_item_of
action_item = refl

pub constants_item : domain_item_of (codes ":constants") ≡ item.Constants
unfolding domain_item_of
constants_item = refl

-- ---- the items of a problem

module _ (w : List ℕ) where
  abbrev from_metric : Item
  from_metric = cond (bytes_eq w (codes ":metric")) item.Metric (other_item w)

  abbrev from_goal : Item
  from_goal = cond (bytes_eq w (codes ":goal")) item.Goal from_metric

  abbrev from_init : Item
  from_init = cond (bytes_eq w (codes ":init")) item.Init from_goal

  abbrev from_objects : Item
  from_objects = cond (bytes_eq w (codes ":objects")) item.Objects from_init

  abbrev from_requirements : Item
  from_requirements = cond (bytes_eq w (codes ":requirements")) item.Requirements from_objects

pub key_of_problem : (w : List ℕ) → IsKeyOf (problem_item_of w) w
unfolding problem_item_of
key_of_problem w =
    by_test w (codes ":domain") item.Domain (from_requirements w) (λ e. tt)
    (by_test w (codes ":requirements") item.Requirements (from_objects w) (λ e. tt)
    (by_test w (codes ":objects") item.Objects (from_init w) (λ e. same_name w (codes ":objects") e)
    (by_test w (codes ":init") item.Init (from_goal w) (λ e. tt)
    (by_test w (codes ":goal") item.Goal (from_metric w) (λ e. tt)
    (by_test w (codes ":metric") item.Metric (other_item w) (λ e. tt) (other_key w))))))

pub objects_item : problem_item_of (codes ":objects") ≡ item.Objects
unfolding problem_item_of
objects_item = refl

-- ---- the items of a stream file

pub key_of_streams : (w : List ℕ) → IsKeyOf (stream_item_of w) w
unfolding stream_item_of
key_of_streams w =
    by_test w (codes ":stream") item.Stream (cond (bytes_eq w (codes ":cost-stream")) item.CostStream (other_item w))
    (λ e. same_name w (codes ":stream") e)
    (by_test w (codes ":cost-stream") item.CostStream (other_item w) (λ e. same_name w (codes ":cost-stream") e) (other_key w))

pub stream_item : stream_item_of (codes ":stream") ≡ item.Stream
unfolding stream_item_of
stream_item = refl

pub cost_stream_item : stream_item_of (codes ":cost-stream") ≡ item.CostStream
unfolding stream_item_of
cost_stream_item = refl

-- ---- the head of an effect

abbrev pub IsHeadOf : EffectHead → List ℕ → Type 0
IsHeadOf effect.And w = w ≡ codes "and"
IsHeadOf effect.Not w = w ≡ codes "not"
IsHeadOf effect.Increase w = Unit {0}
IsHeadOf effect.Refused w = Unit {0}
IsHeadOf effect.Atom w = BeginsAtom w

-- what differs isn't the word
not_word : (w key : List ℕ) → bytes_eq w key ≡ false → ¬ (w ≡ key)
not_word w key e same = false≢true (sym e ∙ name_itself w key same)

head_by_test : (w key : List ℕ) (x y : EffectHead) → (bytes_eq w key ≡ true → IsHeadOf x w)
    → (bytes_eq w key ≡ false → IsHeadOf y w) → IsHeadOf (cond (bytes_eq w key) x y) w
head_by_test w key x y first second =
    elim (bytes_eq w key) as (λ b. bytes_eq w key ≡ b → IsHeadOf (cond b x y) w) [
      | true ↦ λ e. first e
      | false ↦ λ e. second e
    ] refl

module _ (w : List ℕ) where
  abbrev from_refused : EffectHead
  from_refused = cond (is_refused_effect w) effect.Refused effect.Atom

  abbrev from_increase : EffectHead
  from_increase = cond (bytes_eq w (codes "increase")) effect.Increase from_refused

  abbrev from_not : EffectHead
  from_not = cond (bytes_eq w (codes "not")) effect.Not from_increase

  atom_head : bytes_eq w (codes "and") ≡ false → bytes_eq w (codes "not") ≡ false
      → bytes_eq w (codes "increase") ≡ false → IsHeadOf from_refused w
  atom_head a n i =
      elim (is_refused_effect w) as (λ b. is_refused_effect w ≡ b → IsHeadOf (cond b effect.Refused effect.Atom) w) [
        | true ↦ λ _. tt
        | false ↦ λ r. record {
          no_and = not_word w (codes "and") a;
          no_not = not_word w (codes "not") n;
          no_increase = not_word w (codes "increase") i;
          allowed = r;
        }
      ] refl

pub head_of_effect : (w : List ℕ) → IsHeadOf (effect_head_of w) w
unfolding effect_head_of
head_of_effect w =
    head_by_test w (codes "and") effect.And (from_not w) (λ e. same_name w (codes "and") e) (λ a.
    head_by_test w (codes "not") effect.Not (from_increase w) (λ e. same_name w (codes "not") e) (λ n.
    head_by_test w (codes "increase") effect.Increase (from_refused w) (λ e. tt) (λ i. atom_head w a n i)))

pub and_head : effect_head_of (codes "and") ≡ effect.And
unfolding effect_head_of
and_head = refl

pub not_head : effect_head_of (codes "not") ≡ effect.Not
unfolding effect_head_of
not_head = refl

other_test : {A : Type 0} (w key : List ℕ) (x y : A) → ¬ (w ≡ key) → cond (bytes_eq w key) x y ≡ y
other_test w key x y differs =
    elim (bytes_eq w key) as (λ b. bytes_eq w key ≡ b → cond b x y ≡ y) [
      | true ↦ λ e. absurd (differs (same_name w key e))
      | false ↦ λ _. refl
    ] refl

pub atom_is_head : (w : List ℕ) → BeginsAtom w → effect_head_of w ≡ effect.Atom
unfolding effect_head_of
atom_is_head w begins =
    other_test w (codes "and") effect.And (from_not w) begins.no_and
    ∙ other_test w (codes "not") effect.Not (from_increase w) begins.no_not
    ∙ other_test w (codes "increase") effect.Increase (from_refused w) begins.no_increase
    ∙ ap (λ b. cond b effect.Refused effect.Atom) begins.allowed

-- ---- lists that items give, one after another

-- What each item gives is listed, in the order of the row.
module _ {A : Type 0} (of : Trees → List A) (rows_of : Trees → List A)
    (at_end : rows_of nothing ≡ [])
    (at_word : (text : List ℕ) (at : ℕ) (rest : Trees) → rows_of (word text at rest) ≡ rows_of rest)
    (at_list : (items : Trees) (at : ℕ) (rest : Trees) → rows_of (list items at rest) ≡ of items ++ rows_of rest) where
  pub from_rows : (t : Trees) (x : A) → Contains (rows_of t) x
      → (items : Trees) × HasList items t × Contains (of items) x
  from_rows nothing x m = absurd (contains_none x (subst (λ xs. Contains xs x) at_end m))
  from_rows (word text at rest) x m = from_rows rest x (subst (λ xs. Contains xs x) (at_word text at rest) m)
  from_rows (list items at rest) x m =
      by (Contains-append_cases (of items) (rows_of rest) x (subst (λ xs. Contains xs x) (at_list items at rest) m))
      (from_rows rest x)
    where
      later : (other : Trees) × HasList other rest × Contains (of other) x
          → (other : Trees) × HasList other (list items at rest) × Contains (of other) x
      later found = (found.0, inr found.1, found.2)

      by : Contains (of items) x ⊎ Contains (rows_of rest) x
          → (Contains (rows_of rest) x → (other : Trees) × HasList other rest × Contains (of other) x)
          → (other : Trees) × HasList other (list items at rest) × Contains (of other) x
      by (inl here) further = (items, inl refl, here)
      by (inr there) further = later (further there)

  pub in_rows : (t items : Trees) (x : A) → HasList items t → Contains (of items) x → Contains (rows_of t) x
  in_rows nothing items x there m = absurd there
  in_rows (word text at rest) items x there m =
      subst (λ xs. Contains xs x) (sym (at_word text at rest)) (in_rows rest items x there m)
  in_rows (list other at rest) items x (inl same) m =
      subst (λ xs. Contains xs x) (sym (at_list other at rest))
      (Contains-append_left (of other) (rows_of rest) x (subst (λ i. Contains (of i) x) same m))
  in_rows (list other at rest) items x (inr there) m =
      subst (λ xs. Contains xs x) (sym (at_list other at rest))
      (Contains-append_right (of other) (rows_of rest) x (in_rows rest items x there m))
