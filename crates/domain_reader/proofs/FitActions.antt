-- The actions of a domain without faults are fit.
use Rattle.std.proofs.Common.{◌≡◌, ℕ, zero, suc, ◌+◌, ◌-◌, ◌≤◌, true, false, ◌&&◌, not, nat_le, if◌then◌else◌, List, [], ◌∷◌, ◌++◌, codes, map, length, refl, sym, ap, ◌∙◌, subst, arith, inl, inr, le-leb}
use Rattle.std.specs.List.{list_all}
use Rattle.std.specs.Str.{bytes_eq}
use Rattle.std.proofs.lemmas.Bool.{and_from, not-true, or_cases}
use Rattle.sexpr_text.specs.Trees.{Trees, nothing, word, list, depth, size}
use Rattle.lemmas.proofs.Members.{distinct_nil, append_nil_first, append_nil_second}
use Rattle.lemmas.proofs.ListTests.{all_append}
use Rattle.task_model.specs.Fit.{AreNames, are_fit_effects, are_fit_params, are_places, is_fit_action, is_fit_condition, is_fit_pattern, is_name, is_short}
use Rattle.lemmas.specs.Lists.{AreDistinct, numbers_from}
use Rattle.task_model.specs.declared.domain.Action.{Action}
use Rattle.task_model.specs.declared.domain.Domain as domain
use Rattle.task_model.specs.declared.domain.Pattern.{Pattern}
use Rattle.form_reader.proofs.RowsLemmas.{tail_small, inner_small, tail_shallow}
use Rattle.form_reader.specs.declared.fault.Fault.{Fault}
use Rattle.form_reader.specs.declared.fault.InputKind.TheVariants.{Duplicate}
use Rattle.form_reader.specs.declared.groups.Spot.TheVariants.{Start}
use Rattle.form_reader.specs.declared.items.Item.{Item}
use Rattle.form_reader.specs.declared.items.Item.TheVariants as item
use Rattle.form_reader.specs.declared.items.TextKind.TheVariants as text
use Rattle.form_reader.specs.declared.keys.Key.{Key}
use Rattle.form_reader.specs.declared.keys.Key.TheVariants as key
use Rattle.form_reader.specs.declared.keys.Keyed.TheVariants as keyed
use Rattle.form_reader.specs.Faults.{shape, unsupported}
use Rattle.form_reader.specs.Items.{item_of}
use Rattle.form_reader.specs.Keys.{action_key_of, by_key, key_of, keyed_faults, keys_faults, value_faults, valued_faults}
use Rattle.form_reader.specs.Rows.{head_of, inner_of, tail_of}
use Rattle.name_tables.specs.Names.{has_name, with_table_name}
use Rattle.name_tables.specs.Variables.{doubles_names, named_sorts, named_words, scope_names, types_names}
use Rattle.name_tables.specs.declared.vocabulary.Vocabulary.{Vocabulary}
use Rattle.name_tables.proofs.FitConditions.{condition_fits}
use Rattle.name_tables.proofs.FitGroups.{few_places, scope_bound, sorts_as_long}
use Rattle.name_tables.proofs.FitTerms.{AreFilled, Knows, filled_first}
use Rattle.name_tables.proofs.NoFaultLemmas.{chosen, met, some_fault}
use Rattle.name_tables.proofs.NamesLemmas.{name_there, same_name, has_with}
use Rattle.domain_reader.proofs.FitItems.{AreClean, IsClean}
use Rattle.name_tables.proofs.TextsLemmas.{inner_shallow}
use Rattle.domain_reader.proofs.FitEffects.{ArePlain, IsDone, effect_done, is_free}
use Rattle.domain_reader.proofs.FitNames.{known_with}
use Rattle.domain_reader.specs.Domains.{action_of, actions_of, done_by, nothing_done}
use Rattle.domain_reader.specs.Names.{action_names, is_action, keys_names, once, parameters_of, second_actions, seen_once, value_names}
use Rattle.name_tables.specs.Texts.{value_at, repeated_names}

-- ---- the value of a key

behind_key : (k : Key) (at : ℕ) (behind : Key → List Fault) → by_key k at behind ≡ []
    → behind k ≡ []
behind_key key.Unknown at behind e = absurd (some_fault (unsupported at) [] e)
behind_key key.NoKey at behind e = absurd (some_fault (shape at) [] e)
behind_key key.Parameters at behind e = e
behind_key key.Precondition at behind e = e
behind_key key.Effect at behind e = e
behind_key key.Inputs at behind e = e
behind_key key.Outputs at behind e = e
behind_key key.Domain at behind e = e
behind_key key.Certified at behind e = e
behind_key key.Value at behind e = e

-- a value without faults, wherever it stands
record IsValue (v : Vocabulary) (heads scope : List (List ℕ)) (k : Key) (items : Trees) : Type 0 where
  place : ℕ
  formed : value_faults k place items ≡ []
  named : value_names v heads scope k place items ≡ []

module _ (v : Vocabulary) (heads scope : List (List ℕ)) (name : List ℕ) (k : Key)
    (missing : IsValue v heads scope k nothing) (known : key_of keyed.Action name ≡ k) where
  key_value : (place : ℕ) (before : Key) (keys : Trees) → keys_faults keyed.Action place keys ≡ []
      → keys_names v heads scope before keys ≡ [] → IsValue v heads scope k (value_at name keys)
  key_value place before nothing f n = missing
  key_value place before (list items at rest) f n = absurd (some_fault (shape at) [] f)
  key_value place before (word text at nothing) f n =
      absurd (some_fault (shape place) [] (behind_key (key_of keyed.Action text) at (λ j. valued_faults keyed.Action place j nothing) f))
  key_value place before (word text at (word w there rest)) f n =
      absurd (some_fault (shape there) []
      (behind_key (key_of keyed.Action text) at (λ j. valued_faults keyed.Action place j (word w there rest)) f))
  key_value place before (word text at (list items there rest)) f n =
      let own = key_of keyed.Action text in
      let valued : value_faults own there items ++ keys_faults keyed.Action place rest ≡ [] =
      behind_key own at (λ j. valued_faults keyed.Action place j (list items there rest)) f in
      let more = key_value place own rest (append_nil_second (value_faults own there items) (keys_faults keyed.Action place rest) valued)
      (append_nil_second (value_names v heads scope own there items) (keys_names v heads scope own rest) n) in
      elim (bytes_eq text name) as (λ b. bytes_eq text name ≡ b → IsValue v heads scope k (if b then items else value_at name rest)) [
        | true ↦ λ e.
            let same : own ≡ k = ap (key_of keyed.Action) (same_name text name e) ∙ known in
            record {
              place = there;
              formed = subst (λ j. value_faults j there items ≡ []) same
                  (append_nil_first (value_faults own there items) (keys_faults keyed.Action place rest) valued);
              named = subst (λ j. value_names v heads scope j there items ≡ []) same
                  (append_nil_first (value_names v heads scope own there items) (keys_names v heads scope own rest) n);
            }
        | false ↦ λ _. more
      ] refl

value_small : (name : List ℕ) (keys : Trees) → size (value_at name keys) ≤ size keys
value_small name nothing = omega arith
value_small name (list items at rest) = omega (arith, value_small name rest)
value_small name (word text at rest) =
    elim (bytes_eq text name) as (λ b. size (if b then inner_of rest else value_at name rest) ≤ length text + size rest) [
      | true ↦ omega (arith, inner_small rest)
      | false ↦ omega (arith, value_small name rest)
    ]

value_shallow : (name : List ℕ) (keys : Trees) → depth (value_at name keys) ≤ depth keys - 1
value_shallow name nothing = omega arith
value_shallow name (list items at rest) = omega (arith, value_shallow name rest)
value_shallow name (word text at rest) =
    elim (bytes_eq text name) as (λ b. depth (if b then inner_of rest else value_at name rest) ≤ depth rest - 1) [
      | true ↦ omega (arith, inner_shallow rest)
      | false ↦ omega (arith, value_shallow name rest)
    ]

-- ---- an action without faults

-- what stands behind `:action` has no faults
record IsAction (v : Vocabulary) (heads : List (List ℕ)) (rest : Trees) : Type 0 where
  named : is_name (head_of rest) ≡ true
  place : ℕ
  keys_formed : keys_faults keyed.Action place (tail_of rest) ≡ []
  keys_named : keys_names v heads (named_words Start (parameters_of (tail_of rest))) key.NoKey (tail_of rest) ≡ []

action_by : (v : Vocabulary) (heads : List (List ℕ)) (place : ℕ) (rest : Trees)
    → keyed_faults keyed.Action place rest ≡ [] → action_names v heads (tail_of rest) ≡ []
    → IsAction v heads rest
action_by v heads place nothing f n = absurd (some_fault (shape place) [] f)
action_by v heads place (list items at rest) f n = absurd (some_fault (shape at) [] f)
action_by v heads place (word text at rest) f n =
    let parts = chosen (is_name text) (keys_faults keyed.Action place rest) (shape at) [] f in
    record {
      named = parts.0;
      place = place;
      keys_formed = parts.1;
      keys_named =
          append_nil_second (repeated_names [] rest) (keys_names v heads (named_words Start (parameters_of rest)) key.NoKey rest) n;
    }

clean_action : (v : Vocabulary) (heads : List (List ℕ)) (it : Item) (rest : Trees)
    → is_action it ≡ true → IsClean v heads it rest → IsAction v heads rest
clean_action v heads item.Action rest e c = action_by v heads c.place rest c.formed c.named
clean_action v heads _ rest e c = absurd (cc)

parameters_key : key_of keyed.Action (codes ":parameters") ≡ key.Parameters
unfolding action_key_of
parameters_key = refl

precondition_key : key_of keyed.Action (codes ":precondition") ≡ key.Precondition
unfolding action_key_of
precondition_key = refl

effect_key : key_of keyed.Action (codes ":effect") ≡ key.Effect
unfolding action_key_of
effect_key = refl

effects_fit : (d : domain.Domain) (filled : List ℕ) (patterns : List Pattern)
    → length patterns ≤ 8388608
    → list_all (is_fit_pattern d (length d.constants) filled) patterns ≡ true
    → list_all (is_free d) patterns ≡ true → are_fit_effects d filled patterns ≡ true
effects_fit d filled patterns few fit free =
    and_from (is_short patterns && list_all (is_fit_pattern d (length d.constants) filled) patterns) (list_all (is_free d) patterns)
    (and_from (is_short patterns) (list_all (is_fit_pattern d (length d.constants) filled) patterns)
    (le-leb (length patterns) 8388608 few) fit) free

module _ (v : Vocabulary) (d : domain.Domain) (knows : Knows v d (length d.constants))
    (heads : List (List ℕ)) (plain : ArePlain v d heads) where
  action_fits : (rest : Trees) → IsAction v heads rest → size rest ≤ 4194304 → depth rest ≤ 64
      → is_fit_action d (action_of v rest) ≡ true
  action_fits rest a small shallow =
      let keys = tail_of rest in
      let vars = parameters_of keys in
      let scope = named_words Start vars in
      let params = named_sorts v.sorts Start 0 vars in
      let filled = numbers_from 0 (length params) in
      let given =
      key_value v heads scope (codes ":parameters") key.Parameters
      (record { place = 0; formed = refl; named = refl }) parameters_key a.place key.NoKey keys a.keys_formed a.keys_named in
      let needed =
      key_value v heads scope (codes ":precondition") key.Precondition
      (record { place = 0; formed = refl; named = refl }) precondition_key a.place key.NoKey keys a.keys_formed a.keys_named in
      let changed =
      key_value v heads scope (codes ":effect") key.Effect
      (record { place = 0; formed = refl; named = refl }) effect_key a.place key.NoKey keys a.keys_formed a.keys_named in
      let types = types_names v.sorts Start vars in
      let doubles = doubles_names [] Start vars in
      let counts = scope_names 0 Start vars in
      let long : length params ≡ length scope = sorts_as_long v.sorts vars in
      let few : length scope ≤ 16 =
      omega (arith, scope_bound 0 Start vars (omega arith) (append_nil_second (types ++ doubles) counts given.named)) in
      let places : are_places (length d.sorts) params ≡ true =
      subst (λ n. are_places n params ≡ true) (sym knows.sorts)
      (few_places v.sorts knows.typed vars
      (omega (arith, few)) (append_nil_first types doubles (append_nil_first (types ++ doubles) counts given.named))) in
      let slots : AreFilled filled (length scope) = subst (AreFilled filled) long (filled_first (length params)) in
      let condition = value_at (codes ":precondition") keys in
      let effect = value_at (codes ":effect") keys in
      let fit_condition : is_fit_condition d (length d.constants) filled (action_of v rest).condition ≡ true =
      condition_fits v d (length d.constants) knows scope filled slots few needed.place condition
      (omega (arith, tail_small rest, value_small (codes ":precondition") keys))
      (omega (arith, tail_shallow rest, value_shallow (codes ":precondition") keys)) needed.formed needed.named in
      let done : IsDone d filled (0 + size effect) (done_by v keys) =
      effect_done v d knows heads scope filled slots plain 0 changed.place nothing_done effect changed.formed changed.named
      (record {
        adds = refl;
        free_adds = refl;
        few_adds = omega arith;
        deletes = refl;
        free_deletes = refl;
        few_deletes = omega arith;
        costs = refl;
        few_costs = omega arith;
      }) in
      let bound : 0 + size effect ≤ 4194304 = omega (arith, tail_small rest, value_small (codes ":effect") keys) in
      let fit_params : are_fit_params d params ≡ true =
      and_from (nat_le (length params) 16) (are_places (length d.sorts) params)
      (le-leb (length params) 16 (omega (arith, few, long))) places in
      let fit_adds : are_fit_effects d filled (done_by v keys).adds ≡ true =
      effects_fit d filled (done_by v keys).adds (omega (arith, done.few_adds, bound)) done.adds done.free_adds in
      let fit_deletes : are_fit_effects d filled (done_by v keys).deletes ≡ true =
      effects_fit d filled (done_by v keys).deletes (omega (arith, done.few_deletes, bound)) done.deletes done.free_deletes in
      let few_costs : nat_le (length (done_by v keys).costs) 262144 ≡ true =
      le-leb (length (done_by v keys).costs) 262144 (omega (arith, done.few_costs, bound)) in
      and_from _ _ (and_from _ _ (and_from _ _ (and_from _ _ (and_from _ _ fit_params fit_condition) fit_adds) fit_deletes) few_costs)
      done.costs

  here_fits : (it : Item) (rest : Trees) → IsClean v heads it rest → size rest ≤ 4194304
      → depth rest ≤ 64
      → list_all (is_fit_action d) (if is_action it then action_of v rest ∷ [] else []) ≡ true
  here_fits it rest c small shallow =
      elim (is_action it) as (λ b. is_action it ≡ b → list_all (is_fit_action d) (if b then action_of v rest ∷ [] else []) ≡ true) [
        | true ↦ λ e. and_from (is_fit_action d (action_of v rest)) true
            (action_fits rest (clean_action v heads it rest e c) small shallow) refl
        | false ↦ λ _. refl
      ] refl

  pub actions_fit : (body : Trees) → AreClean v heads body → size body ≤ 4194304 → depth body ≤ 64
      → list_all (is_fit_action d) (actions_of v body) ≡ true
  actions_fit nothing c small shallow = refl
  actions_fit (word w at rest) c small shallow = actions_fit rest c (omega arith) shallow
  actions_fit (list items at rest) c small shallow =
      let it = item_of text.Domain (head_of items) in
      all_append (is_fit_action d) (if is_action it then action_of v (tail_of items) ∷ [] else [])
      (actions_of v rest) (here_fits it (tail_of items) c.0 (omega (arith, tail_small items)) (omega (arith, tail_shallow items)))
      (actions_fit rest c.1 (omega arith) (omega arith))

pub actions_long : (v : Vocabulary) (body : Trees) → length (actions_of v body) ≤ size body
actions_long v nothing = omega arith
actions_long v (word w at rest) = omega (arith, actions_long v rest)
actions_long v (list items at rest) =
    elim (is_action (item_of text.Domain (head_of items))) as
    (λ b. length ((if b then action_of v (tail_of items) ∷ [] else []) ++ actions_of v rest) ≤ size items + 2 + size rest) [
      | true ↦ omega (arith, actions_long v rest)
      | false ↦ omega (arith, actions_long v rest)
    ]

-- ---- the names of actions

abbrev names : List Action → List (List ℕ)
names = map (λ (a : Action). a.name)

-- Each name is one, none of them stands among those seen, and none stands twice.
pub record AreNew (seen new : List (List ℕ)) : Type 0 where
  pub each : list_all is_name new ≡ true
  pub absent : (n : List ℕ) → has_name n seen ≡ true → has_name n new ≡ true → ⊥
  pub distinct : AreDistinct new

distinct_first : (n : List ℕ) (ns : List (List ℕ)) → (has_name n ns ≡ true → ⊥) → AreDistinct ns
    → AreDistinct (n ∷ ns)
distinct_first n ns absent d zero zero x e f = refl
distinct_first n ns absent d zero (suc j) x e f = absurd (absent (name_there n ns j (f ∙ sym e)))
distinct_first n ns absent d (suc i) zero x e f = absurd (absent (name_there n ns i (e ∙ sym f)))
distinct_first n ns absent d (suc i) (suc j) x e f = ap suc (d i j x e f)

new_first : (seen : List (List ℕ)) (n : List ℕ) (ns : List (List ℕ)) → is_name n ≡ true
    → has_name n seen ≡ false → AreNew (with_table_name seen n) ns → AreNew seen (n ∷ ns)
new_first seen n ns one fresh new = record {
  each = and_from (is_name n) (list_all is_name ns) one new.each;
  absent = λ m h k. elim (or_cases (bytes_eq m n) (has_name m ns) k) [
    | inl e ↦ let there : has_name n seen ≡ true = subst (λ w. has_name w seen ≡ true) (same_name m n e) h in
        let clash : true ≡ false = sym there ∙ fresh in cc
    | inr e ↦ new.absent m (known_with seen n m h) e
  ];
  distinct = distinct_first n ns (λ h. new.absent n (has_with seen n) h) new.distinct;
}

new_names : (v : Vocabulary) (heads seen : List (List ℕ)) (body : Trees) → AreClean v heads body
    → second_actions seen body ≡ [] → AreNew seen (names (actions_of v body))
new_names v heads seen nothing c n =
    record { each = refl; absent = λ m h k. absurd (cc); distinct = distinct_nil }
new_names v heads seen (word w at rest) c n = new_names v heads seen rest c n
new_names v heads seen (list items at rest) c n =
    let it = item_of text.Domain (head_of items) in
    let name = head_of (tail_of items) in
    elim (is_action it) as (λ b.
    is_action it ≡ b → once b name at seen ++ second_actions (seen_once b name seen) rest ≡ []
    → AreNew seen (names ((if b then action_of v (tail_of items) ∷ [] else []) ++ actions_of v rest))) [
      | true ↦ λ e m.
          let own = once true name at seen in
          let fresh : has_name name seen ≡ false =
          not-true (has_name name seen)
          (met (not (has_name name seen)) Duplicate at (append_nil_first own (second_actions (with_table_name seen name) rest) m)) in
          new_first seen name (names (actions_of v rest)) (clean_action v heads it (tail_of items) e c.0).named fresh
          (new_names v heads (with_table_name seen name) rest c.1 (append_nil_second own (second_actions (with_table_name seen name) rest) m))
      | false ↦ λ e m. new_names v heads seen rest c.1 m
    ] refl n

pub actions_named : (v : Vocabulary) (heads : List (List ℕ)) (body : Trees) → AreClean v heads body
    → second_actions [] body ≡ [] → AreNames (map (λ (a : Action). a.name) (actions_of v body))
actions_named v heads body c n =
    let new = new_names v heads [] body c n in record { each = new.each; distinct = new.distinct }
