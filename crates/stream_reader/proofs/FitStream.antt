-- A stream without faults is fit.
use Rattle.std.proofs.Common.{◌≡◌, ℕ, ◌+◌, ◌≤◌, Bool, true, false, not, cond, ◌==◌, nat_le, List, [], ◌∷◌, ◌++◌, length, length-append, refl, sym, ap, subst, ◌∙◌, inl, inr, Some, codes, arith}
use Rattle.std.proofs.lemmas.Bool.{and_from, eqb-false, le-leb, not-true}
use Rattle.lemmas.proofs.Members.{append_nil_second, none_both}
use Rattle.sexpr_text.specs.Trees.{Trees, nothing, word, list, size}
use Rattle.task_model.specs.Fit.{IsFitDomain, are_places, is_fit_application, is_fit_stream, is_fit_worth}
use Rattle.lemmas.specs.Lists.{numbers_from}
use Rattle.task_model.specs.declared.domain.Domain.{Domain}
use Rattle.task_model.specs.declared.stream.Stream as stream
use Rattle.task_model.specs.declared.stream.Worth.{Worth}
use Rattle.form_reader.specs.declared.fault.InputKind.TheVariants.{TooMany}
use Rattle.form_reader.specs.declared.groups.Spot.{Spot}
use Rattle.form_reader.specs.declared.groups.Spot.TheVariants.{Start}
use Rattle.form_reader.specs.declared.keys.Key.TheVariants as key
use Rattle.form_reader.specs.declared.keys.Keyed.{Keyed}
use Rattle.form_reader.specs.declared.keys.Keyed.TheVariants as keyed
use Rattle.form_reader.specs.Atoms.{atoms_faults}
use Rattle.form_reader.specs.Keys.{has_word, keys_faults, stream_atoms_faults}
use Rattle.form_reader.specs.Rows.{after_word, head_of, tail_of}
use Rattle.name_tables.specs.Terms.{declared_place, terms_of}
use Rattle.name_tables.specs.Variables.{is_named, named_sorts, named_words, types_names, unless}
use Rattle.name_tables.specs.declared.vocabulary.Vocabulary.{Vocabulary}
use Rattle.name_tables.proofs.FitGroups.{few_places, sorts_as_long}
use Rattle.name_tables.proofs.FitTerms.{AreFilled, filled_first}
use Rattle.name_tables.proofs.NoFaultLemmas.{met}
use Rattle.stream_reader.specs.declared.tables.Scopes.{Scopes}
use Rattle.stream_reader.specs.Atoms.{atoms_names, patterns_of}
use Rattle.stream_reader.specs.Names.{stream_keys_names, ninth_names, stream_variables_names}
use Rattle.stream_reader.specs.Streams.{stream_of}
use Rattle.stream_reader.specs.Tables.{scopes_of}
use Rattle.name_tables.specs.Texts.{value_at}
use Rattle.stream_reader.proofs.FitKeys.{IsThere, IsValue, cost_certified, cost_domain, cost_inputs, cost_outputs, cost_value, find, stream_certified, stream_domain, stream_inputs, stream_outputs}
use Rattle.stream_reader.proofs.FitWorth.{worth_fit}
use Rattle.stream_reader.proofs.TablesDomainLemmas.{AreKnown}
use Rattle.stream_reader.proofs.FitPatterns.{AreGood, atoms_good, patterns_fit, patterns_length}

-- ---- inputs and outputs

ninth_by :
    (b : Bool) (before at : ℕ) (w : List ℕ) (ws : List (List ℕ)) (spot : Spot) (rest : Trees) → before ≤ 8 →
    cond b (unless (not (before == 8)) TooMany at) [] ++ ninth_names (cond b (before + 1) before) spot rest ≡ [] →
    ((n : ℕ) → n ≤ 8 → ninth_names n spot rest ≡ [] → n + length ws ≤ 8) → before + length (cond b (w ∷ ws) ws) ≤ 8
ninth_by false before at w ws spot rest h e more = more before h e
ninth_by true before at w ws spot rest h e more =
    let parts = none_both (unless (not (before == 8)) TooMany at) (ninth_names (before + 1) spot rest) e in
    let room = eqb-false before 8 (not-true (before == 8) (met (not (before == 8)) TooMany at parts.0)) in
    let next = more (before + 1) (omega (arith, room, h)) parts.1 in
    omega (arith, next)

few_words : (before : ℕ) (spot : Spot) (ts : Trees) → before ≤ 8 → ninth_names before spot ts ≡ []
    → before + length (named_words spot ts) ≤ 8
few_words before spot nothing h e = omega arith
few_words before spot (list items at rest) h e = omega arith
few_words before spot (word w at rest) h e =
    ninth_by (is_named spot w) before at w (named_words (after_word spot w) rest)
    (after_word spot w) rest h e (λ n k f. few_words n (after_word spot w) rest k f)

-- at most eight variables, each of a type that is there
record AreFew (v : Vocabulary) (ts : Trees) : Type 0 where
  few : length (named_words Start ts) ≤ 8
  known : types_names v.sorts Start ts ≡ []

few_from : (v : Vocabulary) (ts : Trees) → stream_variables_names v ts ≡ [] → AreFew v ts
few_from v ts e =
    let parts = none_both (types_names v.sorts Start ts) (ninth_names 0 Start ts) e in
    record { few = omega (arith, few_words 0 Start ts (omega arith) parts.1); known = parts.0 }

few_none : (v : Vocabulary) → AreFew v nothing
few_none v = record { few = omega arith; known = refl }

module _ (d : Domain) (v : Vocabulary) (over : IsFitDomain d) (known : AreKnown d v) where
  -- ---- the parts of a stream

  module _ (keys : Trees) (few : size keys ≤ 8388607) where
    abbrev inputs : Trees
    inputs = value_at (codes ":inputs") keys

    abbrev outputs : Trees
    outputs = value_at (codes ":outputs") keys

    abbrev scopes : Scopes
    scopes = scopes_of keys

    abbrev input_sorts : List ℕ
    input_sorts = named_sorts v.sorts Start 0 inputs

    abbrev output_sorts : List ℕ
    output_sorts = named_sorts v.sorts Start 0 outputs

    abbrev input_slots : List ℕ
    input_slots = numbers_from 0 (length input_sorts)

    abbrev all_slots : List ℕ
    all_slots = numbers_from 0 (length input_sorts + length output_sorts)

    input_filled : AreFilled input_slots (length scopes.inputs)
    input_filled =
        subst (λ n. AreFilled (numbers_from 0 n) (length scopes.inputs))
        (sym (sorts_as_long v.sorts inputs)) (filled_first (length scopes.inputs))

    all_filled : AreFilled all_slots (length scopes.all)
    all_filled =
        let long : length input_sorts + length output_sorts ≡ length scopes.all =
        (λ i. sorts_as_long v.sorts inputs i + sorts_as_long v.sorts outputs i)
        ∙ sym (length-append (named_words Start inputs) (named_words Start outputs)) in
        subst (λ n. AreFilled (numbers_from 0 n) (length scopes.all)) (sym long) (filled_first (length scopes.all))

    sorts_fit : (ts : Trees) → AreFew v ts
        → (nat_le (length (named_sorts v.sorts Start 0 ts)) 8 ≡ true)
        × (are_places (length d.sorts) (named_sorts v.sorts Start 0 ts) ≡ true)
    sorts_fit ts are = (
      le-leb (length (named_sorts v.sorts Start 0 ts)) 8 (omega (arith, are.few, sorts_as_long v.sorts ts)),
      subst (λ n. are_places n (named_sorts v.sorts Start 0 ts) ≡ true) known.sorts
          (few_places v.sorts known.some ts (omega (arith, are.few)) are.known),
    )

    -- atoms over these variables, without faults
    record AreAtoms (scope : List (List ℕ)) (filled : List ℕ) (slots : AreFilled filled (length scope)) (ts : Trees) : Type 0 where
      good : AreGood d v over known scope filled slots (patterns_of v scope ts)
      short : length (patterns_of v scope ts) ≤ 8388608

    atoms_from : (scope : List (List ℕ)) (filled : List ℕ) (slots : AreFilled filled (length scope)) (place : ℕ) (ts : Trees)
        → size ts ≤ 8388607 → stream_atoms_faults place ts ≡ []
        → atoms_names v d.roles scope place ts ≡ [] → AreAtoms scope filled slots ts
    atoms_from scope filled slots place ts h e f =
        let formed : atoms_faults place ts ≡ [] = append_nil_second _ (atoms_faults place ts) e in
        record
        { good = atoms_good d v over known scope filled slots place ts formed f; short = omega (arith, patterns_length v scope ts, h) }

    no_atoms : (scope : List (List ℕ)) (filled : List ℕ) (slots : AreFilled filled (length scope))
        → AreAtoms scope filled slots nothing
    no_atoms scope filled slots =
        record { good = record { fit = refl; static = refl }; short = omega arith }

    -- all parts but the function term
    record HaveParts : Type 0 where
      inputs : AreFew v inputs
      outputs : AreFew v outputs
      domain : AreAtoms scopes.inputs input_slots input_filled (value_at (codes ":domain") keys)
      certified : AreAtoms scopes.all all_slots all_filled (value_at (codes ":certified") keys)

    parts_fit : (kind : Keyed) (name : List ℕ) → HaveParts
        → is_fit_worth d (stream_of v kind name keys) ≡ true
        → is_fit_stream d (stream_of v kind name keys) ≡ true
    parts_fit kind name parts worth =
        let ins = sorts_fit inputs parts.inputs in
        let outs = sorts_fit outputs parts.outputs in
        let asked =
        patterns_fit d v over known scopes.inputs input_slots input_filled
        (patterns_of v scopes.inputs (value_at (codes ":domain") keys)) parts.domain.short parts.domain.good in
        let given =
        patterns_fit d v over known scopes.all all_slots all_filled
        (patterns_of v scopes.all (value_at (codes ":certified") keys)) parts.certified.short parts.certified.good in
        and_from _ _ (and_from _ _ (and_from _ _
        (and_from _ _ (and_from _ _ (and_from _ _ (and_from _ _ (and_from _ _ ins.0 outs.0) ins.1) outs.1) asked.0) asked.1) given.0)
        given.1) worth

    -- ---- what the keys give

    few_at : (kind : Keyed) (w : List ℕ) (most : ℕ)
        → IsThere v d.roles scopes kind w key.Inputs most keys → AreFew v (value_at w keys)
    few_at kind w most (inl gone) = subst (AreFew v) (sym gone.nothing) (few_none v)
    few_at kind w most (inr is) = few_from v (value_at w keys) is.named

    few_out : (kind : Keyed) (w : List ℕ) (most : ℕ)
        → IsThere v d.roles scopes kind w key.Outputs most keys → AreFew v (value_at w keys)
    few_out kind w most (inl gone) = subst (AreFew v) (sym gone.nothing) (few_none v)
    few_out kind w most (inr is) = few_from v (value_at w keys) is.named

    domain_at : (kind : Keyed) (w : List ℕ)
        → IsThere v d.roles scopes kind w key.Domain (size keys) keys
        → AreAtoms scopes.inputs input_slots input_filled (value_at w keys)
    domain_at kind w (inl gone) =
        subst (AreAtoms scopes.inputs input_slots input_filled) (sym gone.nothing) (no_atoms scopes.inputs input_slots input_filled)
    domain_at kind w (inr is) =
        atoms_from scopes.inputs input_slots input_filled is.place (value_at w keys) (omega (arith, is.small, few)) is.formed is.named

    certified_at : (kind : Keyed) (w : List ℕ)
        → IsThere v d.roles scopes kind w key.Certified (size keys) keys
        → AreAtoms scopes.all all_slots all_filled (value_at w keys)
    certified_at kind w (inl gone) =
        subst (AreAtoms scopes.all all_slots all_filled) (sym gone.nothing) (no_atoms scopes.all all_slots all_filled)
    certified_at kind w (inr is) =
        atoms_from scopes.all all_slots all_filled is.place (value_at w keys) (omega (arith, is.small, few)) is.formed is.named

    absent_at : (kind : Keyed) (w : List ℕ) (most : ℕ)
        → IsThere v d.roles scopes kind w key.Unknown most keys → value_at w keys ≡ nothing
    absent_at kind w most (inl gone) = gone.nothing
    absent_at kind w most (inr is) = absurd is.real

    -- ---- streams and cost streams

    pub stream_fit : (name : List ℕ) (place : ℕ) → keys_faults keyed.Stream place keys ≡ []
        → stream_keys_names v d.roles scopes keyed.Stream key.NoKey keys ≡ []
        → is_fit_stream d (stream_of v keyed.Stream name keys) ≡ true
    stream_fit name place e f =
        parts_fit keyed.Stream name (record {
          inputs = few_at keyed.Stream (codes ":inputs")
              (size keys) (find v d.roles scopes keyed.Stream (codes ":inputs") key.Inputs key.NoKey place keys stream_inputs e f);
          outputs = few_out keyed.Stream (codes ":outputs")
              (size keys) (find v d.roles scopes keyed.Stream (codes ":outputs") key.Outputs key.NoKey place keys stream_outputs e f);
          domain = domain_at keyed.Stream (codes ":domain")
              (find v d.roles scopes keyed.Stream (codes ":domain") key.Domain key.NoKey place keys stream_domain e f);
          certified =
              certified_at keyed.Stream (codes ":certified")
              (find v d.roles scopes keyed.Stream (codes ":certified") key.Certified key.NoKey place keys stream_certified e f);
        }) refl

    value_there : (w : List ℕ) (most : ℕ) → has_word w keys ≡ true
        → IsThere v d.roles scopes keyed.CostStream w key.Value most keys
        → IsValue v d.roles scopes keyed.CostStream key.Value most (value_at w keys)
    value_there w most has (inl gone) =
        absurd (let no_word : has_word w keys ≡ false = gone.none in cc)
    value_there w most has (inr is) = is

    worth_is : (s : stream.Stream) (worth : Worth) → s.worth ≡ Some worth → s.outputs ≡ []
        → s.certified ≡ []
        → is_fit_application d.functions (length d.constants) (numbers_from 0 (length s.inputs)) worth.func worth.args ≡ true
        → is_fit_worth d s ≡ true
    worth_is s worth e f g h = rw (e, f, g) h

    pub cost_fit : (name : List ℕ) (place : ℕ) → has_word (codes ":value") keys ≡ true
        → keys_faults keyed.CostStream place keys ≡ []
        → stream_keys_names v d.roles scopes keyed.CostStream key.NoKey keys ≡ []
        → is_fit_stream d (stream_of v keyed.CostStream name keys) ≡ true
    cost_fit name place has e f =
        let value =
        value_there (codes ":value") (size keys) has
        (find v d.roles scopes keyed.CostStream (codes ":value") key.Value key.NoKey place keys cost_value e f) in
        let no_outputs : outputs ≡ nothing =
        absent_at keyed.CostStream (codes ":outputs")
        (size keys) (find v d.roles scopes keyed.CostStream (codes ":outputs") key.Unknown key.NoKey place keys cost_outputs e f) in
        let nothing_certified : value_at (codes ":certified") keys ≡ nothing =
        absent_at keyed.CostStream (codes ":certified") (size keys)
        (find v d.roles scopes keyed.CostStream (codes ":certified") key.Unknown key.NoKey place keys cost_certified e f) in
        let term : Trees = value_at (codes ":value") keys in
        parts_fit keyed.CostStream name (record {
          inputs = few_at keyed.CostStream (codes ":inputs")
              (size keys) (find v d.roles scopes keyed.CostStream (codes ":inputs") key.Inputs key.NoKey place keys cost_inputs e f);
          outputs = subst (AreFew v) (sym no_outputs) (few_none v);
          domain = domain_at keyed.CostStream (codes ":domain")
              (find v d.roles scopes keyed.CostStream (codes ":domain") key.Domain key.NoKey place keys cost_domain e f);
          certified = subst (AreAtoms scopes.all all_slots all_filled) (sym nothing_certified) (no_atoms scopes.all all_slots all_filled);
        })
        (worth_is (stream_of v keyed.CostStream name keys)
        (record { func = declared_place v.functions (head_of term); args = terms_of v.objects scopes.inputs (tail_of term) }) refl
        (ap (named_sorts v.sorts Start 0) no_outputs) (ap (patterns_of v scopes.all) nothing_certified)
        (worth_fit d v known scopes.inputs input_slots input_filled value.place term value.formed value.named))
