-- Atoms of streams without faults are fit and static.
use Rattle.std.proofs.Common.{◌≡◌, ℕ, ◌+◌, ◌≤◌, Bool, true, false, not, cond, List, [], ◌∷◌, ◌++◌, length, length-append, refl, sym, ap, ◌∙◌, Some, codes, arith}
use Rattle.std.specs.List.{list_all}
use Rattle.std.specs.Str.{bytes_eq}
use Rattle.std.proofs.lemmas.Bool.{and_from, le-leb}
use Rattle.lemmas.proofs.Members.{none_both}
use Rattle.lemmas.proofs.ListTests.{all_append}
use Rattle.sexpr_text.specs.Trees.{Trees, nothing, word, list, size}
use Rattle.task_model.specs.Fit.{IsFitDomain, are_fit_patterns, are_static_patterns, is_fit_application, is_fit_pattern, is_short, is_static_role}
use Rattle.task_model.specs.Roles.{role_of}
use Rattle.task_model.specs.declared.domain.Domain.{Domain}
use Rattle.task_model.specs.declared.domain.Pattern.{Pattern}
use Rattle.task_model.specs.declared.domain.Role.{Role}
use Rattle.task_model.specs.declared.domain.Role.TheVariants.{Static, Fluent, Derived}
use Rattle.form_reader.specs.declared.fault.InputKind.TheVariants.{EffectOnStatic}
use Rattle.form_reader.specs.declared.words.WordSort.TheVariants.{Predicate, Term}
use Rattle.form_reader.specs.Atoms.{atom_rows_faults, atoms_faults}
use Rattle.form_reader.specs.Rows.{application_faults}
use Rattle.name_tables.specs.Names.{table_place}
use Rattle.name_tables.specs.Terms.{application_names, declared_place, terms_names, terms_of, use_names, width, pattern_of}
use Rattle.name_tables.specs.Variables.{unless}
use Rattle.name_tables.specs.Vocabulary.{arity_of}
use Rattle.name_tables.specs.declared.vocabulary.Vocabulary.{Vocabulary}
use Rattle.name_tables.proofs.FitTerms.{AreFilled, application_fits}
use Rattle.name_tables.proofs.NoFaultLemmas.{met}
use Rattle.name_tables.proofs.NamesUseLemmas.{IsUsable, place_some, usable}
use Rattle.name_tables.proofs.VocabularyLemmas.{listed, role_at, used_inside}
use Rattle.stream_reader.proofs.TablesDomainLemmas.{AreKnown}
use Rattle.stream_reader.specs.Atoms.{stream_atom_names, atom_rows_names, atoms_names, is_changing, patterns_of, role_at as role_found, row_patterns}

-- ---- how many

length_by : (b : Bool) (rows : List Pattern) (atom : Pattern) (n m : ℕ) → length rows ≤ m
    → length (cond b rows (atom ∷ [])) ≤ n + m + 1
length_by true rows atom n m h = omega arith
length_by false rows atom n m h = omega arith

mutual
  rows_length : (v : Vocabulary) (scope : List (List ℕ)) (ts : Trees)
      → length (row_patterns v scope ts) ≤ size ts
  rows_length v scope nothing = omega arith
  rows_length v scope (word w at rest) = omega (arith, rows_length v scope rest)
  rows_length v scope (list items at rest) =
      omega (
        arith,
        length-append (patterns_of v scope items) (row_patterns v scope rest),
        patterns_length v scope items,
        rows_length v scope rest,
      )

  pub patterns_length : (v : Vocabulary) (scope : List (List ℕ)) (ts : Trees)
      → length (patterns_of v scope ts) ≤ size ts + 1
  patterns_length v scope nothing = omega arith
  patterns_length v scope (list items at rest) = omega arith
  patterns_length v scope (word w at rest) =
      length_by (bytes_eq w (codes "and")) (row_patterns v scope rest) (pattern_of v scope (word w at rest)) (length w)
      (size rest) (rows_length v scope rest)

-- ---- each is fit

static_by : (r : Role) → not (is_changing (Some r)) ≡ true → is_static_role r ≡ true
static_by Static e = refl
static_by Fluent e = absurd (cc)
static_by Derived e = absurd (cc)

module _ (d : Domain) (v : Vocabulary) (over : IsFitDomain d) (known : AreKnown d v) (scope : List (List ℕ))
    (filled : List ℕ) (slots : AreFilled filled (length scope)) where
  abbrev is_fit : Pattern → Bool
  is_fit = is_fit_pattern d (length d.constants) filled

  abbrev is_static : Pattern → Bool
  is_static p = is_static_role (role_of d p.pred)

  -- all are fit and static
  pub record AreGood (ps : List Pattern) : Type 0 where
    pub fit : list_all is_fit ps ≡ true
    pub static : list_all is_static ps ≡ true

  none_good : AreGood []
  none_good = record { fit = refl; static = refl }

  more_good : (ps qs : List Pattern) → AreGood ps → AreGood qs → AreGood (ps ++ qs)
  more_good ps qs p q = record { fit = all_append is_fit ps qs p.fit q.fit; static = all_append is_static ps qs p.static q.static }

  atom_static : (w : List ℕ) (count place : ℕ) → IsUsable v.predicates w count
      → unless (not (is_changing (role_found d.roles (table_place w v.predicates.names)))) EffectOnStatic place ≡ []
      → is_static_role (role_of d (declared_place v.predicates w)) ≡ true
  atom_static w count place used e =
      let at = role_at d (declared_place v.predicates w) over.roles (used_inside d.predicates v.predicates w count known.predicates used) in
      let is : role_found d.roles (table_place w v.predicates.names) ≡ Some (role_of d (declared_place v.predicates w)) =
      ap (role_found d.roles) (place_some w v.predicates.names used.there) ∙ at in
      static_by (role_of d (declared_place v.predicates w))
      (ap (λ o. not (is_changing o)) (sym is)
      ∙ met (not (is_changing (role_found d.roles (table_place w v.predicates.names)))) EffectOnStatic place e)

  atom_good : (place : ℕ) (w : List ℕ) (at : ℕ) (rest : Trees)
      → application_faults Predicate Term place (word w at rest) ≡ []
      → stream_atom_names v d.roles scope place (word w at rest) ≡ []
      → AreGood (pattern_of v scope (word w at rest) ∷ [])
  atom_good place w at rest e f =
      let parts =
      none_both (application_names v.predicates v.objects scope place (word w at rest))
      (unless (not (is_changing (role_found d.roles (table_place w v.predicates.names)))) EffectOnStatic place) f in
      let uses = none_both (use_names (arity_of v.predicates w) (width rest) at place) (terms_names v.objects scope rest) parts.0 in
      let applied = application_fits v.predicates v.objects scope filled slots Predicate Term place (word w at rest) e parts.0 in
      let sound : is_fit (pattern_of v scope (word w at rest)) ≡ true =
      (λ i. is_fit_application (listed d.predicates v.predicates known.predicates i)
      (known.objects i) filled (declared_place v.predicates w) (terms_of v.objects scope rest))
      ∙ applied in
      record {
        fit = and_from (is_fit (pattern_of v scope (word w at rest))) true sound refl;
        static = and_from (is_static (pattern_of v scope (word w at rest))) true
            (atom_static w (width rest) place (usable v.predicates w (width rest) at place uses.0) parts.1) refl;
      }

  good_by : (b : Bool) (place : ℕ) (w : List ℕ) (at : ℕ) (rest : Trees)
      → cond b (atom_rows_faults rest) (application_faults Predicate Term place (word w at rest)) ≡ []
      → cond b (atom_rows_names v d.roles scope rest) (stream_atom_names v d.roles scope place (word w at rest)) ≡ []
      → (atom_rows_faults rest ≡ [] → atom_rows_names v d.roles scope rest ≡ [] → AreGood (row_patterns v scope rest))
      → AreGood (cond b (row_patterns v scope rest) (pattern_of v scope (word w at rest) ∷ []))
  good_by true place w at rest e f rows = rows e f
  good_by false place w at rest e f rows = atom_good place w at rest e f

  mutual
    rows_good : (ts : Trees) → atom_rows_faults ts ≡ [] → atom_rows_names v d.roles scope ts ≡ []
        → AreGood (row_patterns v scope ts)
    rows_good nothing e f = none_good
    rows_good (word w at rest) e f = absurd (cc)
    rows_good (list items at rest) e f =
        let forms = none_both (atoms_faults at items) (atom_rows_faults rest) e in
        let names = none_both (atoms_names v d.roles scope at items) (atom_rows_names v d.roles scope rest) f in
        more_good (patterns_of v scope items) (row_patterns v scope rest)
        (atoms_good at items forms.0 names.0) (rows_good rest forms.1 names.1)

    pub atoms_good : (place : ℕ) (ts : Trees) → atoms_faults place ts ≡ []
        → atoms_names v d.roles scope place ts ≡ [] → AreGood (patterns_of v scope ts)
    atoms_good place nothing e f = none_good
    atoms_good place (list items at rest) e f = absurd (cc)
    atoms_good place (word w at rest) e f =
        good_by (bytes_eq w (codes "and")) place w at rest e f (rows_good rest)

  -- few of them
  pub patterns_fit : (ps : List Pattern) → length ps ≤ 8388608 → AreGood ps
      → (are_fit_patterns d (length d.constants) filled ps ≡ true) × (are_static_patterns d ps ≡ true)
  patterns_fit ps few good = (and_from (is_short ps) (list_all is_fit ps) (le-leb (length ps) 8388608 few) good.fit, good.static)
