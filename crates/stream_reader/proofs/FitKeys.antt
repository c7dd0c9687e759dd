-- The values of keys without faults.
use Rattle.std.proofs.Common.{◌≡◌, ℕ, ◌≤◌, Bool, true, false, cond, ◌||◌, List, [], refl, sym, ap, subst, ◌∙◌, ◌⊎◌, inl, inr, codes, arith}
use Rattle.std.specs.Str.{bytes_eq}
use Rattle.std.proofs.lemmas.Slice.Eq.{bytes_eq-Decides}
use Rattle.lemmas.proofs.Members.{none_both}
use Rattle.sexpr_text.specs.Trees.{Trees, nothing, word, list, size}
use Rattle.task_model.specs.declared.domain.Role.{Role}
use Rattle.form_reader.specs.declared.fault.Fault.{Fault}
use Rattle.form_reader.specs.declared.keys.Key.{Key}
use Rattle.form_reader.specs.declared.keys.Key.TheVariants as key
use Rattle.form_reader.specs.declared.keys.Keyed.{Keyed}
use Rattle.form_reader.specs.declared.keys.Keyed.TheVariants.{Stream, CostStream}
use Rattle.form_reader.specs.Faults.{shape, unsupported}
use Rattle.form_reader.specs.Keys.{by_key, cost_stream_key_of, has_word, key_of, keys_faults, stream_key_of, value_faults, valued_faults}
use Rattle.name_tables.specs.declared.vocabulary.Vocabulary.{Vocabulary}
use Rattle.name_tables.proofs.NoFaultLemmas.{some_fault}
use Rattle.stream_reader.specs.declared.tables.Scopes.{Scopes}
use Rattle.stream_reader.specs.Names.{stream_keys_names, stream_value_names}
use Rattle.name_tables.specs.Texts.{value_at}

-- a key that may stand somewhere
abbrev pub IsKey : Key → Type 0
IsKey key.Unknown = ⊥
IsKey key.NoKey = ⊥
IsKey key.Parameters = Unit {0}
IsKey key.Precondition = Unit {0}
IsKey key.Effect = Unit {0}
IsKey key.Inputs = Unit {0}
IsKey key.Outputs = Unit {0}
IsKey key.Domain = Unit {0}
IsKey key.Certified = Unit {0}
IsKey key.Value = Unit {0}

key_clean : (k : Key) (at : ℕ) (valued : Key → List Fault) → by_key k at valued ≡ []
    → IsKey k × (valued k ≡ [])
key_clean key.Unknown at valued e = absurd (some_fault (unsupported at) [] e)
key_clean key.NoKey at valued e = absurd (some_fault (shape at) [] e)
key_clean key.Parameters at valued e = (tt, e)
key_clean key.Precondition at valued e = (tt, e)
key_clean key.Effect at valued e = (tt, e)
key_clean key.Inputs at valued e = (tt, e)
key_clean key.Outputs at valued e = (tt, e)
key_clean key.Domain at valued e = (tt, e)
key_clean key.Certified at valued e = (tt, e)
key_clean key.Value at valued e = (tt, e)

module _ (v : Vocabulary) (roles : List Role) (scopes : Scopes) (keyed : Keyed) where
  -- the value of this key, without faults
  pub record IsValue (k : Key) (most : ℕ) (value : Trees) : Type 0 where
    pub real : IsKey k
    pub place : ℕ
    pub formed : value_faults k place value ≡ []
    pub named : stream_value_names v roles scopes k place value ≡ []
    pub small : size value ≤ most

  -- no such word is there, and no value
  pub record IsAbsent (w : List ℕ) (keys : Trees) : Type 0 where
    pub none : has_word w keys ≡ false
    pub nothing : value_at w keys ≡ nothing

  abbrev pub IsThere : List ℕ → Key → ℕ → Trees → Type 0
  IsThere w k most keys = IsAbsent w keys ⊎ IsValue k most (value_at w keys)

  less : (w : List ℕ) (k : Key) (few most : ℕ) (keys : Trees) → few ≤ most → IsThere w k few keys
      → IsThere w k most keys
  less w k few most keys h (inl gone) = inl gone
  less w k few most keys h (inr is) =
      inr (record { real = is.real; place = is.place; formed = is.formed; named = is.named; small = omega (arith, is.small) })

  abbrev pair : List ℕ → ℕ → Trees → ℕ → Trees → Trees
  pair text at items at' rest = word text at (list items at' rest)

  step :
      (b : Bool) (w : List ℕ) (k : Key) (text : List ℕ) (at : ℕ) (items : Trees) (at' : ℕ) (rest : Trees) (most : ℕ) →
      bytes_eq text w ≡ b → key_of keyed w ≡ k → IsKey (key_of keyed text) → value_faults (key_of keyed text) at' items ≡ []
      → stream_value_names v roles scopes (key_of keyed text) at' items ≡ [] → size items ≤ most → IsThere w k most rest
      → IsThere w k most (pair text at items at' rest)
  step true w k text at items at' rest most is key real formed named small more =
      let same : text ≡ w = (bytes_eq-Decides text w).0 is in
      let chosen : key_of keyed text ≡ k = ap (key_of keyed) same ∙ key in
      let value : value_at w (pair text at items at' rest) ≡ items = ap (λ b. cond b items (value_at w rest)) is in
      inr
      (record {
        real = subst IsKey chosen real;
        place = at';
        formed = (λ i. value_faults (sym chosen i) at' (value i)) ∙ formed;
        named = (λ i. stream_value_names v roles scopes (sym chosen i) at' (value i)) ∙ named;
        small = omega (arith, ap size value, small);
      })
  step false w k text at items at' rest most is key real formed named small more =
      let value : value_at w (pair text at items at' rest) ≡ value_at w rest = ap (λ b. cond b items (value_at w rest)) is in
      elim more [
        | inl gone ↦ inl (record { none = ap (λ b. b || has_word w rest) is ∙ gone.none; nothing = value ∙ gone.nothing })
        | inr there ↦
            inr (record {
              real = there.real;
              place = there.place;
              formed = ap (value_faults k there.place) value ∙ there.formed;
              named = ap (stream_value_names v roles scopes k there.place) value ∙ there.named;
              small = omega (arith, ap size value, there.small);
            })
      ]

  -- the value of a word's key, if the word is there
  pub find : (w : List ℕ) (k : Key) (before : Key) (place : ℕ) (keys : Trees) → key_of keyed w ≡ k
      → keys_faults keyed place keys ≡ [] → stream_keys_names v roles scopes keyed before keys ≡ []
      → IsThere w k (size keys) keys
  find w k before place nothing key e f = inl (record { none = refl; nothing = refl })
  find w k before place (list items at rest) key e f = absurd (some_fault (shape at) [] e)
  find w k before place (word text at nothing) key e f =
      absurd (some_fault (shape place) [] (key_clean (key_of keyed text) at (λ k. valued_faults keyed place k nothing) e).1)
  find w k before place (word text at (word text' at' rest)) key e f =
      absurd (some_fault (shape at') [] (key_clean (key_of keyed text) at (λ k. valued_faults keyed place k (word text' at' rest)) e).1)
  find w k before place (word text at (list items at' rest)) key e f =
      let clean = key_clean (key_of keyed text) at (λ k. valued_faults keyed place k (list items at' rest)) e in
      let forms = none_both (value_faults (key_of keyed text) at' items) (keys_faults keyed place rest) clean.1 in
      let names =
      none_both (stream_value_names v roles scopes (key_of keyed text) at' items)
      (stream_keys_names v roles scopes keyed (key_of keyed text) rest) f in
      let most : ℕ = size (pair text at items at' rest) in
      step (bytes_eq text w) w k text at items at' rest most refl key clean.0 forms.0 names.0
      (omega arith) (less w k (size rest) most rest (omega arith) (find w k (key_of keyed text) place rest key forms.1 names.1))

-- ---- which words are which keys

pub stream_inputs : key_of Stream (codes ":inputs") ≡ key.Inputs
unfolding stream_key_of
stream_inputs = refl

pub stream_outputs : key_of Stream (codes ":outputs") ≡ key.Outputs
unfolding stream_key_of
stream_outputs = refl

pub stream_domain : key_of Stream (codes ":domain") ≡ key.Domain
unfolding stream_key_of
stream_domain = refl

pub stream_certified : key_of Stream (codes ":certified") ≡ key.Certified
unfolding stream_key_of
stream_certified = refl

pub cost_inputs : key_of CostStream (codes ":inputs") ≡ key.Inputs
unfolding cost_stream_key_of
cost_inputs = refl

pub cost_outputs : key_of CostStream (codes ":outputs") ≡ key.Unknown
unfolding cost_stream_key_of
cost_outputs = refl

pub cost_domain : key_of CostStream (codes ":domain") ≡ key.Domain
unfolding cost_stream_key_of
cost_domain = refl

pub cost_certified : key_of CostStream (codes ":certified") ≡ key.Unknown
unfolding cost_stream_key_of
cost_certified = refl

pub cost_value : key_of CostStream (codes ":value") ≡ key.Value
unfolding cost_stream_key_of
cost_value = refl
