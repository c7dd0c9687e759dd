-- The keys of actions and streams, and their values.
use Rattle.std.specs.Prelude.{ℕ, Bool, false, ◌||◌, if◌then◌else◌, List, [], ◌∷◌, ◌++◌, codes}
use Rattle.std.specs.Str.{bytes_eq}
use Rattle.sexpr_text.specs.Trees.{Trees, nothing, word, list}
use Rattle.form_reader.specs.declared.fault.Fault.{Fault}
use Rattle.form_reader.specs.declared.groups.Spot.TheVariants.{Start}
use Rattle.form_reader.specs.declared.keys.Key.{Key}
use Rattle.form_reader.specs.declared.keys.Key.TheVariants as key
use Rattle.form_reader.specs.declared.keys.Keyed.{Keyed}
use Rattle.form_reader.specs.declared.keys.Keyed.TheVariants.{Action, Stream, CostStream}
use Rattle.form_reader.specs.declared.refused.Region.TheVariants.{Atoms}
use Rattle.form_reader.specs.declared.words.WordSort.TheVariants.{Name, Variable}
use Rattle.form_reader.specs.Atoms.{atoms_faults, worth_faults}
use Rattle.form_reader.specs.Conditions.{condition_faults}
use Rattle.form_reader.specs.Effects.{effect_faults}
use Rattle.form_reader.specs.Faults.{shape, unsupported}
use Rattle.form_reader.specs.Refused.{refused_here, refused_faults}
use Rattle.form_reader.specs.Rows.{groups_faults}
use Rattle.form_reader.specs.Words.{is_keyword, is_of}

abbrev pub other_key : List ℕ → Key
other_key w = if is_keyword w then key.Unknown else key.NoKey

unfoldable pub action_key_of : List ℕ → Key
action_key_of w =
    if bytes_eq w (codes ":parameters") then key.Parameters else
    if bytes_eq w (codes ":precondition") then key.Precondition else
    if bytes_eq w (codes ":effect") then key.Effect else other_key w

unfoldable pub stream_key_of : List ℕ → Key
stream_key_of w =
    if bytes_eq w (codes ":inputs") then key.Inputs else
    if bytes_eq w (codes ":outputs") then key.Outputs else
    if bytes_eq w (codes ":domain") then key.Domain else
    if bytes_eq w (codes ":certified") then key.Certified else other_key w

unfoldable pub cost_stream_key_of : List ℕ → Key
cost_stream_key_of w =
    if bytes_eq w (codes ":inputs") then key.Inputs else
    if bytes_eq w (codes ":domain") then key.Domain else
    if bytes_eq w (codes ":value") then key.Value else other_key w

abbrev pub key_of : Keyed → List ℕ → Key
key_of Action w = action_key_of w
key_of Stream w = stream_key_of w
key_of CostStream w = cost_stream_key_of w

-- of a list in a stream's atoms, which may be left out itself
abbrev pub stream_atoms_faults : ℕ → Trees → List Fault
stream_atoms_faults place items =
    refused_here Atoms place items ++ refused_faults Atoms items ++ atoms_faults place items

-- of the value of a key, which is a list
abbrev pub value_faults : Key → ℕ → Trees → List Fault
value_faults key.Parameters place items = groups_faults Variable place Start items
value_faults key.Precondition place items = condition_faults place items
value_faults key.Effect place items = effect_faults place items
value_faults key.Inputs place items = groups_faults Variable place Start items
value_faults key.Outputs place items = groups_faults Variable place Start items
value_faults key.Domain place items = stream_atoms_faults place items
value_faults key.Certified place items = stream_atoms_faults place items
value_faults key.Value place items = worth_faults place items
value_faults key.Unknown place items = []
value_faults key.NoKey place items = []

-- what a word in the place of a key gives, where its value and the rest have these faults
abbrev pub by_key : Key → ℕ → (Key → List Fault) → List Fault
by_key key.Unknown at valued = unsupported at ∷ []
by_key key.NoKey at valued = shape at ∷ []
by_key key.Parameters at valued = valued key.Parameters
by_key key.Precondition at valued = valued key.Precondition
by_key key.Effect at valued = valued key.Effect
by_key key.Inputs at valued = valued key.Inputs
by_key key.Outputs at valued = valued key.Outputs
by_key key.Domain at valued = valued key.Domain
by_key key.Certified at valued = valued key.Certified
by_key key.Value at valued = valued key.Value

abbrev mutual
  -- akey* or skey* or ckey*, each a word and a list
  pub keys_faults : Keyed → ℕ → Trees → List Fault
  keys_faults keyed place nothing = []
  keys_faults keyed place (word text at rest) =
      by_key (key_of keyed text) at (λ k. valued_faults keyed place k rest)
  keys_faults keyed place (list items at rest) = shape at ∷ []

  -- the value of a key, and then keys
  pub valued_faults : Keyed → ℕ → Key → Trees → List Fault
  valued_faults keyed place k nothing = shape place ∷ []
  valued_faults keyed place k (word text at rest) = shape at ∷ []
  valued_faults keyed place k (list items at rest) =
      value_faults k at items ++ keys_faults keyed place rest

-- NAME akey*, or NAME skey*, or NAME ckey*
abbrev pub keyed_faults : Keyed → ℕ → Trees → List Fault
keyed_faults keyed place nothing = shape place ∷ []
keyed_faults keyed place (word text at rest) =
    if is_of Name text then keys_faults keyed place rest else shape at ∷ []
keyed_faults keyed place (list items at rest) = shape at ∷ []

-- this word is among them
abbrev pub has_word : List ℕ → Trees → Bool
has_word w nothing = false
has_word w (word text at rest) = bytes_eq text w || has_word w rest
has_word w (list items at rest) = has_word w rest

-- a cost stream has a `:value`
abbrev pub missing_value_faults : ℕ → Trees → List Fault
missing_value_faults place items = if has_word (codes ":value") items then [] else shape place ∷ []
