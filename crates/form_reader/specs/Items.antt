-- The items of domains, problems and stream files.
use Rattle.std.specs.Prelude.{ℕ, Bool, false, ◌&&◌, if◌then◌else◌, List, [], ◌∷◌, ◌++◌, Option, Some, None, codes}
use Rattle.std.specs.Str.{bytes_eq}
use Rattle.sexpr_text.specs.Trees.{Trees, nothing, word, list}
use Rattle.form_reader.specs.declared.fault.Fault.{Fault}
use Rattle.form_reader.specs.declared.groups.Spot.{Spot}
use Rattle.form_reader.specs.declared.groups.Spot.TheVariants.{Start, Named, Typed}
use Rattle.form_reader.specs.declared.items.Item.{Item}
use Rattle.form_reader.specs.declared.items.Item.TheVariants as item
use Rattle.form_reader.specs.declared.items.TextKind.{TextKind}
use Rattle.form_reader.specs.declared.items.TextKind.TheVariants.{Domain, Problem, Streams}
use Rattle.form_reader.specs.declared.keys.Keyed.TheVariants.{Action, Stream, CostStream}
use Rattle.form_reader.specs.declared.refused.Region.TheVariants.{Init}
use Rattle.form_reader.specs.declared.words.WordSort.TheVariants.{Any, Name, Predicate}
use Rattle.form_reader.specs.Atoms.{facts_faults, is_total_cost_alone}
use Rattle.form_reader.specs.Conditions.{single_faults}
use Rattle.form_reader.specs.Effects.{is_total_cost}
use Rattle.form_reader.specs.Faults.{shape, unsupported}
use Rattle.form_reader.specs.Keys.{keyed_faults, missing_value_faults}
use Rattle.form_reader.specs.Refused.{is_end, refused_faults}
use Rattle.form_reader.specs.Rows.{row_faults, one_faults, groups_faults, declaration_faults, list_fault, cut_faults, is_dash}
use Rattle.form_reader.specs.Words.{is_keyword}

-- ---- what an item is, by its first word

abbrev pub other_item : List ℕ → Item
other_item w = if is_keyword w then item.Unknown else item.NoItem

unfoldable pub domain_item_of : List ℕ → Item
domain_item_of w =
    if bytes_eq w (codes ":requirements") then item.Requirements else
    if bytes_eq w (codes ":types") then item.Types else
    if bytes_eq w (codes ":constants") then item.Constants else
    if bytes_eq w (codes ":predicates") then item.Predicates else
    if bytes_eq w (codes ":functions") then item.Functions else
    if bytes_eq w (codes ":derived") then item.Derived else
    if bytes_eq w (codes ":action") then item.Action else other_item w

unfoldable pub problem_item_of : List ℕ → Item
problem_item_of w =
    if bytes_eq w (codes ":domain") then item.Domain else
    if bytes_eq w (codes ":requirements") then item.Requirements else
    if bytes_eq w (codes ":objects") then item.Objects else
    if bytes_eq w (codes ":init") then item.Init else
    if bytes_eq w (codes ":goal") then item.Goal else
    if bytes_eq w (codes ":metric") then item.Metric else other_item w

unfoldable pub stream_item_of : List ℕ → Item
stream_item_of w =
    if bytes_eq w (codes ":stream") then item.Stream else
    if bytes_eq w (codes ":cost-stream") then item.CostStream else other_item w

abbrev pub item_of : TextKind → List ℕ → Item
item_of Domain w = domain_item_of w
item_of Problem w = problem_item_of w
item_of Streams w = stream_item_of w

-- ---- the items' own forms

-- sig*
abbrev pub predicates_faults : Trees → List Fault
predicates_faults nothing = []
predicates_faults (word text at rest) = shape at ∷ []
predicates_faults (list items at rest) =
    declaration_faults Predicate at items ++ predicates_faults rest

-- The word among declarations of functions can't stand there: a `-` comes behind a declaration, and then `number`.
abbrev pub function_word_fault : Spot → List ℕ → ℕ → Option Fault
function_word_fault Start text at = Some (shape at)
function_word_fault Named text at = if is_dash text then None else Some (shape at)
function_word_fault Typed text at =
    if bytes_eq text (codes "number") then None else Some (unsupported at)

abbrev pub after_function_word : Spot → Spot
after_function_word Start = Start
after_function_word Named = Typed
after_function_word Typed = Start

-- the fault of a word, if it has one, and else those of what is behind it
abbrev pub or_behind : Option Fault → List Fault → List Fault
or_behind None behind = behind
or_behind (Some fault) behind = fault ∷ []

-- of a list among declarations of functions, and of what is behind it
abbrev pub function_list_faults : Spot → Trees → ℕ → List Fault → List Fault
function_list_faults Start items at behind = declaration_faults Name at items ++ behind
function_list_faults Named items at behind = declaration_faults Name at items ++ behind
function_list_faults Typed items at behind = list_fault Typed items at ∷ []

-- fsig*, each with `- number` or without
abbrev pub functions_faults : ℕ → Spot → Trees → List Fault
functions_faults place spot nothing = cut_faults place spot
functions_faults place spot (word text at rest) =
    or_behind (function_word_fault spot text at) (functions_faults place (after_function_word spot) rest)
functions_faults place spot (list items at rest) =
    function_list_faults spot items at (functions_faults place Named rest)

-- (NAME vars) cond
abbrev pub derived_faults : ℕ → Trees → List Fault
derived_faults place nothing = shape place ∷ []
derived_faults place (word text at rest) = shape at ∷ []
derived_faults place (list items at rest) =
    declaration_faults Predicate at items ++ single_faults place rest

-- `total-cost` or `(total-cost)`, and nothing more
abbrev pub is_measure : Trees → Bool
is_measure nothing = false
is_measure (word text at rest) = is_total_cost text && is_end rest
is_measure (list items at rest) = is_total_cost_alone items && is_end rest

-- minimize M
abbrev pub is_metric : Trees → Bool
is_metric nothing = false
is_metric (word text at rest) = bytes_eq text (codes "minimize") && is_measure rest
is_metric (list items at rest) = false

abbrev pub metric_faults : ℕ → Trees → List Fault
metric_faults place rest = if is_metric rest then [] else unsupported place ∷ []

-- fact*, in which no list may be left out
abbrev pub init_faults : Trees → List Fault
init_faults rest = refused_faults Init rest ++ facts_faults rest

-- NAME ckey*, with a value
abbrev pub cost_stream_faults : ℕ → Trees → List Fault
cost_stream_faults place rest =
    missing_value_faults place rest ++ keyed_faults CostStream place rest

-- of what stands behind the first word of an item: the item's list is at the one place, that word at the other
abbrev pub body_faults : Item → (place at : ℕ) → Trees → List Fault
body_faults item.Requirements place at rest = row_faults Any rest
body_faults item.Types place at rest = groups_faults Name place Start rest
body_faults item.Constants place at rest = groups_faults Name place Start rest
body_faults item.Predicates place at rest = predicates_faults rest
body_faults item.Functions place at rest = functions_faults place Start rest
body_faults item.Derived place at rest = derived_faults place rest
body_faults item.Action place at rest = keyed_faults Action place rest
body_faults item.Domain place at rest = one_faults Name place rest
body_faults item.Objects place at rest = groups_faults Name place Start rest
body_faults item.Init place at rest = init_faults rest
body_faults item.Goal place at rest = single_faults place rest
body_faults item.Metric place at rest = metric_faults place rest
body_faults item.Stream place at rest = keyed_faults Stream place rest
body_faults item.CostStream place at rest = cost_stream_faults place rest
body_faults item.Unknown place at rest = unsupported place ∷ []
body_faults item.NoItem place at rest = shape at ∷ []

abbrev pub item_faults : TextKind → ℕ → Trees → List Fault
item_faults text place nothing = shape place ∷ []
item_faults text place (word w at rest) = body_faults (item_of text w) place at rest
item_faults text place (list items at rest) = shape at ∷ []

-- ditem* or pitem* or sitem*
abbrev pub items_faults : TextKind → Trees → List Fault
items_faults text nothing = []
items_faults text (word w at rest) = shape at ∷ []
items_faults text (list items at rest) = item_faults text at items ++ items_faults text rest
