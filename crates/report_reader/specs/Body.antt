-- The parts of a report as the reader takes them.
use Rattle.std.specs.Prelude.{◌≡◌, ℕ, ◌==◌, ◌⊎◌, Bool, true, false, List, [], ◌∷◌, ◌++◌, map, length, All, codes, if◌then◌else◌, Option, Some, None}
use Rattle.std.specs.Fmt.{decimal}
use Rattle.std.specs.List.{flat_map}
use Rattle.report_text.specs.Forms.{IsNumber, IsSmall, IsFormedEntry, IsFormedOutcome}
use Rattle.report_text.specs.Places.{Place, last, planning, is_dream, dream_line, plan_line, cost_line, no_plan_line, limit_line, first_line, limits_line}
use Rattle.report_text.specs.Texts.{Line, use_line, step_line, do_line, from_line, entry_lines, done_line}
use Rattle.transcript_model.specs.declared.entry.Entry.{Entry}
use Rattle.transcript_model.specs.declared.entry.Entry.TheVariants as entry
use Rattle.transcript_model.specs.declared.outcome.Outcome.{Outcome}
use Rattle.transcript_model.specs.declared.outcome.Outcome.TheVariants as outcome
use Rattle.report_reader.specs.Splits.{fields_of}
use Rattle.report_reader.specs.declared.body_line.BodyLine.{BodyLine}
use Rattle.report_reader.specs.declared.body_line.BodyLine.TheVariants.{Single, Dream, Ends}
use Rattle.report_reader.specs.declared.body_line.Ending.{Ending}
use Rattle.report_reader.specs.declared.body_line.Ending.TheVariants.{Plan, NoPlan, Limit}
use Rattle.report_reader.specs.declared.body_reader.Body.{Body}
use Rattle.report_reader.specs.declared.body_reader.Part.{Part}
use Rattle.report_reader.specs.declared.body_reader.Part.TheVariants as part
use Rattle.report_reader.specs.declared.body_word.Word.{Word}
use Rattle.report_reader.specs.declared.body_word.Word.TheVariants as word
use Rattle.report_reader.specs.declared.head_reader.First.{First}
use Rattle.report_reader.specs.declared.head_reader.Limits.{Limits}

-- ---- words

abbrev pub spelled_word : Word → List ℕ
spelled_word word.Level = codes "level"
spelled_word word.Ask = codes "ask"
spelled_word word.Got = codes "got"
spelled_word word.Value = codes "value"
spelled_word word.End = codes "end"
spelled_word word.Dream = codes "dream"
spelled_word word.Nothing = codes "none"
spelled_word word.Reset = codes "reset"
spelled_word word.Pick = codes "pick"
spelled_word word.Retire = codes "retire"
spelled_word word.Plan = codes "plan"
spelled_word word.No = codes "no"
spelled_word word.Limit = codes "limit"

-- whether it begins a request or an answer
abbrev pub is_of_dialogue : Word → Bool
is_of_dialogue word.Ask = true
is_of_dialogue word.Got = true
is_of_dialogue word.Value = true
is_of_dialogue word.End = true
is_of_dialogue w = false

abbrev pub entry_word : Entry → Word
entry_word entry.Level = word.Level
entry_word (entry.Ask number turn call) = word.Ask
entry_word (entry.Got number tuples values) = word.Got
entry_word (entry.Value number value) = word.Value
entry_word (entry.End number) = word.End
entry_word (entry.Dream uses steps) = word.Dream
entry_word entry.Nothing = word.Nothing
entry_word entry.Reset = word.Reset
entry_word (entry.Pick number) = word.Pick
entry_word (entry.Retire number) = word.Retire

abbrev pub ending_word : Ending → Word
ending_word (Plan steps) = word.Plan
ending_word NoPlan = word.No
ending_word (Limit kind) = word.Limit

abbrev pub word_of_line : BodyLine → Word
word_of_line (Single e) = entry_word e
word_of_line (Dream uses steps) = word.Dream
word_of_line (Ends ending) = ending_word ending

-- ---- lines among the entries

abbrev pub ending_line : Ending → Line
ending_line (Plan steps) = plan_line steps
ending_line NoPlan = no_plan_line
ending_line (Limit kind) = limit_line kind

abbrev pub first_of_lines : List Line → Line
first_of_lines [] = done_line
first_of_lines (l ∷ lines) = l

abbrev pub body_line : BodyLine → Line
body_line (Single e) = first_of_lines (entry_lines e)
body_line (Dream uses steps) = dream_line uses steps
body_line (Ends ending) = ending_line ending

-- the fields behind its word
abbrev pub body_more : BodyLine → List (List ℕ)
body_more b = (body_line b).more

abbrev pub IsEnding : Ending → Type 0
IsEnding (Plan steps) = IsNumber steps
IsEnding NoPlan = Unit {0}
IsEnding (Limit kind) = Unit {0}

abbrev pub IsBodyLine : ℕ → BodyLine → Type 0
IsBodyLine version (Single e) = IsFormedEntry version e × (is_dream e ≡ false)
IsBodyLine version (Dream uses steps) = IsNumber uses × IsNumber steps
IsBodyLine version (Ends ending) = IsEnding ending

-- with this word first
abbrev pub IsBodyLineOf : ℕ → Word → BodyLine → Type 0
IsBodyLineOf version w b = IsBodyLine version b × (word_of_line b ≡ w)

-- ---- entries, and the line that ends them

-- a dream of so many entries and steps
abbrev pub IsDreamEntry : ℕ → ℕ → ℕ → Entry → Type 0
IsDreamEntry version uses steps (entry.Dream us ss) =
    IsFormedEntry version (entry.Dream us ss) × (length us ≡ uses) × (length ss ≡ steps)
IsDreamEntry version uses steps e = ⊥

-- the lines behind its first one
abbrev pub dream_lines : Entry → List Line
dream_lines (entry.Dream uses steps) = map use_line uses ++ map step_line steps
dream_lines e = []

abbrev pub IsReportPart : ℕ → Part → Type 0
IsReportPart version (part.Entry e) = IsFormedEntry version e
IsReportPart version (part.End ending) = IsEnding ending

abbrev pub part_lines : Part → List Line
part_lines (part.Entry e) = entry_lines e
part_lines (part.End ending) = ending_line ending ∷ []

abbrev pub IsBody : ℕ → Body → Type 0
IsBody version b = All (IsFormedEntry version) b.entries × IsEnding b.ending

abbrev pub body_lines : Body → List Line
body_lines b = flat_map entry_lines b.entries ++ ending_line b.ending ∷ []

-- entries of the form, which are all lines from old to new
pub record IsReportFront (version : ℕ) (entries : List Entry) (old new : List (List (List ℕ))) : Type 0 where
  pub formed : All (IsFormedEntry version) entries
  pub lines : map fields_of (flat_map entry_lines entries) ++ new ≡ old

-- ---- outcomes

abbrev pub ending_of : Outcome → Ending
ending_of (outcome.Plan steps cost from) = Plan (length steps)
ending_of outcome.NoPlan = NoPlan
ending_of (outcome.Limit kind) = Limit kind

-- the place behind the line that ends the entries
abbrev pub ending_place : ℕ → Ending → Place
ending_place version (Plan steps) = planning version steps
ending_place version NoPlan = last
ending_place version (Limit kind) = last

abbrev pub IsOutcomeOf : ℕ → Ending → Outcome → Type 0
IsOutcomeOf version ending o = IsFormedOutcome version o × (ending_of o ≡ ending)

-- the lines behind its first one, and the last line of the report
abbrev pub outcome_rest : ℕ → Outcome → List Line
outcome_rest version (outcome.Plan steps cost from) =
    map do_line steps ++ cost_line cost ∷ (map (from_line version) from ++ done_line ∷ [])
outcome_rest version outcome.NoPlan = done_line ∷ []
outcome_rest version (outcome.Limit kind) = done_line ∷ []

-- no last line comes next
abbrev pub HasNoEnd : List (List (List ℕ)) → Type 0
HasNoEnd lines = (rest : List (List (List ℕ))) → ¬ (fields_of done_line ∷ rest ≡ lines)

-- the outcome with the last line, or that this isn't the next one
abbrev pub AtEnd : Option Outcome → Outcome → List (List (List ℕ)) → List (List (List ℕ)) → Type 0
AtEnd (Some o) outcome old new = (o ≡ outcome) × (fields_of done_line ∷ new ≡ old)
AtEnd None outcome old new = (new ≡ old) × HasNoEnd old

-- the tuple of an origin
abbrev pub IsTupleNumber : ℕ → ℕ → Type 0
IsTupleNumber version tuple = IsSmall tuple × (version ≡ 1 → tuple ≡ 1)

abbrev pub tuple_shown : ℕ → ℕ → List (List ℕ)
tuple_shown version tuple = if version == 1 then [] else decimal tuple ∷ []

-- ---- heads

abbrev pub IsVersion : ℕ → Type 0
IsVersion version = (version ≡ 1) ⊎ (version ≡ 2)

abbrev pub IsFirstLine : First → Type 0
IsFirstLine f = IsVersion f.version

abbrev pub first_of : First → Line
first_of f = first_line f.version f.mode

pub record IsLimits (l : Limits) : Type 0 where
  pub calls : IsNumber l.calls
  pub states : IsNumber l.states
  pub depth : IsSmall l.depth

abbrev pub limits_line_of : Limits → Line
limits_line_of l = limits_line l.calls l.states l.depth
