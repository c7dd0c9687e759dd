-- How transcripts and reports are written (the forms are this project's).
use Rattle.std.specs.Prelude.{ℕ, zero, suc, ◌-◌, ◌/◌, List, [], ◌∷◌, ◌++◌, map, length, take, drop, codes, ◌==◌, if◌then◌else◌}
use Rattle.std.specs.Fmt.{decimal}
use Rattle.std.specs.List.{flat_map}
use Rattle.gen_lines.specs.Request.{stream_name}
use Rattle.task_model.specs.declared.task.Task.{Task}
use Rattle.transcript_model.specs.declared.entry.Call.{Call}
use Rattle.transcript_model.specs.declared.entry.DreamUse.{DreamUse}
use Rattle.transcript_model.specs.declared.entry.Entry.{Entry}
use Rattle.transcript_model.specs.declared.entry.Entry.TheVariants as entry
use Rattle.transcript_model.specs.declared.head.Head.{Head}
use Rattle.transcript_model.specs.declared.head.Mode.{Mode}
use Rattle.transcript_model.specs.declared.head.Mode.TheVariants.{Incremental, Focused, Binding, Adaptive}
use Rattle.transcript_model.specs.declared.head.Pool.{Pool}
use Rattle.transcript_model.specs.declared.head.PoolLine.{PoolLine}
use Rattle.transcript_model.specs.declared.outcome.LimitKind.{LimitKind}
use Rattle.transcript_model.specs.declared.outcome.LimitKind.TheVariants.{Calls, States, Instances}
use Rattle.transcript_model.specs.declared.outcome.Origin.{Origin}
use Rattle.transcript_model.specs.declared.outcome.Outcome.{Outcome}
use Rattle.transcript_model.specs.declared.outcome.Outcome.TheVariants as outcome
use Rattle.transcript_model.specs.declared.report.Report.{Report}

-- ---- lines

-- a line has a first field and more
pub record Line : Type 0 where
  pub first : List ℕ
  pub more : List (List ℕ)

abbrev pub line : List ℕ → List (List ℕ) → Line
line first more = record { first = first; more = more }

-- a space before each field
abbrev pub fields_text : List (List ℕ) → List ℕ
fields_text fields = flat_map (λ field. 32 ∷ field) fields

-- its fields with a space before each but the first, and a line feed
abbrev pub line_text : Line → List ℕ
line_text l = l.first ++ fields_text l.more ++ 10 ∷ []

abbrev pub lines_text : List Line → List ℕ
lines_text lines = flat_map line_text lines

-- ---- entries

abbrev pub call_fields : Call → List (List ℕ)
call_fields call = call.name ∷ call.args

-- tuples of this width, with a bar between each two
abbrev pub tuples_of : ℕ → ℕ → List (List ℕ) → List (List ℕ)
tuples_of width zero values = values
tuples_of width (suc bars) values =
    take width values ++ codes "|" ∷ tuples_of width bars (drop width values)

-- the values of so many tuples, which have equally many each
abbrev pub tuple_fields : ℕ → List (List ℕ) → List (List ℕ)
tuple_fields tuples values = tuples_of (length values / tuples) (tuples - 1) values

abbrev pub use_line : DreamUse → Line
use_line u = line (codes "use") (decimal u.number ∷ call_fields u.call)

abbrev pub step_line : Call → Line
step_line call = line (codes "step") (call_fields call)

abbrev pub entry_lines : Entry → List Line
entry_lines entry.Level = line (codes "level") [] ∷ []
entry_lines (entry.Ask number turn call) =
    line (codes "ask") (decimal number ∷ decimal turn ∷ call_fields call) ∷ []
entry_lines (entry.Got number tuples values) =
    line (codes "got") (decimal number ∷ tuple_fields tuples values) ∷ []
entry_lines (entry.Value number value) =
    line (codes "value") (decimal number ∷ decimal value ∷ []) ∷ []
entry_lines (entry.End number) = line (codes "end") (decimal number ∷ []) ∷ []
entry_lines (entry.Dream uses steps) =
    line (codes "dream") (decimal (length uses) ∷ decimal (length steps) ∷ []) ∷ map use_line uses
    ++ map step_line steps
entry_lines entry.Nothing = line (codes "none") [] ∷ []
entry_lines entry.Reset = line (codes "reset") [] ∷ []
entry_lines (entry.Pick number) = line (codes "pick") (decimal number ∷ []) ∷ []
entry_lines (entry.Retire number) = line (codes "retire") (decimal number ∷ []) ∷ []

-- the lines of an entry
abbrev pub text_of_entry : Entry → List ℕ
text_of_entry e = lines_text (entry_lines e)

-- ---- outcomes

abbrev pub do_line : Call → Line
do_line call = line (codes "do") (call_fields call)

abbrev pub from_line : ℕ → Origin → Line
from_line version o =
    line (codes "from") (o.object ∷ decimal o.number ∷ (if version == 1 then [] else decimal o.tuple ∷ []))

abbrev pub limit_word : LimitKind → List ℕ
limit_word Calls = codes "calls"
limit_word States = codes "states"
limit_word Instances = codes "instances"

abbrev pub outcome_lines : ℕ → Outcome → List Line
outcome_lines version (outcome.Plan steps cost from) =
    line (codes "plan") (decimal (length steps) ∷ []) ∷ map do_line steps
    ++ line (codes "cost") (decimal cost ∷ []) ∷ map (from_line version) from
outcome_lines version outcome.NoPlan = line (codes "no") (codes "plan" ∷ []) ∷ []
outcome_lines version (outcome.Limit kind) = line (codes "limit") (limit_word kind ∷ []) ∷ []

-- the lines of the outcome
abbrev pub text_of_outcome : ℕ → Outcome → List ℕ
text_of_outcome version o = lines_text (outcome_lines version o)

-- ---- heads

abbrev pub mode_word : Mode → List ℕ
mode_word Incremental = codes "incremental"
mode_word Focused = codes "focused"
mode_word Binding = codes "binding"
mode_word Adaptive = codes "adaptive"

-- a pool as a report shows it
abbrev pub shown_pool : Task → Pool → PoolLine
shown_pool task pool =
    record { workers = pool.workers; streams = map (stream_name task) pool.streams }

abbrev pub pool_line : PoolLine → Line
pool_line pool = line (codes "pool") (decimal pool.workers ∷ pool.streams)

abbrev pub head_lines : ℕ → Mode → ℕ → ℕ → ℕ → List PoolLine → List Line
head_lines version mode calls states depth pools =
    line (codes "pddlstream") (decimal version ∷ mode_word mode ∷ [])
    ∷ line (codes "limits") (decimal calls ∷ decimal states ∷ decimal depth ∷ []) ∷ map pool_line pools

-- the lines of the head
abbrev pub text_of_head : Task → Head → List ℕ
text_of_head task head =
    lines_text (head_lines head.version head.mode head.calls head.states head.depth (map (shown_pool task) head.pools))

-- ---- reports

abbrev pub done_line : Line
done_line = line (codes "done") []

-- all lines of a report
abbrev pub lines_of_report : Report → List Line
lines_of_report r =
    head_lines r.version r.mode r.calls r.states r.depth r.pools
    ++ (flat_map entry_lines r.entries ++ (outcome_lines r.version r.outcome ++ done_line ∷ []))

-- the head, the transcript, the outcome, and `done`
abbrev pub text_of_report : Report → List ℕ
text_of_report r =
    lines_text (head_lines r.version r.mode r.calls r.states r.depth r.pools) ++ flat_map text_of_entry r.entries
    ++ text_of_outcome r.version r.outcome ++ line_text done_line

-- the report with another version, and all else as it is
abbrev pub in_version : ℕ → Report → Report
in_version version r = record r { version = version }
