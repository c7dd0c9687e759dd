-- How a run ends that has no outcome.
use Rattle.std.specs.Prelude.{ℕ, Bool, true, false, List, [], ◌++◌, codes, ⊤}
use Rattle.std.specs.Fmt.{decimal}
use Rattle.command_line.specs.Usage.{usage_text}
use Rattle.gen_lines.specs.declared.answer.Why.{Why}
use Rattle.gen_lines.specs.declared.answer.Why.TheVariants as why
use Rattle.grid_text.specs.declared.fault.GridKind.{GridKind}
use Rattle.grid_text.specs.declared.fault.GridKind.TheVariants as grid
use Rattle.stream_map.specs.declared.fault.MapFault.{MapFault}
use Rattle.stream_map.specs.declared.fault.MapFault.TheVariants as faults
use Rattle.task_reader.specs.Kinds.{kind_word}
use Rattle.round_run.specs.declared.fault.RunFault.TheVariants as fault
use Rattle.command_files.specs.declared.status.Status.{Status}
use Rattle.command_files.specs.declared.status.Status.TheVariants as status
use Rattle.command_files.specs.declared.stop.Stop.{Stop}
use Rattle.command_files.specs.declared.stop.Stop.TheVariants.{Usage, Input, Map, Grid, Failed, TooLong, Run}
use Rattle.command_files.specs.declared.stop.FileRole.{FileRole}
use Rattle.command_files.specs.declared.stop.FileRole.TheVariants as role
use Rattle.command_files.specs.declared.stop.Text.{Text}
use Rattle.command_files.specs.declared.stop.Text.TheVariants as text

abbrev pub status_at : Stop → Status
status_at Usage = status.Usage
status_at (Input which kind place) = status.Input
status_at (Map why) = status.Input
status_at (Grid kind line) = status.Input
status_at (Failed which) = status.ReadFault
status_at (TooLong which) = status.ReadFault
status_at (Run (fault.Answer number why)) = status.BadAnswer
status_at (Run fault.Generator) = status.GeneratorFault
status_at (Run fault.Write) = status.WriteFault
status_at (Run fault.Memory) = status.Memory

-- a run ends so since what is to be read is no input, or since memory is wanting
abbrev pub IsOfInput : Stop → Type 0
IsOfInput Usage = ⊥
IsOfInput (Run (fault.Answer number why)) = ⊥
IsOfInput (Run fault.Generator) = ⊥
IsOfInput (Run fault.Write) = ⊥
IsOfInput why = ⊤

-- the sink took no more
abbrev pub is_write : Stop → Bool
is_write (Run fault.Write) = true
is_write why = false

-- the run ended since the sink failed
abbrev pub is_write_fault : Status → Bool
is_write_fault status.WriteFault = true
is_write_fault other = false

abbrev pub text_word : Text → List ℕ
text_word text.Domain = codes "domain"
text_word text.Problem = codes "problem"
text_word text.Streams = codes "streams"

abbrev pub role_word : FileRole → List ℕ
role_word (role.Text which) = text_word which
role_word role.Map = codes "map"
role_word role.Grid = codes "grid"
role_word role.Report = codes "report"

abbrev pub map_word : MapFault → List ℕ
map_word faults.Json = codes "json"
map_word faults.Shape = codes "shape"
map_word faults.Workers = codes "workers"
map_word faults.Unknown = codes "unknown"
map_word faults.Doubled = codes "doubled"
map_word faults.Unserved = codes "unserved"
map_word faults.Memory = codes "memory"

abbrev pub grid_word : GridKind → List ℕ
grid_word grid.Form = codes "form"
grid_word grid.Number = codes "number"
grid_word grid.Outside = codes "outside"
grid_word grid.Duplicate = codes "duplicate"
grid_word grid.TooMany = codes "too-many"

abbrev pub why_word : Why → List ℕ
why_word why.Word = codes "word"
why_word why.Count = codes "count"
why_word why.Value = codes "value"
why_word why.TooLong = codes "too-long"

abbrev pub memory_line : List ℕ
memory_line = codes "fault memory\n"

-- the last line of the run; behind the line for wrong words stands the usage text
abbrev pub last_text : Stop → List ℕ
last_text Usage = codes "fault usage\n" ++ usage_text
last_text (Input which kind place) =
    codes "fault input " ++ text_word which ++ codes " " ++ kind_word kind ++ codes " " ++ decimal place ++ codes "\n"
last_text (Map why) = codes "fault input map " ++ map_word why ++ codes "\n"
last_text (Grid kind line) =
    codes "fault input grid " ++ grid_word kind ++ codes " " ++ decimal line ++ codes "\n"
last_text (Failed which) = codes "fault read " ++ role_word which ++ codes " failed\n"
last_text (TooLong which) = codes "fault read " ++ role_word which ++ codes " too-long\n"
last_text (Run (fault.Answer number why)) =
    codes "fault answer " ++ decimal number ++ codes " " ++ why_word why ++ codes "\n"
last_text (Run fault.Generator) = codes "fault generator\n"
last_text (Run fault.Write) = []
last_text (Run fault.Memory) = memory_line
