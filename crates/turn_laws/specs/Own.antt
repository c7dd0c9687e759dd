-- The table of a transcript's own answers.
use Rattle.std.specs.Prelude.{ℕ, List, [], ◌∷◌}
use Rattle.std.specs.List.{find}
use Rattle.std.specs.Option.{option_map_or}
use Rattle.gen_lines.specs.Reply.{Reply, ends, number, yields}
use Rattle.transcript_model.specs.Legal.{is_answer_to}
use Rattle.transcript_model.specs.Tables.{TableRow}
use Rattle.transcript_model.specs.declared.entry.Call.{Call}
use Rattle.transcript_model.specs.declared.entry.Entry.{Entry}
use Rattle.transcript_model.specs.declared.entry.Entry.TheVariants as entry

-- what an answer says; of other entries it doesn't matter
abbrev pub reply_by : Entry → Reply
reply_by (entry.Got n tuples values) = yields tuples values
reply_by (entry.Value n value) = number value
reply_by e = ends

-- the row of a request: what it is answered, and that nothing more comes where it isn't
abbrev pub row_of : List Entry → ℕ → ℕ → Call → TableRow
row_of entries n turn call =
    record { call = call; turn = turn; reply = option_map_or reply_by (find (is_answer_to n) entries) ends }

-- the rows of the requests among these entries, by the answers in the transcript
abbrev pub rows_from : List Entry → List Entry → List TableRow
rows_from entries [] = []
rows_from entries (entry.Ask n turn call ∷ es) = row_of entries n turn call ∷ rows_from entries es
rows_from entries (e ∷ es) = rows_from entries es

-- a row for each request of the transcript, with its own answer
abbrev pub own_rows : List Entry → List TableRow
own_rows entries = rows_from entries entries
