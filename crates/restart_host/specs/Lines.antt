-- The first line of bytes that are held.
use Rattle.std.specs.Prelude.{ℕ, ◌+◌, List, length, Option, Some, None, position}
use Rattle.gen_lines.specs.Lines.{is_feed}

-- how many bytes a line has that ends at this place; else all
abbrev pub line_end : Option ℕ → ℕ → ℕ
line_end None all = all
line_end (Some at) all = at + 1

-- how long the first line is, with its line feed; all bytes where none ends
abbrev pub due_length : List ℕ → ℕ
due_length bytes = line_end (position is_feed bytes) (length bytes)
