-- What is said with a generator in the process.
use Rattle.std.specs.Prelude.{◌≡◌, ℕ, Bool, true, false, List, [], ◌∷◌, ◌++◌, ◌==◌, drop, take, Option, Some, None, if◌then◌else◌}
use Rattle.std.specs.Io.BufRead.{strip_last}
use Rattle.io_world.specs.Talks.{Talk, silence}
use Rattle.gen_lines.specs.Lines.{unfinished}
use Rattle.grid_text.specs.Grids.{GridFile}
use Rattle.grid_world.specs.AnswerLines.{answers_text, answer_to_line}

-- whether it runs, its grid, what was written to it since its start, and how many bytes of its answers were given
pub record SessionState : Type 0 where
  pub running : Bool
  pub grid : GridFile
  pub written : List ℕ
  pub given : ℕ

abbrev pub new_session : GridFile → SessionState
new_session grid = record { running = true; grid = grid; written = []; given = 0 }

abbrev pub is_session_running : Option SessionState → Bool
is_session_running None = false
is_session_running (Some session) = session.running

-- the bytes of answers that weren't given yet
abbrev pub left_of : SessionState → List ℕ
left_of session = drop session.given (answers_text session.grid session.written)

-- what was said: the answers that were given are the first of those to what was written
abbrev pub talk_of : Option SessionState → Talk
talk_of None = silence
talk_of (Some session) = record {
  written = session.written;
  heard = take session.given (answers_text session.grid session.written);
}

-- what was given is the front of the answers once these bytes more are written
abbrev pub KeepsGiven : SessionState → List ℕ → Type 0
KeepsGiven session bytes =
    take session.given (answers_text session.grid (session.written ++ bytes))
    ≡ take session.given (answers_text session.grid session.written)

-- what is open, and the answers that came, once these bytes are written behind others
pub record SessionGoesOn (grid : GridFile) (written bytes left answers : List ℕ) : Type 0 where
  pub left_is : left ≡ unfinished (written ++ bytes)
  pub answers_are : answers_text grid (written ++ bytes) ≡ answers_text grid written ++ answers

-- one byte more: a line feed ends the open line, which is answered
pub record SessionHearsByte (grid : GridFile) (byte : ℕ) (left answers more_left more_answers : List ℕ) : Type 0 where
  pub left_is : more_left ≡ (if byte == 10 then [] else left ++ byte ∷ [])
  pub answers_are : more_answers
      ≡ (if byte == 10 then answers ++ answer_to_line grid (strip_last 13 left) else answers)
