-- Laws of the definitions. Each is the contract of a public function of `laws.rt`, and so is proved.
use Rattle.std.specs.Prelude.{◌≡◌, ℕ, ◌<◌, ◌≤◌, List, ◌∷◌, ◌++◌, Bool, true, not, ◌&&◌, nat_le, ◌^◌, map}
use Rattle.std.specs.List.{join_with_byte, list_all}
use Rattle.gen_lines.specs.Cutting.{Cut, IsWhole}
use Rattle.gen_lines.specs.Lines.{lines_of}
use Rattle.gen_lines.specs.Request.{request_of, request_words, stream_name}
use Rattle.gen_lines.specs.Reply.{IsRight, fields, is_filled, is_space, reply_of, yields, number}
use Rattle.task_model.specs.Streams.{name_at}
use Rattle.task_model.specs.declared.limits.TheConstants.{LARGEST_NUMBER}
use Rattle.task_model.specs.declared.stream.Instance.{Instance}
use Rattle.task_model.specs.declared.task.Task.{Task}
use Rattle.gen_lines.specs.declared.answer.Wanted.{Wanted}
use Rattle.gen_lines.specs.declared.answer.Wanted.TheVariants.{Outputs}

-- However bytes are cut into pieces, their lines are those of the whole.
abbrev pub LinesIgnoreCutting : Type 0
LinesIgnoreCutting =
    (all : List ℕ) (taken : List (List ℕ)) (held : List ℕ) → Cut all taken held → IsWhole all taken held

-- bytes that aren't empty and have no space
abbrev pub is_word : List ℕ → Bool
is_word text = is_filled text && list_all (λ b. not (is_space b)) text

-- Words with a space between each two are the fields of that line.
abbrev pub WordsAreFields : Type 0
WordsAreFields =
    (words : List (List ℕ)) → list_all is_word words ≡ true
    → fields (join_with_byte 32 words) ≡ words

-- A line that is read as a yield gives tuples such as the stream may give.
abbrev pub YieldsAreRight : Type 0
YieldsAreRight =
    (line : List ℕ) (outputs : ℕ) (several : Bool) (tuples : ℕ) (values : List (List ℕ))
    → reply_of line (Outputs outputs several) ≡ yields tuples values → IsRight outputs several tuples values

-- not empty, and all its bytes from ! to ~
abbrev pub is_printed : List ℕ → Bool
is_printed text = is_filled text && list_all (λ b. nat_le 33 b && nat_le b 126) text

-- The line of a request, whatever comes after it, and the fields of that line.
pub record ReadsBack (task : Task) (names : List (List ℕ)) (number : ℕ) (instance : Instance) : Type 0 where
  pub line : (later : List ℕ)
      → lines_of (request_of task names number instance ++ later)
      ≡ join_with_byte 32 (request_words task names number instance) ∷ lines_of later
  pub words : fields (join_with_byte 32 (request_words task names number instance))
      ≡ request_words task names number instance

-- A request is one line, and its fields are its words.
abbrev pub RequestsReadBack : Type 0
RequestsReadBack =
    (task : Task) (names : List (List ℕ)) (number : ℕ) (instance : Instance) → number < 2 ^ 32
    → is_printed (stream_name task instance.stream) ≡ true
    → list_all is_printed (map (name_at names) instance.inputs) ≡ true → ReadsBack task names number instance

-- A line that is read as a number gives one of at most 1,000,000.
abbrev pub NumbersAreSmall : Type 0
NumbersAreSmall =
    (line : List ℕ) (wanted : Wanted) (n : ℕ) → reply_of line wanted ≡ number n → n ≤ LARGEST_NUMBER
