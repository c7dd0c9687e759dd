-- Lines that are read one after another.
use Rattle.std.proofs.Common.{◌≡◌, ℕ, ◌+◌, ◌-◌, ◌≤◌, List, [], ◌∷◌, ◌++◌, length, refl, sym, ap, ◌∙◌, arith, Option, Some, None, Result, Ok, Err, append_assoc}
use Rattle.std.specs.Borrow.{Bor}
use Rattle.std.proofs.lemmas.List.Splits.{length-slice_split}
use Rattle.std.proofs.lemmas.List.Sums.{count_by-le-length}
use Rattle.gen_lines.specs.Lines.{is_feed}
use Rattle.transcript_model.specs.declared.entry.Call.{Call}
use Rattle.plan_reader.specs.Lines.{IsFirstTextLine, text_lines}
use Rattle.plan_reader.specs.Plans.{AddsStep, RefusesPlan, WrongLine, behind_calls, plan_of, refusal_at, said_then, steps_of}
use Rattle.plan_reader.specs.Steps.{LineFails, said_by}
use Rattle.plan_reader.specs.declared.fault.LineFault.{LineFault}
use Rattle.plan_reader.specs.declared.fault.LineFault.TheVariants.{Wrong, Memory}
use Rattle.task_reader.specs.Refusals.{Refuses}
use Rattle.task_reader.specs.declared.refusal.FaultKind.{FaultKind}

-- the lines that are left
abbrev pub lines_left : Option (Bor (List ℕ)) → List (List ℕ)
lines_left None = []
lines_left (Some rest) = text_lines rest.now

-- where they begin in a text of so many bytes
abbrev pub place_left : ℕ → Option (Bor (List ℕ)) → ℕ
place_left total None = total + 1
place_left total (Some rest) = total - length rest.now

-- they are within the text
abbrev pub IsLeft : ℕ → Option (Bor (List ℕ)) → Type 0
IsLeft total None = Unit {0}
IsLeft total (Some rest) = length rest.now ≤ total

-- their steps
abbrev pub steps_left : ℕ → Option (Bor (List ℕ)) → Result (List Call) WrongLine
steps_left total rest = steps_of (place_left total rest) (lines_left rest)

-- the steps of a text that is left are what its first line says, and then the steps of the rest
pub first_said : (total : ℕ) (text line : List ℕ) (rest : Option (Bor (List ℕ))) → length text ≤ total
    → IsFirstTextLine text line rest
    → steps_of (total - length text) (text_lines text)
    ≡ said_then (total - length text) (said_by line) (steps_left total rest)
first_said total text line None within is = ap (steps_of (total - length text)) is
first_said total text line (Some rest) within is =
    let there : total - length text + length line + 1 ≡ total - length rest.now = omega (arith, is.1, within) in
    ap (steps_of (total - length text)) is.0
    ∙ ap (λ place. said_then (total - length text) (said_by line) (steps_of place (text_lines rest.now))) there

-- what is left behind the first line is within the text
pub rest_left : (total : ℕ) (text line : List ℕ) (rest : Option (Bor (List ℕ))) → length text ≤ total
    → IsFirstTextLine text line rest → IsLeft total rest
rest_left total text line None within is = tt
rest_left total text line (Some rest) within is = omega (arith, is.1, within)

-- and has one line fewer
pub rest_shorter : (text line : List ℕ) (rest : Option (Bor (List ℕ))) → IsFirstTextLine text line rest
    → length (text_lines text) ≡ length (lines_left rest) + 1
rest_shorter text line None is = omega (arith, ap length is)
rest_shorter text line (Some rest) is = omega (arith, ap length is.0)

-- ---- steps that are put behind others

-- one step more was read
pub behind_call : (calls : List Call) (call : Call) (more : Result (List Call) WrongLine)
    → behind_calls calls (behind_calls (call ∷ []) more) ≡ behind_calls (calls ++ call ∷ []) more
behind_call calls call (Ok more) = ap (λ cs. let r : Result (List Call) WrongLine = Ok cs in r) (simp append_assoc)
behind_call calls call (Err wrong) = refl

-- none was read
pub behind_nothing : (more : Result (List Call) WrongLine) → behind_calls [] more ≡ more
behind_nothing (Ok more) = refl
behind_nothing (Err wrong) = refl

-- nothing is said, or one step more
pub adds_said : (calls : List Call) (line : List ℕ) → said_by line ≡ Ok None → AddsStep calls line calls
adds_said calls line said = λ place more. ap (λ o. behind_calls calls (said_then place o more)) said

pub adds_call : (calls new : List Call) (call : Call) (line : List ℕ) → said_by line ≡ Ok (Some call)
    → new ≡ calls ++ call ∷ [] → AddsStep calls line new
adds_call calls new call line said is = λ place more.
    ap (λ o. behind_calls calls (said_then place o more)) said ∙ behind_call calls call more
    ∙ ap (λ cs. behind_calls cs more) (sym is)

-- ---- the whole text

-- at first all of it is left
pub all_left : (text : Bor (List ℕ)) (calls : List Call) → calls ≡ []
    → plan_of text.now ≡ behind_calls calls (steps_left (length text.now) (Some text))
unfolding plan_of
all_left text calls none =
    let start : length text.now - length text.now ≡ 0 = omega arith in
    sym (ap (λ cs. behind_calls cs (steps_left (length text.now) (Some text))) none
    ∙ behind_nothing (steps_left (length text.now) (Some text))
    ∙ ap (λ place. steps_of place (text_lines text.now)) start)

-- it has no more lines than bytes, and one
pub few_lines : (text : List ℕ) → length (text_lines text) ≤ length text + 1
few_lines text = omega (arith, length-slice_split is_feed text, count_by-le-length is_feed text)

module _ (total : ℕ) (all : Result (List Call) WrongLine) (calls : List Call) (text : Bor (List ℕ)) (line : List ℕ)
    (rest : Option (Bor (List ℕ))) (within : length text.now ≤ total) (is : IsFirstTextLine text.now line rest)
    (read : all ≡ behind_calls calls (steps_left total (Some text))) where
  -- behind a line that was read the rest is left
  pub line_read : (new : List Call) → AddsStep calls line new → all ≡ behind_calls new (steps_left total rest)
  line_read new adds =
      read ∙ ap (behind_calls calls) (first_said total text.now line rest within is)
      ∙ adds (total - length text.now) (steps_left total rest)

  -- a line that is no step refuses the text
  pub line_wrong : (kind : FaultKind) → said_by line ≡ Err kind
      → all ≡ Err (record { kind = kind; place = total - length text.now })
  line_wrong kind wrong =
      read ∙ ap (behind_calls calls) (first_said total text.now line rest within is)
      ∙ ap (λ o. behind_calls calls (said_then (total - length text.now) o (steps_left total rest))) wrong

-- so it refuses the text, want of memory apart
pub text_refused : (bytes : List ℕ) (calls : List Call) (text : Bor (List ℕ)) (line : List ℕ)
    (rest : Option (Bor (List ℕ)))
    → length text.now ≤ length bytes → IsFirstTextLine text.now line rest
    → plan_of bytes ≡ behind_calls calls (steps_left (length bytes) (Some text)) → (fault : LineFault)
    → LineFails fault (said_by line) → Refuses (RefusesPlan bytes) (refusal_at fault (length bytes - length text.now))
text_refused bytes calls text line rest within is read (Wrong kind) wrong =
    line_wrong (length bytes) (plan_of bytes) calls text line rest within is read kind wrong
text_refused bytes calls text line rest within is read Memory wrong = tt
