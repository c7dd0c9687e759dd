-- What is said with the grid's generator.
use Rattle.std.proofs.Common.{◌≡◌, ℕ, zero, suc, ◌+◌, ◌-◌, ◌<◌, ◌≤◌, ◌^◌, Bool, true, false, ◌&&◌, nat_lt, cond, All, List, [], ◌∷◌, ◌++◌, codes, length, take, None, Some, slice_get, unwrap_or, refl, sym, ap, ◌∙◌, arith, append_assoc, inl, inr}
use Rattle.gen_lines.proofs.LinesLemmas.{ended_cons}
use Rattle.gen_lines.specs.Lines.{is_feed, lines_of}
use Rattle.gen_lines.specs.Reply.{fields, is_filled, reply_of}
use Rattle.gen_lines.specs.declared.answer.Wanted.{Wanted}
use Rattle.gen_lines.specs.declared.answer.Wanted.TheVariants.{Outputs}
use Rattle.laws.proofs.GridAnswerLemmas.{NameSays, Which, is_clear, is_grasp, is_other, is_place, is_reach, name_says, which, width_of}
use Rattle.laws.proofs.GridBoundLemmas.{IsSmallGrid, read_is_small}
use Rattle.laws.proofs.GridValueLemmas.{Says, end_reads, end_says}
use Rattle.laws.specs.Grid.{HasGridStreams, HasStream}
use Rattle.grid_play.specs.Replies.{grid_replies, reply_of_answer}
use Rattle.laws.specs.GridLaws.{GridTalksAreTheGrid}
use Rattle.grid_text.specs.Grids.{GridFile}
use Rattle.grid_text.specs.Numbers.{is_decimal}
use Rattle.grid_world.specs.AnswerLines.{answer_to_line, line_of_answer, replies_to}
use Rattle.grid_world.specs.Answers.{answer_in, answer_to}
use Rattle.grid_world.specs.Asks.{ask_of, ask_to, is_next}
use Rattle.grid_world.specs.Words.{served_stream}
use Rattle.grid_world.specs.declared.answer.GridAnswer.{GridAnswer}
use Rattle.lemmas.proofs.Options.{none_at, same_some, where_true}
use Rattle.round_run.specs.Dialogue.{called_stream}
use Rattle.session_core.specs.Slots.{wanted_at, wanted_of}
use Rattle.std.proofs.lemmas.Bool.{and_parts, cases_lt}
use Rattle.std.proofs.lemmas.Bool.Decides.{nat_tests}
use Rattle.std.proofs.lemmas.List.{length-append, take-append-le}
use Rattle.std.proofs.lemmas.List.Splits.{length-slice_split, slice_split_at, slice_split_none}
use Rattle.std.proofs.lemmas.List.Sums.{AllPass-from_list_all}
use Rattle.std.proofs.Math.Seq.{take-append-add}
use Rattle.std.specs.Char.{is_ascii_digit}
use Rattle.std.specs.List.{list_all, slice_split}
use Rattle.std.specs.Str.{bytes_eq}
use Rattle.std.specs.Str.Parse.{digits_value}
use Rattle.table_runs.specs.Asking.{Asking, asked_by, asking_of}
use Rattle.task_model.specs.declared.task.Task.{Task}
use Rattle.transcript_model.specs.Names.{stream_named}
use Rattle.transcript_model.specs.declared.entry.Call.{Call}
use Rattle.gen_lines.proofs.RequestReadBack.{no_feed, no_return, stays}

-- ---- lines of a front

line_then : (text later : List ℕ) → list_all stays text ≡ true → lines_of (text ++ 10 ∷ later) ≡ text ∷ lines_of later
line_then text later e =
    let all : All (λ b. is_feed b ≡ false) text = λ k d lt. no_feed _ (AllPass-from_list_all stays text e k d lt) in
    let parts : slice_split is_feed (text ++ 10 ∷ later) ≡ text ∷ slice_split is_feed later =
    slice_split_at is_feed text 10 later all refl in
    let ended_here = ended_cons text (slice_split is_feed later) (omega (arith, length-slice_split is_feed later)) in
    rw (parts, ended_here, no_return text e) refl

front_stays : (text : List ℕ) (n : ℕ) → list_all stays text ≡ true → list_all stays (take n text) ≡ true
front_stays text zero e = refl
front_stays [] (suc n) e = refl
front_stays (b ∷ bs) (suc n) e =
    let p = and_parts (stays b) (list_all stays bs) e in
    rw (p.0, front_stays bs n p.1) refl

no_line : (text : List ℕ) → list_all stays text ≡ true → lines_of text ≡ []
no_line text e =
    let all : All (λ b. is_feed b ≡ false) text = λ k d lt. no_feed _ (AllPass-from_list_all stays text e k d lt) in
    rw (slice_split_none is_feed text all) refl

answer_line : (grid : GridFile) (line : List ℕ) → answer_to_line grid line ≡ line_of_answer (answer_in grid line) ++ 10 ∷ []
unfolding answer_to_line
answer_line grid line = refl

-- what is read of a front of the answers: the lines of the answers that are whole in it
module _ (grid : GridFile) (whole : (line : List ℕ) → list_all stays (line_of_answer (answer_in grid line)) ≡ true) where
  -- the line at a place is the answer to the request at this place
  abbrev AnswersAt : List (List ℕ) → ℕ → List ℕ → Type 0
  AnswersAt requests place heard =
      (line : List ℕ) × (slice_get requests place ≡ Some line) × (heard ≡ line_of_answer (answer_in grid line))

  front_short : (line rest : List ℕ) (n : ℕ) → n ≤ length (line_of_answer (answer_in grid line))
      → lines_of (take n (answer_to_line grid line ++ rest)) ≡ []
  front_short line rest n short =
      let text = line_of_answer (answer_in grid line) in
      let cut : take n (answer_to_line grid line ++ rest) ≡ take n text =
      ap (λ t. take n (t ++ rest)) (answer_line grid line)
      ∙ take-append-le n (text ++ 10 ∷ []) rest (omega (arith, short, length-append text (10 ∷ [])))
      ∙ take-append-le n text (10 ∷ []) short in
      ap lines_of cut ∙ no_line (take n text) (front_stays text n (whole line))

  front_long : (line rest : List ℕ) (n : ℕ) → length (line_of_answer (answer_in grid line)) < n
      → lines_of (take n (answer_to_line grid line ++ rest))
      ≡ line_of_answer (answer_in grid line) ∷ lines_of (take (n - (length (line_of_answer (answer_in grid line)) + 1)) rest)
  front_long line rest n long =
      let text = line_of_answer (answer_in grid line) in
      let left = n - (length text + 1) in
      let count : length (text ++ 10 ∷ []) + left ≡ n = omega (arith, long, length-append text (10 ∷ [])) in
      let cut : take n (answer_to_line grid line ++ rest) ≡ text ++ 10 ∷ take left rest =
      ap (λ t. take n (t ++ rest)) (answer_line grid line) ∙ ap (λ k. take k ((text ++ 10 ∷ []) ++ rest)) (sym count)
      ∙ take-append-add (text ++ 10 ∷ []) rest left ∙ append_assoc text (10 ∷ []) (take left rest) in
      ap lines_of cut ∙ line_then text (take left rest) (whole line)

  -- behind the first answer, where it is whole in the front
  later_at : (line heard : List ℕ) (requests rest : List (List ℕ)) (place : ℕ)
      → ((k : ℕ) → slice_get rest k ≡ Some heard → AnswersAt requests k heard)
      → slice_get (line_of_answer (answer_in grid line) ∷ rest) place ≡ Some heard → AnswersAt (line ∷ requests) place heard
  later_at line heard requests rest zero later at =
      let same : line_of_answer (answer_in grid line) ≡ heard = cc in
      (line, refl, sym same)
  later_at line heard requests rest (suc k) later at = later k at

  front_at : (requests : List (List ℕ)) (n place : ℕ) (heard : List ℕ)
      → slice_get (lines_of (take n (replies_to grid requests))) place ≡ Some heard → AnswersAt requests place heard
  front_at [] zero place heard at = absurd (none_at place heard at)
  front_at [] (suc n) place heard at = absurd (none_at place heard at)
  front_at (line ∷ requests) n place heard at =
      let left = n - (length (line_of_answer (answer_in grid line)) + 1) in
      elim (cases_lt (length (line_of_answer (answer_in grid line))) n) [
        | inl long ↦ later_at line heard requests (lines_of (take left (replies_to grid requests))) place
            (λ k there. front_at requests left k heard there)
            (ap (λ ls. slice_get ls place) (sym (front_long line (replies_to grid requests) n long)) ∙ at)
        | inr short ↦ absurd (none_at place heard
            (ap (λ ls. slice_get ls place) (sym (front_short line (replies_to grid requests) n short)) ∙ at))
      ]

-- ---- what a line asks

-- These fields ask so.
record AreAsking (given : List (List ℕ)) (q : Asking) : Type 0 where
  next : List ℕ
  turn : List ℕ
  are : given ≡ next ∷ turn ∷ q.call.name ∷ q.call.args
  begins : bytes_eq next (codes "next") ≡ true
  filled : is_filled turn ≡ true
  digits : list_all is_ascii_digit turn ≡ true
  value : digits_value 10 turn ≡ q.turn

are_asking : (given : List (List ℕ)) (q : Asking) → asking_of given ≡ Some q → AreAsking given q
are_asking [] q e = absurd (cc)
are_asking (next ∷ []) q e = absurd (cc)
are_asking (next ∷ turn ∷ []) q e = absurd (cc)
are_asking (next ∷ turn ∷ name ∷ args) q e =
    let asked : Asking = record { turn = digits_value 10 turn; call = record { name = name; args = args } } in
    let test = where_true (bytes_eq next (codes "next") && (is_filled turn && list_all is_ascii_digit turn)) (Some asked) q e in
    let p = and_parts (bytes_eq next (codes "next")) (is_filled turn && list_all is_ascii_digit turn) test.0 in
    let d = and_parts (is_filled turn) (list_all is_ascii_digit turn) p.1 in
    let same : asked ≡ q = cc in
    record {
      next = next;
      turn = turn;
      are = (λ k. next ∷ turn ∷ (same k).call.name ∷ (same k).call.args);
      begins = p.0;
      filled = d.0;
      digits = d.1;
      value = (λ k. (same k).turn);
    }

-- what the grid is asked by such fields, if the number is one of 32 bits
ask_by : (next turn name : List ℕ) (args : List (List ℕ)) → bytes_eq next (codes "next") ≡ true → is_filled turn ≡ true
    → list_all is_ascii_digit turn ≡ true
    → ask_of (next ∷ turn ∷ name ∷ args)
    ≡ cond (nat_lt (digits_value 10 turn) (2 ^ 32)) (ask_to (digits_value 10 turn) args (served_stream name)) None
unfolding is_next is_decimal
ask_by next turn name args begins filled digits = rw (begins, filled, digits) refl

module _ (grid : GridFile) (small : IsSmallGrid grid) where
  turn_by : (b : Bool) (turn : ℕ) (name : List ℕ) (args : List (List ℕ)) → nat_lt turn (2 ^ 32) ≡ b
      → answer_to grid (cond b (ask_to turn args (served_stream name)) None) ≡ answer_to grid (ask_to turn args (served_stream name))
  turn_by true turn name args e = refl
  turn_by false turn name args e =
      let past : 2 ^ 32 ≤ turn = grind (arith, nat_tests, e) in
      sym ((name_says grid small name args (which name)).past turn (omega (arith, past)))

  answer_asked : (line : List ℕ) (q : Asking) → asked_by line ≡ Some q
      → answer_in grid line ≡ answer_to grid (ask_to q.turn q.call.args (served_stream q.call.name))
  answer_asked line q asks =
      let a = are_asking (fields line) q asks in
      ap (λ given. answer_to grid (ask_of given)) a.are
      ∙ ap (answer_to grid) (ask_by a.next a.turn q.call.name q.call.args a.begins a.filled a.digits)
      ∙ turn_by (nat_lt (digits_value 10 a.turn) (2 ^ 32)) (digits_value 10 a.turn) q.call.name q.call.args refl
      ∙ ap (λ n. answer_to grid (ask_to n q.call.args (served_stream q.call.name))) a.value

  -- the line of the answer to any fields
  fields_stay : (given : List (List ℕ)) → list_all stays (line_of_answer (answer_to grid (ask_of given))) ≡ true
  fields_stay [] = (end_says 0).stays
  fields_stay (next ∷ []) = (end_says 0).stays
  fields_stay (next ∷ turn ∷ []) = (end_says 0).stays
  fields_stay (next ∷ turn ∷ name ∷ args) = by (is_next next) (is_decimal turn)
    where
      by : (a b : Bool)
          → list_all stays
          (line_of_answer (answer_to grid (cond a (cond b (ask_to (digits_value 10 turn) args (served_stream name)) None) None)))
          ≡ true
      by true true = ((name_says grid small name args (which name)).each (digits_value 10 turn)).stays
      by true false = (end_says 0).stays
      by false b = (end_says 0).stays

  answer_stays : (line : List ℕ) → list_all stays (line_of_answer (answer_in grid line)) ≡ true
  answer_stays line = fields_stay (fields line)

-- ---- the task's streams

stream_wanted : (task : Task) (name : List ℕ) (outputs : ℕ) → HasStream task name outputs → (call : Call) → name ≡ call.name
    → wanted_at task 1 (called_stream task call) ≡ Outputs outputs false
stream_wanted task name outputs has call is =
    let named : stream_named task name ≡ Some has.place = has.named in
    let at : slice_get task.streams has.place ≡ Some has.stream = has.at in
    let place : called_stream task call ≡ has.place = ap (λ n. unwrap_or (stream_named task n) 0) (sym is) ∙ rw named refl in
    let there : wanted_at task 1 has.place ≡ wanted_of 1 has.stream = rw at refl in
    let plain : has.stream.worth ≡ None = has.plain in
    let width : length has.stream.outputs ≡ outputs = has.width in
    ap (wanted_at task 1) place ∙ there ∙ rw (plain, width) refl

-- ---- the law

module _ (task : Task) (has : HasGridStreams task) (grid : GridFile) (small : IsSmallGrid grid) (q : Asking) where
  abbrev asked : GridAnswer
  asked = answer_to grid (ask_to q.turn q.call.args (served_stream q.call.name))

  abbrev wanted : Wanted
  wanted = wanted_at task 1 (called_stream task q.call)

  right_reads : (outputs : ℕ) → wanted ≡ Outputs outputs false → Says outputs asked
      → reply_of (line_of_answer asked) wanted ≡ reply_of_answer asked
  right_reads outputs is says = ap (reply_of (line_of_answer asked)) is ∙ says.reads

  asked_reads : (w : Which q.call.name) → NameSays grid (width_of w) q.call.name q.call.args
      → reply_of (line_of_answer asked) wanted ≡ reply_of_answer asked
  asked_reads (is_place e) says = right_reads 1 (stream_wanted task (codes "place") 1 has.place q.call e) (says.each q.turn)
  asked_reads (is_grasp e) says = right_reads 1 (stream_wanted task (codes "grasp") 1 has.grasp q.call e) (says.each q.turn)
  asked_reads (is_reach e) says = right_reads 1 (stream_wanted task (codes "reach") 1 has.reach q.call e) (says.each q.turn)
  asked_reads (is_clear e) says = right_reads 0 (stream_wanted task (codes "clear") 0 has.clear q.call e) (says.each q.turn)
  asked_reads (is_other e) says = rw e (end_reads wanted)

  line_reads : (line : List ℕ) → asked_by line ≡ Some q
      → reply_of (line_of_answer (answer_in grid line)) wanted ≡ grid_replies grid q.call q.turn
  line_reads line asks =
      ap (λ a. reply_of (line_of_answer a) wanted) (answer_asked grid small line q asks)
      ∙ asked_reads (which q.call.name) (name_says grid small q.call.name q.call.args (which q.call.name))

pub grid_talks : GridTalksAreTheGrid
grid_talks task text session has read place written heard q written_at asks heard_at =
    let grid = session.grid in
    let small = read_is_small text grid read in
    let f = front_at grid (answer_stays grid small) (lines_of session.written) session.given place heard heard_at in
    let same : f.0 ≡ written = same_some (slice_get (lines_of session.written) place) f.0 written f.1 written_at in
    ap (λ t. reply_of t (wanted_at task 1 (called_stream task q.call))) (f.2 ∙ ap (λ l. line_of_answer (answer_in grid l)) same)
    ∙ line_reads task has grid small q written asks
