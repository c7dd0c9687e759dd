-- Plain runs over answers that are the same to their requests, and tables of the grid's answers.
use Rattle.std.proofs.Common.{◌≡◌, ℕ, suc, ◌-◌, ◌&&◌, ◌==◌, Bool, true, false, cond, List, [], ◌∷◌, ◌++◌, All, Contains, take, count_by, refl, sym, ap, subst, ◌∙◌, arith, inl, inr, eq-eqb, eqb-true}
use Rattle.std.proofs.lemmas.Bool.{and_from, and_parts}
use Rattle.std.proofs.lemmas.List.Elements.{Contains-append_left, Contains-append_right}
use Rattle.std.specs.List.{filter}
use Rattle.grid_play.specs.Replies.{grid_replies}
use Rattle.laws.specs.GridLaws.{GridTablesAnswer}
use Rattle.grid_text.specs.Grids.{GridFile}
use Rattle.lemmas.proofs.Ascending.{contains_cases, contains_here, contains_later, contains_none}
use Rattle.lemmas.proofs.Bools.{not_both}
use Rattle.lemmas.proofs.Members.{member_at, place_of}
use Rattle.turn_laws.proofs.PlainLevelLemmas.{in_filter}
use Rattle.table_runs.proofs.AskingPlaceLemmas.{passed_place}
use Rattle.task_model.specs.declared.stream.Instance.{Instance}
use Rattle.task_model.specs.declared.task.Task.{Task}
use Rattle.transcript_model.specs.Legal.{asks_of, is_ask}
use Rattle.transcript_model.specs.Plain.{IsAsPlain, IsPlainRun, PlainEnd, closed, cut, level, level_of, limit_calls, solved, spent, too_many}
use Rattle.transcript_model.specs.Rounds.{requests}
use Rattle.transcript_model.specs.Tables.{Answers, TableRow, answers_to, entry_of_reply, reply_in, same_call}
use Rattle.transcript_model.specs.declared.entry.Call.{Call}
use Rattle.transcript_model.specs.declared.entry.Entry.{Entry}
use Rattle.transcript_model.specs.declared.entry.Entry.TheVariants as entry
use Rattle.transcript_model.specs.declared.outcome.Outcome.{Outcome}
use Rattle.turn_laws.proofs.OwnLemmas.{call_itself, calls_same}

-- ---- a plain run over other answers

-- to these requests both answer the same
abbrev pub SameTo : Answers → Answers → List Entry → Type 0
SameTo a b entries = (n turn : ℕ) (call : Call) → Contains entries (entry.Ask n turn call) → a call turn ≡ b call turn

module _ (a b : Answers) where
  answers_same : (es : List Entry) → SameTo a b es → answers_to a es ≡ answers_to b es
  answers_same [] same = refl
  answers_same (entry.Ask n turn call ∷ es) same =
      let here = same n turn call (contains_here (entry.Ask n turn call) es) in
      let rest = answers_same es (λ m t c inside. same m t c (contains_later (entry.Ask n turn call) es (entry.Ask m t c) inside)) in
      (λ k. entry_of_reply n (here k) ++ rest k)
  answers_same (e ∷ es) same = answers_same es (λ m t c inside. same m t c (contains_later e es (entry.Ask m t c) inside))

  module _ (task : Task) (calls : ℕ) where
    level_same : (before : List Entry) (list : List Instance) → SameTo a b (level_of task a calls before list)
        → level_of task a calls before list ≡ level_of task b calls before list
    level_same before list same =
        let asks = requests task before (take (calls - asks_of before) list) in
        let asked : SameTo a b asks = λ n turn call inside. same n turn call
        (contains_later entry.Level (asks ++ answers_to a asks) (entry.Ask n turn call)
        (Contains-append_left asks (answers_to a asks) (entry.Ask n turn call) inside)) in
        ap (λ es. entry.Level ∷ asks ++ es) (answers_same asks asked)

    pub other_run : {before rest : List Entry} {end : PlainEnd} → IsPlainRun task a calls before rest end → SameTo a b rest
        → IsPlainRun task b calls before rest end
    other_run (solved s) same = solved s
    other_run (too_many u m) same = too_many u m
    other_run (closed u n) same = closed u n
    other_run (spent list goes le) same = spent list goes le
    other_run {before} (cut list goes some more) same =
        let levels = level_same before list same in
        subst (λ es. IsPlainRun task b calls before es limit_calls) (sym levels) (cut list goes some more)
    other_run {before} (level {rest} {end} list goes few run) same =
        let now = level_of task a calls before list in
        let levels = level_same before list (λ n turn call inside. same n turn call
        (Contains-append_left now rest (entry.Ask n turn call) inside)) in
        let later = other_run run (λ n turn call inside. same n turn call
        (Contains-append_right now rest (entry.Ask n turn call) inside)) in
        subst (λ es. IsPlainRun task b calls before (es ++ rest) end) (sym levels)
        (level list goes few (subst (λ es. IsPlainRun task b calls (before ++ es) rest end) levels later))

    -- a run that is as one plain run is as the other
    pub other_plain : (entries : List Entry) (o : Outcome) → SameTo a b entries → IsAsPlain task a calls entries o
        → IsAsPlain task b calls entries o
    other_plain entries o same like = record {
      plain = like.plain;
      end = like.end;
      run = other_run like.run (λ n turn call inside. same n turn call (there n turn call inside));
      same = like.same;
      known = like.known;
      ends = like.ends;
    }
      where
        there : (n turn : ℕ) (call : Call) → Contains like.plain (entry.Ask n turn call) → Contains entries (entry.Ask n turn call)
        there n turn call inside =
            let e = entry.Ask n turn call in
            let at = place_of like.plain e inside in
            let passed = passed_place is_ask like.plain at.0 e at.1 refl in
            in_filter is_ask entries e
            (subst (λ es. Contains es e) (sym like.same.asks)
            (member_at (filter is_ask like.plain) (count_by is_ask (take at.0 like.plain)) e passed))

-- ---- tables

module _ (grid : GridFile) (call : Call) (turn : ℕ) where
  -- a row of the request
  abbrev HasRow : List TableRow → Type 0
  HasRow rows = (row : TableRow) × Contains rows row × (row.call ≡ call) × (row.turn ≡ turn)

  -- a row of the request passes the test
  not_here : (row other : TableRow) → (same_call row.call call && (row.turn == turn)) ≡ false → row ≡ other → other.call ≡ call
      → other.turn ≡ turn → ⊥
  not_here row other e same calls turns =
      let all : (same_call row.call call && (row.turn == turn)) ≡ true =
      (λ k. same_call (same k).call call && ((same k).turn == turn)) ∙ (λ k. same_call (calls k) call && ((turns k) == turn))
      ∙ and_from (same_call call call) (turn == turn) (call_itself call) (eq-eqb turn turn refl) in
      not_both (same_call row.call call && (row.turn == turn)) all e

  row_by : (t : Bool) (row : TableRow) (rows : List TableRow) → (same_call row.call call && (row.turn == turn)) ≡ t
      → row.reply ≡ grid_replies grid row.call row.turn → HasRow (row ∷ rows)
      → (HasRow rows → reply_in rows call turn ≡ grid_replies grid call turn)
      → cond t row.reply (reply_in rows call turn) ≡ grid_replies grid call turn
  row_by true row rows e right has later =
      let both = and_parts (same_call row.call call) (row.turn == turn) e in
      let calls = calls_same row.call call both.0 in
      let turns : row.turn ≡ turn = eqb-true row.turn turn both.1 in
      right ∙ (λ k. grid_replies grid (calls k) (turns k))
  row_by false row rows e right has later =
      elim (contains_cases row rows has.0 has.1) as (λ c. reply_in rows call turn ≡ grid_replies grid call turn) [
        | inl same ↦ absurd (not_here row has.0 e same has.2 has.3)
        | inr inside ↦ later (has.0, inside, has.2, has.3)
      ]

  table_replies : (rows : List TableRow) → All (λ (row : TableRow). row.reply ≡ grid_replies grid row.call row.turn) rows
      → HasRow rows → reply_in rows call turn ≡ grid_replies grid call turn
  table_replies [] right has = absurd (contains_none has.0 has.1)
  table_replies (row ∷ rows) right has =
      row_by (same_call row.call call && (row.turn == turn)) row rows refl (right 0 row (omega arith)) has
      (λ more. table_replies rows (λ k d lt. right (suc k) d (omega arith)) more)

pub tables_answer : GridTablesAnswer
tables_answer grid rows entries table n turn call inside = table_replies grid call turn rows table.right (table.each n turn call inside)
