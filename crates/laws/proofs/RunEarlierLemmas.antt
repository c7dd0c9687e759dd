-- What is said in protocol 1 by a table is said in protocol 2 too.
use Rattle.std.proofs.Common.{◌≡◌, ℕ, ◌∙◌, Bool, true, false, ◌&&◌, ◌==◌, append-nil, eqb-true, length, List, [], ◌∷◌, ◌++◌, refl, sym, subst, ap, Option, None, Some, All, bytes_eq, codes, if◌then◌else◌, slice_get}
use Rattle.std.proofs.lemmas.List.Elements.{All-cons, All-head, All-nil, All-tail}
use Rattle.std.proofs.lemmas.List.Splits.{slice_split_none}
use Rattle.std.specs.Cmp.{first_so, second_so}
use Rattle.std.specs.List.{list_all}
use Rattle.std.specs.Option.{is_none}
use Rattle.gen_lines.specs.Reply.{Reply, are_of_width, bad, ends, fields, has_bars, is_bar, is_value, is_value_byte, number, parted, reply_of, reply_of_fields, yield_reply, yields}
use Rattle.gen_lines.specs.declared.answer.Wanted.TheVariants as wanted
use Rattle.gen_lines.specs.declared.answer.Why.{Why}
use Rattle.gen_lines.specs.declared.answer.Why.TheVariants.{Count, Value}
use Rattle.round_run.specs.Dialogue.{called_stream}
use Rattle.laws.specs.RunTables.{EarlierTalksStay}
use Rattle.session_core.specs.Slots.{wanted_at}
use Rattle.task_model.specs.declared.stream.Stream.{Stream}
use Rattle.task_model.specs.declared.task.Task.{Task}
use Rattle.transcript_model.specs.Tables.{IsTable, IsTableRow, MayAnswer, TableRow, reply_in, same_call}
use Rattle.transcript_model.specs.declared.entry.Call.{Call}

-- ---- bars

no_second : (a : Bool) → (a && false) ≡ false
no_second true = refl
no_second false = refl

-- a byte of a value is no bar
no_bar_byte : (b : ℕ) → is_value_byte b ≡ true → (b == 124) ≡ false
no_bar_byte b e = by (b == 124) refl
  where
    by : (c : Bool) → (b == 124) ≡ c → (b == 124) ≡ false
    by false is = is
    by true is = let same : b ≡ 124 = eqb-true b 124 is in
        let both : true ≡ false = sym e ∙ ap is_value_byte same in absurd (cc)

no_bar : (field : List ℕ) → is_value field ≡ true → is_bar field ≡ false
unfolding is_value is_bar
no_bar [] e = refl
no_bar (b ∷ []) e = (rw (no_bar_byte b (first_so (is_value_byte b) true e)) refl)
no_bar (b ∷ c ∷ bs) e = no_second (b == 124)

no_bars : (given : List (List ℕ)) → list_all is_value given ≡ true → All (λ field. is_bar field ≡ false) given
no_bars [] e = All-nil (λ x. is_bar x ≡ false)
no_bars (field ∷ given) e =
    All-cons (λ x. is_bar x ≡ false) field given (no_bar field (first_so (is_value field) (list_all is_value given) e))
    (no_bars given (second_so (is_value field) (list_all is_value given) e))

-- ---- lines

module _ (width : ℕ) (given : List (List ℕ)) where
  -- what is no fault has nothing but values
  are_values : ((why : Why) → ¬ (yield_reply width (given ∷ []) ≡ bad why)) → list_all is_value given ≡ true
  are_values good = by (are_of_width width (given ∷ [])) (list_all is_value (given ++ [])) refl refl
    where
      by : (right values : Bool) → are_of_width width (given ∷ []) ≡ right → list_all is_value (given ++ []) ≡ values
          → list_all is_value given ≡ true
      by true true r v = subst (λ fs. list_all is_value fs ≡ true) (append-nil given) v
      by true false r v = absurd (good Value (rw (r, v) refl))
      by false values r v = absurd (good Count (rw r refl))

  same_parts : (bars : Bool) → (list_all is_value given ≡ true) → parted bars given ≡ given ∷ []
  same_parts true values = slice_split_none is_bar given (no_bars given values)
  same_parts false values = refl

  same_yield : ((why : Why) → ¬ (yield_reply width (given ∷ []) ≡ bad why))
      → yield_reply width (parted (has_bars width true) given) ≡ yield_reply width (given ∷ [])
  same_yield good = ap (yield_reply width) (same_parts (has_bars width true) (are_values good))

same_fields : (width : ℕ) (line : List (List ℕ))
    → ((why : Why) → ¬ (reply_of_fields (wanted.Outputs width false) line ≡ bad why))
    → reply_of_fields (wanted.Outputs width true) line ≡ reply_of_fields (wanted.Outputs width false) line
same_fields width [] good = refl
same_fields width (word ∷ given) good = by (bytes_eq word (codes "end")) (bytes_eq word (codes "yield")) refl refl
  where
    by : (ends yield : Bool) → bytes_eq word (codes "end") ≡ ends → bytes_eq word (codes "yield") ≡ yield
        → reply_of_fields (wanted.Outputs width true) (word ∷ given)
        ≡ reply_of_fields (wanted.Outputs width false) (word ∷ given)
    by true yield e y = (rw e refl)
    by false true e y = (rw (e, y) (same_yield width given (λ why is. good why (rw (e, y) is))))
    by false false e y = (rw (e, y) refl)

-- ---- tables

-- a table says nothing that may not stand
never_bad : (version : ℕ) (task : Task) (rows : List TableRow) → IsTable version task rows
    → (call : Call) (turn : ℕ) (why : Why)
    → ¬ (reply_in rows call turn ≡ bad why)
never_bad version task [] are call turn why = λ is. absurd (cc)
never_bad version task (row ∷ rows) are call turn why =
    by (same_call row.call call && (row.turn == turn))
    (never_bad version task rows (All-tail (IsTableRow version task) row rows are) call turn why)
  where
    no : (reply : Reply) (stream : Stream) → MayAnswer version stream reply → ¬ (reply ≡ bad why)
    no (yields tuples values) stream may is = absurd (cc)
    no (number value) stream may is = absurd (cc)
    no ends stream may is = absurd (cc)
    no (bad other) stream may is = absurd may

    first : IsTableRow version task row
    first = All-head (IsTableRow version task) row rows are

    by : (here : Bool) → ¬ (reply_in rows call turn ≡ bad why)
        → ¬ ((if here then row.reply else reply_in rows call turn) ≡ bad why)
    by true later = no row.reply first.stream first.may
    by false later = later

may_answer : (stream : Stream) (reply : Reply) → MayAnswer 1 stream reply → MayAnswer 2 stream reply
may_answer stream (yields tuples values) m = (
  m.0,
  record {
    some = m.1.some;
    few = m.1.few;
    one = λ e. absurd (cc);
    test = m.1.test;
    count = m.1.count;
    valid = m.1.valid;
  },
)
may_answer stream (number value) m = m
may_answer stream ends m = m
may_answer stream (bad why) m = m

table_stays : (task : Task) (rows : List TableRow) → IsTable 1 task rows → IsTable 2 task rows
table_stays task [] are = All-nil (IsTableRow 2 task)
table_stays task (row ∷ rows) are =
    let first = All-head (IsTableRow 1 task) row rows are in
    All-cons (IsTableRow 2 task) row rows
    (record {
      place = first.place;
      stream = first.stream;
      named = first.named;
      at = first.at;
      may = may_answer first.stream row.reply first.may;
    })
    (table_stays task rows (All-tail (IsTableRow 1 task) row rows are))

-- ---- talks

same_reply : (task : Task) (stream : ℕ) (line : List ℕ)
    → ((why : Why) → ¬ (reply_of line (wanted_at task 1 stream) ≡ bad why))
    → reply_of line (wanted_at task 2 stream) ≡ reply_of line (wanted_at task 1 stream)
same_reply task stream line = by (slice_get task.streams stream) refl
  where
    by : (found : Option Stream) → slice_get task.streams stream ≡ found
        → ((why : Why) → ¬ (reply_of line (wanted_at task 1 stream) ≡ bad why))
        → reply_of line (wanted_at task 2 stream) ≡ reply_of line (wanted_at task 1 stream)
    by None is good = (rw is refl)
    by (Some s) is good = of (is_none s.worth) refl
      where
        of : (costless : Bool) → is_none s.worth ≡ costless
            → reply_of line (wanted_at task 2 stream) ≡ reply_of line (wanted_at task 1 stream)
        of true none = (rw (is, none) (same_fields (length s.outputs) (fields line)
            (λ why failed. good why (rw (is, none) failed))))
        of false some = (rw (is, some) refl)

pub earlier_stay : EarlierTalksStay
earlier_stay task rows talk are speaks = (
  table_stays task rows are,
  λ place written heard q line asks answer.
      let first = speaks place written heard q line asks answer in
      same_reply task (called_stream task q.call) heard
      (λ why is. never_bad 1 task rows are q.call q.turn why (sym first ∙ is)) ∙ first,
)
