-- A report is read back from its lines.
use Rattle.std.proofs.Common.{◌≡◌, ℕ, zero, suc, ◌+◌, ◌<◌, ◌≤◌, ◌^◌, ◌-◌, ◌/◌, ◌⊎◌, inl, inr, arith, Bool, true, false, cond, ◌&&◌, ◌==◌, not, List, [], ◌∷◌, ◌++◌, map, filter, take, drop, length, refl, sym, subst, ap, ◌∙◌, All, append_assoc, codes, Option, Some, None, eqb-true, if◌then◌else◌}
use Rattle.std.proofs.Math.Seq.{take-append_seam, drop-append_seam}
use Rattle.std.proofs.lemmas.Fmt.{decimal_is_IsNumeral}
use Rattle.std.proofs.lemmas.List.{take-append-drop, length-map}
use Rattle.std.proofs.lemmas.List.Elements.{filter-append}
use Rattle.std.proofs.lemmas.List.Folds.{list_all-append}
use Rattle.std.proofs.lemmas.List.Sums.{sum_by-append}
use Rattle.std.specs.Cmp.{first_so, second_so}
use Rattle.std.specs.Fmt.{decimal}
use Rattle.std.specs.List.{list_all, flat_map, count_by}
use Rattle.std.specs.Str.{bytes_eq}
use Rattle.std.specs.Str.Parse.{digits_value}
use Rattle.gen_lines.specs.Reply.{is_value, is_value_byte}
use Rattle.report_text.specs.Forms.{IsNumber, IsSmall, IsFormedUse, IsFormedEntry, IsFormedOrigin, IsFormedOutcome}
use Rattle.report_text.specs.Texts.{Line, line, tuples_of, tuple_fields, use_line, step_line, do_line, from_line, limit_word, entry_lines, outcome_lines, done_line}
use Rattle.transcript_model.specs.declared.entry.Call.{Call}
use Rattle.transcript_model.specs.declared.entry.DreamUse.{DreamUse}
use Rattle.transcript_model.specs.declared.entry.Entry.{Entry}
use Rattle.transcript_model.specs.declared.entry.Entry.TheVariants as entry
use Rattle.transcript_model.specs.declared.outcome.LimitKind.{LimitKind}
use Rattle.transcript_model.specs.declared.outcome.LimitKind.TheVariants.{Calls, States, Instances}
use Rattle.transcript_model.specs.declared.outcome.Origin.{Origin}
use Rattle.transcript_model.specs.declared.outcome.Outcome.{Outcome}
use Rattle.transcript_model.specs.declared.outcome.Outcome.TheVariants as outcome
use Rattle.report_text.proofs.FormsLemmas.{each_passes}

-- ---- fields

abbrev number_in : List ℕ → ℕ
number_in field = digits_value 10 field

pub number_back : (n : ℕ) → n < 2 ^ 64 → number_in (decimal n) ≡ n
number_back n lt = (decimal_is_IsNumeral n lt).1

pub back_32 : (n : ℕ) → IsNumber n → number_in (decimal n) ≡ n
back_32 n le = number_back n (omega arith)

pub back_8 : (n : ℕ) → IsSmall n → number_in (decimal n) ≡ n
back_8 n le = number_back n (omega arith)

abbrev pub is_word : List ℕ → Line → Bool
is_word word l = bytes_eq l.first word

abbrev call_in : List (List ℕ) → Call
call_in [] = record { name = []; args = [] }
call_in (name ∷ args) = record { name = name; args = args }

abbrev pub first_number : List (List ℕ) → ℕ
first_number [] = 0
first_number (n ∷ fields) = number_in n

abbrev pub after_first : List (List ℕ) → List (List ℕ)
after_first [] = []
after_first (n ∷ fields) = fields

-- ---- tuples

abbrev is_bar : List ℕ → Bool
is_bar field = bytes_eq field (codes "|")

abbrev is_no_bar : List ℕ → Bool
is_no_bar field = not (is_bar field)

value_no_bar : (value : List ℕ) → is_value value ≡ true → is_no_bar value ≡ true
unfolding is_value
value_no_bar [] e = absurd (cc)
value_no_bar (b ∷ bs) e =
    let bytes = second_so _ (list_all is_value_byte (b ∷ bs)) e in
    let first = first_so (is_value_byte b) (list_all is_value_byte bs) bytes in
    elim (b == 124) as (λ c. (b == 124) ≡ c → not (c && bytes_eq bs []) ≡ true) [
      | true ↦ λ same. let reserved : is_value_byte 124 ≡ true = subst (λ x. is_value_byte x ≡ true) (eqb-true b 124 same) first in
          absurd (cc)
      | false ↦ λ _. refl
    ] refl

kept : {A : Type 0} (p : A → Bool) (xs : List A) → list_all p xs ≡ true → filter p xs ≡ xs
kept p [] e = refl
kept p (x ∷ xs) e =
    rw (first_so (p x) (list_all p xs) e, kept p xs (second_so (p x) (list_all p xs) e)) refl

none_counted : (xs : List (List ℕ)) → list_all is_no_bar xs ≡ true → count_by is_bar xs ≡ 0
none_counted [] e = refl
none_counted (x ∷ xs) e =
    let rest = none_counted xs (second_so (is_no_bar x) (list_all is_no_bar xs) e) in
    let one : count_by is_bar (x ∷ []) ≡ 0 = single (is_bar x) (first_so (is_no_bar x) (list_all is_no_bar xs) e) in
    omega (arith, sum_by-append (λ y. cond (is_bar y) 1 0) (x ∷ []) xs, one, rest)
  where
    single : (b : Bool) → not b ≡ true → 0 + cond b 1 0 ≡ 0
    single true e = absurd (cc)
    single false e = refl

bars_counted : (width bars : ℕ) (values : List (List ℕ)) → list_all is_no_bar values ≡ true
    → (filter is_no_bar (tuples_of width bars values) ≡ values) × (count_by is_bar (tuples_of width bars values) ≡ bars)
bars_counted width zero values e = (kept is_no_bar values e, none_counted values e)
bars_counted width (suc bars) values e =
    let parts : (list_all is_no_bar (take width values) && list_all is_no_bar (drop width values)) ≡ true =
    sym (list_all-append is_no_bar (take width values) (drop width values)) ∙ ap (list_all is_no_bar) (take-append-drop width values)
    ∙ e in
    let front = first_so (list_all is_no_bar (take width values)) (list_all is_no_bar (drop width values)) parts in
    let rest = bars_counted width bars (drop width values)
    (second_so (list_all is_no_bar (take width values)) (list_all is_no_bar (drop width values)) parts) in
    let later = tuples_of width bars (drop width values) in (
      filter-append is_no_bar (take width values) (codes "|" ∷ later) ∙ (λ i. kept is_no_bar (take width values) front i ++ rest.0 i)
          ∙ take-append-drop width values,
      counted later (sum_by-append (λ y. cond (is_bar y) 1 0) (take width values) (codes "|" ∷ later))
          (sum_by-append (λ y. cond (is_bar y) 1 0) (codes "|" ∷ []) later) (none_counted (take width values) front) rest.1,
    )
  where
    counted : (later : List (List ℕ))
        → count_by is_bar (take width values ++ codes "|" ∷ later)
        ≡ count_by is_bar (take width values) + count_by is_bar (codes "|" ∷ later)
        → count_by is_bar (codes "|" ∷ later) ≡ 1 + count_by is_bar later → count_by is_bar (take width values) ≡ 0
        → count_by is_bar later ≡ bars → count_by is_bar (take width values ++ codes "|" ∷ later) ≡ suc bars
    counted later whole one front rest = omega (arith, whole, one, front, rest)

-- ---- entries

pub use_in : Line → DreamUse
use_in l = record { number = first_number l.more; call = call_in (after_first l.more) }

abbrev call_on : Line → Call
call_on l = call_in l.more

abbrev dream_in : ℕ → ℕ → List Line → Option (Entry × List Line)
dream_in uses steps rest =
    Some (entry.Dream (map use_in (take uses rest)) (map call_on (take steps (drop uses rest))), drop steps (drop uses rest))

abbrev ask_in : List (List ℕ) → Entry
ask_in fields = entry.Ask (first_number fields) (first_number (after_first fields)) (call_in (after_first (after_first fields)))

abbrev got_in : List (List ℕ) → Entry
got_in fields = entry.Got (first_number fields) (count_by is_bar (after_first fields) + 1) (filter is_no_bar (after_first fields))

-- the first entry of a list of lines, and what is behind it
abbrev read_entry : List Line → Option (Entry × List Line)
read_entry [] = None
read_entry (l ∷ rest) =
    if is_word (codes "level") l then Some (entry.Level, rest)
    else if is_word (codes "ask") l then Some (ask_in l.more, rest)
    else if is_word (codes "got") l then Some (got_in l.more, rest)
    else if is_word (codes "value") l then Some (entry.Value (first_number l.more) (first_number (after_first l.more)), rest)
    else if is_word (codes "end") l then Some (entry.End (first_number l.more), rest)
    else if is_word (codes "dream") l then dream_in (first_number l.more) (first_number (after_first l.more)) rest
    else if is_word (codes "none") l then Some (entry.Nothing, rest)
    else if is_word (codes "reset") l then Some (entry.Reset, rest)
    else if is_word (codes "pick") l then Some (entry.Pick (first_number l.more), rest)
    else if is_word (codes "retire") l then Some (entry.Retire (first_number l.more), rest)
    else None

uses_back : (uses : List DreamUse) → All IsFormedUse uses → map use_in (map use_line uses) ≡ uses
unfolding use_in
uses_back [] all = refl
uses_back (u ∷ uses) all =
    let first : use_in (use_line u) ≡ u = ap (λ n. record { number = n; call = u.call }) (back_32 u.number (all 0 u (omega arith)).0) in
    let rest = uses_back uses (λ k d lt. all (suc k) d (omega arith)) in
    λ i. first i ∷ rest i

steps_back : (steps : List Call) → map call_on (map step_line steps) ≡ steps
steps_back [] = refl
steps_back (c ∷ cs) = ap (λ rest. c ∷ rest) (steps_back cs)

dos_back : (steps : List Call) → map call_on (map do_line steps) ≡ steps
dos_back [] = refl
dos_back (c ∷ cs) = ap (λ rest. c ∷ rest) (dos_back cs)

front_taken : {A : Type 0} (n : ℕ) (xs ys : List A) → n ≡ length xs → take n (xs ++ ys) ≡ xs
front_taken n xs ys e = ap (λ m. take m (xs ++ ys)) e ∙ take-append_seam xs ys

front_dropped : {A : Type 0} (n : ℕ) (xs ys : List A) → n ≡ length xs → drop n (xs ++ ys) ≡ ys
front_dropped n xs ys e = ap (λ m. drop m (xs ++ ys)) e ∙ drop-append_seam xs ys

dream_back : (uses : List DreamUse) (steps : List Call) (rest : List Line) → All IsFormedUse uses
    → dream_in (length uses) (length steps) ((map use_line uses ++ map step_line steps) ++ rest) ≡ Some (entry.Dream uses steps, rest)
dream_back uses steps rest all =
    let us = map use_line uses in
    let ss = map step_line steps in
    let many_uses : length uses ≡ length us = sym (length-map uses use_line) in
    let many_steps : length steps ≡ length ss = sym (length-map steps step_line) in
    let whole : (us ++ ss) ++ rest ≡ us ++ (ss ++ rest) = append_assoc us ss rest in
    let first : take (length uses) ((us ++ ss) ++ rest) ≡ us =
    ap (take (length uses)) whole ∙ front_taken (length uses) us (ss ++ rest) many_uses in
    let behind : drop (length uses) ((us ++ ss) ++ rest) ≡ ss ++ rest =
    ap (drop (length uses)) whole ∙ front_dropped (length uses) us (ss ++ rest) many_uses in
    let second : take (length steps) (drop (length uses) ((us ++ ss) ++ rest)) ≡ ss =
    ap (take (length steps)) behind ∙ front_taken (length steps) ss rest many_steps in
    let last : drop (length steps) (drop (length uses) ((us ++ ss) ++ rest)) ≡ rest =
    ap (drop (length steps)) behind ∙ front_dropped (length steps) ss rest many_steps in
    let read_uses = ap (map use_in) first ∙ uses_back uses all in
    let read_steps = ap (map call_on) second ∙ steps_back steps in
    λ i. Some (entry.Dream (read_uses i) (read_steps i), last i)

entry_back : (version : ℕ) (e : Entry) (rest : List Line) → IsFormedEntry version e
    → read_entry (entry_lines e ++ rest) ≡ Some (e, rest)
entry_back version entry.Level rest formed = refl
entry_back version (entry.Ask number turn call) rest formed =
    rw (back_32 number formed.0, back_32 turn formed.1) refl
entry_back version (entry.Got number tuples values) rest formed =
    let counted =
    bars_counted (length values / tuples) (tuples - 1) values
    (each_passes is_no_bar (λ value. is_value value ≡ true) values value_no_bar formed.1.each) in
    let all_tuples : count_by is_bar (tuple_fields tuples values) + 1 ≡ tuples = omega (arith, counted.1, formed.1.some) in
    rw (back_32 number formed.0) (λ i. Some (entry.Got number (all_tuples i) (counted.0 i), rest))
entry_back version (entry.Value number value) rest formed =
    rw (back_32 number formed.0, number_back value (omega (arith, formed.1))) refl
entry_back version (entry.End number) rest formed = rw (back_32 number formed) refl
entry_back version (entry.Dream uses steps) rest formed =
    rw (back_32 (length uses) formed.0, back_32 (length steps) formed.1) (dream_back uses steps rest formed.2)
entry_back version entry.Nothing rest formed = refl
entry_back version entry.Reset rest formed = refl
entry_back version (entry.Pick number) rest formed = rw (back_32 number formed) refl
entry_back version (entry.Retire number) rest formed = rw (back_32 number formed) refl

-- so many entries, or as many as there are, and what is behind them
pub entries_in : ℕ → List Line → List Entry × List Line
entries_in zero lines = ([], lines)
entries_in (suc most) lines = after (λ rest. entries_in most rest) (read_entry lines)
  where
    after : (List Line → List Entry × List Line) → Option (Entry × List Line)
        → List Entry × List Line
    after later None = ([], lines)
    after later (Some r) = (r.0 ∷ (later r.1).0, (later r.1).1)

pub entries_back : (version : ℕ) (most : ℕ) (entries : List Entry) (tail : List Line)
    → length entries ≤ most
    → All (IsFormedEntry version) entries → read_entry tail ≡ None
    → entries_in most (flat_map entry_lines entries ++ tail) ≡ (entries, tail)
unfolding entries_in
entries_back version zero [] tail le all none = refl
entries_back version (suc most) [] tail le all none = rw none refl
entries_back version zero (e ∷ es) tail le all none = absurd (omega arith)
entries_back version (suc most) (e ∷ es) tail le all none =
    let rest = flat_map entry_lines es ++ tail in
    let whole : flat_map entry_lines (e ∷ es) ++ tail ≡ entry_lines e ++ rest =
    append_assoc (entry_lines e) (flat_map entry_lines es) tail in
    let first = entry_back version e rest (all 0 e (omega arith)) in
    let later = entries_back version most es tail (omega arith) (λ k d lt. all (suc k) d (omega arith)) none in
    rw (whole, first, later) refl

-- ---- outcomes

origin_in : Line → Origin
origin_in l = from l.more
  where
    from : List (List ℕ) → Origin
    from [] = record { object = []; number = 0; tuple = 1 }
    from (object ∷ []) = record { object = object; number = 0; tuple = 1 }
    from (object ∷ n ∷ []) = record { object = object; number = number_in n; tuple = 1 }
    from (object ∷ n ∷ tuple ∷ more) =
        record { object = object; number = number_in n; tuple = number_in tuple }

front_of : {A : Type 0} → List A → List A
front_of [] = []
front_of (x ∷ []) = []
front_of (x ∷ y ∷ ys) = x ∷ front_of (y ∷ ys)

front_back : {A : Type 0} (xs : List A) (y : A) → front_of (xs ++ y ∷ []) ≡ xs
unfolding front_of
front_back [] y = refl
front_back (x ∷ []) y = refl
front_back (x ∷ z ∷ zs) y = ap (λ ys. x ∷ ys) (front_back (z ∷ zs) y)

limit_in : List (List ℕ) → LimitKind
limit_in [] = Calls
limit_in (word ∷ more) = if bytes_eq word (codes "calls") then Calls else if bytes_eq word (codes "states") then States else Instances

-- the cost line and the origins behind it, before the last line
cost_in : List Line → List Call → Outcome
cost_in [] steps = outcome.NoPlan
cost_in (l ∷ rest) steps = outcome.Plan steps (first_number l.more) (map origin_in (front_of rest))

plan_in : ℕ → List Line → Outcome
plan_in steps rest = cost_in (drop steps rest) (map call_on (take steps rest))

pub outcome_in : List Line → Outcome
outcome_in [] = outcome.NoPlan
outcome_in (l ∷ rest) =
    if is_word (codes "plan") l then plan_in (first_number l.more) rest else if is_word (codes "limit") l
    then outcome.Limit (limit_in l.more) else outcome.NoPlan

origin_back : (version : ℕ) (o : Origin) → (version ≡ 1) ⊎ (version ≡ 2) → IsFormedOrigin version o
    → origin_in (from_line version o) ≡ o
unfolding origin_in
origin_back version o (inl one) formed =
    rw (one, back_32 o.number formed.number) (λ i. record { object = o.object; number = o.number; tuple = sym (formed.one one) i })
origin_back version o (inr two) formed =
    rw (two, back_32 o.number formed.number, back_8 o.tuple formed.tuple) refl

origins_back : (version : ℕ) (from : List Origin) → (version ≡ 1) ⊎ (version ≡ 2)
    → All (IsFormedOrigin version) from
    → map origin_in (map (from_line version) from) ≡ from
origins_back version [] is all = refl
origins_back version (o ∷ os) is all =
    let first = origin_back version o is (all 0 o (omega arith)) in
    let rest = origins_back version os is (λ k d lt. all (suc k) d (omega arith)) in
    λ i. first i ∷ rest i

plan_back : (version : ℕ) (steps : List Call) (cost : ℕ) (from : List Origin)
    → (version ≡ 1) ⊎ (version ≡ 2) → cost < 2 ^ 64
    → All (IsFormedOrigin version) from
    → plan_in (length steps)
    ((map do_line steps ++ line (codes "cost") (decimal cost ∷ []) ∷ map (from_line version) from) ++ done_line ∷ [])
    ≡ outcome.Plan steps cost from
unfolding plan_in cost_in
plan_back version steps cost from is small all =
    let dos = map do_line steps in
    let behind = line (codes "cost") (decimal cost ∷ []) ∷ map (from_line version) from in
    let many : length steps ≡ length dos = sym (length-map steps do_line) in
    let whole : (dos ++ behind) ++ done_line ∷ [] ≡ dos ++ (behind ++ done_line ∷ []) = append_assoc dos behind (done_line ∷ []) in
    let first : take (length steps) ((dos ++ behind) ++ done_line ∷ []) ≡ dos =
    ap (take (length steps)) whole ∙ front_taken (length steps) dos (behind ++ done_line ∷ []) many in
    let later : drop (length steps) ((dos ++ behind) ++ done_line ∷ []) ≡ behind ++ done_line ∷ [] =
    ap (drop (length steps)) whole ∙ front_dropped (length steps) dos (behind ++ done_line ∷ []) many in
    let origins : map origin_in (front_of (map (from_line version) from ++ done_line ∷ [])) ≡ from =
    ap (map origin_in) (front_back (map (from_line version) from) done_line) ∙ origins_back version from is all in
    rw (first, later, dos_back steps, number_back cost small, origins) refl

limit_back : (kind : LimitKind) → limit_in (limit_word kind ∷ []) ≡ kind
unfolding limit_in
limit_back Calls = refl
limit_back States = refl
limit_back Instances = refl

pub outcome_back : (version : ℕ) (o : Outcome) → (version ≡ 1) ⊎ (version ≡ 2)
    → IsFormedOutcome version o
    → outcome_in (outcome_lines version o ++ done_line ∷ []) ≡ o
unfolding outcome_in
outcome_back version (outcome.Plan steps cost from) is formed =
    rw (back_32 (length steps) formed.0) (plan_back version steps cost from is formed.1 formed.3)
outcome_back version outcome.NoPlan is formed = refl
outcome_back version (outcome.Limit kind) is formed = ap outcome.Limit (limit_back kind)

-- no entry begins as an outcome does
pub outcome_no_entry : (version : ℕ) (o : Outcome)
    → read_entry (outcome_lines version o ++ done_line ∷ []) ≡ None
outcome_no_entry version (outcome.Plan steps cost from) = refl
outcome_no_entry version outcome.NoPlan = refl
outcome_no_entry version (outcome.Limit kind) = refl
