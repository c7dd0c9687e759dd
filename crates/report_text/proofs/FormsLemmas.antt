-- What a report shows in its forms has no space and no line feed in a field.
use Rattle.std.proofs.Common.{◌≡◌, ℕ, zero, suc, ◌-◌, ◌/◌, inl, inr, arith, Bool, true, false, cond, ◌&&◌, ◌||◌, ◌==◌, not, nat_le, List, [], ◌∷◌, ◌++◌, map, take, drop, length, refl, sym, ap, ◌∙◌, All, append_assoc, codes}
use Rattle.std.proofs.lemmas.Bool.Decides.{nat_tests}
use Rattle.std.proofs.lemmas.Grind.{flat_map-append}
use Rattle.std.proofs.lemmas.List.{take-append-drop, append-nil}
use Rattle.std.proofs.lemmas.List.Folds.{list_all-append, list_all-map}
use Rattle.std.specs.Cmp.{first_so, second_so}
use Rattle.std.specs.Fmt.{decimal}
use Rattle.std.specs.List.{list_all, flat_map}
use Rattle.std.proofs.lemmas.Bool.{and_from, or_cases}
use Rattle.lemmas.proofs.Numbers.{small_version}
use Rattle.lemmas.proofs.ListTests.{all_weaker}
use Rattle.gen_lines.specs.Reply.{is_value, is_value_byte, is_reserved}
use Rattle.task_model.specs.Fit.{is_name_byte, is_letter, is_digit}
use Rattle.report_text.specs.Forms.{IsNumber, IsSmall, IsName, IsObject, IsTerm, IsFormedCall, IsFormedUse, IsFormedEntry, IsFormedOrigin, IsFormedOutcome, IsFormedPool, IsFormed}
use Rattle.report_text.specs.Texts.{Line, line, line_text, lines_text, call_fields, tuples_of, use_line, step_line, do_line, from_line, limit_word, mode_word, entry_lines, text_of_entry, outcome_lines, pool_line, head_lines, done_line, text_of_report}
use Rattle.transcript_model.specs.declared.entry.Call.{Call}
use Rattle.transcript_model.specs.declared.entry.DreamUse.{DreamUse}
use Rattle.transcript_model.specs.declared.entry.Entry.{Entry}
use Rattle.transcript_model.specs.declared.entry.Entry.TheVariants as entry
use Rattle.transcript_model.specs.declared.head.Mode.{Mode}
use Rattle.transcript_model.specs.declared.head.Mode.TheVariants.{Incremental, Focused, Binding, Adaptive}
use Rattle.transcript_model.specs.declared.head.PoolLine.{PoolLine}
use Rattle.transcript_model.specs.declared.outcome.LimitKind.{LimitKind}
use Rattle.transcript_model.specs.declared.outcome.LimitKind.TheVariants.{Calls, States, Instances}
use Rattle.transcript_model.specs.declared.outcome.Origin.{Origin}
use Rattle.transcript_model.specs.declared.outcome.Outcome.{Outcome}
use Rattle.transcript_model.specs.declared.outcome.Outcome.TheVariants as outcome
use Rattle.transcript_model.specs.declared.report.Report.{Report}
use Rattle.report_text.proofs.LineTextLemmas.{is_ink, is_inked, is_clear, number_inked}

pub each_passes : {A : Type 0} (p : A → Bool) (P : A → Type 0) (xs : List A)
    → ((x : A) → P x → p x ≡ true) → All P xs
    → list_all p xs ≡ true
each_passes p P [] so all = refl
each_passes p P (x ∷ xs) so all =
    and_from (p x) (list_all p xs) (so x (all 0 x (omega arith))) (each_passes p P xs so (λ k d lt. all (suc k) d (omega arith)))

-- ---- names

letter_ink : (b : ℕ) → is_letter b ≡ true → is_ink b ≡ true
letter_ink b e = grind (arith, nat_tests, first_so (nat_le 97 b) (nat_le b 122) e)

name_ink : (b : ℕ) → is_name_byte b ≡ true → is_ink b ≡ true
name_ink b e =
    elim (or_cases (is_letter b || is_digit b || (b == 45)) (b == 95) e) [
      | inr low ↦ grind (arith, nat_tests, low)
      | inl more ↦ elim (or_cases (is_letter b || is_digit b) (b == 45) more) [
        | inr dash ↦ grind (arith, nat_tests, dash)
        | inl plain ↦ elim (or_cases (is_letter b) (is_digit b) plain) [
          | inl letter ↦ letter_ink b letter
          | inr digit ↦ grind (arith, nat_tests, first_so (nat_le 48 b) (nat_le b 57) digit)
        ]
      ]
    ]

pub name_inked : (name : List ℕ) → IsName name → is_inked name ≡ true
name_inked [] e = absurd (cc)
name_inked (b ∷ bs) e =
    let front = first_so (is_letter b && list_all is_name_byte bs) _ e in
    and_from (is_ink b) (list_all is_ink bs) (letter_ink b (first_so (is_letter b) (list_all is_name_byte bs) front))
    (all_weaker is_name_byte is_ink name_ink bs (second_so (is_letter b) (list_all is_name_byte bs) front))

value_ink : (b : ℕ) → is_value_byte b ≡ true → is_ink b ≡ true
value_ink b e = first_so (nat_le 33 b) (nat_le b 126) (first_so (nat_le 33 b && nat_le b 126) (not (is_reserved b)) e)

pub value_inked : (value : List ℕ) → is_value value ≡ true → is_inked value ≡ true
unfolding is_value
value_inked value e =
    all_weaker is_value_byte is_ink value_ink value
    (second_so (nat_le 1 (length value) && nat_le (length value) 64) (list_all is_value_byte value) e)

pub number_of_32 : (n : ℕ) → IsNumber n → is_inked (decimal n) ≡ true
number_of_32 n le = number_inked n (omega arith)

pub number_of_8 : (n : ℕ) → IsSmall n → is_inked (decimal n) ≡ true
number_of_8 n le = number_inked n (omega arith)

pub object_inked : (name : List ℕ) → IsObject name → is_inked name ≡ true
object_inked name (inl declared) = name_inked name declared
object_inked name (inr made) = rw (made.1, value_inked made.0 made.2) refl

pub term_inked : (name : List ℕ) → IsTerm name → is_inked name ≡ true
term_inked name (inl object) = object_inked name object
term_inked name (inr p) =
    let numbers : is_inked (decimal p.j ++ 46 ∷ decimal p.i) ≡ true =
    rw (list_all-append is_ink (decimal p.j) (46 ∷ decimal p.i), number_of_32 p.j p.upto.0, number_of_32 p.i p.upto.1) refl in
    rw (p.is, numbers) refl

call_inked : (IsArgument : List ℕ → Type 0)
    → ((name : List ℕ) → IsArgument name → is_inked name ≡ true) → (call : Call)
    → IsFormedCall IsArgument call → list_all is_inked (call_fields call) ≡ true
call_inked IsArgument inks call formed =
    and_from (is_inked call.name) (list_all is_inked call.args)
    (name_inked call.name formed.name) (each_passes is_inked IsArgument call.args inks formed.args)

-- ---- entries

bars_inked : (width bars : ℕ) (values : List (List ℕ)) → list_all is_inked values ≡ true
    → list_all is_inked (tuples_of width bars values) ≡ true
bars_inked width zero values e = e
bars_inked width (suc bars) values e =
    let parts : (list_all is_inked (take width values) && list_all is_inked (drop width values)) ≡ true =
    sym (list_all-append is_inked (take width values) (drop width values)) ∙ ap (list_all is_inked) (take-append-drop width values)
    ∙ e in
    rw (
      list_all-append is_inked (take width values) (codes "|" ∷ tuples_of width bars (drop width values)),
      first_so (list_all is_inked (take width values)) (list_all is_inked (drop width values)) parts,
      bars_inked width bars (drop width values)
          (second_so (list_all is_inked (take width values)) (list_all is_inked (drop width values)) parts),
    ) refl

pub use_clear : (u : DreamUse) → IsFormedUse u → is_clear (use_line u) ≡ true
use_clear u formed =
    rw (number_of_32 u.number formed.0, call_inked IsTerm term_inked u.call formed.1) refl

pub step_clear : (call : Call) → IsFormedCall IsTerm call → is_clear (step_line call) ≡ true
step_clear call formed = call_inked IsTerm term_inked call formed

pub do_clear : (call : Call) → IsFormedCall IsTerm call → is_clear (do_line call) ≡ true
do_clear call formed = call_inked IsTerm term_inked call formed

mapped_clear : {A : Type 0} (P : A → Type 0) (f : A → Line) (xs : List A)
    → ((x : A) → P x → is_clear (f x) ≡ true) → All P xs
    → list_all is_clear (map f xs) ≡ true
mapped_clear P f xs so all =
    list_all-map is_clear f xs ∙ each_passes (λ x. is_clear (f x)) P xs so all

pub entry_clear : (version : ℕ) (e : Entry) → IsFormedEntry version e
    → list_all is_clear (entry_lines e) ≡ true
entry_clear version entry.Level formed = refl
entry_clear version (entry.Ask number turn call) formed =
    rw (number_of_32 number formed.0, number_of_32 turn formed.1, call_inked IsObject object_inked call formed.2) refl
entry_clear version (entry.Got number tuples values) formed =
    let inked = each_passes is_inked (λ value. is_value value ≡ true) values value_inked formed.1.each in
    rw (number_of_32 number formed.0, bars_inked (length values / tuples) (tuples - 1) values inked) refl
entry_clear version (entry.Value number value) formed =
    rw (number_of_32 number formed.0, number_inked value (omega (arith, formed.1))) refl
entry_clear version (entry.End number) formed = rw (number_of_32 number formed) refl
entry_clear version (entry.Dream uses steps) formed =
    rw (
      number_of_32 (length uses) formed.0,
      number_of_32 (length steps) formed.1,
      list_all-append is_clear (map use_line uses) (map step_line steps),
      mapped_clear IsFormedUse use_line uses use_clear formed.2,
      mapped_clear (IsFormedCall IsTerm) step_line steps step_clear formed.3,
    ) refl
entry_clear version entry.Nothing formed = refl
entry_clear version entry.Reset formed = refl
entry_clear version (entry.Pick number) formed = rw (number_of_32 number formed) refl
entry_clear version (entry.Retire number) formed = rw (number_of_32 number formed) refl

entries_clear : (version : ℕ) (entries : List Entry) → All (IsFormedEntry version) entries
    → list_all is_clear (flat_map entry_lines entries) ≡ true
entries_clear version [] all = refl
entries_clear version (e ∷ es) all =
    rw (
      list_all-append is_clear (entry_lines e) (flat_map entry_lines es),
      entry_clear version e (all 0 e (omega arith)),
      entries_clear version es (λ k d lt. all (suc k) d (omega arith)),
    ) refl

-- ---- outcomes and heads

pub origin_clear : (version : ℕ) (o : Origin) → IsFormedOrigin version o
    → is_clear (from_line version o) ≡ true
origin_clear version o formed =
    elim (version == 1) as
    (λ b. (is_inked o.object && (is_inked (decimal o.number) && list_all is_inked (cond b [] (decimal o.tuple ∷ [])))) ≡ true) [
      | true ↦ rw (object_inked o.object formed.object, number_of_32 o.number formed.number) refl
      | false ↦ rw (object_inked o.object formed.object, number_of_32 o.number formed.number, number_of_8 o.tuple formed.tuple) refl
    ]

pub limit_clear : (kind : LimitKind) → is_inked (limit_word kind) ≡ true
limit_clear Calls = refl
limit_clear States = refl
limit_clear Instances = refl

outcome_clear : (version : ℕ) (o : Outcome) → IsFormedOutcome version o
    → list_all is_clear (outcome_lines version o) ≡ true
outcome_clear version (outcome.Plan steps cost from) formed =
    rw (
      number_of_32 (length steps) formed.0,
      list_all-append is_clear (map do_line steps) (line (codes "cost") (decimal cost ∷ []) ∷ map (from_line version) from),
      mapped_clear (IsFormedCall IsTerm) do_line steps do_clear formed.2,
      number_inked cost formed.1,
      mapped_clear (IsFormedOrigin version) (from_line version) from (origin_clear version) formed.3,
    ) refl
outcome_clear version outcome.NoPlan formed = refl
outcome_clear version (outcome.Limit kind) formed = rw (limit_clear kind) refl

pub mode_clear : (mode : Mode) → is_inked (mode_word mode) ≡ true
mode_clear Incremental = refl
mode_clear Focused = refl
mode_clear Binding = refl
mode_clear Adaptive = refl

pub pool_clear : (pool : PoolLine) → IsFormedPool pool → is_clear (pool_line pool) ≡ true
pool_clear pool formed =
    rw (number_of_8 pool.workers formed.workers, each_passes is_inked IsName pool.streams name_inked formed.streams) refl

head_clear : (r : Report) → IsFormed r
    → list_all is_clear (head_lines r.version r.mode r.calls r.states r.depth r.pools) ≡ true
head_clear r formed =
    rw (
      number_inked r.version (small_version r.version formed.version),
      mode_clear r.mode,
      number_of_32 r.calls formed.calls,
      number_of_32 r.states formed.states,
      number_of_8 r.depth formed.depth,
      mapped_clear IsFormedPool pool_line r.pools pool_clear formed.pools,
    ) refl

-- ---- reports

-- the lines of a report: its head, its entries, its outcome and the last one
abbrev pub head_of : Report → List Line
head_of r = head_lines r.version r.mode r.calls r.states r.depth r.pools

abbrev pub report_lines : Report → List Line
report_lines r =
    head_of r
    ++ (flat_map entry_lines r.entries ++ (outcome_lines r.version r.outcome ++ done_line ∷ []))

entries_text : (entries : List Entry)
    → flat_map text_of_entry entries ≡ lines_text (flat_map entry_lines entries)
entries_text [] = refl
entries_text (e ∷ es) =
    ap (λ later. text_of_entry e ++ later) (entries_text es) ∙ sym (flat_map-append line_text (entry_lines e) (flat_map entry_lines es))

pub report_text : (r : Report) → text_of_report r ≡ lines_text (report_lines r)
report_text r =
    let h = head_of r in
    let es = flat_map entry_lines r.entries in
    let o = outcome_lines r.version r.outcome in
    let parts : lines_text (report_lines r) ≡ lines_text h ++ (lines_text es ++ (lines_text o ++ lines_text (done_line ∷ []))) =
    flat_map-append line_text h (es ++ (o ++ done_line ∷ []))
    ∙ ap (λ t. lines_text h ++ t) (flat_map-append line_text es (o ++ done_line ∷ [])
    ∙ ap (λ t. lines_text es ++ t) (flat_map-append line_text o (done_line ∷ []))) in
    let left : text_of_report r ≡ lines_text h ++ lines_text es ++ lines_text o ++ line_text done_line =
    ap (λ t. lines_text h ++ t ++ lines_text o ++ line_text done_line) (entries_text r.entries) in
    left ∙ append_assoc (lines_text h ++ lines_text es) (lines_text o) (line_text done_line)
    ∙ append_assoc (lines_text h) (lines_text es) (lines_text o ++ line_text done_line)
    ∙ ap (λ t. lines_text h ++ (lines_text es ++ (lines_text o ++ t))) (sym (append-nil (line_text done_line))) ∙ sym parts

pub report_clear : (r : Report) → IsFormed r → list_all is_clear (report_lines r) ≡ true
report_clear r formed =
    rw (
      list_all-append is_clear (head_of r) (flat_map entry_lines r.entries ++ (outcome_lines r.version r.outcome ++ done_line ∷ [])),
      list_all-append is_clear (flat_map entry_lines r.entries) (outcome_lines r.version r.outcome ++ done_line ∷ []),
      list_all-append is_clear (outcome_lines r.version r.outcome) (done_line ∷ []),
      head_clear r formed,
      entries_clear r.version r.entries formed.entries,
      outcome_clear r.version r.outcome formed.outcome,
    ) refl
