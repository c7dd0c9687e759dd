-- The lines of a report, and where its entries begin.
use Rattle.std.proofs.Common.{◌≡◌, ℕ, zero, suc, ◌+◌, ◌<◌, ◌≤◌, List, [], ◌∷◌, ◌++◌, take, length, ap, ◌∙◌, sym, Some, slice_get, arith}
use Rattle.std.proofs.lemmas.List.{length-append, length-map, take_all}
use Rattle.std.proofs.lemmas.Option.{slice_get_within}
use Rattle.std.specs.List.{flat_map}
use Rattle.report_text.proofs.FormsLemmas.{report_text}
use Rattle.report_text.specs.Texts.{Line, done_line, entry_lines, head_lines, line_text, lines_of_report, lines_text, outcome_lines, pool_line, text_of_report}
use Rattle.transcript_model.specs.declared.entry.Entry.{Entry}
use Rattle.transcript_model.specs.declared.report.Report.{Report}

-- each line has a byte at least
lines_long : (lines : List Line) → length lines ≤ length (lines_text lines)
lines_long [] = omega arith
lines_long (l ∷ lines) =
    let rest = lines_long lines in
    let sum = length-append (line_text l) (lines_text lines) in
    let own = length-append (l.first ++ flat_map (λ field. 32 ∷ field) l.more) (10 ∷ []) in
    omega (arith, rest, sum, own)

-- a report has at most as many lines as bytes
pub report_short : (r : Report) (bytes : List ℕ) → text_of_report r ≡ bytes
    → length (lines_of_report r) ≤ length bytes
report_short r bytes is =
    let long = lines_long (lines_of_report r) in
    let same : length (lines_text (lines_of_report r)) ≡ length bytes = ap length (sym (report_text r) ∙ is) in
    omega (arith, long, same)

-- an entry begins behind all lines of each that precedes it
pub lines_rise : (xs : List Entry) (j k : ℕ) (e : Entry) → slice_get xs j ≡ Some e → j < k
    → length (flat_map entry_lines (take j xs)) + length (entry_lines e) ≤ length (flat_map entry_lines (take k xs))
lines_rise [] j k e at lt = absurd (cc)
lines_rise (x ∷ xs) j zero e at lt = absurd (omega (arith, lt))
lines_rise (x ∷ xs) zero (suc k) e at lt =
    let is : x ≡ e = cc in
    let same = ap (λ (d : Entry). length (entry_lines d)) is in
    let sum = length-append (entry_lines x) (flat_map entry_lines (take k xs)) in
    omega (arith, sum, same)
lines_rise (x ∷ xs) (suc j) (suc k) e at lt =
    let below : j < k = omega (arith, lt) in
    let first = length-append (entry_lines x) (flat_map entry_lines (take j xs)) in
    let second = length-append (entry_lines x) (flat_map entry_lines (take k xs)) in
    let rest = lines_rise xs j k e at below in
    omega (arith, first, second, rest)

-- all entries end behind the lines of each
pub lines_past : (xs : List Entry) (j : ℕ) (e : Entry) → slice_get xs j ≡ Some e
    → length (flat_map entry_lines (take j xs)) + length (entry_lines e) ≤ length (flat_map entry_lines xs)
lines_past xs j e at =
    let all : length (flat_map entry_lines (take (length xs) xs)) ≡ length (flat_map entry_lines xs) =
    ap (λ (es : List Entry). length (flat_map entry_lines es)) (take_all (length xs) xs (omega arith)) in
    let rise = lines_rise xs j (length xs) e at (slice_get_within xs j e at) in
    omega (arith, all, rise)

-- the front of some entries has no more lines
pub lines_front : (xs : List Entry) (k : ℕ) → length (flat_map entry_lines (take k xs)) ≤ length (flat_map entry_lines xs)
lines_front [] zero = omega arith
lines_front [] (suc k) = omega arith
lines_front (x ∷ xs) zero = omega arith
lines_front (x ∷ xs) (suc k) =
    let first = length-append (entry_lines x) (flat_map entry_lines (take k xs)) in
    let second = length-append (entry_lines x) (flat_map entry_lines xs) in
    let rest = lines_front xs k in
    omega (arith, first, second, rest)

-- the lines of the pools and of the entries are among those of the report
pub entries_few : (r : Report) → length r.pools + length (flat_map entry_lines r.entries) + 3 ≤ length (lines_of_report r)
entries_few r =
    let h = head_lines r.version r.mode r.calls r.states r.depth r.pools in
    let es = flat_map entry_lines r.entries in
    let o = outcome_lines r.version r.outcome in
    let first = length-append h (es ++ (o ++ done_line ∷ [])) in
    let second = length-append es (o ++ done_line ∷ []) in
    let third = length-append o (done_line ∷ []) in
    let pools = length-map r.pools pool_line in
    omega (arith, first, second, third, pools)
