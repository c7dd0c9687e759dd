-- Heads and whole reports are read back from their texts.
use Rattle.std.proofs.Common.{◌≡◌, ℕ, suc, ◌+◌, ◌≤◌, arith, Bool, false, cond, List, [], ◌∷◌, ◌++◌, map, length, refl, sym, ap, ◌∙◌, All, append_assoc, codes, if◌then◌else◌}
use Rattle.std.specs.List.{flat_map}
use Rattle.std.specs.Str.{bytes_eq}
use Rattle.lemmas.proofs.Numbers.{small_version}
use Rattle.report_text.specs.Forms.{IsFormedPool, IsFormed}
use Rattle.report_text.specs.Texts.{Line, mode_word, entry_lines, outcome_lines, pool_line, done_line, text_of_report}
use Rattle.transcript_model.specs.declared.entry.Entry.{Entry}
use Rattle.transcript_model.specs.declared.entry.Entry.TheVariants as entry
use Rattle.transcript_model.specs.declared.head.Mode.{Mode}
use Rattle.transcript_model.specs.declared.head.Mode.TheVariants.{Incremental, Focused, Binding, Adaptive}
use Rattle.transcript_model.specs.declared.head.PoolLine.{PoolLine}
use Rattle.transcript_model.specs.declared.outcome.Outcome.{Outcome}
use Rattle.transcript_model.specs.declared.outcome.Outcome.TheVariants as outcome
use Rattle.transcript_model.specs.declared.report.Report.{Report}
use Rattle.report_text.proofs.FormsLemmas.{report_clear, report_lines, report_text}
use Rattle.report_text.proofs.LineTextLemmas.{lines_read, read_lines}
use Rattle.report_text.proofs.TextsReadBack.{after_first, back_32, back_8, entries_back, entries_in, first_number, is_word, number_back, outcome_back, outcome_in, outcome_no_entry}

-- ---- heads

pool_in : Line → PoolLine
pool_in l = record { workers = first_number l.more; streams = after_first l.more }

pools_in : List Line → List PoolLine × List Line
pools_in [] = ([], [])
pools_in (l ∷ rest) = cond (is_word (codes "pool") l) (pool_in l ∷ (pools_in rest).0, (pools_in rest).1) ([], l ∷ rest)

is_pool_first : List Line → Bool
is_pool_first [] = false
is_pool_first (l ∷ rest) = is_word (codes "pool") l

pools_back : (pools : List PoolLine) (tail : List Line) → All IsFormedPool pools
    → is_pool_first tail ≡ false
    → pools_in (map pool_line pools ++ tail) ≡ (pools, tail)
unfolding pools_in pool_in is_pool_first
pools_back [] [] all none = refl
pools_back [] (l ∷ tail) all none = rw none refl
pools_back (p ∷ ps) tail all none =
    rw (pools_back ps tail (λ k d lt. all (suc k) d (omega arith)) none, back_8 p.workers (all 0 p (omega arith)).workers) refl

mode_in : List (List ℕ) → Mode
mode_in [] = Incremental
mode_in (word ∷ more) =
    if bytes_eq word (codes "incremental") then Incremental else if bytes_eq word (codes "focused") then Focused
    else if bytes_eq word (codes "binding") then Binding else Adaptive

mode_back : (mode : Mode) → mode_in (mode_word mode ∷ []) ≡ mode
unfolding mode_in
mode_back Incremental = refl
mode_back Focused = refl
mode_back Binding = refl
mode_back Adaptive = refl

-- ---- reports

entry_no_pool : (e : Entry) (rest : List Line) → is_pool_first (entry_lines e ++ rest) ≡ false
unfolding is_pool_first
entry_no_pool entry.Level rest = refl
entry_no_pool (entry.Ask number turn call) rest = refl
entry_no_pool (entry.Got number tuples values) rest = refl
entry_no_pool (entry.Value number value) rest = refl
entry_no_pool (entry.End number) rest = refl
entry_no_pool (entry.Dream uses steps) rest = refl
entry_no_pool entry.Nothing rest = refl
entry_no_pool entry.Reset rest = refl
entry_no_pool (entry.Pick number) rest = refl
entry_no_pool (entry.Retire number) rest = refl

outcome_no_pool : (version : ℕ) (o : Outcome)
    → is_pool_first (outcome_lines version o ++ done_line ∷ []) ≡ false
unfolding is_pool_first
outcome_no_pool version (outcome.Plan steps cost from) = refl
outcome_no_pool version outcome.NoPlan = refl
outcome_no_pool version (outcome.Limit kind) = refl

behind_no_pool : (version : ℕ) (entries : List Entry) (o : Outcome)
    → is_pool_first (flat_map entry_lines entries ++ (outcome_lines version o ++ done_line ∷ [])) ≡ false
behind_no_pool version [] o = outcome_no_pool version o
behind_no_pool version (e ∷ es) o =
    ap is_pool_first (append_assoc (entry_lines e) (flat_map entry_lines es) (outcome_lines version o ++ done_line ∷ []))
    ∙ entry_no_pool e (flat_map entry_lines es ++ (outcome_lines version o ++ done_line ∷ []))

-- what is behind the first two lines of a report with at most so many entries
behind_head : ℕ → List (List ℕ) → List (List ℕ) → List Line → Report
behind_head most first second lines =
    let pools = pools_in lines in
    let entries = entries_in most pools.1 in
    record {
      version = first_number first;
      mode = mode_in (after_first first);
      calls = first_number second;
      states = first_number (after_first second);
      depth = first_number (after_first (after_first second));
      pools = pools.0;
      entries = entries.0;
      outcome = outcome_in entries.1;
    }

pub report_in : ℕ → List Line → Report
report_in most [] = behind_head most [] [] []
report_in most (first ∷ []) = behind_head most first.more [] []
report_in most (first ∷ second ∷ lines) = behind_head most first.more second.more lines

-- a report with at most so many entries is read back from its lines
pub report_back : (most : ℕ) (r : Report) → length r.entries ≤ most → IsFormed r
    → report_in most (report_lines r) ≡ r
unfolding report_in behind_head
report_back most r le formed =
    let behind = outcome_lines r.version r.outcome ++ done_line ∷ [] in
    let tail = flat_map entry_lines r.entries ++ behind in
    let pools = pools_back r.pools tail formed.pools (behind_no_pool r.version r.entries r.outcome) in
    let entries = entries_back r.version most r.entries behind le formed.entries (outcome_no_entry r.version r.outcome) in
    let outcome = outcome_back r.version r.outcome formed.version formed.outcome in
    rw (
      pools,
      entries,
      outcome,
      number_back r.version (small_version r.version formed.version),
      mode_back r.mode,
      back_32 r.calls formed.calls,
      back_32 r.states formed.states,
      back_8 r.depth formed.depth,
    ) refl

-- reports with equal lines are equal
pub lines_determine : (r s : Report) → IsFormed r → IsFormed s → report_lines r ≡ report_lines s
    → r ≡ s
lines_determine r s first second same =
    let most = length r.entries + length s.entries in
    sym (report_back most r (omega arith) first) ∙ ap (report_in most) same ∙ report_back most s (omega arith) second

-- what is written determines what was meant
pub same_report : (first second : Report) → IsFormed first → IsFormed second
    → text_of_report first ≡ text_of_report second → first ≡ second
same_report first second formed also same =
    lines_determine first second formed also (sym (lines_read (report_lines first) (report_clear first formed))
    ∙ ap read_lines (sym (report_text first) ∙ same ∙ report_text second) ∙ lines_read (report_lines second) (report_clear second also))
