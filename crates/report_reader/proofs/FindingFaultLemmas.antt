-- Where a reader of lines stops is the first fault of the text.
use Rattle.std.proofs.Common.{◌≡◌, ℕ, ◌+◌, ◌-◌, ◌<◌, ◌≤◌, arith, List, [], ◌∷◌, ◌++◌, map, take, drop, length, refl, sym, subst, ap, ◌∙◌, append-nil, length-append}
use Rattle.std.specs.List.{slice_split}
use Rattle.std.proofs.lemmas.List.{length-map, nil_from_length}
use Rattle.std.proofs.lemmas.List.Sums.{count_by-le-length}
use Rattle.gen_lines.specs.Lines.{is_feed, unfinished}
use Rattle.gen_lines.specs.Reply.{is_space}
use Rattle.report_text.specs.Faults.{whole_lines, IsFirstFault}
use Rattle.report_text.specs.Forms.{IsFormed}
use Rattle.report_text.specs.Places.{Place, first, behind, line_body, IsStuck, StopsAfter}
use Rattle.report_text.specs.Texts.{text_of_report, lines_of_report}
use Rattle.transcript_model.specs.declared.report.Report.{Report}
use Rattle.report_text.proofs.FormsLemmas.{report_lines}
use Rattle.report_text.proofs.PlacesPathLemmas.{report_path}
use Rattle.report_text.proofs.FaultsLemmas.{stops_fault, leftover_fault, lines_report}
use Rattle.report_reader.specs.Finding.{IsReadingStuck, Stops}
use Rattle.report_reader.specs.Splits.{field_lines, fields_of}
use Rattle.report_reader.proofs.SplitsLemmas.{cut_fields, joined_lines}
use Rattle.report_reader.proofs.SplitsCutLemmas.{lines_count}

-- a mapped list in two parts
parts : {A B : Type 0} (f : A → B) (texts : List A) (xs ys : List B) → xs ++ ys ≡ map f texts
    → (length xs ≤ length texts) × (map f (take (length xs) texts) ≡ xs) × (map f (drop (length xs) texts) ≡ ys)
parts f texts [] ys e = (omega arith, refl, sym e)
parts f [] (x ∷ xs) ys e = absurd (cc)
parts f (t ∷ texts) (x ∷ xs) ys e =
    let here : f t ≡ x = cc in
    let later : xs ++ ys ≡ map f texts = cc in
    let rest = parts f texts xs ys later in
    (omega (arith, rest.0), (λ i. here i ∷ rest.1 i), rest.2)

stuck_text : (at : Place) (texts : List (List ℕ)) (new : List (List (List ℕ)))
    → map (slice_split is_space) texts ≡ new → IsReadingStuck at new
    → IsStuck at texts
stuck_text at [] new e held = held.last (sym e)
stuck_text at (t ∷ texts) new e held =
    λ next step. held.next step.0 (map (slice_split is_space) texts) next
    (ap (λ f. f ∷ map (slice_split is_space) texts) (sym (cut_fields at step.0 next t step.2 step.1)) ∙ e) step.2

-- how many lines have been passed
passed_lines : (bytes : List ℕ) (new : List (List (List ℕ))) (s : Stops first (field_lines bytes) new)
    → length (field_lines bytes) - length new ≡ length (map fields_of s.passed)
passed_lines bytes new s =
    omega (arith, length-append (map fields_of s.passed) new, ap length s.lines)

pub stop_is_fault : (bytes : List ℕ) (new : List (List (List ℕ)))
    → Stops first (field_lines bytes) new
    → IsFirstFault bytes (length (field_lines bytes) - length new + 1)
stop_is_fault bytes new s =
    let texts = whole_lines bytes in
    let two = parts (slice_split is_space) texts (map fields_of s.passed) new s.lines in
    let after : StopsAfter first texts (length (map fields_of s.passed)) = record {
      within = two.0;
      at = s.at;
      path = (s.passed, joined_lines s.passed (take (length (map fields_of s.passed)) texts) two.1, s.path);
      stuck = stuck_text s.at (drop (length (map fields_of s.passed)) texts) new two.2 s.held;
    } in
    subst (λ n. IsFirstFault bytes (n + 1)) (sym (passed_lines bytes new s)) (stops_fault bytes (length (map fields_of s.passed)) after)

-- lines are left behind a whole report
pub left_is_fault : (bytes : List ℕ) (r : Report) (new : List (List (List ℕ))) → IsFormed r
    → map fields_of (lines_of_report r) ++ new ≡ field_lines bytes → ¬ (length new ≡ 0)
    → IsFirstFault bytes (length (field_lines bytes) - length new + 1)
left_is_fault bytes r new formed is some = stop_is_fault bytes new (record {
  passed = lines_of_report r;
  at = behind;
  path = report_path r formed;
  lines = is;
  held = record { next = λ l rest to e step. absurd step; last = λ none. absurd (some (ap length none)) };
})

whole_texts : (bytes : List ℕ) (r : Report) (new : List (List (List ℕ)))
    → map fields_of (lines_of_report r) ++ new ≡ field_lines bytes
    → length new ≡ 0 → map line_body (report_lines r) ≡ whole_lines bytes
whole_texts bytes r new is none =
    joined_lines (lines_of_report r) (whole_lines bytes)
    (sym is ∙ ap (λ l. map fields_of (lines_of_report r) ++ l) (nil_from_length new none)
    ∙ append-nil (map fields_of (lines_of_report r)))

-- something stands behind the last line feed of a whole report
pub rest_is_fault : (bytes : List ℕ) (r : Report) (new : List (List (List ℕ))) → IsFormed r
    → map fields_of (lines_of_report r) ++ new ≡ field_lines bytes → length new ≡ 0 → ¬ (unfinished bytes ≡ [])
    → IsFirstFault bytes (length (field_lines bytes) - length new + 1)
rest_is_fault bytes r new formed is none some =
    let count : length (whole_lines bytes) ≡ length (field_lines bytes) - length new =
    omega (arith, none, length-map (whole_lines bytes) (slice_split is_space)) in
    subst (λ n. IsFirstFault bytes (n + 1)) count
    (leftover_fault bytes (report_lines r, whole_texts bytes r new is none, report_path r formed) (filled (unfinished bytes) some))
  where
    filled : (xs : List ℕ) → ¬ (xs ≡ []) → 0 < length xs
    filled [] some = absurd (some refl)
    filled (x ∷ xs) some = omega arith

pub report_is_text : (bytes : List ℕ) (r : Report) (new : List (List (List ℕ)))
    → map fields_of (lines_of_report r) ++ new ≡ field_lines bytes → length new ≡ 0 → unfinished bytes ≡ [] → text_of_report r ≡ bytes
report_is_text bytes r new is none ended =
    lines_report r bytes (sym (whole_texts bytes r new is none)) ended

pub few_lines : (bytes : List ℕ) → length (field_lines bytes) ≤ length bytes
few_lines bytes = omega (arith, lines_count bytes, count_by-le-length is_feed bytes)

-- the fault's line by the numbers of lines
pub told_line : (bytes : List ℕ) (lines new : List (List (List ℕ))) (total left : ℕ)
    → lines ≡ field_lines bytes → total ≡ length lines
    → left ≡ length new → IsFirstFault bytes (length (field_lines bytes) - length new + 1) → IsFirstFault bytes (total - left + 1)
told_line bytes lines new total left of_text is_total is_left fault =
    let all : total ≡ length (field_lines bytes) = is_total ∙ ap length of_text in
    subst (λ n. IsFirstFault bytes (n + 1)) (λ i. sym all i - sym is_left i) fault
