-- What is said of a text is one thing.
use Rattle.std.proofs.Common.{◌≡◌, ℕ, zero, suc, ◌-◌, ◌<◌, ◌≤◌, ◌⊎◌, inl, inr, List, [], ◌∷◌, ◌++◌, take, drop, refl, sym, ap, subst, ◌∙◌, arith, append_assoc, ◌==◌, if◌then◌else◌}
use Rattle.std.proofs.lemmas.Bool.{cases_lt}
use Rattle.std.proofs.lemmas.List.{take-append-drop}
use Rattle.std.proofs.lemmas.List.Concat.{flat_map-append}
use Rattle.task_model.specs.declared.task.Task.{Task}
use Rattle.report_text.specs.Faults.{BeginsReport, IsFirstFault, IsReport, whole_lines}
use Rattle.lemmas.specs.Lists.{lines_with_feeds}
use Rattle.report_text.specs.Forms.{IsFormed}
use Rattle.report_text.specs.Texts.{text_of_report}
use Rattle.transcript_model.specs.declared.report.Report.{Report}
use Rattle.replay_check.proofs.RightReportLemmas.{no_breach}
use Rattle.replay_check.specs.Kinds.{breach_number}
use Rattle.replay_check.specs.Lines.{Precedes}
use Rattle.replay_check.specs.Verdicts.{IsReportVerdict, IsRightReport, IsUndecidedReport, IsVerdict}
use Rattle.replay_check.specs.declared.verdict.BreachKind.{BreachKind}
use Rattle.replay_check.specs.declared.verdict.BreachKind.TheVariants as kind
use Rattle.replay_check.specs.declared.verdict.Verdict.{Verdict}
use Rattle.replay_check.specs.declared.verdict.Verdict.TheVariants.{Valid, Invalid, Limit}
use Rattle.report_text.proofs.ReportsReadBack.{same_report}

-- ---- reports

-- ---- faults of the text

-- the lines in front of some with which a report begins begin one
begins_front : (lines : List (List ℕ)) (n m : ℕ) → n ≤ m → BeginsReport (take m lines)
    → BeginsReport (take n lines)
begins_front lines n m le begins =
    let front = take n (take m lines) in
    let back = drop n (take m lines) in
    let parts : take m lines ≡ front ++ back = sym (take-append-drop n (take m lines)) in
    let text : lines_with_feeds (take m lines) ++ begins.0 ≡ lines_with_feeds front ++ (lines_with_feeds back ++ begins.0) =
    ap (λ ls. lines_with_feeds ls ++ begins.0) parts ∙ ap (λ t. t ++ begins.0) (flat_map-append (λ line. line ++ 10 ∷ []) front back)
    ∙ append_assoc (lines_with_feeds front) (lines_with_feeds back) begins.0 in
    let there : IsReport (lines_with_feeds front ++ (lines_with_feeds back ++ begins.0)) = subst IsReport text begins.1 in
    subst (λ ls. BeginsReport ls) (twice lines n m le) (lines_with_feeds back ++ begins.0, there)
  where
    twice : (xs : List (List ℕ)) (j k : ℕ) → j ≤ k → take j (take k xs) ≡ take j xs
    twice xs zero k le = refl
    twice xs (suc j) zero le = absurd (omega (arith, le))
    twice [] (suc j) (suc k) le = refl
    twice (x ∷ xs) (suc j) (suc k) le =
        let below : j ≤ k = omega (arith, le) in ap (λ ys. x ∷ ys) (twice xs j k below)

not_earlier : (bytes : List ℕ) (n m : ℕ) → IsFirstFault bytes n → IsFirstFault bytes m → n < m → ⊥
not_earlier bytes n m first second lt =
    first.here (omega (arith, lt, second.upto)) (begins_front (whole_lines bytes) n (m - 1) (omega (arith, lt)) second.before)

fault_once : (bytes : List ℕ) (n m : ℕ) → IsFirstFault bytes n → IsFirstFault bytes m → n ≡ m
fault_once bytes n m first second = by (cases_lt n m) (cases_lt m n)
  where
    by : (n < m) ⊎ (m ≤ n) → (m < n) ⊎ (n ≤ m) → n ≡ m
    by (inl lt) q = absurd (not_earlier bytes n m first second lt)
    by (inr ge) (inl lt) = absurd (not_earlier bytes m n second first lt)
    by (inr ge) (inr le) = omega (arith, ge, le)

-- ---- the first breach

-- the kind of this number
kind_at : ℕ → BreachKind
kind_at n =
    if n == 1 then kind.Text else if n == 2 then kind.Head else if n == 3 then kind.Ask else if n == 4 then kind.Answer else if n == 5
    then kind.Order
    else if n == 6 then kind.Dream else if n == 7 then kind.Plan else if n == 8 then kind.Cost else if n == 9 then kind.From else
    kind.Outcome

kind_is : (k : BreachKind) → kind_at (breach_number k) ≡ k
unfolding kind_at
kind_is kind.Text = refl
kind_is kind.Head = refl
kind_is kind.Ask = refl
kind_is kind.Answer = refl
kind_is kind.Order = refl
kind_is kind.Dream = refl
kind_is kind.Plan = refl
kind_is kind.Cost = refl
kind_is kind.From = refl
kind_is kind.Outcome = refl

neither : (line other : ℕ) (k than : BreachKind) → ¬ (Precedes line k other than)
    → ¬ (Precedes other than line k)
    → (line ≡ other) × (k ≡ than)
neither line other k than first second =
    let lines : line ≡ other = by (cases_lt line other) (cases_lt other line) in
    let numbers = of lines (cases_lt (breach_number k) (breach_number than)) (cases_lt (breach_number than) (breach_number k)) in
    (lines, sym (kind_is k) ∙ ap kind_at numbers ∙ kind_is than)
  where
    by : (line < other) ⊎ (other ≤ line) → (other < line) ⊎ (line ≤ other) → line ≡ other
    by (inl lt) q = absurd (first (inl lt))
    by (inr ge) (inl lt) = absurd (second (inl lt))
    by (inr ge) (inr le) = omega (arith, ge, le)

    of : line ≡ other
        → (breach_number k < breach_number than) ⊎ (breach_number than ≤ breach_number k)
        → (breach_number than < breach_number k) ⊎ (breach_number k ≤ breach_number than) → breach_number k ≡ breach_number than
    of same (inl lt) q = absurd (first (inr (same, lt)))
    of same (inr ge) (inl lt) = absurd (second (inr (sym same, lt)))
    of same (inr ge) (inr le) = omega (arith, ge, le)

-- ---- verdicts

module _ (limit : ℕ) (task : Task) (r : Report) where
  said_once : (v w : Verdict) → IsReportVerdict limit task r v → IsReportVerdict limit task r w
      → v ≡ w
  said_once Valid Valid first second = refl
  said_once Valid (Invalid line k) first second =
      absurd (no_breach task r line k first.0 second.breach)
  said_once Valid Limit first second = absurd (first.1 (second.0, second.1))
  said_once (Invalid line k) Valid first second =
      absurd (no_breach task r line k second.0 first.breach)
  said_once (Invalid line k) (Invalid other than) first second =
      let same = neither line other k than (second.first line k first.breach) (first.first other than second.breach) in
      λ i. Invalid (same.0 i) (same.1 i)
  said_once (Invalid line k) Limit first second =
      absurd (second.2 line k first.breach (first.decided second.0 second.1))
  said_once Limit Valid first second = absurd (second.1 (first.0, first.1))
  said_once Limit (Invalid line k) first second =
      absurd (first.2 line k second.breach (second.decided first.0 first.1))
  said_once Limit Limit first second = refl

pub verdict_once : (limit : ℕ) (task : Task) (bytes : List ℕ) (v w : Verdict)
    → IsVerdict limit task bytes v → IsVerdict limit task bytes w
    → v ≡ w
verdict_once limit task bytes v w (inl (line, is, fault)) (inl (other, also, again)) =
    is ∙ (λ i. Invalid (fault_once bytes line other fault again i) kind.Text) ∙ sym also
verdict_once limit task bytes v w (inl (line, is, fault)) (inr of) =
    absurd (fault.none (of.report, of.formed, of.spelled))
verdict_once limit task bytes v w (inr of) (inl (line, is, fault)) =
    absurd (fault.none (of.report, of.formed, of.spelled))
verdict_once limit task bytes v w (inr first) (inr second) =
    let same = same_report second.report first.report second.formed first.formed (second.spelled ∙ sym first.spelled) in
    said_once limit task first.report v w first.said (subst (λ r. IsReportVerdict limit task r w) same second.said)

-- Of a report that is right, and whose claim is decided, nothing else is said.
pub right_valid : (limit : ℕ) (task : Task) (r : Report) (v : Verdict) → IsFormed r
    → IsRightReport task r → ¬ (IsUndecidedReport limit task r)
    → IsVerdict limit task (text_of_report r) v → v ≡ Valid
right_valid limit task r v formed right decided is =
    verdict_once limit task (text_of_report r) v Valid is
    (inr (record { report = r; formed = formed; spelled = refl; said = (right, decided) }))
