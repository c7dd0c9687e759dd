-- What is found of a report, and of its text.
use Rattle.std.proofs.Common.{◌≡◌, ℕ, List, length, refl, subst, arith, take_all}
use Rattle.learning.specs.Knowledge.{IsKnowledge}
use Rattle.learning.specs.declared.knowledge.Knowledge.{Knowledge}
use Rattle.report_text.specs.Forms.{IsFormed}
use Rattle.report_text.specs.Texts.{text_of_report}
use Rattle.task_model.specs.declared.task.Task.{Task}
use Rattle.transcript_model.specs.declared.report.Report.{Report}
use Rattle.legal_report.specs.Lines.{line_of}
use Rattle.legal_report.specs.Reports.{IsCertified, IsCertifiedReport}
use Rattle.legal_report.specs.Transcripts.{FailsAtEntry}
use Rattle.legal_report.specs.Walks.{StandsAtEntry}
use Rattle.legal_report.specs.declared.flaw.ReportFlaw.{ReportFlaw}
use Rattle.legal_report.specs.declared.flaw.ReportFlaw.TheVariants as flaw
use Rattle.legal_report.specs.declared.report.Certified.{Certified}
use Rattle.legal_report.specs.declared.report.Certified.TheVariants.{Legal, Flawed}
use Rattle.legal_report.specs.declared.walk.Walk.{Walk}

module _ (w : Walk) (r : Report) (version : w.version ≡ r.version) (entries : w.entries.now ≡ r.entries) where
  -- all entries were taken
  pub walk_ends : (l : Knowledge) → StandsAtEntry w (length w.entries.now) l → IsCertifiedReport w.task.now r (Legal l)
  walk_ends l stands =
      let whole = subst (λ es. IsKnowledge w.version w.task.now es l)
      (take_all (length w.entries.now) w.entries.now (omega arith)) stands.knowledge in
      let there = subst (λ v. IsKnowledge v w.task.now r.entries l) version
      (subst (λ es. IsKnowledge w.version w.task.now es l) entries whole) in
      let counted = there.counted in
      (record { legal = there.legal; few = omega (arith, counted, stands.few) }, there.known)

  -- the walk stopped at this place
  pub walk_stops : (place : ℕ) (why : ReportFlaw) → FailsAtEntry w.version w.task.now w.entries.now place why → (line : ℕ)
      → line ≡ line_of r place → IsCertifiedReport w.task.now r (Flawed line why)
  walk_stops place why stops line is = record {
    place = place;
    stops = subst (λ v. FailsAtEntry v w.task.now r.entries place why) version
        (subst (λ es. FailsAtEntry w.version w.task.now es place why) entries stops);
    is = is;
  }

-- what is found of a report is found of its text
pub certified_text : (task : Task) (bytes : List ℕ) (r : Report) → IsFormed r → text_of_report r ≡ bytes → (c : Certified)
    → IsCertifiedReport task r c → IsCertified task bytes c
certified_text task bytes r formed spelled (Legal knowledge) found =
    (r.entries, record { report = r; formed = formed; spelled = spelled; said = (refl, found.0) }, found.1)
certified_text task bytes r formed spelled (Flawed line flaw.Text) found = absurd (let stops = found.stops in stops.wrong)
certified_text task bytes r formed spelled (Flawed line flaw.Ask) found =
    record { report = r; formed = formed; spelled = spelled; said = found }
certified_text task bytes r formed spelled (Flawed line flaw.Answer) found =
    record { report = r; formed = formed; spelled = spelled; said = found }
