-- How a run stands, by what was heard of its children.
use Rattle.std.proofs.Common.{◌≡◌, ℕ, List, refl, sym, subst, ap, ◌∙◌, inl, Option, Result, Ok, Err, IsErrAnd, IsErrOf}
use Rattle.command_files.specs.Inputs.{SolvesNothing}
use Rattle.command_files.specs.Outside.{FilesSeen, Outside, Written, resting}
use Rattle.command_files.specs.Stop.{IsOfInput}
use Rattle.command_files.specs.declared.stop.Stop.{Stop}
use Rattle.command_files.specs.declared.stop.Stop.TheVariants as stop
use Rattle.command_line.specs.Words.{SolveWords}
use Rattle.io_world.specs.Talks.{Event, Talk}
use Rattle.round_run.proofs.StoppedLemmas.{handed_err, same_err}
use Rattle.round_run.specs.Told.{Course}
use Rattle.round_run.specs.declared.fault.RunFault.{RunFault}
use Rattle.round_run.specs.declared.fault.RunFault.TheVariants as fault
use Rattle.turn_run.specs.declared.whole_run.Ran.{Ran}
use Rattle.run_command.proofs.CountedLemmas.{counted_as}
use Rattle.run_command.proofs.RestartsLemmas.{heard_plain, heard_silent, silent, silent_stops}
use Rattle.run_command.specs.Heard.{AreCounted, CountFailures, Heard, IsHeard, hearing, heard_in}
use Rattle.run_command.specs.Solving.{HasNoReport, IsReportedBy, IsSolved, Lacks}
use Rattle.run_command.specs.Works.{made_words}

-- what was written where nothing was
abbrev unwritten : Option (List ℕ) → Written
unwritten sink = record { before = sink; after = sink }

-- what the words name is no input
pub unread_report : (asked : SolveWords) (files : FilesSeen) (spoken : ℕ → Option Talk) (log : Option (List Event))
    (Same : Type 0) (sink : Option (List ℕ)) (r : Result Ran Stop) (why : Stop) → IsErrAnd r (λ e. e ≡ why)
    → SolvesNothing asked files why → IsReportedBy asked (resting files spoken log) Same (unwritten sink) r
unread_report asked files spoken log Same sink r why handed nothing =
    subst (IsReportedBy asked (resting files spoken log) Same (unwritten sink)) (sym (handed_err r why handed)) (record {
      heard = silent asked.restarts spoken log;
      by = heard_silent asked.restarts _ spoken log;
      solved = tt;
      failed = inl (record {
        cause = nothing;
        none = silent_stops asked.restarts spoken log;
        nothing = refl;
      });
    })

-- and no generator is at fault then
pub unread_spares : {T : Type 0} (r : Result T Stop) (why : Stop) (P : Type 0) → IsErrAnd r (λ e. e ≡ why) → IsOfInput why
    → IsErrOf r (stop.Run fault.Generator) → P
unread_spares r why P handed input is =
    absurd (subst IsOfInput (same_err (sym (handed_err r why handed) ∙ is)) input)

-- memory was wanting in the run, where it was in all
pub lacks_handed : (f : RunFault) → (let r : Result Ran RunFault = Err f in IsErrOf r fault.Memory)
    → (let r : Result Ran Stop = Err (stop.Run f) in Lacks r)
lacks_handed f is = ap (λ e. Err (stop.Run e)) (same_err is)

-- the fault of a run is the run's
pub handed_run : {T : Type 0} (f bad : RunFault) → (let r : Result T Stop = Err (stop.Run f) in IsErrOf r (stop.Run bad)) → f ≡ bad
handed_run f bad is = let same = same_err is in cc

-- as many calls failed
pub counted_handed : {T U : Type 0} (f : RunFault) (restarts : ℕ) (c : Course)
    → CountFailures fault.Generator fault.Memory restarts c (let r : Result T RunFault = Err f in r)
    → AreCounted restarts c (let r : Result U Stop = Err (stop.Run f) in r)
counted_handed {T} {U} f restarts c x =
    counted_as fault.Generator fault.Memory (stop.Run fault.Generator) (stop.Run fault.Memory) restarts c
    (let r : Result T RunFault = Err f in r) (let r : Result U Stop = Err (stop.Run f) in r)
    (λ is. ap Err (handed_run f fault.Generator is)) (λ is. ap (λ e. Err (stop.Run e)) (same_err is))
    (λ is. ap (λ e. Err (stop.Run e)) (same_err is)) x

-- ---- the task of a number

module _ (w : SolveWords) (same : w ≡ made_words) (outside : Outside) (Same : Type 0) (written : Written) where
  -- no failure is made good, so that what was heard is what the host tells
  heard_made : (Lacked : Type 0) (below heard : Heard) → IsHeard w.restarts Lacked below heard → heard ≡ below
  heard_made Lacked below heard by = heard_plain w.restarts Lacked below heard (ap (λ (x : SolveWords). x.restarts) same) by

  pub made_solved : (ran : Ran) → (let r : Result Ran Stop = Ok ran in IsReportedBy w outside Same written r)
      → IsSolved w (hearing outside.files (heard_in outside)) Same written ran
  made_solved ran r = subst (λ h. IsSolved w (hearing outside.files h) Same written ran) (heard_made _ (heard_in outside) r.heard r.by) r.solved

  pub made_failed : (why : Stop) → (let r : Result Ran Stop = Err why in IsReportedBy w outside Same written r)
      → HasNoReport w (hearing outside.files (heard_in outside)) written why
  made_failed why r = subst (λ h. HasNoReport w (hearing outside.files h) written why) (heard_made _ (heard_in outside) r.heard r.by) r.failed
