-- How a command ends that answers.
use Rattle.std.proofs.Common.{◌≡◌, ℕ, List, [], ◌∷◌, Bool, true, false, refl, sym, ap, ◌∙◌, ◌⊎◌, inl, inr}
use Rattle.command_line.specs.Words.{Command, deorder, migrate, play, replay}
use Rattle.replay_check.specs.declared.verdict.Verdict.{Verdict}
use Rattle.replay_check.specs.declared.verdict.Verdict.TheVariants as verdict
use Rattle.grid_play.specs.declared.play.PlayVerdict.{PlayVerdict}
use Rattle.grid_play.specs.declared.play.PlayVerdict.TheVariants as played
use Rattle.grid_text.specs.Grids.{GridFile}
use Rattle.task_model.specs.Known.{Known}
use Rattle.task_model.specs.declared.task.Task.{Task}
use Rattle.transcript_model.specs.declared.outcome.Outcome.{Outcome}
use Rattle.transcript_model.specs.declared.outcome.Outcome.TheVariants as outcome
use Rattle.transcript_model.specs.declared.report.Report.{Report}
use Rattle.pddlstream_app.specs.AnswerOf.{AnswerOf, HasAnswer, SaysVerdict}
use Rattle.pddlstream_app.specs.Asked.{AsksAll, AsksFiles}
use Rattle.command_files.specs.Outside.{FilesSeen, Outside, Written}
use Rattle.pddlstream_app.specs.Replays.{IsMigrated, kind_of_verdict}
use Rattle.pddlstream_app.specs.Plans.{IsOrderTold, IsOrderTooLong, SaysBy, SaysOfReport, SaysOrder, SaysOrderBy, SaysPlay, SaysPlayBy, play_status}
use Rattle.pddlstream_app.specs.Runs.{IsBeforeHost}
use Rattle.command_files.specs.Stop.{is_write_fault}
use Rattle.command_files.specs.declared.status.Status.{Status}
use Rattle.command_files.specs.declared.status.Status.TheVariants.{Done, Invalid, Limit, NoPlan, Plan, WriteFault}

-- what was asked for is done, a limit stands in its way, or something is wrong
abbrev pub is_said : Status → Bool
is_said Done = true
is_said Limit = true
is_said Invalid = true
is_said status = false

verdict_said : (v : Verdict) → is_said (kind_of_verdict v) ≡ true
verdict_said verdict.Valid = refl
verdict_said (verdict.Invalid line kind) = refl
verdict_said verdict.Limit = refl

says_said : (IsSo : Verdict → Type 0) (status : Status) (text : List ℕ) → SaysVerdict IsSo status text
    → is_said status ≡ true
says_said IsSo status text s = ap is_said (sym s.2) ∙ verdict_said s.0

migrated_said : (bytes : List ℕ) (status : Status) (text : List ℕ) → IsMigrated bytes status text → is_said status ≡ true
migrated_said bytes Done text m = refl
migrated_said bytes Invalid text m = refl
migrated_said bytes status text m = absurd m

-- of a right report it is what is said of its plan
says_by_said : (Says : Report → Status → List ℕ → Type 0) (status : Status) (text : List ℕ)
    → ((r : Report) → Says r status text → is_said status ≡ true) → (bytes : List ℕ) (v : Verdict)
    → SaysBy Says bytes v status text → is_said status ≡ true
says_by_said Says status text each bytes verdict.Valid s = each s.0 s.3
says_by_said Says status text each bytes (verdict.Invalid line kind) s = ap is_said (sym s.0)
says_by_said Says status text each bytes verdict.Limit s = ap is_said (sym s.0)

report_said : (states : ℕ) (task : Task) (Says : Report → Status → List ℕ → Type 0) (status : Status) (text : List ℕ)
    → ((r : Report) → Says r status text → is_said status ≡ true) → (bytes : List ℕ)
    → SaysOfReport states task bytes Says status text → is_said status ≡ true
report_said states task Says status text each bytes s = says_by_said Says status text each bytes s.0 s.2

order_said : (task : Task) (known : Known) (o : Outcome) (status : Status) (text : List ℕ)
    → SaysOrderBy task known o status text → is_said status ≡ true
order_said task known (outcome.Plan calls cost from) status text s = of s.said
  where
    of : IsOrderTooLong s.steps status text ⊎ IsOrderTold task calls s.steps status text → is_said status ≡ true
    of (inl long) = ap is_said long.kind
    of (inr told) = ap is_said told.kind
order_said task known outcome.NoPlan status text s = ap is_said s.0
order_said task known (outcome.Limit kind) status text s = ap is_said s.0

played_said : (v : PlayVerdict) → is_said (play_status v) ≡ true
played_said played.Safe = refl
played_said (played.Strange i) = refl
played_said (played.Outside i block) = refl
played_said (played.Obstacle i block) = refl
played_said (played.Clash i first second) = refl

play_said : (grid : GridFile) (o : Outcome) (status : Status) (text : List ℕ) → SaysPlayBy grid o status text
    → is_said status ≡ true
play_said grid (outcome.Plan calls cost from) status text s = ap is_said s.kind ∙ played_said s.play.verdict
play_said grid outcome.NoPlan status text s = ap is_said s.0
play_said grid (outcome.Limit kind) status text s = ap is_said s.0

-- by the rows
row_said : (command : Command) (texts : List (List ℕ)) (status : Status) (text : List ℕ) → AnswerOf command texts status text
    → is_said status ≡ true
row_said (replay w) (domain ∷ problem ∷ streams ∷ report ∷ []) status text a = says_said _ status text a.3
row_said (migrate path) (report ∷ []) status text a = migrated_said report status text a
row_said (deorder w) (domain ∷ problem ∷ streams ∷ report ∷ []) status text a =
    report_said _ _ (SaysOrder a.0) status text (λ r s. order_said a.0 _ r.outcome status text s) report a.3
row_said (play w) (domain ∷ problem ∷ streams ∷ report ∷ grid ∷ []) status text a =
    report_said _ _ (SaysPlay a.3.0) status text (λ r s. play_said a.3.0 r.outcome status text s) report a.3.2
row_said command texts status text a = absurd a

pub answer_said : (words : List (List ℕ)) (outside : Outside) (status : Status) (text : List ℕ)
    → HasAnswer words outside status text → is_said status ≡ true
answer_said words outside status text h = row_said h.command h.answer.texts status text h.answer.so

-- ---- what follows

-- it isn't the sink that failed
pub said_whole : (status : Status) → is_said status ≡ true → is_write_fault status ≡ false
said_whole WriteFault e = absurd (cc)
said_whole status e = refl

-- nor the words, a file or a text that ended the run
pub said_behind : (status : Status) → is_said status ≡ true → IsBeforeHost status → ⊥
said_behind Done e b = b
said_behind Limit e b = b
said_behind Invalid e b = b
said_behind status e b = absurd (cc)

-- the command's files were asked for
pub said_asks : (words : List (List ℕ)) (files : FilesSeen) (written : Written) (status : Status) → is_said status ≡ true
    → AsksAll words files → AsksFiles words files written status
said_asks words files written Done e all = all
said_asks words files written Limit e all = all
said_asks words files written Invalid e all = all
said_asks words files written Plan e all = all
said_asks words files written NoPlan e all = all
said_asks words files written status e all = absurd (cc)
