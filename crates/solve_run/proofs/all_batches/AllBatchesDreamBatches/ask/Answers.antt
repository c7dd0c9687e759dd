use Rattle.std.proofs.Common.{◌≡◌, ◌∙◌, ap, false, length, subst, ℕ}
use Rattle.solve_run.proofs.BindingLemmas.{dreamt_front, may_run, ran_dreamt}
use Rattle.solve_run.specs.Batching.{IsFrontBehindLine, RanBehindLine}
use Rattle.solve_run.proofs.FocusingLemmas.{dreamt}
use Rattle.solve_run.specs.Focusing.{RanFocused, carried}
use Rattle.turn_run.proofs.TurnsOutcomeLemmas.{names_known}
use Rattle.turn_run.specs.Advancing.{IsFrontOfTurn}
use Rattle.round_run.proofs.GoingLemmas.{rests_on, turn_handed, turn_ok}
use Rattle.session_core.specs.Session.{IsLearnt, IsSession}
use Rattle.session_core.specs.State.{State}
use Rattle.task_model.specs.Known.{Known}
use Rattle.task_model.specs.declared.task.Task.{Task}
use Rattle.transcript_model.specs.Legal.{IsLegal}
use Rattle.transcript_model.specs.Rounds.{limits_of}
use Rattle.transcript_model.specs.Transcript.{names_of}
use Rattle.solve_run.proofs.all_batches.AllBatchesDreamBatches.ask.Goals as goal

pub run_behind-requires-clause-may : goal.run_behind-requires-clause-may
run_behind-requires-clause-may g c =
    let desk = c.args.desk.now in
    let s = desk.state in
    let dream = c.args.dream in
    may_run desk.head desk.task c.requires.mode c.args.tried.now dream.line dream.entries.items s
    (dreamt (limits_of desk.head) desk.task s.entries c.args.tried.now dream.line dream.entries.items c.requires.dream) c.requires.room

-- how many names there were
named : (task : Task) (s x : State) → s.failed ≡ false → IsLearnt s → IsSession task s → (known : Known) (real : ℕ)
    → known ≡ x.known → x ≡ s → real ≡ length known.names → real ≡ length (names_of task s.entries)
named task s x works learnt h known real known_is same count =
    count ∙ ap length (names_known task s works learnt h known (known_is ∙ ap (λ (z : State). z.known) same))

pub returns-in_err-ended : goal.returns-in_err-ended
returns-in_err-ended g c =
    let old = c.args.desk.now in
    let new = c.run_behind.new.desk in
    let s = old.state in
    let tried = c.args.tried.now in
    let works = c.requires.rests.works in
    let dream = c.args.dream in
    let needs = c.as_slice-entries.result.now in
    let real = c.name_count-real.result in
    let names = named old.task s _ works.listens.working works.learnt works.listens.session _ real c.facts.ensures c.session.ensures.is
    c.name_count-real.ensures.count in
    record {
      goes = turn_handed old new _
          (RanBehindLine old.head old.task real needs dream.line s new.state tried c.run_behind.new.tried) _
          (IsFrontBehindLine old.head old.task real needs s.entries dream.line)
          (IsFrontOfTurn old.task old.head (carried tried) s.entries) c.in_err-ended.field-0.0 c.from_residual.result
          c.from_residual.ensures.1 c.in_err-ended.ensures.goes
          (λ es legal f. dreamt_front old.head old.task c.requires.mode tried dream.line dream.entries.items s
          (dreamt (limits_of old.head) old.task s.entries tried dream.line dream.entries.items c.requires.dream) es
          (subst (λ n. IsFrontBehindLine old.head old.task n dream.entries.items s.entries dream.line es) names
          (subst (λ list. IsFrontBehindLine old.head old.task real list s.entries dream.line es) c.as_slice-entries.ensures.value f)));
    }

pub returns : goal.returns
returns g c =
    let old = c.args.desk.now in
    let new = c.run_behind.new.desk in
    let s = old.state in
    let task = old.task in
    let head = old.head in
    let tried = c.args.tried.now in
    let joined = c.run_behind.new.tried in
    let works = c.requires.rests.works in
    let h = works.listens.session in
    let dream = c.args.dream in
    let needs = c.as_slice-entries.result.now in
    let real = c.name_count-real.result in
    let b = c.in_ok-ended.ended in
    let goes = c.in_ok-ended.ensures.goes in
    let names = named task s _ works.listens.working works.learnt h _ real c.facts.ensures c.session.ensures.is
    c.name_count-real.ensures.count in
    record {
      goes = turn_ok old new _ (RanBehindLine head task real needs dream.line s new.state tried joined)
          (RanFocused task head tried joined s new.state) (IsFrontBehindLine head task real needs s.entries dream.line)
          (IsFrontOfTurn task head (carried tried) s.entries) b c.turned.result goes
          (λ ran. ran_dreamt head task c.requires.mode tried dream.line dream.entries.items s
          (dreamt (limits_of head) task s.entries tried dream.line dream.entries.items c.requires.dream) h.fit
          (subst (λ v. IsLegal v task s.entries) works.of.version h.legal) c.requires.room h.counted new.state
          (rests_on old new goes.same goes.holds).works.listens.session.counted joined b
          (subst (λ n. RanBehindLine head task n dream.entries.items dream.line s new.state tried joined b) names
          (subst (λ list. RanBehindLine head task real list dream.line s new.state tried joined b) c.as_slice-entries.ensures.value ran))
          c.turned.result c.turned.ensures.done c.turned.ensures.spent);
    }
