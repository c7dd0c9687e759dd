-- Where memory is wanting no request is open, or a call was refused for it.
use Rattle.std.proofs.Common.{◌≡◌, List, [], ◌++◌, Err, Option, Some, None, IfSome, sym, ap, ◌∙◌, append_assoc, append-nil, inl, inr, ◌⊎◌}
use Rattle.instance_queue.specs.declared.due.Due.{Due}
use Rattle.io_world.specs.Talks.{Event}
use Rattle.round_run.specs.Breaking.{RunBreaks, Tells, Underway, Unstarted, starts_after}
use Rattle.round_run.specs.Desk.{AtDesk, OnBatch}
use Rattle.round_run.specs.Resting.{IsFrontOfBatch, RanBatch}
use Rattle.round_run.specs.Told.{Stretch}
use Rattle.round_run.specs.declared.fault.RunFault.TheVariants.{Memory}
use Rattle.laws.specs.Memory.{EndsRefused, LosesNoAnswer}
use Rattle.task_model.specs.declared.task.Task.{Task}
use Rattle.transcript_model.specs.Legal.{HasNoneOpen, asks_of}
use Rattle.transcript_model.specs.declared.entry.Entry.{Entry}
use Rattle.transcript_model.specs.declared.head.Head.{Head}

told_last : (free : Type 0) (done refused events : List Event) → Tells free Memory refused → events ≡ done ++ refused
    → free ⊎ EndsRefused events
told_last free done refused events (inl (none, held)) cut = inl held
told_last free done refused events (inr (e, one, why)) cut =
    inr (record { past = done; last = e; is = cut ∙ ap (λ t. done ++ t) one; refused = why })

behind : (past events done refused : List Event) → events ≡ done ++ refused → past ++ events ≡ (past ++ done) ++ refused
behind past events done refused cut = ap (λ t. past ++ t) cut ∙ sym (append_assoc past done refused)

of_unstarted : (head : Head) (before more : List Entry) (past after events : List Event) → after ≡ past ++ events
    → Unstarted head before more Memory events → HasNoneOpen (before ++ more) ⊎ EndsRefused after
of_unstarted head before more past after events is u =
    elim u.were [
      | inl (none, told) ↦ told_last (HasNoneOpen (before ++ more)) after [] after told (sym (append-nil after))
      | inr (n, child, words, cause, at, came, told) ↦
          told_last (HasNoneOpen (before ++ more)) _ _ after told (is ∙ behind past events _ _ came)
    ]

of_underway : (task : Task) (head : Head) (Front : List Entry → Type 0) (before more : List Entry)
    (past after events : List Event) → after ≡ past ++ events
    → Underway task head past before more Memory events Front → HasNoneOpen (before ++ more) ⊎ EndsRefused after
of_underway task head Front before more past after events is u =
    let b = u.breaks in
    let first = starts_after head.pools (asks_of before) in
    let cut : events ≡ (first ++ (b.done ++ b.calls)) ++ b.refused =
    u.cut ∙ behind first u.later (b.done ++ b.calls) b.refused b.cut in
    told_last (HasNoneOpen (before ++ more)) (past ++ (first ++ (b.done ++ b.calls))) b.refused after b.told
    (is ∙ behind past events _ b.refused cut)

of_log : (task : Task) (head : Head) (Front : List Entry → Type 0) (before more : List Entry)
    (was now : Option (List Event)) → RunBreaks task head before Memory was now Front more
    → IfSome now (λ events. HasNoneOpen (before ++ more) ⊎ EndsRefused events)
of_log task head Front before more was None broke = tt
of_log task head Front before more was (Some after) (past, events, told, is, inl u) =
    of_unstarted head before more past after events is u
of_log task head Front before more was (Some after) (past, events, told, is, inr u) =
    of_underway task head Front before more past after events is u

pub batch_loses_none : (old new : AtDesk) (c : Stretch) (dues : List Due)
    → OnBatch old new c (RanBatch old.task old.head dues old.state new.state)
    (IsFrontOfBatch old.task old.head old.state.entries dues) (Err Memory)
    → LosesNoAnswer old.state.entries c.was.taken c.now.taken c.now.host.log
batch_loses_none old new c dues done =
    let s = done.stopped in
    record {
      more = s.more;
      printed = s.told;
      kept = of_log old.task old.head (IsFrontOfBatch old.task old.head old.state.entries dues) old.state.entries s.more
          c.was.host.log c.now.host.log s.logged;
    }
