-- Entries that are neither requests nor answers.
use Rattle.std.proofs.Common.{◌≡◌, ℕ, ◌+◌, ◌-◌, arith, Bool, true, false, Option, Some, slice_get, List, [], ◌∷◌, ◌++◌, length, refl, sym, subst, ap, ◌∙◌, cond, ◌==◌, eq-eqb, if◌then◌else◌, length-append}
use Rattle.session_core.specs.Session.{IsLearnt, IsSession}
use Rattle.session_core.specs.State.{State, after_mark}
use Rattle.task_model.specs.declared.task.Task.{Task}
use Rattle.transcript_model.specs.Legal.{is_mark}
use Rattle.lemmas.proofs.Members.{get_at_length}
use Rattle.transcript_model.specs.declared.entry.Entry.{Entry}
use Rattle.transcript_model.specs.declared.head.Head.{Head}
use Rattle.round_run.specs.TurnLines.{IsMarked}
use Rattle.io_world.specs.Talks.{Talk}
use Rattle.round_run.proofs.TalkingLemmas.{told_marked}
use Rattle.round_run.specs.Batches.{AreStarted}
use Rattle.round_run.specs.Held.{Held}
use Rattle.round_run.specs.Resting.{Rests}
use Rattle.round_run.specs.Talking.{IsTold, held_of}

pub marked : (s new : State) (e : Entry) → s.failed ≡ false → IsLearnt s
    → new ≡ after_mark s e (if s.learnt == length s.entries then s.learnt + 1 else s.learnt) → IsMarked e s new
marked s new e works learnt is = subst (IsMarked e s) (sym is) (record {
  entries = refl;
  asked = refl;
  version = refl;
  calls = refl;
  pools = refl;
  working = works;
  learnt = record
      { closed = learnt.closed; all = ap (λ b. cond b (s.learnt + 1) s.learnt) (eq-eqb s.learnt (length s.entries) learnt.all) ∙ longer };
})
  where
    longer : s.learnt + 1 ≡ length (s.entries ++ e ∷ [])
    longer = omega (arith, learnt.all, length-append s.entries (e ∷ []))

-- the last of the entries is the mark
pub mark_last : (before all : List Entry) (e last : Entry) → all ≡ before ++ e ∷ []
    → slice_get all (length all - 1) ≡ Some last → last ≡ e
mark_last before all e last is at =
    let size : length all - 1 ≡ length before = omega (arith, ap length is, length-append before (e ∷ [])) in
    let there : Some last ≡ Some e =
    sym at ∙ ap (slice_get all) size ∙ ap (λ es. slice_get es (length before)) is ∙ get_at_length before e in
    cc

-- a mark leaves the children alone
pub rests_marked : (task : Task) (head : Head) (e : Entry) → is_mark e ≡ true → (s new : State) (held : Held)
    (running : ℕ → Bool) (spoken : ℕ → Option Talk) → IsMarked e s new → IsSession task new
    → Rests task head s held running spoken → Rests task head new held running spoken
rests_marked task head e mark s new held running spoken m session rests =
    let works = rests.works in
    record {
      works = record {
        listens = record {
          session = session;
          working = m.working;
          state = works.listens.state;
          told = subst (λ v. IsTold task v new.pools new.entries running (held_of held) spoken) (sym m.version)
              (subst (λ ps. IsTold task s.version ps new.entries running (held_of held) spoken) (sym m.pools)
              (subst (λ es. IsTold task s.version s.pools es running (held_of held) spoken) (sym m.entries)
              (told_marked task s.version s.pools e mark s.entries running (held_of held) spoken works.listens.told)));
        };
        of = record { version = m.version ∙ works.of.version; calls = m.calls ∙ works.of.calls; pools = m.pools ∙ works.of.pools };
        learnt = m.learnt;
      };
      started = subst (λ ps. AreStarted ps (length new.asked) running) (sym m.pools)
          (subst (λ asked. AreStarted s.pools (length asked) running) (sym m.asked) rests.started);
    }
