-- What `learn` leaves is still a session.
use Rattle.std.proofs.Common.{◌≡◌, ℕ, ◌≤◌, Bool, true, false, List, length, take, sym, ap, arith}
use Rattle.std.proofs.Math.Seq.{take-length}
use Rattle.task_model.specs.Known.{Known}
use Rattle.task_model.specs.Streams.{Note}
use Rattle.task_model.specs.declared.stream.Instance.{Instance}
use Rattle.task_model.specs.declared.task.Task.{Task}
use Rattle.transcript_model.specs.Transcript.{known_of, notes_of}
use Rattle.learning.specs.Learning.{CanLearn}
use Rattle.session_core.specs.Session.{IsSession, after_learn}
use Rattle.session_core.specs.State.{State, with_learnt}

-- the state with what another knowledge keeps, of so many entries
abbrev pub knowledge_becomes : State → List Instance → Known → List Note → ℕ → Bool → State
knowledge_becomes s asked known notes learnt failed =
    record s { asked = asked; known = known; notes = notes; learnt = learnt; failed = failed }

learnt_kept : (task : Task) (s : State) (known : Known) (notes : List Note) (learnt : ℕ) (failed : Bool)
    → IsSession task s
    → learnt ≤ length s.entries → (failed ≡ false → known ≡ known_of task (take learnt s.entries))
    → (failed ≡ false → notes ≡ notes_of task (take learnt s.entries)) → IsSession task (with_learnt s known notes learnt failed)
learnt_kept task s known notes learnt failed h within knows told =
    record {
      fit = h.fit;
      version = h.version;
      some_version = h.some_version;
      calls = h.calls;
      pools = h.pools;
      legal = h.legal;
      none_open = h.none_open;
      counted = h.counted;
      asked = h.asked;
      answered = h.answered;
      learnt = within;
      known = knows;
      notes = told;
      round = λ e. let r = h.round e in
          record
          { dues = r.dues; ready = r.ready; instances = r.instances; asks = r.asks; slots = r.slots };
    }

pub all_learnt : (task : Task) (s : State) → IsSession task s → IsSession task (after_learn task s)
all_learnt task s h =
    learnt_kept task s (known_of task s.entries) (notes_of task s.entries) (length s.entries) false h
    (omega arith) (λ _. ap (known_of task) (sym (take-length s.entries))) (λ _. ap (notes_of task) (sym (take-length s.entries)))

pub not_learnt : (task : Task) (s : State) (known : Known) (notes : List Note) → IsSession task s
    → IsSession task (with_learnt s known notes s.learnt true)
not_learnt task s known notes h =
    learnt_kept task s known notes s.learnt true h h.learnt (λ e. absurd (cc)) (λ e. absurd (cc))

-- what the transcript certifies can be learnt
pub can_learn : (task : Task) (s : State) → IsSession task s → length s.asked ≤ 100000
    → CanLearn task s.asked s.entries
can_learn task s h few =
    record { version = s.version; fit = h.fit; legal = h.legal; counted = h.counted; asks = h.asked; answered = h.answered; few = few }
