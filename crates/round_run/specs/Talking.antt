-- What was said so far, and what is kept of it: between two rounds, and in a round.
use Rattle.std.specs.Prelude.{◌≡◌, ℕ, ◌≤◌, ◌⊎◌, List, [], ◌∷◌, ◌++◌, length, take, Option, Some, slice_get, unwrap_or, IfSome, Bool, true, false}
use Rattle.std.specs.List.{after_first}
use Rattle.gen_lines.specs.Cutting.{Cut}
use Rattle.gen_lines.specs.Lines.{IsFirstShort, is_feed, lines_of}
use Rattle.gen_lines.specs.declared.answer.Why.{Why}
use Rattle.gen_lines.specs.declared.answer.Why.TheVariants.{TooLong}
use Rattle.io_world.specs.Talks.{Talk, Hears, silence}
use Rattle.session_core.specs.Heard.{heard_at, is_bad_at, number_at}
use Rattle.session_core.specs.Slots.{Slot}
use Rattle.session_core.specs.State.{State, after_line}
use Rattle.session_core.specs.declared.fault.Heard.TheVariants as heard
use Rattle.pools.specs.Pools.{Workers}
use Rattle.task_model.specs.declared.task.Task.{Task}
use Rattle.transcript_model.specs.declared.entry.Entry.{Entry}
use Rattle.round_run.specs.Dialogue.{AreSaid, AreShort, IsOneOf, Request, bytes_to, count_to, last_round, replies_of, requests_of, text_of_request, wanted_by}
use Rattle.round_run.specs.Held.{Held}
use Rattle.round_run.specs.Rolling.{finished_round}
use Rattle.round_run.specs.declared.fault.RunFault.{RunFault}
use Rattle.round_run.specs.declared.fault.RunFault.TheVariants.{Answer, Generator, Write, Memory}
use Rattle.gen_lines.specs.declared.line_buf.TheConstants.{LINE_BYTES}

-- ---- one child

-- the bytes that are kept of the child
abbrev pub held_of : Held → ℕ → List ℕ
held_of held child = unwrap_or (slice_get held.buffers child) []

-- The child was written its requests. Its bytes are one line for each of these that is answered, which says that
-- answer in at most 1,024 bytes, and then the bytes that are kept.
pub record IsTalk (task : Task) (version : ℕ) (requests : List Request) (replies : List Entry)
    (child : ℕ) (kept : List ℕ) (talk : Talk) : Type 0 where
  pub written : talk.written ≡ bytes_to child requests
  pub taken : List (List ℕ)
  pub cut : Cut talk.heard taken kept
  pub many : length taken ≡ count_to child (take (length replies) requests)
  pub said : AreSaid task version requests replies child taken
  pub short : AreShort talk.heard (length taken)

-- ---- all children

-- Between two rounds: the transcript has no request at its end, and each of its requests is answered. Of children that
-- don't run no byte is kept; with each child of the pools that runs, and tells what was said with it, this was said.
pub record IsTold (task : Task) (version : ℕ) (pools : List Workers) (entries : List Entry)
    (running : ℕ → Bool) (kept : ℕ → List ℕ) (spoken : ℕ → Option Talk) : Type 0 where
  pub closed : last_round task [] entries ≡ []
  pub even : length (replies_of entries) ≡ length (requests_of task pools entries)
  pub idle : (child : ℕ) → running child ≡ false → kept child ≡ []
  pub each : (child : ℕ) → IsOneOf pools child → running child ≡ true
      → IfSome (spoken child)
      (IsTalk task version (requests_of task pools entries) (replies_of entries) child (kept child))

-- The first requests are answered, and this was said with each child of the pools that tells it.
pub record Talks (task : Task) (version : ℕ) (pools : List Workers) (requests : List Request)
    (replies : List Entry) (kept : ℕ → List ℕ) (spoken : ℕ → Option Talk) : Type 0 where
  pub few : length replies ≤ length requests
  pub each : (child : ℕ) → IsOneOf pools child
      → IfSome (spoken child) (IsTalk task version requests replies child (kept child))

-- children that run have said nothing yet
abbrev pub AreSilent : (ℕ → Bool) → (ℕ → Option Talk) → Type 0
AreSilent running spoken =
    (child : ℕ) → running child ≡ true → IfSome (spoken child) (λ talk. talk ≡ silence)

-- ---- an open round

-- a slot of the round asks what the request says, of a child of the pools
pub record IsSlotOf (task : Task) (version : ℕ) (pools : List Workers) (r : Request) (t : Slot) : Type 0 where
  pub one : IsOneOf pools r.child
  pub child : t.child ≡ r.child
  pub number : t.number ≡ r.number
  pub text : t.request ≡ text_of_request r
  pub wanted : t.wanted ≡ wanted_by task version r

-- The slots ask what the round's requests say, one by one.
pub record AreSlotsOf (task : Task) (s : State) : Type 0 where
  pub many : length (requests_of task s.pools s.asks) ≡ length s.slots
  pub each : (k : ℕ) (r : Request) (t : Slot)
      → slice_get (requests_of task s.pools s.asks) k ≡ Some r
      → slice_get s.slots k ≡ Some t → IsSlotOf task s.version s.pools r t

-- What was said when so many requests of the round are sent, and so many of them are answered.
pub record IsTalking (task : Task) (s : State) (sent answered : ℕ) (kept : ℕ → List ℕ)
    (spoken : ℕ → Option Talk) : Type 0 where
  pub closed : last_round task [] s.entries ≡ []
  pub even : length (replies_of s.entries) ≡ length (requests_of task s.pools s.entries)
  pub slots : AreSlotsOf task s
  pub talks : Talks task s.version s.pools
      (requests_of task s.pools s.entries ++ take sent (requests_of task s.pools s.asks))
      (replies_of s.entries ++ take answered (finished_round s.slots)) kept spoken

-- ---- a line that is heard

-- Bytes of the child came and are kept behind the others: a line feed is among all these, or they are LINE_BYTES.
pub record Fills (child : ℕ) (kept left : List ℕ) (before after : ℕ → Option Talk) : Type 0 where
  pub more : List ℕ
  pub heard : Hears child more before after
  pub rest : left ≡ kept ++ more
  pub full : lines_of left ≡ [] → length left ≡ LINE_BYTES

-- the line is no answer to the request of this number
abbrev pub IsAnswerRefused : List Slot → ℕ → List ℕ → RunFault → Type 0
IsAnswerRefused slots child line (Answer number why) =
    (number ≡ number_at slots child) × (heard_at slots child line ≡ heard.Bad number why)
IsAnswerRefused slots child line Generator = ⊥
IsAnswerRefused slots child line Memory = ⊥
IsAnswerRefused slots child line Write = ⊥

-- Bytes of the child came, the first line of all that are kept of it is taken, and it is an answer, in no more bytes as
-- it came than a line may have.
pub record TakesAnswer (old : State) (child : ℕ) (new : State) (kept left : List ℕ)
    (was now : ℕ → Option Talk) : Type 0 where
  pub more : List ℕ
  pub heard : Hears child more was now
  pub line : List ℕ
  pub first : lines_of (kept ++ more) ≡ line ∷ lines_of (after_first is_feed (kept ++ more))
  pub rest : left ≡ after_first is_feed (kept ++ more)
  pub few : IsFirstShort (kept ++ more)
  pub good : is_bad_at old.slots child line ≡ false
  pub after : new ≡ after_line old child line false

-- the first line of these bytes, no longer as it came than a line may be, is no answer, for this cause; or they are
-- LINE_BYTES without a line feed
abbrev pub IsBadFirst : List Slot → ℕ → List ℕ → ℕ → Why → Type 0
IsBadFirst slots child bytes number why =
    ((line : List ℕ) × (lines_of bytes ≡ line ∷ lines_of (after_first is_feed bytes))
    × (heard_at slots child line ≡ heard.Bad number why) × IsFirstShort bytes)
    ⊎ ((why ≡ TooLong) × (lines_of bytes ≡ []) × (length bytes ≡ LINE_BYTES))

-- why no answer of the child was taken, of which these bytes are known
abbrev pub IsBlamed : List Slot → ℕ → List ℕ → RunFault → Type 0
IsBlamed slots child bytes (Answer number why) =
    (number ≡ number_at slots child) × IsBadFirst slots child bytes number why
IsBlamed slots child bytes Generator = Unit {0}
IsBlamed slots child bytes Memory = Unit {0}
IsBlamed slots child bytes Write = ⊥

-- Bytes of the child came, and no answer was taken.
pub record Misheard (slots : List Slot) (child : ℕ) (kept : List ℕ) (before after : ℕ → Option Talk)
    (fault : RunFault) : Type 0 where
  pub more : List ℕ
  pub heard : Hears child more before after
  pub blamed : IsBlamed slots child (kept ++ more) fault
