-- The transcript of the run agrees with the table, and what was said is its dialogue.
use Rattle.std.proofs.Common.{◌≡◌, ℕ, zero, suc, ◌<◌, true, List, [], ◌∷◌, codes, length, refl, sym, ap, subst, ◌∙◌, arith, Some, slice_get}
use Rattle.std.proofs.lemmas.Bool.{false≢true}
use Rattle.std.proofs.lemmas.Option.{same_Some}
use Rattle.std.specs.Fmt.{digits}
use Rattle.gen_lines.specs.Reply.{is_value, reply_of}
use Rattle.io_world.specs.Talks.{silence, spelled}
use Rattle.lemmas.proofs.Members.{place_of}
use Rattle.lemmas.proofs.Options.{none_at}
use Rattle.pools.specs.Pools.{HasChild, Workers}
use Rattle.round_run.specs.Dialogue.{AreSaid, Dialogue, IsOneOf, IsSaid, IsShortAt, Request, replies_of, requests_of, wanted_by}
use Rattle.session_core.specs.Slots.{replied_entry}
use Rattle.transcript_model.specs.Legal.{is_answer_to}
use Rattle.transcript_model.specs.Tables.{AnswersAgree, entry_of_reply}
use Rattle.transcript_model.specs.declared.entry.Call.{Call}
use Rattle.transcript_model.specs.declared.entry.Entry.{Entry}
use Rattle.transcript_model.specs.declared.entry.Entry.TheVariants as entry
use Rattle.witness_laws.specs.Fetch.{fetch, fetch_answers, grip_cup}
use Rattle.witness_laws.specs.Level.{cup_entries}
use Rattle.premise_laws.specs.Run.{cup_events, cup_workers}

abbrev got_left : Entry
got_left = entry.Got 1 1 (codes "left" ∷ [])

-- ---- the table

-- what the table answers to a request
abbrev asked_reply : Entry → List Entry
asked_reply (entry.Ask n turn call) = entry_of_reply n (fetch_answers call turn)
asked_reply e = []

-- the only answer is the table's
answer_at : (n turn : ℕ) (call : Call) (e : Entry) (k : ℕ) → entry.Ask 1 0 grip_cup ≡ entry.Ask n turn call
    → slice_get cup_entries k ≡ Some e → is_answer_to n e ≡ true → entry_of_reply n (fetch_answers call turn) ≡ e ∷ []
answer_at n turn call e zero ask at is =
    absurd (false≢true (ap (is_answer_to n) (same_Some entry.Level e at) ∙ is))
answer_at n turn call e (suc zero) ask at is =
    absurd (false≢true (ap (is_answer_to n) (same_Some (entry.Ask 1 0 grip_cup) e at) ∙ is))
answer_at n turn call e (suc (suc zero)) ask at is =
    sym (ap asked_reply ask) ∙ ap (λ x. x ∷ []) (same_Some got_left e at)
answer_at n turn call e (suc (suc (suc k))) ask at is = absurd (none_at k e at)

ask_at : (n turn : ℕ) (call : Call) (j : ℕ) → slice_get cup_entries j ≡ Some (entry.Ask n turn call)
    → entry.Ask 1 0 grip_cup ≡ entry.Ask n turn call
ask_at n turn call zero at = absurd (cc)
ask_at n turn call (suc zero) at = same_Some (entry.Ask 1 0 grip_cup) (entry.Ask n turn call) at
ask_at n turn call (suc (suc zero)) at = absurd (cc)
ask_at n turn call (suc (suc (suc j))) at = absurd (none_at j (entry.Ask n turn call) at)

pub cup_agrees : AnswersAgree fetch_answers cup_entries
cup_agrees n turn call e asked there is =
    let ask = place_of cup_entries (entry.Ask n turn call) asked in
    let at = place_of cup_entries e there in
    answer_at n turn call e at.0 (ask_at n turn call ask.0 ask.1) at.1 is

-- ---- the dialogue

abbrev cup_request : Request
cup_request = record { child = 0; number = 1; turn = 0; call = grip_cup }

requests_are : requests_of fetch cup_workers cup_entries ≡ cup_request ∷ []
requests_are = refl

only_child : (child : ℕ) → IsOneOf cup_workers child → child ≡ 0
only_child child is = by is.place is.pool is.at is.has
  where
    by : (place : ℕ) (pool : Workers) → slice_get cup_workers place ≡ Some pool → HasChild pool child → child ≡ 0
    by zero pool at has =
        let mine = subst (λ p. HasChild p child) (sym (same_Some (record { first = 0; workers = 1; streams = 0 ∷ [] }) pool at)) has in
        let below = mine.to in
        omega (arith, below)
    by (suc place) pool at has = absurd (none_at place pool at)

replied : replied_entry 1 (reply_of (codes "yield left") (wanted_by fetch 1 cup_request)) ≡ Some got_left
unfolding is_value
replied = refl

said_answers : AreSaid fetch 1 (cup_request ∷ []) (got_left ∷ []) 0 (codes "yield left" ∷ [])
said_answers zero r e at_r to at_e = (
  codes "yield left",
  refl,
  subst (λ (q : Request). replied_entry q.number (reply_of (codes "yield left") (wanted_by fetch 1 q)) ≡ Some e)
      (same_Some cup_request r at_r) (replied ∙ ap Some (same_Some got_left e at_e)),
)
said_answers (suc k) r e at_r to at_e = absurd (none_at k r at_r)

line_short : (place : ℕ) → place < 1 → IsShortAt (codes "yield left\n") place
line_short zero lt = let n : length (codes "yield left") ≡ 10 = refl in omega (arith, n)
line_short (suc place) lt = absurd (omega (arith, lt))

cup_said : IsSaid fetch 1 (requests_of fetch cup_workers cup_entries) (replies_of cup_entries) [] 0
    (spelled 0 silence cup_events)
unfolding digits
cup_said = record { written = refl; answered = said_answers; short = line_short }

pub cup_talks : Dialogue fetch 1 cup_workers cup_entries (λ child. Some (spelled child silence cup_events))
cup_talks child is some =
    subst (λ c. IsSaid fetch 1 (requests_of fetch cup_workers cup_entries) (replies_of cup_entries) [] c (spelled c silence cup_events))
    (sym (only_child child is)) cup_said
