-- What was said with the children of the run.
use Rattle.std.proofs.Common.{◌≡◌, ℕ, zero, suc, ◌==◌, Bool, true, false, cond, List, [], ◌∷◌, codes, take, refl, sym, ap, subst, ◌∙◌, arith, Some, slice_get, ◌⊎◌, inl, inr, unwrap_or}
use Rattle.std.proofs.lemmas.Option.{same_Some}
use Rattle.std.specs.List.{position}
use Rattle.gen_lines.specs.Reply.{is_value, reply_of, yields, bad}
use Rattle.gen_lines.specs.declared.answer.Wanted.TheVariants.{Outputs}
use Rattle.gen_lines.specs.declared.answer.Why.{Why}
use Rattle.io_world.specs.Talks.{Talk, heard_more, silence, spelled, wrote_more}
use Rattle.lemmas.proofs.Options.{none_at}
use Rattle.round_run.specs.Dialogue.{IsBadLine, called_stream}
use Rattle.session_core.specs.Slots.{wanted_at}
use Rattle.table_runs.specs.Asking.{Asking, SpeaksBy, asked_by}
use Rattle.task_model.specs.Known.{same_numbers}
use Rattle.task_model.specs.declared.stream.Stream.{Stream}
use Rattle.transcript_model.specs.declared.entry.Call.{Call}
use Rattle.premise_laws.specs.Run.{cup_events}
use Rattle.witness_laws.specs.Fetch.{fetch, fetch_answers, grip, grip_cup}

abbrev pub cup_talk : Talk
cup_talk = record { written = codes "next 0 grip cup\n"; heard = codes "yield left\n" }

-- what was said with a child behind its start, behind the write and behind the read, where it is child 0 and where not
abbrev from_start : Bool → Talk
from_start b = cond b silence silence

abbrev from_write : Bool → Talk
from_write b = cond b (wrote_more (take 16 (codes "next 0 grip cup\n")) (from_start b)) (from_start b)

abbrev from_read : Bool → Talk
from_read b = cond b (heard_more (codes "yield left\n") (from_write b)) (from_write b)

-- child 0 was asked once; nothing was said with the others
pub said_with : (child : ℕ)
    → (spelled child silence cup_events ≡ cup_talk) ⊎ (spelled child silence cup_events ≡ silence)
said_with child =
    elim (0 == child) as (λ b. (from_read b ≡ cup_talk) ⊎ (from_read b ≡ silence)) [
      | true ↦ inl refl
      | false ↦ inr refl
    ]

-- ---- what is wanted

one_stream : (b : Bool) → unwrap_or (position (λ (s : Stream). b) (grip ∷ [])) 0 ≡ 0
one_stream true = refl
one_stream false = refl

-- each request is one to the only stream
pub wanted_is : (call : Call) → wanted_at fetch 1 (called_stream fetch call) ≡ Outputs 1 false
wanted_is call = ap (wanted_at fetch 1) (one_stream (same_numbers call.name (codes "grip")))

-- ---- the line is an answer

yield_is : reply_of (codes "yield left") (Outputs 1 false) ≡ yields 1 (codes "left" ∷ [])
unfolding is_value
yield_is = refl

yield_right : (why : Why) → reply_of (codes "yield left") (Outputs 1 false) ≡ bad why → ⊥
yield_right why e = let f = sym yield_is ∙ e in absurd (cc)

one_line : (line : List ℕ) (place : ℕ) → slice_get (codes "yield left" ∷ []) place ≡ Some line → line ≡ codes "yield left"
one_line line zero e = sym (same_Some (codes "yield left") line e)
one_line line (suc place) e = absurd (none_at place line e)

cup_right : (place : ℕ) (why : Why) → IsBadLine cup_talk.heard place (Outputs 1 false) why → ⊥
cup_right place why (inl line) =
    yield_right why (subst (λ l. reply_of l (Outputs 1 false) ≡ bad why) (one_line line.0 place line.1) line.2)
cup_right place why (inr long) = let n : 0 ≡ 1025 = long.2 in absurd (omega (arith, n))

silent_right : (place : ℕ) (why : Why) → IsBadLine silence.heard place (Outputs 1 false) why → ⊥
silent_right place why (inl line) = none_at place line.0 line.1
silent_right place why (inr long) = let n : 0 ≡ 1025 = long.2 in absurd (omega (arith, n))

-- no line that was heard is bad
pub no_bad_line : (child place : ℕ) (why : Why)
    → IsBadLine (spelled child silence cup_events).heard place (Outputs 1 false) why → ⊥
no_bad_line child place why line =
    elim (said_with child) [
      | inl said ↦ cup_right place why (subst (λ (t : Talk). IsBadLine t.heard place (Outputs 1 false) why) said line)
      | inr said ↦ silent_right place why (subst (λ (t : Talk). IsBadLine t.heard place (Outputs 1 false) why) said line)
    ]

-- ---- the answer is the table's

asked_is : asked_by (codes "next 0 grip cup") ≡ Some (record { turn = 0; call = grip_cup })
asked_is = refl

one_written : (line : List ℕ) (place : ℕ) → slice_get (codes "next 0 grip cup" ∷ []) place ≡ Some line
    → line ≡ codes "next 0 grip cup"
one_written line zero e = sym (same_Some (codes "next 0 grip cup") line e)
one_written line (suc place) e = absurd (none_at place line e)

cup_speaks : SpeaksBy 1 fetch fetch_answers cup_talk
cup_speaks place written heard q at_written asks at_heard =
    let line = one_written written place at_written in
    let ask : record { turn = 0; call = grip_cup } ≡ q =
    same_Some (record { turn = 0; call = grip_cup }) q (sym asked_is ∙ sym (ap asked_by line) ∙ asks) in
    let answer : reply_of (codes "yield left") (wanted_at fetch 1 (called_stream fetch grip_cup)) ≡ fetch_answers grip_cup 0 =
    yield_is in
    subst (λ (a : Asking). reply_of heard (wanted_at fetch 1 (called_stream fetch a.call)) ≡ fetch_answers a.call a.turn) ask
    (subst (λ l. reply_of l (wanted_at fetch 1 (called_stream fetch grip_cup)) ≡ fetch_answers grip_cup 0)
    (sym (one_line heard place at_heard)) answer)

silent_speaks : SpeaksBy 1 fetch fetch_answers silence
silent_speaks place written heard q at_written asks at_heard = absurd (none_at place written at_written)

pub speaks : (child : ℕ) → SpeaksBy 1 fetch fetch_answers (spelled child silence cup_events)
speaks child =
    elim (said_with child) [
      | inl said ↦ subst (SpeaksBy 1 fetch fetch_answers) (sym said) cup_speaks
      | inr said ↦ subst (SpeaksBy 1 fetch fetch_answers) (sym said) silent_speaks
    ]
