-- What is heard in several calls.
use Rattle.std.proofs.Common.{◌≡◌, ℕ, zero, suc, subst, ◌+◌, ◌-◌, ◌<◌, ◌≤◌, inl, inr, List, [], ◌∷◌, ◌++◌, length, take, drop, Option, Some, None, Ok, Err, refl, sym, ap, ◌∙◌, append_assoc, arith, option_map, length-append}
use Rattle.std.proofs.Math.Seq.{take-append-add, take-append_seam}
use Rattle.std.proofs.lemmas.Bool.{eq-eqb}
use Rattle.std.proofs.lemmas.Bool.Decides.{eqb_tells}
use Rattle.std.proofs.lemmas.List.{append-nil, take-append-le, drop-append-le, length-take-le}
use Rattle.std.proofs.lemmas.List.Elements.{All-append}
use Rattle.lemmas.proofs.ListTests.{all_one}
use borrow.Rule.Slice.PartMut.{put_mid, post_of}
use Rattle.io_world.specs.Replies.{IsLine}
use Rattle.io_world.specs.Talks.{Talk, Event, heard, silence, heard_more, spelled, Hears, IsGiven, Gives, Logs, LogsGiven, LogsGivenPart, Same}
use Rattle.io_world.specs.declared.host.HostFault.{HostFault}
use Rattle.io_world.proofs.LogsLemmas.{spelled-more}
use Rattle.io_world.proofs.TalksLemmas.{extends_more}

pub heard_none : (talk : Option Talk) → talk ≡ option_map (heard_more []) talk
heard_none None = refl
heard_none (Some talk) = ap (λ bytes. Some (record { written = talk.written; heard = bytes })) (sym (append-nil talk.heard))

heard_twice : (talk : Option Talk) (xs ys : List ℕ)
    → option_map (heard_more ys) (option_map (heard_more xs) talk) ≡ option_map (heard_more (xs ++ ys)) talk
heard_twice None xs ys = refl
heard_twice (Some talk) xs ys = ap (λ bytes. Some (record { written = talk.written; heard = bytes })) (append_assoc talk.heard xs ys)

-- heard twice
pub hears_more : (child : ℕ) (old mid new : ℕ → Option Talk) (xs ys zs : List ℕ) → zs ≡ xs ++ ys
    → Hears child xs old mid
    → Hears child ys mid new → Hears child zs old new
hears_more child old mid new xs ys zs all first second = record {
  here =
      second.here ∙ ap (option_map (heard_more ys)) first.here ∙ heard_twice (old child) xs ys
      ∙ ap (λ bytes. option_map (heard_more bytes) (old child)) (sym all);
  others = λ k other. second.others k other ∙ first.others k other;
}

-- no line feed was heard by these events, nor held before
abbrev AtMost : ℕ → List ℕ → List Event → Type 0
AtMost child held events = IsLine (held ++ (spelled child silence events).heard)

-- one read more
pub gives_more : (child room : ℕ) (held xs piece zs : List ℕ) (events : List Event)
    → zs ≡ xs ++ piece → IsLine (held ++ xs)
    → Gives child held xs events → Gives child held zs (events ++ heard child room (Ok piece) ∷ [])
gives_more child room held xs piece zs events all line so_far = record {
  each = All-append (IsGiven child) events (heard child room (Ok piece) ∷ []) so_far.each
      (all_one (IsGiven child) (heard child room (Ok piece)) refl);
  spells =
      spelled-more child silence events (heard child room (Ok piece))
      ∙ rw (eq-eqb child child refl) (ap (heard_more piece) so_far.spells ∙ ap (λ bytes. heard_more bytes silence) (sym all));
  early = λ k below. elim (eqb_tells k (length events)) as (λ w. AtMost child held (take k (events ++ heard child room (Ok piece) ∷ []))) [
    | inl same ↦
        subst (AtMost child held) (sym (ap (λ m. take m (events ++ heard child room (Ok piece) ∷ [])) same.1
        ∙ take-append_seam events (heard child room (Ok piece) ∷ [])))
        (subst (λ (talk : Talk). IsLine (held ++ talk.heard)) (sym so_far.spells) line)
    | inr other ↦
        let before : k < length events = omega (arith, other.1, below, length-append events (heard child room (Ok piece) ∷ [])) in
        let front : k ≤ length events = omega arith in
        subst (AtMost child held) (sym (take-append-le k events (heard child room (Ok piece) ∷ []) front)) (so_far.early k before)
  ];
}

-- the bytes of a room after a read behind those that it held
pub room_more : (filled n : ℕ) (room rest : List ℕ) → filled ≤ length room → n ≤ length rest
    → take (filled + n) (put_mid filled (length room - filled) room rest) ≡ take filled room ++ take n rest
room_more filled n room rest within some =
    let tail : List ℕ = rest ++ post_of filled (length room - filled) room in
    subst (λ m. take (m + n) (take filled room ++ tail) ≡ take filled room ++ take n tail)
    (length-take-le filled room within) (take-append-add (take filled room) tail n)
    ∙ ap (λ piece. take filled room ++ piece) (take-append-le n rest (post_of filled (length room - filled) room) some)

-- those behind the first ones
pub heard_behind : (held filled n : ℕ) (room rest : List ℕ) → held ≤ filled → filled ≤ length room
    → n ≤ length rest
    → drop held (take (filled + n) (put_mid filled (length room - filled) room rest)) ≡ drop held (take filled room) ++ take n rest
heard_behind held filled n room rest above within some =
    let front : held ≤ length (take filled room) = omega (arith, length-take-le filled room within) in
    ap (drop held) (room_more filled n room rest within some) ∙ drop-append-le held (take filled room) (take n rest) front

-- the room holds what was read
pub room_within : (filled n : ℕ) (room rest : List ℕ) → filled ≤ length room → n ≤ length rest
    → filled + n ≤ length (put_mid filled (length room - filled) room rest)
room_within filled n room rest within some =
    omega (
      arith,
      length-take-le filled room within,
      length-append (take filled room) (rest ++ post_of filled (length room - filled) room),
      length-append rest (post_of filled (length room - filled) room),
    )

-- the bytes held before and the bytes heard
pub held_and_heard : (held filled : ℕ) (room : List ℕ) → held ≤ filled
    → take held room ++ drop held (take filled room) ≡ take filled room
held_and_heard zero filled room above = refl
held_and_heard (suc held) zero room above = absurd (omega arith)
held_and_heard (suc held) (suc filled) [] above = refl
held_and_heard (suc held) (suc filled) (byte ∷ room) above =
    let lower : held ≤ filled = omega arith in
    ap (λ bytes. byte ∷ bytes) (held_and_heard held filled room lower)

-- no line feed was held or heard
pub quiet : (held filled : ℕ) (room start : List ℕ) → held ≤ filled
    → take held room ≡ take held start → IsLine (take filled room)
    → IsLine (take held start ++ drop held (take filled room))
quiet held filled room start above kept line =
    subst (λ (front : List ℕ). IsLine (front ++ drop held (take filled room))) kept
    (subst IsLine (sym (held_and_heard held filled room above)) line)

-- the log with one read more
pub given_more : (child room : ℕ) (held xs piece zs : List ℕ) (old mid new : Option (List Event))
    → zs ≡ xs ++ piece → IsLine (held ++ xs)
    → LogsGiven child held xs old mid → Logs mid new (heard child room (Ok piece)) → LogsGiven child held zs old new
given_more child room held xs piece zs old mid new all line so_far more = (
  so_far.0 ++ heard child room (Ok piece) ∷ [],
  gives_more child room held xs piece zs so_far.0 all line so_far.1,
  extends_more old mid new so_far.0 (heard child room (Ok piece) ∷ []) so_far.2 more,
)

-- heard, and then nothing more
pub hears_kept : (child : ℕ) (old mid new : ℕ → Option Talk) (xs : List ℕ) → Hears child xs old mid
    → Same mid new → Hears child xs old new
hears_kept child old mid new xs first same = record {
  here = same child ∙ first.here;
  others = λ k other. same k ∙ first.others k other;
}

-- the log with a read that failed
pub given_fault : (child room : ℕ) (held xs : List ℕ) (fault : HostFault) (old mid new : Option (List Event))
    → IsLine (held ++ xs)
    → LogsGiven child held xs old mid → Logs mid new (heard child room (Err fault)) → LogsGivenPart child held fault old new
given_fault child room held xs fault old mid new line so_far more =
    (so_far.0, xs, room, so_far.1, line, extends_more old mid new so_far.0 (heard child room (Err fault) ∷ []) so_far.2 more)
