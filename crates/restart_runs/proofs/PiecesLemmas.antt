-- A request is brought, in as many pieces as it is written in.
use Rattle.std.proofs.Common.{◌≡◌, ◌⊎◌, ℕ, ◌+◌, ◌<◌, ◌≤◌, false, List, [], ◌∷◌, ◌++◌, length, take, drop, Some, Ok, Err, refl, sym, ap, subst, ◌∙◌, arith, append_assoc, append-nil, length-append, All, inl, inr}
use Rattle.std.proofs.Math.Seq.{take-append-add, take-append_seam}
use Rattle.std.proofs.lemmas.Bool.{cases_lt}
use Rattle.std.proofs.lemmas.List.{length-take-le, take_all, take-append-le, take-append-drop}
use Rattle.std.proofs.lemmas.List.Elements.{All-nil, All-head, All-tail, All-append, All-weaker}
use Rattle.io_world.specs.Replies.{IsLine}
use Rattle.io_world.specs.Talks.{Event, Talk, started, wrote, heard, stopped, silence, spelled, wrote_more, IsTaken}
use Rattle.restart_host.proofs.CourseLemmas.{course_join, course_so, moment_join, takes_from}
use Rattle.restart_host.proofs.FeedLemmas.{line_front}
use Rattle.restart_host.proofs.StepsLemmas.{written_first}
use Rattle.restart_host.proofs.UsesLemmas.{waiting_own, words_kept}
use Rattle.restart_host.specs.Lives.{AreBringing, Brings, IsNoRead, IsWritten, Moment, moment_by, moment_of}
use Rattle.restart_host.specs.Tries.{IsOn}
use Rattle.io_world.specs.declared.host.HostFault.TheVariants.{Failed}
use Rattle.restart_runs.proofs.CallsLemmas.{IsNoStart, done_cut, taken_no, words_behind}
use Rattle.restart_host.specs.Uses.{AreDone, waiting, waiting_then, words_of}

-- the first of the first bytes
front_take : (n : ℕ) (p rest : List ℕ) → (k : ℕ) × (take n p ≡ take k (p ++ rest))
front_take n p rest = elim (cases_lt (length p) n) [
  | inl long ↦ (length p, take_all n p (omega (arith, long)) ∙ sym (take-append_seam p rest))
  | inr short ↦ (n, sym (take-append-le n p rest short))
]

module _ (child : ℕ) (words : List (List ℕ)) (asked p rest : List ℕ) (m : Moment) (xs ys : List Event)
    (first : Brings child words asked p m xs) where
  abbrev Whole : Moment → Type 0
  Whole at = IsWritten m.talk.written asked (p ++ rest) at

  early : (at : Moment) → IsWritten m.talk.written asked p at → Whole at
  early at holds = elim holds.1 [
    | inl was ↦
        let k = front_take holds.0 p rest in
        (k.0, inl (was ∙ ap (λ bs. m.talk.written ++ bs) k.1))
    | inr anew ↦
        let k = front_take holds.0 (asked ++ p) rest in
        (k.0, inr (anew ∙ k.1 ∙ ap (take k.0) (append_assoc asked p rest)))
  ]

  behind : (front : List ℕ) (n : ℕ) → (front ++ p) ++ take n rest ≡ front ++ take (length p + n) (p ++ rest)
  behind front n = append_assoc front p (take n rest) ∙ ap (λ bs. front ++ bs) (sym (take-append-add p rest n))

  all_of : (n : ℕ) → (asked ++ p) ++ take n rest ≡ take (length (asked ++ p) + n) (asked ++ (p ++ rest))
  all_of n = sym (take-append-add (asked ++ p) rest n) ∙ ap (take (length (asked ++ p) + n)) (append_assoc asked p rest)

  late : (at : Moment) → IsWritten (moment_by child m xs).talk.written (asked ++ p) rest at → Whole at
  late at holds = elim holds.1 [
    | inl was ↦ elim first.whole [
      | inl kept ↦
          (length p + holds.0, inl (was ∙ ap (λ bs. bs ++ take holds.0 rest) kept ∙ behind m.talk.written holds.0))
      | inr anew ↦
          (length (asked ++ p) + holds.0, inr (was ∙ ap (λ bs. bs ++ take holds.0 rest) anew ∙ all_of holds.0))
    ]
    | inr anew ↦ (holds.0, inr (anew ∙ ap (take holds.0) (append_assoc asked p rest)))
  ]

  at_end : (at : Moment) → (at.talk.written ≡ (moment_by child m xs).talk.written ++ rest) ⊎ (at.talk.written ≡ (asked ++ p) ++ rest)
      → (at.talk.written ≡ m.talk.written ++ (p ++ rest)) ⊎ (at.talk.written ≡ asked ++ (p ++ rest))
  at_end at whole = elim whole [
    | inl was ↦ elim first.whole [
      | inl kept ↦ inl (was ∙ ap (λ bs. bs ++ rest) kept ∙ append_assoc m.talk.written p rest)
      | inr anew ↦ inr (was ∙ ap (λ bs. bs ++ rest) anew ∙ append_assoc asked p rest)
    ]
    | inr anew ↦ inr (anew ∙ append_assoc asked p rest)
  ]

  pub bringing_join : AreBringing child words (asked ++ p) rest (moment_by child m xs) ys
      → AreBringing child words asked (p ++ rest) m (xs ++ ys)
  bringing_join second = record {
    on = All-append (IsOn child words) xs ys first.bringing.on second.on;
    unread = All-append IsNoRead xs ys first.bringing.unread second.unread;
    course = course_join child Whole m xs ys (course_so child _ Whole m xs early first.bringing.course)
        (course_so child _ Whole (moment_by child m xs) ys late second.course);
  }

  pub brings_join : Brings child words (asked ++ p) rest (moment_by child m xs) ys
      → Brings child words asked (p ++ rest) m (xs ++ ys)
  brings_join second = record {
    bringing = bringing_join second.bringing;
    whole = at_end (moment_by child m (xs ++ ys))
        (subst (λ (at : Moment). (at.talk.written ≡ (moment_by child m xs).talk.written ++ rest) ⊎ (at.talk.written ≡ (asked ++ p) ++ rest))
        (sym (moment_join child m xs ys)) second.whole);
  }

brings_nothing : (child : ℕ) (words : List (List ℕ)) (asked : List ℕ) (m : Moment) → Brings child words asked [] m []
brings_nothing child words asked m = record {
  bringing = record {
    on = All-nil (IsOn child words);
    unread = All-nil IsNoRead;
    course = (0, inl (sym (append-nil m.talk.written)));
  };
  whole = inl (sym (append-nil m.talk.written));
}

-- what stands before the last bytes of a line
prefix_line : (asked rest request : List ℕ) → asked ++ rest ≡ request ++ 10 ∷ [] → 0 < length rest → IsLine request → IsLine asked
prefix_line asked rest request is some line =
    let long : length asked + length rest ≡ length request + 1 =
    sym (length-append asked rest) ∙ ap length is ∙ length-append request (10 ∷ []) in
    let within : length asked ≤ length request = omega (arith, long, some) in
    let front : asked ≡ take (length asked) request =
    sym (take-append_seam asked rest) ∙ ap (take (length asked)) is ∙ take-append-le (length asked) request (10 ∷ []) within in
    subst IsLine (sym front)
    (line_front (take (length asked) request) (drop (length asked) request)
    (subst IsLine (sym (take-append-drop (length asked) request)) line))

-- Writes of more of a request were done.
pub record ArePieces (child : ℕ) (words : List (List ℕ)) (asked rest : List ℕ) (calls past events is : List Event) : Type 0 where
  pub brings : Brings child words asked rest (moment_of child past) is
  pub waits : waiting child (calls ++ events) ≡ Some (asked ++ rest)

-- of which so many bytes are left
pub pieces_done : (child : ℕ) (words : List (List ℕ)) (request left : List ℕ) (events calls past is : List Event) (asked rest : List ℕ)
    → IsLine request → asked ++ (rest ++ left) ≡ request ++ 10 ∷ [] → words_of child calls ≡ words → waiting child calls ≡ Some asked
    → All (IsTaken child) events → (spelled child silence events).written ≡ rest → AreDone calls past events is
    → ArePieces child words asked rest calls past events is
pieces_done child words request left [] calls past is asked rest line whole named waits each spells done =
    subst (λ bs. ArePieces child words asked bs calls past [] is) spells
    (subst (ArePieces child words asked [] calls past []) (sym done) (record {
      brings = brings_nothing child words asked (moment_of child past);
      waits = ap (waiting child) (append-nil calls) ∙ waits ∙ ap Some (sym (append-nil asked));
    }))
pieces_done child words request left (started k argv answer ∷ events) calls past is asked rest line whole named waits each spells done =
    absurd (All-head (IsTaken child) _ _ each)
pieces_done child words request left (wrote k p (Ok n) ∷ events) calls past is asked rest line whole named waits each spells done =
    let head = All-head (IsTaken child) _ _ each in
    let own : k ≡ child = head.0 in
    let later = takes_from child (record { talk = silence; fallen = false }) events (All-tail (IsTaken child) _ _ each) in
    let taken : take n p ≡ p = take_all n p (omega (arith, done.3.1)) in
    let cut : take n p ++ later.bytes ≡ rest =
    ap (λ (t : Talk). t.written)
    (sym (later.spells (wrote_more (take n p) silence)) ∙ sym (written_first child k n p events own)) ∙ spells in
    let some : 0 < length (rest ++ left) =
    omega (
      arith,
      ap length (sym cut),
      length-append (take n p) later.bytes,
      length-take-le n p head.2,
      head.1,
      length-append rest left,
    ) in
    let quiet : IsLine asked = prefix_line asked (rest ++ left) request whole some line in
    let e : Event = wrote k p (Ok n) in
    let first : Brings child words asked (take n p) (moment_of child past) done.0 =
    subst (λ bs. Brings child words asked bs (moment_of child past) done.0) (sym taken)
    (subst (λ ws. Brings child ws asked p (moment_of child past) done.0) named
    (subst (λ j. Brings j (words_of j calls) asked p (moment_of j past) done.0) own
    (done.3.3 asked (ap (λ j. waiting j calls) own ∙ waits) quiet))) in
    let next : waiting child (calls ++ e ∷ []) ≡ Some (asked ++ take n p) =
    waiting_own child calls e own ∙ ap (λ w. waiting_then w e) waits ∙ rw quiet refl in
    let behind : (asked ++ take n p) ++ (later.bytes ++ left) ≡ request ++ 10 ∷ [] =
    append_assoc asked (take n p) (later.bytes ++ left)
    ∙ ap (λ bs. asked ++ bs) (sym (append_assoc (take n p) later.bytes left) ∙ ap (λ bs. bs ++ left) cut) ∙ whole in
    let rest_done = pieces_done child words request left events (calls ++ e ∷ []) (past ++ done.0) done.1 (asked ++ take n p) later.bytes
    line behind
    (words_kept child k calls p (Ok n) ∙ named) next (All-tail (IsTaken child) _ _ each)
    (ap (λ (t : Talk). t.written) (later.spells silence)) done.4 in
    subst (λ bs. ArePieces child words asked bs calls past (e ∷ events) is) cut
    (subst (ArePieces child words asked (take n p ++ later.bytes) calls past (e ∷ events)) (sym done.2) (record {
      brings = brings_join child words asked (take n p) later.bytes (moment_of child past) done.0 done.1 first (subst (λ (at : Moment). Brings child words (asked ++ take n p) later.bytes at done.1)
          (moment_join child _ past done.0) rest_done.brings);
      waits = ap (waiting child) (sym (append_assoc calls (e ∷ []) events)) ∙ rest_done.waits
          ∙ ap Some (append_assoc asked (take n p) later.bytes);
    }))
pieces_done child words request left (wrote k p (Err fault) ∷ events) calls past is asked rest line whole named waits each spells done =
    absurd (All-head (IsTaken child) _ _ each)
pieces_done child words request left (heard k room answer ∷ events) calls past is asked rest line whole named waits each spells done =
    absurd (All-head (IsTaken child) _ _ each)
pieces_done child words request left (stopped k answer ∷ events) calls past is asked rest line whole named waits each spells done =
    absurd (All-head (IsTaken child) _ _ each)

-- ---- a write that failed behind them

-- Tries to bring a request of which some bytes were written: the next write failed.
pub pieces_begun : (child : ℕ) (words : List (List ℕ)) (request front left : List ℕ) (events calls past is : List Event) → IsLine request
    → front ++ left ≡ request ++ 10 ∷ [] → words_of child calls ≡ words → waiting child calls ≡ Some []
    → All (IsTaken child) events → (spelled child silence events).written ≡ front
    → AreDone calls past (events ++ wrote child left (Err Failed) ∷ []) is
    → AreBringing child words [] (front ++ left) (moment_of child past) is
pieces_begun child words request front left events calls past is line whole named waits each spells done =
    let last : Event = wrote child left (Err Failed) in
    let cut = done_cut calls past events (last ∷ []) is done in
    let pieces = pieces_done child words request left events calls past cut.now [] front line whole named waits each spells cut.first in
    let tail = cut.second in
    let quiet : IsLine front = prefix_line front left request whole tail.3.0 line in
    let still : words_of child (calls ++ events) ≡ words =
    words_behind child calls events (All-weaker _ IsNoStart (taken_no child) events each) ∙ named in
    let begun : AreBringing child words front left (moment_of child (past ++ cut.now)) tail.0 =
    subst (λ ws. AreBringing child ws front left (moment_of child (past ++ cut.now)) tail.0) still
    (tail.3.3 front pieces.waits quiet) in
    let later : cut.later ≡ tail.0 = tail.2 ∙ ap (λ zs. tail.0 ++ zs) tail.4 ∙ append-nil tail.0 in
    subst (AreBringing child words [] (front ++ left) (moment_of child past)) (sym (cut.cut ∙ ap (λ zs. cut.now ++ zs) later))
    (bringing_join child words [] front left (moment_of child past) cut.now tail.0 pieces.brings
    (subst (λ (at : Moment). AreBringing child words front left at tail.0) (moment_join child _ past cut.now) begun))
