-- Calls on a child, one after another.
use Rattle.std.proofs.Common.{◌≡◌, ◌≢◌, ℕ, suc, ◌+◌, ◌<◌, Bool, false, List, [], ◌∷◌, ◌++◌, length, take, Result, Ok, Err, refl, sym, ap, subst, ◌∙◌, arith, append_assoc, append-nil, All}
use Rattle.std.proofs.Math.Seq.{take-append-add}
use Rattle.std.proofs.lemmas.Bool.{eq-eqb}
use Rattle.std.proofs.lemmas.List.Elements.{All-nil, All-head, All-tail, All-cons}
use Rattle.gen_lines.specs.Lines.{lines_of}
use Rattle.io_world.specs.Replies.{IsLine}
use Rattle.io_world.specs.Talks.{Event, Talk, started, wrote, heard, stopped, silence, spelled, heard_more, wrote_more, IsTaken, IsGiven, Takes, Gives}
use Rattle.restart_host.proofs.NotedLemmas.{not_equal}
use Rattle.restart_host.specs.Lives.{CourseOfCalls, IsNoRead, Moment, moment_after, moment_by, moment_of}
use Rattle.restart_host.specs.Tries.{IsOn}

pub moment_join : (child : ℕ) (m : Moment) (xs ys : List Event)
    → moment_by child m (xs ++ ys) ≡ moment_by child (moment_by child m xs) ys
moment_join child m [] ys = refl
moment_join child m (x ∷ xs) ys = moment_join child (moment_after child m x) xs ys

-- what was said at a moment
pub moment_talk : (child : ℕ) (m : Moment) (events : List Event) → (moment_by child m events).talk ≡ spelled child m.talk events
moment_talk child m [] = refl
moment_talk child m (x ∷ xs) = moment_talk child (moment_after child m x) xs

pub moment_spelled : (child : ℕ) (past events : List Event)
    → (moment_by child (moment_of child past) events).talk ≡ spelled child silence (past ++ events)
moment_spelled child past events =
    ap (λ (m : Moment). m.talk) (sym (moment_join child (record { talk = silence; fallen = false }) past events))
    ∙ moment_talk child (record { talk = silence; fallen = false }) (past ++ events)

pub course_join : (child : ℕ) (P : Moment → Type 0) (m : Moment) (xs ys : List Event) → CourseOfCalls child P m xs
    → CourseOfCalls child P (moment_by child m xs) ys → CourseOfCalls child P m (xs ++ ys)
course_join child P m [] ys first second = second
course_join child P m (x ∷ xs) ys first second =
    (first.0, first.1, course_join child P (moment_after child m x) xs ys first.2 second)

pub course_so : (child : ℕ) (P Q : Moment → Type 0) (m : Moment) (xs : List Event) → ((at : Moment) → P at → Q at)
    → CourseOfCalls child P m xs → CourseOfCalls child Q m xs
course_so child P Q m [] so first = so m first
course_so child P Q m (x ∷ xs) so first = (so m first.0, first.1, course_so child P Q (moment_after child m x) xs so first.2)

pub course_end : (child : ℕ) (P : Moment → Type 0) (m : Moment) (xs : List Event) → CourseOfCalls child P m xs
    → P (moment_by child m xs)
course_end child P m [] first = first
course_end child P m (x ∷ xs) first = course_end child P (moment_after child m x) xs first.2

-- ---- writes that were taken

pub record TakesFrom (child : ℕ) (m : Moment) (events : List Event) : Type 0 where
  pub bytes : List ℕ
  pub spells : (talk : Talk) → spelled child talk events ≡ wrote_more bytes talk
  pub unread : All IsNoRead events
  pub course : CourseOfCalls child (λ at. (n : ℕ) × (at.talk.written ≡ m.talk.written ++ take n bytes)) m events
  pub done : moment_by child m events ≡ record { talk = wrote_more bytes m.talk; fallen = m.fallen }

more_none : (talk : Talk) → talk ≡ wrote_more [] talk
more_none talk = ap (λ bytes. let t : Talk = record { written = bytes; heard = talk.heard } in t) (sym (append-nil talk.written))

more_twice : (talk : Talk) (xs ys : List ℕ) → wrote_more ys (wrote_more xs talk) ≡ wrote_more (xs ++ ys) talk
more_twice talk xs ys =
    ap (λ bytes. let t : Talk = record { written = bytes; heard = talk.heard } in t) (append_assoc talk.written xs ys)

taken_step : (child n : ℕ) (ps : List ℕ) (m : Moment) (events : List Event)
    → TakesFrom child (record { talk = wrote_more (take n ps) m.talk; fallen = m.fallen }) events
    → TakesFrom child m (wrote child ps (Ok n) ∷ events)
taken_step child n ps m events rest = record {
  bytes = take n ps ++ rest.bytes;
  spells = λ talk. rw (eq-eqb child child refl)
      (rest.spells (wrote_more (take n ps) talk) ∙ more_twice talk (take n ps) rest.bytes);
  unread = All-cons IsNoRead (wrote child ps (Ok n)) events tt rest.unread;
  course = (
    (0, sym (append-nil m.talk.written)),
    tt,
    rw (eq-eqb child child refl)
        (course_so child _ (λ at. (k : ℕ) × (at.talk.written ≡ m.talk.written ++ take k (take n ps ++ rest.bytes))) _ events
        (λ at holds. (
          length (take n ps) + holds.0,
          holds.1 ∙ append_assoc m.talk.written (take n ps) (take holds.0 rest.bytes)
              ∙ ap (λ bytes. m.talk.written ++ bytes) (sym (take-append-add (take n ps) rest.bytes holds.0)),
        )) rest.course),
  );
  done = rw (eq-eqb child child refl)
      (rest.done ∙ ap (λ talk. let at : Moment = record { talk = talk; fallen = m.fallen } in at)
      (more_twice m.talk (take n ps) rest.bytes));
}

pub takes_from : (child : ℕ) (m : Moment) (events : List Event) → All (IsTaken child) events → TakesFrom child m events
takes_from child m [] each = record {
  bytes = [];
  spells = more_none;
  unread = All-nil IsNoRead;
  course = (0, sym (append-nil m.talk.written));
  done = ap (λ talk. let at : Moment = record { talk = talk; fallen = m.fallen } in at) (more_none m.talk);
}
takes_from child m (started k argv answer ∷ events) each = absurd (All-head (IsTaken child) _ _ each)
takes_from child m (wrote k ps (Ok n) ∷ events) each =
    let head = All-head (IsTaken child) _ _ each in
    let own : k ≡ child = head.0 in
    subst (λ j. TakesFrom child m (wrote j ps (Ok n) ∷ events)) (sym own)
    (taken_step child n ps m events
    (takes_from child (record { talk = wrote_more (take n ps) m.talk; fallen = m.fallen }) events (All-tail (IsTaken child) _ _ each)))
takes_from child m (wrote k ps (Err fault) ∷ events) each = absurd (All-head (IsTaken child) _ _ each)
takes_from child m (heard k room answer ∷ events) each = absurd (All-head (IsTaken child) _ _ each)
takes_from child m (stopped k answer ∷ events) each = absurd (All-head (IsTaken child) _ _ each)

-- the bytes are those that the writes took
pub takes_these : (child : ℕ) (bytes : List ℕ) (m : Moment) (events : List Event) → Takes child bytes events
    → (from : TakesFrom child m events) × (from.bytes ≡ bytes)
takes_these child bytes m events takes =
    let from = takes_from child m events takes.each in
    (from, ap (λ (talk : Talk). talk.written) (sym (from.spells silence) ∙ takes.spells))

-- ---- reads that gave bytes

spelled_read : (child k room : ℕ) (bytes : List ℕ) (talk : Talk) (events : List Event) → k ≡ child
    → spelled child talk (heard k room (Ok bytes) ∷ events) ≡ spelled child (heard_more bytes talk) events
spelled_read child k room bytes talk events own =
    ap (λ (t : Talk). spelled child t events) (rw (eq-eqb k child own) refl)

moment_read : (child k room : ℕ) (bytes : List ℕ) (m : Moment) → k ≡ child
    → moment_after child m (heard k room (Ok bytes)) ≡ record { talk = heard_more bytes m.talk; fallen = m.fallen }
moment_read child k room bytes m own = rw (eq-eqb k child own) refl

module _ (child : ℕ) (held base w : List ℕ) (fallen : Bool)
    (may : (more : List ℕ) → IsLine (held ++ more) → length (lines_of (base ++ more)) < length (lines_of w)) where
  abbrev Hearing : List ℕ → Moment
  Hearing so_far = record { talk = record { written = w; heard = base ++ so_far }; fallen = fallen }

  abbrev Heard : List ℕ → Talk
  Heard so_far = record { written = []; heard = so_far }

  record GivesFrom (so_far : List ℕ) (events : List Event) : Type 0 where
    course : CourseOfCalls child (λ at. at.talk.written ≡ w) (Hearing so_far) events
    done : moment_by child (Hearing so_far) events ≡ Hearing (spelled child (Heard so_far) events).heard

  given_step : (room : ℕ) (bytes so_far : List ℕ) (events : List Event) → IsLine (held ++ so_far)
      → GivesFrom (so_far ++ bytes) events → GivesFrom so_far (heard child room (Ok bytes) ∷ events)
  given_step room bytes so_far events line rest = record {
    course = (
      refl,
      may so_far line,
      rw (eq-eqb child child refl)
          (subst (λ bs. CourseOfCalls child (λ at. at.talk.written ≡ w)
          (record { talk = record { written = w; heard = bs }; fallen = fallen }) events)
          (sym (append_assoc base so_far bytes)) rest.course),
    );
    done =
        ap (λ (at : Moment). moment_by child at events) (moment_read child child room bytes (Hearing so_far) refl)
        ∙ ap (λ bs. moment_by child (record { talk = record { written = w; heard = bs }; fallen = fallen }) events)
        (append_assoc base so_far bytes) ∙ rest.done
        ∙ ap (λ (talk : Talk). Hearing talk.heard) (sym (spelled_read child child room bytes (Heard so_far) events refl));
  }

  gives_from : (so_far : List ℕ) (events : List Event) → All (IsGiven child) events
      → ((k : ℕ) → k < length events → IsLine (held ++ (spelled child (Heard so_far) (take k events)).heard))
      → GivesFrom so_far events
  gives_from so_far [] each early = record { course = refl; done = refl }
  gives_from so_far (started k argv answer ∷ events) each early = absurd (All-head (IsGiven child) _ _ each)
  gives_from so_far (wrote k ps answer ∷ events) each early = absurd (All-head (IsGiven child) _ _ each)
  gives_from so_far (heard k room (Ok bytes) ∷ events) each early =
      let own : k ≡ child = All-head (IsGiven child) _ _ each in
      let rest : GivesFrom (so_far ++ bytes) events =
      gives_from (so_far ++ bytes) events (All-tail (IsGiven child) _ _ each)
      (λ j below.
      subst (λ (talk : Talk). IsLine (held ++ talk.heard))
      (spelled_read child k room bytes (Heard so_far) (take j events) own) (early (suc j) (omega arith))) in
      subst (λ j. GivesFrom so_far (heard j room (Ok bytes) ∷ events)) (sym own)
      (given_step room bytes so_far events (early 0 (omega arith)) rest)
  gives_from so_far (heard k room (Err fault) ∷ events) each early = absurd (All-head (IsGiven child) _ _ each)
  gives_from so_far (stopped k answer ∷ events) each early = absurd (All-head (IsGiven child) _ _ each)

pub gives_course : (child : ℕ) (held bytes : List ℕ) (m : Moment) (events : List Event) → Gives child held bytes events
    → ((more : List ℕ) → IsLine (held ++ more) → length (lines_of (m.talk.heard ++ more)) < length (lines_of m.talk.written))
    → CourseOfCalls child (λ at. at.talk.written ≡ m.talk.written) m events
    × (moment_by child m events ≡ record { talk = heard_more bytes m.talk; fallen = m.fallen })
gives_course child held bytes m events gives may =
    let from = gives_from child held m.talk.heard m.talk.written m.fallen may [] events gives.each gives.early in
    let start : (let at : Moment = record { talk = record { written = m.talk.written; heard = m.talk.heard ++ [] }; fallen = m.fallen } in at) ≡ m =
    ap (λ bs. let at : Moment = record { talk = record { written = m.talk.written; heard = bs }; fallen = m.fallen } in at)
    (append-nil m.talk.heard) in (
      subst (λ (at : Moment). CourseOfCalls child (λ at. at.talk.written ≡ m.talk.written) at events) start from.course,
      ap (λ (at : Moment). moment_by child at events) (sym start) ∙ from.done
          ∙ ap (λ (talk : Talk). let at : Moment = record {
            talk = record { written = m.talk.written; heard = m.talk.heard ++ talk.heard };
            fallen = m.fallen;
          } in at) gives.spells,
    )

-- ---- stops, starts, and calls on other children

pub fallen_stays : (child k : ℕ) (m : Moment) (answer : Result (Unit {0}) _) → moment_after child m (stopped k answer) ≡ m
fallen_stays child k m answer = refl

other_step : (k child : ℕ) (words : List (List ℕ)) (m : Moment) (event : Event) → k ≢ child → IsOn child words event
    → moment_after k m event ≡ m
other_step k child words m (started j argv (Ok u)) other on = rw (not_equal j k (λ same. other (same ∙ on.0))) refl
other_step k child words m (started j argv (Err fault)) other on = rw (not_equal j k (λ same. other (same ∙ on.0))) refl
other_step k child words m (wrote j ps (Ok n)) other on = rw (not_equal j k (λ same. other (same ∙ on))) refl
other_step k child words m (wrote j ps (Err fault)) other on = rw (not_equal j k (λ same. other (same ∙ on))) refl
other_step k child words m (heard j room (Ok bs)) other on = rw (not_equal j k (λ same. other (same ∙ on))) refl
other_step k child words m (heard j room (Err fault)) other on = rw (not_equal j k (λ same. other (same ∙ on))) refl
other_step k child words m (stopped j answer) other on = refl

pub moment_other : (k child : ℕ) (words : List (List ℕ)) (m : Moment) (events : List Event) → k ≢ child
    → All (IsOn child words) events → moment_by k m events ≡ m
moment_other k child words m [] other on = refl
moment_other k child words m (event ∷ events) other on =
    ap (λ (at : Moment). moment_by k at events) (other_step k child words m event other (All-head (IsOn child words) _ _ on))
    ∙ moment_other k child words m events other (All-tail (IsOn child words) _ _ on)
