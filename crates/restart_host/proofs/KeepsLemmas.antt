-- What is kept of a child agrees with where it stands after calls that bring bytes to it or fetch what it says.
use Rattle.std.proofs.Common.{◌≡◌, ◌⊎◌, ℕ, ◌<◌, ◌≤◌, true, false, List, [], ◌∷◌, ◌++◌, length, drop, take, Result, Ok, Err, OnOk, IsErrOf, is_ok, refl, sym, ap, subst, ◌∙◌, arith, append-nil, inl, inr}
use Rattle.std.proofs.lemmas.Bool.{cases_lt}
use Rattle.std.proofs.lemmas.List.{length-take}
use Rattle.std.proofs.lemmas.List.Elements.{All-append}
use Rattle.gen_lines.specs.Lines.{lines_of}
use Rattle.io_world.specs.Replies.{IsLine}
use Rattle.io_world.specs.Talks.{Event, heard, FillsRoom, Gives}
use Rattle.io_world.specs.declared.host.HostFault.{HostFault}
use Rattle.io_world.specs.declared.host.HostFault.TheVariants.{Failed}
use Rattle.io_world.proofs.TalksHeardLemmas.{held_and_heard}
use Rattle.restart_host.proofs.CourseLemmas.{course_end, course_join, course_so, gives_course, moment_join}
use Rattle.restart_host.proofs.FitsLemmas.{fits_fallen, fits_heard, fits_revived, fits_sent, may_read}
use Rattle.restart_host.proofs.StepsLemmas.{ended, fell_heard, rewritten_join, same_fault}
use Rattle.restart_host.proofs.TriesLemmas.{GivesPart}
use Rattle.restart_host.specs.Fits.{Fits}
use Rattle.restart_host.specs.Kept.{IsFallen}
use Rattle.restart_host.specs.Lines.{due_length}
use Rattle.restart_host.specs.Lives.{CourseOfCalls, IsNoRead, IsRewritten, IsWritten, Moment, moment_by}
use Rattle.restart_host.specs.Steps.{Fetched, IsBringing, IsFetching, IsHearing, IsReviving, IsSending}
use Rattle.restart_host.specs.Uses.{IsEnding}
use Rattle.restart_host.specs.declared.kept.Life.{Life}

-- ---- bytes that are brought

-- a child that is started again: what is held is nothing
pub record IsBegun {T : Type 0} (life : Life) (result : Result T HostFault) : Type 0 where
  pub alive : life.alive ≡ is_ok result
  pub held : life.held ≡ []
  pub due : life.due ≡ 0

begun_fallen : (life : Life) (fault : HostFault) → IsBegun life (let r : Result (Unit {0}) HostFault = Err fault in r)
    → IsFallen life
begun_fallen life fault begun = record { alive = begun.alive; held = begun.held; due = begun.due }

-- where a child stands after a start with the bytes that wait
at_revived : (before asked : List ℕ) (life : Life) (result : Result (Unit {0}) HostFault) (m at : Moment) → IsBegun life result
    → OnOk result (at ≡ record { talk = record { written = asked; heard = [] }; fallen = false })
    → (IsLine asked → before ≡ []) → (length before < 1025 → before ≡ []) → OnOk result (Fits before asked life at)
at_revived before asked life (Ok u) m at begun is idle short =
    fits_revived before asked life at (ap (λ (x : Moment). x.talk) is) begun.alive begun.held begun.due idle short
at_revived before asked life (Err fault) m at begun is idle short = tt

at_fallen : (before asked : List ℕ) (life : Life) (result : Result (Unit {0}) HostFault) (at : Moment) → IsBegun life result
    → (IsErrOf result Failed → at.fallen ≡ true) → (IsLine asked → before ≡ []) → (length before < 1025 → before ≡ [])
    → IsErrOf result Failed → Fits before asked life at
at_fallen before asked life (Ok u) at begun fell idle short is = absurd (cc (is))
at_fallen before asked life (Err fault) at begun fell idle short is =
    fits_fallen before asked life at (begun_fallen life fault begun) (fell is) idle short

-- the bytes are written whole
whole_revived : (was asked : List ℕ) (result : Result (Unit {0}) HostFault) (at : Moment)
    → OnOk result (at ≡ record { talk = record { written = asked; heard = [] }; fallen = false })
    → OnOk result ((at.talk.written ≡ was) ⊎ (at.talk.written ≡ asked))
whole_revived was asked (Ok u) at is = inr (ap (λ (x : Moment). x.talk.written) is)
whole_revived was asked (Err fault) at is = tt

-- a dead child is started again
pub brings_dead : (child : ℕ) (words : List (List ℕ)) (asked bytes : List ℕ) (old new : Life) (result : Result (Unit {0}) HostFault)
    (events : List Event) → old.alive ≡ false → IsBegun new result
    → IsReviving child words (asked ++ bytes) result events → IsBringing child asked bytes old new result events
brings_dead child words asked bytes old new result events dead begun revives m line fits =
    let one = revives.revived m (fits.fallen dead) in
    record {
      unread = one.unread;
      course = course_so child _ (IsWritten m.talk.written asked bytes) m events
          (λ at holds. elim holds [
            | inl same ↦ (0, inl (same ∙ sym (append-nil m.talk.written)))
            | inr part ↦ (part.0, inr part.1)
          ]) one.course;
      whole = whole_revived (m.talk.written ++ bytes) (asked ++ bytes) result (moment_by child m events) one.done;
      done = at_revived [] (asked ++ bytes) new result m (moment_by child m events) begun one.done (λ is. refl) (λ is. refl);
      fell = at_fallen [] asked new result (moment_by child m events) begun one.fell (λ is. refl) (λ is. refl);
    }

-- a child that runs is written to
pub brings_sent : (child : ℕ) (asked bytes : List ℕ) (life : Life) (events : List Event) → life.alive ≡ true
    → IsSending child bytes (Ok tt) events → IsBringing child asked bytes life life (let r : Result (Unit {0}) HostFault = Ok tt in r) events
brings_sent child asked bytes life events alive sends m line fits =
    let sent = sends.sent m in
    record {
      unread = sent.unread;
      course = course_so child _ (IsWritten m.talk.written asked bytes) m events (λ at holds. (holds.0, inl holds.1)) sent.course;
      whole = inl (ap (λ (x : Moment). x.talk.written) sent.done);
      done = fits_sent asked bytes life m (moment_by child m events) alive fits (ap (λ (x : Moment). x.talk) sent.done);
      fell = λ is. absurd (cc (is));
    }

-- a write to it failed, and that is not made good
pub brings_not : (child : ℕ) (asked bytes : List ℕ) (old new : Life) (fault : HostFault) (events : List Event)
    → IsFallen new → IsSending child bytes (Err fault) events
    → IsBringing child asked bytes old new (let r : Result (Unit {0}) HostFault = Err fault in r) events
brings_not child asked bytes old new fault events down sends m line fits =
    let sent = sends.sent m in
    record {
      unread = sent.unread;
      course = course_so child _ (IsWritten m.talk.written asked bytes) m events (λ at holds. (holds.0, inl holds.1)) sent.course;
      whole = tt;
      done = tt;
      fell = λ is. fits_fallen [] asked new (moment_by child m events) down (sent.fell is) (λ x. refl) (λ x. refl);
    }

-- a write to it failed, and then it is started again
pub brings_again : (child : ℕ) (words : List (List ℕ)) (asked bytes : List ℕ) (old new : Life) (fault : HostFault)
    (result : Result (Unit {0}) HostFault) (xs ys : List Event) → fault ≡ Failed → IsBegun new result
    → IsSending child bytes (Err fault) xs → IsReviving child words (asked ++ bytes) result ys
    → IsBringing child asked bytes old new result (xs ++ ys)
brings_again child words asked bytes old new fault result xs ys failed begun sends revives m line fits =
    let sent = sends.sent m in
    let mid : Moment = moment_by child m xs in
    let two = revives.revived mid (sent.fell (ap Err failed)) in
    let joined = moment_join child m xs ys in
    let first : CourseOfCalls child (IsWritten m.talk.written asked bytes) m xs =
    course_so child _ (IsWritten m.talk.written asked bytes) m xs (λ at holds. (holds.0, inl holds.1)) sent.course in
    let at_mid = course_end child _ m xs sent.course in
    let second : CourseOfCalls child (IsWritten m.talk.written asked bytes) mid ys =
    course_so child _ (IsWritten m.talk.written asked bytes) mid ys
    (λ at holds. elim holds [
      | inl same ↦ (at_mid.0, inl (same ∙ at_mid.1))
      | inr part ↦ (part.0, inr part.1)
    ]) two.course in
    record {
      unread = All-append IsNoRead xs ys sent.unread two.unread;
      course = course_join child (IsWritten m.talk.written asked bytes) m xs ys first second;
      whole = subst (λ (at : Moment). OnOk result ((at.talk.written ≡ m.talk.written ++ bytes) ⊎ (at.talk.written ≡ asked ++ bytes)))
          (sym joined) (whole_revived (m.talk.written ++ bytes) (asked ++ bytes) result (moment_by child mid ys) two.done);
      done = subst (λ (at : Moment). OnOk result (Fits [] (asked ++ bytes) new at)) (sym joined)
          (at_revived [] (asked ++ bytes) new result mid (moment_by child mid ys) begun two.done (λ is. refl) (λ is. refl));
      fell = λ is. subst (λ (at : Moment). Fits [] asked new at) (sym joined)
          (at_fallen [] asked new result (moment_by child mid ys) begun two.fell (λ x. refl) (λ x. refl) is);
    }

-- ---- lines that are fetched

abbrev as_heard : Result (Unit {0}) HostFault → Result (List ℕ) HostFault
as_heard (Ok u) = Ok []
as_heard (Err fault) = Err fault

-- bytes were heard behind those that a room held
pub hears_all : (child : ℕ) (old new : List ℕ) (held filled : ℕ) (was now : List ℕ) (events : List Event)
    → Gives child (take held was) (drop held (take filled now)) events → take held was ≡ old
    → FillsRoom held was now (let r : Result ℕ HostFault = Ok filled in r) → new ≡ take filled now → length now ≡ 1025
    → IsHearing child old new (Ok tt) events
hears_all child old new held filled was now events gives front fills is size = record {
  bytes = drop held (take filled now);
  reads = events;
  refused = [];
  gives = subst (λ bs. Gives child bs (drop held (take filled now)) events) front gives;
  cut = sym (append-nil events);
  all = (
    refl,
    is ∙ sym (held_and_heard held filled now fills.count.0) ∙ ap (λ bs. bs ++ drop held (take filled now)) (fills.kept ∙ front),
  );
  full = λ line.
      elim (cases_lt filled (length now)) [
        | inl less ↦ absurd (let has = fills.line less in cc (subst IsLine is line, has))
        | inr most ↦ ap length is ∙ omega (arith, length-take filled now, most, size, fills.count.1)
      ];
  failed = λ fault err. absurd (cc (err));
}

pub hears_part : (child : ℕ) (old : List ℕ) (held : ℕ) (was : List ℕ) (fault : HostFault) (events : List Event)
    → GivesPart child (take held was) fault events → take held was ≡ old → IsHearing child old old (Err fault) events
hears_part child old held was fault events part front = record {
  bytes = part.1;
  reads = part.0;
  refused = heard child part.2 (Err fault) ∷ [];
  gives = subst (λ bs. Gives child bs part.1 part.0) front part.3;
  cut = part.5;
  all = tt;
  full = tt;
  failed = λ other same. (
    subst (λ bs. IsLine (bs ++ part.1)) front part.4,
    (part.2, ap (λ (r : Result (Unit {0}) HostFault). heard child part.2 (as_heard r) ∷ []) same),
  );
}

-- nothing is done
pub fetches_none : (child : ℕ) (asked : List ℕ) (life : Life) → IsFetching child asked life life (Ok tt) []
fetches_none child asked life m before has fits = record { course = inl refl; done = fits; fell = λ is. absurd (cc (is)) }

-- a dead child is started again
pub fetches_dead : (child : ℕ) (words : List (List ℕ)) (asked : List ℕ) (old new : Life) (result : Result (Unit {0}) HostFault)
    (events : List Event) → old.alive ≡ false → old.due ≡ 0 → IsBegun new result
    → IsReviving child words asked result events → IsFetching child asked old new result events
fetches_dead child words asked old new result events dead due begun revives m before has fits =
    let one = revives.revived m (fits.fallen dead) in
    let short : length before < 1025 → before ≡ [] = λ few. fits.begun few due in
    record {
      course = one.course;
      done = at_revived before asked new result m (moment_by child m events) begun one.done fits.idle short;
      fell = at_fallen before asked new result (moment_by child m events) begun one.fell fits.idle short;
    }

-- reads of a child that runs
pub fetches_heard : (child : ℕ) (asked : List ℕ) (old new : Life) (events : List Event)
    → old.alive ≡ true → old.due ≡ 0 → new.alive ≡ true → new.due ≡ due_length new.held → new.due ≤ length new.held
    → 0 < new.due → length new.held ≤ 1025
    → IsHearing child old.held new.held (Ok tt) events → IsFetching child asked old new (Ok tt) events
fetches_heard child asked old new events alive due up is within some few hears m before has fits =
    let whole : events ≡ hears.reads = hears.cut ∙ ap (λ zs. hears.reads ++ zs) hears.all.0 ∙ append-nil hears.reads in
    let reads = gives_course child old.held hears.bytes m hears.reads hears.gives
    (λ more line. may_read before asked more old m has (fits.up alive) line) in
    subst (Fetched child before asked new (Ok tt) m) (sym whole) (record {
      course = course_so child _ (IsRewritten m.talk.written asked) m hears.reads (λ at same. inl same) reads.0;
      done = fits_heard before asked hears.bytes old new m (moment_by child m hears.reads) alive due fits up hears.all.1 is within
          some few hears.full (ap (λ (x : Moment). x.talk) reads.1);
      fell = λ is. absurd (cc (is));
    })

-- a read was refused
pub fetches_missed : (child : ℕ) (asked : List ℕ) (old new : Life) (held : List ℕ) (fault : HostFault)
    (xs ys : List Event) → old.alive ≡ true → old.due ≡ 0 → IsFallen new → IsHearing child old.held held (Err fault) xs → IsEnding child ys
    → IsFetching child asked old new (Err fault) (xs ++ ys)
fetches_missed child asked old new held fault xs ys alive due down hears ending m before has fits =
    let P : Moment → Type 0 = IsRewritten m.talk.written asked in
    let reads = gives_course child old.held hears.bytes m hears.reads hears.gives
    (λ more line. may_read before asked more old m has (fits.up alive) line) in
    let fails = hears.failed fault refl in
    let last : Event = heard child fails.1.0 (Err fault) in
    let whole : xs ≡ hears.reads ++ last ∷ [] = hears.cut ∙ ap (λ zs. hears.reads ++ zs) fails.1.1 in
    let front : CourseOfCalls child P m hears.reads = course_so child _ P m hears.reads (λ at same. inl same) reads.0 in
    let at : Moment = moment_by child m hears.reads in
    let may : length (lines_of at.talk.heard) < length (lines_of at.talk.written) =
    subst (λ (x : Moment). length (lines_of x.talk.heard) < length (lines_of x.talk.written)) (sym reads.1)
    (may_read before asked hears.bytes old m has (fits.up alive) fails.0) in
    let first : CourseOfCalls child P m (hears.reads ++ last ∷ []) =
    course_join child P m hears.reads (last ∷ []) front (course_end child P m hears.reads front, may, course_end child P m hears.reads front) in
    let end = ended child P (moment_by child m (hears.reads ++ last ∷ [])) ys ending (course_end child P m (hears.reads ++ last ∷ []) first) in
    subst (λ zs. Fetched child before asked new (Err fault) m (zs ++ ys)) (sym whole) (record {
      course = course_join child P m (hears.reads ++ last ∷ []) ys first end.course;
      done = tt;
      fell = λ is. fits_fallen before asked new (moment_by child m ((hears.reads ++ last ∷ []) ++ ys)) down
          (ap (λ (x : Moment). x.fallen)
          (moment_join child m (hears.reads ++ last ∷ []) ys ∙ end.same ∙ moment_join child m hears.reads (last ∷ []))
          ∙ fell_heard child fails.1.0 at fault (same_fault fault is))
          fits.idle (λ few. fits.begun few due);
    })

fetched_join : (child : ℕ) (before asked : List ℕ) (life : Life) (result : Result (Unit {0}) HostFault) (m : Moment)
    (xs ys : List Event) → CourseOfCalls child (IsRewritten m.talk.written asked) m xs
    → Fetched child before asked life result (moment_by child m xs) ys → Fetched child before asked life result m (xs ++ ys)
fetched_join child before asked life result m xs ys first rest =
    let joined = moment_join child m xs ys in
    record {
      course = rewritten_join child asked m xs ys first rest.course;
      done = subst (λ (at : Moment). OnOk result (Fits before asked life at)) (sym joined) rest.done;
      fell = λ is. subst (λ (at : Moment). Fits before asked life at) (sym joined) (rest.fell is);
    }

-- one after another
pub fetches_then : (child : ℕ) (asked : List ℕ) (old mid new : Life) (result : Result (Unit {0}) HostFault)
    (xs ys : List Event) → IsFetching child asked old mid (Ok tt) xs → IsFetching child asked mid new result ys
    → IsFetching child asked old new result (xs ++ ys)
fetches_then child asked old mid new result xs ys first second m before has fits =
    let one = first m before has fits in
    fetched_join child before asked new result m xs ys one.course (second (moment_by child m xs) before has one.done)

pub fetches_again : (child : ℕ) (asked : List ℕ) (old mid new : Life) (fault : HostFault)
    (result : Result (Unit {0}) HostFault) (xs ys : List Event) → fault ≡ Failed → IsFetching child asked old mid (Err fault) xs
    → IsFetching child asked mid new result ys → IsFetching child asked old new result (xs ++ ys)
fetches_again child asked old mid new fault result xs ys failed first second m before has fits =
    let one = first m before has fits in
    fetched_join child before asked new result m xs ys one.course
    (second (moment_by child m xs) before has (one.fell (ap Err failed)))
