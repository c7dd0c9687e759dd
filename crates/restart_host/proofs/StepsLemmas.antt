-- What calls on one child do, from any moment on.
use Rattle.std.proofs.Common.{◌≡◌, ℕ, ◌+◌, ◌<◌, true, false, List, [], ◌∷◌, ◌++◌, length, take, drop, replicate, Result, Ok, Err, OnOk, IsErrOf, refl, sym, ap, subst, ◌∙◌, arith, append_assoc, length-append, All, inl, inr}
use Rattle.std.proofs.lemmas.Bool.{cases_lt, eq-eqb}
use Rattle.std.proofs.lemmas.List.{length-take, length-take-le, take-take, take_all, replicate-append-replicate, replicate_more}
use Rattle.std.proofs.lemmas.List.Elements.{All-nil, All-head, All-tail, All-append, All-cons}
use Rattle.io_world.specs.Talks.{Event, Talk, started, wrote, heard, stopped, silence, spelled, wrote_more, IsTaken, Takes}
use Rattle.io_world.specs.declared.host.HostFault.{HostFault}
use Rattle.io_world.specs.declared.host.HostFault.TheVariants.{Failed, Memory}
use Rattle.restart_host.proofs.CourseLemmas.{course_end, course_join, course_so, moment_join, takes_from, takes_these}
use Rattle.restart_host.proofs.TriesLemmas.{TakesPart}
use Rattle.restart_host.specs.Lives.{CourseOfCalls, IsNoRead, IsRewritten, Moment, moment_after, moment_by}
use Rattle.restart_host.specs.Steps.{IsReviving, IsSending, Sent}
use Rattle.restart_host.specs.Uses.{IsEnding}

-- with Ok a moment is also this one
on_ok : {T : Type 0} (m at to : Moment) (result : Result T HostFault) → m ≡ at → OnOk result (at ≡ to) → OnOk result (m ≡ to)
on_ok m at to (Ok value) same is = same ∙ is
on_ok m at to (Err fault) same is = tt

-- ---- stops

pub record Ended (child : ℕ) (P : Moment → Type 0) (m : Moment) (events : List Event) : Type 0 where
  pub course : CourseOfCalls child P m events
  pub same : moment_by child m events ≡ m
  pub unread : All IsNoRead events

pub ended : (child : ℕ) (P : Moment → Type 0) (m : Moment) (events : List Event) → IsEnding child events → P m
    → Ended child P m events
ended child P m events ending holds = elim ending [
  | inl none ↦ subst (Ended child P m) (sym none) (record { course = holds; same = refl; unread = All-nil IsNoRead })
  | inr one ↦ subst (Ended child P m) (sym one.1) (record {
    course = (holds, tt, holds);
    same = refl;
    unread = All-cons IsNoRead (stopped child one.0) [] tt (All-nil IsNoRead);
  })
]

-- ---- writes

take_twice : (k n : ℕ) (bytes : List ℕ) → (j : ℕ) × (take k (take n bytes) ≡ take j bytes)
take_twice k n bytes = elim (cases_lt n k) [
  | inl less ↦ (n, take_all k (take n bytes) (omega (arith, length-take n bytes, less)))
  | inr most ↦ (k, take-take k n bytes most)
]

pub written_first : (child k n : ℕ) (ps : List ℕ) (events : List Event) → k ≡ child
    → spelled child silence (wrote k ps (Ok n) ∷ events) ≡ spelled child (wrote_more (take n ps) silence) events
written_first child k n ps events own = ap (λ (t : Talk). spelled child t events) (rw (eq-eqb k child own) refl)

takes_none : (child : ℕ) (events : List Event) → Takes child [] events → events ≡ []
takes_none child [] takes = refl
takes_none child (started k argv answer ∷ events) takes = absurd (All-head (IsTaken child) _ _ takes.each)
takes_none child (wrote k ps (Ok n) ∷ events) takes =
    let head = All-head (IsTaken child) _ _ takes.each in
    let rest = takes_from child (record { talk = silence; fallen = false }) events (All-tail (IsTaken child) _ _ takes.each) in
    let first : (let t : Talk = wrote_more rest.bytes (wrote_more (take n ps) silence) in t) ≡ wrote_more [] silence =
    sym (rest.spells (wrote_more (take n ps) silence)) ∙ sym (written_first child k n ps events head.0) ∙ takes.spells in
    let none : length (take n ps ++ rest.bytes) ≡ 0 = ap (λ (t : Talk). length t.written) first in
    absurd (omega (arith, none, length-append (take n ps) rest.bytes, length-take-le n ps head.2, head.1))
takes_none child (wrote k ps (Err fault) ∷ events) takes = absurd (All-head (IsTaken child) _ _ takes.each)
takes_none child (heard k room answer ∷ events) takes = absurd (All-head (IsTaken child) _ _ takes.each)
takes_none child (stopped k answer ∷ events) takes = absurd (All-head (IsTaken child) _ _ takes.each)

pub sends_all : (child : ℕ) (bytes : List ℕ) (events : List Event) → Takes child bytes events
    → IsSending child bytes (Ok tt) events
sends_all child bytes events takes = record {
  sent = λ m.
      let these = takes_these child bytes m events takes in
      record {
        unread = these.0.unread;
        course = subst (λ bs. CourseOfCalls child (λ at. (n : ℕ) × (at.talk.written ≡ m.talk.written ++ take n bs)) m events) these.1
            these.0.course;
        done = these.0.done ∙ ap (λ bs. let at : Moment = record { talk = wrote_more bs m.talk; fallen = m.fallen } in at) these.1;
        fell = λ is. absurd (cc (is));
      };
  none = λ is. (refl, takes_none child events (subst (λ bs. Takes child bs events) is takes));
}

-- the moment behind a call that failed
fell_wrote : (child : ℕ) (bytes : List ℕ) (m : Moment) (fault : HostFault)
    → fault ≡ Failed → (moment_after child m (wrote child bytes (Err fault))).fallen ≡ true
fell_wrote child bytes m fault is = rw (is, eq-eqb child child refl) refl

pub fell_heard : (child room : ℕ) (m : Moment) (fault : HostFault)
    → fault ≡ Failed → (moment_after child m (heard child room (Err fault))).fallen ≡ true
fell_heard child room m fault is = rw (is, eq-eqb child child refl) refl

pub same_fault : (fault : HostFault) → IsErrOf (let r : Result (Unit {0}) HostFault = Err fault in r) Failed → fault ≡ Failed
same_fault Failed is = refl
same_fault Memory is = absurd (cc (is))

pub sends_part : (child : ℕ) (bytes : List ℕ) (fault : HostFault) (xs ys : List Event) → 0 < length bytes
    → TakesPart child bytes fault xs → IsEnding child ys → IsSending child bytes (Err fault) (xs ++ ys)
sends_part child bytes fault xs ys some part ending = record {
  sent = λ m.
      let these = takes_these child (take part.1 bytes) m part.0 part.2 in
      let refused : Event = wrote child (drop part.1 bytes) (Err fault) in
      let P : Moment → Type 0 = λ at. (n : ℕ) × (at.talk.written ≡ m.talk.written ++ take n bytes) in
      let taken : CourseOfCalls child P m part.0 =
      course_so child _ P m part.0
      (λ at holds.
      let twice = take_twice holds.0 part.1 bytes in
      (twice.0, holds.1 ∙ ap (λ bs. m.talk.written ++ bs) (ap (take holds.0) these.1 ∙ twice.1)))
      these.0.course in
      let mid : Moment = moment_by child m part.0 in
      let first : CourseOfCalls child P m (part.0 ++ refused ∷ []) =
      course_join child P m part.0 (refused ∷ []) taken (course_end child P m part.0 taken, tt, course_end child P m part.0 taken) in
      let end = ended child P (moment_by child m (part.0 ++ refused ∷ [])) ys ending
      (course_end child P m (part.0 ++ refused ∷ []) first) in
      subst (λ zs. Sent child bytes (Err fault) m (zs ++ ys)) (sym part.3) (record {
        unread = All-append IsNoRead (part.0 ++ refused ∷ []) ys
            (All-append IsNoRead part.0 (refused ∷ []) these.0.unread (All-cons IsNoRead refused [] tt (All-nil IsNoRead))) end.unread;
        course = course_join child P m (part.0 ++ refused ∷ []) ys first end.course;
        done = tt;
        fell = λ is.
            ap (λ (at : Moment). at.fallen)
            (moment_join child m (part.0 ++ refused ∷ []) ys ∙ end.same ∙ moment_join child m part.0 (refused ∷ []))
            ∙ fell_wrote child (drop part.1 bytes) mid fault (same_fault fault is);
      });
  none = λ is. absurd (omega (arith, some, ap length is));
}

-- ---- starts

-- what was rewritten since a later moment
pub rewritten_join : (child : ℕ) (asked : List ℕ) (m : Moment) (xs ys : List Event)
    → CourseOfCalls child (IsRewritten m.talk.written asked) m xs
    → CourseOfCalls child (IsRewritten (moment_by child m xs).talk.written asked) (moment_by child m xs) ys
    → CourseOfCalls child (IsRewritten m.talk.written asked) m (xs ++ ys)
rewritten_join child asked m xs ys first second =
    course_join child (IsRewritten m.talk.written asked) m xs ys first
    (course_so child _ (IsRewritten m.talk.written asked) (moment_by child m xs) ys
    (λ at holds. elim holds [
      | inl same ↦ elim (course_end child (IsRewritten m.talk.written asked) m xs first) [
        | inl was ↦ inl (same ∙ was)
        | inr part ↦ inr (part.0, same ∙ part.1)
      ]
      | inr part ↦ inr part
    ]) second)

pub revives_not : (child : ℕ) (words : List (List ℕ)) (asked : List ℕ) (fault : HostFault) (events : List Event)
    → events ≡ started child words (Err fault) ∷ [] → IsReviving child words asked (Err fault) events
revives_not child words asked fault events is =
    subst (IsReviving child words asked (Err fault)) (sym is) (record {
      revived = λ m fallen. record {
        unread = All-cons IsNoRead (started child words (Err fault)) [] tt (All-nil IsNoRead);
        course = (inl refl, fallen, inl refl);
        done = tt;
        fell = λ failed. rw (same_fault fault failed, eq-eqb child child refl) refl;
      };
      starts = λ none. (0, refl);
    })

fresh : (child : ℕ) (words : List (List ℕ)) (m : Moment)
    → moment_after child m (started child words (Ok tt)) ≡ record { talk = silence; fallen = false }
fresh child words m = rw (eq-eqb child child refl) refl

pub revives_once : (child : ℕ) (words : List (List ℕ)) (asked : List ℕ) (result : Result (Unit {0}) HostFault)
    (xs ys : List Event) → xs ≡ started child words (Ok tt) ∷ [] → IsSending child asked result ys
    → IsReviving child words asked result (xs ++ ys)
revives_once child words asked result xs ys is sends =
    subst (λ zs. IsReviving child words asked result (zs ++ ys)) (sym is) (record {
      revived = λ m fallen.
          let new : Moment = record { talk = silence; fallen = false } in
          let sent = sends.sent new in
          let to : (at : Moment) → (n : ℕ) × (at.talk.written ≡ take n asked) → IsRewritten m.talk.written asked at =
          λ at holds. inr holds in
          let start : moment_after child m (started child words (Ok tt)) ≡ new = fresh child words m in
          record {
            unread = All-cons IsNoRead (started child words (Ok tt)) ys tt sent.unread;
            course = (
              inl refl,
              fallen,
              subst (λ (at : Moment). CourseOfCalls child (IsRewritten m.talk.written asked) at ys) (sym start)
                  (course_so child _ (IsRewritten m.talk.written asked) new ys to sent.course),
            );
            done = on_ok _ _ _ result (ap (λ (at : Moment). moment_by child at ys) start) sent.done;
            fell = λ failed. ap (λ (at : Moment). (moment_by child at ys).fallen) start ∙ sent.fell failed;
          };
      starts = λ none.
          let quiet = sends.none none in
          (0, ap (λ zs. started child words (Ok tt) ∷ zs) quiet.1 ∙ ap (λ r. started child words r ∷ []) (sym quiet.0));
    })

pub revives_again : (child : ℕ) (words : List (List ℕ)) (asked : List ℕ) (fault : HostFault) (result : Result (Unit {0}) HostFault)
    (xs ys : List Event) → fault ≡ Failed → IsReviving child words asked (Err fault) xs
    → IsReviving child words asked result ys
    → IsReviving child words asked result (xs ++ ys)
revives_again child words asked fault result xs ys failed first second = record {
  revived = λ m fallen.
      let one = first.revived m fallen in
      let two = second.revived (moment_by child m xs) (one.fell (ap Err failed)) in
      record {
        unread = All-append IsNoRead xs ys one.unread two.unread;
        course = rewritten_join child asked m xs ys one.course two.course;
        done = on_ok _ _ _ result (moment_join child m xs ys) two.done;
        fell = λ is. ap (λ (at : Moment). at.fallen) (moment_join child m xs ys) ∙ two.fell is;
      };
  starts = λ none.
      let one = first.starts none in
      let two = second.starts none in
      let event : Event = started child words (Err Failed) in (
        one.0 + 1 + two.0,
        ap (λ zs. zs ++ ys) (one.1 ∙ ap (λ f. replicate one.0 event ++ started child words (Err f) ∷ []) failed ∙ replicate_more one.0 event)
            ∙ ap (λ zs. replicate (one.0 + 1) event ++ zs) two.1
            ∙ sym (append_assoc (replicate (one.0 + 1) event) (replicate two.0 event) (started child words result ∷ []))
            ∙ ap (λ zs. zs ++ started child words result ∷ []) (replicate-append-replicate (one.0 + 1) two.0 event),
      );
}
