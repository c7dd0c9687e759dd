-- How runs go on and stop, one entry after another.
use Rattle.std.proofs.Common.{◌≡◌, ℕ, ◌<◌, ◌≤◌, arith, true, Result, Ok, Err, List, [], ◌∷◌, ◌++◌, length, take, Option, sym, subst, ap, refl, ◌∙◌, append_assoc, inl}
use Rattle.std.proofs.lemmas.List.{append-nil}
use Rattle.std.proofs.lemmas.Grind.{flat_map-append}
use Rattle.std.proofs.lemmas.Result.{err_from_is_err_and}
use Rattle.std.specs.Io.KnownBytes.{Appends}
use Rattle.std.specs.List.{flat_map}
use Rattle.std.specs.Result.{IsErrAnd, IfErr, IfOk, OnOk}
use Rattle.io_world.specs.Faults.{Rose, HasCause}
use Rattle.task_model.specs.declared.task.Task.{Task}
use Rattle.transcript_model.specs.Legal.{IsLegal, is_open}
use Rattle.report_text.proofs.PrintsLemmas.{appends_none, appends_then}
use Rattle.report_text.specs.Prints.{CutOff, Prints}
use Rattle.report_text.specs.Texts.{text_of_entry}
use Rattle.transcript_model.specs.declared.entry.Entry.{Entry}
use Rattle.io_world.specs.Talks.{Talk}
use Rattle.session_core.specs.Slots.{Slot}
use Rattle.pools.specs.Pools.{Workers}
use Rattle.round_run.specs.Dialogue.{BrokenOff, Dialogue, HasBadLine, requests_of}
use Rattle.round_run.specs.Rolling.{Goes, Stopped, Blames}
use Rattle.round_run.specs.Talking.{IsBlamed}
use Rattle.round_run.specs.Stops.{MayHear, MayListen, MayWrite, StopsAt}
use Rattle.round_run.specs.declared.fault.RunFault.{RunFault}
use Rattle.round_run.specs.declared.fault.RunFault.TheVariants.{Answer, Generator, Write, Memory}

-- where not all was printed it is that the sink failed, and took a part
pub write_part : {T : Type 0} (r : Result T RunFault) (old new : Option (List ℕ)) (bytes : List ℕ)
    → Prints r old new bytes → IfErr r (λ fault. fault ≡ Write)
    → IfErr r (λ fault. (fault ≡ Write) × CutOff old new bytes)
write_part (Ok x) old new bytes told only = tt
write_part (Err fault) old new bytes told only = (only, told)

-- the lines of one entry
pub lines_of_one : (e : Entry) → flat_map text_of_entry (e ∷ []) ≡ text_of_entry e
lines_of_one e = append-nil (text_of_entry e)

-- ---- entries

pub goes_none : (before : List Entry) (old : Option (List ℕ)) → Goes before before old old
goes_none before old =
    record { more = []; pushed = sym (append-nil before); told = appends_none old }

pub goes_one : (before after : List Entry) (e : Entry) (old new : Option (List ℕ))
    → after ≡ before ++ e ∷ []
    → Appends old new (text_of_entry e) → Goes before after old new
goes_one before after e old new pushed told =
    record { more = e ∷ []; pushed = pushed; told = subst (Appends old new) (sym (lines_of_one e)) told }

pub goes_then : (a b c : List Entry) (old mid new : Option (List ℕ)) → Goes a b old mid
    → Goes b c mid new → Goes a c old new
goes_then a b c old mid new first second = record {
  more = first.more ++ second.more;
  pushed =
      second.pushed ∙ ap (λ front. front ++ second.more) first.pushed
      ∙ append_assoc a first.more second.more;
  told = subst (Appends old new) (sym (flat_map-append text_of_entry first.more second.more))
      (appends_then old mid new _ _ first.told second.told);
}

-- ---- stops

-- the lines of some entries, and then those of others
lines_then : (old mid new : Option (List ℕ)) (xs ys : List Entry)
    → Appends old mid (flat_map text_of_entry xs) → Appends mid new (flat_map text_of_entry ys)
    → Appends old new (flat_map text_of_entry (xs ++ ys))
lines_then old mid new xs ys first second =
    subst (Appends old new) (sym (flat_map-append text_of_entry xs ys)) (appends_then old mid new _ _ first second)

stops_then : (fault : RunFault) (old mid new : Option (List ℕ)) (xs ys : List Entry)
    → Appends old mid (flat_map text_of_entry xs) → StopsAt fault mid new ys
    → StopsAt fault old new (xs ++ ys)
stops_then Generator old mid new xs ys first second = lines_then old mid new xs ys first second
stops_then Memory old mid new xs ys first second = lines_then old mid new xs ys first second
stops_then (Answer number why) old mid new xs ys first second = lines_then old mid new xs ys first second
stops_then Write old mid new xs ys first c = record {
  done = xs ++ c.done;
  last = c.last;
  is = ap (λ es. xs ++ es) c.is ∙ sym (append_assoc xs c.done (c.last ∷ []));
  count = c.count;
  less = c.less;
  took = subst (Appends old new)
      (sym (append_assoc (flat_map text_of_entry xs) (flat_map text_of_entry c.done) (take c.count (text_of_entry c.last)))
      ∙ ap (λ bytes. bytes ++ take c.count (text_of_entry c.last)) (sym (flat_map-append text_of_entry xs c.done)))
      (appends_then old mid new _ _ first c.took);
}

-- where the sink failed an entry was to be written
pub stops_some : (old new : Option (List ℕ)) (es : List Entry) → StopsAt Write old new es
    → (e : Entry) × (rest : List Entry) × (es ≡ e ∷ rest)
stops_some old new es c = by c.done c.is
  where
    by : (done : List Entry) → es ≡ done ++ c.last ∷ [] → (e : Entry) × (rest : List Entry) × (es ≡ e ∷ rest)
    by [] is = (c.last, [], is)
    by (e ∷ done) is = (e, done ++ c.last ∷ [], is)

-- ---- what was said

-- no request more was written
pub off_none : (version : ℕ) (task : Task) (pools : List Workers) (Front : List Entry → Type 0) (fault : RunFault)
    (entries : List Entry) (spoken : ℕ → Option Talk)
    → IsLegal version task entries → Front entries → Dialogue task version pools entries spoken
    → BrokenOff task version pools Front fault entries spoken
off_none version task pools Front fault entries spoken legal front talks = record {
  next = [];
  few = omega arith;
  only = inl refl;
  legal = subst (IsLegal version task) (sym (append-nil entries)) legal;
  front = subst Front (sym (append-nil entries)) front;
  count = 0;
  said = λ child one some.
      talks child one (subst (λ es. 0 < length (requests_of task pools es)) (append-nil entries) some);
}

-- what the log tells of entries that are such a front
abbrev Log : Type 1
Log = (List Entry → Type 0) → List Entry → Type 0

-- a fault that hearing may have: of the children, or the line that is blamed
abbrev pub MayBlame : ℕ → Task → List Workers → (ℕ → Option Talk) → RunFault → List Entry → Type 0
MayBlame version task pools spoken (Answer number why) entries =
    (is_open entries number ≡ true) × HasBadLine task version pools entries spoken number why
MayBlame version task pools spoken Generator entries = Unit {0}
MayBlame version task pools spoken Memory entries = Unit {0}
MayBlame version task pools spoken Write entries = ⊥

module _ (version : ℕ) (task : Task) (pools : List Workers) (spoken : ℕ → Option Talk) (Front : List Entry → Type 0) where
  legal_none : (before : List Entry) → IsLegal version task before
      → IsLegal version task (before ++ [])
  legal_none before legal = subst (IsLegal version task) (sym (append-nil before)) legal

  front_none : (before : List Entry) → Front before → Front (before ++ [])
  front_none before front = subst Front (sym (append-nil before)) front

  broken_same : (fault : RunFault) (before : List Entry) → BrokenOff task version pools Front fault before spoken
      → BrokenOff task version pools Front fault (before ++ []) spoken
  broken_same fault before broken =
      subst (λ es. BrokenOff task version pools Front fault es spoken) (sym (append-nil before)) broken

  -- nothing was written, but for a request
  pub stopped_sending : (before : List Entry) (fault : RunFault) (sink : Option (List ℕ)) (log : Log)
      → IsLegal version task before → Front before → BrokenOff task version pools Front fault before spoken → log Front []
      → MayHear fault → Stopped version task pools Front before fault sink sink spoken log
  stopped_sending before Generator sink log legal front broken here may = record {
    more = [];
    legal = legal_none before legal;
    front = front_none before front;
    told = appends_none sink;
    blamed = tt;
    talks = broken_same Generator before broken;
    logged = here;
  }
  stopped_sending before Memory sink log legal front broken here may = record {
    more = [];
    legal = legal_none before legal;
    front = front_none before front;
    told = appends_none sink;
    blamed = tt;
    talks = broken_same Memory before broken;
    logged = here;
  }
  stopped_sending before Write sink log legal front broken here may = absurd may
  stopped_sending before (Answer number why) sink log legal front broken here may = absurd may

  -- nothing was written
  pub stopped_hearing : (before : List Entry) (fault : RunFault) (sink : Option (List ℕ)) (log : Log)
      → IsLegal version task before → Front before → Dialogue task version pools before spoken → log Front [] → MayHear fault
      → Stopped version task pools Front before fault sink sink spoken log
  stopped_hearing before fault sink log legal front talks here may =
      stopped_sending before fault sink log legal front
      (off_none version task pools Front fault before spoken legal front talks) here may

  -- memory is wanting, and nothing was written
  pub stopped_memory : (before : List Entry) (fault : RunFault) (sink : Option (List ℕ)) (log : Log)
      → IsLegal version task before → Front before → Dialogue task version pools before spoken → log Front [] → fault ≡ Memory
      → Stopped version task pools Front before fault sink sink spoken log
  stopped_memory before fault sink log legal front talks here is =
      subst (λ f. Stopped version task pools Front before f sink sink spoken log)
      (sym is) (stopped_hearing before Memory sink log legal front talks here tt)

  -- a child failed, or its line is no answer to the open request
  pub stopped_blamed : (before : List Entry) (fault : RunFault) (sink : Option (List ℕ)) (log : Log)
      → IsLegal version task before → Front before → Dialogue task version pools before spoken → log Front []
      → MayBlame version task pools spoken fault before → Stopped version task pools Front before fault sink sink spoken log
  stopped_blamed before Generator sink log legal front talks here is =
      stopped_hearing before Generator sink log legal front talks here tt
  stopped_blamed before Memory sink log legal front talks here is =
      stopped_hearing before Memory sink log legal front talks here tt
  stopped_blamed before Write sink log legal front talks here is = absurd is
  stopped_blamed before (Answer number why) sink log legal front talks here is = record {
    more = [];
    legal = legal_none before legal;
    front = front_none before front;
    told = appends_none sink;
    blamed = subst (λ es. (is_open es number ≡ true) × HasBadLine task version pools es spoken number why) (sym (append-nil before)) is;
    talks = broken_same (Answer number why) before
        (off_none version task pools Front (Answer number why) before spoken legal front talks);
    logged = here;
  }

  -- an entry was to be written, and the sink failed
  pub stopped_at : (before : List Entry) (e : Entry) (fault : RunFault) (old new : Option (List ℕ)) (log : Log)
      → IsLegal version task (before ++ e ∷ []) → Front (before ++ e ∷ []) → Dialogue task version pools (before ++ e ∷ []) spoken
      → (fault ≡ Write → log Front (e ∷ [])) → (fault ≡ Write) × CutOff old new (text_of_entry e)
      → Stopped version task pools Front before fault old new spoken log
  stopped_at before e fault old new log legal front after here (is, cut) =
      subst (λ f. Stopped version task pools Front before f old new spoken log) (sym is) (record {
        more = e ∷ [];
        legal = legal;
        front = front;
        told = record { done = []; last = e; is = refl; count = cut.count; less = cut.less; took = cut.took };
        blamed = tt;
        talks = off_none version task pools Front Write (before ++ e ∷ []) spoken legal front after;
        logged = here is;
      })

  -- it went on and stopped then
  pub stopped_then : (a b : List Entry) (fault : RunFault) (old mid new : Option (List ℕ)) (log later : Log)
      → (goes : Goes a b old mid) → ((more : List Entry) → later Front more → log Front (goes.more ++ more))
      → Stopped version task pools Front b fault mid new spoken later → Stopped version task pools Front a fault old new spoken log
  stopped_then a b fault old mid new log later goes both stopped =
      let all : b ++ stopped.more ≡ a ++ (goes.more ++ stopped.more) =
      ap (λ front. front ++ stopped.more) goes.pushed ∙ append_assoc a goes.more stopped.more in
      record {
        more = goes.more ++ stopped.more;
        legal = subst (IsLegal version task) all stopped.legal;
        front = subst Front all stopped.front;
        told = stops_then fault old mid new goes.more stopped.more goes.told stopped.told;
        blamed = subst (Blames version task pools spoken fault) all stopped.blamed;
        talks = subst (λ es. BrokenOff task version pools Front fault es spoken) all stopped.talks;
        logged = both stopped.more stopped.logged;
      }

  -- the front of one is the front of another, and what the log tells is told otherwise
  pub stopped_as : (Other : List Entry → Type 0) (before : List Entry) (fault : RunFault)
      (old new : Option (List ℕ)) (log later : Log)
      → ((es : List Entry) → IsLegal version task es → Other es → Front es)
      → ((more : List Entry) → StopsAt fault old new more → Other (before ++ more) → log Other more → later Front more)
      → Stopped version task pools Other before fault old new spoken log
      → Stopped version task pools Front before fault old new spoken later
  stopped_as Other before fault old new log later turns tells stopped = record {
    more = stopped.more;
    legal = stopped.legal;
    front = turns (before ++ stopped.more) stopped.legal stopped.front;
    told = stopped.told;
    blamed = stopped.blamed;
    talks = off_as fault (before ++ stopped.more) stopped.talks;
    logged = tells stopped.more stopped.told stopped.front stopped.logged;
  }
    where
      off_as : (f : RunFault) (entries : List Entry) → BrokenOff task version pools Other f entries spoken
          → BrokenOff task version pools Front f entries spoken
      off_as f entries b = record {
        next = b.next;
        few = b.few;
        only = b.only;
        legal = b.legal;
        front = turns (entries ++ b.next) b.legal b.front;
        count = b.count;
        said = b.said;
      }

  -- the same with one front
  pub stopped_map : (before : List Entry) (fault : RunFault) (old new : Option (List ℕ)) (log later : Log)
      → ((more : List Entry) → StopsAt fault old new more → Front (before ++ more) → log Front more → later Front more)
      → Stopped version task pools Front before fault old new spoken log
      → Stopped version task pools Front before fault old new spoken later
  stopped_map before fault old new log later f s =
      stopped_as Front before fault old new log later (λ es legal front. front) f s

-- ---- faults that are handed on

-- the fault that is handed on is this one
pub handed : {T E : Type 0} (r : Result T E) (e : E) (P : E → Type 0) → IsErrAnd r (λ y. y ≡ e)
    → P e → IfErr r P
handed r e P is here =
    let p = err_from_is_err_and r is in
    rw p.1 (subst P (sym p.2) here)

-- the error that is handed on
pub handed_err : {T E : Type 0} (r : Result T E) (e : E) → IsErrAnd r (λ y. y ≡ e) → r ≡ Err e
handed_err r e is = let p = err_from_is_err_and r is in p.1 ∙ ap Err p.2

pub same_err : {T E : Type 0} {x y : E} → (let r : Result T E = Err x in r) ≡ Err y → x ≡ y
same_err e = cc

-- ---- causes

-- another fault needs none
pub no_cause : {T U : Type 0} (failed : RunFault) (last before mid : ℕ) (first : Result T RunFault)
    (fault : RunFault) (r : Result U RunFault)
    → HasCause failed last before mid first → (fault ≡ failed → ⊥) → r ≡ Err fault → HasCause failed last before mid r
no_cause failed last before mid first fault r a never is = record {
  later = a.later;
  cause = λ same. absurd (never (same_err (sym is ∙ same)));
}

pub blamed_listens : (slots : List Slot) (child : ℕ) (bytes : List ℕ) (fault : RunFault)
    → IsBlamed slots child bytes fault → MayListen fault
blamed_listens slots child bytes Generator is = tt
blamed_listens slots child bytes Memory is = tt
blamed_listens slots child bytes Write is = absurd is
blamed_listens slots child bytes (Answer number why) is = tt

pub written_no_generator : (fault : RunFault) → MayWrite fault → fault ≡ Generator → ⊥
written_no_generator fault may is = subst MayWrite is may

-- ---- answers that are handed on

pub on_ok : {T E : Type 0} (r : Result T E) (P : Type 0) → P → OnOk r P
on_ok (Ok x) P p = p
on_ok (Err e) P p = tt

pub ok_map : {T E : Type 0} (r : Result T E) (P Q : Type 0) → (P → Q) → OnOk r P → OnOk r Q
ok_map (Ok x) P Q f p = f p
ok_map (Err e) P Q f p = tt

pub ok_two : {T E : Type 0} (r : Result T E) (P Q R : Type 0) → (P → Q → R) → OnOk r P → OnOk r Q → OnOk r R
ok_two (Ok x) P Q R f p q = f p q
ok_two (Err e) P Q R f p q = tt

-- a fact of the answer with what else holds where it is one
pub ok_all : {T E : Type 0} (r : Result T E) (P : Type 0) (Q : T → Type 0) (R S : Type 0)
    → ((x : T) → P → Q x → R → S) → OnOk r P → IfOk r Q → OnOk r R → OnOk r S
ok_all (Ok x) P Q R S f p q more = f x p q more
ok_all (Err e) P Q R S f p q more = tt

-- all went well
pub written_cause : {T : Type 0} (last first second third now : ℕ) (value : T) → first ≤ second
    → second ≤ third → third ≤ now
    → HasCause Write last first now (let r : Result T RunFault = Ok value in r)
written_cause last first second third now value a b c =
    record { later = omega (arith, a, b, c); cause = λ is. absurd (cc) }

-- a fault that is handed on has its cause after earlier calls that went well
pub cause_handed : {T U : Type 0} (failed : RunFault) (last first second third now : ℕ) (fault : RunFault) (r : Result U RunFault)
    → first ≤ second → second ≤ third → HasCause failed last third now (let s : Result T RunFault = Err fault in s) → r ≡ Err fault
    → HasCause failed last first now r
cause_handed failed last first second third now fault r a b c is = record {
  later = omega (arith, a, b, c.later);
  cause = λ same. rises (c.cause (ap Err (same_err (sym is ∙ same))));
}
  where
    rises : Rose last third now → Rose last first now
    rises rose = omega (arith, a, b, rose)
