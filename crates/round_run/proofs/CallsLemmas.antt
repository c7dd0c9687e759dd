-- How calls follow a transcript, one entry after another.
use Rattle.std.proofs.Common.{◌≡◌, ℕ, arith, true, if◌then◌else◌, List, [], ◌∷◌, ◌++◌, Option, Some, None, Ok, Err, refl, sym, subst, ap, ◌∙◌, append_assoc, eq-eqb}
use Rattle.std.specs.List.{All}
use Rattle.std.proofs.lemmas.List.{append-nil, append_cancel_left}
use Rattle.std.proofs.lemmas.List.Elements.{All-tail}
use Rattle.io_world.specs.Faults.{Extends}
use Rattle.io_world.specs.Talks.{Talk, Event, started, wrote, heard, stopped, silence, spelled, said_after, heard_more, IsGiven, Takes}
use Rattle.pools.specs.Pools.{Workers}
use Rattle.task_model.specs.declared.task.Task.{Task}
use Rattle.transcript_model.specs.Legal.{is_ask, is_answer}
use Rattle.transcript_model.specs.declared.entry.Entry.{Entry}
use Rattle.transcript_model.specs.declared.entry.Entry.TheVariants as entry
use Rattle.round_run.proofs.DialogueRequestLemmas.{requests_join}
use Rattle.round_run.specs.Calls.{AreCallsOf, AddsCalls, Follows, Hearing, LogFollows, next_request}
use Rattle.round_run.specs.Dialogue.{Request, requests_of, text_of_request}

-- ---- what events spell

pub spelled_join : (child : ℕ) (talk : Talk) (xs ys : List Event)
    → spelled child talk (xs ++ ys) ≡ spelled child (spelled child talk xs) ys
spelled_join child talk [] ys = refl
spelled_join child talk (e ∷ xs) ys = spelled_join child (said_after child talk e) xs ys

-- reads add to what was heard
pub spelled_reads : (child : ℕ) (talk : Talk) (events : List Event) → All (IsGiven child) events
    → spelled child talk events ≡ heard_more (spelled child silence events).heard talk
spelled_reads child talk [] all =
    ap (λ bytes. let t : Talk = record { written = talk.written; heard = bytes } in t) (sym (append-nil talk.heard))
spelled_reads child talk (heard k room (Ok bytes) ∷ events) all =
    let own : k ≡ child = all 0 (heard k room (Ok bytes)) (omega arith) in
    let here : (t : Talk) → said_after child t (heard k room (Ok bytes)) ≡ heard_more bytes t =
    λ t. ap (λ b. if b then heard_more bytes t else t) (eq-eqb k child own) in
    let rest = All-tail (IsGiven child) (heard k room (Ok bytes)) events all in
    let first : (spelled child silence (heard k room (Ok bytes) ∷ events)).heard ≡ bytes ++ (spelled child silence events).heard =
    ap (λ (t : Talk). t.heard)
    (ap (λ t. spelled child t events) (here silence) ∙ spelled_reads child (heard_more bytes silence) events rest) in
    ap (λ t. spelled child t events) (here talk)
    ∙ spelled_reads child (heard_more bytes talk) events rest
    ∙ ap (λ b. let t : Talk = record { written = talk.written; heard = b } in t)
    (append_assoc talk.heard bytes (spelled child silence events).heard)
    ∙ ap (λ b. heard_more b talk) (sym first)
spelled_reads child talk (heard k room (Err fault) ∷ events) all =
    absurd (all 0 (heard k room (Err fault)) (omega arith))
spelled_reads child talk (wrote k bytes answer ∷ events) all =
    absurd (all 0 (wrote k bytes answer) (omega arith))
spelled_reads child talk (started k words answer ∷ events) all =
    absurd (all 0 (started k words answer) (omega arith))
spelled_reads child talk (stopped k answer ∷ events) all =
    absurd (all 0 (stopped k answer) (omega arith))

-- ---- entries, one after another

module _ (task : Task) (pools : List Workers) where
  pub follows_join : (past : List Event) (before xs ys : List Entry) (es fs : List Event)
      → Follows task pools past before xs es
      → Follows task pools (past ++ es) (before ++ xs) ys fs → Follows task pools past before (xs ++ ys) (es ++ fs)
  follows_join past before [] ys es fs first second =
      subst (λ (zs : List Event). Follows task pools past before ys (zs ++ fs)) (sym first)
      (subst (λ (zs : List Entry). Follows task pools past zs ys fs) (append-nil before)
      (subst (λ (zs : List Event). Follows task pools zs (before ++ []) ys fs) (append-nil past)
      (subst (λ (zs : List Event). Follows task pools (past ++ zs) (before ++ []) ys fs) first second)))
  follows_join past before (e ∷ xs) ys es fs (now, later, cut, calls, rest) second = (
    now,
    later ++ fs,
    ap (λ zs. zs ++ fs) cut ∙ append_assoc now later fs,
    calls,
    follows_join (past ++ now) (before ++ e ∷ []) xs ys later fs rest
        (subst (λ (zs : List Entry). Follows task pools ((past ++ now) ++ later) zs ys fs) (sym (append_assoc before (e ∷ []) xs))
        (subst (λ (zs : List Event). Follows task pools zs (before ++ e ∷ xs) ys fs)
        (ap (λ zs. past ++ zs) cut ∙ sym (append_assoc past now later)) second)),
  )

  pub log_none : (before : List Entry) (log : Option (List Event))
      → LogFollows task pools before [] log log
  log_none before None = tt
  log_none before (Some events) = (events, [], refl, sym (append-nil events), refl)

  -- the calls of one entry
  pub log_one : (before : List Entry) (e : Entry) (old new : Option (List Event)) (events : List Event)
      → Extends old new events
      → ((past : List Event) → old ≡ Some past → new ≡ Some (past ++ events) → AreCallsOf task pools past before e events)
      → LogFollows task pools before (e ∷ []) old new
  log_one before e old None events grows calls = tt
  log_one before e old (Some after) events (past, is, grown) calls =
      (past, events, is, grown, (events, [], sym (append-nil events), calls past is (ap Some grown), refl))

  pub log_join : (before xs ys : List Entry) (old mid new : Option (List Event))
      → LogFollows task pools before xs old mid
      → LogFollows task pools (before ++ xs) ys mid new → LogFollows task pools before (xs ++ ys) old new
  log_join before xs ys old mid None first second = tt
  log_join before xs ys old None (Some after) first (later, fs, is, grown, follows) = absurd (cc)
  log_join before xs ys old (Some middle) (Some after) (past, es, was, came, begins) (later, fs, is, grown, follows) =
      let same : middle ≡ later = cc in
      let reached : later ≡ past ++ es = sym same ∙ came in (
        past,
        es ++ fs,
        was,
        grown ∙ ap (λ zs. zs ++ fs) reached ∙ append_assoc past es fs,
        follows_join past before xs ys es fs begins (subst (λ zs. Follows task pools zs (before ++ xs) ys fs) reached follows),
      )

  pub calls_none : (before : List Entry) (log : Option (List Event))
      → AddsCalls task pools before before log log
  calls_none before log =
      record { more = []; pushed = sym (append-nil before); log = log_none before log }

  pub calls_one : (before after : List Entry) (e : Entry) (old new : Option (List Event))
      → after ≡ before ++ e ∷ []
      → LogFollows task pools before (e ∷ []) old new → AddsCalls task pools before after old new
  calls_one before after e old new pushed log = record { more = e ∷ []; pushed = pushed; log = log }

  pub calls_then : (a b c : List Entry) (old mid new : Option (List Event))
      → AddsCalls task pools a b old mid → AddsCalls task pools b c mid new
      → AddsCalls task pools a c old new
  calls_then a b c old mid new first second = record {
    more = first.more ++ second.more;
    pushed =
        second.pushed ∙ ap (λ front. front ++ second.more) first.pushed
        ∙ append_assoc a first.more second.more;
    log = log_join a first.more second.more old mid new first.log
        (subst (λ es. LogFollows task pools es second.more mid new) first.pushed second.log);
  }

  -- ---- one entry

  pub ask_calls : (before : List Entry) (e : Entry) (r : Request) (past events : List Event)
      → is_ask e ≡ true
      → requests_of task pools (before ++ e ∷ []) ≡ requests_of task pools before ++ r ∷ [] → Takes r.child (text_of_request r) events
      → AreCallsOf task pools past before e events
  ask_calls before (entry.Ask number turn call) r past events ask grown takes =
      let both : next_request task pools before number turn call ∷ [] ≡ r ∷ [] =
      append_cancel_left (requests_of task pools before) (next_request task pools before number turn call ∷ [])
      (r ∷ []) (sym (requests_join task pools [] before (entry.Ask number turn call ∷ [])) ∙ grown) in
      let one : next_request task pools before number turn call ≡ r = cc in
      subst (λ (q : Request). Takes q.child (text_of_request q) events) (sym one) takes
  ask_calls before entry.Level r past events ask grown takes = absurd (cc)
  ask_calls before (entry.Got number tuples values) r past events ask grown takes = absurd (cc)
  ask_calls before (entry.Value number value) r past events ask grown takes = absurd (cc)
  ask_calls before (entry.End number) r past events ask grown takes = absurd (cc)
  ask_calls before e r past events ask grown takes = absurd (cc)

  pub answer_calls : (before : List Entry) (e : Entry) (past events : List Event)
      → is_answer e ≡ true
      → Hearing task pools past before events → AreCallsOf task pools past before e events
  answer_calls before (entry.Got number tuples values) past events answer hearing = hearing
  answer_calls before (entry.Value number value) past events answer hearing = hearing
  answer_calls before (entry.End number) past events answer hearing = hearing
  answer_calls before e past events answer hearing = absurd (cc)
