-- Two runs in incremental mode over one table, with the same limits and the same pools, are one, entry by entry.
use Rattle.std.proofs.Common.{◌≡◌, ℕ, ◌+◌, ◌<◌, Bool, true, false, Contains, List, [], ◌∷◌, ◌++◌, length, take, refl, sym, ap, subst, ◌∙◌, arith, count_by, inl, inr}
use Rattle.std.proofs.lemmas.List.{length-append}
use Rattle.std.proofs.lemmas.List.Elements.{Contains-append_left, Contains-append_right}
use Rattle.lemmas.proofs.Ascending.{contains_here, contains_later}
use Rattle.turn_laws.proofs.PlainBatchLemmas.{levels_more}
use Rattle.turn_laws.proofs.PlainOneLemmas.{as_one}
use Rattle.turn_laws.proofs.PlainTurnsLemmas.{as_plain}
use Rattle.turn_laws.specs.Answered.{IsAnsweredRun}
use Rattle.task_model.proofs.StreamsLemmas.{due_once}
use Rattle.task_model.specs.Fit.{IsFit}
use Rattle.task_model.specs.Streams.{yields_of}
use Rattle.task_model.specs.declared.stream.Instance.{Instance}
use Rattle.task_model.specs.declared.task.Task.{Task}
use Rattle.transcript_model.proofs.RoundsFrontLemmas.{one_front}
use Rattle.transcript_model.specs.Legal.{asks_of, is_level}
use Rattle.transcript_model.specs.Names.{call_of_instance}
use Rattle.transcript_model.specs.Outcomes.{MayStand}
use Rattle.transcript_model.specs.Rounds.{AreAnswers, AreRounds, AreRoundsRun, Limits, Share, calls_left, requests, requests_from}
use Rattle.transcript_model.specs.Tables.{Answers, AnswersAgree, entry_of_reply}
use Rattle.transcript_model.specs.Transcript.{known_of, names_of, notes_of}
use Rattle.transcript_model.specs.Turns.{AreTurns, IncrementalTurn, IsLevel, Stage, after_cut, between, cut_off, inside, is_cut, none_left, stopped, whole}
use Rattle.transcript_model.specs.declared.entry.Entry.{Entry}
use Rattle.transcript_model.specs.declared.entry.Entry.TheVariants as entry
use Rattle.transcript_model.specs.declared.outcome.LimitKind.TheVariants.{States}
use Rattle.transcript_model.specs.declared.outcome.Outcome.{Outcome}
use Rattle.transcript_model.specs.declared.outcome.Outcome.TheVariants as outcome

-- a list is cut into its rounds in one way
rounds_once : (pools : List Share) (list : List Instance) (xs ys : List (List Instance)) → AreRounds pools list xs
    → AreRounds pools list ys → xs ≡ ys
rounds_once pools list [] [] first second = refl
rounds_once pools list [] (round ∷ rounds) none (rest, parts, some, fit, full, more) =
    absurd (omega (arith, some, ap length (sym none ∙ parts), length-append round rest))
rounds_once pools list (round ∷ rounds) [] (rest, parts, some, fit, full, more) none =
    absurd (omega (arith, some, ap length (sym none ∙ parts), length-append round rest))
rounds_once pools list (x ∷ xs) (y ∷ ys) (us, parts_x, some_x, fit_x, full_x, more_x) (vs, parts_y, some_y, fit_y, full_y, more_y) =
    let one = one_front pools x us y vs (sym parts_x ∙ parts_y) fit_x fit_y full_x full_y in
    let later : xs ≡ ys = rounds_once pools vs xs ys (subst (λ is. AreRounds pools is xs) one.1 more_x) more_y in
    λ k. one.0 k ∷ later k

-- all entries of a list stand in another
abbrev AreIn : List Entry → List Entry → Type 0
AreIn all es = (e : Entry) → Contains es e → Contains all e

module _ (limits : Limits) (task : Task) (answers : Answers) (all others : List Entry) (agree : AnswersAgree answers all)
    (agree_too : AnswersAgree answers others) where
  -- the same requests have the same answers
  same_answers : (start : List Entry) (number : ℕ) (list : List Instance) (es fs : List Entry)
      → AreIn all (requests_from task start number list) → AreIn others (requests_from task start number list)
      → AreIn all es → AreIn others fs → AreAnswers number (length list) es → AreAnswers number (length list) fs → es ≡ fs
  same_answers start number [] [] [] asked made said told first second = refl
  same_answers start number [] [] (f ∷ fs) asked made said told first second = absurd second
  same_answers start number [] (e ∷ es) fs asked made said told first second = absurd first
  same_answers start number (i ∷ list) [] fs asked made said told first second = absurd first
  same_answers start number (i ∷ list) (e ∷ es) [] asked made said told first second = absurd second
  same_answers start number (i ∷ list) (e ∷ es) (f ∷ fs) asked made said told (to_e, first) (to_f, second) =
      let turn = yields_of (notes_of task start) i in
      let call = call_of_instance task (names_of task start) i in
      let ask = entry.Ask number turn call in
      let rest = requests_from task start (number + 1) list in
      let here : entry_of_reply number (answers call turn) ≡ e ∷ [] =
      agree number turn call e (asked ask (contains_here ask rest)) (said e (contains_here e es)) to_e in
      let there : entry_of_reply number (answers call turn) ≡ f ∷ [] =
      agree_too number turn call f (made ask (contains_here ask rest)) (told f (contains_here f fs)) to_f in
      let both : e ∷ [] ≡ f ∷ [] = sym here ∙ there in
      let later : es ≡ fs =
      same_answers start (number + 1) list es fs (λ x m. asked x (contains_later ask rest x m))
      (λ x m. made x (contains_later ask rest x m)) (λ x m. said x (contains_later e es x m))
      (λ x m. told x (contains_later f fs x m)) first second in
      λ k. both k ++ later k

  same_rounds : (before : List Entry) (rounds : List (List Instance)) (es fs : List Entry) → AreIn all es → AreIn others fs
      → AreRoundsRun task before rounds es → AreRoundsRun task before rounds fs → es ≡ fs
  same_rounds before [] es fs said told first second = first ∙ sym second
  same_rounds before (round ∷ rounds) es fs said told (now, rest, is, (replies, now_is, are), more)
      (twin, behind, parts, (answered, twin_is, were), further) =
      let asks = requests task before round in
      let in_es : AreIn all (now ++ rest) = λ e m. said e (subst (λ xs. Contains xs e) (sym is) m) in
      let in_fs : AreIn others (twin ++ behind) = λ e m. told e (subst (λ xs. Contains xs e) (sym parts) m) in
      let in_now : AreIn all (asks ++ replies) =
      λ e m. in_es e (Contains-append_left now rest e (subst (λ xs. Contains xs e) (sym now_is) m)) in
      let in_twin : AreIn others (asks ++ answered) =
      λ e m. in_fs e (Contains-append_left twin behind e (subst (λ xs. Contains xs e) (sym twin_is) m)) in
      let same : replies ≡ answered =
      same_answers before (asks_of before + 1) round replies answered
      (λ e m. in_now e (Contains-append_left asks replies e m)) (λ e m. in_twin e (Contains-append_left asks answered e m))
      (λ e m. in_now e (Contains-append_right asks replies e m)) (λ e m. in_twin e (Contains-append_right asks answered e m))
      are were in
      let both : now ≡ twin = now_is ∙ ap (λ xs. asks ++ xs) same ∙ sym twin_is in
      let later : rest ≡ behind =
      same_rounds (before ++ twin) rounds rest behind (λ e m. in_es e (Contains-append_right now rest e m))
      (λ e m. in_fs e (Contains-append_right twin behind e m))
      (subst (λ xs. AreRoundsRun task (before ++ xs) rounds rest) both more) further in
      is ∙ (λ k. both k ++ later k) ∙ sym parts

  -- levels behind the same entries
  same_level : (before es fs : List Entry) (b c : Bool) → IsLevel limits task before es b → IsLevel limits task before fs c
      → AreIn all es → AreIn others fs → (es ≡ fs) × (b ≡ c)
  same_level before es fs b c x y said told =
      let marked = before ++ entry.Level ∷ [] in
      let lists : x.list ≡ y.list =
      due_once task (known_of task before) (notes_of task before) x.list y.list x.due y.due in
      let rounds : x.batch.rounds ≡ y.batch.rounds =
      rounds_once limits.pools (take (calls_left limits marked) y.list) x.batch.rounds y.batch.rounds
      (subst (λ is. AreRounds limits.pools (take (calls_left limits marked) is) x.batch.rounds) lists x.batch.cut) y.batch.cut in
      let rest : x.rest ≡ y.rest =
      same_rounds marked y.batch.rounds x.rest y.rest
      (λ e m. said e (subst (λ xs. Contains xs e) (sym x.is) (contains_later entry.Level x.rest e m)))
      (λ e m. told e (subst (λ xs. Contains xs e) (sym y.is) (contains_later entry.Level y.rest e m)))
      (subst (λ rs. AreRoundsRun task marked rs x.rest) rounds x.batch.run) y.batch.run in
      (x.is ∙ ap (λ xs. entry.Level ∷ xs) rest ∙ sym y.is, x.cut_is ∙ ap (is_cut limits before) lists ∙ sym y.cut_is)

  -- a level has its line
  some_level : (before now rest : List Entry) (b : Bool) → IsLevel limits task before now b
      → 0 < count_by is_level (now ++ rest)
  some_level before now rest b this =
      let mark : count_by is_level (entry.Level ∷ []) ≡ 1 = refl in
      omega (arith, levels_more now rest, ap (count_by is_level) this.is, levels_more (entry.Level ∷ []) this.rest, mark)

  same_turns : (before es fs : List Entry) (s t : Stage) → ¬ (s ≡ inside) → ¬ (t ≡ inside) → AreIn all es → AreIn others fs
      → count_by is_level es ≡ count_by is_level fs → AreTurns limits task (IncrementalTurn limits task) tt before es s
      → AreTurns limits task (IncrementalTurn limits task) tt before fs t → es ≡ fs
  same_turns before es fs s t not nor said told levels none_left none_left = refl
  same_turns before es fs s t not nor said told levels none_left (whole next {now = now} {rest = rest} may this more) =
      absurd (omega (arith, levels, some_level before now rest false this))
  same_turns before es fs s t not nor said told levels none_left (cut_off next may this) =
      absurd (omega (arith, levels, some_level before fs [] true this, levels_more fs []))
  same_turns before es fs s t not nor said told levels none_left (stopped next more cut may this) = absurd (nor refl)
  same_turns before es fs s t not nor said told levels (whole next {now = now} {rest = rest} may this more) none_left =
      absurd (omega (arith, levels, some_level before now rest false this))
  same_turns before es fs s t not nor said told levels (whole next {now = now} {rest = rest} may this more)
      (whole later {now = twin} {rest = behind} might that further) =
      let one = same_level before now twin false false this that (λ e m. said e (Contains-append_left now rest e m))
      (λ e m. told e (Contains-append_left twin behind e m)) in
      let fewer : count_by is_level rest ≡ count_by is_level behind =
      omega (arith, levels, levels_more now rest, levels_more twin behind, ap (count_by is_level) one.0) in
      let others_same : rest ≡ behind =
      same_turns (before ++ twin) rest behind s t not nor (λ e m. said e (Contains-append_right now rest e m))
      (λ e m. told e (Contains-append_right twin behind e m)) fewer
      (subst (λ xs. AreTurns limits task (IncrementalTurn limits task) tt (before ++ xs) rest s) one.0 more) further in
      λ k. one.0 k ++ others_same k
  same_turns before es fs s t not nor said told levels (whole next {now = now} {rest = rest} may this more)
      (cut_off later might that) =
      let one = same_level before now fs false true this that (λ e m. said e (Contains-append_left now rest e m)) told in
      absurd (cc (one.1))
  same_turns before es fs s t not nor said told levels (whole next may this more) (stopped later further cut might that) =
      absurd (nor refl)
  same_turns before es fs s t not nor said told levels (cut_off next may this) none_left =
      absurd (omega (arith, levels, some_level before es [] true this, levels_more es []))
  same_turns before es fs s t not nor said told levels (cut_off next may this)
      (whole later {now = twin} {rest = behind} might that further) =
      let one = same_level before es twin true false this that said (λ e m. told e (Contains-append_left twin behind e m)) in
      absurd (cc (one.1))
  same_turns before es fs s t not nor said told levels (cut_off next may this) (cut_off later might that) =
      (same_level before es fs true true this that said told).0
  same_turns before es fs s t not nor said told levels (cut_off next may this) (stopped later further cut might that) =
      absurd (nor refl)
  same_turns before es fs s t not nor said told levels (stopped next more cut may this) second = absurd (not refl)

-- a run that has an outcome stops inside no turn
not_inside : (s : Stage) (o : Outcome) → MayStand s o → ¬ (s ≡ inside)
not_inside s o (inl at) is = absurd (let no : between ≡ inside = sym at ∙ is in cc)
not_inside s o (inr both) is = absurd (let no : after_cut ≡ inside = sym both.0 ∙ is in cc)

pub same_runs : (limits : Limits) (task : Task) (answers : Answers) (xs ys : List Entry) (s t : Stage) (o p : Outcome)
    → IsFit task → IsAnsweredRun limits task answers xs s o → IsAnsweredRun limits task answers ys t p
    → ¬ (o ≡ outcome.Limit States) → ¬ (p ≡ outcome.Limit States) → xs ≡ ys
same_runs limits task answers xs ys s t o p fit first second end_x end_y =
    let one = as_one task answers limits.calls xs ys o p (as_plain limits task fit answers xs s o first end_x)
    (as_plain limits task fit answers ys t p second end_y) in
    same_turns limits task answers xs ys first.agrees.by second.agrees.by [] xs ys s t (not_inside s o first.stands)
    (not_inside t p second.stands) (λ e m. m) (λ e m. m) one.0.levels first.turns second.turns
