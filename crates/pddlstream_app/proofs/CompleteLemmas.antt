-- Where all goes well, a run has an outcome or lacks memory.
use Rattle.std.proofs.Common.{◌≡◌, ℕ, ◌≤◌, ◌⊎◌, arith, List, [], ◌∷◌, ◌++◌, map, append_assoc, Option, None, Some, refl, sym, subst, ap, ◌∙◌, inl, inr}
use Rattle.std.specs.Prelude.{⊤}
use Rattle.std.proofs.lemmas.List.{append-nil}
use Rattle.io_world.specs.FileMap.{FileMap}
use Rattle.io_world.specs.Faults.{Rose}
use Rattle.io_world.specs.Talks.{Event}
use Rattle.turn_laws.specs.PlainLaws.{IsSettledOutcome}
use Rattle.restart_runs.specs.Tabled.{AnsweredAgain, IsRanAgain}
use Rattle.task_model.specs.declared.task.Task.{Task}
use Rattle.transcript_model.specs.Plain.{IsAsPlain, IsPlainRun, PlainEnd, end_of, no_plan, plan}
use Rattle.transcript_model.specs.Tables.{Answers, IsBounded}
use Rattle.transcript_model.specs.declared.head.Mode.TheVariants.{Incremental}
use Rattle.transcript_model.specs.declared.outcome.LimitKind.TheVariants.{States}
use Rattle.transcript_model.specs.declared.outcome.Outcome.{Outcome}
use Rattle.transcript_model.specs.declared.outcome.Outcome.TheVariants as outcome
use Rattle.round_run.specs.declared.fault.RunFault.TheVariants as fault
use Rattle.pddlstream_app.specs.Complete.{AreGivenAnswers, Completes, EndsPlain, EndsWell, GoesWell, SettlesBy}
use Rattle.command_files.specs.Files.{AreBytes, FileWanted, HasBytes}
use Rattle.run_command.specs.Heads.{AreServed}
use Rattle.command_files.specs.Pools.{HaveText, MeansBy, MeansPools}
use Rattle.command_files.specs.Inputs.{EndsReading, HasNoPool, IsInputRefused, IsRefusedMap, IsTaskOf, IsTooLong, MayBeFilesOf, SolvesNothing, file_at, files_named}
use Rattle.pddlstream_app.specs.NoInput.{HasNoInput, ReadsNothing}
use Rattle.command_files.specs.Outside.{Outside, Written}
use Rattle.pddlstream_app.specs.AnswerOf.{AnswerOf, HasAnswer}
use Rattle.pddlstream_app.specs.Runs.{ClosesRun, IsBeforeLast, IsCompleted}
use Rattle.run_command.specs.Runs.{HasOutcome, outcome_status}
use Rattle.command_files.specs.Stop.{status_at}
use Rattle.command_line.specs.Words.{Command, SolveWords, command_of, solve}
use Rattle.grid_text.specs.Files.{BlamesGridText, IsGridOf}
use Rattle.grid_text.specs.Grids.{GridFile}
use Rattle.grid_text.specs.declared.fault.GridFault.TheVariants as grid
use Rattle.stream_map.specs.Accepted.{Accepted, AcceptedMap}
use Rattle.stream_map.specs.Children.{grid_file, plain}
use Rattle.stream_map.specs.Faults.{Refused}
use Rattle.stream_map.specs.Form.{all_stream_names, words_form}
use Rattle.transcript_model.specs.declared.head.Pool.{Pool}
use Rattle.command_files.specs.declared.stop.FileRole.{FileRole}
use Rattle.command_files.specs.declared.stop.FileRole.TheVariants as role
use Rattle.command_files.specs.declared.status.Status.{Status}
use Rattle.command_files.specs.declared.status.Status.TheVariants.{Memory, WriteFault}
use Rattle.command_files.specs.declared.stop.Stop.{Stop}
use Rattle.command_files.specs.declared.stop.Stop.TheVariants as stop
use Rattle.pddlstream_app.proofs.RefusalsLemmas.{before_map, form_not_refused, grid_not_blamed, map_not_refused, none_refused, not_long, one_meaning, one_spelled, one_text}

-- ---- all files of a run

module _ (files : FileMap) (task : Task) where
  -- what is known of the text of a file that is read for this
  abbrev IsGood : FileRole → List ℕ → Type 0
  IsGood role.Map text = (pools : List Pool) × AcceptedMap task text pools
  IsGood role.Grid text = (g : GridFile) × IsGridOf text g
  IsGood which text = ⊤

  -- the files have these texts, and those are good
  abbrev AreGood : List FileWanted → List (List ℕ) → Type 0
  AreGood [] [] = ⊤
  AreGood (wanted ∷ more) (text ∷ texts) =
      HasBytes (Some files) wanted text × IsGood wanted.role text × AreGood more texts
  AreGood wanted texts = ⊥

  good_both : (xs ys : List FileWanted) (ts us : List (List ℕ)) → AreGood xs ts → AreGood ys us
      → AreGood (xs ++ ys) (ts ++ us)
  good_both [] ys [] us a b = b
  good_both [] ys (t ∷ ts) us a b = absurd a
  good_both (x ∷ xs) ys [] us a b = absurd a
  good_both (x ∷ xs) ys (t ∷ ts) us a b = (a.0, a.1, good_both xs ys ts us a.2 b)

  -- The text of a file that stands behind these among all.
  record TextAt (all texts : List (List ℕ)) (wanted : FileWanted) : Type 0 where
    text : List ℕ
    rest : List (List ℕ)
    split : all ≡ texts ++ text ∷ rest
    has : HasBytes (Some files) wanted text
    good : IsGood wanted.role text

  text_at : (before : List FileWanted) (wanted : FileWanted) (later : List FileWanted) (texts all : List (List ℕ))
      → AreBytes (Some files) before texts → AreGood (before ++ wanted ∷ later) all
      → TextAt all texts wanted
  text_at [] wanted later [] [] x y = absurd y
  text_at [] wanted later [] (t ∷ all) x y =
      record { text = t; rest = all; split = refl; has = y.0; good = y.1 }
  text_at [] wanted later (t ∷ texts) all x y = absurd x
  text_at (w ∷ before) wanted later [] all x y = absurd x
  text_at (w ∷ before) wanted later (t ∷ texts) [] x y = absurd y
  text_at (w ∷ before) wanted later (t ∷ texts) (u ∷ all) x y =
      let there = text_at before wanted later texts all x.1 y.2 in
      let same = one_text files w t u x.0 y.0 in
      record { text = there.text; rest = there.rest; split = λ i. same i ∷ there.split i; has = there.has; good = there.good }

  abbrev Texts : List FileWanted → Type 0
  Texts wanted = (texts : List (List ℕ)) × AreGood wanted texts

  map_text : (w : SolveWords) (path : Option (List ℕ)) (pools : List Pool) → MeansBy path (Some files) w task pools
      → Texts (file_at role.Map path)
  map_text w None pools means = ([], tt)
  map_text w (Some path) pools means =
      (means.bytes ∷ [], (means.has, (pools, means.so), tt))

  grid_text : (path : Option (List ℕ)) (meant pools : List Pool) → HaveText path (Some files) meant pools
      → Texts (file_at role.Grid path)
  grid_text None meant pools has = ([], tt)
  grid_text (Some path) meant pools has = (has.bytes ∷ [], (has.has, (has.so.grid, has.so.is), tt))

-- a file among these is one among more
order_of : (all whole before : List FileWanted) (wanted : FileWanted) (later more : List FileWanted)
    → whole ≡ all ++ more → all ≡ before ++ wanted ∷ later → whole ≡ before ++ wanted ∷ (later ++ more)
order_of all whole before wanted later more is order =
    is ∙ ap (λ fs. fs ++ more) order ∙ append_assoc before (wanted ∷ later) more

-- ---- stops

-- the words mean one command
same_command : (words : List (List ℕ)) (a b : Command) → command_of words ≡ Some a
    → command_of words ≡ Some b → a ≡ b
same_command words a b x y = let both = sym x ∙ y in cc

-- where a task is to be solved the command doesn't answer
pub no_answer : {words : List (List ℕ)} {outside : Outside} {status : Status} {text : List ℕ} (asked : SolveWords)
    → command_of words ≡ Some (solve asked) → HasAnswer words outside status text → ⊥
no_answer {words} {outside} {status} {text} asked meant h =
    subst (λ c. AnswerOf c h.answer.texts status text) (same_command words h.command (solve asked) h.meant meant) h.answer.so

-- ---- outcomes that are no limit

-- it is as the plain run over the answers
abbrev IsPlainFor : {words : List (List ℕ)} {outside : Outside} {status : Status} {text : List ℕ} → Answers
    → HasOutcome words outside status text → Type 0
IsPlainFor answers h =
    h.run.head.mode ≡ Incremental → ¬ (h.outcome ≡ outcome.Limit States)
    → IsAsPlain h.run.task answers h.run.head.calls h.run.entries h.outcome

-- the plain run over the answers ends so, where the outcome does and isn't the limit of states
plain_ends : {words : List (List ℕ)} {outside : Outside} {status : Status} {text : List ℕ} (answers : Answers) (end : PlainEnd)
    → (h : HasOutcome words outside status text) → IsPlainFor answers h → ¬ (h.outcome ≡ outcome.Limit States)
    → end_of h.outcome ≡ Some end → EndsPlain words outside.files.told answers end
plain_ends answers end h as_so known_end is = record {
  run = h.run;
  plain = λ mode.
      let p = as_so mode known_end in
      let both : Some p.end ≡ Some end = sym p.ends ∙ is in
      let same : p.end ≡ end = cc in
      (p.plain, subst (IsPlainRun h.run.task answers h.run.head.calls [] p.plain) same p.run);
}

outcome_settles : {words : List (List ℕ)} {outside : Outside} {status : Status} {text : List ℕ} (answers : Answers)
    → (h : HasOutcome words outside status text) → IsPlainFor answers h → IsSettledOutcome h.outcome → (o : Outcome) → h.outcome ≡ o
    → SettlesBy words outside.files.told answers (outcome_status o)
outcome_settles answers h as_so settled (outcome.Plan steps cost from) is =
    plain_ends answers plan h as_so
    (λ far. absurd (let no : outcome.Plan steps cost from ≡ outcome.Limit States = sym is ∙ far in cc)) (ap end_of is)
outcome_settles answers h as_so settled outcome.NoPlan is =
    plain_ends answers no_plan h as_so
    (λ far. absurd (let no : outcome.NoPlan ≡ outcome.Limit States = sym is ∙ far in cc)) (ap end_of is)
outcome_settles answers h as_so settled (outcome.Limit kind) is = absurd (subst IsSettledOutcome is settled)

-- so where children answer by a table in each of their lives
pub again_settles : {words : List (List ℕ)} {outside : Outside} {status : Status} {text : List ℕ} (answers : Answers)
    → (h : HasOutcome words outside status text) (was now : Option (List Event))
    → IsRanAgain h.run.task h.run.head h.run.entries was now h.outcome
    → AnsweredAgain h.run.head.version h.run.task answers was now
    → IsBounded h.run.head.version h.run.task answers h.run.head.calls h.run.head.states
    → SettlesBy words outside.files.told answers status
again_settles {words} {outside} answers h was now ran said few =
    subst (SettlesBy words outside.files.told answers) h.kind
    (outcome_settles answers h (ran.tabled.plain answers said) (ran.tabled.settled answers said few) h.outcome refl)

module _ {words : List (List ℕ)} {outside : Outside} {host_rose sink_rose : Type 0}
    (well : GoesWell words outside host_rose sink_rose) where
  abbrev asked : SolveWords
  asked = well.asked

  abbrev t : IsTaskOf (Some well.files) asked.files well.task
  t = subst (λ o. IsTaskOf o asked.files well.task) well.are_told well.spelled

  abbrev s : AreServed (Some well.files) asked well.task well.pools
  s = subst (λ o. AreServed o asked well.task well.pools) well.are_told well.served

  abbrev all_files : List FileWanted
  all_files = files_named (solve asked) ++ file_at role.Grid (grid_file (map plain s.meant))

  -- the texts behind the task's
  abbrev of_map : Texts well.files well.task (file_at role.Map asked.path)
  of_map = map_text well.files well.task asked asked.path s.meant s.means

  abbrev of_grid : Texts well.files well.task (file_at role.Grid (grid_file (map plain s.meant)))
  of_grid = grid_text well.files well.task (grid_file (map plain s.meant)) s.meant well.pools s.text

  abbrev texts_of : List (List ℕ)
  texts_of = t.domain ∷ t.problem ∷ t.streams ∷ of_map.0 ++ of_grid.0

  all_good : AreGood well.files well.task all_files texts_of
  all_good = (
    t.are.0,
    tt,
    (
      t.are.1.0,
      tt,
      (
        t.are.1.1.0,
        tt,
        good_both well.files well.task (file_at role.Map asked.path)
            (file_at role.Grid (grid_file (map plain s.meant))) of_map.0 of_grid.0 of_map.1 of_grid.1,
      ),
    ),
  )

  -- files at one of which a run may end are among them, from the first on
  among_all : (all : List FileWanted) → MayBeFilesOf (Some well.files) (solve asked) all
      → (more : List FileWanted) × (all_files ≡ all ++ more)
  among_all all (inl named) = (
    file_at role.Grid (grid_file (map plain s.meant)),
    ap (λ fs. fs ++ file_at role.Grid (grid_file (map plain s.meant)))
        (sym named),
  )
  among_all all (inr (task, pools, spelled, means, are)) =
      let task_is = one_spelled well.files asked.files well.task task t spelled in
      let same = one_meaning well.files asked well.task asked.path s.meant pools s.means
      (subst (λ u. MeansPools (Some well.files) asked u pools) task_is means) in
      ([], ap (λ ps. files_named (solve asked) ++ file_at role.Grid (grid_file ps)) (sym same) ∙ sym are ∙ sym (append-nil all))

  at : (why : Stop) (n : EndsReading (solve asked) outside.files why)
      → TextAt well.files well.task texts_of n.stopped.texts n.stopped.wanted
  at why n =
      let r = n.stopped in
      let are = subst (λ o. MayBeFilesOf o (solve asked) n.all) well.are_told n.are in
      let more = among_all n.all are in
      let order = order_of n.all all_files r.before r.wanted r.later more.0 more.1 r.order in
      text_at well.files well.task r.before r.wanted (r.later ++ more.0) r.texts texts_of
      (subst (λ o. AreBytes o r.before r.texts) well.are_told r.are)
      (subst (λ fs. AreGood well.files well.task fs texts_of) order all_good)

  -- the same text is told
  told_text : (why : Stop) (n : EndsReading (solve asked) outside.files why) (bytes : List ℕ)
      → HasBytes outside.files.told n.stopped.wanted bytes → bytes ≡ (at why n).text
  told_text why n bytes has =
      one_text well.files n.stopped.wanted (at why n).text bytes (at why n).has
      (subst (λ o. HasBytes o n.stopped.wanted bytes) well.are_told has)

  -- no text is refused, and each is read
  no_reading : (why : Stop) → EndsReading (solve asked) outside.files why → why ≡ stop.Run fault.Memory
  no_reading stop.Usage n = absurd n.stopped.cause
  no_reading (stop.Input which kind place) n =
      let here = at (stop.Input which kind place) n in
      let refused = n.stopped.cause.1 in
      let same = told_text (stop.Input which kind place) n refused.bytes refused.has in
      absurd (none_refused t.domain t.problem t.streams
      (of_map.0 ++ of_grid.0) well.task t.spelled n.stopped.texts here.text here.rest which kind place here.split
      (subst (λ b. IsInputRefused n.stopped.texts which b kind place) same refused.so))
  no_reading (stop.Map why) n =
      let here = at (stop.Map why) n in
      let refused = n.stopped.cause.1 in
      let same = told_text (stop.Map why) n refused.bytes refused.has in
      let no = before_map t.domain t.problem t.streams
      (of_map.0 ++ of_grid.0) well.task t.spelled n.stopped.texts here.text here.rest why here.split
      (subst (λ b. IsRefusedMap n.stopped.texts b why) same refused.so) in
      let good = subst (λ r. IsGood well.files well.task r here.text) (sym n.stopped.cause.0) here.good in
      absurd (map_not_refused well.task here.text good.0 why good.1 no.0 no.1)
  no_reading (stop.Grid kind line) n =
      let here = at (stop.Grid kind line) n in
      let refused = n.stopped.cause.1 in
      let same = told_text (stop.Grid kind line) n refused.bytes refused.has in
      let good = subst (λ r. IsGood well.files well.task r here.text) (sym n.stopped.cause.0) here.good in
      absurd (grid_not_blamed here.text good.0 line kind good.1 (subst (λ b. BlamesGridText b (grid.At line kind)) same refused.so))
  no_reading (stop.Failed which) n = absurd (well.read n.stopped.cause.1)
  no_reading (stop.TooLong which) n =
      let here = at (stop.TooLong which) n in
      absurd (not_long well.files n.stopped.wanted here.text here.has
      (subst (λ o. IsTooLong o n.stopped.wanted) well.are_told n.stopped.cause.1))
  no_reading (stop.Run (fault.Answer number why)) n = absurd n.stopped.cause
  no_reading (stop.Run fault.Generator) n = absurd n.stopped.cause
  no_reading (stop.Run fault.Write) n = absurd n.stopped.cause
  no_reading (stop.Run fault.Memory) n = refl

  -- the program makes its pool
  has_pool : (why : Stop) → HasNoPool asked outside.files why → ⊥
  has_pool why n =
      let spelled = subst (λ o. IsTaskOf o asked.files n.task) well.are_told n.spelled in
      let task = one_spelled well.files asked.files well.task n.task t spelled in
      let means : Accepted well.task (words_form well.task asked.program asked.workers) s.meant = subst
      (λ p. MeansBy p (Some well.files) asked well.task s.meant) n.no_map s.means in
      let refused = subst (λ u. Refused (all_stream_names u) (words_form u asked.program asked.workers) n.fault) task n.refused in
      form_not_refused (all_stream_names well.task)
      (words_form well.task asked.program asked.workers) means.spelled n.fault means.form_is means.right n.certain refused

  no_solving : (why : Stop) → SolvesNothing asked outside.files why → why ≡ stop.Run fault.Memory
  no_solving why (inl n) = no_reading why n
  no_solving why (inr n) = absurd (has_pool why n)

  no_input : (why : Stop) → HasNoInput words outside.files why → why ≡ stop.Run fault.Memory
  no_input why n =
      no_solving why (subst (λ c. ReadsNothing c outside.files why)
      (same_command words n.command (solve asked) n.meant well.meant) n.cause)

  -- a run stops only for want of memory
  stops_for_memory : (written : Written) (why : Stop)
      → IsBeforeLast words outside written why → (why ≡ stop.Run fault.Generator → host_rose)
      → why ≡ stop.Run fault.Memory
  stops_for_memory written stop.Usage b host = let both = sym b.cause.0 ∙ well.meant in absurd (cc)
  stops_for_memory written (stop.Input which kind place) b host =
      no_input (stop.Input which kind place) b.cause.0
  stops_for_memory written (stop.Map why) b host = no_input (stop.Map why) b.cause.0
  stops_for_memory written (stop.Grid kind line) b host = no_input (stop.Grid kind line) b.cause.0
  stops_for_memory written (stop.Failed which) b host = no_input (stop.Failed which) b.cause.0
  stops_for_memory written (stop.TooLong which) b host = no_input (stop.TooLong which) b.cause.0
  stops_for_memory written (stop.Run (fault.Answer number why)) b host =
      let c = b.cause in
      absurd (well.answered c.run number why (record { front = c.front; waiting = c.blamed.0; line = c.blamed.1; talks = c.talks }))
  stops_for_memory written (stop.Run fault.Generator) b host = absurd (well.generated (host refl))
  stops_for_memory written (stop.Run fault.Write) b host = absurd b.cause
  stops_for_memory written (stop.Run fault.Memory) b host = refl

  -- a task that is solved has an outcome
  answered_outcome : {Same : Type 0} {written : Written} (status : Status)
      → IsCompleted words outside Same written status → EndsWell status
  answered_outcome status c = of c.has
    where
      solved : (o : Outcome) → EndsWell (outcome_status o)
      solved (outcome.Plan steps cost from) = tt
      solved outcome.NoPlan = tt
      solved (outcome.Limit kind) = tt

      of : HasOutcome words outside status c.text ⊎ HasAnswer words outside status c.text
          → EndsWell status
      of (inl h) = subst EndsWell h.kind (solved h.outcome)
      of (inr h) = absurd (no_answer asked well.meant h)

  -- it has one that is no limit, where generators answer by a table that keeps it within its limits
  answered_settled : {Same : Type 0} {written : Written} (status : Status) (answers : Answers)
      → AreGivenAnswers words outside answers
      → IsCompleted words outside Same written status → SettlesBy words outside.files.told answers status
  answered_settled status answers given c = of c.has
    where
      of : HasOutcome words outside status c.text ⊎ HasAnswer words outside status c.text
          → SettlesBy words outside.files.told answers status
      of (inl h) =
          let said = given.said h.run h.outcome h.turns h.talks in
          subst (SettlesBy words outside.files.told answers) h.kind
          (outcome_settles answers h (h.tabled.plain answers said) (h.tabled.settled answers said (given.few h.run)) h.outcome refl)
      of (inr h) = absurd (no_answer asked well.meant h)

-- ---- last lines

-- the last line was written, or the sink failed: what is so for want of memory is so of the end
answered_close : (IsSo : Status → Type 0) → IsSo Memory → (why : Stop) (written : Written) (status : Status)
    → why ≡ stop.Run fault.Memory → (status ≡ WriteFault → ⊥)
    → ClosesRun why written status → IsSo status
answered_close IsSo lacks why written status is sink (inl (inl x)) =
    subst IsSo (sym (x.0 ∙ ap status_at is)) lacks
answered_close IsSo lacks why written status is sink (inl (inr x)) = absurd (sink x.0)
answered_close IsSo lacks why written status is sink (inr (inl x)) = subst IsSo (sym x.0) lacks
answered_close IsSo lacks why written status is sink (inr (inr x)) = absurd (sink x.0)

-- ---- the whole clause

module _ {words : List (List ℕ)} {outside : Outside} {host_rose sink_rose : Type 0} where
  -- the run has an outcome, or the command answers
  pub completes_done : {Same : Type 0} {written : Written} (status : Status) → IsCompleted words outside Same written status
      → Completes words outside host_rose sink_rose status
  completes_done status c = record {
    ends = λ well. answered_outcome well status c;
    settles = λ answers well given. answered_settled well status answers given c;
  }

  -- the sink failed
  pub completes_cut : (status : Status) → sink_rose → Completes words outside host_rose sink_rose status
  completes_cut status rose = record {
    ends = λ well. absurd (well.written rose);
    settles = λ answers well given. absurd (well.written rose);
  }

  -- the last line was written, or the sink failed
  pub completes_closed : (before after : Written) (why : Stop) (status : Status) → IsBeforeLast words outside before why
      → (why ≡ stop.Run fault.Generator → host_rose) → (status ≡ WriteFault → sink_rose) → ClosesRun why after status
      → Completes words outside host_rose sink_rose status
      × ((answers : Answers) → GoesWell words outside host_rose sink_rose → SettlesBy words outside.files.told answers status)
  completes_closed before after why status last host sink closes = (
    record {
      ends = λ well.
          answered_close EndsWell tt why after status (stops_for_memory well before why last host) (λ e. well.written (sink e)) closes;
      settles = λ answers well given. settled answers well;
    },
    settled,
  )
    where
      settled : (answers : Answers) → GoesWell words outside host_rose sink_rose → SettlesBy words outside.files.told answers status
      settled answers well =
          answered_close (SettlesBy words outside.files.told answers) tt why after status
          (stops_for_memory well before why last host) (λ e. well.written (sink e)) closes

-- a fault of the sink in the last line is one of the run
pub sink_whole : (last before mid now : ℕ) (why : Stop) → before ≤ mid
    → (why ≡ stop.Run fault.Write → ⊥)
    → (why ≡ stop.Run fault.Write) ⊎ Rose last mid now → Rose last before now
sink_whole last before mid now why later other (inl is) = absurd (other is)
sink_whole last before mid now why later other (inr rose) = omega (arith, rose, later)
