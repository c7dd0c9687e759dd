-- A level of a run says what a level of the plain run says.
use Rattle.std.proofs.Common.{◌≡◌, ℕ, ◌+◌, ◌-◌, ◌<◌, Bool, true, false, cond, All, Contains, List, [], ◌∷◌, ◌++◌, length, take, drop, Some, slice_get, refl, sym, ap, subst, ◌∙◌, arith, append_assoc, count_by, inl, inr}
use Rattle.std.proofs.lemmas.List.{append-nil, take-append-drop}
use Rattle.std.proofs.lemmas.List.Elements.{Contains-append_left, filter-append}
use Rattle.std.proofs.lemmas.Option.{slice_get_within}
use Rattle.std.specs.List.{filter}
use Rattle.instance_queue.proofs.LevelLemmas.{due_in}
use Rattle.lemmas.proofs.Ascending.{contains_cases, contains_here, contains_later, contains_none}
use Rattle.lemmas.proofs.Members.{get_append}
use Rattle.lemmas.specs.Lists.{AreDistinct}
use Rattle.turn_laws.proofs.PlainBatchLemmas.{IsOneRound, StandAs, asks_found, levels_more, no_answers, no_levels, only_answers, rounds_one}
use Rattle.turn_laws.proofs.PlainRequestedLemmas.{shown}
use Rattle.turn_laws.proofs.PlainSaidLemmas.{knows_same}
use Rattle.turn_laws.specs.PlainLaws.{KnowsSame}
use Rattle.task_model.proofs.StreamsLemmas.{instances_total}
use Rattle.task_model.specs.Fit.{IsFit}
use Rattle.task_model.specs.Known.{IsIn, Known}
use Rattle.task_model.specs.Streams.{AreDue, IsDue, instance_cmp, yields_of}
use Rattle.task_model.specs.declared.stream.Instance.{Instance}
use Rattle.task_model.specs.declared.task.Task.{Task}
use Rattle.transcript_model.proofs.CoherentLemmas.{coherent}
use Rattle.transcript_model.proofs.LegalPrefixLemmas.{legal_front}
use Rattle.transcript_model.specs.Legal.{IsLegal, asks_of, is_answer, is_ask, is_level}
use Rattle.transcript_model.specs.Names.{call_of_instance, instance_of}
use Rattle.transcript_model.specs.Plain.{SaysSame, level_of}
use Rattle.transcript_model.specs.Rounds.{AreAnswers, Limits, calls_left, requests_from}
use Rattle.transcript_model.specs.Tables.{Answers, AnswersAgree, answers_to, entry_of_reply}
use Rattle.transcript_model.specs.Transcript.{known_of, names_of, notes_of}
use Rattle.transcript_model.specs.Turns.{IsLevel}
use Rattle.transcript_model.specs.declared.entry.Entry.{Entry}
use Rattle.transcript_model.specs.declared.entry.Entry.TheVariants as entry
use Rattle.lemmas.proofs.Distinct.{ascending_distinct}

-- ---- lists

pub in_filter : {A : Type 0} (p : A → Bool) (xs : List A) (x : A) → Contains (filter p xs) x → Contains xs x
in_filter p [] x m = m
in_filter p (y ∷ xs) x m = by (λ c. in_filter p xs x c) (p y) refl
  where
    by : (Contains (filter p xs) x → Contains xs x) → (b : Bool) → p y ≡ b → Contains (y ∷ xs) x
    by later true is = elim (contains_cases y (filter p xs) x
        (subst (λ c. Contains (cond c (y ∷ filter p xs) (filter p xs)) x) is m)) [
          | inl same ↦ subst (Contains (y ∷ xs)) same (contains_here y xs)
          | inr c ↦ contains_later y xs x (later c)
        ]
    by later false is =
        contains_later y xs x (later (subst (λ c. Contains (cond c (y ∷ filter p xs) (filter p xs)) x) is m))

-- a list in ascending order has nothing twice
-- ---- instances that are due

-- an instance that is due is found again by its call
pub due_shown : (version : ℕ) (task : Task) → (fit : IsFit task) → (entries : List Entry) → IsLegal version task entries
    → (i : Instance) → IsDue task (known_of task entries) (notes_of task entries) i
    → instance_of task (names_of task entries) (call_of_instance task (names_of task entries) i) ≡ Some i
due_shown version task fit entries legal i due =
    shown version task fit entries (i ∷ []) (record {
      streamed = λ x m. subst (λ (y : Instance). y.stream < length task.streams) (only i x m)
          (slice_get_within task.streams i.stream due.stream due.named);
      inputs = λ x m. subst (λ (y : Instance). All (IsIn (names_of task entries)) y.inputs) (only i x m)
          (due_in task (known_of task entries) (notes_of task entries) (coherent version task entries fit legal) i due);
    }) i (contains_here i [])
  where
    only : (i x : Instance) → Contains (i ∷ []) x → i ≡ x
    only i x m = elim (contains_cases i [] x m) [ inl same ↦ same | inr none ↦ absurd (contains_none x none) ]

-- ---- answers by a table

-- answers that agree with the table are the table's, to these requests
module _ (task : Task) (start all : List Entry) (answers : Answers) (agree : AnswersAgree answers all) where
  table_answers : (number : ℕ) (list : List Instance) (es : List Entry)
      → ((e : Entry) → Contains (requests_from task start number list) e → Contains all e)
      → ((e : Entry) → Contains es e → Contains all e) → AreAnswers number (length list) es
      → es ≡ answers_to answers (requests_from task start number list)
  table_answers number [] [] asked said are = refl
  table_answers number [] (e ∷ es) asked said are = absurd are
  table_answers number (i ∷ list) [] asked said are = absurd are
  table_answers number (i ∷ list) (e ∷ es) asked said (to, are) =
      let turn = yields_of (notes_of task start) i in
      let call = call_of_instance task (names_of task start) i in
      let rest = requests_from task start (number + 1) list in
      let here : entry_of_reply number (answers call turn) ≡ e ∷ [] =
      agree number turn call e (asked (entry.Ask number turn call) (contains_here (entry.Ask number turn call) rest))
      (said e (contains_here e es)) to in
      let later = table_answers (number + 1) list es (λ x m. asked x (contains_later (entry.Ask number turn call) rest x m))
      (λ x m. said x (contains_later e es x m)) are in
      λ k. sym here k ++ later k

-- ---- a level

module _ (limits : Limits) (task : Task) (fit : IsFit task) (answers : Answers) where
  -- behind the line of a level the same is known
  level_knows : (before twin : List Entry) → SaysSame before twin → KnowsSame task (before ++ entry.Level ∷ []) twin
  level_knows before twin said =
      knows_same task (before ++ entry.Level ∷ []) twin
      (filter-append is_ask before (entry.Level ∷ []) ∙ append-nil (filter is_ask before) ∙ said.asks)
      (filter-append is_answer before (entry.Level ∷ []) ∙ append-nil (filter is_answer before) ∙ said.answers)

  -- what is due stands behind the line of its level as behind the plain run so far
  level_stands : (before twin : List Entry) (list : List Instance) (count : ℕ) → SaysSame before twin
      → IsLegal limits.version task before → AreDue task (known_of task before) (notes_of task before) list
      → StandAs task twin (before ++ entry.Level ∷ []) (take count list)
  level_stands before twin list count said legal due =
      let knows = level_knows before twin said in
      let old = knows_same task before twin said.asks said.answers in
      let names : names_of task (before ++ entry.Level ∷ []) ≡ names_of task twin = ap (λ (k : Known). k.names) knows.known in
      let same : names_of task before ≡ names_of task twin = ap (λ (k : Known). k.names) old.known in
      let in_list : (i : Instance) → Contains (take count list) i → Contains list i =
      λ i m. subst (λ is. Contains is i) (take-append-drop count list) (Contains-append_left (take count list) (drop count list) i m) in
      record {
        named = record {
          streamed = λ i m. let d = (due.each i).0 (in_list i m) in slice_get_within task.streams i.stream d.stream d.named;
          inputs = λ i m. subst (λ ns. All (IsIn ns) i.inputs) (same ∙ sym names)
              (due_in task (known_of task before) (notes_of task before) (coherent limits.version task before fit legal) i
              ((due.each i).0 (in_list i m)));
        };
        calls = λ i m. ap (λ ns. call_of_instance task ns i) names;
        yields = λ i m. ap (λ ns. yields_of ns i) knows.notes;
      }

  -- the requests and answers of a level are those of the plain run's
  pub level_says : (before twin now all : List Entry) (cut : Bool) → SaysSame before twin
      → (level : IsLevel limits task before now cut) → IsLegal limits.version task (before ++ now) → AnswersAgree answers all
      → ((e : Entry) → Contains now e → Contains all e) → SaysSame now (level_of task answers limits.calls twin level.list)
  level_says before twin now all cut said level legal agree inside =
      let list = level.list in
      let rest = level.rest in
      let marked = before ++ entry.Level ∷ [] in
      let knows = level_knows before twin said in
      let front = legal_front limits.version task before now legal in
      let whole : before ++ now ≡ marked ++ rest =
      ap (λ es. before ++ es) level.is ∙ sym (append_assoc before (entry.Level ∷ []) rest) in
      let distinct = ascending_distinct (instance_cmp (known_of task before).names) (instances_total (known_of task before).names)
      list level.due.ascend in
      let few : AreDistinct (take (calls_left limits marked) list) =
      λ i j x at_i at_j. distinct i j x
      (subst (λ is. slice_get is i ≡ Some x) (take-append-drop (calls_left limits marked) list)
      (get_append (take (calls_left limits marked) list) (drop (calls_left limits marked) list) i x at_i))
      (subst (λ is. slice_get is j ≡ Some x) (take-append-drop (calls_left limits marked) list)
      (get_append (take (calls_left limits marked) list) (drop (calls_left limits marked) list) j x at_j)) in
      let rounds =
      rounds_one limits.version task fit limits.pools twin level.batch.rounds (take (calls_left limits marked) list) marked rest
      (subst (IsLegal limits.version task) whole legal)
      (level_stands before twin list (calls_left limits marked) said front level.due) few
      level.batch.cut level.batch.run in
      let asked = take (limits.calls - asks_of twin) list in
      let one : IsOneRound task twin (asks_of twin + 1) asked rest =
      subst (λ n. IsOneRound task twin (n + 1) (take (limits.calls - n) list) rest) knows.asks rounds in
      let asks = requests_from task twin (asks_of twin + 1) asked in
      let inner : (e : Entry) → Contains rest e → Contains all e =
      λ e m. inside e (subst (λ es. Contains es e) (sym level.is) (contains_later entry.Level rest e m)) in
      let same : filter is_answer rest ≡ answers_to answers asks =
      table_answers task twin all answers agree (asks_of twin + 1) asked (filter is_answer rest)
      (λ e m. inner e (in_filter is_ask rest e (subst (λ es. Contains es e) (sym one.asks) m)))
      (λ e m. inner e (in_filter is_answer rest e m)) one.answers in
      let only = only_answers (asks_of twin + 1) (length asked) (answers_to answers asks)
      (subst (AreAnswers (asks_of twin + 1) (length asked)) same one.answers) in
      record {
        asks =
            ap (filter is_ask) level.is ∙ one.asks
            ∙ sym (filter-append is_ask asks (answers_to answers asks)
            ∙ ap (λ es. es ++ filter is_ask (answers_to answers asks)) (asks_found task twin (asks_of twin + 1) asked)
            ∙ ap (λ es. asks ++ es) only.asks ∙ append-nil asks);
        answers =
            ap (filter is_answer) level.is ∙ same
            ∙ sym (filter-append is_answer asks (answers_to answers asks)
            ∙ ap (λ es. es ++ filter is_answer (answers_to answers asks)) (no_answers task twin (asks_of twin + 1) asked)
            ∙ only.answers);
        levels =
            let mark : count_by is_level (entry.Level ∷ []) ≡ 1 = refl in
            omega (
              arith,
              ap (count_by is_level) level.is,
              levels_more (entry.Level ∷ []) rest,
              levels_more (entry.Level ∷ []) (asks ++ answers_to answers asks),
              levels_more asks (answers_to answers asks),
              mark,
              one.levels,
              no_levels task twin (asks_of twin + 1) asked,
              only.levels,
            );
      }
