-- Where the children of a run stand, between its entries.
use Rattle.std.proofs.Common.{◌≡◌, ◌≢◌, ◌⊎◌, ℕ, ◌+◌, cond, List, [], ◌∷◌, ◌++◌, length, take, slice_get, Some, sym, ap, subst, ◌∙◌, arith, All, inl, inr}
use Rattle.std.proofs.lemmas.List.{take-append-le}
use Rattle.std.proofs.lemmas.List.Elements.{All-nil, All-append, All-weaker}
use Rattle.std.proofs.lemmas.Option.{slice_get_within}
use Rattle.gen_lines.specs.Lines.{lines_of, unfinished}
use Rattle.io_world.specs.Talks.{Event, Talk}
use Rattle.lemmas.proofs.Counts.{count_joined, count_one}
use Rattle.lemmas.proofs.Members.{get_append}
use Rattle.pools.specs.Pools.{Workers, child_for}
use Rattle.restart_host.proofs.NotedLemmas.{not_equal}
use Rattle.restart_host.specs.Uses.{part_of, waiting, words_of}
use Rattle.restart_runs.proofs.CallsLemmas.{AreSame, IsNoStart, given_no, taken_no}
use Rattle.restart_runs.specs.Again.{words_for}
use Rattle.round_run.proofs.DialogueRequestLemmas.{replies_join, requests_join}
use Rattle.round_run.specs.Calls.{AreCallsOf, Follows, answers_by, lines_read}
use Rattle.round_run.specs.Dialogue.{Request, called_stream, count_to, is_to, last_round, replies_of, requests_after, requests_of, text_of_request, workers_in}
use Rattle.task_model.specs.declared.task.Task.{Task}
use Rattle.transcript_model.specs.declared.entry.Entry.{Entry}
use Rattle.transcript_model.specs.declared.entry.Entry.TheVariants as entry
use Rattle.transcript_model.specs.declared.head.Head.{Head}

-- the calls of an entry go to one child, or are none, and none is a start
module _ (task : Task) (pools : List Workers) where
  calls_no : (past : List Event) (before : List Entry) (e : Entry) (events : List Event)
      → AreCallsOf task pools past before e events → All IsNoStart events
  calls_no past before (entry.Ask number turn call) events calls =
      All-weaker _ IsNoStart (taken_no (child_for pools (last_round task [] before) (called_stream task call))) events calls.each
  calls_no past before (entry.Got number tuples values) events calls =
      All-weaker _ IsNoStart (given_no calls.request.child) events calls.reads.each
  calls_no past before (entry.Value number value) events calls =
      All-weaker _ IsNoStart (given_no calls.request.child) events calls.reads.each
  calls_no past before (entry.End number) events calls =
      All-weaker _ IsNoStart (given_no calls.request.child) events calls.reads.each
  calls_no past before e events calls = subst (All IsNoStart) (sym calls) (All-nil IsNoStart)

  pub follows_no : (past : List Event) (before es : List Entry) (events : List Event)
      → Follows task pools past before es events → All IsNoStart events
  follows_no past before [] events follows = subst (All IsNoStart) (sym follows) (All-nil IsNoStart)
  follows_no past before (e ∷ es) events follows =
      subst (All IsNoStart) (sym follows.2)
      (All-append IsNoStart follows.0 follows.1 (calls_no past before e follows.0 follows.3)
      (follows_no (past ++ follows.0) (before ++ e ∷ []) es follows.1 follows.4))

pub not_counted : (r : Request) (k : ℕ) → r.child ≢ k → count_to k (r ∷ []) ≡ 0
not_counted r k other = count_one (is_to k) r ∙ ap (λ b. cond {A = ℕ} b 1 0) (not_equal r.child k (λ same. other (sym same)))

-- where a child stands in the calls of a run
module _ (task : Task) (head : Head) where
  abbrev pub pools : List Workers
  pools = workers_in head

  abbrev pub rs : List Entry → List Request
  rs before = requests_of task pools before

  -- one request waits for an answer, the next one of the child
  pub record IsDue (before : List Entry) (calls : List Event) (c : ℕ) : Type 0 where
    pub place : ℕ
    pub request : Request
    pub at : slice_get (rs before) place ≡ Some request
    pub own : request.child ≡ c
    pub waits : waiting c calls ≡ Some (text_of_request request)
    pub earlier : count_to c (take place (rs before)) ≡ answers_by task pools before c
    pub count : count_to c (rs before) ≡ answers_by task pools before c + 1

  pub record Stands (before : List Entry) (calls : List Event) (c : ℕ) : Type 0 where
    pub named : words_of c calls ≡ words_for head.pools c
    pub lines : lines_read c calls ≡ answers_by task pools before c
    pub part : part_of c calls ≡ []
    pub waits : ((waiting c calls ≡ Some []) × (count_to c (rs before) ≡ answers_by task pools before c)) ⊎ IsDue before calls c

  -- the requests that stand there after one more entry
  pub record IsMore (before : List Entry) (e : Entry) (more : List Request) (answers : List Entry) : Type 0 where
    pub requests : rs (before ++ e ∷ []) ≡ rs before ++ more
    pub replies : replies_of (before ++ e ∷ []) ≡ replies_of before ++ answers

  pub more_of : (before : List Entry) (e : Entry)
      → IsMore before e (requests_after task pools (last_round task [] before) (e ∷ [])) (replies_of (e ∷ []))
  more_of before e = record {
    requests = requests_join task pools [] before (e ∷ []);
    replies = replies_join before (e ∷ []);
  }

  -- a child that isn't called, to which no request more goes and of which no answer came
  pub stands_still : (before now : List Entry) (calls later : List Event) (c : ℕ) → AreSame c calls later
      → (more : List Request) → rs now ≡ rs before ++ more → count_to c more ≡ 0
      → answers_by task pools now c ≡ answers_by task pools before c → Stands before calls c → Stands now later c
  stands_still before now calls later c same more grew none answers stands = record {
    named = same.words ∙ stands.named;
    lines = ap (λ (t : Talk). length (lines_of t.heard)) same.said ∙ stands.lines ∙ sym answers;
    part = ap (λ (t : Talk). unfinished t.heard) same.said ∙ stands.part;
    waits = elim stands.waits [
      | inl idle ↦ inl (same.waits ∙ idle.0, count ∙ idle.1 ∙ sym answers)
      | inr due ↦ inr (record {
        place = due.place;
        request = due.request;
        at = ap (λ list. slice_get list due.place) grew ∙ get_append (rs before) more due.place due.request due.at;
        own = due.own;
        waits = same.waits ∙ due.waits;
        earlier = ap (λ list. count_to c (take due.place list)) grew
            ∙ ap (count_to c) (take-append-le due.place (rs before) more (let w = slice_get_within (rs before) due.place due.request due.at in omega (arith, w)))
            ∙ due.earlier ∙ sym answers;
        count = count ∙ due.count ∙ ap (λ n. n + 1) (sym answers);
      })
    ];
  } where
    count : count_to c (rs now) ≡ count_to c (rs before)
    count =
        ap (count_to c) grew ∙ count_joined (is_to c) (rs before) more ∙ ap (λ n. count_to c (rs before) + n) none
        ∙ (let zero_more : count_to c (rs before) + 0 ≡ count_to c (rs before) = omega arith in zero_more)
