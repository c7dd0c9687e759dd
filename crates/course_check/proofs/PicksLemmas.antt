-- Picks, entry by entry.
use Rattle.std.proofs.Common.{◌≡◌, ℕ, ◌+◌, ◌-◌, ◌<◌, nat_lt, Bool, true, false, List, [], ◌∷◌, ◌++◌, length, slice_set, take, refl, sym, ap, subst, ◌∙◌, arith}
use Rattle.std.proofs.lemmas.Bool.{ltb-true}
use Rattle.std.proofs.lemmas.List.{append-nil}
use Rattle.course_check.proofs.RunsLemmas.{LeadsTurn, at_rest, opens_none, phase_any, run_leads}
use Rattle.course_check.specs.Places.{AwaitsPick, Phase, ModePlace, RunsNext, asked_first, joining, phase_behind, picking, picks, resting, retires, sent_first, sent_next, unasked}
use Rattle.turn_laws.proofs.ModeBatchesLemmas.{batches_ask}
use Rattle.task_model.specs.Dreams as dreams
use Rattle.task_model.specs.declared.task.Task.{Task}
use Rattle.transcript_model.proofs.LegalNumberLemmas.{asks_marked}
use Rattle.transcript_model.specs.Dreaming.{Sent, sent_instances}
use Rattle.transcript_model.specs.Legal.{asks_of}
use Rattle.transcript_model.specs.Rounds.{Limits}
use Rattle.transcript_model.specs.Turns.{AreBatches, IsPickTurn, Kept, finished, further, is_cut, is_given_up, last, retiring, with_pick}
use Rattle.transcript_model.specs.declared.entry.Entry.{Entry}
use Rattle.transcript_model.specs.declared.entry.Entry.TheVariants as entry
use Rattle.transcript_model.specs.declared.head.Mode.TheVariants.{Adaptive}

-- two lists of requests that both are some give up alike
pub given_alike : (xs ys : List Sent) → 0 < length xs → 0 < length ys → is_given_up xs ≡ is_given_up ys
given_alike [] ys some also = absurd (omega (arith, some))
given_alike (x ∷ xs) [] some also = absurd (omega (arith, also))
given_alike (x ∷ xs) (y ∷ ys) some also = refl

-- where something was asked there is no line
pub no_line : (number : ℕ) (xs : List Sent) → 0 < length xs → retiring number xs ≡ []
no_line number [] some = absurd (omega (arith, some))
no_line number (x ∷ xs) some = refl

not_cut : (n : ℕ) → nat_lt n 0 ≡ true → ⊥
not_cut n is = let less = ltb-true n 0 is in absurd (omega (arith, less))

module _ (limits : Limits) (task : Task) where
  -- where nothing may be asked there is no batch
  batches_none : (real : ℕ) (entries : List dreams.SupposedEntry) (before now : List Entry) (after : List Sent) (cut : Bool)
      → AreBatches limits task real entries [] before now after cut → sent_next task real before entries [] ≡ []
      → (now ≡ []) × (after ≡ []) × (cut ≡ false)
  batches_none real entries before now after cut (finished done) none = (refl, refl, refl)
  batches_none real entries before now after cut (last next is wanting batch) none =
      absurd (not_cut (limits.calls - asks_of before)
      (subst (λ (l : List Sent). is_cut limits before l ≡ true) (is ∙ none) wanting))
  batches_none real entries before now after cut (further next is some whole batch more) none =
      let long = ap length (is ∙ none) in absurd (omega (arith, long, some))

  -- where something is asked, it doesn't matter what would come otherwise
  pub runs_any : (over also : Phase) (real : ℕ) (before : List Entry) (entries : List dreams.SupposedEntry) (sent : List Sent) (k : Kept)
      (p : ModePlace) → 0 < length (sent_next task real before entries sent)
      → RunsNext limits task over real before entries sent k p → RunsNext limits task also real before entries sent k p
  runs_any over also real before entries sent k p some r =
      let next = sent_next task real before entries sent in
      record {
        batch = r.batch;
        opens = r.opens;
        after_is = subst (λ (f : Phase). p ≡ record {
          batch = r.batch;
          phase = f;
          kept = joining k (take (limits.calls - asks_of before) (sent_instances next));
        }) (phase_any over also (is_cut limits before next) real entries sent next some) r.after_is;
      }

  module _ (p : ModePlace) (before now : List Entry) (next : Kept) (cut : Bool) (mode : limits.mode ≡ Adaptive)
      (awaits : AwaitsPick p) (left : asks_of before < limits.calls) (t : IsPickTurn limits task p.kept before now next cut) where
    abbrev marked : List Entry
    marked = before ++ entry.Pick (t.place + 1) ∷ []

    abbrev firsts : List Sent
    firsts = sent_first task t.skeleton.real marked t.skeleton.entries

    abbrev picked : Kept
    picked = picking p.kept t.place t.skeleton firsts

    still_left : asks_of marked < limits.calls
    still_left = omega (arith, left, asks_marked before (entry.Pick (t.place + 1)) refl)

    -- behind the line of the pick
    line_leads : (q : ModePlace)
        → RunsNext limits task (unasked t.place) t.skeleton.real marked t.skeleton.entries [] picked q
        → LeadsTurn limits task q marked (t.batches ++ retiring (t.place + 1) t.sent) next cut
        → LeadsTurn limits task p before now next cut
    line_leads q runs through =
        subst (λ xs. LeadsTurn limits task p before xs next cut) (sym t.is)
        (record {
          last = through.last;
          leads = (
            q,
            picks (record {
              mode = mode;
              awaits = awaits;
              place = t.place;
              skeleton = t.skeleton;
              picked = t.picked;
              is = refl;
              runs = runs;
            }),
            through.leads,
          );
          answered = through.answered;
          cut_is = through.cut_is;
        })

    -- where something is asked
    asks_lead : 0 < length firsts → LeadsTurn limits task p before now next cut
    asks_lead some =
        let asked = batches_ask limits task t.skeleton.real t.skeleton.entries [] marked t.batches t.sent cut t.run still_left some in
        let run = run_leads limits task t.skeleton.real t.skeleton.entries picked [] marked t.batches t.sent cut t.run in
        let begun : joining picked [] ≡ picked =
        λ i. record { tried = append-nil p.kept.tried i; skeletons = picked.skeletons } in
        let runs = runs_any resting (unasked t.place) t.skeleton.real marked t.skeleton.entries [] picked run.first some
        (subst (λ (k : Kept). RunsNext limits task resting t.skeleton.real marked t.skeleton.entries [] k run.first) begun run.runs) in
        let skeletons : with_pick p.kept.skeletons t.place t.skeleton firsts ≡ with_pick p.kept.skeletons t.place t.skeleton t.sent =
        λ i. slice_set p.kept.skeletons t.place (record {
          entries = t.skeleton.entries;
          real = t.skeleton.real;
          picks = t.skeleton.picks + 1;
          retired = given_alike firsts t.sent some (omega (arith, asked)) i;
        }) in
        let same : joining picked (sent_instances t.sent) ≡ next =
        (λ i. record { tried = p.kept.tried ++ sent_instances t.sent; skeletons = skeletons i }) ∙ sym t.next_is in
        let all : t.batches ≡ t.batches ++ retiring (t.place + 1) t.sent =
        sym (ap (λ xs. t.batches ++ xs) (no_line (t.place + 1) t.sent (omega (arith, asked))) ∙ append-nil t.batches) in
        line_leads run.first runs
        (subst (λ (k : Kept). LeadsTurn limits task run.first marked (t.batches ++ retiring (t.place + 1) t.sent) k cut) same
        (subst (λ xs. LeadsTurn limits task run.first marked xs (joining picked (sent_instances t.sent)) cut) all run.through))

    -- where nothing may be asked
    none_lead : firsts ≡ [] → LeadsTurn limits task p before now next cut
    none_lead none =
        let real = t.skeleton.real in
        let entries = t.skeleton.entries in
        let ends = batches_none real entries marked t.batches t.sent cut t.run none in
        let run = run_leads limits task real entries picked [] marked [] [] false (finished none) in
        let r = run.runs in
        let list = asked_first limits task real marked entries in
        let own = is_cut limits marked firsts in
        let stands = opens_none limits task real marked entries [] r.batch r.opens none in
        let phase : phase_behind (unasked t.place) own real entries [] firsts ≡ unasked t.place =
        ap (λ (l : List Sent). phase_behind (unasked t.place) own real entries [] l) none in
        let q : ModePlace = record { batch = r.batch; phase = unasked t.place; kept = joining picked list } in
        let lists : list ≡ sent_instances t.sent = stands.0 ∙ sym (ap sent_instances ends.1) in
        let same : joining picked list ≡ next =
        (λ i. record {
          tried = p.kept.tried ++ lists i;
          skeletons = with_pick p.kept.skeletons t.place t.skeleton ((none ∙ sym ends.1) i);
        }) ∙ sym t.next_is in
        let line : t.batches ++ retiring (t.place + 1) t.sent ≡ entry.Retire (t.place + 1) ∷ [] =
        λ i. ends.0 i ++ retiring (t.place + 1) (ends.1 i) in
        let through : LeadsTurn limits task q marked (entry.Retire (t.place + 1) ∷ []) (joining picked list) false =
        record {
          last = r.batch;
          leads = (
            at_rest r.batch (joining picked list),
            retires (record {
              place = t.place;
              awaits = record { phase_is = refl; answered = stands.1; uncut = stands.2 };
              is = refl;
              after_is = refl;
            }),
            refl,
          );
          answered = stands.1;
          cut_is = stands.2;
        } in
        line_leads q (record {
          batch = r.batch;
          opens = r.opens;
          after_is = λ i. record { batch = r.batch; phase = sym phase i; kept = joining picked list };
        })
        (subst (λ (b : Bool). LeadsTurn limits task q marked (t.batches ++ retiring (t.place + 1) t.sent) next b) (sym ends.2)
        (subst (λ xs. LeadsTurn limits task q marked xs next false) (sym line)
        (subst (λ (k : Kept). LeadsTurn limits task q marked (entry.Retire (t.place + 1) ∷ []) k false) same through)))

    pub pick_leads : LeadsTurn limits task p before now next cut
    pick_leads = by firsts refl
      where
        by : (l : List Sent) → firsts ≡ l → LeadsTurn limits task p before now next cut
        by [] none = none_lead none
        by (s ∷ l) some = asks_lead (subst (λ (xs : List Sent). 0 < length xs) (sym some) (omega arith))
