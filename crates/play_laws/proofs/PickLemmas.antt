-- A step that takes a block up.
use Rattle.grid_play.specs.Faults.{cells_at, cells_of, meet_in}
use Rattle.grid_play.specs.Worlds.{World, after_move, is_at, move_of, stands_at, step_world}
use Rattle.grid_play.specs.declared.moves.Move.TheVariants.{Pick, Put}
use Rattle.grid_text.specs.Grids.{GridFile}
use Rattle.grid_world.specs.declared.words.Corner.{Corner}
use Rattle.lemmas.proofs.ListTests.{any_found}
use Rattle.play_laws.proofs.ActionLemmas.{Picks, at_atom, free_atom, holding_atom}
use Rattle.play_laws.proofs.FirstLemmas.{made}
use Rattle.play_laws.proofs.KnownLemmas.{name}
use Rattle.play_laws.proofs.StandsLemmas.{IsPlaced, Stands, at_parts, holding_parts, one_object, other_pred, same_place}
use Rattle.play_laws.proofs.WorldLemmas.{LaysWell, corner_itself, is_none_so, names_block, no_cells, none_meets, pick_move, set_here, set_other}
use Rattle.std.proofs.Common.{◌≡◌, ◌≢◌, ℕ, inl, inr, true, false, not, cond, List, [], ◌∷◌, codes, refl, sym, subst, ap, ◌∙◌, arith, Some, None, slice_get, slice_set}
use Rattle.std.proofs.lemmas.Bool.{and_from, cases_eq, false_from_ne_true, not_from_false}
use Rattle.std.specs.List.{list_any}
use Rattle.std.specs.Option.{is_none, option_and_then}
use Rattle.task_model.specs.Fit.{IsFit}
use Rattle.task_model.specs.State.{Atoms, contains}
use Rattle.task_model.specs.Truth.{has_type}
use Rattle.task_model.specs.declared.task.GroundAction.{GroundAction}
use Rattle.task_model.specs.declared.task.Problem.{Problem}
use Rattle.transcript_model.specs.Calls.{call_of_step}
use Rattle.transcript_model.specs.Legal.{IsLegal}
use Rattle.transcript_model.specs.Transcript.{known_of, names_of}
use Rattle.transcript_model.specs.declared.entry.Call.{Call}
use Rattle.transcript_model.specs.declared.entry.Entry.{Entry}

module _ (problem : Problem) (grid : GridFile) (entries : List Entry) (version : ℕ) (fit : IsFit (made problem))
    (legal : IsLegal version (made problem) entries) where
  abbrev word : ℕ → List ℕ
  word object = name problem grid entries object

  abbrev typed : ℕ → ℕ → Type 0
  typed object sort = has_type (known_of (made problem) entries) object sort ≡ true

  abbrev IsBlock : ℕ → ℕ → Type 0
  IsBlock object i = names_block grid (word object) i

  module _ (before after : Atoms) (world : World) (step : GroundAction)
      (stands : Stands problem grid entries before world) (is : Picks (known_of (made problem) entries) before after step) where
    pub there : IsPlaced problem grid entries world is.b is.p
    there = stands.placed is.b is.p is.at

    abbrev picked : World
    picked = slice_set world there.i None

    none_held : (j : ℕ) → slice_get world j ≢ Some None
    none_held = stands.hand is.free

    pick_made : after_move world (Pick there.i there.corner) ≡ Some picked
    pick_made =
        let at_it : is_at world there.i there.corner ≡ true =
        ap (λ o. stands_at o there.corner) there.here ∙ corner_itself there.corner in
        let none : list_any is_none world ≡ false =
        false_from_ne_true (list_any is_none world) (λ any.
        let found = any_found is_none world any in
        none_held found.0 (found.2 ∙ ap Some (is_none_so found.1 found.3))) in
        ap (λ b. cond b (Some picked) None) (and_from (is_at world there.i there.corner) (not (list_any is_none world)) at_it
        (not_from_false (list_any is_none world) none))

    now_held : slice_get picked there.i ≡ Some None
    now_held = set_here world there.i None (Some there.corner) there.here

    elsewhere : (j : ℕ) → j ≢ there.i → slice_get picked j ≡ slice_get world j
    elsewhere j apart = set_other world there.i j None apart

    -- what is at a place afterwards was there, and isn't the block
    at_before : (o q : ℕ) → contains after (at_atom o q) ≡ true
        → (contains before (at_atom o q) ≡ true) × (at_atom o q ≢ at_atom is.b is.p)
    at_before o q now = elim (is.has (at_atom o q) now) [
      | inl new ↦ absurd (other_pred (at_atom o q) (holding_atom is.b is.g) (λ e. omega (arith, e)) new)
      | inr old ↦ (old.2, old.0)
    ]

    held_before : (o g : ℕ) → contains after (holding_atom o g) ≡ true → holding_atom o g ≡ holding_atom is.b is.g
    held_before o g now = elim (is.has (holding_atom o g) now) [
      | inl new ↦ new
      | inr old ↦ let it = stands.held o g old.2 in absurd (none_held it.0 it.2)
    ]

    held_place : (j : ℕ) → slice_get picked j ≡ Some None → j ≡ there.i
    held_place j none = elim (cases_eq j there.i) [
      | inl e ↦ e
      | inr apart ↦ absurd (none_held j (sym (elsewhere j apart) ∙ none))
    ]

    apart_placed : (o q : ℕ) (now : contains after (at_atom o q) ≡ true) → (old : IsPlaced problem grid entries world o q) → old.i ≢ there.i
    apart_placed o q now old same =
        let was = at_before o q now in
        let block : IsBlock o there.i = subst (IsBlock o) same old.block in
        let objects : o ≡ is.b = one_object problem grid entries version fit legal o is.b there.i old.block_type there.block_type block there.block in
        let poses : q ≡ is.p =
        stands.single is.b q is.p (subst (λ x. contains before (at_atom x q) ≡ true) objects was.0) is.at in
        was.1 (ap (λ x. at_atom x q) objects ∙ ap (at_atom is.b) poses)

    cells_after : (j : ℕ) → j ≢ there.i → cells_of grid picked j ≡ cells_of grid world j
    cells_after j apart = ap (cells_at (slice_get grid.blocks j)) (elsewhere j apart)

    no_cells_here : cells_of grid picked there.i ≡ None
    no_cells_here = no_cells (slice_get grid.blocks there.i) (slice_get picked there.i) now_held

    pub stands_picked : Stands problem grid entries after picked
    stands_picked = record {
      placed = λ o q now.
          let was = at_before o q now in
          let old = stands.placed o q was.0 in
          record {
            i = old.i;
            corner = old.corner;
            block = old.block;
            pose = old.pose;
            here = elsewhere old.i (apart_placed o q now old) ∙ old.here;
            block_type = old.block_type;
            pose_type = old.pose_type;
          };
      back = λ i c here.
          let apart : i ≢ there.i = λ same.
          (let none : Some None ≡ Some (Some c) = sym now_held ∙ ap (slice_get picked) (sym same) ∙ here in absurd (cc)) in
          let old = stands.back i c (sym (elsewhere i apart) ∙ here) in
          let other : at_atom old.0 old.1 ≢ at_atom is.b is.p = λ same.
          (let parts = at_parts old.0 old.1 is.b is.p same in
          apart (same_place problem grid entries is.b i there.i (subst (λ x. IsBlock x i) parts.0 old.2) there.block)) in (
            old.0,
            old.1,
            old.2,
            is.keeps (at_atom old.0 old.1) other (other_pred (at_atom old.0 old.1) free_atom (λ e. omega (arith, e))) old.3,
          );
      single = λ o p q one other. stands.single o p q (at_before o p one).0 (at_before o q other).0;
      held = λ o g now.
          let parts = holding_parts o g is.b is.g (held_before o g now) in
          (there.i, subst (λ x. IsBlock x there.i) (sym parts.0) there.block, now_held);
      grip = λ o g p h one other.
          let first = holding_parts o g is.b is.g (held_before o g one) in
          let second = holding_parts p h is.b is.g (held_before p h other) in
          (first.0 ∙ sym second.0, first.1 ∙ sym second.1);
      hand = λ free. absurd (elim (is.has free_atom free) [
        | inl new ↦ other_pred free_atom (holding_atom is.b is.g) (λ e. omega (arith, e)) new
        | inr old ↦ old.1 refl
      ]);
      one = λ i j first second. held_place i first ∙ sym (held_place j second);
      apart = λ j k apart. elim (cases_eq j there.i) [
        | inl e ↦ ap (λ n. meet_in (cells_of grid picked n) (cells_of grid picked k)) e
            ∙ ap (λ o. meet_in o (cells_of grid picked k)) no_cells_here
        | inr j_other ↦ elim (cases_eq k there.i) [
          | inl e ↦ ap (λ n. meet_in (cells_of grid picked j) (cells_of grid picked n)) e
              ∙ ap (meet_in (cells_of grid picked j)) no_cells_here ∙ none_meets (cells_of grid picked j)
          | inr k_other ↦ ap (λ o. meet_in o (cells_of grid picked k)) (cells_after j j_other)
              ∙ ap (meet_in (cells_of grid world j)) (cells_after k k_other) ∙ stands.apart j k apart
        ]
      ];
    }

    abbrev pick_call : Call
    pick_call = call_of_step (made problem) (names_of (made problem) entries) step

    pick_call_is : pick_call ≡ record { name = codes "pick"; args = word is.b ∷ word is.p ∷ word is.g ∷ word is.c ∷ [] }
    pick_call_is =
        ap (λ (s : GroundAction). call_of_step (made problem) (names_of (made problem) entries) s) (λ i. record { action = is.action i; args = is.args i })

    pick_moves : move_of grid pick_call ≡ Some (Pick there.i there.corner)
    pick_moves =
        ap (move_of grid) pick_call_is
        ∙ pick_move grid there.i there.corner (word is.b) (word is.p) (word is.g) (word is.c) there.block there.pose

    -- the step may be made, and lays nothing down
    pub picks_well : (next : World) × (step_world grid world pick_call ≡ Some next) × LaysWell grid world pick_call × Stands problem grid entries after next
    picks_well = (
      picked,
      ap (option_and_then (after_move world)) pick_moves ∙ pick_made,
      λ w cells laid. absurd (no_put laid.block laid.corner (sym pick_moves ∙ laid.move)),
      stands_picked,
    )
      where
        no_put : (b : ℕ) (c : Corner) → Some (Pick there.i there.corner) ≡ Some (Put b c) → ⊥
        no_put b c e = absurd (cc)
