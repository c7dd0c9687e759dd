-- A step that lays a block down.
use Rattle.grid_play.proofs.ClashLemmas.{standing}
use Rattle.grid_play.specs.Faults.{LaysDown, cells_at, cells_of, meet_in}
use Rattle.grid_play.specs.Worlds.{World, after_move, is_in_hand, move_of, step_world}
use Rattle.grid_play.specs.declared.moves.Move.TheVariants.{Put}
use Rattle.grid_text.specs.Grids.{GridFile, area}
use Rattle.grid_text.specs.Rects.{is_within, meets}
use Rattle.grid_text.specs.declared.grid.Block.{Block}
use Rattle.grid_text.specs.declared.rect.Rect.{Rect}
use Rattle.grid_world.specs.Answers.{is_blocked}
use Rattle.grid_world.specs.Words.{block_named, pose_of, posed_at, rect_at}
use Rattle.grid_world.specs.declared.words.Corner.{Corner}
use Rattle.lemmas.proofs.Options.{same_some}
use Rattle.lemmas.specs.Lists.{AreDistinct}
use Rattle.play_laws.proofs.ActionLemmas.{Puts, at_atom, free_atom, holding_atom}
use Rattle.play_laws.proofs.FirstLemmas.{made}
use Rattle.play_laws.proofs.FoundLemmas.{found_is, found_place}
use Rattle.play_laws.proofs.KnownLemmas.{IsReached, clear_known, name, pose_known, reach_known}
use Rattle.play_laws.proofs.StandsLemmas.{IsPlaced, Stands, at_parts, other_pred, same_place}
use Rattle.play_laws.proofs.WorldLemmas.{LaysWell, NoneShare, meet_swap, names_block, posed_parts, put_move, set_here, set_other}
use Rattle.play_laws.specs.Problems.{AreTrueYields, tells_grid}
use Rattle.std.proofs.Common.{◌≡◌, ◌≢◌, ℕ, ◌⊎◌, inl, inr, true, false, cond, List, [], ◌∷◌, codes, refl, sym, subst, ap, ◌∙◌, arith, Option, Some, None, slice_get, slice_set}
use Rattle.std.proofs.lemmas.Bool.{cases_eq}
use Rattle.std.specs.Option.{option_and_then}
use Rattle.std.specs.Str.{bytes_eq}
use Rattle.task_model.specs.Fit.{IsFit}
use Rattle.task_model.specs.Initial.{declared_names}
use Rattle.task_model.specs.State.{Atoms, contains}
use Rattle.task_model.specs.Truth.{has_type}
use Rattle.task_model.specs.declared.task.GroundAction.{GroundAction}
use Rattle.task_model.specs.declared.task.Problem.{Problem}
use Rattle.transcript_model.specs.Calls.{call_of_step}
use Rattle.transcript_model.specs.Legal.{IsLegal}
use Rattle.transcript_model.specs.Transcript.{known_of, names_of}
use Rattle.transcript_model.specs.declared.entry.Call.{Call}
use Rattle.transcript_model.specs.declared.entry.Entry.{Entry}

module _ (problem : Problem) (grid : GridFile) (entries : List Entry) (tells : tells_grid (made problem) grid ≡ true)
    (version : ℕ) (fit : IsFit (made problem)) (legal : IsLegal version (made problem) entries)
    (yielded : AreTrueYields grid entries) where
  abbrev distinct : AreDistinct (declared_names (made problem))
  distinct = fit.problem.objects.names.distinct

  abbrev word : ℕ → List ℕ
  word object = name problem grid entries object

  abbrev typed : ℕ → ℕ → Type 0
  typed object sort = has_type (known_of (made problem) entries) object sort ≡ true

  abbrev IsBlock : ℕ → ℕ → Type 0
  IsBlock object i = names_block grid (word object) i

  module _ (before after : Atoms) (world : World) (step : GroundAction)
      (stands : Stands problem grid entries before world) (is : Puts (known_of (made problem) entries) before after step) where
    pub reached : IsReached problem grid entries is.b is.p
    reached =
        reach_known problem grid entries tells version distinct legal yielded is.b is.p is.g is.c is.reach

    pub hold : (i : ℕ) × IsBlock is.b i × (slice_get world i ≡ Some None)
    hold = stands.held is.b is.g is.holding

    abbrev place : ℕ
    place = hold.0

    pub target : (b : Block) × (c : Corner) × (block_named grid (word is.b) ≡ Some b) × (pose_of grid (word is.p) ≡ Some c)
        × (reached.cells ≡ rect_at b c)
    target = posed_parts (block_named grid (word is.b)) (pose_of grid (word is.p)) reached.cells reached.are

    abbrev laid : World
    laid = slice_set world place (Some target.1)

    target_at : slice_get grid.blocks place ≡ Some target.0
    target_at =
        let found = found_place (λ (b : Block). bytes_eq b.name (word is.b)) grid.blocks target.0 target.2 in
        let same : found.0 ≡ place = same_place problem grid entries is.b found.0 place found.1 hold.1 in
        ap (slice_get grid.blocks) (sym same) ∙ found.2

    put_made : after_move world (Put place target.1) ≡ Some laid
    put_made = ap (λ b. cond b (Some laid) None) (ap is_in_hand hold.2)

    now_here : slice_get laid place ≡ Some (Some target.1)
    now_here = set_here world place (Some target.1) None hold.2

    others : (j : ℕ) → j ≢ place → slice_get laid j ≡ slice_get world j
    others j apart = set_other world place j (Some target.1) apart

    at_cases : (o q : ℕ) → contains after (at_atom o q) ≡ true
        → ((o ≡ is.b) × (q ≡ is.p)) ⊎ (contains before (at_atom o q) ≡ true)
    at_cases o q now = elim (is.has (at_atom o q) now) [
      | inl new ↦ inl (at_parts o q is.b is.p new)
      | inr old ↦ elim old [
        | inl free ↦ absurd (other_pred (at_atom o q) free_atom (λ e. omega (arith, e)) free)
        | inr kept ↦ inr kept.1
      ]
    ]

    -- the block wasn't anywhere before
    not_placed : (q : ℕ) → contains before (at_atom is.b q) ≡ true → ⊥
    not_placed q there =
        let old = stands.placed is.b q there in
        let same : old.i ≡ place = same_place problem grid entries is.b old.i place old.block hold.1 in
        let both : Some None ≡ Some (Some old.corner) = sym hold.2 ∙ ap (slice_get world) (sym same) ∙ old.here in
        absurd (cc)

    nothing_held : (o g : ℕ) → contains after (holding_atom o g) ≡ true → ⊥
    nothing_held o g now = elim (is.has (holding_atom o g) now) [
      | inl new ↦ other_pred (holding_atom o g) (at_atom is.b is.p) (λ e. omega (arith, e)) new
      | inr old ↦ elim old [
        | inl free ↦ other_pred (holding_atom o g) free_atom (λ e. omega (arith, e)) free
        | inr kept ↦
            let same = stands.grip o g is.b is.g kept.1 is.holding in
            kept.0 (ap (λ x. holding_atom x g) same.0 ∙ ap (holding_atom is.b) same.1)
      ]
    ]

    none_in_hand : (j : ℕ) → slice_get laid j ≡ Some None → ⊥
    none_in_hand j none = elim (cases_eq j place) [
      | inl e ↦ here (sym now_here ∙ ap (slice_get laid) (sym e) ∙ none)
      | inr apart ↦ apart (stands.one j place (sym (others j apart) ∙ none) hold.2)
    ]
      where
        here : Some (Some target.1) ≡ Some None → ⊥
        here e = absurd (cc)

    old_apart : (o q : ℕ) (old : IsPlaced problem grid entries world o q) → old.i ≢ place
    old_apart o q old same =
        let both : Some None ≡ Some (Some old.corner) = sym hold.2 ∙ ap (slice_get world) (sym same) ∙ old.here in absurd (cc)

    cells_laid : (j : ℕ) → j ≢ place → cells_of grid laid j ≡ cells_of grid world j
    cells_laid j apart = ap (cells_at (slice_get grid.blocks j)) (others j apart)

    cells_here : cells_of grid laid place ≡ Some (rect_at target.0 target.1)
    cells_here =
        ap (λ o. cells_at o (slice_get laid place)) target_at ∙ ap (cells_at (Some target.0)) now_here

    -- each other block stands clear of it
    clear_of : (k : ℕ) (cells : Option Rect) → k ≢ place → cells_of grid world k ≡ cells
        → meet_in (Some (rect_at target.0 target.1)) cells ≡ false
    clear_of k None apart e = refl
    clear_of k (Some cells) apart e =
        let at = standing (slice_get grid.blocks k) (slice_get world k) cells e in
        let old = stands.back k at.corner at.at_is in
        let o = old.0 in
        let q = old.1 in
        let placed = stands.placed o q old.3 in
        let same : placed.i ≡ k = same_place problem grid entries o placed.i k placed.block old.2 in
        let corners : Some (Some placed.corner) ≡ Some (Some at.corner) =
        sym placed.here ∙ ap (slice_get world) same ∙ at.at_is in
        let corner : placed.corner ≡ at.corner = cc in
        let other : o ≢ is.b = λ e. apart (same_place problem grid entries is.b k place (subst (λ x. IsBlock x k) e old.2) hold.1) in
        let known = clear_known problem grid entries tells version distinct legal yielded is.b is.p o q
        (is.clear o q placed.block_type placed.pose_type other old.3) in
        let first : rect_at target.0 target.1 ≡ known.one =
        same_some _ _ _ (ap (λ x. posed_at x (pose_of grid (word is.p))) target.2 ∙ ap (posed_at (Some target.0)) target.3) known.one_is in
        let named : block_named grid (word o) ≡ Some at.found =
        found_is (λ (b : Block). bytes_eq b.name (word o)) grid.blocks k at.found old.2 at.block_is in
        let second : rect_at at.found at.corner ≡ known.other =
        same_some _ _ _ (ap (λ x. posed_at x (pose_of grid (word q))) named ∙ ap (posed_at (Some at.found)) (placed.pose ∙ ap Some corner)) known.other_is in
        ap (λ r. meets r cells) first ∙ ap (meets known.one) (at.cells_are ∙ second) ∙ known.apart

    share_laid : NoneShare grid laid
    share_laid j k apart = elim (cases_eq j place) [
      | inl e ↦
          let k_other : k ≢ place = λ f. apart (e ∙ sym f) in
          ap (λ n. meet_in (cells_of grid laid n) (cells_of grid laid k)) e
          ∙ ap (λ o. meet_in o (cells_of grid laid k)) cells_here
          ∙ ap (meet_in (Some (rect_at target.0 target.1))) (cells_laid k k_other)
          ∙ clear_of k (cells_of grid world k) k_other refl
      | inr j_other ↦ elim (cases_eq k place) [
        | inl e ↦
            ap (λ n. meet_in (cells_of grid laid j) (cells_of grid laid n)) e
            ∙ ap (meet_in (cells_of grid laid j)) cells_here
            ∙ ap (λ o. meet_in o (Some (rect_at target.0 target.1))) (cells_laid j j_other)
            ∙ meet_swap (cells_of grid world j) (Some (rect_at target.0 target.1))
            ∙ clear_of j (cells_of grid world j) j_other refl
        | inr k_other ↦ ap (λ o. meet_in o (cells_of grid laid k)) (cells_laid j j_other)
            ∙ ap (meet_in (cells_of grid world j)) (cells_laid k k_other) ∙ stands.apart j k apart
      ]
    ]

    pub stands_laid : Stands problem grid entries after laid
    stands_laid = record {
      placed = λ o q now. elim (at_cases o q now) [
        | inl new ↦ record {
          i = place;
          corner = target.1;
          block = subst (λ x. IsBlock x place) (sym new.0) hold.1;
          pose = ap (λ x. pose_of grid (word x)) new.1 ∙ target.3;
          here = now_here;
          block_type = subst (λ x. typed x 1) (sym new.0) is.block;
          pose_type = subst (λ x. typed x 3) (sym new.1) is.pose;
        }
        | inr kept ↦
            let old = stands.placed o q kept in
            record {
              i = old.i;
              corner = old.corner;
              block = old.block;
              pose = old.pose;
              here = others old.i (old_apart o q old) ∙ old.here;
              block_type = old.block_type;
              pose_type = old.pose_type;
            }
      ];
      back = λ i c here. elim (cases_eq i place) [
        | inl e ↦ (is.b, is.p, subst (IsBlock is.b) (sym e) hold.1, is.adds)
        | inr apart ↦
            let old = stands.back i c (sym (others i apart) ∙ here) in (
              old.0,
              old.1,
              old.2,
              is.keeps (at_atom old.0 old.1) (other_pred (at_atom old.0 old.1) (holding_atom is.b is.g) (λ e. omega (arith, e))) old.3,
            )
      ];
      single = λ o p q one other. elim (at_cases o p one) [
        | inl first ↦ elim (at_cases o q other) [
          | inl second ↦ first.1 ∙ sym second.1
          | inr kept ↦ absurd (not_placed q (subst (λ x. contains before (at_atom x q) ≡ true) first.0 kept))
        ]
        | inr kept ↦ elim (at_cases o q other) [
          | inl second ↦ absurd (not_placed p (subst (λ x. contains before (at_atom x p) ≡ true) second.0 kept))
          | inr both ↦ stands.single o p q kept both
        ]
      ];
      held = λ o g now. absurd (nothing_held o g now);
      grip = λ o g p h one other. absurd (nothing_held o g one);
      hand = λ free j none. none_in_hand j none;
      one = λ i j first second. absurd (none_in_hand i first);
      apart = share_laid;
    }

    abbrev put_call : Call
    put_call = call_of_step (made problem) (names_of (made problem) entries) step

    put_call_is : put_call ≡ record { name = codes "put"; args = word is.b ∷ word is.p ∷ word is.g ∷ word is.c ∷ [] }
    put_call_is =
        ap (λ (s : GroundAction). call_of_step (made problem) (names_of (made problem) entries) s) (λ i. record { action = is.action i; args = is.args i })

    put_moves : move_of grid put_call ≡ Some (Put place target.1)
    put_moves =
        ap (move_of grid) put_call_is
        ∙ put_move grid place target.1 (word is.b) (word is.p) (word is.g) (word is.c) hold.1 target.3

    cells_laid_are : (w : List ℕ) (cells : Rect) → LaysDown grid world put_call w cells → reached.cells ≡ cells
    cells_laid_are w cells down =
        let moves : Some (Put place target.1) ≡ Some (Put down.block down.corner) = sym put_moves ∙ down.move in
        let blocks : place ≡ down.block = cc in
        let corners : target.1 ≡ down.corner = cc in
        let found : target.0 ≡ down.found = same_some _ _ _ target_at (ap (slice_get grid.blocks) blocks ∙ down.at) in
        target.4 ∙ ap (λ (x : Block). rect_at x target.1) found ∙ ap (rect_at down.found) corners ∙ sym down.cells_are

    -- the step may be made, and lays its block down in the grid and in no obstacle
    pub puts_well : (next : World) × (step_world grid world put_call ≡ Some next) × LaysWell grid world put_call × Stands problem grid entries after next
    puts_well = (
      laid,
      ap (option_and_then (after_move world)) put_moves ∙ put_made,
      λ w cells down.
          let same = cells_laid_are w cells down in
          let free : is_blocked grid reached.cells ≡ false =
          ap (is_blocked grid) target.4
          ∙ pose_known problem grid entries tells version distinct legal yielded is.b is.p reached.pose target.0 target.1 target.2 target.3 in
          (subst (λ r. is_within r (area grid) ≡ true) same reached.within, subst (λ r. is_blocked grid r ≡ false) same free),
      stands_laid,
    )
