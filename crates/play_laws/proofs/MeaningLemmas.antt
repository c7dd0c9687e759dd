-- What the grid's answers mean.
use Rattle.std.proofs.Common.{◌≡◌, ℕ, zero, suc, Bool, true, false, not, ◌&&◌, List, [], ◌∷◌, ◌++◌, codes, filter, map, refl, sym, ap, ◌∙◌, Option, Some, None, Contains, option_to_list, slice_get}
use Rattle.std.proofs.lemmas.List.Elements.{All-contains, filter_passes}
use Rattle.std.proofs.lemmas.List.Folds.{find_at}
use Rattle.std.proofs.lemmas.Option.{slice_get-map}
use Rattle.std.specs.Fmt.{decimal}
use Rattle.std.specs.List.{find, position_or_len}
use Rattle.gen_lines.specs.Reply.{yields}
use Rattle.grid_play.specs.Replies.{reply_of_answer}
use Rattle.grid_text.specs.Grids.{GridFile, NamedRect, area}
use Rattle.grid_text.specs.Rects.{is_within, meets}
use Rattle.grid_text.specs.declared.grid.Block.{Block}
use Rattle.grid_text.specs.declared.rect.Rect.{Rect}
use Rattle.grid_world.specs.Answers.{apart, corners, hand_at, cell_beside, is_blocked, may_lie, nth, pose_answer, poses_at, poses_in, reached}
use Rattle.grid_world.specs.Words.{block_named, rect_at, region_named}
use Rattle.grid_world.specs.declared.answer.GridAnswer.{GridAnswer}
use Rattle.grid_world.specs.declared.answer.GridAnswer.TheVariants as answer
use Rattle.grid_world.specs.declared.answer.Side.{Side}
use Rattle.grid_world.specs.declared.words.Corner.{Corner}
use Rattle.lemmas.proofs.Bools.{and_not_parts}
use Rattle.lemmas.proofs.Members.{member_at}
use Rattle.lemmas.proofs.Options.{where_true}
use Rattle.transcript_model.proofs.NamesLemmas.{map_some}

-- ---- answers at a place

-- a yield is a member of the list
pub nth_in : (xs : List GridAnswer) (k t : ℕ) (vs : List (List ℕ)) → reply_of_answer (nth k xs) ≡ yields t vs
    → (a : GridAnswer) × (slice_get xs k ≡ Some a) × (reply_of_answer a ≡ yields t vs)
nth_in [] k t vs e = absurd (cc)
nth_in (x ∷ xs) zero t vs e = (x, refl, e)
nth_in (x ∷ xs) (suc k) t vs e = nth_in xs k t vs e

-- where one answer comes at most, it came
pub one_in : (o : Option GridAnswer) (k t : ℕ) (vs : List (List ℕ))
    → reply_of_answer (nth k (option_to_list o)) ≡ yields t vs → (a : GridAnswer) × (o ≡ Some a)
one_in None k t vs e = absurd (cc)
one_in (Some a) k t vs e = (a, refl)

pub find_member : {A : Type 0} (p : A → Bool) (xs : List A) (x : A) → find p xs ≡ Some x → Contains xs x
find_member p xs x e = member_at xs (position_or_len p xs) x (sym (find_at p xs) ∙ e)

-- ---- reach

pub reached_some : (grid : GridFile) (cells : Option Rect) (side : Option Side) (a : GridAnswer)
    → reached grid cells side ≡ Some a → (r : Rect) × (cells ≡ Some r) × (is_within r (area grid) ≡ true)
reached_some grid None side a e = absurd (cc)
reached_some grid (Some r) None a e = absurd (cc)
reached_some grid (Some r) (Some s) a e =
    (r, refl, (where_true (is_within r (area grid)) (hand_at grid (cell_beside r s)) a e).0)

-- ---- clear

pub record Apart (first second : Option Rect) : Type 0 where
  pub one : Rect
  pub other : Rect
  pub one_is : first ≡ Some one
  pub other_is : second ≡ Some other
  pub apart : meets one other ≡ false

pub apart_some : (grid : GridFile) (first second : Option Rect) (a : GridAnswer) → apart grid first second ≡ Some a
    → Apart first second
apart_some grid None second a e = absurd (cc)
apart_some grid (Some r) None a e = absurd (cc)
apart_some grid (Some r) (Some s) a e =
    let passed = where_true (is_within r (area grid) && is_within s (area grid) && not (meets r s)) (Some answer.Yes) a e in
    record {
      one = r;
      other = s;
      one_is = refl;
      other_is = refl;
      apart = (and_not_parts (is_within r (area grid) && is_within s (area grid)) (meets r s) passed.0).1;
    }

-- ---- place

-- the yield is a corner with which the block of this name lies in a region and in no obstacle
pub record Lies (grid : GridFile) (name : List ℕ) (t : ℕ) (vs : List (List ℕ)) : Type 0 where
  pub block : Block
  pub named : block_named grid name ≡ Some block
  pub corner : Corner
  pub one : t ≡ 1
  pub said : vs ≡ (decimal corner.x ++ codes "," ++ decimal corner.y) ∷ []
  pub region : NamedRect
  pub there : Contains grid.regions region
  pub within : is_within (rect_at block corner) region.rect ≡ true
  pub free : is_blocked grid (rect_at block corner) ≡ false

same_yield : (t u : ℕ) (vs ws : List (List ℕ)) → yields t vs ≡ yields u ws → (t ≡ u) × (vs ≡ ws)
same_yield t u vs ws e = (cc, cc)

lies_in : (grid : GridFile) (block : Block) (region : NamedRect) (name : List ℕ)
    → block_named grid name ≡ Some block → Contains grid.regions region → (k t : ℕ) (vs : List (List ℕ))
    → reply_of_answer (nth k (poses_at grid block region.rect (corners region.rect))) ≡ yields t vs
    → Lies grid name t vs
lies_in grid block region name named there k t vs e =
    let passes = may_lie grid block region.rect in
    let kept = filter passes (corners region.rect) in
    let found = nth_in (map pose_answer kept) k t vs e in
    let shown = map_some pose_answer (slice_get kept k) found.0 (sym (slice_get-map pose_answer kept k) ∙ found.1) in
    let passed : passes shown.0 ≡ true =
    All-contains (λ c. passes c ≡ true) kept shown.0 (filter_passes passes (corners region.rect)) (member_at kept k shown.0 shown.1) in
    let parts = and_not_parts (is_within (rect_at block shown.0) region.rect) (is_blocked grid (rect_at block shown.0)) passed in
    let says = same_yield t 1 vs ((decimal shown.0.x ++ codes "," ++ decimal shown.0.y) ∷ []) (sym found.2 ∙ sym (ap reply_of_answer shown.2)) in
    record {
      block = block;
      named = named;
      corner = shown.0;
      one = says.0;
      said = says.1;
      region = region;
      there = there;
      within = parts.0;
      free = parts.1;
    }

lies_by : (grid : GridFile) (name : List ℕ) (block : Option Block) → block_named grid name ≡ block
    → (region : Option NamedRect) → ((r : NamedRect) → region ≡ Some r → Contains grid.regions r)
    → (k t : ℕ) (vs : List (List ℕ)) → reply_of_answer (nth k (poses_in grid block region)) ≡ yields t vs
    → Lies grid name t vs
lies_by grid name None e region there k t vs h = absurd (cc)
lies_by grid name (Some b) e None there k t vs h = absurd (cc)
lies_by grid name (Some b) e (Some r) there k t vs h = lies_in grid b r name e (there r refl) k t vs h

pub lies : (grid : GridFile) (name region : List ℕ) (k t : ℕ) (vs : List (List ℕ))
    → reply_of_answer (nth k (poses_in grid (block_named grid name) (region_named grid region))) ≡ yields t vs
    → Lies grid name t vs
lies grid name region k t vs h =
    lies_by grid name (block_named grid name) refl (region_named grid region) (λ r e. find_member _ grid.regions r e) k t vs h
