-- Clashes by places are those by names, and the least is found.
use Rattle.std.proofs.Common.{◌≡◌, ◌≢◌, ℕ, ◌+◌, ◌<◌, ◌≤◌, ◌⊎◌, inl, inr, Bool, true, false, not, ◌&&◌, ◌==◌, List, length, refl, sym, subst, ap, ◌∙◌, arith, Option, Some, None, slice_get, eqb-true, eq-eqb, ne_eqb}
use Rattle.std.proofs.lemmas.Bool.{and_from, cases_lt}
use Rattle.std.proofs.lemmas.Cmp.{nat_list_cmp_total, on_total, then_total, tied_itself}
use Rattle.std.proofs.lemmas.Option.{slice_get_within}
use Rattle.std.specs.Cmp.{IsTotalOrder, first_so, second_so}
use Rattle.std.specs.Ordering.{is_gt, is_lt}
use Rattle.std.specs.declared.cmp.Ordering.{Ordering}
use Rattle.std.specs.declared.cmp.Ordering.TheVariants.{Less, Equal, Greater}
use Rattle.lemmas.proofs.Bools.{and_not_parts}
use Rattle.grid_text.specs.Grids.{GridFile}
use Rattle.grid_text.specs.Rects.{meets}
use Rattle.grid_text.specs.declared.grid.Block.{Block}
use Rattle.grid_text.specs.declared.rect.Rect.{Rect}
use Rattle.grid_world.specs.Words.{rect_at}
use Rattle.grid_world.specs.declared.words.Corner.{Corner}
use Rattle.grid_play.specs.Clashes.{IsFirstClash, LeastBefore, Places, StandsBeforePlaces, is_before, is_clash, places_cmp}
use Rattle.grid_play.specs.Faults.{Overlap, block_name, cells_at, cells_of, meet_in, name_cmp, name_pair_cmp, share}
use Rattle.grid_play.specs.Worlds.{World}

-- ---- blocks that share a cell

pub record Meet (one other : Option Rect) : Type 0 where
  pub first : Rect
  pub second : Rect
  pub first_is : one ≡ Some first
  pub second_is : other ≡ Some second
  pub meet : meets first second ≡ true

pub met : (one other : Option Rect) → meet_in one other ≡ true → Meet one other
met None other e = absurd (cc)
met (Some a) None e = absurd (cc)
met (Some a) (Some b) e =
    record { first = a; second = b; first_is = refl; second_is = refl; meet = e }

pub record Stands (block : Option Block) (at : Option (Option Corner)) (cells : Rect) : Type 0 where
  pub found : Block
  pub corner : Corner
  pub block_is : block ≡ Some found
  pub at_is : at ≡ Some (Some corner)
  pub cells_are : cells ≡ rect_at found corner

pub standing : (block : Option Block) (at : Option (Option Corner)) (cells : Rect) → cells_at block at ≡ Some cells
    → Stands block at cells
standing None at cells e = absurd (cc)
standing (Some b) None cells e = absurd (cc)
standing (Some b) (Some None) cells e = absurd (cc)
standing (Some b) (Some (Some c)) cells e =
    record { found = b; corner = c; block_is = refl; at_is = refl; cells_are = cc }

pub block_within : (grid : GridFile) (world : World) (block : ℕ) (cells : Rect)
    → cells_of grid world block ≡ Some cells → block < length grid.blocks
block_within grid world block cells e =
    let is = standing (slice_get grid.blocks block) (slice_get world block) cells e in
    slice_get_within grid.blocks block is.found is.block_is

-- ---- clashes

not_greater : (o : Ordering) → is_gt o ≡ false → o ≢ Greater
not_greater Less e g = absurd (cc)
not_greater Equal e g = absurd (cc)
not_greater Greater e g = absurd (cc)

isnt_greater : (o : Ordering) → o ≢ Greater → is_gt o ≡ false
isnt_greater Less n = refl
isnt_greater Equal n = refl
isnt_greater Greater n = absurd (n refl)

isnt_less : (o : Ordering) → is_lt o ≡ false → o ≢ Less
isnt_less Less e l = absurd (cc)
isnt_less Equal e l = absurd (cc)
isnt_less Greater e l = absurd (cc)

less_so : (o : Ordering) → is_lt o ≡ true → o ≡ Less
less_so Less e = refl
less_so Equal e = absurd (cc)
less_so Greater e = absurd (cc)

not_false : (b : Bool) → not b ≡ true → b ≡ false
not_false true e = absurd (cc)
not_false false e = refl

false_not : (b : Bool) → b ≡ false → not b ≡ true
false_not b e = ap not e

module _ (grid : GridFile) (world : World) where
  shared_of : (one other : ℕ) → is_clash grid world one other ≡ true → share grid world one other ≡ true
  shared_of one other e =
      let outer = and_not_parts (not (one == other) && share grid world one other) (is_gt (name_cmp (block_name grid one) (block_name grid other))) e in
      second_so (not (one == other)) (share grid world one other) outer.0

  pub overlap_of : (one other : ℕ) → is_clash grid world one other ≡ true
      → Overlap grid world (block_name grid one) (block_name grid other)
  overlap_of one other e =
      let outer = and_not_parts (not (one == other) && share grid world one other) (is_gt (name_cmp (block_name grid one) (block_name grid other))) e in
      let differ : (one == other) ≡ false = not_false (one == other) (first_so (not (one == other)) (share grid world one other) outer.0) in
      record {
        one = one;
        other = other;
        apart = λ same. let both : true ≡ false = sym (eq-eqb one other same) ∙ differ in absurd (cc);
        shared = shared_of one other e;
        first_is = refl;
        second_is = refl;
        lesser = not_greater (name_cmp (block_name grid one) (block_name grid other)) outer.1;
      }

  pub clash_of : (a b : List ℕ) (is : Overlap grid world a b) → is_clash grid world is.one is.other ≡ true
  clash_of a b is =
      let names : name_cmp a b ≡ name_cmp (block_name grid is.one) (block_name grid is.other) =
      ap (λ n. name_cmp n b) is.first_is ∙ ap (name_cmp (block_name grid is.one)) is.second_is in
      let lesser : name_cmp (block_name grid is.one) (block_name grid is.other) ≢ Greater =
      λ g. is.lesser (names ∙ g) in
      and_from _ _ (and_from _ _ (false_not (is.one == is.other) (ne_eqb is.one is.other is.apart)) is.shared)
      (false_not (is_gt (name_cmp (block_name grid is.one) (block_name grid is.other)))
      (isnt_greater (name_cmp (block_name grid is.one) (block_name grid is.other)) lesser))

  pub clash_within : (one other : ℕ) → is_clash grid world one other ≡ true
      → (one < length grid.blocks) × (other < length grid.blocks)
  clash_within one other e =
      let shared = shared_of one other e in
      let both = met (cells_of grid world one) (cells_of grid world other) shared in
      (block_within grid world one both.first both.first_is, block_within grid world other both.second both.second_is)

  -- ---- pairs in order

  places_total : IsTotalOrder (places_cmp grid)
  places_total =
      then_total (on_total (λ (p : Places). block_name grid p.0) nat_list_cmp_total)
      (on_total (λ (p : Places). block_name grid p.1) nat_list_cmp_total)

  not_itself : (p : Places) → places_cmp grid p p ≢ Less
  not_itself p less = let both : Less ≡ Equal = sym less ∙ tied_itself places_total p in absurd (cc)

  abbrev AtPlaces : ℕ → ℕ → Places → Type 0
  AtPlaces one other pair = (pair.0 ≡ one) × (pair.1 ≡ other)

  next_cases : (one other : ℕ) (pair : Places) → StandsBeforePlaces one (other + 1) pair
      → StandsBeforePlaces one other pair ⊎ AtPlaces one other pair
  next_cases one other pair (inl less) = inl (inl less)
  next_cases one other pair (inr same) =
      elim (cases_lt pair.1 other) [
        | inl below ↦ inl (inr (same.0, below))
        | inr above ↦ inr (same.0, omega (arith, above, same.1))
      ]

  here_is : (one other : ℕ) (pair : Places) → AtPlaces one other pair → pair ≡ (one, other)
  here_is one other pair at = λ i. (at.0 i, at.1 i)

  -- a clash that comes before the least so far is the least
  pub least_taken : (one other : ℕ) (best : Option Places) → LeastBefore grid world one other best
      → is_clash grid world one other ≡ true → is_before grid (one, other) best ≡ true
      → LeastBefore grid world one (other + 1) (Some (one, other))
  least_taken one other best before clash first = record {
    clash = clash;
    least = λ pair stands clashes less. elim (next_cases one other pair stands) [
      | inl earlier ↦ later best before first pair earlier clashes less
      | inr here ↦ not_itself (one, other) (subst (λ p. places_cmp grid p (one, other) ≡ Less) (here_is one other pair here) less)
    ];
  }
    where
      later : (best : Option Places) → LeastBefore grid world one other best → is_before grid (one, other) best ≡ true
          → (pair : Places) → StandsBeforePlaces one other pair → is_clash grid world pair.0 pair.1 ≡ true
          → places_cmp grid pair (one, other) ≡ Less → ⊥
      later None before first pair earlier clashes less = before pair earlier clashes
      later (Some b) before first pair earlier clashes less =
          before.least pair earlier clashes
          (places_total.trans pair (one, other) b less (less_so (places_cmp grid (one, other) b) first))

  -- what is no clash, or doesn't come before the least so far, leaves that
  pub least_left : (one other : ℕ) (best : Option Places) → LeastBefore grid world one other best
      → (is_clash grid world one other && is_before grid (one, other) best) ≡ false
      → LeastBefore grid world one (other + 1) best
  least_left one other None before left = λ pair stands clashes. elim (next_cases one other pair stands) [
    | inl earlier ↦ before pair earlier clashes
    | inr here ↦
        let is : is_clash grid world one other ≡ true =
        subst (λ p. is_clash grid world p.0 p.1 ≡ true) (here_is one other pair here) clashes in
        let both : true ≡ false = sym (and_from _ _ is refl) ∙ left in absurd (cc)
  ]
  least_left one other (Some b) before left = record {
    clash = before.clash;
    least = λ pair stands clashes less. elim (next_cases one other pair stands) [
      | inl earlier ↦ before.least pair earlier clashes less
      | inr here ↦
          let is : is_clash grid world one other ≡ true =
          subst (λ p. is_clash grid world p.0 p.1 ≡ true) (here_is one other pair here) clashes in
          let first : places_cmp grid (one, other) b ≡ Less =
          subst (λ p. places_cmp grid p b ≡ Less) (here_is one other pair here) less in
          let both : true ≡ false = sym (and_from _ _ is (ap is_lt first)) ∙ left in absurd (cc)
    ];
  }

  row_done : (one other : ℕ) (pair : Places) → length grid.blocks ≤ other → StandsBeforePlaces (one + 1) 0 pair
      → is_clash grid world pair.0 pair.1 ≡ true → StandsBeforePlaces one other pair
  row_done one other pair past (inr same) clashes = absurd (omega (arith, same.1))
  row_done one other pair past (inl less) clashes =
      let within = clash_within pair.0 pair.1 clashes in
      elim (pair.0 == one) as (λ b. (pair.0 == one) ≡ b → StandsBeforePlaces one other pair) [
        | true ↦ λ e. inr (eqb-true pair.0 one e, beyond pair.1 within.1)
        | false ↦ λ e. inl (below pair.0 less (λ same. let both : true ≡ false = sym (eq-eqb pair.0 one same) ∙ e in absurd (cc)))
      ] refl
    where
      beyond : (m : ℕ) → m < length grid.blocks → m < other
      beyond m h = omega (arith, past, h)

      below : (m : ℕ) → m < one + 1 → m ≢ one → m < one
      below m h apart = omega (arith, h, apart)

  -- all of a row was seen
  pub least_row : (one other : ℕ) (best : Option Places) → length grid.blocks ≤ other
      → LeastBefore grid world one other best → LeastBefore grid world (one + 1) 0 best
  least_row one other None past before =
      λ pair stands clashes. before pair (row_done one other pair past stands clashes) clashes
  least_row one other (Some b) past before = record {
    clash = before.clash;
    least = λ pair stands clashes. before.least pair (row_done one other pair past stands clashes) clashes;
  }

  pub least_none : LeastBefore grid world 0 0 None
  least_none = λ pair stands clashes. none pair stands
    where
      none : (pair : Places) → StandsBeforePlaces 0 0 pair → ⊥
      none pair (inl less) = absurd (omega (arith, less))
      none pair (inr same) = absurd (omega (arith, same.1))

  -- all rows were seen
  pub least_all : (one : ℕ) (best : Option Places) → length grid.blocks ≤ one → LeastBefore grid world one 0 best
      → IsFirstClash grid world best
  least_all one None past before = λ a b is.
      let clash = clash_of a b is in
      let within = clash_within is.one is.other clash in
      before (is.one, is.other) (inl (omega (arith, past, within.0))) clash
  least_all one (Some best) past before = record {
    overlap = overlap_of best.0 best.1 before.clash;
    least = λ a b is less.
        let clash = clash_of a b is in
        let within = clash_within is.one is.other clash in
        let same : name_pair_cmp a b (block_name grid best.0) (block_name grid best.1) ≡ places_cmp grid (is.one, is.other) best =
        ap (λ n. name_pair_cmp n b (block_name grid best.0) (block_name grid best.1)) is.first_is
        ∙ ap (λ n. name_pair_cmp (block_name grid is.one) n (block_name grid best.0) (block_name grid best.1)) is.second_is in
        before.least (is.one, is.other) (inl (omega (arith, past, within.0))) clash (sym same ∙ less);
  }
