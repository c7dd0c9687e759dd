-- The first state and the first world.
use Rattle.grid_play.proofs.ClashLemmas.{standing}
use Rattle.grid_play.specs.Faults.{cells_of, meet_in, share}
use Rattle.grid_play.specs.Worlds.{home_corner, home_world}
use Rattle.grid_text.specs.Grids.{GridFile}
use Rattle.grid_text.specs.Rects.{meets}
use Rattle.grid_text.specs.declared.grid.Block.{Block}
use Rattle.grid_text.specs.declared.rect.Rect.{Rect}
use Rattle.grid_world.specs.Words.{rect_at}
use Rattle.grid_world.specs.declared.words.Corner.{Corner}
use Rattle.lemmas.proofs.Members.{member_at}
use Rattle.lemmas.proofs.Options.{same_some}
use Rattle.play_laws.proofs.ActionLemmas.{at_atom, holding_atom}
use Rattle.play_laws.proofs.FirstLemmas.{Home, at_there, home_said, homes_apart, made, names_apart, not_said, said_at, state_said}
use Rattle.play_laws.proofs.FoundLemmas.{found_place}
use Rattle.play_laws.proofs.KnownLemmas.{name}
use Rattle.play_laws.proofs.StandsLemmas.{Stands, in_names}
use Rattle.play_laws.proofs.WorldLemmas.{names_block, none_meets, some_none}
use Rattle.play_laws.specs.Problems.{first_is, tells_grid}
use Rattle.std.proofs.Common.{◌≡◌, ◌≢◌, ℕ, inr, true, false, List, [], ◌∷◌, refl, sym, subst, ap, ◌∙◌, Option, Some, None, slice_get, option_map}
use Rattle.std.proofs.lemmas.Option.{slice_get-map}
use Rattle.std.proofs.lemmas.Slice.Eq.{bytes_eq-Decides}
use Rattle.std.specs.Str.{bytes_eq}
use Rattle.task_model.specs.Fit.{IsFit}
use Rattle.task_model.specs.Initial.{declared_names, initial_state}
use Rattle.task_model.specs.State.{contains}
use Rattle.task_model.specs.Streams.{name_at}
use Rattle.task_model.specs.Truth.{has_type}
use Rattle.task_model.specs.declared.fact.Atom.{Atom}
use Rattle.task_model.specs.declared.task.Problem.{Problem}
use Rattle.transcript_model.proofs.CoherentLemmas.{coherent}
use Rattle.transcript_model.proofs.NamesLemmas.{position_only}
use Rattle.transcript_model.specs.Legal.{IsLegal}
use Rattle.transcript_model.specs.Transcript.{known_of}
use Rattle.transcript_model.specs.declared.entry.Entry.{Entry}

module _ (problem : Problem) (grid : GridFile) (entries : List Entry) (tells : tells_grid (made problem) grid ≡ true)
    (version : ℕ) (fit : IsFit (made problem)) (legal : IsLegal version (made problem) entries) where
  abbrev word : ℕ → List ℕ
  word object = name problem grid entries object

  abbrev typed : ℕ → ℕ → Type 0
  typed object sort = has_type (known_of (made problem) entries) object sort ≡ true

  abbrev IsBlock : ℕ → ℕ → Type 0
  IsBlock object i = names_block grid (word object) i

  home_at : (i : ℕ) → slice_get (home_world grid) i ≡ option_map (λ (b : Block). Some (home_corner b)) (slice_get grid.blocks i)
  home_at i = slice_get-map (λ (b : Block). Some (home_corner b)) grid.blocks i

  home_some : (o : Option Block) (c : Option Corner) → option_map (λ (b : Block). Some (home_corner b)) o ≡ Some c
      → (b : Block) × (o ≡ Some b) × (c ≡ Some (home_corner b))
  home_some None c e = absurd (cc)
  home_some (Some b) c e = (b, refl, cc)

  at_home : (i : ℕ) (c : Option Corner) → slice_get (home_world grid) i ≡ Some c
      → (b : Block) × (slice_get grid.blocks i ≡ Some b) × (c ≡ Some (home_corner b))
  at_home i c e = home_some (slice_get grid.blocks i) c (sym (home_at i) ∙ e)

  -- an `at` of the first state is of a block and its own first corner
  first_at : (o q : ℕ) → contains (initial_state (made problem)) (at_atom o q) ≡ true
      → Home problem grid tells entries o q
  first_at o q there =
      let said = state_said problem grid tells (at_atom o q) there in
      let home = home_said problem grid tells entries said.0 said.1 said.2 (inr said.3) in
      let args : home.0 ∷ home.1 ∷ [] ≡ o ∷ q ∷ [] = sym home.2 ∙ said.4 in
      let first : home.0 ≡ o = cc in
      let second : home.1 ≡ q = cc in
      subst (λ x. Home problem grid tells entries x q) first (subst (Home problem grid tells entries home.0) second home.3)

  no_first : (x : Atom) → (x.pred ≡ 8) → contains (initial_state (made problem)) x ≡ true → ⊥
  no_first x e there =
      let said = state_said problem grid tells x there in
      not_said problem grid tells said.0 said.1 said.2 (inr (inr (said.3 ∙ e)))

  home_is : (o q : ℕ) (home : Home problem grid tells entries o q)
      → (i : ℕ) × IsBlock o i × (slice_get (home_world grid) i ≡ Some (Some (home_corner home.block)))
  home_is o q home =
      let found = found_place (λ (b : Block). bytes_eq b.name (word o)) grid.blocks home.block home.block_is in
      (found.0, found.1, home_at found.0 ∙ ap (option_map (λ (b : Block). Some (home_corner b))) found.2)

  -- the pose words of one block's first corner are one object
  one_pose : (o p q : ℕ) → Home problem grid tells entries o p → Home problem grid tells entries o q → p ≡ q
  one_pose o p q first second =
      (coherent version (made problem) entries fit legal).names p q (word q)
      (in_names problem grid entries version fit legal p 3 first.typed_pose ∙ ap Some (first.spelled ∙ sym second.spelled)) (in_names problem grid entries version fit legal q 3 second.typed_pose)

  pub stands_first : Stands problem grid entries (initial_state (made problem)) (home_world grid)
  stands_first = record {
    placed = λ o q there.
        let home = first_at o q there in
        let at = home_is o q home in
        record {
          i = at.0;
          corner = home_corner home.block;
          block = at.1;
          pose = home.pose;
          here = at.2;
          block_type = home.typed_block;
          pose_type = home.typed_pose;
        };
    back = λ i c here.
        let at = at_home i (Some c) here in
        let said = said_at problem grid tells at.0 (member_at grid.blocks i at.0 at.1) in
        let home = home_said problem grid tells entries said.0 said.1 said.2 (inr said.3) in
        let first : first_is (made problem) at.0.name (home.0 ∷ home.1 ∷ []) ≡ true =
        subst (λ args. first_is (made problem) at.0.name args ≡ true) home.2 said.4 in
        let named : name_at (declared_names (made problem)) home.0 ≡ at.0.name =
        (bytes_eq-Decides (name_at (declared_names (made problem)) home.0) at.0.name).0 first in
        let words : word home.0 ≡ at.0.name = home.3.first ∙ named in
        let block : IsBlock home.0 i =
        position_only (λ (b : Block). bytes_eq b.name (word home.0)) grid.blocks i at.0 at.1
        ((bytes_eq-Decides at.0.name (word home.0)).1 (sym words))
        (λ m y there passes. names_apart problem grid tells m i y at.0 there at.1
        ((bytes_eq-Decides y.name (word home.0)).0 passes ∙ words)) in
        let there : contains (initial_state (made problem)) (at_atom home.0 home.1) ≡ true =
        subst (λ args. contains (initial_state (made problem)) (record { pred = 6; args = args }) ≡ true) home.2
        (at_there problem grid tells fit said.0 said.1 said.2 said.3) in
        (home.0, home.1, block, there);
    single = λ o p q one other. one_pose o p q (first_at o p one) (first_at o q other);
    held = λ o g there. absurd (no_first (holding_atom o g) refl there);
    grip = λ o g p h one other. absurd (no_first (holding_atom o g) refl one);
    hand = λ free i none. nobody i none;
    one = λ i j first second. absurd (nobody i first);
    apart = λ j k apart. by j k apart (cells_of grid (home_world grid) j) (cells_of grid (home_world grid) k) refl refl;
  }
    where
      nobody : (i : ℕ) → slice_get (home_world grid) i ≡ Some None → ⊥
      nobody i none = let at = at_home i None none in some_none (home_corner at.0) (sym at.2)

      by : (j k : ℕ) → j ≢ k → (a b : Option Rect) → cells_of grid (home_world grid) j ≡ a
          → cells_of grid (home_world grid) k ≡ b → share grid (home_world grid) j k ≡ false
      by j k apart None b first second = ap (λ o. meet_in o (cells_of grid (home_world grid) k)) first
      by j k apart (Some a) None first second =
          ap (meet_in (cells_of grid (home_world grid) j)) second ∙ none_meets (cells_of grid (home_world grid) j)
      by j k apart (Some a) (Some b) first second =
          let one = standing (slice_get grid.blocks j) (slice_get (home_world grid) j) a first in
          let other = standing (slice_get grid.blocks k) (slice_get (home_world grid) k) b second in
          let one_home = at_home j (Some one.corner) one.at_is in
          let other_home = at_home k (Some other.corner) other.at_is in
          let one_is : a ≡ rect_at one_home.0 (home_corner one_home.0) = cells_home one.found one.corner a one.cells_are one_home.0 (same_some _ _ _ one.block_is one_home.1) one_home.2 in
          let other_is : b ≡ rect_at other_home.0 (home_corner other_home.0) = cells_home other.found other.corner b other.cells_are other_home.0 (same_some _ _ _ other.block_is other_home.1) other_home.2 in
          ap (λ o. meet_in o (cells_of grid (home_world grid) k)) first ∙ ap (meet_in (Some a)) second
          ∙ ap (λ r. meets r b) one_is ∙ ap (meets (rect_at one_home.0 (home_corner one_home.0))) other_is
          ∙ homes_apart problem grid tells j k one_home.0 other_home.0 apart one_home.1 other_home.1
        where
          cells_home : (found : Block) (corner : Corner) (cells : Rect) → cells ≡ rect_at found corner → (b : Block)
              → found ≡ b → Some corner ≡ Some (home_corner b) → cells ≡ rect_at b (home_corner b)
          cells_home found corner cells are b same corners =
              let corner_is : corner ≡ home_corner b = cc in
              are ∙ ap (λ x. rect_at x corner) same ∙ ap (rect_at b) corner_is
