-- Each of the grid's answers says what it is, and there are few to a request.
use Rattle.std.proofs.Common.{◌≡◌, ℕ, zero, suc, ◌+◌, ◌*◌, ◌<◌, ◌≤◌, ◌^◌, Bool, true, false, not, ◌&&◌, nat_lt, cond, List, [], ◌∷◌, ◌++◌, codes, filter, length, map, Option, None, Some, option_to_list, slice_get, refl, sym, subst, ◌∙◌, arith}
use Rattle.std.proofs.lemmas.Bool.{and_parts}
use Rattle.std.proofs.lemmas.Bool.Decides.{nat_tests}
use Rattle.std.proofs.lemmas.List.Elements.{All-contains}
use Rattle.std.proofs.lemmas.List.Folds.{find_at}
use Rattle.std.proofs.lemmas.Slice.Eq.{bytes_eq-Decides}
use Rattle.std.specs.List.{Contains, flat_map, list_any, position_or_len}
use Rattle.std.specs.Str.{bytes_eq}
use Rattle.laws.proofs.GridBoundLemmas.{IsSmall, IsSmallGrid}
use Rattle.laws.proofs.GridValueLemmas.{Says, end_says, hand_says, pose_says, side_says, yes_says}
use Rattle.grid_text.specs.Grids.{GridFile, NamedRect, area}
use Rattle.grid_text.specs.Rects.{Cell, is_within, meets}
use Rattle.grid_text.specs.declared.grid.Block.{Block}
use Rattle.grid_text.specs.declared.rect.Rect.{Rect}
use Rattle.grid_world.specs.Answers.{answer_to, apart, cell_beside, clear_of, covers, grasps_of, hand_at, hand_of, is_open_cell, may_lie, nth, pose_answer, poses_in, poses_of, reached, sides_of}
use Rattle.grid_world.specs.Asks.{ask_to}
use Rattle.grid_world.specs.Inputs.{one_of, two_of, three_of}
use Rattle.grid_world.specs.Words.{block_named, posed, region_named, served_stream, side_of}
use Rattle.grid_world.specs.declared.answer.GridAnswer.{GridAnswer}
use Rattle.grid_world.specs.declared.answer.GridAnswer.TheVariants as answer
use Rattle.grid_world.specs.declared.answer.Side.{Side}
use Rattle.grid_world.specs.declared.answer.Side.TheVariants.{N, E, S, W}
use Rattle.grid_text.specs.Entries.{four_of}
use Rattle.lemmas.proofs.Members.{member_at}
use Rattle.lemmas.specs.Lists.{numbers_from}

-- each of these answers says what it is, and so does the end behind them; there are at most so many
pub record AllSay (outputs most : ℕ) (answers : List GridAnswer) : Type 0 where
  pub each : (k : ℕ) → Says outputs (nth k answers)
  pub few : length answers ≤ most

none_say : (outputs most : ℕ) → AllSay outputs most []
none_say outputs most = record { each = λ k. end_says outputs; few = omega arith }

first_says : (outputs most : ℕ) (a : GridAnswer) (answers : List GridAnswer) → Says outputs a → AllSay outputs most answers
    → AllSay outputs (suc most) (a ∷ answers)
first_says outputs most a answers says rest = record { each = each; few = omega (arith, rest.few) }
  where
    each : (k : ℕ) → Says outputs (nth k (a ∷ answers))
    each zero = says
    each (suc k) = rest.each k

more_say : (outputs few most : ℕ) (answers : List GridAnswer) → few ≤ most → AllSay outputs few answers
    → AllSay outputs most answers
more_say outputs few most answers le all = record { each = all.each; few = omega (arith, all.few, le) }

-- ---- place

-- the answers at those of some corners that pass, whatever corners are
module _ {C : Type 0} (passes : C → Bool) (shown : C → GridAnswer) (at : ℕ → ℕ → C) where
  corner_by : (b : Bool) (most : ℕ) (c : C) (cs : List C) → passes c ≡ b → Says 1 (shown c)
      → AllSay 1 most (map shown (filter passes cs)) → AllSay 1 (suc most) (map shown (filter passes (c ∷ cs)))
  corner_by true most c cs e says rest = rw e (first_says 1 most (shown c) (map shown (filter passes cs)) says rest)
  corner_by false most c cs e says rest = rw e (more_say 1 most (suc most) (map shown (filter passes cs)) (omega arith) rest)

  row_says : (x w y most : ℕ) (more : List C) → ((i : ℕ) → i < x + w → Says 1 (shown (at i y)))
      → AllSay 1 most (map shown (filter passes more))
      → AllSay 1 (w + most) (map shown (filter passes (map (λ i. at i y) (numbers_from x w) ++ more)))
  row_says x zero y most more says rest = more_say 1 most (0 + most) (map shown (filter passes more)) (omega arith) rest
  row_says x (suc w) y most more says rest =
      let row = map (λ i. at i y) (numbers_from (x + 1) w) ++ more in
      let later = row_says (x + 1) w y most more (λ i lt. says i (omega arith)) rest in
      let all = corner_by (passes (at x y)) (w + most) (at x y) row refl (says x (omega arith)) later in
      more_say 1 (suc (w + most)) (suc w + most) (map shown (filter passes (at x y ∷ row))) (omega arith) all

  rows_say : (x w y h : ℕ) → w ≤ 9999 → ((i j : ℕ) → i < x + w → j < y + h → Says 1 (shown (at i j)))
      → AllSay 1 (9999 * h)
      (map shown (filter passes (flat_map (λ j. map (λ i. at i j) (numbers_from x w)) (numbers_from y h))))
  rows_say x w y zero small says = none_say 1 (9999 * 0)
  rows_say x w y (suc h) small says =
      let rows = flat_map (λ j. map (λ i. at i j) (numbers_from x w)) (numbers_from (y + 1) h) in
      let later = rows_say x w (y + 1) h small (λ i j lt le. says i j lt (omega arith)) in
      let all = row_says x w y (9999 * h) rows (λ i lt. says i y lt (omega arith)) later in
      more_say 1 (w + 9999 * h) (9999 * suc h)
      (map shown (filter passes (map (λ i. at i y) (numbers_from x w) ++ rows))) (omega (arith, small)) all

-- the most answers that there may be
abbrev most : ℕ
most = 99980001

region_small : (grid : GridFile) → IsSmallGrid grid → (name : List ℕ) (r : NamedRect) → region_named grid name ≡ Some r
    → IsSmall r.rect
region_small grid small name r is =
    let named = λ (x : NamedRect). bytes_eq x.name name in
    let place = position_or_len named grid.regions in
    let at : slice_get grid.regions place ≡ Some r = sym (find_at named grid.regions) ∙ is in
    let inside : Contains grid.regions r = member_at grid.regions place r at in
    All-contains (λ (x : NamedRect). IsSmall x.rect) grid.regions r small.regions inside

poses_by : (grid : GridFile) (block : Option Block) (region : Option NamedRect)
    → ((r : NamedRect) → region ≡ Some r → IsSmall r.rect) → AllSay 1 most (poses_in grid block region)
poses_by grid None region small = none_say 1 most
poses_by grid (Some block) None small = none_say 1 most
poses_by grid (Some block) (Some region) small =
    let rect = region.rect in
    let s = small region refl in
    more_say 1 (9999 * rect.h) most (poses_in grid (Some block) (Some region)) (omega (arith, s.h))
    (rows_say (may_lie grid block rect) pose_answer (λ x y. record { x = x; y = y }) rect.x rect.w rect.y rect.h s.w
    (λ x y lt le. pose_says x y (omega (arith, lt, s.x, s.w)) (omega (arith, le, s.y, s.h))))

poses_say : (grid : GridFile) → IsSmallGrid grid → (names : Option (List ℕ × List ℕ)) → AllSay 1 most (poses_of grid names)
poses_say grid small None = none_say 1 most
poses_say grid small (Some names) =
    poses_by grid (block_named grid names.0) (region_named grid names.1) (region_small grid small names.1)

-- ---- grasp, reach and clear

sides_say : (block : Option Block) → AllSay 1 most (sides_of block)
sides_say None = none_say 1 most
sides_say (Some block) =
    more_say 1 4 most (sides_of (Some block)) (omega arith)
    (first_says 1 3 (answer.Side N) (answer.Side E ∷ answer.Side S ∷ answer.Side W ∷ []) (side_says N)
    (first_says 1 2 (answer.Side E) (answer.Side S ∷ answer.Side W ∷ []) (side_says E)
    (first_says 1 1 (answer.Side S) (answer.Side W ∷ []) (side_says S)
    (first_says 1 0 (answer.Side W) [] (side_says W) (none_say 1 0)))))

grasps_say : (grid : GridFile) (name : Option (List ℕ)) → AllSay 1 most (grasps_of grid name)
grasps_say grid None = none_say 1 most
grasps_say grid (Some name) = sides_say (block_named grid name)

-- an answer, where there is one
one_says : (outputs : ℕ) (a : Option GridAnswer) → ((x : GridAnswer) → a ≡ Some x → Says outputs x)
    → AllSay outputs most (option_to_list a)
one_says outputs None says = none_say outputs most
one_says outputs (Some a) says =
    more_say outputs 1 most (a ∷ []) (omega arith) (first_says outputs 0 a [] (says a refl) (none_say outputs 0))

hand_by : (b : Bool) (x y : ℕ) (a : GridAnswer) → (b ≡ true → (x < 2 ^ 64) × (y < 2 ^ 64))
    → cond b (Some (answer.Hand x y)) None ≡ Some a → Says 1 a
hand_by true x y a small e =
    let same : answer.Hand x y ≡ a = cc in
    subst (Says 1) same (hand_says x y (small refl).0 (small refl).1)
hand_by false x y a small e = absurd (cc)

open_small : (grid : GridFile) → IsSmallGrid grid → (cell : Cell) → is_open_cell grid cell ≡ true
    → (cell.x < 2 ^ 64) × (cell.y < 2 ^ 64)
unfolding is_open_cell
open_small grid small cell e =
    let p = and_parts _ (not (list_any (λ obstacle. covers obstacle cell) grid.obstacles)) e in
    let q = and_parts (nat_lt cell.x grid.width) (nat_lt cell.y grid.height) p.0 in
    let x : cell.x < grid.width = grind (arith, nat_tests, q.0) in
    let y : cell.y < grid.height = grind (arith, nat_tests, q.1) in
    (omega (arith, x, small.width), omega (arith, y, small.height))

cell_says : (grid : GridFile) → IsSmallGrid grid → (cell : Option Cell) (a : GridAnswer) → hand_at grid cell ≡ Some a → Says 1 a
cell_says grid small None a e = absurd (cc)
cell_says grid small (Some cell) a e = hand_by (is_open_cell grid cell) cell.x cell.y a (open_small grid small cell) e

within_says : (b : Bool) (o : Option GridAnswer) (a : GridAnswer) → ((x : GridAnswer) → o ≡ Some x → Says 1 x)
    → cond b o None ≡ Some a → Says 1 a
within_says true o a says e = says a e
within_says false o a says e = absurd (cc)

reached_says : (grid : GridFile) → IsSmallGrid grid → (rect : Option Rect) (side : Option Side) (a : GridAnswer)
    → reached grid rect side ≡ Some a → Says 1 a
reached_says grid small None side a e = absurd (cc)
reached_says grid small (Some rect) None a e = absurd (cc)
reached_says grid small (Some rect) (Some side) a e =
    within_says (is_within rect (area grid)) (hand_at grid (cell_beside rect side)) a (cell_says grid small (cell_beside rect side)) e

hand_says_it : (grid : GridFile) → IsSmallGrid grid → (words : Option (List ℕ × List ℕ × List ℕ)) (a : GridAnswer)
    → hand_of grid words ≡ Some a → Says 1 a
hand_says_it grid small None a e = absurd (cc)
hand_says_it grid small (Some words) a e =
    reached_says grid small (posed grid words.0 words.1) (side_of words.2) a e

yes_by : (b : Bool) (a : GridAnswer) → cond b (Some answer.Yes) None ≡ Some a → Says 0 a
yes_by true a e =
    let same : answer.Yes ≡ a = cc in
    subst (Says 0) same yes_says
yes_by false a e = absurd (cc)

apart_says : (grid : GridFile) (first second : Option Rect) (a : GridAnswer) → apart grid first second ≡ Some a → Says 0 a
apart_says grid None second a e = absurd (cc)
apart_says grid (Some first) None a e = absurd (cc)
apart_says grid (Some first) (Some second) a e =
    yes_by (is_within first (area grid) && is_within second (area grid) && not (meets first second)) a e

clear_says : (grid : GridFile) (words : Option (List ℕ × List ℕ × List ℕ × List ℕ)) (a : GridAnswer)
    → clear_of grid words ≡ Some a → Says 0 a
clear_says grid None a e = absurd (cc)
clear_says grid (Some words) a e = apart_says grid (posed grid words.0 words.1) (posed grid words.2 words.3) a e

-- behind all of them stands the end
nth_past : (k : ℕ) (answers : List GridAnswer) → length answers ≤ k → nth k answers ≡ answer.End
nth_past k [] past = refl
nth_past zero (a ∷ answers) past = absurd (omega arith)
nth_past (suc k) (a ∷ answers) past = nth_past k answers (omega arith)

-- ---- streams

-- Each answer to a stream of this name says what it is, and past the most there may be stands the end.
pub record NameSays (grid : GridFile) (outputs : ℕ) (name : List ℕ) (args : List (List ℕ)) : Type 0 where
  pub each : (turn : ℕ) → Says outputs (answer_to grid (ask_to turn args (served_stream name)))
  pub past : (turn : ℕ) → most ≤ turn → answer_to grid (ask_to turn args (served_stream name)) ≡ answer.End

module _ (grid : GridFile) (small : IsSmallGrid grid) (args : List (List ℕ)) where
  pub place_says : NameSays grid 1 (codes "place") args
  unfolding served_stream
  place_says =
      let all = poses_say grid small (two_of args) in
      record {
        each = λ turn. all.each turn;
        past = λ turn le. nth_past turn (poses_of grid (two_of args)) (omega (arith, all.few, le));
      }

  pub grasp_says : NameSays grid 1 (codes "grasp") args
  unfolding served_stream
  grasp_says =
      let all = grasps_say grid (one_of args) in
      record {
        each = λ turn. all.each turn;
        past = λ turn le. nth_past turn (grasps_of grid (one_of args)) (omega (arith, all.few, le));
      }

  pub reach_says : NameSays grid 1 (codes "reach") args
  unfolding served_stream
  reach_says =
      let all = one_says 1 (hand_of grid (three_of args)) (hand_says_it grid small (three_of args)) in
      record {
        each = λ turn. all.each turn;
        past = λ turn le. nth_past turn (option_to_list (hand_of grid (three_of args))) (omega (arith, all.few, le));
      }

  pub clear_says_it : NameSays grid 0 (codes "clear") args
  unfolding served_stream
  clear_says_it =
      let all = one_says 0 (clear_of grid (four_of args)) (clear_says grid (four_of args)) in
      record {
        each = λ turn. all.each turn;
        past = λ turn le. nth_past turn (option_to_list (clear_of grid (four_of args))) (omega (arith, all.few, le));
      }

-- which stream of the grid the name is
pub data Which (name : List ℕ) : Type 0 where
  is_place : codes "place" ≡ name → Which name
  is_grasp : codes "grasp" ≡ name → Which name
  is_reach : codes "reach" ≡ name → Which name
  is_clear : codes "clear" ≡ name → Which name
  is_other : served_stream name ≡ None → Which name

pub which : (name : List ℕ) → Which name
unfolding served_stream
which name =
    by (bytes_eq name (codes "place")) (bytes_eq name (codes "grasp")) (bytes_eq name (codes "reach")) (bytes_eq name (codes "clear"))
    refl refl refl refl
  where
    by : (a b c d : Bool) → bytes_eq name (codes "place") ≡ a → bytes_eq name (codes "grasp") ≡ b → bytes_eq name (codes "reach") ≡ c
        → bytes_eq name (codes "clear") ≡ d → Which name
    by true b c d p q r s = is_place (sym ((bytes_eq-Decides name (codes "place")).0 p))
    by false true c d p q r s = is_grasp (sym ((bytes_eq-Decides name (codes "grasp")).0 q))
    by false false true d p q r s = is_reach (sym ((bytes_eq-Decides name (codes "reach")).0 r))
    by false false false true p q r s = is_clear (sym ((bytes_eq-Decides name (codes "clear")).0 s))
    by false false false false p q r s = is_other (rw (p, q, r, s) refl)

-- how many values an answer to a stream of the name has
abbrev pub width_of : {name : List ℕ} → Which name → ℕ
width_of (is_place e) = 1
width_of (is_grasp e) = 1
width_of (is_reach e) = 1
width_of (is_clear e) = 0
width_of (is_other e) = 0

pub name_says : (grid : GridFile) → IsSmallGrid grid → (name : List ℕ) (args : List (List ℕ)) (w : Which name)
    → NameSays grid (width_of w) name args
name_says grid small name args (is_place e) = subst (λ n. NameSays grid 1 n args) e (place_says grid small args)
name_says grid small name args (is_grasp e) = subst (λ n. NameSays grid 1 n args) e (grasp_says grid small args)
name_says grid small name args (is_reach e) = subst (λ n. NameSays grid 1 n args) e (reach_says grid small args)
name_says grid small name args (is_clear e) = subst (λ n. NameSays grid 0 n args) e (clear_says_it grid small args)
name_says grid small name args (is_other e) = record { each = λ turn. rw e (end_says 0); past = λ turn le. rw e refl }
