-- How a grid file falls into lines.
use Rattle.std.proofs.Common.{◌≡◌, ℕ, ◌+◌, ◌-◌, ◌<◌, true, false, List, [], ◌∷◌, ◌++◌, length, drop, take, refl, sym, ap, ◌∙◌, arith, Option, Some, None, MatchOption, position, get_or, length-drop, drop-cons, add-one, suc}
use Rattle.std.proofs.Math.Seq.{take-suc}
use Rattle.std.specs.List.{slice_split}
use Rattle.std.specs.Io.BufRead.{strip_last}
use Rattle.std.proofs.lemmas.List.Splits.{slice_split_first, length-slice_split}
use Rattle.gen_lines.specs.Lines.{is_feed, open_part, unfinished}
use Rattle.gen_lines.proofs.LinesLemmas.{lines_none, lines_some}
use Rattle.lemmas.proofs.Positions.{found_at, not_found, split_whole}
use Rattle.grid_text.specs.Lines.{lines_in, is_bare, is_passed_over}
use Rattle.grid_text.proofs.LinesFieldLemmas.{behind}
use Rattle.gen_lines.proofs.CuttingLemmas.{open_cons}

rest_some : (bytes : List ℕ) (n : ℕ) → position is_feed bytes ≡ Some n
    → unfinished bytes ≡ unfinished (drop (n + 1) bytes)
rest_some bytes n e =
    let at = found_at is_feed bytes n e in
    let cut : slice_split is_feed bytes ≡ take n bytes ∷ slice_split is_feed (drop (n + 1) bytes) =
    rw (← at.place) (slice_split_first is_feed bytes 0 at.within) in
    ap open_part cut
    ∙ open_cons (take n bytes) (slice_split is_feed (drop (n + 1) bytes))
    (omega (arith, length-slice_split is_feed (drop (n + 1) bytes)))

-- the first line, where a line feed stands
pub line_some : (bytes line : List ℕ) (n : ℕ) → position is_feed bytes ≡ Some n
    → line ≡ strip_last 13 (take n bytes) →
    lines_in bytes ≡ line ∷ lines_in (take (length bytes - (n + 1)) (drop (n + 1) bytes))
line_some bytes line n e same =
    rw (lines_some bytes n e, rest_some bytes n e, behind bytes (n + 1), same) refl

-- the only line, where none stands
pub line_none : (bytes : List ℕ) → position is_feed bytes ≡ None → lines_in bytes ≡ bytes ∷ []
line_none bytes e =
    rw (lines_none bytes e, split_whole is_feed bytes (not_found is_feed bytes e)) refl

-- all lines are passed over where the first is and the others are
pub bare_more : (bytes line rest : List ℕ) → lines_in bytes ≡ line ∷ lines_in rest
    → is_passed_over line ≡ true → is_bare bytes ≡ is_bare rest
unfolding is_bare
bare_more bytes line rest e p = rw (e, p) refl

pub bare_last : (bytes line : List ℕ) → lines_in bytes ≡ line ∷ [] → is_passed_over line ≡ true
    → is_bare bytes ≡ true
unfolding is_bare
bare_last bytes line e p = rw (e, p) refl

bare_no : (bytes line : List ℕ) (more : List (List ℕ)) → lines_in bytes ≡ line ∷ more
    → is_passed_over line ≡ false → is_bare bytes ≡ false
unfolding is_bare
bare_no bytes line more e p = rw (e, p) refl

-- a first line that isn't passed over, whatever comes behind it
pub bare_some : {B : Type 0} (o : Option B) (now : B → List ℕ) (bytes line : List ℕ)
    → MatchOption o (lines_in bytes ≡ line ∷ []) (λ r. lines_in bytes ≡ line ∷ lines_in (now r))
    → is_passed_over line ≡ false → is_bare bytes ≡ false
bare_some None now bytes line e p = bare_no bytes line [] e p
bare_some (Some r) now bytes line e p = bare_no bytes line (lines_in (now r)) e p

-- the lines, whether one comes behind the first or not
pub some_lines : {B : Type 0} (o : Option B) (now : B → List ℕ) (bytes line : List ℕ)
    → MatchOption o (lines_in bytes ≡ line ∷ []) (λ r. lines_in bytes ≡ line ∷ lines_in (now r))
    → (more : List (List ℕ)) × (lines_in bytes ≡ line ∷ more)
some_lines None now bytes line e = ([], e)
some_lines (Some r) now bytes line e = (lines_in (now r), e)

-- One line more is taken.
pub record TakesLine (lines : List (List ℕ)) (k : ℕ) (line : List ℕ) (more : List (List ℕ)) : Type 0 where
  pub within : k < length lines
  pub here : get_or lines k [] ≡ line
  pub front : take (k + 1) lines ≡ take k lines ++ line ∷ []
  pub back : drop (k + 1) lines ≡ more

some_left : (lines : List (List ℕ)) (k : ℕ) (line : List ℕ) (more : List (List ℕ))
    → drop k lines ≡ line ∷ more → k < length lines
some_left lines k line more e = omega (arith, length-drop k lines, ap length e)

pub takes_line : (lines : List (List ℕ)) (k : ℕ) (line : List ℕ) (more : List (List ℕ))
    → drop k lines ≡ line ∷ more → TakesLine lines k line more
takes_line lines k line more e =
    let lt = some_left lines k line more e in
    let cut : get_or lines k [] ∷ drop (suc k) lines ≡ line ∷ more = sym (drop-cons lines k [] lt) ∙ e in
    let here : get_or lines k [] ≡ line = cc in
    let back : drop (suc k) lines ≡ more = cc in
    record {
      within = lt;
      here = here;
      front = rw add-one (take-suc lines k [] lt ∙ ap (λ x. take k lines ++ x ∷ []) here);
      back = rw add-one back;
    }
