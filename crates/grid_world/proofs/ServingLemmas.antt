-- Lines of a source are answered one by one.
use Rattle.std.proofs.Common.{◌≡◌, ℕ, ◌+◌, ◌-◌, ◌<◌, ◌≤◌, List, [], ◌∷◌, ◌++◌, length, drop, take, refl, sym, ap, ◌∙◌, subst, arith, Option, Some, None, All, position, append-nil, length-append, length-drop, get_or, map}
use Rattle.std.specs.Io.BufRead.{strip_last}
use Rattle.std.specs.Io.KnownBytes.{Appends, Consumes, IsAtEnd}
use Rattle.std.specs.List.{after_first}
use Rattle.std.proofs.KnownBytes.{Appends-nil, Appends-trans, Consumes-nil, Consumes-trans}
use Rattle.std.proofs.lemmas.Grind.{flat_map-append}
use Rattle.std.proofs.lemmas.List.Elements.{All-nil, All-push}
use Rattle.gen_lines.specs.Cutting.{Cut, fresh, pushed, took}
use Rattle.gen_lines.specs.Lines.{is_feed, lines_of, unfinished}
use Rattle.gen_lines.proofs.LinesLemmas.{after_some, line_short, lines_none, lines_some}
use Rattle.gen_lines.proofs.CuttingLemmas.{whole}
use Rattle.grid_text.specs.Grids.{GridFile}
use Rattle.grid_world.specs.AnswerLines.{line_of_answer, replies_to, answer_to_line}
use Rattle.grid_world.specs.Answers.{answer_in}
use Rattle.grid_world.specs.Filling.{Came}
use Rattle.grid_world.specs.Serving.{AnswersLines, EndsSo, Wrote}
use Rattle.grid_world.specs.declared.status.GridStatus.{GridStatus}
use Rattle.grid_world.specs.declared.status.GridStatus.TheVariants.{Done, Limit, Input, ReadFault, WriteFault, Memory}

-- so many lines were answered, and these bytes are held
pub record Stands (grid : GridFile) (before after old new : Option (List ℕ)) (held : List ℕ) (n : ℕ) : Type 0 where
  pub all : List ℕ
  pub answered : List (List ℕ)
  pub cut : Cut all answered held
  pub from : Consumes before after all
  pub short : All (λ line. length line < 4097) answered
  pub wrote : Appends old new (replies_to grid answered)
  pub count : length answered ≡ n
  pub near : length held ≤ 4097

pub stands_first : (grid : GridFile) (left taken : Option (List ℕ))
    → Stands grid left left taken taken [] 0
stands_first grid left taken = record
    { all = []; answered = []; cut = fresh; from = Consumes-nil left; short = All-nil _; wrote = Appends-nil taken; count = refl; near = omega arith }

pub stands_filled : (grid : GridFile) (before mid after old new : Option (List ℕ)) (held more : List ℕ) (n : ℕ)
    → Stands grid before mid old new held n → Came mid after held more → length more ≤ 4097
    → Stands grid before after old new more n
stands_filled grid before mid after old new held more n s c few = record {
  all = s.all ++ c.more;
  answered = s.answered;
  cut = subst (Cut (s.all ++ c.more) s.answered) (sym c.held) (pushed s.cut c.more);
  from = Consumes-trans before mid after s.all c.more s.from c.from;
  short = s.short;
  wrote = s.wrote;
  count = s.count;
  near = few;
}

-- the line before a line feed
abbrev pub line_at : ℕ → List ℕ → List ℕ
line_at end held = strip_last 13 (take end held)

-- a line is shorter than what is held
line_shorter : (held : List ℕ) (end : ℕ) → position is_feed held ≡ Some end → length held ≤ 4097 → length (line_at end held) < 4097
line_shorter held end feed few =
    let at : end ≡ 0 + end - 0 = omega arith in
    omega (arith, line_short held (line_at end held) 0 end feed (ap (λ k. line_at k held) at), few)

cut_more : (all held : List ℕ) (answered : List (List ℕ)) (end : ℕ) → Cut all answered held
    → position is_feed held ≡ Some end
    → Cut all (answered ++ line_at end held ∷ []) (drop (end + 1) held)
cut_more all held answered end cut feed =
    let first : lines_of held ≡ line_at end held ∷ lines_of (after_first is_feed held) =
    rw (after_some held end feed) (lines_some held end feed) in
    subst (Cut all (answered ++ line_at end held ∷ [])) (after_some held end feed) (took cut first)

replies_more : (grid : GridFile) (answered : List (List ℕ)) (line : List ℕ)
    → replies_to grid (answered ++ line ∷ []) ≡ replies_to grid answered ++ answer_to_line grid line
replies_more grid answered line =
    flat_map-append (answer_to_line grid) answered (line ∷ [])
    ∙ ap (λ t. replies_to grid answered ++ t) (append-nil (answer_to_line grid line))

pub stands_answered : (grid : GridFile) (before after old mid new : Option (List ℕ)) (held : List ℕ) (n end : ℕ)
    → Stands grid before after old mid held n → position is_feed held ≡ Some end → length held ≤ 4097
    → Appends mid new (answer_to_line grid (line_at end held))
    → Stands grid before after old new (drop (end + 1) held) (n + 1)
stands_answered grid before after old mid new held n end s feed few w = record {
  all = s.all;
  answered = s.answered ++ line_at end held ∷ [];
  cut = cut_more s.all held s.answered end s.cut feed;
  from = s.from;
  short = All-push (λ line. length line < 4097) s.answered (line_at end held) s.short (line_shorter held end feed few);
  wrote = subst (Appends old new) (sym (replies_more grid s.answered (line_at end held)))
      (Appends-trans old mid new (replies_to grid s.answered) (answer_to_line grid (line_at end held)) s.wrote w);
  count = omega (arith, s.count, length-append s.answered (line_at end held ∷ []));
  near = omega (arith, length-drop (end + 1) held, few);
}

lines_whole : (all held : List ℕ) (answered : List (List ℕ)) → Cut all answered held
    → lines_of all ≡ answered ++ lines_of held
lines_whole all held answered cut =
    let later = (whole all answered held cut).lines [] in
    rw (append-nil all, append-nil held) at later

-- nothing was read
pub ends_memory : (grid : GridFile) (left taken : Option (List ℕ)) → AnswersLines grid left left taken taken Memory
ends_memory grid left taken = record {
  read = [];
  from = Consumes-nil left;
  answered = [];
  behind = lines_of [];
  lines = lines_whole [] [] [] fresh;
  few = omega arith;
  short = All-nil _;
  ahead = [];
  cut = fresh;
  near = omega arith;
  wrote = Appends-nil taken;
  ends = refl;
}

-- no line is left
pub ends_with : (grid : GridFile) (before after old new : Option (List ℕ)) (held : List ℕ) (n : ℕ) (status : GridStatus)
    → Stands grid before after old new held n → n ≤ 100000 →
    ((answered : List (List ℕ)) → Appends old new (replies_to grid answered) → Wrote status grid answered old new) →
    ((answered : List (List ℕ)) (rest : List ℕ) → length answered ≡ n → (lines_of held ≡ [] → rest ≡ held)
    → EndsSo status answered (lines_of held) rest after)
    →
    AnswersLines grid before after old new status
ends_with grid before after old new held n status s few wrote so = record {
  read = s.all;
  from = s.from;
  answered = s.answered;
  behind = lines_of held;
  lines = lines_whole s.all held s.answered s.cut;
  few = omega (arith, s.count, few);
  short = s.short;
  ahead = held;
  cut = s.cut;
  near = s.near;
  wrote = wrote s.answered s.wrote;
  ends = so s.answered (unfinished s.all) s.count (whole s.all s.answered held s.cut).remains;
}

pub ends_done : (grid : GridFile) (before after old new : Option (List ℕ)) (held : List ℕ) (n : ℕ)
    → Stands grid before after old new held n → n ≤ 100000 → position is_feed held ≡ None
    → IsAtEnd after → length held < 4097 → AnswersLines grid before after old new Done
ends_done grid before after old new held n s few none ended short =
    ends_with grid before after old new held n Done s few
    (λ a w. w) (λ a r c h. (lines_none held none, ended, omega (arith, ap length (h (lines_none held none)), short)))

pub ends_input : (grid : GridFile) (before after old new : Option (List ℕ)) (held : List ℕ) (n : ℕ)
    → Stands grid before after old new held n → n ≤ 100000 → position is_feed held ≡ None
    → length held ≡ 4097 → AnswersLines grid before after old new Input
ends_input grid before after old new held n s few none long =
    ends_with grid before after old new held n Input s few
    (λ a w. w) (λ a r c h. (lines_none held none, omega (arith, ap length (h (lines_none held none)), long)))

pub ends_limit : (grid : GridFile) (before after old new : Option (List ℕ)) (held : List ℕ) (n : ℕ)
    → Stands grid before after old new held n → n ≡ 100000
    → AnswersLines grid before after old new Limit
ends_limit grid before after old new held n s full =
    ends_with grid before after old new held n Limit s (omega (arith, full)) (λ a w. w) (λ a r c h. c ∙ full)

pub ends_read : (grid : GridFile) (before after old new : Option (List ℕ)) (held : List ℕ) (n : ℕ)
    → Stands grid before after old new held n → n ≤ 100000 → position is_feed held ≡ None
    → length held < 4097 → AnswersLines grid before after old new ReadFault
ends_read grid before after old new held n s few none short =
    ends_with grid before after old new held n ReadFault s few
    (λ a w. w) (λ a r c h. (lines_none held none, omega (arith, ap length (h (lines_none held none)), short)))

pub ends_write : (grid : GridFile) (before after old mid new : Option (List ℕ)) (held : List ℕ) (n end k : ℕ)
    → Stands grid before after old mid held n → n < 100000 → position is_feed held ≡ Some end → length held ≤ 4097 →
    k < length (answer_to_line grid (line_at end held)) → Appends mid new (take k (answer_to_line grid (line_at end held)))
    → AnswersLines grid before after old new WriteFault
ends_write grid before after old mid new held n end k s few feed held_few short w =
    let line = line_at end held in
    let rest = drop (end + 1) held in
    let cut = cut_more s.all held s.answered end s.cut feed in
    record {
      read = s.all;
      from = s.from;
      answered = s.answered ++ line ∷ [];
      behind = lines_of rest;
      lines = lines_whole s.all rest (s.answered ++ line ∷ []) cut;
      few = omega (arith, s.count, length-append s.answered (line ∷ []), few);
      short = All-push (λ line. length line < 4097) s.answered line s.short (line_shorter held end feed held_few);
      ahead = rest;
      cut = cut;
      near = omega (arith, length-drop (end + 1) held, held_few);
      wrote = record {
        before = s.answered;
        line = line;
        is = refl;
        count = k;
        less = short;
        took = Appends-trans old mid new (replies_to grid s.answered) (take k (answer_to_line grid line)) s.wrote w;
      };
      ends = omega (arith, length-append s.answered (line ∷ []));
    }

pub reply_is : (grid : GridFile) (line : List ℕ)
    → line_of_answer (answer_in grid line) ++ 10 ∷ [] ≡ answer_to_line grid line
unfolding answer_to_line
reply_is grid line = refl

pub two_words : {A : Type 0} (f : A → List ℕ) (words : List A) (first second : A) (p q : List ℕ)
    → 2 ≤ length words → length words < 3 → first ≡ get_or words 0 first
    → second ≡ get_or words 1 second → p ≡ f first → q ≡ f second
    → map f words ≡ p ∷ q ∷ []
two_words f [] first second p q some few a b c d = absurd (omega arith)
two_words f (w ∷ []) first second p q some few a b c d = absurd (omega arith)
two_words f (w ∷ v ∷ []) first second p q some few a b c d =
    rw (c ∙ ap f a, d ∙ ap f b) refl
two_words f (w ∷ v ∷ u ∷ ws) first second p q some few a b c d = absurd (omega arith)

pub one_word : {A : Type 0} (f : A → List ℕ) (words : List A) (word : A) (path : List ℕ)
    → 1 ≤ length words → length words < 2 → word ≡ get_or words 0 word → path ≡ f word
    → map f words ≡ path ∷ []
one_word f [] word path some few is e = absurd (omega arith)
one_word f (w ∷ []) word path some few is e = ap (λ t. t ∷ []) (sym (e ∙ ap f is))
one_word f (w ∷ v ∷ ws) word path some few is e = absurd (omega arith)
