-- What is kept of a child agrees with where it stands, call by call.
use Rattle.std.proofs.Common.{◌≡◌, ℕ, ◌+◌, ◌-◌, ◌<◌, ◌≤◌, true, List, [], ◌∷◌, ◌++◌, length, take, refl, sym, ap, ◌∙◌, arith, append_assoc, length-append}
use Rattle.std.specs.List.{after_first}
use Rattle.std.specs.Io.BufRead.{strip_last}
use Rattle.std.proofs.lemmas.List.{take_at}
use Rattle.gen_lines.specs.Lines.{is_feed, lines_of, unfinished}
use Rattle.io_world.specs.Replies.{HasLine, IsLine}
use Rattle.io_world.specs.Talks.{Talk, heard_more, wrote_more}
use Rattle.restart_host.proofs.FeedLemmas.{FirstCut, first_cut, lines_on, lines_one, lines_same, rest_one}
use Rattle.restart_host.specs.Fits.{Fits, IsUp, answered, handed}
use Rattle.restart_host.specs.Kept.{IsFallen}
use Rattle.restart_host.specs.Lines.{due_length}
use Rattle.restart_host.specs.Lives.{Moment}
use Rattle.restart_host.specs.declared.kept.Life.{Life}

-- all but the last bytes
front_of : (all front back : List ℕ) → all ≡ front ++ back → take (length all - length back) all ≡ front
front_of all front back is =
    let long : length all ≡ length front + length back = ap length is ∙ length-append front back in
    let count : length front ≡ length all - length back = omega (arith, long) in
    ap (take (length all - length back)) is ∙ take_at front back (length all - length back) count

-- it runs there, where these bytes were handed out and these requests are answered
pub record Parted (before asked h d : List ℕ) (life : Life) (m : Moment) : Type 0 where
  pub heard : m.talk.heard ≡ h ++ life.held
  pub written : m.talk.written ≡ d ++ asked
  pub closed : unfinished d ≡ []
  pub even : length (lines_of d) ≡ length (lines_of h)
  pub part : length before < 1025 → unfinished h ≡ before
  pub due : 0 < life.due → life.due ≡ due_length life.held
  pub full : length before < 1025 → 0 < life.due → IsLine life.held → length before + length life.held ≡ 1025

pub up_by : (before asked h d : List ℕ) (life : Life) (m : Moment) → Parted before asked h d life m → IsUp before asked life m
up_by before asked h d life m p =
    let out : handed life m ≡ h = front_of m.talk.heard h life.held p.heard in
    let done : answered asked m ≡ d = front_of m.talk.written d asked p.written in
    record {
      heard = p.heard ∙ ap (λ bytes. bytes ++ life.held) (sym out);
      written = p.written ∙ ap (λ bytes. bytes ++ asked) (sym done);
      closed = ap unfinished done ∙ p.closed;
      even = ap (λ bytes. length (lines_of bytes)) done ∙ p.even ∙ ap (λ bytes. length (lines_of bytes)) (sym out);
      part = λ short. ap unfinished out ∙ p.part short;
      due = p.due;
      full = p.full;
    }

pub parted : (before asked : List ℕ) (life : Life) (m : Moment) → IsUp before asked life m
    → Parted before asked (handed life m) (answered asked m) life m
parted before asked life m up = record {
  heard = up.heard;
  written = up.written;
  closed = up.closed;
  even = up.even;
  part = up.part;
  due = up.due;
  full = up.full;
}

-- ---- a child that has fallen, and one that was started again

pub fits_fallen : (before asked : List ℕ) (life : Life) (m : Moment) → IsFallen life → m.fallen ≡ true
    → (IsLine asked → before ≡ []) → (length before < 1025 → before ≡ []) → Fits before asked life m
fits_fallen before asked life m down fallen idle begun = record {
  fallen = λ is. fallen;
  up = λ is. absurd (cc (is, down.alive));
  idle = idle;
  begun = λ short none. begun short;
  most = λ short. omega (arith, down.due, short);
}

pub fits_revived : (before asked : List ℕ) (life : Life) (m : Moment)
    → m.talk ≡ (let talk : Talk = record { written = asked; heard = [] } in talk) → life.alive ≡ true → life.held ≡ []
    → life.due ≡ 0 → (IsLine asked → before ≡ []) → (length before < 1025 → before ≡ []) → Fits before asked life m
fits_revived before asked life m talk alive held due idle begun = record {
  fallen = λ is. absurd (cc (is, alive));
  up = λ is. up_by before asked [] [] life m (record {
    heard = ap (λ (t : Talk). t.heard) talk ∙ sym held;
    written = ap (λ (t : Talk). t.written) talk;
    closed = refl;
    even = refl;
    part = λ short. sym (begun short);
    due = λ some. absurd (omega (arith, some, due));
    full = λ short some. absurd (omega (arith, some, due));
  });
  idle = idle;
  begun = λ short none. begun short;
  most = λ short. omega (arith, due, short);
}

-- ---- bytes written more, and bytes read more

pub fits_sent : (asked bytes : List ℕ) (life : Life) (m at : Moment) → life.alive ≡ true → Fits [] asked life m
    → at.talk ≡ wrote_more bytes m.talk → Fits [] (asked ++ bytes) life at
fits_sent asked bytes life m at alive fits talk =
    let p = parted [] asked life m (fits.up alive) in
    record {
      fallen = λ is. absurd (cc (is, alive));
      up = λ is. up_by [] (asked ++ bytes) (handed life m) (answered asked m) life at (record {
        heard = ap (λ (t : Talk). t.heard) talk ∙ p.heard;
        written = ap (λ (t : Talk). t.written) talk ∙ ap (λ bs. bs ++ bytes) p.written
            ∙ append_assoc (answered asked m) asked bytes;
        closed = p.closed;
        even = p.even;
        part = p.part;
        due = p.due;
        full = p.full;
      });
      idle = λ is. refl;
      begun = λ short none. refl;
      most = fits.most;
    }

pub fits_heard : (before asked bytes : List ℕ) (old new : Life) (m at : Moment) → old.alive ≡ true → old.due ≡ 0
    → Fits before asked old m → new.alive ≡ true → new.held ≡ old.held ++ bytes → new.due ≡ due_length new.held
    → new.due ≤ length new.held → 0 < new.due → length new.held ≤ 1025 → (IsLine new.held → length new.held ≡ 1025)
    → at.talk ≡ heard_more bytes m.talk → Fits before asked new at
fits_heard before asked bytes old new m at alive due fits up held is within some few full talk =
    let p = parted before asked old m (fits.up alive) in
    let none : length before < 1025 → length before ≡ 0 = λ short. ap length (fits.begun short due) in
    record {
      fallen = λ down. absurd (cc (down, up));
      up = λ so. up_by before asked (handed old m) (answered asked m) new at (record {
        heard = ap (λ (t : Talk). t.heard) talk ∙ ap (λ bs. bs ++ bytes) p.heard
            ∙ append_assoc (handed old m) old.held bytes ∙ ap (λ bs. handed old m ++ bs) (sym held);
        written = ap (λ (t : Talk). t.written) talk ∙ p.written;
        closed = p.closed;
        even = p.even;
        part = p.part;
        due = λ more. is;
        full = λ short more line. omega (arith, none short, full line);
      });
      idle = fits.idle;
      begun = λ short more. absurd (omega (arith, more, some));
      most = λ short. omega (arith, none short, within, few);
    }

-- the lines of bytes with a line feed
pub first_lines : (bytes : List ℕ) (cut : FirstCut bytes)
    → lines_of bytes ≡ strip_last 13 cut.line ∷ lines_of (after_first is_feed bytes)
first_lines bytes cut =
    ap lines_of (cut.all ∙ sym (append_assoc cut.line (10 ∷ []) (after_first is_feed bytes)))
    ∙ lines_on (cut.line ++ 10 ∷ []) (after_first is_feed bytes)
    ∙ ap (λ ls. ls ++ lines_of (unfinished (cut.line ++ 10 ∷ []) ++ after_first is_feed bytes)) (lines_one [] cut.line cut.quiet)
    ∙ ap (λ bs. strip_last 13 cut.line ∷ lines_of (bs ++ after_first is_feed bytes)) (rest_one [] cut.line cut.quiet)

some_lines : (bytes : List ℕ) (cut : FirstCut bytes) → 0 < length (lines_of bytes)
some_lines bytes cut = omega (arith, ap length (first_lines bytes cut))

-- while no line feed is held, fewer lines were read than written
pub may_read : (before asked more : List ℕ) (life : Life) (m : Moment) → HasLine asked → IsUp before asked life m
    → IsLine (life.held ++ more) → length (lines_of (m.talk.heard ++ more)) < length (lines_of m.talk.written)
may_read before asked more life m has up line =
    let cut = first_cut asked has in
    let heard : lines_of (m.talk.heard ++ more) ≡ lines_of (handed life m) =
    ap (λ bs. lines_of (bs ++ more)) up.heard
    ∙ ap lines_of (append_assoc (handed life m) life.held more)
    ∙ lines_same (handed life m) (life.held ++ more) line in
    let asked_lines : lines_of m.talk.written ≡ lines_of (answered asked m) ++ lines_of asked =
    ap lines_of up.written ∙ lines_on (answered asked m) asked
    ∙ ap (λ bs. lines_of (answered asked m) ++ lines_of (bs ++ asked)) up.closed in
    let some : 0 < length (lines_of asked) = some_lines asked cut in
    omega (arith, ap length heard, ap length asked_lines, length-append (lines_of (answered asked m)) (lines_of asked), up.even, some)
