-- What is kept of a child agrees with where it stands once bytes of a line were handed out.
use Rattle.std.proofs.Common.{◌≡◌, ℕ, zero, suc, ◌+◌, ◌-◌, ◌<◌, ◌≤◌, Bool, true, List, [], ◌∷◌, ◌++◌, length, take, drop, map, slice_get, Some, if◌then◌else◌, refl, sym, ap, subst, ◌∙◌, arith, append_assoc, length-append, inl, inr, IfSome, option_map}
use Rattle.std.specs.List.{after_first, slice_split}
use Rattle.std.specs.Io.BufRead.{ends_with_byte, strip_last}
use Rattle.std.proofs.lemmas.Bool.{cases_lt}
use Rattle.std.proofs.lemmas.List.{length-map, length-take-le, take-append-drop, take-append-le, take_at}
use Rattle.gen_lines.specs.Lines.{ended, is_feed, lines_of, unfinished}
use Rattle.io_world.specs.Replies.{HasLine, IsLine}
use Rattle.lemmas.proofs.Members.{get_append, get_at_length}
use Rattle.restart_host.proofs.FeedLemmas.{FirstCut, due_cases, due_less, due_whole, ends_not, ends_so, first_cut, line_front, line_joined, line_none, line_rest, lines_on, lines_one, lines_same, raw_on, raw_one, rest_more, rest_one}
use Rattle.restart_host.proofs.FitsLemmas.{Parted, parted, up_by}
use Rattle.restart_host.specs.Fits.{Fits, IsUp, answered, handed}
use Rattle.restart_host.specs.Lines.{due_length}
use Rattle.restart_host.specs.Lives.{IsAskedAt, IsSaidAt, Moment, lines_from, lines_to}
use Rattle.restart_host.specs.Steps.{HandsOut}
use Rattle.restart_host.specs.Uses.{AreOfLine, Completes, IsRequest}
use Rattle.restart_host.specs.declared.kept.Kept.{Kept}

slice_get_map : {A B : Type 0} (f : A → B) (xs : List A) (k : ℕ) (x : A) → slice_get xs k ≡ Some x
    → slice_get (map f xs) k ≡ Some (f x)
slice_get_map f [] k x is = absurd (cc (is))
slice_get_map f (y ∷ xs) zero x is = ap (option_map f) is
slice_get_map f (y ∷ xs) (suc k) x is = slice_get_map f xs k x is

-- what comes of it
pub record IsOut (before asked : List ℕ) (old new : Kept) (given : List ℕ) (m : Moment) : Type 0 where
  pub fits : Fits (unfinished (before ++ given)) new.asked.items new.life m
  pub asked_is : new.asked.items ≡ (if ends_with_byte 10 given then after_first is_feed asked else asked)
  pub one : AreOfLine given
  pub completes : length before < 1025 → IsRequest asked → Completes asked before given m

module _ (before asked : List ℕ) (old new : Kept) (given : List ℕ) (count : ℕ) (m : Moment) (plain : IsLine before)
    (has : HasLine asked) (own : old.asked.items ≡ asked) (fits : Fits before asked old.life m) (alive : old.life.alive ≡ true)
    (hands : HandsOut count old new given) where
  now_alive : new.life.alive ≡ true
  now_alive = hands.alive ∙ alive

  abbrev h : List ℕ
  h = handed old.life m

  abbrev d : List ℕ
  d = answered asked m

  p : Parted before asked h d old.life m
  p = parted before asked old.life m (fits.up alive)

  some : 0 < old.life.due
  some = omega (arith, hands.some, hands.within)

  cut : given ++ new.life.held ≡ old.life.held
  cut = ap (λ bs. bs ++ new.life.held) hands.given_are ∙ ap (λ bs. take count old.life.held ++ bs) hands.held
      ∙ take-append-drop count old.life.held

  heard : m.talk.heard ≡ (h ++ given) ++ new.life.held
  heard = p.heard ∙ ap (λ bs. h ++ bs) (sym cut) ∙ sym (append_assoc h given new.life.held)

  count_is : length given ≡ count
  count_is =
      let within : count ≤ length old.life.held = omega (arith, hands.within, old.life.due_in) in
      ap length hands.given_are ∙ length-take-le count old.life.held within

  -- the request's line stands at its place
  asked_at : IsRequest asked → IsAskedAt asked (length (lines_of h)) m
  asked_at request =
      let lines : lines_to m ≡ lines_of d ++ request.0 ∷ [] =
      ap lines_of p.written ∙ lines_on d asked ∙ ap (λ bs. lines_of d ++ lines_of (bs ++ asked)) p.closed
      ∙ ap (λ ls. lines_of d ++ ls) request.2 in
      record {
        request = request.0;
        spelt = request.1;
        at = ap (λ ls. slice_get ls (length (lines_of h))) lines
            ∙ ap (slice_get (lines_of d ++ request.0 ∷ [])) (sym p.even) ∙ get_at_length (lines_of d) request.0;
      }

  module _ (quiet : IsLine given) (all : count ≡ old.life.due → IsLine old.life.held) where
    joined : unfinished (before ++ given) ≡ before ++ given
    joined = line_rest (before ++ given) (line_joined before given plain quiet)

    long : length (unfinished (before ++ given)) ≡ length before + count
    long = ap length joined ∙ length-append before given ∙ ap (λ n. length before + n) count_is

    same_asked : new.asked.items ≡ asked
    same_asked = hands.asked ∙ rw (ends_not given quiet) own

    whole : length before < 1025 → count ≡ old.life.due → length before + count ≡ 1025
    whole short is =
        let line : IsLine old.life.held = all is in
        let full = p.full short some line in
        let most : old.life.due ≤ length old.life.held = old.life.due_in in
        let due : old.life.due ≡ length old.life.held = p.due some ∙ due_whole old.life.held line in
        omega (arith, full, due, is)

    out_part : IsOut before asked old new given m
    out_part = record {
      fits = record {
        fallen = λ down. absurd (cc (down, now_alive));
        up = λ is. subst (λ bs. IsUp (unfinished (before ++ given)) bs new.life m) (sym same_asked)
            (up_by (unfinished (before ++ given)) asked (h ++ given) d new.life m (record {
              heard = heard;
              written = p.written;
              closed = p.closed;
              even = p.even ∙ ap length (sym (lines_same h given quiet));
              part = λ short.
                  rest_more h given quiet ∙ ap (λ bs. bs ++ given) (p.part (omega (arith, short, long))) ∙ sym joined;
              due = λ more.
                  let before_due : old.life.due ≡ due_length old.life.held = p.due some in
                  let less : count < due_length old.life.held = omega (arith, before_due, hands.due, more) in
                  let rest : due_length new.life.held ≡ due_length old.life.held - count =
                  ap due_length hands.held ∙ due_less old.life.held count less in
                  omega (arith, rest, before_due, hands.due);
              full = λ short more line.
                  let were : IsLine old.life.held = subst IsLine cut (line_joined given new.life.held quiet line) in
                  let full = p.full (omega (arith, short, long)) some were in
                  let parts : length old.life.held ≡ length given + length new.life.held =
                  ap length (sym cut) ∙ length-append given new.life.held in
                  omega (arith, full, long, parts, count_is);
            }));
        idle = λ line. absurd (cc (subst IsLine same_asked line, has));
        begun = λ short none.
            let is : count ≡ old.life.due = omega (arith, hands.due, none) in
            let full = whole (omega (arith, short, long)) is in
            absurd (omega (arith, full, long, short));
        most = λ short. omega (arith, long, hands.due, fits.most (omega (arith, short, long)));
      };
      asked_is = same_asked ∙ rw (ends_not given quiet) refl;
      one = inl quiet;
      completes = λ short request. record {
        line = λ line is.
            let none : lines_of (before ++ given) ≡ [] = line_none (before ++ given) (line_joined before given plain quiet) in
            absurd (cc (is, none));
        long = λ none much.
            let parts : length (before ++ given) ≡ length before + count = ap length (sym joined) ∙ long in
            let is : count ≡ old.life.due = omega (arith, parts, much, fits.most short, hands.within) in
            let line : IsLine old.life.held = all is in
            let lines : lines_from m ≡ lines_of h = ap lines_of p.heard ∙ lines_same h old.life.held line in
            let rest : unfinished m.talk.heard ≡ before ++ old.life.held =
            ap unfinished p.heard ∙ rest_more h old.life.held line ∙ ap (λ bs. bs ++ old.life.held) (p.part short) in
            record {
              asked = subst (λ place. IsAskedAt asked place m) (ap length (sym lines)) (asked_at request);
              long = ap length rest ∙ length-append before old.life.held ∙ p.full short some line;
            };
      };
    }

  module _ (line : List ℕ) (quiet : IsLine line) (is : given ≡ line ++ 10 ∷ []) (all : count ≡ old.life.due) where
    one : FirstCut asked
    one = first_cut asked has

    rest_asked : new.asked.items ≡ after_first is_feed asked
    rest_asked =
        hands.asked
        ∙ ap (λ (b : Bool). if b then after_first is_feed old.asked.items else old.asked.items)
        (ap (ends_with_byte 10) is ∙ ends_so line)
        ∙ ap (after_first is_feed) own

    none_left : unfinished (before ++ given) ≡ []
    none_left = ap (λ bs. unfinished (before ++ bs)) is ∙ rest_one before line quiet

    no_due : new.life.due ≡ 0
    no_due = omega (arith, hands.due, all)

    written : m.talk.written ≡ (d ++ (one.line ++ 10 ∷ [])) ++ after_first is_feed asked
    written =
        p.written ∙ ap (λ bs. d ++ bs) (one.all ∙ sym (append_assoc one.line (10 ∷ []) (after_first is_feed asked)))
        ∙ sym (append_assoc d (one.line ++ 10 ∷ []) (after_first is_feed asked))

    heard_line : m.talk.heard ≡ (h ++ (line ++ 10 ∷ [])) ++ new.life.held
    heard_line = heard ∙ ap (λ bs. (h ++ bs) ++ new.life.held) is

    out_up : IsUp [] (after_first is_feed asked) new.life m
    out_up = up_by [] (after_first is_feed asked) (h ++ (line ++ 10 ∷ [])) (d ++ (one.line ++ 10 ∷ [])) new.life m (record {
      heard = heard_line;
      written = written;
      closed = rest_one d one.line one.quiet;
      even =
          let first = ap length (lines_one d one.line one.quiet)
          ∙ length-append (lines_of d) (strip_last 13 (unfinished d ++ one.line) ∷ []) in
          let second = ap length (lines_one h line quiet) ∙ length-append (lines_of h) (strip_last 13 (unfinished h ++ line) ∷ []) in
          omega (arith, first, second, p.even);
      part = λ short. rest_one h line quiet;
      due = λ more. absurd (omega (arith, more, no_due));
      full = λ short more. absurd (omega (arith, more, no_due));
    })

    due_line : length before + length line + 1 ≡ length before + old.life.due
    due_line = omega (arith, all, count_is, ap length is, length-append line (10 ∷ []))

    said : length before < 1025 → IsSaidAt (strip_last 13 (before ++ line)) (length (lines_of h)) m
    said short =
        let part : unfinished h ≡ before = p.part short in
        let raws : ended (slice_split is_feed m.talk.heard)
        ≡ (ended (slice_split is_feed h) ++ (before ++ line) ∷ [])
        ++ ended (slice_split is_feed (unfinished (h ++ (line ++ 10 ∷ [])) ++ new.life.held)) =
        ap (λ bs. ended (slice_split is_feed bs)) heard_line ∙ raw_on (h ++ (line ++ 10 ∷ [])) new.life.held
        ∙ ap (λ ls. ls ++ ended (slice_split is_feed (unfinished (h ++ (line ++ 10 ∷ [])) ++ new.life.held)))
        (raw_one h line quiet ∙ ap (λ bs. ended (slice_split is_feed h) ++ (bs ++ line) ∷ []) part) in
        let place : length (ended (slice_split is_feed h)) ≡ length (lines_of h) =
        sym (length-map (ended (slice_split is_feed h)) (strip_last 13)) in
        let raw : slice_get (ended (slice_split is_feed m.talk.heard)) (length (lines_of h)) ≡ Some (before ++ line) =
        ap (λ ls. slice_get ls (length (lines_of h))) raws
        ∙ get_append (ended (slice_split is_feed h) ++ (before ++ line) ∷ [])
        (ended (slice_split is_feed (unfinished (h ++ (line ++ 10 ∷ [])) ++ new.life.held))) (length (lines_of h)) (before ++ line)
        (ap (slice_get (ended (slice_split is_feed h) ++ (before ++ line) ∷ [])) (sym place)
        ∙ get_at_length (ended (slice_split is_feed h)) (before ++ line)) in
        record {
          at = slice_get_map (strip_last 13) (ended (slice_split is_feed m.talk.heard)) (length (lines_of h)) (before ++ line) raw;
          short = subst (λ o. IfSome o (λ bs. length bs ≤ 1024)) (sym raw)
              (omega (arith, length-append before line, due_line, fits.most short));
        }

    out_line : IsOut before asked old new given m
    out_line = record {
      fits = subst (λ bs. Fits bs new.asked.items new.life m) (sym none_left)
          (subst (λ bs. Fits [] bs new.life m) (sym rest_asked) (record {
            fallen = λ down. absurd (cc (down, now_alive));
            up = λ up. out_up;
            idle = λ line. refl;
            begun = λ short none. refl;
            most = λ short. omega (arith, no_due);
          }));
      asked_is = rest_asked ∙ ap (λ (b : Bool). if b then after_first is_feed asked else asked)
          (sym (ap (ends_with_byte 10) is ∙ ends_so line));
      one = inr (line, quiet, is);
      completes = λ short request.
          let lines : lines_of (before ++ given) ≡ strip_last 13 (before ++ line) ∷ [] =
          ap (λ bs. lines_of (before ++ bs)) is ∙ lines_one before line quiet
          ∙ ap (λ ls. ls ++ strip_last 13 (unfinished before ++ line) ∷ []) (line_none before plain)
          ∙ ap (λ bs. strip_last 13 (bs ++ line) ∷ []) (line_rest before plain) in
          record {
            line = λ found first.
                let same : found ≡ strip_last 13 (before ++ line) = cc (first, lines) in
                record {
                  place = length (lines_of h);
                  asked = asked_at request;
                  said = subst (λ l. IsSaidAt l (length (lines_of h)) m) (sym same) (said short);
                };
            long = λ none much. absurd (cc (none, lines));
          };
    }

  -- bytes of a line were handed out
  pub handed_out : IsOut before asked old new given m
  handed_out =
      elim (due_cases old.life.held) [
        | inl whole ↦
            let front : IsLine (take count old.life.held) =
            line_front (take count old.life.held) (drop count old.life.held)
            (subst IsLine (sym (take-append-drop count old.life.held)) whole.0) in
            out_part (subst IsLine (sym hands.given_are) front) (λ same. whole.0)
        | inr first ↦
            let due : old.life.due ≡ length first.cut.line + 1 = p.due some ∙ first.due in
            elim (cases_lt (length first.cut.line) count) [
              | inl last ↦
                  let same : count ≡ length (first.cut.line ++ 10 ∷ []) =
                  omega (arith, last, due, hands.within, length-append first.cut.line (10 ∷ [])) in
                  let given_line : given ≡ first.cut.line ++ 10 ∷ [] =
                  hands.given_are
                  ∙ ap (take count) (first.cut.all ∙ sym (append_assoc first.cut.line (10 ∷ []) (after_first is_feed old.life.held)))
                  ∙ take_at (first.cut.line ++ 10 ∷ []) (after_first is_feed old.life.held) count (sym same) in
                  out_line first.cut.line first.cut.quiet given_line (omega (arith, last, due, hands.within))
              | inr early ↦
                  let front : given ≡ take count first.cut.line =
                  hands.given_are ∙ ap (take count) first.cut.all
                  ∙ take-append-le count first.cut.line (10 ∷ after_first is_feed old.life.held) early in
                  let quiet : IsLine (take count first.cut.line) =
                  line_front (take count first.cut.line) (drop count first.cut.line)
                  (subst IsLine (sym (take-append-drop count first.cut.line)) first.cut.quiet) in
                  out_part (subst IsLine (sym front) quiet) (λ same. absurd (omega (arith, same, due, early)))
            ]
      ]
