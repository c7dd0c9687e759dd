-- Lines and what is open, byte by byte.
use Rattle.std.proofs.Common.{◌≡◌, ℕ, ◌+◌, ◌<◌, ◌≤◌, Bool, true, false, ◌==◌, cond, List, [], ◌∷◌, ◌++◌, length, drop, map, take, refl, sym, ap, ◌∙◌, arith, append-nil, append_assoc, Option, Some}
use Rattle.std.specs.Io.BufRead.{strip_last}
use Rattle.std.specs.List.{onto_first, slice_split}
use Rattle.std.proofs.lemmas.Grind.{flat_map-append}
use Rattle.std.proofs.lemmas.List.{map-append, take-append-le, take_all}
use Rattle.std.proofs.Math.Seq.{take-add}
use Rattle.std.proofs.lemmas.Bool.Decides.{nat_tests}
use Rattle.gen_lines.specs.Lines.{ended, is_feed, lines_of, open_part, unfinished}
use Rattle.grid_text.specs.Grids.{GridFile}
use Rattle.grid_world.specs.AnswerLines.{answers_text, replies_to, answer_to_line}
use Rattle.io_world.specs.Talks.{heard_more, wrote_more}
use Rattle.grid_world.specs.Sessions.{SessionGoesOn, SessionHearsByte, KeepsGiven, SessionState, left_of, talk_of}
use Rattle.gen_lines.proofs.CuttingLemmas.{parts_left}

-- a part behind others
ended_push : (parts : List (List ℕ)) (part : List ℕ) → ended (parts ++ part ∷ []) ≡ parts
ended_push [] part = refl
ended_push (first ∷ []) part = refl
ended_push (first ∷ second ∷ parts) part = ap (λ ps. first ∷ ps) (ended_push (second ∷ parts) part)

open_push : (parts : List (List ℕ)) (part : List ℕ) → open_part (parts ++ part ∷ []) ≡ part
open_push [] part = refl
open_push (first ∷ []) part = refl
open_push (first ∷ second ∷ parts) part = open_push (second ∷ parts) part

parts_whole : (parts : List (List ℕ)) → 0 < length parts → parts ≡ ended parts ++ open_part parts ∷ []
parts_whole [] h = absurd (omega arith)
parts_whole (part ∷ []) h = refl
parts_whole (first ∷ second ∷ parts) h = ap (λ ps. first ∷ ps) (parts_whole (second ∷ parts) (omega arith))

onto_push : (x : ℕ) (parts : List (List ℕ)) (part : List ℕ) → 0 < length parts
    → onto_first x (parts ++ part ∷ []) ≡ onto_first x parts ++ part ∷ []
onto_push x [] part h = absurd (omega arith)
onto_push x (first ∷ parts) part h = refl

split_feed_by : (b : Bool) (x : ℕ) (bytes : List ℕ) → slice_split is_feed (bytes ++ 10 ∷ []) ≡ slice_split is_feed bytes ++ [] ∷ [] →
    cond b ([] ∷ slice_split is_feed (bytes ++ 10 ∷ [])) (onto_first x (slice_split is_feed (bytes ++ 10 ∷ [])))
    ≡ cond b ([] ∷ slice_split is_feed bytes) (onto_first x (slice_split is_feed bytes)) ++ [] ∷ []
split_feed_by true x bytes e = ap (λ ps. [] ∷ ps) e
split_feed_by false x bytes e = ap (onto_first x) e ∙ onto_push x (slice_split is_feed bytes) [] (parts_left bytes)

split_feed : (bytes : List ℕ) → slice_split is_feed (bytes ++ 10 ∷ []) ≡ slice_split is_feed bytes ++ [] ∷ []
split_feed [] = refl
split_feed (x ∷ bytes) = split_feed_by (is_feed x) x bytes (split_feed bytes)

-- the parts with a byte more in the last
abbrev longer : List (List ℕ) → ℕ → List (List ℕ)
longer parts b = ended parts ++ (open_part parts ++ b ∷ []) ∷ []

longer_cons : (parts : List (List ℕ)) (b : ℕ) → 0 < length parts → [] ∷ longer parts b ≡ longer ([] ∷ parts) b
longer_cons [] b h = absurd (omega arith)
longer_cons (part ∷ parts) b h = refl

longer_onto : (x : ℕ) (parts : List (List ℕ)) (b : ℕ) → 0 < length parts → onto_first x (longer parts b) ≡ longer (onto_first x parts) b
longer_onto x [] b h = absurd (omega arith)
longer_onto x (part ∷ []) b h = refl
longer_onto x (part ∷ next ∷ parts) b h = refl

split_other_by : (f : Bool) (x b : ℕ) (bytes : List ℕ) → slice_split is_feed (bytes ++ b ∷ []) ≡ longer (slice_split is_feed bytes) b →
    cond f ([] ∷ slice_split is_feed (bytes ++ b ∷ [])) (onto_first x (slice_split is_feed (bytes ++ b ∷ [])))
    ≡ longer (cond f ([] ∷ slice_split is_feed bytes) (onto_first x (slice_split is_feed bytes))) b
split_other_by true x b bytes e = ap (λ ps. [] ∷ ps) e ∙ longer_cons (slice_split is_feed bytes) b (parts_left bytes)
split_other_by false x b bytes e = ap (onto_first x) e ∙ longer_onto x (slice_split is_feed bytes) b (parts_left bytes)

split_other : (bytes : List ℕ) (b : ℕ) → is_feed b ≡ false → slice_split is_feed (bytes ++ b ∷ []) ≡ longer (slice_split is_feed bytes) b
split_other [] b e = rw e refl
split_other (x ∷ bytes) b e = split_other_by (is_feed x) x b bytes (split_other bytes b e)

lines_feed : (bytes : List ℕ) → lines_of (bytes ++ 10 ∷ []) ≡ lines_of bytes ++ strip_last 13 (unfinished bytes) ∷ []
lines_feed bytes =
    ap (λ ps. map (strip_last 13) (ended ps)) (split_feed bytes)
    ∙ ap (map (strip_last 13)) (ended_push (slice_split is_feed bytes) [] ∙ parts_whole (slice_split is_feed bytes) (parts_left bytes))
    ∙ map-append (strip_last 13) (ended (slice_split is_feed bytes)) (unfinished bytes ∷ [])

open_feed : (bytes : List ℕ) → unfinished (bytes ++ 10 ∷ []) ≡ []
open_feed bytes = ap open_part (split_feed bytes) ∙ open_push (slice_split is_feed bytes) []

lines_other : (bytes : List ℕ) (b : ℕ) → is_feed b ≡ false → lines_of (bytes ++ b ∷ []) ≡ lines_of bytes
lines_other bytes b e =
    ap (λ ps. map (strip_last 13) (ended ps)) (split_other bytes b e)
    ∙ ap (map (strip_last 13)) (ended_push (ended (slice_split is_feed bytes)) (unfinished bytes ++ b ∷ []))

open_other : (bytes : List ℕ) (b : ℕ) → is_feed b ≡ false → unfinished (bytes ++ b ∷ []) ≡ unfinished bytes ++ b ∷ []
open_other bytes b e = ap open_part (split_other bytes b e) ∙ open_push (ended (slice_split is_feed bytes)) (unfinished bytes ++ b ∷ [])

answers_feed : (grid : GridFile) (bytes : List ℕ)
    → answers_text grid (bytes ++ 10 ∷ []) ≡ answers_text grid bytes ++ answer_to_line grid (strip_last 13 (unfinished bytes))
answers_feed grid bytes =
    ap (replies_to grid) (lines_feed bytes)
    ∙ flat_map-append (answer_to_line grid) (lines_of bytes) (strip_last 13 (unfinished bytes) ∷ [])
    ∙ ap (λ t. answers_text grid bytes ++ t) (append-nil (answer_to_line grid (strip_last 13 (unfinished bytes))))

feed_told : (b : ℕ) → (b == 10) ≡ true → b ≡ 10
feed_told b e = grind (arith, nat_tests, e)

goes_by : (f : Bool) (grid : GridFile) (written bytes left answers more_left more_answers : List ℕ) (b : ℕ) → (b == 10) ≡ f
    → SessionGoesOn grid written bytes left answers → SessionHearsByte grid b left answers more_left more_answers
    → SessionGoesOn grid written (bytes ++ b ∷ []) more_left more_answers
goes_by true grid written bytes left answers more_left more_answers b f g h =
    let is : b ≡ 10 = feed_told b f in
    let empty : more_left ≡ [] = rw f at h.left_is in
    let added : more_answers ≡ answers ++ answer_to_line grid (strip_last 13 left) = rw f at h.answers_are in
    let join : written ++ (bytes ++ b ∷ []) ≡ (written ++ bytes) ++ 10 ∷ [] = rw is (sym (append_assoc written bytes (10 ∷ []))) in
    record {
      left_is = empty ∙ sym (ap unfinished join ∙ open_feed (written ++ bytes));
      answers_are =
          ap (answers_text grid) join ∙ answers_feed grid (written ++ bytes)
          ∙ rw (← g.left_is, g.answers_are, added)
          (append_assoc (answers_text grid written) answers (answer_to_line grid (strip_last 13 left)));
    }
goes_by false grid written bytes left answers more_left more_answers b f g h =
    let longer_left : more_left ≡ left ++ b ∷ [] = rw f at h.left_is in
    let same : more_answers ≡ answers = rw f at h.answers_are in
    let join : written ++ (bytes ++ b ∷ []) ≡ (written ++ bytes) ++ b ∷ [] = sym (append_assoc written bytes (b ∷ [])) in
    record {
      left_is = longer_left ∙ ap (λ t. t ++ b ∷ []) g.left_is ∙ sym (ap unfinished join ∙ open_other (written ++ bytes) b f);
      answers_are =
          ap (answers_text grid) join ∙ ap (replies_to grid) (lines_other (written ++ bytes) b f) ∙ g.answers_are
          ∙ ap (λ t. answers_text grid written ++ t) (sym same);
    }

pub goes_more : (grid : GridFile) (written bytes left answers more_left more_answers : List ℕ) (b : ℕ)
    → SessionGoesOn grid written bytes left answers → SessionHearsByte grid b left answers more_left more_answers
    → SessionGoesOn grid written (bytes ++ b ∷ []) more_left more_answers
goes_more grid written bytes left answers more_left more_answers b g h =
    goes_by (b == 10) grid written bytes left answers more_left more_answers b refl g h

-- a line feed more
pub hears_feed : (grid : GridFile) (byte : ℕ) (left answers more_left more_answers : List ℕ) → byte ≡ 10
    → more_left ≡ [] → more_answers ≡ answers ++ answer_to_line grid (strip_last 13 left)
    → SessionHearsByte grid byte left answers more_left more_answers
hears_feed grid byte left answers more_left more_answers e l a =
    record { left_is = rw e l; answers_are = rw e a }

-- bytes of answers were given
pub heard_given : (was : Option SessionState) (session new : SessionState) (n : ℕ) (bytes : List ℕ)
    → was ≡ Some session → new ≡ record session { given = session.given + n } → bytes ≡ take n (left_of session)
    → Some (talk_of (Some new)) ≡ Some (heard_more bytes (talk_of was))
heard_given was session new n bytes w e b =
    let all = answers_text session.grid session.written in
    let more : take (session.given + n) all ≡ take session.given all ++ take n (drop session.given all) = take-add session.given n all in
    rw (w, e, b, more) refl

-- bytes more were written
pub said_more : (was : Option SessionState) (session new : SessionState) (bytes : List ℕ)
    → was ≡ Some session → new ≡ record session { written = session.written ++ bytes } → KeepsGiven session bytes
    → Some (talk_of (Some new)) ≡ Some (wrote_more (take (length bytes) bytes) (talk_of was))
said_more was session new bytes w e k =
    let all : take (length bytes) bytes ≡ bytes = take_all (length bytes) bytes (omega arith) in
    rw (w, e, all, k) refl

-- what was given stays the front, once more is written
pub heard_stays : (grid : GridFile) (written bytes left answers : List ℕ) (n : ℕ) → SessionGoesOn grid written bytes left answers
    → n ≤ length (answers_text grid written) → take n (answers_text grid (written ++ bytes)) ≡ take n (answers_text grid written)
heard_stays grid written bytes left answers n g h = ap (take n) g.answers_are ∙ take-append-le n (answers_text grid written) answers h
