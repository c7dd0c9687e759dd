-- Requests read as lines and fields.
use Rattle.std.proofs.Common.{◌≡◌, ℕ, ◌-◌, ◌<◌, ◌^◌, Bool, true, false, not, ◌&&◌, nat_le, nat_lt, ◌==◌, List, [], ◌∷◌, ◌++◌, length, map, get_or, refl, ap, ◌∙◌, arith, All, append_assoc}
use Rattle.std.specs.Fmt.{decimal}
use Rattle.std.specs.Char.{is_ascii_digit}
use Rattle.std.specs.Io.BufRead.{strip_last}
use Rattle.std.specs.List.{join_with_byte, list_all, slice_split}
use Rattle.std.proofs.lemmas.Bool.Decides.{nat_tests}
use Rattle.std.proofs.lemmas.Fmt.{digits_decimal, decimal_nonempty}
use Rattle.std.proofs.lemmas.List.Folds.{list_all-append}
use Rattle.std.proofs.lemmas.List.Splits.{slice_split_at, length-slice_split}
use Rattle.std.proofs.lemmas.List.Sums.{AllPass-from_list_all}
use Rattle.std.proofs.lemmas.Bool.{and_parts}
use Rattle.lemmas.proofs.Bools.{and_false}
use Rattle.lemmas.proofs.ListTests.{all_weaker}
use Rattle.task_model.specs.Streams.{name_at}
use Rattle.task_model.specs.declared.stream.Instance.{Instance}
use Rattle.task_model.specs.declared.task.Task.{Task}
use Rattle.gen_lines.specs.Laws.{ReadsBack, is_printed, is_word}
use Rattle.gen_lines.specs.Lines.{is_feed, lines_of}
use Rattle.gen_lines.specs.Reply.{is_filled, is_space}
use Rattle.gen_lines.specs.Request.{request_words, stream_name}
use Rattle.gen_lines.proofs.LinesLemmas.{ended_cons}
use Rattle.lemmas.proofs.Digits.{own}
use Rattle.gen_lines.proofs.FieldWordLemmas.{words_are_fields}
use Rattle.gen_lines.proofs.FieldLemmas.{filled}

abbrev visible : ℕ → Bool
visible b = nat_le 33 b && nat_le b 126

-- a byte that can't end a line
abbrev pub stays : ℕ → Bool
stays b = nat_le 32 b

stays_if_visible : (b : ℕ) → visible b ≡ true → stays b ≡ true
stays_if_visible b e =
    let both = and_parts (nat_le 33 b) (nat_le b 126) e in grind (arith, nat_tests, both.0)

no_space_if_visible : (b : ℕ) → visible b ≡ true → not (is_space b) ≡ true
no_space_if_visible b e =
    let both = and_parts (nat_le 33 b) (nat_le b 126) e in
    let no : (b == 32) ≡ false = grind (arith, nat_tests, both.0) in
    rw no refl

visible_if_digit : (b : ℕ) → is_ascii_digit b ≡ true → visible b ≡ true
visible_if_digit b e =
    let both = and_parts (nat_le 48 b) (nat_le b 57) e in
    let low : nat_le 33 b ≡ true = grind (arith, nat_tests, both.0) in
    let high : nat_le b 126 ≡ true = grind (arith, nat_tests, both.1) in
    rw (low, high) refl

pub no_feed : (b : ℕ) → stays b ≡ true → is_feed b ≡ false
no_feed b e = grind (arith, nat_tests, e)

word_if_printed : (text : List ℕ) → is_printed text ≡ true → is_word text ≡ true
word_if_printed text e =
    let both = and_parts (is_filled text) (list_all visible text) e in
    rw (both.0, all_weaker visible (λ b. not (is_space b)) no_space_if_visible text both.1) refl

words_if_printed : (words : List (List ℕ)) → list_all is_printed words ≡ true
    → list_all is_word words ≡ true
words_if_printed [] e = refl
words_if_printed (word ∷ words) e =
    let both = and_parts (is_printed word) (list_all is_printed words) e in
    rw (word_if_printed word both.0, words_if_printed words both.1) refl

word_stays : (word : List ℕ) → is_printed word ≡ true → list_all stays word ≡ true
word_stays word e = all_weaker visible stays stays_if_visible word (and_parts (is_filled word) (list_all visible word) e).1

joined_stays : (words : List (List ℕ)) → list_all is_printed words ≡ true
    → list_all stays (join_with_byte 32 words) ≡ true
joined_stays [] e = refl
joined_stays (word ∷ []) e = word_stays word (and_parts (is_printed word) true e).0
joined_stays (word ∷ next ∷ words) e =
    let both = and_parts (is_printed word) (list_all is_printed (next ∷ words)) e in
    rw (list_all-append, word_stays word both.0, joined_stays (next ∷ words) both.1) refl

pub no_return : (text : List ℕ) → list_all stays text ≡ true → strip_last 13 text ≡ text
no_return [] e = refl
no_return (b ∷ bs) e =
    let last = length (b ∷ bs) - 1 in
    let high = AllPass-from_list_all stays (b ∷ bs) e last 0 (omega arith) in
    let no : (get_or (b ∷ bs) last 0 == 13) ≡ false = grind (arith, nat_tests, high) in
    rw (no, and_false (nat_lt 0 (length (b ∷ bs)))) refl

line_of_text : (text later : List ℕ) → list_all stays text ≡ true
    → lines_of ((text ++ 10 ∷ []) ++ later) ≡ text ∷ lines_of later
line_of_text text later e =
    let all : All (λ b. is_feed b ≡ false) text = λ k d lt. no_feed _ (AllPass-from_list_all stays text e k d lt) in
    let parts : slice_split is_feed ((text ++ 10 ∷ []) ++ later) ≡ text ∷ slice_split is_feed later =
    ap (slice_split is_feed) (append_assoc text (10 ∷ []) later) ∙ slice_split_at is_feed text 10 later all refl in
    let ended_here = ended_cons text (slice_split is_feed later) (omega (arith, length-slice_split is_feed later)) in
    rw (parts, ended_here, no_return text e) refl

number_printed : (n : ℕ) → n < 2 ^ 64 → is_printed (decimal n) ≡ true
number_printed n lt =
    rw (
      filled (decimal n) (decimal_nonempty n lt),
      all_weaker is_ascii_digit visible visible_if_digit (decimal n) (digits_decimal own n lt),
    ) refl

pub requests_read_back : (task : Task) (names : List (List ℕ)) (number : ℕ) (instance : Instance)
    → number < 2 ^ 32
    → is_printed (stream_name task instance.stream) ≡ true → list_all is_printed (map (name_at names) instance.inputs) ≡ true
    → ReadsBack task names number instance
requests_read_back task names number instance small stream inputs =
    let words = request_words task names number instance in
    let printed : list_all is_printed words ≡ true = rw (number_printed number (omega arith), stream, inputs) refl in
    record {
      line = λ later. line_of_text (join_with_byte 32 words) later (joined_stays words printed);
      words = words_are_fields words (words_if_printed words printed);
    }
