-- Where reading stops is the first fault.
use Rattle.std.proofs.Common.{◌≡◌, ℕ, zero, suc, ◌+◌, ◌-◌, ◌<◌, inl, inr, arith, true, false, cond, List, [], ◌∷◌, ◌++◌, map, take, drop, length, refl, sym, subst, ap, ◌∙◌, All, append_assoc, length-append, eqb-true}
use Rattle.std.proofs.Math.Seq.{take-length, take-append-add, drop-append-add}
use Rattle.std.proofs.lemmas.Grind.{flat_map-append}
use Rattle.std.proofs.lemmas.List.{append-nil, map-append, take-append-drop, length-take-le}
use Rattle.std.proofs.lemmas.List.Splits.{slice_split_at}
use Rattle.std.specs.Cmp.{first_so, second_so}
use Rattle.std.specs.List.{list_all, slice_split, onto_first}
use Rattle.gen_lines.specs.Lines.{is_feed, ended, open_part, unfinished}
use Rattle.report_text.specs.Faults.{whole_lines, IsReport, BeginsReport, IsFirstFault}
use Rattle.lemmas.specs.Lists.{lines_with_feeds}
use Rattle.report_text.specs.Places.{Place, first, limits, pools, entries, dream, plan, cost, origins, last, behind, IsBodyStep, IsLineStep, IsPath, line_body, IsTextStep, IsTextPath, IsStuck, StopsAfter}
use Rattle.report_text.specs.Texts.{Line, line_text, lines_text, text_of_report}
use Rattle.transcript_model.specs.declared.report.Report.{Report}
use Rattle.report_text.proofs.PlacesLemmas.{completes, path_live, step_same}
use Rattle.report_text.proofs.LineTextLemmas.{is_clear, is_inked, is_space, number_inked, spaces_cut, feeds_cut}
use Rattle.report_text.proofs.FormsLemmas.{number_of_32, number_of_8, use_clear, step_clear, do_clear, entry_clear, origin_clear, limit_clear, mode_clear, pool_clear, report_lines, report_text, report_clear}
use Rattle.report_text.proofs.PlacesPathLemmas.{report_path, path_report, path_then}
use Rattle.std.proofs.lemmas.List.Elements.{All-nil, All-cons}
use Rattle.lemmas.proofs.Numbers.{small_version}
use Rattle.lemmas.proofs.ListTests.{all_one}
use Rattle.gen_lines.proofs.CuttingLemmas.{parts_left}

-- ---- the lines of a text

-- lines that have no line feed, each with one behind it, and then more
parts_of : (lines : List (List ℕ)) (rest : List ℕ)
    → All (λ line. All (λ b. is_feed b ≡ false) line) lines
    → slice_split is_feed (lines_with_feeds lines ++ rest) ≡ lines ++ slice_split is_feed rest
parts_of [] rest all = refl
parts_of (l ∷ ls) rest all =
    let whole : lines_with_feeds (l ∷ ls) ++ rest ≡ l ++ 10 ∷ (lines_with_feeds ls ++ rest) =
    append_assoc (l ++ 10 ∷ []) (lines_with_feeds ls) rest ∙ append_assoc l (10 ∷ []) (lines_with_feeds ls ++ rest) in
    ap (slice_split is_feed) whole ∙ slice_split_at is_feed l 10 (lines_with_feeds ls ++ rest) (all 0 l (omega arith)) refl
    ∙ ap (λ ps. l ∷ ps) (parts_of ls rest (λ k d lt. all (suc k) d (omega arith)))

ended_more : (xs ys : List (List ℕ)) → 0 < length ys → ended (xs ++ ys) ≡ xs ++ ended ys
ended_more [] ys some = refl
ended_more (x ∷ []) [] some = absurd (omega arith)
ended_more (x ∷ []) (y ∷ ys) some = refl
ended_more (x ∷ z ∷ xs) ys some = ap (λ ps. x ∷ ps) (ended_more (z ∷ xs) ys some)

-- the lines of a report's text are those of the report
lines_written : (lines : List Line) → list_all is_clear lines ≡ true
    → whole_lines (lines_text lines) ≡ map line_body lines
lines_written lines clear =
    ap ended (feeds_cut lines clear) ∙ ended_more (map line_body lines) ([] ∷ []) (omega arith) ∙ append-nil (map line_body lines)

joined_text : (lines : List Line) → lines_with_feeds (map line_body lines) ≡ lines_text lines
joined_text [] = refl
joined_text (l ∷ ls) = ap (λ t. line_text l ++ t) (joined_text ls)

-- ---- reports and paths of texts

report_text_path : (bytes : List ℕ) → IsReport bytes → IsTextPath first (whole_lines bytes) behind
report_text_path bytes (r, formed, is) = (
  report_lines r,
  sym (lines_written (report_lines r) (report_clear r formed)) ∙ ap whole_lines (sym (report_text r) ∙ is),
  report_path r formed,
)

-- the front of a path of texts
path_front : (from to : Place) (front rest : List (List ℕ)) → IsTextPath from (front ++ rest) to
    → (m : Place) × IsTextPath from front m
    × ((text : List ℕ) (later : List (List ℕ)) → rest ≡ text ∷ later → (n : Place) × IsTextStep m text n)
path_front from to [] rest (lines, is, path) =
    (from, ([], refl, refl), λ text later e. next lines is path text later e)
  where
    next : (lines : List Line) → map line_body lines ≡ rest → IsPath from lines to
        → (text : List ℕ) (later : List (List ℕ))
        → rest ≡ text ∷ later → (n : Place) × IsTextStep from text n
    next [] is path text later e = let none : [] ≡ text ∷ later = is ∙ e in absurd (cc)
    next (l ∷ ls) is path text later e =
        let both : line_body l ∷ map line_body ls ≡ text ∷ later = is ∙ e in
        let same : line_body l ≡ text = cc in (path.0, (l, same, path.1))
path_front from to (t ∷ front) rest ([], is, path) = absurd (cc)
path_front from to (t ∷ front) rest (l ∷ ls, is, path) =
    let here : line_body l ≡ t = cc in
    let later : map line_body ls ≡ front ++ rest = cc in
    let r = path_front path.0 to front rest (ls, later, path.2) in
    (r.0, (l ∷ r.1.0, (λ i. here i ∷ r.1.1 i), (path.0, path.1, r.1.2)), r.2)

-- ---- lines that may stand are clear, so their texts determine them

pub body_clear : (version : ℕ) (l : Line) (n : Place) → IsBodyStep version l n → is_clear l ≡ true
body_clear version l n (inl a) =
    let whole : list_all is_clear (l ∷ []) ≡ true = ap (list_all is_clear) (sym a.0.is) ∙ entry_clear version a.0.entry a.0.formed in
    first_so (is_clear l) true whole
body_clear version l n (inr (inl a)) = rw (a.4, number_of_32 a.0 a.2, number_of_32 a.1 a.3) refl
body_clear version l n (inr (inr (inl a))) = rw (a.2, number_of_32 a.0 a.1) refl
body_clear version l n (inr (inr (inr (inl a, b)))) = rw a refl
body_clear version l n (inr (inr (inr (inr a, b)))) = rw (a.1, limit_clear a.0) refl

pub line_clear : (p : Place) (l : Line) (n : Place) → IsLineStep p l n → is_clear l ≡ true
line_clear first l n a = rw (a.3, number_inked a.0 (small_version a.0 a.2), mode_clear a.1) refl
line_clear (limits version) l n a =
    rw (a.6, number_of_32 a.0 a.3, number_of_32 a.1 a.4, number_of_8 a.2 a.5) refl
line_clear (pools version) l n (inl a) = ap is_clear a.2 ∙ pool_clear a.0 a.1
line_clear (pools version) l n (inr a) = body_clear version l n a
line_clear (entries version) l n a = body_clear version l n a
line_clear (dream version zero zero) l n a = absurd a
line_clear (dream version zero (suc steps)) l n a = ap is_clear a.2 ∙ step_clear a.0 a.1
line_clear (dream version (suc uses) steps) l n a = ap is_clear a.2 ∙ use_clear a.0 a.1
line_clear (plan version zero) l n a = absurd a
line_clear (plan version (suc steps)) l n a = ap is_clear a.2 ∙ do_clear a.0 a.1
line_clear (cost version) l n a = rw (a.2, number_inked a.0 a.1) refl
line_clear (origins version) l n (inl a) = ap is_clear a.2 ∙ origin_clear version a.0 a.1
line_clear (origins version) l n (inr a) = ap is_clear a.0
line_clear last l n a = ap is_clear a.0
line_clear behind l n a = absurd a

fields_same : (l m : Line) → is_clear l ≡ true → is_clear m ≡ true → line_body l ≡ line_body m
    → l ≡ m
fields_same l m a b same =
    let read : (k : Line) → is_clear k ≡ true → slice_split is_space (line_body k) ≡ k.first ∷ k.more =
    λ k e. spaces_cut k.first k.more (first_so (is_inked k.first) (list_all is_inked k.more) e)
    (second_so (is_inked k.first) (list_all is_inked k.more) e) in
    let fields : l.first ∷ l.more ≡ m.first ∷ m.more = sym (read l a) ∙ ap (slice_split is_space) same ∙ read m b in
    let front : l.first ≡ m.first = cc in
    let later : l.more ≡ m.more = cc in
    λ i. record { first = front i; more = later i }

-- a text path determines its end
text_path_same : (from m n : Place) (texts : List (List ℕ)) → IsTextPath from texts m
    → IsTextPath from texts n → m ≡ n
text_path_same from m n [] ([], is, path) ([], also, other) = sym path ∙ other
text_path_same from m n [] ([], is, path) (k ∷ ks, also, other) = absurd (cc)
text_path_same from m n [] (l ∷ ls, is, path) b = absurd (cc)
text_path_same from m n (t ∷ texts) ([], is, path) b = absurd (cc)
text_path_same from m n (t ∷ texts) (l ∷ ls, is, path) ([], also, other) = absurd (cc)
text_path_same from m n (t ∷ texts) (l ∷ ls, is, path) (k ∷ ks, also, other) =
    let here : line_body l ≡ t = cc in
    let there : line_body k ≡ t = cc in
    let later : map line_body ls ≡ texts = cc in
    let behind_it : map line_body ks ≡ texts = cc in
    let same : k ≡ l = fields_same k l (line_clear from k other.0 other.1) (line_clear from l path.0 path.1) (there ∙ sym here) in
    let next : other.0 ≡ path.0 = step_same from l other.0 path.0 (subst (λ x. IsLineStep from x other.0) same other.1) path.1 in
    text_path_same path.0 m n texts (ls, later, path.2) (ks, behind_it, subst (λ q. IsPath q ks n) next other.2)

-- ---- parts of a text

no_feed_first : (x : ℕ) (parts : List (List ℕ)) → is_feed x ≡ false
    → All (λ line. All (λ b. is_feed b ≡ false) line) parts
    → All (λ line. All (λ b. is_feed b ≡ false) line) (onto_first x parts)
no_feed_first x [] e all = all_one (λ line. All (λ b. is_feed b ≡ false) line) (x ∷ []) (all_one (λ b. is_feed b ≡ false) x e)
no_feed_first x (p ∷ ps) e all =
    All-cons (λ line. All (λ b. is_feed b ≡ false) line) (x ∷ p) ps
    (All-cons (λ b. is_feed b ≡ false) x p e (all 0 p (omega arith))) (λ k d lt. all (suc k) d (omega arith))

parts_free : (bytes : List ℕ)
    → All (λ line. All (λ b. is_feed b ≡ false) line) (slice_split is_feed bytes)
parts_free [] =
    all_one (λ line. All (λ b. is_feed b ≡ false) line) [] (All-nil (λ b. is_feed b ≡ false))
parts_free (x ∷ xs) =
    elim (is_feed x) as (λ c.
    is_feed x ≡ c
    → All (λ line. All (λ b. is_feed b ≡ false) line)
    (cond c ([] ∷ slice_split is_feed xs) (onto_first x (slice_split is_feed xs)))) [
      | true ↦ λ _. All-cons (λ line. All (λ b. is_feed b ≡ false) line) [] (slice_split is_feed xs)
          (All-nil (λ b. is_feed b ≡ false)) (parts_free xs)
      | false ↦ λ e. no_feed_first x (slice_split is_feed xs) e (parts_free xs)
    ] refl

ended_front : (parts : List (List ℕ)) → 0 < length parts
    → ended parts ++ open_part parts ∷ [] ≡ parts
ended_front [] some = absurd (omega arith)
ended_front (p ∷ []) some = refl
ended_front (p ∷ q ∷ parts) some = ap (λ ps. p ∷ ps) (ended_front (q ∷ parts) (omega arith))

lines_free : (bytes : List ℕ) (k : ℕ)
    → All (λ line. All (λ b. is_feed b ≡ false) line) (take k (whole_lines bytes))
lines_free bytes k =
    let whole =
    subst (All (λ line. All (λ b. is_feed b ≡ false) line))
    (sym (ended_front (slice_split is_feed bytes) (parts_left bytes))) (parts_free bytes) in
    let lines : All (λ line. All (λ b. is_feed b ≡ false) line) (whole_lines bytes) =
    All-append_front (whole_lines bytes) (unfinished bytes ∷ []) whole in
    All-append_front (take k (whole_lines bytes)) (drop k (whole_lines bytes))
    (subst (All (λ line. All (λ b. is_feed b ≡ false) line)) (sym (take-append-drop k (whole_lines bytes))) lines)
  where
    All-append_front : (xs ys : List (List ℕ))
        → All (λ line. All (λ b. is_feed b ≡ false) line) (xs ++ ys)
        → All (λ line. All (λ b. is_feed b ≡ false) line) xs
    All-append_front [] ys all = All-nil (λ line. All (λ b. is_feed b ≡ false) line)
    All-append_front (x ∷ xs) ys all =
        All-cons (λ line. All (λ b. is_feed b ≡ false) line) x xs
        (all 0 x (omega arith)) (All-append_front xs ys (λ k d lt. all (suc k) d (omega arith)))

-- ---- where reading stops

-- some report begins with lines that may stand from the first place on
begins : (texts : List (List ℕ)) (m : Place) → IsTextPath first texts m → BeginsReport texts
begins texts m (lines, is, path) =
    let rest = completes m (path_live first lines m tt path) in
    let r = path_report (lines ++ rest.0) (path_then first lines rest.0 m behind path rest.1) in (
      lines_text rest.0,
      (
        r.0,
        r.1,
        report_text r.0 ∙ ap lines_text r.2 ∙ flat_map-append line_text lines rest.0
            ∙ ap (λ t. t ++ lines_text rest.0) (sym (joined_text lines) ∙ ap lines_with_feeds is),
      ),
    )

-- no report begins with these lines and the one at which reading is stuck
stuck_there : (front : List (List ℕ)) (text : List ℕ) (m : Place) → IsTextPath first front m
    → ((n : Place) → ¬ (IsTextStep m text n))
    → (more : List (List ℕ)) (bytes : List ℕ) → whole_lines bytes ≡ front ++ text ∷ more → ¬ (IsReport bytes)
stuck_there front text m path stuck more bytes is report =
    let other = path_front first behind front (text ∷ more) (subst (λ ts. IsTextPath first ts behind) is (report_text_path bytes report)) in
    let next = other.2 text more refl in
    let same : other.0 ≡ m = text_path_same first other.0 m front other.1 path in
    stuck next.0 (subst (λ q. IsTextStep q text next.0) same next.1)

cut_lines : (texts : List (List ℕ)) (k : ℕ) (text : List ℕ) (later : List (List ℕ))
    → drop k texts ≡ text ∷ later
    → take (suc k) texts ≡ take k texts ++ text ∷ []
cut_lines [] zero text later e = absurd (cc)
cut_lines [] (suc k) text later e = absurd (cc)
cut_lines (t ∷ ts) zero text later e = let same : t ≡ text = cc in ap (λ x. x ∷ []) same
cut_lines (t ∷ ts) (suc k) text later e = ap (λ xs. t ∷ xs) (cut_lines ts k text later e)

-- where a reader stops among the lines of a text, its first fault is in the next line
pub stops_fault : (bytes : List ℕ) (k : ℕ) → StopsAfter first (whole_lines bytes) k
    → IsFirstFault bytes (k + 1)
stops_fault bytes k s = by_rest (drop k (whole_lines bytes)) refl s.stuck
  where
    one_more : (k : ℕ) → k + 1 ≡ suc k
    one_more k = omega arith

    minus_one : (k : ℕ) → k + 1 - 1 ≡ k
    minus_one k = omega arith

    by_rest : (rest : List (List ℕ)) → drop k (whole_lines bytes) ≡ rest → IsStuck s.at rest
        → IsFirstFault bytes (k + 1)
    by_rest [] e stuck = record {
      some = omega arith;
      upto = omega (arith, s.within);
      before = subst (λ m. BeginsReport (take m (whole_lines bytes))) (sym (minus_one k)) (begins (take k (whole_lines bytes)) s.at s.path);
      here = λ le. absurd (omega (
        arith,
        le,
        ap length (take-append-drop k (whole_lines bytes)),
        length-append (take k (whole_lines bytes)) (drop k (whole_lines bytes)),
        ap length e,
        length-take-le k (whole_lines bytes) s.within,
      ));
      none = λ report.
          let whole : take k (whole_lines bytes) ≡ whole_lines bytes =
          sym (append-nil (take k (whole_lines bytes))) ∙ ap (λ ts. take k (whole_lines bytes) ++ ts) (sym e)
          ∙ take-append-drop k (whole_lines bytes) in
          stuck (text_path_same first s.at behind (whole_lines bytes)
          (subst (λ ts. IsTextPath first ts s.at) whole s.path) (report_text_path bytes report));
    }
    by_rest (text ∷ later) e stuck =
        let next : take (k + 1) (whole_lines bytes) ≡ take k (whole_lines bytes) ++ text ∷ [] =
        ap (λ m. take m (whole_lines bytes)) (one_more k) ∙ cut_lines (whole_lines bytes) k text later e in
        record {
          some = omega arith;
          upto = omega (arith, s.within);
          before =
              subst (λ m. BeginsReport (take m (whole_lines bytes))) (sym (minus_one k)) (begins (take k (whole_lines bytes)) s.at s.path);
          here = λ le more.
              let there : whole_lines (lines_with_feeds (take (k + 1) (whole_lines bytes)) ++ more.0) ≡ take k
              (whole_lines bytes) ++ text ∷ ended (slice_split is_feed more.0) =
              ap ended (parts_of (take (k + 1) (whole_lines bytes)) more.0 (lines_free bytes (k + 1)))
              ∙ ended_more (take (k + 1) (whole_lines bytes)) (slice_split is_feed more.0) (parts_left more.0)
              ∙ ap (λ ts. ts ++ ended (slice_split is_feed more.0)) next
              ∙ append_assoc (take k (whole_lines bytes)) (text ∷ []) (ended (slice_split is_feed more.0)) in
              stuck_there (take k (whole_lines bytes)) text s.at s.path stuck
              (ended (slice_split is_feed more.0)) (lines_with_feeds (take (k + 1) (whole_lines bytes)) ++ more.0) there more.1;
          none = stuck_there (take k (whole_lines bytes)) text s.at s.path stuck later bytes
              (sym (take-append-drop k (whole_lines bytes)) ∙ ap (λ ts. take k (whole_lines bytes) ++ ts) e);
        }

-- ---- the text is its lines and what is behind them

abbrev whole : List (List ℕ) → List ℕ
whole parts = lines_with_feeds (ended parts) ++ open_part parts

whole_feed : (parts : List (List ℕ)) → 0 < length parts → whole ([] ∷ parts) ≡ 10 ∷ whole parts
whole_feed [] some = absurd (omega arith)
whole_feed (p ∷ ps) some = refl

whole_other : (x : ℕ) (parts : List (List ℕ)) → 0 < length parts
    → whole (onto_first x parts) ≡ x ∷ whole parts
whole_other x [] some = absurd (omega arith)
whole_other x (p ∷ []) some = refl
whole_other x (p ∷ q ∷ ps) some = refl

pub text_parts : (bytes : List ℕ) → lines_with_feeds (whole_lines bytes) ++ unfinished bytes ≡ bytes
text_parts [] = refl
text_parts (x ∷ xs) =
    elim (is_feed x) as
    (λ c. is_feed x ≡ c → whole (cond c ([] ∷ slice_split is_feed xs) (onto_first x (slice_split is_feed xs))) ≡ x ∷ xs) [
      | true ↦ λ e. whole_feed (slice_split is_feed xs) (parts_left xs) ∙ (λ i. sym (eqb-true x 10 e) i ∷ text_parts xs i)
      | false ↦ λ e. whole_other x (slice_split is_feed xs) (parts_left xs) ∙ ap (λ t. x ∷ t) (text_parts xs)
    ] refl

-- lines that are those of a report, with nothing behind them, are its text
pub lines_report : (r : Report) (bytes : List ℕ)
    → whole_lines bytes ≡ map line_body (report_lines r) → unfinished bytes ≡ []
    → text_of_report r ≡ bytes
lines_report r bytes lines none =
    report_text r ∙ sym (joined_text (report_lines r)) ∙ ap lines_with_feeds (sym lines)
    ∙ sym (append-nil (lines_with_feeds (whole_lines bytes))) ∙ ap (λ t. lines_with_feeds (whole_lines bytes) ++ t) (sym none)
    ∙ text_parts bytes

-- a report's text ends with a line feed
report_ends : (bytes : List ℕ) → IsReport bytes → unfinished bytes ≡ []
report_ends bytes (r, formed, is) =
    ap unfinished (sym is ∙ report_text r) ∙ ap open_part (feeds_cut (report_lines r) (report_clear r formed))
    ∙ last_part (map line_body (report_lines r))
  where
    last_part : (xs : List (List ℕ)) → open_part (xs ++ [] ∷ []) ≡ []
    last_part [] = refl
    last_part (x ∷ []) = refl
    last_part (x ∷ y ∷ xs) = last_part (y ∷ xs)

-- behind the lines of a report stands a line without a line feed
pub leftover_fault : (bytes : List ℕ) → IsTextPath first (whole_lines bytes) behind
    → 0 < length (unfinished bytes)
    → IsFirstFault bytes (length (whole_lines bytes) + 1)
leftover_fault bytes path left =
    let all : take (length (whole_lines bytes) + 1 - 1) (whole_lines bytes) ≡ whole_lines bytes =
    ap (λ n. take n (whole_lines bytes)) (same (length (whole_lines bytes))) ∙ take-length (whole_lines bytes) in
    record {
      some = omega arith;
      upto = omega arith;
      before = subst BeginsReport (sym all) (begins (whole_lines bytes) behind path);
      here = λ le. absurd (omega (arith, le));
      none = λ report. absurd (omega (arith, ap length (report_ends bytes report)));
    }
  where
    same : (n : ℕ) → n + 1 - 1 ≡ n
    same n = omega arith

-- ---- reading in parts

pub text_path_then : (from middle to : Place) (xs ys : List (List ℕ)) → IsTextPath from xs middle
    → IsTextPath middle ys to
    → IsTextPath from (xs ++ ys) to
text_path_then from middle to xs ys (ls, is, path) (ms, also, later) =
    (ls ++ ms, map-append line_body ls ms ∙ (λ i. is i ++ also i), path_then from ls ms middle to path later)

pub stops_here : (from : Place) (texts : List (List ℕ)) → IsStuck from texts
    → StopsAfter from texts 0
stops_here from texts stuck =
    record { within = omega arith; at = from; path = ([], refl, refl); stuck = stuck }

pub stops_then : (from middle : Place) (front rest : List (List ℕ)) (k : ℕ)
    → IsTextPath from front middle → StopsAfter middle rest k
    → StopsAfter from (front ++ rest) (length front + k)
stops_then from middle front rest k path s = record {
  within = omega (arith, s.within, length-append front rest);
  at = s.at;
  path = subst (λ ts. IsTextPath from ts s.at)
      (sym (take-append-add front rest k)) (text_path_then from middle s.at front (take k rest) path s.path);
  stuck = subst (IsStuck s.at) (sym (drop-append-add front rest k)) s.stuck;
}
