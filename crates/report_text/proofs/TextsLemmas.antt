-- Lines and tuples, cut into the pieces in which they are written.
use Rattle.std.proofs.Common.{◌≡◌, ℕ, zero, suc, false, ◌+◌, ◌-◌, ◌*◌, ◌/◌, ◌%◌, ◌<◌, ◌≤◌, arith, codes, List, [], ◌∷◌, ◌++◌, length, map, take, drop, sym, ap, ◌∙◌, append_assoc, get_or, append-nil}
use Rattle.std.specs.List.{flat_map}
use Rattle.std.proofs.Math.ListN.{take-append-drop}
use Rattle.std.proofs.Math.Nat.{add_comm, mul_comm, suc-mul}
use Rattle.std.proofs.lemmas.Grind.{flat_map-append}
use Rattle.std.proofs.lemmas.List.Folds.{flat_map-map}
use Rattle.std.proofs.lemmas.Nat.{div-add-mod'}
use Rattle.lemmas.proofs.Members.{flat_map_next}
use Rattle.lemmas.proofs.Numbers.{suc_minus_one}
use Rattle.std.specs.Fmt.{decimal}
use Rattle.std.specs.Prelude.{◌==◌, if◌then◌else◌}
use Rattle.gen_lines.specs.Request.{stream_name}
use Rattle.task_model.specs.declared.task.Task.{Task}
use Rattle.transcript_model.specs.declared.head.Head.{Head}
use Rattle.transcript_model.specs.declared.head.Pool.{Pool}
use Rattle.transcript_model.specs.declared.head.Mode.{Mode}
use Rattle.transcript_model.specs.declared.head.PoolLine.{PoolLine}
use Rattle.report_text.specs.Places.{limits_line}
use Rattle.report_text.specs.Texts.{Line, line, line_text, lines_text, fields_text, head_lines, mode_word, pool_line, shown_pool, text_of_head, tuples_of}

-- ---- members

-- what is printed up to a member, that member, and the others
pub around : {X A : Type 0} (f : X → List A) (xs : List X) (i : ℕ) (x : X) → i < length xs
    → x ≡ get_or xs i x
    → flat_map f xs ≡ (flat_map f (take i xs) ++ f x) ++ flat_map f (drop (i + 1) xs)
around f xs i x lt is =
    ap (flat_map f) (sym (take-append-drop (i + 1) xs)) ∙ flat_map-append f (take (i + 1) xs) (drop (i + 1) xs)
    ∙ ap (λ t. t ++ flat_map f (drop (i + 1) xs)) (flat_map_next f xs i x lt is)

pub lines_around : {X B A : Type 0} (f : B → List A) (g : X → B) (xs : List X) (i : ℕ) (x : X)
    → i < length xs → x ≡ get_or xs i x
    → flat_map f (map g xs) ≡ (flat_map f (map g (take i xs)) ++ f (g x)) ++ flat_map f (map g (drop (i + 1) xs))
lines_around f g xs i x lt is =
    flat_map-map f g xs ∙ around (λ y. f (g y)) xs i x lt is
    ∙ (λ k. (sym (flat_map-map f g (take i xs)) k ++ f (g x)) ++ sym (flat_map-map f g (drop (i + 1) xs)) k)

-- ---- lines

-- a line of a word and a field, and what follows them
pub line_more : (word field : List ℕ) (more : List (List ℕ))
    → line_text (line word (field ∷ more)) ≡ (word ++ 32 ∷ field) ++ (fields_text more ++ 10 ∷ [])
line_more word field more =
    ap (λ t. t ++ 10 ∷ []) (sym (append_assoc word (32 ∷ field) (fields_text more)))
    ∙ append_assoc (word ++ 32 ∷ field) (fields_text more) (10 ∷ [])

-- a line of a word and two fields, and what follows them
pub line_further : (word first second : List ℕ) (more : List (List ℕ))
    → line_text (line word (first ∷ second ∷ more)) ≡ ((word ++ 32 ∷ first) ++ 32 ∷ second) ++ (fields_text more ++ 10 ∷ [])
line_further word first second more =
    line_more word first (second ∷ more) ∙ ap (λ t. (word ++ 32 ∷ first) ++ t) (append_assoc (32 ∷ second) (fields_text more) (10 ∷ []))
    ∙ sym (append_assoc (word ++ 32 ∷ first) (32 ∷ second) (fields_text more ++ 10 ∷ []))

pub lines_three : (l : Line) (first second : List Line)
    → lines_text (l ∷ first ++ second) ≡ (line_text l ++ lines_text first) ++ lines_text second
lines_three l first second =
    ap (λ t. line_text l ++ t) (flat_map-append line_text first second)
    ∙ sym (append_assoc (line_text l) (lines_text first) (lines_text second))

-- ---- tuples

-- the next tuple and a bar, and the tuples behind them
pub tuples_step : (width bars : ℕ) (rest : List (List ℕ)) → 0 < bars
    → fields_text (tuples_of width bars rest)
    ≡ (fields_text (take width rest) ++ 32 ∷ codes "|") ++ fields_text (tuples_of width (bars - 1) (drop width rest))
tuples_step width zero rest lt = absurd (omega arith)
tuples_step width (suc bars) rest lt =
    flat_map-append (λ field. 32 ∷ field) (take width rest) (codes "|" ∷ tuples_of width bars (drop width rest))
    ∙ sym (append_assoc (fields_text (take width rest)) (32 ∷ codes "|") (fields_text (tuples_of width bars (drop width rest))))
    ∙ ap (λ n. (fields_text (take width rest) ++ 32 ∷ codes "|") ++ fields_text (tuples_of width n (drop width rest)))
    (sym (suc_minus_one bars))

suc_times : (n m : ℕ) → suc n * m ≡ m + n * m
suc_times n m = suc-mul n m ∙ add_comm (n * m) m

-- so many tuples of equal length are in the list
pub enough_first : (n tuples : ℕ) → 0 < tuples → n / tuples + (tuples - 1) * (n / tuples) ≤ n
enough_first n zero lt = absurd (omega arith)
enough_first n (suc bars) lt =
    rw (suc_minus_one bars) (enough (n / suc bars * suc bars) (n / suc bars + bars * (n / suc bars))
    (n % suc bars) (mul_comm (n / suc bars) (suc bars) ∙ suc_times bars (n / suc bars)) (div-add-mod' n (suc bars)))
  where
    enough : (p q rest : ℕ) → p ≡ q → p + rest ≡ n → q ≤ n
    enough p q rest turned all = omega arith

-- ---- heads

-- a line of a word and three fields
pub line_third : (word first second third : List ℕ)
    → line_text (line word (first ∷ second ∷ third ∷ [])) ≡ (((word ++ 32 ∷ first) ++ 32 ∷ second) ++ 32 ∷ third) ++ 10 ∷ []
line_third word first second third =
    line_further word first second (third ∷ []) ∙ ap (λ t. ((word ++ 32 ∷ first) ++ 32 ∷ second) ++ (32 ∷ t ++ 10 ∷ [])) (append-nil third)
    ∙ sym (append_assoc ((word ++ 32 ∷ first) ++ 32 ∷ second) (32 ∷ third) (10 ∷ []))

abbrev pub first_line : ℕ → List ℕ → Line
first_line version mode = line (codes "pddlstream") (decimal version ∷ mode ∷ [])

abbrev pub pool_lines : Task → List Pool → List Line
pool_lines task pools = map (λ pool. pool_line (shown_pool task pool)) pools

pools_shown : (task : Task) (pools : List Pool)
    → lines_text (map pool_line (map (shown_pool task) pools)) ≡ lines_text (pool_lines task pools)
pools_shown task pools =
    flat_map-map line_text pool_line (map (shown_pool task) pools)
    ∙ flat_map-map (λ shown. line_text (pool_line shown)) (shown_pool task) pools
    ∙ sym (flat_map-map line_text (λ pool. pool_line (shown_pool task pool)) pools)

-- the first lines of a report: the version and the mode, the limits, and the pools
pub shown_parts : (version : ℕ) (mode : Mode) (word : List ℕ) (calls states depth : ℕ) (pools : List PoolLine)
    → word ≡ mode_word mode
    → lines_text (head_lines version mode calls states depth pools)
    ≡ (line_text (first_line version word) ++ line_text (limits_line calls states depth)) ++ lines_text (map pool_line pools)
shown_parts version mode word calls states depth pools is =
    sym (append_assoc (line_text (first_line version (mode_word mode))) (line_text (limits_line calls states depth))
    (lines_text (map pool_line pools)))
    ∙ ap (λ w. (line_text (first_line version w) ++ line_text (limits_line calls states depth))
    ++ lines_text (map pool_line pools)) (sym is)

pub head_parts : (task : Task) (head : Head) (mode : List ℕ) → mode ≡ mode_word head.mode
    → text_of_head task head
    ≡ (line_text (first_line head.version mode) ++ line_text (limits_line head.calls head.states head.depth))
    ++ lines_text (pool_lines task head.pools)
head_parts task head mode is =
    shown_parts head.version head.mode mode head.calls head.states head.depth (map (shown_pool task) head.pools) is
    ∙ ap (λ t. (line_text (first_line head.version mode) ++ line_text (limits_line head.calls head.states head.depth)) ++ t)
    (pools_shown task head.pools)

-- the line of a pool up to its end
pub pool_parts : (task : Task) (pool : Pool)
    → line_text (pool_line (shown_pool task pool))
    ≡ ((codes "pool" ++ 32 ∷ decimal pool.workers) ++ fields_text (map (stream_name task) pool.streams)) ++ 10 ∷ []
pool_parts task pool =
    line_more (codes "pool") (decimal pool.workers) (map (stream_name task) pool.streams)
    ∙ sym (append_assoc (codes "pool" ++ 32 ∷ decimal pool.workers) (fields_text (map (stream_name task) pool.streams)) (10 ∷ []))

-- ---- outcomes

pub plan_parts : (l c : Line) (steps rest : List Line)
    → lines_text (l ∷ steps ++ c ∷ rest) ≡ (lines_text (l ∷ steps) ++ line_text c) ++ lines_text rest
plan_parts l c steps rest =
    ap (λ t. line_text l ++ t) (flat_map-append line_text steps (c ∷ rest))
    ∙ sym (append_assoc (line_text l) (lines_text steps) (line_text c ++ lines_text rest))
    ∙ sym (append_assoc (line_text l ++ lines_text steps) (line_text c) (lines_text rest))

-- the end of the line of an object, where the tuple is shown
pub tuple_shown : (version tuple : ℕ) → (version == 1) ≡ false
    → fields_text (if version == 1 then [] else decimal tuple ∷ []) ++ 10 ∷ [] ≡ 32 ∷ decimal tuple ++ 10 ∷ []
tuple_shown version tuple is = rw is (ap (λ t. 32 ∷ t ++ 10 ∷ []) (append-nil (decimal tuple)))
