-- Which line may stand at which place of a report, and which place follows.
use Rattle.std.specs.Prelude.{◌≡◌, ℕ, zero, suc, ◌<◌, ◌≤◌, ◌^◌, ◌⊎◌, List, [], ◌∷◌, ◌++◌, map, length, take, drop, codes, Bool, true, false}
use Rattle.std.specs.Fmt.{decimal}
use Rattle.report_text.specs.Forms.{IsNumber, IsSmall, IsTerm, IsFormedCall, IsFormedUse, IsFormedEntry, IsFormedOrigin, IsFormedPool}
use Rattle.report_text.specs.Texts.{Line, line, fields_text, use_line, step_line, do_line, from_line, limit_word, mode_word, entry_lines, pool_line, done_line}
use Rattle.transcript_model.specs.declared.entry.Call.{Call}
use Rattle.transcript_model.specs.declared.entry.DreamUse.{DreamUse}
use Rattle.transcript_model.specs.declared.entry.Entry.{Entry}
use Rattle.transcript_model.specs.declared.entry.Entry.TheVariants as entry
use Rattle.transcript_model.specs.declared.head.Mode.{Mode}
use Rattle.transcript_model.specs.declared.head.PoolLine.{PoolLine}
use Rattle.transcript_model.specs.declared.outcome.LimitKind.{LimitKind}
use Rattle.transcript_model.specs.declared.outcome.Origin.{Origin}

-- A place: before the first or second line, among pools, among entries, in a dream with so many entries and steps left,
-- in a plan with so many steps left, before its cost, among its origins, before the last line, and behind it.
pub data Place : Type 0 where
  first : Place
  limits : (version : ℕ) → Place
  pools : (version : ℕ) → Place
  entries : (version : ℕ) → Place
  dream : (version uses steps : ℕ) → Place
  plan : (version steps : ℕ) → Place
  cost : (version : ℕ) → Place
  origins : (version : ℕ) → Place
  last : Place
  behind : Place

-- where so many entries and steps of a dream are left
abbrev pub dreaming : ℕ → ℕ → ℕ → Place
dreaming version zero zero = entries version
dreaming version zero (suc steps) = dream version zero (suc steps)
dreaming version (suc uses) steps = dream version (suc uses) steps

-- where so many steps of a plan are left
abbrev pub planning : ℕ → ℕ → Place
planning version zero = cost version
planning version (suc steps) = plan version (suc steps)

abbrev pub dream_line : ℕ → ℕ → Line
dream_line uses steps = line (codes "dream") (decimal uses ∷ decimal steps ∷ [])

abbrev pub plan_line : ℕ → Line
plan_line steps = line (codes "plan") (decimal steps ∷ [])

abbrev pub cost_line : ℕ → Line
cost_line c = line (codes "cost") (decimal c ∷ [])

abbrev pub no_plan_line : Line
no_plan_line = line (codes "no") (codes "plan" ∷ [])

abbrev pub limit_line : LimitKind → Line
limit_line kind = line (codes "limit") (limit_word kind ∷ [])

abbrev pub first_line : ℕ → Mode → Line
first_line version mode = line (codes "pddlstream") (decimal version ∷ mode_word mode ∷ [])

abbrev pub limits_line : ℕ → ℕ → ℕ → Line
limits_line calls states depth =
    line (codes "limits") (decimal calls ∷ decimal states ∷ decimal depth ∷ [])

abbrev pub is_dream : Entry → Bool
is_dream (entry.Dream uses steps) = true
is_dream e = false

-- an entry of one line
pub record IsEntryLine (version : ℕ) (l : Line) : Type 0 where
  pub entry : Entry
  pub formed : IsFormedEntry version entry
  pub single : is_dream entry ≡ false
  pub is : entry_lines entry ≡ l ∷ []

-- a line among the entries: an entry, the beginning of a dream or of a plan, or another outcome
abbrev pub IsBodyStep : ℕ → Line → Place → Type 0
IsBodyStep version l next =
    (IsEntryLine version l × (next ≡ entries version))
    ⊎ (((uses : ℕ) × (steps : ℕ) × IsNumber uses × IsNumber steps × (l ≡ dream_line uses steps)
    × (next ≡ dreaming version uses steps))
    ⊎ (((steps : ℕ) × IsNumber steps × (l ≡ plan_line steps) × (next ≡ planning version steps))
    ⊎ (((l ≡ no_plan_line) ⊎ ((kind : LimitKind) × (l ≡ limit_line kind))) × (next ≡ last))))

-- the line may stand at the place, and the next place follows
abbrev pub IsLineStep : Place → Line → Place → Type 0
IsLineStep first l next =
    (version : ℕ) × (mode : Mode) × ((version ≡ 1) ⊎ (version ≡ 2)) × (l ≡ first_line version mode)
    × (next ≡ limits version)
IsLineStep (limits version) l next =
    (calls : ℕ) × (states : ℕ) × (depth : ℕ) × IsNumber calls × IsNumber states × IsSmall depth
    × (l ≡ limits_line calls states depth) × (next ≡ pools version)
IsLineStep (pools version) l next =
    ((pool : PoolLine) × IsFormedPool pool × (l ≡ pool_line pool) × (next ≡ pools version)) ⊎ IsBodyStep version l next
IsLineStep (entries version) l next = IsBodyStep version l next
IsLineStep (dream version zero zero) l next = ⊥
IsLineStep (dream version zero (suc steps)) l next =
    (call : Call) × IsFormedCall IsTerm call × (l ≡ step_line call) × (next ≡ dreaming version zero steps)
IsLineStep (dream version (suc uses) steps) l next =
    (u : DreamUse) × IsFormedUse u × (l ≡ use_line u) × (next ≡ dreaming version uses steps)
IsLineStep (plan version zero) l next = ⊥
IsLineStep (plan version (suc steps)) l next =
    (call : Call) × IsFormedCall IsTerm call × (l ≡ do_line call) × (next ≡ planning version steps)
IsLineStep (cost version) l next =
    (c : ℕ) × (c < 2 ^ 64) × (l ≡ cost_line c) × (next ≡ origins version)
IsLineStep (origins version) l next =
    ((o : Origin) × IsFormedOrigin version o × (l ≡ from_line version o) × (next ≡ origins version))
    ⊎ ((l ≡ done_line) × (next ≡ behind))
IsLineStep last l next = (l ≡ done_line) × (next ≡ behind)
IsLineStep behind l next = ⊥

-- the lines may stand from the first place on, one after another, and the second place follows
abbrev pub IsPath : Place → List Line → Place → Type 0
IsPath from [] to = from ≡ to
IsPath from (l ∷ lines) to = (next : Place) × IsLineStep from l next × IsPath next lines to

-- ---- lines as they are written

-- the text of a line, without its line feed
abbrev pub line_body : Line → List ℕ
line_body l = l.first ++ fields_text l.more

-- a line that is written so may stand at the place, and the next place follows
abbrev pub IsTextStep : Place → List ℕ → Place → Type 0
IsTextStep from text next = (l : Line) × (line_body l ≡ text) × IsLineStep from l next

-- lines that are written so may stand from the first place on, and the second follows
abbrev pub IsTextPath : Place → List (List ℕ) → Place → Type 0
IsTextPath from texts to =
    (lines : List Line) × (map line_body lines ≡ texts) × IsPath from lines to

-- The next line may not stand at the place, or it is missing where one has to come.
abbrev pub IsStuck : Place → List (List ℕ) → Type 0
IsStuck at [] = ¬ (at ≡ behind)
IsStuck at (text ∷ texts) = (next : Place) → ¬ (IsTextStep at text next)

-- From the place on so many lines may stand, and no more.
pub record StopsAfter (from : Place) (texts : List (List ℕ)) (n : ℕ) : Type 0 where
  pub within : n ≤ length texts
  pub at : Place
  pub path : IsTextPath from (take n texts) at
  pub stuck : IsStuck at (drop n texts)
