-- What the code of a level's course shows: lists that are passed one by one, and rounds of them.
use Rattle.std.proofs.Common.{◌≡◌, ℕ, zero, suc, ◌+◌, ◌-◌, ◌<◌, ◌≤◌, List, [], ◌∷◌, length, take, drop, refl, sym, ap, ◌∙◌, arith, add-one}
use Rattle.std.proofs.Math.ListN.{take-append-drop, length-drop}
use Rattle.std.proofs.Math.Seq.{drop-nil}
use Rattle.std.proofs.lemmas.List.{length-map, length-take-le, take-map, drop-take, drop-map}
use Rattle.instance_queue.specs.Level.{due_instances}
use Rattle.instance_queue.specs.declared.due.Due.{Due}
use Rattle.pools.specs.Pools.{IsLongestFront}
use Rattle.task_model.specs.declared.stream.Instance.{Instance}
use Rattle.transcript_model.specs.Rounds.{Share}
use Rattle.course_check.specs.BatchAgendas.{Agenda, IsSoundAgenda, Starts, shown_agenda, with_asked}
use Rattle.course_check.specs.declared.batch.BatchCourse.TheInside.{Inside}

-- ---- lists

drop_one : {A : Type 0} (n : ℕ) (xs : List A) → drop (suc n) xs ≡ drop 1 (drop n xs)
drop_one zero xs = refl
drop_one (suc n) [] = refl
drop_one (suc n) (x ∷ xs) = drop_one n xs

-- behind one member more
pub behind_next : (n : ℕ) (dues : List Due)
    → due_instances (drop (n + 1) dues) ≡ drop 1 (due_instances (drop n dues))
behind_next n dues =
    ap (λ m. due_instances (drop m dues)) (add-one n) ∙ ap due_instances (drop_one n dues)
    ∙ sym (drop-map (λ (d : Due). d.instance) 1 (drop n dues))

-- so many are between two places
pub between_places : (from to : ℕ) (dues : List Due) → to ≤ length dues
    → length (due_instances (drop from (take to dues))) ≡ to - from
between_places from to dues within =
    length-map (drop from (take to dues)) (λ (d : Due). d.instance) ∙ length-drop from (take to dues)
    ∙ ap (λ n. n - from) (length-take-le to dues within)

none_left : {A : Type 0} (xs : List A) → xs ≡ [] → length xs ≡ 0
none_left xs e = ap length e

pub all_asked : (from to : ℕ) (dues : List Due) → from ≤ to → to ≤ length dues
    → due_instances (drop from (take to dues)) ≡ [] → from ≡ to
all_asked from to dues le within none =
    omega (arith, le, between_places from to dues within, none_left (due_instances (drop from (take to dues))) none)

-- ---- the course

abbrev pub asked_more : Inside → Inside
asked_more s = record { dues = s.dues; asked = s.asked + 1; answered = s.answered; round = s.round; before = s.before; is_cut = s.is_cut }

pub asked_on : (s : Inside) → shown_agenda (asked_more s) ≡ with_asked (shown_agenda s)
asked_on s =
    λ i. record {
      to_ask = behind_next s.asked (take s.round s.dues.items) i;
      next = s.before + s.answered + 1;
      answers = s.round - s.answered;
      later = due_instances (drop s.round s.dues.items);
      is_cut = s.is_cut;
    }

-- all requests are made where none is left
pub none_to_ask : (s : Inside) (a : Agenda) → IsSoundAgenda s → shown_agenda s ≡ a → a.to_ask ≡ []
    → s.asked ≡ s.round
none_to_ask s a sound is none = all_asked s.asked s.round s.dues.items sound.asked sound.round (ap (λ (x : Agenda). x.to_ask) is ∙ none)

pub some_to_answer : (s : Inside) (a : Agenda) → shown_agenda s ≡ a → 0 < a.answers → s.answered < s.round
some_to_answer s a is some = let e = ap (λ (x : Agenda). x.answers) is in omega (arith, e, some)

-- where the last round ends, the next begins
pub next_round : (pools : List Share) (s : Inside) (count : ℕ) → IsSoundAgenda s
    → s.answered + 1 ≡ s.round → s.asked ≡ s.round
    → IsLongestFront pools (due_instances (drop s.round s.dues.items)) count
    → Starts pools (due_instances (drop s.round s.dues.items)) (s.before + s.answered + 1 + 1) s.is_cut
    (shown_agenda (record
    { dues = s.dues; asked = s.asked; answered = s.answered + 1; round = s.round + count; before = s.before; is_cut = s.is_cut }))
next_round pools s count sound last asked front =
    let dues = s.dues.items in
    let list = due_instances (drop s.round dues) in
    let name = λ (d : Due). d.instance in
    let long : length (take count list) ≡ count = length-take-le count list front.within in
    let to_ask : due_instances (drop s.asked (take (s.round + count) dues)) ≡ take count list =
    ap (λ n. due_instances (drop n (take (s.round + count) dues))) asked ∙ ap due_instances (drop-take s.round count dues)
    ∙ sym (take-map name count (drop s.round dues)) in
    let later : due_instances (drop (s.round + count) dues) ≡ drop count list =
    ap due_instances (sym (drop_more s.round count dues)) ∙ sym (drop-map name count (drop s.round dues)) in
    let next : s.before + (s.answered + 1) + 1 ≡ s.before + s.answered + 1 + 1 = omega arith in
    let answers : s.round + count - (s.answered + 1) ≡ length (take count list) = omega (arith, last, long) in
    record {
      round = take count list;
      rest = drop count list;
      parts = sym (take-append-drop count list);
      fit = front.fit;
      full = front.full;
      some = λ workers some. omega (arith, long, front.some workers some);
      is = λ i. record { to_ask = to_ask i; next = next i; answers = answers i; later = later i; is_cut = s.is_cut };
    }
  where
    drop_more : {A : Type 0} (n m : ℕ) (xs : List A) → drop m (drop n xs) ≡ drop (n + m) xs
    drop_more zero m xs = ap (λ k. drop k xs) (let e : m ≡ 0 + m = omega arith in e)
    drop_more (suc n) m [] = drop-nil m ∙ sym (drop-nil (suc n + m))
    drop_more (suc n) m (x ∷ xs) =
        drop_more n m xs
        ∙ ap (λ k. drop k (x ∷ xs)) (let e : suc (n + m) ≡ suc n + m = omega arith in e)

-- the first round of a level
pub first_round : (pools : List Share) (s : Inside) (list : List Instance)
    → list ≡ due_instances s.dues.items → s.asked ≡ 0
    → s.answered ≡ 0 → IsLongestFront pools (due_instances s.dues.items) s.round → Starts pools list (s.before + 1) s.is_cut (shown_agenda s)
first_round pools s list is none first front =
    let dues = s.dues.items in
    let name = λ (d : Due). d.instance in
    let long : length (take s.round (due_instances dues)) ≡ s.round = length-take-le s.round (due_instances dues) front.within in
    let to_ask : due_instances (drop s.asked (take s.round dues)) ≡ take s.round (due_instances dues) =
    ap (λ n. due_instances (drop n (take s.round dues))) none ∙ sym (take-map name s.round dues) in
    let later : due_instances (drop s.round dues) ≡ drop s.round (due_instances dues) = sym (drop-map name s.round dues) in
    let next : s.before + s.answered + 1 ≡ s.before + 1 = omega (arith, first) in
    let answers : s.round - s.answered ≡ length (take s.round (due_instances dues)) = omega (arith, first, long) in
    record {
      round = take s.round (due_instances dues);
      rest = drop s.round (due_instances dues);
      parts = is ∙ sym (take-append-drop s.round (due_instances dues));
      fit = front.fit;
      full = front.full;
      some = λ workers some. omega (arith, long, front.some workers (omega (arith, some, ap length is)));
      is = λ i. record { to_ask = to_ask i; next = next i; answers = answers i; later = later i; is_cut = s.is_cut };
    }
