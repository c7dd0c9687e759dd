-- What the code of a mode's course shows.
use Rattle.std.proofs.Common.{◌≡◌, ℕ, ◌+◌, ◌-◌, min, nat_lt, List, ◌++◌, length, take, refl, sym, ap, ◌∙◌}
use Rattle.std.proofs.lemmas.List.{take-map, take_min}
use Rattle.instance_queue.specs.Level.{due_instances}
use Rattle.instance_queue.specs.declared.due.Due.{Due}
use Rattle.course_check.specs.BatchAgendas.{Agenda, Starts}
use Rattle.course_check.specs.Agendas.{BeginsBatch, ModeAgenda, shown_mode}
use Rattle.course_check.specs.Places.{joining}
use Rattle.course_check.specs.declared.course.ModeCourse.TheInside.{Inside}
use Rattle.course_check.specs.declared.course.Phase.TheVariants.{Resting}
use Rattle.skeletons.specs.Skeletons.{skeletons_in}
use Rattle.task_model.specs.declared.stream.Instance.{Instance}
use Rattle.transcript_model.specs.Rounds.{Share}

-- the first of what is due, as far as calls are left
pub firsts_are : (left count long : ℕ) (dues slice first : List Due) → long ≡ length dues → count ≡ min left long
    → slice ≡ dues → first ≡ take count slice → due_instances first ≡ take left (due_instances dues)
firsts_are left count long dues slice first long_is count_is slice_is first_is =
    ap due_instances
    (first_is ∙ (λ i. take (count_is i) (slice_is i)) ∙ ap (λ n. take (min left n) dues) long_is ∙ take_min left dues)
    ∙ sym (take-map (λ (d : Due). d.instance) left dues)

-- the batch of a dream has begun, and what it asks was joined to what was tried
pub dream_begins : (s : Inside) (a : ModeAgenda) (pools : List Share) (dues : List Due) (before calls : ℕ) (batch : Agenda)
    (tried asked : List Instance) → shown_mode s ≡ a → tried ≡ s.tried ++ asked → asked ≡ take (calls - before) (due_instances dues)
    → Starts pools (take (calls - before) (due_instances dues)) (before + 1) (nat_lt (calls - before) (length dues)) batch
    → BeginsBatch pools dues before calls (joining a.kept (take (calls - before) (due_instances dues)))
    (shown_mode (record { batch = batch; phase = Resting; tried = tried; skeletons = s.skeletons; run = s.run; alloc = s.alloc }))
dream_begins s a pools dues before calls batch tried asked is tried_is asked_is starts =
    let list = take (calls - before) (due_instances dues) in
    let all : tried ≡ s.tried ++ list = tried_is ∙ ap (λ (is : List Instance). s.tried ++ is) asked_is in
    record {
      batch = starts;
      phase_is = refl;
      kept_is =
          (λ i. record { tried = all i; skeletons = skeletons_in s.skeletons.items }) ∙ ap (λ (b : ModeAgenda). joining b.kept list) is;
    }
