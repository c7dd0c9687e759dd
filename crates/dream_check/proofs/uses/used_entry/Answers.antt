use Rattle.std.proofs.Common.{◌≡◌, ◌+◌, ◌-◌, ◌<◌, ◌≤◌, ◌∙◌, ℕ, List, true, false, inl, inr, slice_get, length, sym, ap, rules, tests}
use Rattle.lemmas.proofs.ListTests.{get_there}
use Rattle.task_model.specs.Dreams.{is_supported}
use Rattle.transcript_model.specs.Names.{call_of_instance}
use Rattle.dream_check.proofs.UsesLemmas.{one_more, out_of_reach, shown_otherwise, unsupported}
use Rattle.dreaming.specs.Parts.{entries_at}
use Rattle.dream_check.proofs.uses.used_entry.Goals.{then-number-next-via-then-number-next, then-number-next-via-else-number-next+then-len-number}
use Rattle.dream_check.proofs.uses.used_entry.Goals as goal

pub returns-then-number-next : goal.returns-then-number-next
returns-then-number-next c = λ uses used.
    let l = c.args.listing.now in
    let out = out_of_reach l.task.now l.supposed.now uses c.args.part.now.places c.args.used.now used c.args.next c.requires.next in
    elim c.then-number-next.branch [
      | then-number-next-via-then-number-next w ↦
          let early : c.args.used.now.number ≤ c.args.next = search (rules, tests) in out (inl early)
      | then-number-next-via-else-number-next+then-len-number w ↦
          let far : length l.supposed.now.list < c.args.used.now.number = search (rules, tests) in out (inr far)
    ]

pub returns-then-not-branch : goal.returns-then-not-branch
returns-then-not-branch c = λ uses used.
    let l = c.args.listing.now in
    let place = c.args.used.now.number - 1 in
    let within : place < length l.supposed.now.list = search (rules, tests) in
    let there = get_there l.supposed.now.list place within in
    let number : c.args.used.now.number ≡ place + 1 = search (rules, tests) in
    let no : c.in_ok-is_shown.field-0 ≡ false = search (rules, tests) in
    shown_otherwise l.task.now l.supposed.now uses c.args.part.now.places c.args.used.now used place there.0 there.1 number (λ shown.
    let yes : c.in_ok-is_shown.field-0 ≡ true =
    (c.in_ok-is_shown.ensures there.0 there.1).1
    (shown ∙ ap (λ (names : List (List ℕ)). call_of_instance l.task.now names there.0.instance) (sym c.requires.names)) in
    absurd (cc))

pub returns-then-not-supports : goal.returns-then-not-supports
returns-then-not-supports c = λ uses used.
    let l = c.args.listing.now in
    let d = l.supposed.now in
    let place = c.args.used.now.number - 1 in
    let within : place < length d.list = search (rules, tests) in
    let there = get_there d.list place within in
    let number : c.args.used.now.number ≡ place + 1 = search (rules, tests) in
    let no : c.supports.result ≡ false = search (rules, tests) in
    let p = c.requires.part in
    let at = ap (λ es. slice_get es place) p.list ∙ there.1 in
    unsupported l.task.now d uses c.args.part.now.places c.args.used.now used place there.0 there.1 number
    ((λ k. is_supported l.task.now (sym p.base k) (sym p.list k) (entries_at (sym p.list k) c.args.part.now.places) there.0)
    ∙ sym (c.supports.ensures there.0 at) ∙ no)

pub returns : goal.returns
returns c = λ uses used.
    let l = c.args.listing.now in
    let d = l.supposed.now in
    let place = c.args.used.now.number - 1 in
    let within : place < length d.list = search (rules, tests) in
    let there = get_there d.list place within in
    let number : c.args.used.now.number ≡ place + 1 = search (rules, tests) in
    let yes : c.in_ok-is_shown.field-0 ≡ true = search (rules, tests) in
    let has : c.supports.result ≡ true = search (rules, tests) in
    let late : c.args.next ≤ place = search (rules, tests) in
    let p = c.requires.part in
    let at = ap (λ es. slice_get es place) p.list ∙ there.1 in (
      within,
      one_more l.task.now d uses c.args.part.now.places c.args.used.now used place there.0 there.1 ((c.requires.next place).0 late) number
          ((c.in_ok-is_shown.ensures there.0 there.1).0 yes
          ∙ ap (λ (names : List (List ℕ)). call_of_instance l.task.now names there.0.instance) c.requires.names)
          ((λ k. is_supported l.task.now (sym p.base k) (sym p.list k) (entries_at (sym p.list k) c.args.part.now.places) there.0)
          ∙ sym (c.supports.ensures there.0 at) ∙ has),
    )
