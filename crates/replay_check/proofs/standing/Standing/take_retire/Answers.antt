use Rattle.std.proofs.Common.{◌≡◌, ◌∙◌, ◌+◌, Some, refl, sym, ap}
use Rattle.std.proofs.lemmas.Bool.{false≢true}
use Rattle.course_check.specs.Agendas.{ModeAgenda}
use Rattle.course_check.specs.Places.{unasked}
use Rattle.transcript_model.specs.declared.entry.Entry.TheVariants as entry
use Rattle.replay_check.proofs.WalksPickLemmas.{retire_refused, retire_taken}
use Rattle.replay_check.proofs.standing.Standing.take_retire.Goals as goal

pub returns-in-Some : goal.returns-in-Some
returns-in-Some c =
    let number : c.args.number ≡ c.in-Some.given_up + 1 = c.is_number_of.ensures.0 c.if-is_number_of.true in
    let due = c.in-Some.ensures.some in
    retire_taken c.args.bounds.now c.args.entries.now c.args.place c.args.self.now c.requires.can c.in-Some.given_up
    (c.requires.here ∙ ap (λ n. Some (entry.Retire n)) number) due.0 due.1
    (record { knowledge = c.args.self.now.knowledge; course = c.retire.new.self }) refl (ap (λ (a : ModeAgenda). a.batch) c.retire.ensures) (ap (λ (a : ModeAgenda). a.phase) c.retire.ensures)
    (ap (λ (a : ModeAgenda). a.kept) c.retire.ensures)

pub returns-in_default : goal.returns-in_default
returns-in_default c =
    retire_refused c.args.bounds.now c.args.entries.now c.args.place c.args.self.now c.requires.can c.args.number c.requires.here
    (λ k is phase over.
    let same : unasked k ≡ unasked c.in-Some.given_up = sym phase ∙ c.in-Some.ensures.some.0 in
    let number : c.args.number ≡ c.in-Some.given_up + 1 = is ∙ ap (λ m. m + 1) (let places : k ≡ c.in-Some.given_up = cc in places) in
    false≢true (sym c.if-is_number_of.false ∙ c.is_number_of.ensures.1 number))

pub returns-in_default-2 : goal.returns-in_default-2
returns-in_default-2 c =
    retire_refused c.args.bounds.now c.args.entries.now c.args.place c.args.self.now c.requires.can c.args.number c.requires.here
    (λ k is phase over. c.in_default.ensures.none k over phase)
