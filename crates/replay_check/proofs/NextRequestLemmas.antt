-- Whether a request is the one that is due, field by field.
use Rattle.std.proofs.Common.{◌≡◌, ℕ, Bool, true, false, ◌&&◌, ◌==◌, List, map, refl, eqb-true, eq-eqb}
use Rattle.std.specs.Cmp.Lexicographic.{pointwise, pointwise_decides}
use Rattle.lemmas.proofs.Bools.{and_four}
use Rattle.gen_lines.specs.Request.{stream_name}
use Rattle.task_model.proofs.KnownLemmas.{numbers_decided}
use Rattle.task_model.specs.Known.{same_numbers}
use Rattle.task_model.specs.Streams.{Note, name_at, yields_of}
use Rattle.task_model.specs.declared.stream.Instance.{Instance}
use Rattle.task_model.specs.declared.task.Task.{Task}
use Rattle.replay_check.specs.Talks.{is_same_request}
use Rattle.transcript_model.specs.Names.{call_of_instance}
use Rattle.transcript_model.specs.declared.entry.Call.{Call}
use Rattle.transcript_model.specs.declared.entry.Entry.TheVariants as entry

four_parts : (a b c d : Bool) → (a && b && c && d) ≡ true
    → (a ≡ true) × (b ≡ true) × (c ≡ true) × (d ≡ true)
four_parts true true true d e = (refl, refl, refl, e)
four_parts true true false d e = absurd (cc)
four_parts true false c d e = absurd (cc)
four_parts false b c d e = absurd (cc)

module _ (task : Task) (names : List (List ℕ)) (notes : List Note) (number : ℕ) (i : Instance) (shown turn : ℕ) (call : Call) where
  pub same_yes : is_same_request task names notes number i shown turn call ≡ true
      → entry.Ask shown turn call ≡ entry.Ask number (yields_of notes i) (call_of_instance task names i)
  same_yes e =
      let p = four_parts (shown == number) (turn == yields_of notes i)
      (same_numbers call.name (stream_name task i.stream)) (pointwise same_numbers call.args (map (name_at names) i.inputs)) e in
      let first : shown ≡ number = eqb-true shown number p.0 in
      let second : turn ≡ yields_of notes i = eqb-true turn (yields_of notes i) p.1 in
      let third : call.name ≡ stream_name task i.stream = (numbers_decided call.name (stream_name task i.stream)).0 p.2 in
      let fourth : call.args ≡ map (name_at names) i.inputs =
      (pointwise_decides numbers_decided call.args (map (name_at names) i.inputs)).0 p.3 in
      λ k. entry.Ask (first k) (second k) (record { name = third k; args = fourth k })

  pub same_no : entry.Ask shown turn call ≡ entry.Ask number (yields_of notes i) (call_of_instance task names i)
      → is_same_request task names notes number i shown turn call ≡ true
  same_no e =
      let first : shown ≡ number = cc in
      let second : turn ≡ yields_of notes i = cc in
      let calls : call ≡ call_of_instance task names i = cc in
      and_four (shown == number) (turn == yields_of notes i)
      (same_numbers call.name (stream_name task i.stream)) (pointwise same_numbers call.args (map (name_at names) i.inputs))
      (eq-eqb shown number first)
      (eq-eqb turn (yields_of notes i) second)
      ((numbers_decided call.name (stream_name task i.stream)).1 (λ k. (calls k).name))
      ((pointwise_decides numbers_decided call.args (map (name_at names) i.inputs)).1 (λ k. (calls k).args))
