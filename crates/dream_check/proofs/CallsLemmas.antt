-- Calls and the instances that they show.
use Rattle.std.proofs.Common.{◌≡◌, ℕ, ◌<◌, ◌↔◌, Bool, List, length, sym, ap, subst, ◌∙◌, Some, None, slice_get, option_map}
use Rattle.std.proofs.lemmas.List.Elements.{All-contains}
use Rattle.std.proofs.lemmas.Option.{same_Some, none-some}
use Rattle.std.specs.Prelude.{IsTrue}
use Rattle.dreaming.proofs.ThinLemmas.{named_entry}
use Rattle.dreaming.specs.Parts.{IsListed}
use Rattle.gen_lines.specs.Request.{stream_name}
use Rattle.lemmas.proofs.Options.{and_then_some}
use Rattle.lemmas.specs.Lists.{AreDistinct}
use Rattle.optimistic_set.specs.Dreamable.{Dreamable}
use Rattle.task_model.proofs.StreamsLemmas.{names_there}
use Rattle.task_model.proofs.KnownLemmas.{numbers_decided}
use Rattle.task_model.proofs.StreamsLemmas.{instances_same, instance_itself}
use Rattle.task_model.specs.Dreams.{SupposedEntry}
use Rattle.task_model.specs.Known.{same_numbers}
use Rattle.task_model.specs.Streams.{same_instance}
use Rattle.task_model.specs.declared.stream.Instance.{Instance}
use Rattle.task_model.specs.declared.stream.Stream.{Stream}
use Rattle.task_model.specs.declared.task.Task.{Task}
use Rattle.transcript_model.proofs.CallNameLemmas.{call_names_instance, places_exact}
use Rattle.transcript_model.proofs.NamesLemmas.{map_some, position_at}
use Rattle.transcript_model.specs.Names.{call_of_instance, instance_of, places_of, stream_named}
use Rattle.transcript_model.specs.declared.entry.Call.{Call}

named_stream : (task : Task) (name : List ℕ) (k : ℕ) → stream_named task name ≡ Some k
    → stream_name task k ≡ name
named_stream task name k is =
    let at = position_at (λ (s : Stream). same_numbers name s.name) task.streams k is in
    rw at.1 (sym ((numbers_decided name at.0.name).0 at.2))

-- a call stands for the instance that it shows
instance_shown : (task : Task) (names : List (List ℕ)) → AreDistinct names → (call : Call) (i : Instance)
    → instance_of task names call ≡ Some i
    → call ≡ call_of_instance task names i
instance_shown task names distinct call i is =
    let stream =
    and_then_some (λ s. option_map (λ (inputs : List ℕ). record { stream = s; inputs = inputs }) (places_of names call.args))
    (stream_named task call.name) i is in
    let inputs = map_some (λ (inputs : List ℕ). record { stream = stream.0; inputs = inputs }) (places_of names call.args) i stream.2 in
    let objects = names_there names call.args inputs.0 ((places_exact names call.args inputs.0 distinct).0 inputs.1) in
    (λ k. record { name = sym (named_stream task call.name stream.0 stream.1) k; args = sym objects k })
    ∙ ap (call_of_instance task names) inputs.2

module _ (task : Task) (d : Dreamable) (h : IsListed task d) (names : List (List ℕ)) (same : names ≡ d.known.names) (place : ℕ)
    (e : SupposedEntry)
    (at : slice_get d.list place ≡ Some e) (call : Call) where
  pub distinct : AreDistinct names
  distinct = subst AreDistinct (sym same) d.coherent.names

  found : call ≡ call_of_instance task names e.instance → instance_of task names call ≡ Some e.instance
  found is =
      let named = named_entry task d place e h at in
      ap (instance_of task names) is
      ∙ call_names_instance task names e.instance h.plain.base.fit distinct named.stream
      (λ o m. subst (λ (ns : List (List ℕ)). o < length ns) (sym same)
      (All-contains (λ object. object < length d.known.names) e.instance.inputs o named.inputs m))

  -- the call stands for this instance, which is that of the entry or isn't
  pub shown_where : (i : Instance) (b : Bool) → instance_of task names call ≡ Some i → b ≡ same_instance i e.instance
      → (IsTrue b ↔ (call ≡ call_of_instance task names e.instance))
  shown_where i b is test = (
    λ yes.
        instance_shown task names distinct call i is
        ∙ ap (call_of_instance task names) (instances_same i e.instance (sym test ∙ yes)),
    λ shown.
        let one : i ≡ e.instance = same_Some i e.instance (sym is ∙ found shown) in
        test ∙ ap (λ j. same_instance j e.instance) one ∙ instance_itself e.instance,
  )

  -- a call that stands for no instance shows none
  pub shown_nowhere : instance_of task names call ≡ None → ¬ (call ≡ call_of_instance task names e.instance)
  shown_nowhere none shown = none-some e.instance (sym none ∙ found shown)
