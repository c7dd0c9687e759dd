use Rattle.std.proofs.Common.{◌≡◌, ◌∙◌, ◌+◌, ℕ, Option, None, Some, is_some, false, drop, refl, sym, ap, nat_eq}
use Rattle.std.specs.Map.{lookup}
use Rattle.std.specs.Option.{option_or}
use Rattle.dream_asks.proofs.ProgressLemmas.{put_none, put_one}
use Rattle.dream_asks.proofs.gone.Gone.put.Goals as goal
use Rattle.dream_asks.proofs.gone.Gone.put.Goals.{then-not-contains_key+in_ok-insert, else-not-contains_key}
use Rattle.transcript_model.specs.Dreaming.{paired}

none_came : (o : Option ℕ) → is_some o ≡ false → o ≡ None
none_came None e = refl
none_came (Some x) e = absurd (cc)

pub loop-place-preserved : goal.loop-place-preserved
loop-place-preserved c =
    let at = c.in-Some.ensures.lookup in
    let x = c.index-outputs-place.result in
    let was = λ (o : ℕ). lookup (nat_eq o) c.loop-place.self-inside.values.entries in
    let then = c.loop-place.invariant in
    let rest = λ (o : ℕ). paired (drop (c.loop-place.place + 1) c.args.outputs.now) (drop (c.loop-place.place + 1) c.args.objects.now) o in
    elim c.if-not-contains_key.branch [
      | then-not-contains_key+in_ok-insert w ↦
          let now = λ (o : ℕ). lookup (nat_eq o) w.insert.new.self.entries in
          let none : was x ≡ None = none_came (was x) (sym c.contains_key.ensures ∙ w.if-not-contains_key.true) in
          record {
            real = ap (λ s. s.real) w.self-inside-is ∙ then.real;
            taken = ap (λ s. s.taken) w.self-inside-is ∙ then.taken;
            left = λ o. then.left o
                ∙ put_one c.args.outputs.now c.args.objects.now c.loop-place.place x c.in-Some.object.now c.loop-place-test.true
                c.index-outputs-place.is at.3.0 at.1 was now none (λ q. w.in_ok-insert.ensures.updates.0 q) o
                ∙ sym (ap (λ s. option_or (lookup (nat_eq o) s.values.entries) (rest o)) w.self-inside-is);
          }
      | else-not-contains_key w ↦ record {
        real = ap (λ s. s.real) w.self-inside-is ∙ then.real;
        taken = ap (λ s. s.taken) w.self-inside-is ∙ then.taken;
        left = λ o. then.left o
            ∙ put_none c.args.outputs.now c.args.objects.now c.loop-place.place x c.in-Some.object.now c.loop-place-test.true
            c.index-outputs-place.is at.3.0 at.1 was (sym c.contains_key.ensures ∙ w.if-not-contains_key.false) o
            ∙ sym (ap (λ s. option_or (lookup (nat_eq o) s.values.entries) (rest o)) w.self-inside-is);
      }
    ]
