use Rattle.std.proofs.Common.{◌≡◌, ◌⊎◌, ◌++◌, ◌∷◌, [], inl, inr, length, refl, sym, subst, ap, ◌∙◌, rules}
use Rattle.std.proofs.lemmas.Result.{IfErr-weaker}
use Rattle.std.specs.Option.{option_copied}
use Rattle.report_text.specs.Texts.{text_of_entry}
use Rattle.report_text.specs.Prints.{CutOff}
use Rattle.round_run.proofs.MarkLemmas.{mark_last, marked}
use Rattle.round_run.proofs.DialogueMarkLemmas.{mark_legal}
use Rattle.round_run.proofs.StoppedLemmas.{goes_one, handed, ok_map, on_ok, stopped_at, stopped_memory, write_part}
use Rattle.report_text.proofs.PrintsLemmas.{printed_all}
use Rattle.round_run.proofs.TalkingLemmas.{dialogue_marked, dialogue_told}
use Rattle.round_run.specs.declared.fault.RunFault.TheVariants.{Memory, Write}
use Rattle.round_run.proofs.marks.mark.Goals as goal

pub returns-in_err-mark : goal.returns-in_err-mark
returns-in_err-mark g c = record {
  marks = record {
    marked = search rules;
    kept = search rules;
    goes = search rules;
    stopped =
        λ task running kept spoken h told started.
        let s = c.args.session.now in
        let e = c.args.entry in
        handed c.from_residual.result Memory _ c.from_residual.ensures.1
        (stopped_memory s.version task s.pools spoken (λ es. (es ≡ s.entries) ⊎ (es ≡ s.entries ++ e ∷ [])) s.entries Memory
        (g.O.Sink.taken c.args.out.now) (λ Front more. (more ≡ []) ⊎ (more ≡ e ∷ [])) h.legal (inl refl)
        (dialogue_told task s.version s.pools s.entries (length s.asked) running kept spoken h.counted started told) (inl refl) refl);
    only = search rules;
    cause = search rules;
  };
}

pub returns : goal.returns
returns g c =
    let s = c.args.session.now in
    let e = c.args.entry in
    let m = marked s c.mark.new.self e c.requires.working c.requires.learnt c.in_ok-mark.ensures.ok in
    let is : c.in-Some.last.now ≡ e =
    mark_last s.entries c.entries.result.now e c.in-Some.last.now (c.entries.ensures ∙ m.entries)
    (sym c.last.ensures.value ∙ ap option_copied c.in-Some.is) in
    record {
      marks = record {
        marked = on_ok c.print_entry.result _ m;
        kept = search rules;
        goes = ok_map c.print_entry.result _ _ (goes_one s.entries (s.entries ++ e ∷ []) c.in-Some.last.now
            (g.O.Sink.taken c.args.out.now) (g.O.Sink.taken c.print_entry.new.out) (ap (λ x. s.entries ++ x ∷ []) (sym is)))
            (printed_all c.print_entry.result _ _ _ c.print_entry.ensures.told);
        stopped = λ task running kept spoken h told started.
            let legal = mark_legal s.version task s.entries e c.requires.mark h.legal in
            IfErr-weaker c.print_entry.result _ _ (λ fault misses.
            stopped_at s.version task s.pools spoken (λ es. (es ≡ s.entries) ⊎ (es ≡ s.entries ++ e ∷ [])) s.entries e fault
            (g.O.Sink.taken c.args.out.now) (g.O.Sink.taken c.print_entry.new.out) (λ Front more. (more ≡ []) ⊎ (more ≡ e ∷ [])) legal
            (inr refl)
            (dialogue_marked task s.version s.pools e c.requires.mark s.entries (length s.asked) running kept spoken h.counted started
            told)
            (λ is_write. inr refl)
            (subst (λ x. (fault ≡ Write) × CutOff (g.O.Sink.taken c.args.out.now) (g.O.Sink.taken c.print_entry.new.out)
            (text_of_entry x)) is misses)) (write_part c.print_entry.result _ _ _ c.print_entry.ensures.told c.print_entry.ensures.only);
        only = search rules;
        cause = search rules;
      };
    }
