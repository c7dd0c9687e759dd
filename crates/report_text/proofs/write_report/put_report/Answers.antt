use Rattle.std.proofs.Common.{◌≡◌, ◌∙◌, ◌++◌, List, ℕ, Option, append_assoc, refl, sym}
use Rattle.std.specs.Io.KnownBytes.{Appends}
use Rattle.std.specs.List.{flat_map}
use Rattle.report_text.specs.Texts.{done_line, head_lines, in_version, line_text, lines_text, text_of_entry, text_of_outcome, text_of_report}
use Rattle.transcript_model.specs.declared.entry.Entry.{Entry}
use Rattle.transcript_model.specs.declared.report.Report.{Report}
use Rattle.report_text.proofs.PrintsLemmas.{IsBehind, behind_cut, behind_last, behind_next, behind_none}
use Rattle.report_text.proofs.write_report.put_report.Goals as goal

-- the first lines of a report in a version
abbrev first_part : ℕ → Report → List ℕ
first_part version r = lines_text (head_lines version r.mode r.calls r.states r.depth r.pools)

-- what comes behind its entries
abbrev last_part : ℕ → Report → List ℕ
last_part version r = text_of_outcome version r.outcome ++ line_text done_line

parts : (version : ℕ) (r : Report)
    → text_of_report (in_version version r) ≡ first_part version r ++ (flat_map text_of_entry r.entries ++ last_part version r)
parts version r =
    append_assoc (first_part version r ++ flat_map text_of_entry r.entries) (text_of_outcome version r.outcome) (line_text done_line)
    ∙ append_assoc (first_part version r) (flat_map text_of_entry r.entries) (last_part version r)

behind_head : (version : ℕ) (r : Report) (old new : Option (List ℕ)) → Appends old new (first_part version r)
    → IsBehind old new (flat_map text_of_entry r.entries ++ last_part version r) (text_of_report (in_version version r))
behind_head version r old new told =
    behind_next old old new (first_part version r) (text_of_report (in_version version r))
    (flat_map text_of_entry r.entries ++ last_part version r) (text_of_report (in_version version r)) (parts version r) told
    (behind_none old (text_of_report (in_version version r)))

behind_entries : (version : ℕ) (r : Report) (entries : List Entry) (old mid new : Option (List ℕ)) → entries ≡ r.entries
    → Appends old mid (first_part version r) → Appends mid new (flat_map text_of_entry entries)
    → IsBehind old new (last_part version r) (text_of_report (in_version version r))
behind_entries version r entries old mid new same first told =
    behind_next old mid new (flat_map text_of_entry entries) (flat_map text_of_entry r.entries ++ last_part version r)
    (last_part version r) (text_of_report (in_version version r)) (λ i. flat_map text_of_entry (sym same i) ++ last_part version r) told
    (behind_head version r old mid first)

pub returns-in_err-put_shown_head-clause-told : goal.returns-in_err-put_shown_head-clause-told
returns-in_err-put_shown_head-clause-told g c =
    let report = c.args.report.now in
    let version = c.args.version in
    let old = g.O.Sink.taken c.args.out.now in
    let all = text_of_report (in_version version report) in
    behind_cut c.from_residual.result c.in_err-put_shown_head.field-0.0 old old (g.O.Sink.taken c.put_shown_head.new.out)
    (first_part version report) all (flat_map text_of_entry report.entries ++ last_part version report) all
    (parts version report) c.from_residual.ensures.1 (behind_none old all) c.in_err-put_shown_head.ensures.told

pub returns-in_err-put_entries-clause-told : goal.returns-in_err-put_entries-clause-told
returns-in_err-put_entries-clause-told g c =
    let report = c.args.report.now in
    let version = c.args.version in
    let old = g.O.Sink.taken c.args.out.now in
    let mid = g.O.Sink.taken c.put_shown_head.new.out in
    let all = text_of_report (in_version version report) in
    behind_cut c.from_residual-in_err-put_entries.result c.in_err-put_entries.field-0.0 old mid (g.O.Sink.taken c.put_entries.new.out)
    (flat_map text_of_entry c.as_slice.result.now) (flat_map text_of_entry report.entries ++ last_part version report)
    (last_part version report) all (λ i. flat_map text_of_entry (sym c.as_slice.ensures i) ++ last_part version report)
    c.from_residual-in_err-put_entries.ensures.1 (behind_head version report old mid c.in_ok-put_shown_head.ensures.told)
    c.in_err-put_entries.ensures.told

pub returns-in_err-put_outcome-clause-told : goal.returns-in_err-put_outcome-clause-told
returns-in_err-put_outcome-clause-told g c =
    let report = c.args.report.now in
    let version = c.args.version in
    let old = g.O.Sink.taken c.args.out.now in
    let mid = g.O.Sink.taken c.put_entries.new.out in
    let all = text_of_report (in_version version report) in
    behind_cut c.from_residual-in_err-put_outcome.result c.in_err-put_outcome.field-0.0 old mid (g.O.Sink.taken c.put_outcome.new.out)
    (text_of_outcome version report.outcome) (last_part version report) (line_text done_line) all refl
    c.from_residual-in_err-put_outcome.ensures.1
    (behind_entries version report c.as_slice.result.now old (g.O.Sink.taken c.put_shown_head.new.out) mid c.as_slice.ensures
    c.in_ok-put_shown_head.ensures.told c.in_ok-put_entries.ensures.told) c.in_err-put_outcome.ensures.told

pub returns-clause-told : goal.returns-clause-told
returns-clause-told g c =
    let report = c.args.report.now in
    let version = c.args.version in
    let old = g.O.Sink.taken c.args.out.now in
    let mid = g.O.Sink.taken c.put_entries.new.out in
    let end = g.O.Sink.taken c.put_outcome.new.out in
    let all = text_of_report (in_version version report) in
    behind_last c.put.result old end (g.O.Sink.taken c.put.new.out) (line_text done_line) all
    (behind_next old mid end (text_of_outcome version report.outcome) (last_part version report) (line_text done_line) all refl
    c.in_ok-put_outcome.ensures.told
    (behind_entries version report c.as_slice.result.now old (g.O.Sink.taken c.put_shown_head.new.out) mid c.as_slice.ensures
    c.in_ok-put_shown_head.ensures.told c.in_ok-put_entries.ensures.told)) c.put.ensures.told
