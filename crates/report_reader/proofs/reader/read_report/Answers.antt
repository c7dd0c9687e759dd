use Rattle.std.proofs.Common.{◌≡◌, ◌∙◌, ◌≤◌, [], Some, refl, length, ap, subst, arith}
use Rattle.gen_lines.specs.Lines.{unfinished}
use Rattle.report_text.specs.Forms.{IsFormed}
use Rattle.report_text.specs.Places.{first}
use Rattle.report_text.specs.Texts.{lines_of_report}
use Rattle.report_reader.specs.Finding.{PartReads, Stops}
use Rattle.report_reader.specs.Splits.{field_lines}
use Rattle.report_reader.proofs.FindingFaultLemmas.{stop_is_fault, left_is_fault, rest_is_fault, report_is_text, few_lines, told_line}
use Rattle.report_reader.proofs.reader.read_report.Goals as goal
use Rattle.report_reader.proofs.reader.read_report.Goals.{then-left-gt0-via-then-left-gt0, then-left-gt0-via-else-left-gt0+then-not-ends_with_feed}

pub overflow_add-fault : goal.overflow_add-fault
overflow_add-fault c =
    let total : c.count-total.result ≡ length (field_lines c.args.bytes.now) = c.count-total.ensures ∙ ap length c.of-lines.ensures in
    let few : c.count-total.result ≤ length c.args.bytes.now = omega (arith, total, few_lines c.args.bytes.now) in
    omega (arith, few, c.requires)

pub overflow_cast-fault : goal.overflow_cast-fault
overflow_cast-fault c =
    let total : c.count-total.result ≡ length (field_lines c.args.bytes.now) = c.count-total.ensures ∙ ap length c.of-lines.ensures in
    let few : c.count-total.result ≤ length c.args.bytes.now = omega (arith, total, few_lines c.args.bytes.now) in
    omega (arith, few, c.requires)

pub returns-in_default-found-clause-fault : goal.returns-in_default-found-clause-fault
returns-in_default-found-clause-fault c =
    let bytes = c.args.bytes.now in
    let new = c.report_in.new.lines in
    let stops : Stops first c.of-lines.result new =
    subst (λ f. PartReads first IsFormed lines_of_report f c.of-lines.result new) c.in_default-found.is c.in-Ok.ensures in
    let whole : Stops first (field_lines bytes) new = subst (λ l. Stops first l new) c.of-lines.ensures stops in (
      refl,
      told_line bytes c.of-lines.result new c.count-total.result c.count-left.result c.of-lines.ensures c.count-total.ensures
          c.count-left.ensures (stop_is_fault bytes new whole),
    )

pub returns-then-left-gt0-clause-fault : goal.returns-then-left-gt0-clause-fault
returns-then-left-gt0-clause-fault c =
    let bytes = c.args.bytes.now in
    let new = c.report_in.new.lines in
    let read : PartReads first IsFormed lines_of_report (Some c.in-Some.report) c.of-lines.result new =
    subst (λ f. PartReads first IsFormed lines_of_report f c.of-lines.result new) c.in-Some.is c.in-Ok.ensures in
    let told = told_line bytes c.of-lines.result new c.count-total.result c.count-left.result c.of-lines.ensures c.count-total.ensures
    c.count-left.ensures in
    elim c.then-left-gt0.branch [
      | then-left-gt0-via-then-left-gt0 w ↦ (
        refl,
        told (left_is_fault bytes c.in-Some.report new read.0
            (read.1 ∙ c.of-lines.ensures) (λ none. omega (arith, none, c.count-left.ensures, w.if-left-gt0.true))),
      )
      | then-left-gt0-via-else-left-gt0+then-not-ends_with_feed w ↦
          let none : length new ≡ 0 = omega (arith, c.count-left.ensures, w.if-left-gt0.false) in
          let open_end : ¬ (unfinished bytes ≡ []) = λ e. absurd (cc (w.ends_with_feed.ensures.1 e, w.if-not-ends_with_feed.true)) in
          (refl, told (rest_is_fault bytes c.in-Some.report new read.0 (read.1 ∙ c.of-lines.ensures) none open_end))
    ]

pub returns-clause-ok : goal.returns-clause-ok
returns-clause-ok c =
    let bytes = c.args.bytes.now in
    let new = c.report_in.new.lines in
    let read : PartReads first IsFormed lines_of_report (Some c.in-Some.report) c.of-lines.result new =
    subst (λ f. PartReads first IsFormed lines_of_report f c.of-lines.result new) c.in-Some.is c.in-Ok.ensures in
    let none : length new ≡ 0 = omega (arith, c.count-left.ensures, c.if-left-gt0.false) in
    let ended : unfinished bytes ≡ [] = c.ends_with_feed.ensures.0 c.if-not-ends_with_feed.false in
    (read.0, report_is_text bytes c.in-Some.report new (read.1 ∙ c.of-lines.ensures) none ended)
