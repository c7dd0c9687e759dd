use Rattle.std.proofs.Common.{None, Some, refl, subst}
use Rattle.report_text.specs.Forms.{IsFormedPool}
use Rattle.report_text.specs.Places.{entries}
use Rattle.report_text.specs.Texts.{pool_line}
use Rattle.report_reader.specs.Body.{IsFirstLine, first_of, IsLimits, limits_line_of, IsBody, body_lines, ending_place, IsOutcomeOf, outcome_rest}
use Rattle.report_reader.specs.Finding.{PartReads, Stops, TakesAll, TakesLine}
use Rattle.report_reader.proofs.BodyLemmas.{first_stop, limits_stop, HasHead, head_then, body_then, report_whole}
use Rattle.report_reader.proofs.whole.report_in.Goals as goal

pub returns-in_default : goal.returns-in_default
returns-in_default c = first_stop c.args.lines.now c.next_first.new.lines c.in_default.ensures

pub returns-in_default-next_limits : goal.returns-in_default-next_limits
returns-in_default-next_limits c =
    let taken : TakesLine IsFirstLine first_of (Some c.in-Some.field-0) c.args.lines.now c.next_first.new.lines = c.in-Some.ensures in
    let none : TakesLine IsLimits limits_line_of None c.next_first.new.lines c.next_limits.new.lines = c.in_default-next_limits.ensures in
    limits_stop c.in-Some.field-0 c.args.lines.now c.next_first.new.lines c.next_limits.new.lines taken none

pub returns-in_default-2 : goal.returns-in_default-2
returns-in_default-2 c =
    let f = c.in-Some.field-0 in
    let l = c.in-Some-next_limits.field-0 in
    let first_taken : TakesLine IsFirstLine first_of (Some f) c.args.lines.now c.next_first.new.lines = c.in-Some.ensures in
    let limits_taken : TakesLine IsLimits limits_line_of (Some l) c.next_first.new.lines c.next_limits.new.lines =
    c.in-Some-next_limits.ensures in
    let pools_taken : TakesAll IsFormedPool pool_line c.in_ok-pools.pools c.next_limits.new.lines c.pools_in.new.lines =
    c.in_ok-pools.ensures in
    let head : HasHead f l c.in_ok-pools.pools c.args.lines.now c.pools_in.new.lines = record {
      second = c.next_first.new.lines;
      third = c.next_limits.new.lines;
      first_line = first_taken;
      limits_line = limits_taken;
      pool_lines = pools_taken;
    } in
    let stops : Stops (entries f.version) c.pools_in.new.lines c.body_in.new.lines =
    subst (λ b. PartReads (entries f.version) (IsBody f.version) body_lines b c.pools_in.new.lines c.body_in.new.lines)
    c.in_default-2.is c.in_ok-entries.ensures in
    head_then f l c.in_ok-pools.pools c.args.lines.now c.pools_in.new.lines c.body_in.new.lines head stops

pub returns-in_default-3 : goal.returns-in_default-3
returns-in_default-3 c =
    let f = c.in-Some.field-0 in
    let l = c.in-Some-next_limits.field-0 in
    let b = c.in-Some-2.field-0 in
    let first_taken : TakesLine IsFirstLine first_of (Some f) c.args.lines.now c.next_first.new.lines = c.in-Some.ensures in
    let limits_taken : TakesLine IsLimits limits_line_of (Some l) c.next_first.new.lines c.next_limits.new.lines =
    c.in-Some-next_limits.ensures in
    let pools_taken : TakesAll IsFormedPool pool_line c.in_ok-pools.pools c.next_limits.new.lines c.pools_in.new.lines =
    c.in_ok-pools.ensures in
    let head : HasHead f l c.in_ok-pools.pools c.args.lines.now c.pools_in.new.lines = record {
      second = c.next_first.new.lines;
      third = c.next_limits.new.lines;
      first_line = first_taken;
      limits_line = limits_taken;
      pool_lines = pools_taken;
    } in
    let body : PartReads (entries f.version) (IsBody f.version) body_lines (Some b) c.pools_in.new.lines c.body_in.new.lines =
    subst (λ x. PartReads (entries f.version) (IsBody f.version) body_lines x c.pools_in.new.lines c.body_in.new.lines) c.in-Some-2.is
    c.in_ok-entries.ensures in
    let stops : Stops (ending_place f.version b.ending) c.body_in.new.lines c.outcome_in.new.lines =
    subst (λ o. PartReads (ending_place f.version b.ending) (IsOutcomeOf f.version b.ending)
    (outcome_rest f.version) o c.body_in.new.lines c.outcome_in.new.lines) c.in_default-3.is c.in_ok-outcome.ensures in
    head_then f l c.in_ok-pools.pools c.args.lines.now c.pools_in.new.lines c.outcome_in.new.lines head
    (body_then f.version b c.pools_in.new.lines c.body_in.new.lines c.outcome_in.new.lines body.0 body.1 stops)

pub returns : goal.returns
returns c =
    let f = c.in-Some.field-0 in
    let l = c.in-Some-next_limits.field-0 in
    let b = c.in-Some-2.field-0 in
    let first_taken : TakesLine IsFirstLine first_of (Some f) c.args.lines.now c.next_first.new.lines = c.in-Some.ensures in
    let limits_taken : TakesLine IsLimits limits_line_of (Some l) c.next_first.new.lines c.next_limits.new.lines =
    c.in-Some-next_limits.ensures in
    let pools_taken : TakesAll IsFormedPool pool_line c.in_ok-pools.pools c.next_limits.new.lines c.pools_in.new.lines =
    c.in_ok-pools.ensures in
    let head : HasHead f l c.in_ok-pools.pools c.args.lines.now c.pools_in.new.lines = record {
      second = c.next_first.new.lines;
      third = c.next_limits.new.lines;
      first_line = first_taken;
      limits_line = limits_taken;
      pool_lines = pools_taken;
    } in
    let body : PartReads (entries f.version) (IsBody f.version) body_lines (Some b) c.pools_in.new.lines c.body_in.new.lines =
    subst (λ x. PartReads (entries f.version) (IsBody f.version) body_lines x c.pools_in.new.lines c.body_in.new.lines) c.in-Some-2.is
    c.in_ok-entries.ensures in
    let outcome : PartReads (ending_place f.version b.ending) (IsOutcomeOf f.version b.ending)
    (outcome_rest f.version) (Some c.in-Some-3.outcome) c.body_in.new.lines c.outcome_in.new.lines =
    subst (λ o. PartReads (ending_place f.version b.ending) (IsOutcomeOf f.version b.ending)
    (outcome_rest f.version) o c.body_in.new.lines c.outcome_in.new.lines) c.in-Some-3.is c.in_ok-outcome.ensures in
    report_whole f l c.in_ok-pools.pools b c.in-Some-3.outcome _ c.args.lines.now c.pools_in.new.lines c.body_in.new.lines
    c.outcome_in.new.lines head body outcome refl
