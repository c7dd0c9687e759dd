use Rattle.std.proofs.Common.{◌++◌, ◌∷◌, [], List, ℕ, codes, sym}
use Rattle.std.specs.Fmt.{decimal}
use Rattle.report_text.specs.Texts.{fields_text, line_text, pool_line}
use Rattle.report_text.proofs.PrintsLemmas.{behind_cut, behind_last, behind_next, behind_none}
use Rattle.report_text.proofs.TextsLemmas.{line_more}
use Rattle.report_text.proofs.write_report.put_pool_line.Goals as goal

-- what begins the line of a pool
abbrev begun : ℕ → List ℕ
begun workers = codes "pool" ++ 32 ∷ decimal workers

pub returns-in_err-put_begun-clause-told : goal.returns-in_err-put_begun-clause-told
returns-in_err-put_begun-clause-told g c =
    let pool = c.args.pool.now in
    behind_cut c.from_residual.result c.in_err-put_begun.field-0.0 (g.O.Sink.taken c.args.out.now) (g.O.Sink.taken c.args.out.now)
    (g.O.Sink.taken c.put_begun.new.out) (begun pool.workers) (line_text (pool_line pool)) (fields_text pool.streams ++ 10 ∷ []) _
    (line_more (codes "pool") (decimal pool.workers) pool.streams) c.from_residual.ensures.1
    (behind_none (g.O.Sink.taken c.args.out.now) (line_text (pool_line pool))) c.in_err-put_begun.ensures.told

pub returns-in_err-put_names-clause-told : goal.returns-in_err-put_names-clause-told
returns-in_err-put_names-clause-told g c =
    let pool = c.args.pool.now in
    let all = line_text (pool_line pool) in
    let first = behind_next (g.O.Sink.taken c.args.out.now) (g.O.Sink.taken c.args.out.now) (g.O.Sink.taken c.put_begun.new.out)
    (begun pool.workers) all (fields_text pool.streams ++ 10 ∷ []) all (line_more (codes "pool") (decimal pool.workers) pool.streams)
    c.in_ok-put_begun.ensures.told (behind_none (g.O.Sink.taken c.args.out.now) all) in
    behind_cut c.from_residual-in_err-put_names.result c.in_err-put_names.field-0.0 (g.O.Sink.taken c.args.out.now)
    (g.O.Sink.taken c.put_begun.new.out) (g.O.Sink.taken c.put_names.new.out) (fields_text c.as_slice.result.now)
    (fields_text pool.streams ++ 10 ∷ []) (10 ∷ []) all (λ i. fields_text (sym c.as_slice.ensures i) ++ 10 ∷ [])
    c.from_residual-in_err-put_names.ensures.1 first c.in_err-put_names.ensures.told

pub returns-clause-told : goal.returns-clause-told
returns-clause-told g c =
    let pool = c.args.pool.now in
    let all = line_text (pool_line pool) in
    let first = behind_next (g.O.Sink.taken c.args.out.now) (g.O.Sink.taken c.args.out.now) (g.O.Sink.taken c.put_begun.new.out)
    (begun pool.workers) all (fields_text pool.streams ++ 10 ∷ []) all (line_more (codes "pool") (decimal pool.workers) pool.streams)
    c.in_ok-put_begun.ensures.told (behind_none (g.O.Sink.taken c.args.out.now) all) in
    let second = behind_next (g.O.Sink.taken c.args.out.now) (g.O.Sink.taken c.put_begun.new.out) (g.O.Sink.taken c.put_names.new.out)
    (fields_text c.as_slice.result.now) (fields_text pool.streams ++ 10 ∷ []) (10 ∷ []) all
    (λ i. fields_text (sym c.as_slice.ensures i) ++ 10 ∷ []) c.in_ok-put_names.ensures.told first in
    behind_last c.put.result (g.O.Sink.taken c.args.out.now) (g.O.Sink.taken c.put_names.new.out) (g.O.Sink.taken c.put.new.out)
    (10 ∷ []) all second c.put.ensures.told
