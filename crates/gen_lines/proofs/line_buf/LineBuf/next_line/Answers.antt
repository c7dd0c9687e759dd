use Rattle.std.proofs.Common.{rules, arith, ◌≡◌, ◌+◌, ◌∙◌, ℕ, refl, sym, ap, subst, length, length-drop, position, Option, Some, None, IfSome, drop, take, ◌-◌, ◌<◌, vec_len}
use Rattle.lemmas.proofs.Positions.{found_at}
use Rattle.std.specs.Io.BufRead.{strip_last}
use Rattle.gen_lines.specs.Lines.{is_feed}
use Rattle.gen_lines.proofs.LinesLemmas.{lines_none, after_from, line_from, line_short}
use Rattle.gen_lines.proofs.line_buf.LineBuf.next_line.Goals as goal

pub returns-then-room-eq0 : goal.returns-then-room-eq0
returns-then-room-eq0 c =
    let held = c.args.self.now in
    let none : position is_feed held ≡ None = search rules in
    let room : c.room.result + length held ≡ 1025 = ap (λ h. c.room.result + length h) (sym c.self.view_is) ∙ c.room.ensures in
    ((refl, λ _. tt, c.self.view_is), record { after = tt; shown = (lines_none held none, omega arith); short = tt })

pub returns-else-room-eq0 : goal.returns-else-room-eq0
returns-else-room-eq0 c =
    let held = c.args.self.now in
    let none : position is_feed held ≡ None = search rules in
    let room : c.room.result + length held ≡ 1025 = ap (λ h. c.room.result + length h) (sym c.self.view_is) ∙ c.room.ensures in
    ((refl, λ _. tt, c.self.view_is), record { after = tt; shown = (lines_none held none, omega arith); short = tt })

pub returns : goal.returns
returns c =
    let held = c.args.self.now in
    let items = c.self.inside.bytes.items in
    let start = c.self.inside.start in
    let n = c.in-Some.length in
    let line = c.without_return.result.now in
    let some : position is_feed held ≡ Some n = search rules in
    let there : position is_feed (drop start items) ≡ Some n = search rules in
    let from : line ≡ strip_last 13 (take (start + n - start) (drop start items)) = search rules in
    let short : length line < length items = line_short items line start n there from in
    let at = found_at is_feed (drop start items) n there in
    let size : length items ≡ vec_len c.self.inside.bytes = sym (ap length c.deref.ensures.value) ∙ c.deref.ensures.len in (
      (refl, λ _. tt, after_from items held start n c.self.view_is some),
      record {
        after = tt;
        shown = (line_from items held line start n c.self.view_is some from, omega (arith, size, c.self.invariant));
        short = subst (λ (o : Option ℕ). IfSome o (λ count. count < 1025)) (sym some)
            (omega (arith, at.within, at.place, length-drop start items, size, c.self.invariant));
      },
    )
