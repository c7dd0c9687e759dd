use Rattle.std.proofs.Common.{◌≡◌, ◌++◌, ℕ, List, drop, length, take}
use Rattle.stream_map.specs.Served.{AreMarks, has_repeat}
use Rattle.stream_map.proofs.served.mark.Given as goal

-- what was passed is marked, and the repeats are those of what is left
abbrev pub invariant-loop-stream : goal.invariant-loop-stream
invariant-loop-stream l = record {
  count : length l.marks.items ≡ length l.initial.marks.items;
  marks : (before : List ℕ) → AreMarks before l.initial.marks.items
      → AreMarks (before ++ take l.stream-index l.streams) l.marks.items;
  repeats : (before : List ℕ) → AreMarks before l.initial.marks.items
      → has_repeat before l.streams ≡ has_repeat (before ++ take l.stream-index l.streams) (drop l.stream-index l.streams);
}
