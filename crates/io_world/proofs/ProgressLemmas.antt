-- Children that moved on.
use Rattle.std.proofs.Common.{◌≡◌, ◌≢◌, ℕ, ◌+◌, ◌<◌, arith, List, length, set, sym, ap, subst, ◌∙◌, length-set}
use Rattle.std.proofs.lemmas.List.{get_or-set_other, get_or-set_same}
use Rattle.std.proofs.lemmas.Option.{unwrap_or-slice_get}
use Rattle.io_world.specs.ScriptHostState.{idle, more, progress_of}
use Rattle.io_world.specs.Talks.{Becomes}
use Rattle.io_world.specs.declared.progress.Progress.{Progress}

stands_at : (ps : List Progress) (child : ℕ) (p : Progress) → child < length ps
    → progress_of (set ps child p) child ≡ p
stands_at ps child p within =
    unwrap_or-slice_get (set ps child p) child idle ∙ get_or-set_same ps child p idle within

stand_others : (ps : List Progress) (child k : ℕ) (p : Progress) → k ≢ child
    → progress_of (set ps child p) k ≡ progress_of ps k
stand_others ps child k p other =
    unwrap_or-slice_get (set ps child p) k idle ∙ get_or-set_other ps child k p idle other ∙ sym (unwrap_or-slice_get ps k idle)

moved_twice : (ps : List Progress) (child : ℕ) (mid last : Progress) → child < length ps
    → Becomes child last (progress_of ps) (progress_of (set (set ps child mid) child last))
moved_twice ps child mid last within = record {
  here = stands_at (set ps child mid) child last (omega (arith, within, length-set ps child mid));
  others = λ k other. stand_others (set ps child mid) child k last other ∙ stand_others ps child k mid other;
}

-- a child that was read from, and gave so many bytes
pub gave : (ps old : List Progress) (child count reads : ℕ) (before mid : Progress) → child < length ps → ps ≡ old
    → before ≡ progress_of ps child → reads ≡ more before.reads 1
    → Becomes child
    (record (progress_of old child) { reads = more (progress_of old child).reads 1; position = (progress_of old child).position + count })
    (progress_of old) (progress_of (set (set ps child mid) child (record before { reads = reads; position = before.position + count })))
gave ps old child count reads before mid within same is once =
    let last = record before { reads = reads; position = before.position + count } in
    let now = set (set ps child mid) child last in
    let moved : last
    ≡ record (progress_of ps child) { reads = more (progress_of ps child).reads 1; position = (progress_of ps child).position + count }
    = ap (λ r. record before { reads = r; position = before.position + count }) once
    ∙ ap (λ (b : Progress). record b { reads = more b.reads 1; position = b.position + count }) is in
    subst (λ qs. Becomes child
    (record (progress_of qs child) { reads = more (progress_of qs child).reads 1; position = (progress_of qs child).position + count })
    (progress_of qs) (progress_of now)) same
    (subst (λ p. Becomes child p (progress_of ps) (progress_of now)) moved (moved_twice ps child mid last within))
