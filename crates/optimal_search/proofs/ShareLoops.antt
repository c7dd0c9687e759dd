-- Shares that are lowered one after another.
use Rattle.std.proofs.Common.{◌≡◌, ℕ, ◌+◌, ◌<◌, Bool, List, ◌++◌, map, length, take, drop, get_or, slice_set, sym, ap, ◌∙◌}
use Rattle.std.proofs.lemmas.List.Edits.{map_over_more}
use Rattle.task_model.specs.declared.fact.Atom.{Atom}
use Rattle.optimal_search.specs.Share.{lesser, lowered}
use Rattle.optimal_search.specs.declared.share.Share.{Share}

pub lowered_next : (comes : Atom → Bool) (most : ℕ) (old now : List Share) (i : ℕ) (s : Share) (part : ℕ) (b : Bool)
    → i < length old → now ≡ map (lowered comes most) (take i old) ++ drop i old → s ≡ get_or now i s
    → part ≡ lesser b (get_or now i s).part most → b ≡ comes (get_or now i s).goal
    → slice_set now i (record { goal = (get_or now i s).goal; part = part })
    ≡ map (lowered comes most) (take (i + 1) old) ++ drop (i + 1) old
lowered_next comes most old now i s part b inside front same lower test =
    let there = get_or now i s in
    let new : record { goal = there.goal; part = part } ≡ lowered comes most s =
    (λ j. record { goal = there.goal; part = (lower ∙ ap (λ c. lesser c there.part most) test) j })
    ∙ ap (lowered comes most) (sym same) in
    ap (slice_set now i) new ∙ map_over_more (lowered comes most) old now i s inside front same
