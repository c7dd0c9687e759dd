-- The streams to which one leads, gone through from the front.
use Rattle.std.proofs.Common.{◌≡◌, ℕ, suc, ◌+◌, ◌<◌, List, ◌∷◌, ◌++◌, length, drop, drop-cons, get_or, sym, ap, ◌∙◌, append_assoc, arith}
use Rattle.task_model.specs.declared.domain.Domain.{Domain}
use Rattle.task_model.specs.declared.stream.Stream.{Stream}
use Rattle.stream_reader.specs.Cycles.{next_streams, next_one}

-- one stream more
pub next_more : (d : Domain) (s : Stream) (all : List Stream) (k : ℕ) (t : Stream) (ns ms : List ℕ)
    → k < length all → t ≡ get_or all k t → ms ≡ ns ++ next_one d s t k
    → next_streams d s 0 all ≡ ns ++ next_streams d s k (drop k all)
    → next_streams d s 0 all ≡ ms ++ next_streams d s (k + 1) (drop (k + 1) all)
next_more d s all k t ns ms lt is e i =
    let next : k + 1 ≡ suc k = omega arith in
    let front : drop k all ≡ t ∷ drop (k + 1) all =
    drop-cons all k t lt ∙ ap (λ x. x ∷ drop (suc k) all) (sym is) ∙ ap (λ n. t ∷ drop n all) (sym next) in
    i ∙ ap (λ ts. ns ++ next_streams d s k ts) front
    ∙ sym (append_assoc ns (next_one d s t k) (next_streams d s (k + 1) (drop (k + 1) all)))
    ∙ ap (λ l. l ++ next_streams d s (k + 1) (drop (k + 1) all)) (sym e)
