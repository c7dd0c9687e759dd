use Rattle.std.proofs.Common.{◌≡◌, ◌<◌, ◌∙◌, sym, ap, subst, length, map, false, Some, None, All, ℕ, List, rules, arith}
use Rattle.stream_map.specs.Faults.{map_fault, have_wrong_workers, served_fault, all_places}
use Rattle.stream_map.specs.Form.{all_stream_names}
use Rattle.stream_map.specs.Served.{streams_in}
use Rattle.stream_map.specs.Spelled.{shown_pool_text}
use Rattle.stream_map.proofs.FaultsLemmas.{all_below, fault_is, refused_from, streams_numbered}
use Rattle.stream_map.proofs.pools.pools_of.Goals as goal

pub served_fault-requires : goal.served_fault-requires
served_fault-requires c =
    let n = c.in_ok-names.names in
    let flat = streams_numbered n c.in_ok-pools.pools.items 0 (map shown_pool_text c.args.texts.items) c.in_ok-pools.ensures.pools in
    let P : List ℕ → Type 0 = All (λ s. s < length n) in
    let low = subst P (sym (ap streams_in c.as_slice-2.ensures.value ∙ flat)) (all_below n (map shown_pool_text c.args.texts.items)) in
    let count : c.len.result ≡ length n = search rules in
    λ k d lt. let here = low k d lt in omega (arith, here, count)

pub returns-in-Some-clause-refused : goal.returns-in-Some-clause-refused
returns-in-Some-clause-refused c =
    let n = c.in_ok-names.names in
    let texts = map shown_pool_text c.args.texts.items in
    let flat = streams_numbered n c.in_ok-pools.pools.items 0 texts c.in_ok-pools.ensures.pools in
    let count : c.len.result ≡ length n = search rules in
    let right : have_wrong_workers texts ≡ false = search rules in
    let told : Some c.in-Some.fault ≡ served_fault (length n) (all_places n texts) =
    sym c.in-Some.is ∙ c.in_ok-fault.ensures ∙ (λ i. served_fault (count i) ((ap streams_in c.as_slice-2.ensures.value ∙ flat) i)) in
    let fault = fault_is n texts (Some c.in-Some.fault) right c.in_ok-pools.ensures.known told in
    refused_from (all_stream_names c.args.task.now) texts c.in-Some.fault
    (ap (λ ns. map_fault ns texts) (sym c.in_ok-names.ensures) ∙ fault)

pub returns-clause-right : goal.returns-clause-right
returns-clause-right c =
    let n = c.in_ok-names.names in
    let texts = map shown_pool_text c.args.texts.items in
    let flat = streams_numbered n c.in_ok-pools.pools.items 0 texts c.in_ok-pools.ensures.pools in
    let count : c.len.result ≡ length n = search rules in
    let right : have_wrong_workers texts ≡ false = search rules in
    let told : None ≡ served_fault (length n) (all_places n texts) =
    sym c.in-None.is ∙ c.in_ok-fault.ensures ∙ (λ i. served_fault (count i) ((ap streams_in c.as_slice-2.ensures.value ∙ flat) i)) in
    ap (λ ns. map_fault ns texts) (sym c.in_ok-names.ensures) ∙ fault_is n texts None right c.in_ok-pools.ensures.known told
