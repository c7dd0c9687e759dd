use Rattle.std.proofs.Common.{rules, arith, ◌≡◌, ◌++◌, ◌∷◌, [], sym, ap, ◌∙◌, map, take, take_all, append_assoc, codes}
use Rattle.std.specs.Fmt.{decimal}
use Rattle.task_model.specs.Streams.{name_at}
use Rattle.gen_lines.specs.Request.{stream_name}
use Rattle.gen_lines.proofs.RequestLemmas.{spaced, spaced_next, request_written, stream_named}
use Rattle.gen_lines.proofs.request.request_text.Goals as goal

pub loop-object-preserved : goal.loop-object-preserved
loop-object-preserved g c =
    let names = (g.L.Look.known c.args.look.now).names in
    let objects = c.as_slice-object-items.result.now in
    let i = c.loop-object.object-index in
    let before = c.push_word-2.new.text.items in
    let next = spaced_next names objects i c.object-item.result c.name.result.now (omega arith) c.object-item.is c.name.ensures in
    c.in_ok-push_word-3.ensures
    ∙ ap (λ t. t ++ 32 ∷ c.bytes-in-loop-object.result.now) c.loop-object.invariant
    ∙ append_assoc before (spaced (map (name_at names) (take i objects))) (32 ∷ c.bytes-in-loop-object.result.now)
    ∙ ap (λ t. before ++ (spaced (map (name_at names) (take i objects)) ++ 32 ∷ t)) c.bytes-in-loop-object.ensures
    ∙ ap (λ t. before ++ t) (sym next)

pub returns : goal.returns
returns g c =
    let names = (g.L.Look.known c.args.look.now).names in
    let inputs = c.args.instance.now.inputs in
    let objects = c.as_slice-object-items.result.now in
    let i = c.loop-object.object-index in
    let all : take i objects ≡ inputs = take_all i objects (omega arith) ∙ c.as_slice-object-items.ensures in
    let first : c.in_ok-text.text.items ≡ codes "next" = c.in_ok-text.ensures.items in
    let number : c.as_bytes.result.now ≡ decimal c.args.number = search rules in
    let stream : c.bytes.result.now ≡ stream_name c.args.task.now c.args.instance.now.stream =
    c.bytes.ensures
    ∙ stream_named c.args.task.now c.as_slice.result.now c.args.instance.now.stream c.index-as_slice-instance.result
    c.as_slice.ensures c.requires.stream c.index-as_slice-instance.is in
    let second : c.push_word.new.text.items ≡ codes "next" ++ 32 ∷ decimal c.args.number =
    c.in_ok-push_word.ensures ∙ ap (λ t. t ++ 32 ∷ c.as_bytes.result.now) first ∙ ap (λ t. codes "next" ++ 32 ∷ t) number in
    let third : c.push_word-2.new.text.items ≡ (codes "next" ++ 32 ∷ decimal c.args.number) ++ 32 ∷ stream_name c.args.task.now
    c.args.instance.now.stream =
    c.in_ok-push_word-2.ensures ∙ ap (λ t. t ++ 32 ∷ c.bytes.result.now) second
    ∙ ap (λ t. (codes "next" ++ 32 ∷ decimal c.args.number) ++ 32 ∷ t) stream in
    c.in_ok-push.ensures.items
    ∙ ap (λ t. t ++ 10 ∷ []) (c.loop-object.invariant ∙ ap (λ t. t ++ spaced (map (name_at names) (take i objects))) third
    ∙ ap (λ os. ((codes "next" ++ 32 ∷ decimal c.args.number) ++ 32 ∷ stream_name c.args.task.now c.args.instance.now.stream)
    ++ spaced (map (name_at names) os)) all
    ∙ request_written (codes "next") (decimal c.args.number)
    (stream_name c.args.task.now c.args.instance.now.stream) (map (name_at names) inputs))
