use Rattle.std.proofs.Common.{◌∙◌, ap, drop, take}
use Rattle.std.proofs.lemmas.List.{drop_min, take_min, take_rest}
use Rattle.told_store.proofs.first_byte.part.Goals as goal

pub returns : goal.returns
returns c =
    let front = take c.min.result c.args.bytes.now in
    take_rest front c.min-2.result ∙ ap (λ i. drop i front) c.min-2.ensures ∙ drop_min c.args.from front
    ∙ ap (λ i. drop c.args.from (take i c.args.bytes.now)) c.min.ensures ∙ ap (drop c.args.from) (take_min c.args.to c.args.bytes.now)
