use Rattle.std.proofs.Common.{◌-◌, [], ◌∷◌, ◌++◌, length, replicate, ap, ◌∙◌}
use Rattle.std.proofs.lemmas.List.{drop-replicate}
use Rattle.device_layout.proofs.HeaderImages.{name_built}
use Rattle.device_layout.proofs.header.put_name.Goals as goal

pub returns-clause-items : goal.returns-clause-items
returns-clause-items c =
    let same = c.bytes-bytes.ensures.same in
    name_built c.args.name.now c.args.out.now.items c.put.new.out.items c.put-2.new.out.items
    c.put-3.new.out.items _
    (c.put.ensures.items ∙ ap (λ l. c.args.out.now.items ++ (length l ∷ [])) same)
    (c.put-2.ensures.items ∙ ap (λ l. c.put.new.out.items ++ l) same)
    c.put-3.ensures.items
    (c.split_at.ensures.back ∙ drop-replicate (length c.bytes-bytes.result.now) 64 0
    ∙ ap (λ l. replicate (64 - length l) 0) same)
