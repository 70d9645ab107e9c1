use Rattle.std.proofs.Common.{arith, ◌++◌, ap, ◌∙◌}
use Rattle.device_layout.specs.{letters}
use Rattle.device_layout.proofs.HeaderImages.{header_built, flag_byte}
use Rattle.device_layout.proofs.header.header_bytes.Goals as goal

pub returns-clause-image : goal.returns-clause-image
returns-clause-image c =
    c.in-Ok.ensures.ok
    ∙ header_built c.args.def.now c.args.slots c.put.new.out.items c.put_name.new.out.items
    c.put_tuning.new.out.items
    c.put-2.new.out.items c.put-3.new.out.items c.put-4.new.out.items
    (c.put.ensures.items ∙ ap (λ l. l ++ letters) c.new-out.ensures)
    c.put_name.ensures.items
    c.put_tuning.ensures.items
    (c.put-2.ensures.items ∙ ap (λ l. c.put_tuning.new.out.items ++ l) c.to_be_bytes.ensures)
    (grind (arith, flag_byte))
    c.put-4.ensures.items
