use Rattle.std.proofs.Common.{◌++◌, ap, ◌∙◌}
use Rattle.archive_file.specs.{number_bytes}
use Rattle.archive_file.proofs.Joins.{joined_5}
use Rattle.device_layout.proofs.header.put_tuning.Goals as goal

pub returns-clause-items : goal.returns-clause-items
returns-clause-items c =
    let t = c.args.t.now in
    let o = c.args.out.now.items in
    let o1 = c.put.new.out.items in
    let o2 = c.put-2.new.out.items in
    let o3 = c.put-3.new.out.items in
    let o4 = c.put-4.new.out.items in
    joined_5 o o1 o2 o3 o4 c.put-5.new.out.items
    (number_bytes 8 t.exc_dev) (number_bytes 8 t.exc_max) (number_bytes 8 t.comp_dev)
    (number_bytes 8 t.comp_min) (number_bytes 8 t.comp_max)
    (c.put.ensures.items ∙ ap (λ l. o ++ l) c.to_be_bytes.ensures)
    (c.put-2.ensures.items ∙ ap (λ l. o1 ++ l) c.to_be_bytes-2.ensures)
    (c.put-3.ensures.items ∙ ap (λ l. o2 ++ l) c.to_be_bytes-3.ensures)
    (c.put-4.ensures.items ∙ ap (λ l. o3 ++ l) c.to_be_bytes-4.ensures)
    (c.put-5.ensures.items ∙ ap (λ l. o4 ++ l) c.to_be_bytes-5.ensures)
