use Rattle.std.proofs.Common.{inl, ◌∙◌}
use Rattle.csv.specs.Records.{fields_of}
use Rattle.value_rows.proofs.Left.{next_left}
use Rattle.value_rows.proofs.reading.read_next.Goals as goal

pub returns-in-Ok-clause-next : goal.returns-in-Ok-clause-next
returns-in-Ok-clause-next c = λ left has.
    let e = c.in-Ok.ensures in
    next_left c.args.reader.now c.read_byte_record.new.self (fields_of c.read_byte_record.new.row) left c.in-Ok.found has
    (e.reads has.untrimmed has.ready) (e.flexible ∙ has.flexible) (inl (e.ready has.untrimmed))
