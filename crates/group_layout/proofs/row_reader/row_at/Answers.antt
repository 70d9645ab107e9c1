use Rattle.std.proofs.Common.{arith}
use Rattle.group_layout.proofs.RowLaws.{row_spelled}
use Rattle.group_layout.proofs.row_reader.row_at.Goals as goal

pub returns-clause-spelled : goal.returns-clause-spelled
returns-clause-spelled g c = λ there.
    row_spelled g.C.Rest.rest c.args.at (c.short_at.ensures.spelled (omega (arith, there))) (c.short_at-2.ensures.spelled (omega (arith, there)))
    (c.byte_at.ensures.spelled (omega (arith, there))) (c.long_at.ensures.spelled (omega (arith, there))) (omega (arith, c.long_at.ensures.value))
