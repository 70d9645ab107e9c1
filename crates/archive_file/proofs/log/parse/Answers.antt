use Rattle.std.proofs.Common.{refl, ◌≡◌, arith}
use Rattle.archive_file.specs.declared.failure.ScanNo.TheVariants.{Damaged}
use Rattle.archive_file.proofs.Logs.{adds_none, adds_more, broken_here}
use Rattle.archive_file.proofs.log.parse.Goals as goal

pub loop-k-init : goal.loop-k-init
loop-k-init c = record { added = adds_none c.args.bytes.now 0 c.args.recs.now.items; len = omega arith; capacity = refl }

pub loop-k-preserved : goal.loop-k-preserved
loop-k-preserved c = grind (arith, adds_more)

pub returns-in_default-clause-damaged : goal.returns-in_default-clause-damaged
returns-in_default-clause-damaged c = λ a byte told.
    let d = c.damage.ensures in
    let before = c.loop-k.invariant.added in
    let same : c.damage.result ≡ Damaged a byte = cc (told) in
    broken_here c.args.bytes.now c.piece-b.result.now c.args.at c.args.count c.loop-k.k d.0 a byte
    before.added c.damage.result c.requires.whole c.loop-k-test.true before.there.counted
    before.there.records c.piece-b.ensures.value d.1 d.2 d.3 same
