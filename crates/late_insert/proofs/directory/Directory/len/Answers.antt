use Rattle.std.proofs.Common.{length, ap, arith}
use Rattle.late_insert.specs.{Listed}
use Rattle.late_insert.proofs.Listing.{listed_length}
use Rattle.late_insert.proofs.directory.Directory.len.Goals as goal

pub returns : goal.returns
returns c =
    omega (
      arith,
      c.len.ensures,
      c.self.inside.leaves.ok.0,
      ap (λ (s : Listed). length s.items) c.self.view_is,
      listed_length c.self.inside.leaves.items c.self.inside.order.items c.self.inside.firsts.items c.self.invariant.0,
    )
