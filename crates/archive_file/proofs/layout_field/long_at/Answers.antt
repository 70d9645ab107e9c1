use Rattle.std.proofs.Common.{lit<, arith}
use Rattle.archive_file.proofs.LayoutSpellings.{byte_of}
use Rattle.archive_file.proofs.layout_field.long_at.Goals as goal

pub returns : goal.returns
returns c =
    let s = c.args.c.now in
    let at = c.args.at in
    omega (
      arith,
      c.from_be_bytes.ensures,
      byte_of s at 8 0 (lit< tt),
      byte_of s at 8 1 (lit< tt),
      byte_of s at 8 2 (lit< tt),
      byte_of s at 8 3 (lit< tt),
      byte_of s at 8 4 (lit< tt),
      byte_of s at 8 5 (lit< tt),
      byte_of s at 8 6 (lit< tt),
      byte_of s at 8 7 (lit< tt),
    )
