use Rattle.std.proofs.Common.{◌≡◌, ◌+◌, ◌-◌, get_or, arith}
use Rattle.device_layout.proofs.HeaderFields.{header_name, name_length}
use Rattle.device_layout.proofs.header.name_in.Goals as goal

pub unreachable-requires : goal.unreachable-requires
unreachable-requires c =
    let h = c.args.h.now in
    let same : 6 + c.from.result - 6 ≡ get_or h 5 0 = omega (arith, c.from.ensures) in
    grind (arith, header_name h c.requires)

pub slice_bounds-name_from-end : goal.slice_bounds-name_from-end
slice_bounds-name_from-end c = grind (arith, name_length c.args.h.now c.requires)
