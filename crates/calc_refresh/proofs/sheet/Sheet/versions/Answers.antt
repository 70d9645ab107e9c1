use Rattle.std.proofs.Common.{◌<◌, length, ap, arith}
use Rattle.std.proofs.lemmas.List.{length-map}
use Rattle.calc_refresh.specs.{IsCopy, SheetState}
use Rattle.calc_refresh.proofs.Inputs.{each_read}
use Rattle.calc_refresh.proofs.sheet.Sheet.versions.Goals as goal

pub overflow_cast-result : goal.overflow_cast-result
overflow_cast-result c =
    let s = c.self.inside in
    let v = c.index.result.now in
    let many = ap (λ (u : SheetState). length u.copies) c.self.view_is in
    let within : c.args.i < length s.copies.items = omega (arith, many, length-map s.copies.items (λ v. v.items), c.requires) in
    let here = each_read IsCopy s.copies.items c.args.i v within c.index.ensures c.self.invariant.copied in
    omega (arith, here.short, v.ok.0, c.len.ensures)
