use Rattle.std.proofs.Common.{◌<◌, length, arith}
use Rattle.calc_refresh.specs.{IsCopy}
use Rattle.calc_refresh.proofs.Inputs.{each_read}
use Rattle.group_book.proofs.Loaded.{first_all, first_lengths, first_more, low_more}
use Rattle.group_book.proofs.loading.first_records.Goals as goal

pub overflow_cast-records : goal.overflow_cast-records
overflow_cast-records c =
    let v = c.index-recovered-i.result in
    let within : c.loop-i.i < length c.args.recovered.now = omega (arith, c.loop-i-test.true, c.requires.inputs) in
    let copy = each_read IsCopy c.args.recovered.now c.loop-i.i v within c.index-recovered-i.is c.requires.copied in
    omega (arith, copy.short, v.ok.0, c.len-records.ensures)

pub returns : goal.returns
returns c =
    let versions = c.args.versions.now in
    let recovered = c.args.recovered.now in
    record {
      cut = first_all versions recovered _ c.loop-i.i c.requires.inputs c.loop-i-test.false c.loop-i.invariant.copied;
      within = first_lengths versions recovered c.loop-i.i c.requires.inputs c.loop-i-test.false c.loop-i.invariant.low;
      refused = tt;
    }

pub loop-i-preserved : goal.loop-i-preserved
loop-i-preserved c = grind (arith, first_more, low_more)
