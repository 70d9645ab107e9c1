use Rattle.std.proofs.Common.{◌<◌, ◌≤◌, length, get_or, subst, sym, arith}
use Rattle.std.specs.Prelude.{Vec}
use Rattle.std.specs.declared.alloc.Global.{Global}
use Rattle.std.proofs.Math.Seq.{map-set_same}
use Rattle.std.proofs.lemmas.List.{get_or_default}
use Rattle.trend_num.specs.{Rec}
use Rattle.calc_refresh.specs.{IsCopy}
use Rattle.calc_refresh.proofs.Inputs.{as_many, each_read, each_set, read_at}
use Rattle.calc_refresh.proofs.room.room_in_contents.Goals as goal

pub room_in_content-requires-clause-copy : goal.room_in_content-requires-clause-copy
room_in_content-requires-clause-copy c =
    let many = as_many c.loop-i.contents c.args.copies.now c.loop-i.invariant.read in
    subst IsCopy (sym c.deref.ensures.value)
    (each_read IsCopy c.args.copies.now c.loop-i.i c.index-copies-i.result (omega (arith, many, c.loop-i-test.true, c.loop-i.auto.contents))
    c.index-copies-i.is c.requires.copied)

pub room_in_content-requires-clause-content : goal.room_in_content-requires-clause-content
room_in_content-requires-clause-content c = grind (arith, as_many, read_at)

pub room_in_content-requires-clause-more : goal.room_in_content-requires-clause-more
room_in_content-requires-clause-more c =
    let many = as_many c.loop-i.contents c.args.copies.now c.loop-i.invariant.read in
    let v = c.index-deltas-i.result in
    let here = each_read IsCopy c.args.deltas.now c.loop-i.i v
    (omega (arith, many, c.loop-i-test.true, c.loop-i.auto.contents, c.requires.inputs)) c.index-deltas-i.is c.requires.more in
    omega (arith, here.short, v.ok.0, c.len.ensures)

pub returns-in_err-room_in_content-clause-contents : goal.returns-in_err-room_in_content-clause-contents
returns-in_err-room_in_content-clause-contents c = grind (arith, map-set_same)

pub loop-i-preserved : goal.loop-i-preserved
loop-i-preserved c =
    let i = c.loop-i.i in
    let v = c.index-deltas-i.result in
    let many = as_many c.loop-i.contents c.args.copies.now c.loop-i.invariant.read in
    let inside : i < length c.args.deltas.now = omega (arith, many, c.loop-i-test.true, c.loop-i.auto.contents, c.requires.inputs) in
    let spare = each_set (λ j s. (d : Vec Rec Global) → length (get_or c.args.deltas.now j d).items ≤ s.spare)
    c.loop-i.contents i c.room_in_content.new.content (omega (arith, c.loop-i-test.true, c.loop-i.auto.contents))
    (λ j e before d. c.loop-i.invariant.spare j e d before)
    (λ d. grind (arith, get_or_default)) in
    record {
      read = grind (arith, map-set_same);
      spare = λ j e d before. spare j e before d;
    }
