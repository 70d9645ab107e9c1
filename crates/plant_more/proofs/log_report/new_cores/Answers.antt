use Rattle.std.proofs.Common.{◌∙◌, [], ap, subst, arith}
use Rattle.trend_num.specs.{TagDef}
use Rattle.trend_model.specs.State.{Stands}
use Rattle.plant_more.specs.{log_origin_of}
use Rattle.plant_more.proofs.LogReports.{fresh_more}
use Rattle.plant_more.proofs.log_report.new_cores.Goals as goal

pub loop-tag-preserved : goal.loop-tag-preserved
loop-tag-preserved c =
    let here = c.index-tags-tag.is in
    record {
      standing = fresh_more c.args.tags.now c.loop-tag.tag c.index-tags-tag.result c.loop-tag.cores.items _ c.in_ok-core.core
          c.loop-tag-test.true c.loop-tag.invariant.standing c.push_reserved.ensures.items
          (c.in_ok-core.ensures.step ∙ ap (λ (t : TagDef). t.step) here)
          (subst (λ (t : TagDef). Stands (log_origin_of t) [] c.in_ok-core.core.state) here c.in_ok-core.ensures.stands);
      count = omega (arith, c.push_reserved.ensures.len, c.loop-tag.invariant.count);
      room = omega (arith, c.push_reserved.ensures.capacity, c.loop-tag.invariant.room);
    }
