use Rattle.std.proofs.Common.{◌∙◌, ap, arith, nat_eq}
use Rattle.std.specs.List.{count_by}
use Rattle.session_audit.proofs.Files.{rows_more}
use Rattle.session_audit.proofs.starting.rooms_of.Goals as goal

pub loop-rows-preserved : goal.loop-rows-preserved
loop-rows-preserved c =
    let step = c.in_ok-count_rows.ensures in
    let before = c.loop-rows.invariant in
    record {
      tags = step.tags ∙ before.tags;
      counted = λ tag known.
          (let more = rows_more tag c.loop-rows.rows-index c.args.files.now c.rows-item.result c.loop-rows-test.true c.rows-item.is in
          let count = step.counted tag (omega (arith, known, before.tags)) in
          let so_far = before.counted tag known in
          let value = ap (count_by (λ r. nat_eq r.tag tag)) c.deref.ensures.value in
          omega (arith, more, count, so_far, value));
    }
