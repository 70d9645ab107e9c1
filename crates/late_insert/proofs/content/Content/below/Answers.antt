use Rattle.late_insert.proofs.Reading.{count_gap}
use Rattle.late_insert.proofs.content.Content.below.Goals as goal

pub returns : goal.returns
returns c = record {
  value = count_gap c.args.t c.gap.result c.args.self.now.records c.gap.ensures.bound c.gap.ensures.before
      c.gap.ensures.after;
}
