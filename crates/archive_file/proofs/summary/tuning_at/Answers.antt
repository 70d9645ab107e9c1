use Rattle.std.proofs.Common.{◌∙◌}
use Rattle.archive_file.proofs.Parts.{tuning_read}
use Rattle.archive_file.proofs.summary.tuning_at.Goals as goal

pub returns : goal.returns
returns c = λ t tuned is.
    (λ i. record {
      exc_dev = c.take_deviation-exc_dev.ensures.number i;
      exc_max = c.take_time-exc_max.ensures.number i;
      comp_dev = c.take_deviation-comp_dev.ensures.number i;
      comp_min = c.take_time-comp_min.ensures.number i;
      comp_max = c.take_time-comp_max.ensures.number i;
    })
    ∙ tuning_read t c.args.bytes.now c.take_deviation-exc_dev.result.1.now c.take_time-exc_max.result.1.now
    c.take_deviation-comp_dev.result.1.now c.take_time-comp_min.result.1.now tuned is
    c.take_deviation-exc_dev.ensures.rest c.take_time-exc_max.ensures.rest
    c.take_deviation-comp_dev.ensures.rest c.take_time-comp_min.ensures.rest
