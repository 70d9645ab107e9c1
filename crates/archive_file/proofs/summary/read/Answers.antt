use Rattle.std.proofs.Common.{◌∙◌}
use Rattle.archive_file.proofs.Parts.{parts_read}
use Rattle.archive_file.proofs.summary.read.Goals as goal

pub returns : goal.returns
returns c = λ s whole is.
    let parts = parts_read s _ _ _ _ _ _ _ _ _ _ whole is c.take_number-taken.ensures.rest
    c.take_records-records.ensures.rest c.take_flags-there.ensures.flags c.take_flags-there.ensures.rest
    c.take_place-held.ensures.rest c.take_place-pending.ensures.rest c.take_place-hinge.ensures.rest
    c.take_place-upper.ensures.rest c.take_place-lower.ensures.rest in
    let tuning = c.tuning_if-tuning.ensures s.tuning parts.tuned whole.tuning parts.tuning in
    λ i. record {
      taken = (c.take_number-taken.ensures.number ∙ parts.taken) i;
      records = (c.take_records-records.ensures.number ∙ parts.records) i;
      held = (c.take_place-held.ensures.place ∙ parts.held) i;
      pending = (c.take_place-pending.ensures.place ∙ parts.pending) i;
      hinge = (c.take_place-hinge.ensures.place ∙ parts.hinge) i;
      upper = (c.take_place-upper.ensures.place ∙ parts.upper) i;
      lower = (c.take_place-lower.ensures.place ∙ parts.lower) i;
      tuning = tuning i;
    }
