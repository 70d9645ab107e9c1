use Rattle.std.proofs.Common.{◌++◌, sym, ap, ◌∙◌}
use Rattle.archive_file.specs.{number_bytes, tuning_bytes}
use Rattle.archive_file.proofs.Joins.{joined_5}
use Rattle.archive_file.proofs.summary.put_tuning.Goals as goal

pub returns-clause-items : goal.returns-clause-items
returns-clause-items c =
    joined_5 c.args.out.now.items c.put_deviation.new.out.items c.put_time.new.out.items
    c.put_deviation-2.new.out.items c.put_time-2.new.out.items c.put_time-3.new.out.items
    (number_bytes 7 c.in-Some.t.exc_dev) (number_bytes 6 c.in-Some.t.exc_max)
    (number_bytes 7 c.in-Some.t.comp_dev) (number_bytes 6 c.in-Some.t.comp_min)
    (number_bytes 6 c.in-Some.t.comp_max)
    c.put_deviation.ensures.items c.put_time.ensures.items c.put_deviation-2.ensures.items
    c.put_time-2.ensures.items c.put_time-3.ensures.items
    ∙ ap (λ t. c.args.out.now.items ++ tuning_bytes t) (sym c.in-Some.is)
