use Rattle.std.proofs.Common.{sym, ap, take, ◌∙◌}
use Rattle.point_text.specs.{point_of_line}
use Rattle.point_text.proofs.Split.{feed_found, feed_not_found}
use Rattle.point_text.proofs.line_reader.point_of_any_line.Goals as goal

pub returns-in-Some-clause-point : goal.returns-in-Some-clause-point
returns-in-Some-clause-point c =
    let found = feed_found c.args.text.now c.in-Some.end (sym c.find_byte.ensures ∙ c.in-Some.is) in
    record {
      line = take c.in-Some.end c.args.text.now;
      cut = found.0;
      one = found.1;
      reads = c.point_of_line.ensures ∙ ap point_of_line c.without_carriage_return-line.ensures;
    }

pub returns-in-None-clause-none : goal.returns-in-None-clause-none
returns-in-None-clause-none c = feed_not_found c.args.text.now (sym c.find_byte.ensures ∙ c.in-None.is)
