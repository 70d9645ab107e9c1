use Rattle.std.proofs.Common.{◌∙◌, sym, FitsSigned, w32, to_z-of_z}
use Rattle.shift_calendar.proofs.word.word_of_day.Goals as goal

pub returns : goal.returns
returns c =
    let fits : FitsSigned w32 c.args.day = c.ranges.day in
    record {
      date = c.date_of.result;
      number = c.date_of.ensures ∙ to_z-of_z fits;
      text = sym c.word_of.ensures;
    }
