use Rattle.std.proofs.Common.{sym}
use Rattle.shift_calendar.proofs.DayWords.{found_word, found_in_range, no_other, no_date}
use Rattle.shift_calendar.proofs.word.day_of_word.Goals as goal

pub returns-in-Ok-clause-day : goal.returns-in-Ok-clause-day
returns-in-Ok-clause-day c = found_word c.in-Ok.date c.args.word.now c.day_if_word.result c.day_if_word.ensures

pub returns-in-Ok-clause-in_range : goal.returns-in-Ok-clause-in_range
returns-in-Ok-clause-in_range c = found_in_range c.in-Ok.date c.args.word.now c.day_if_word.result c.day_if_word.ensures

pub returns-in-Ok-clause-no_day : goal.returns-in-Ok-clause-no_day
returns-in-Ok-clause-no_day c = no_other c.in-Ok.date c.args.word.now c.day_if_word.result (sym c.in-Ok.ensures.value) c.day_if_word.ensures

pub returns-in-Err-clause-no_day : goal.returns-in-Err-clause-no_day
returns-in-Err-clause-no_day c = no_date c.args.word.now c.in-Err.field-0 (sym c.in-Err.ensures.value)
