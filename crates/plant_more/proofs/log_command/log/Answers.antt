use Rattle.std.proofs.Common.{◌∙◌, ap, sym}
use Rattle.std.specs.Prelude.{option_map}
use Rattle.plant_more.specs.{words_named}
use Rattle.plant_more.proofs.Understood.{no_words}
use Rattle.plant_more.proofs.log_command.log.Goals as goal

pub returns-in-Some-clause-ends : goal.returns-in-Some-clause-ends
returns-in-Some-clause-ends g c =
    let its = c.log_plan-answer.ensures in
    rw (sym c.log_words.ensures ∙ ap (option_map words_named) c.in-Some.is) (record {
      answer = c.log_plan-answer.result.answer;
      held = its.held;
      log = its.log;
      unlogged = its.unlogged;
      counts = its.counts;
      unstopped = its.unstopped;
      file_faults = its.file_faults;
      no_file_fault = its.no_file_fault;
      whose = its.whose;
      printed = c.finish.ensures.text;
      refused = c.finish.ensures.refused;
      understood = c.finish.ensures.known (no_words c.log_plan-answer.result.answer its.understood);
    })
