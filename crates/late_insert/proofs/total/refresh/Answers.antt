use Rattle.std.proofs.Common.{◌∙◌, rules}
use Rattle.std.specs.Prelude.{FitsSigned}
use Rattle.std.specs.Int.{w64, w128}
use Rattle.std.proofs.lemmas.Int.{to_z-of_z}
use Rattle.late_insert.proofs.total.refresh.Goals as goal

pub returns-clause-page : goal.returns-clause-page
returns-clause-page c =
    let kept = c.requires.recorded in
    let all = c.totals_of-all.result in
    let line : FitsSigned w128 all.line = search rules in
    let low : FitsSigned w64 all.low = search rules in
    let high : FitsSigned w64 all.high = search rules in
    record {
      recorded = record {
        few = kept.few;
        times = kept.times;
        values = kept.values;
        marks = kept.marks;
        range = kept.range;
      };
      area = to_z-of_z w128 all.line line ∙ c.totals_of-all.ensures.line;
      low = to_z-of_z w64 all.low low ∙ c.totals_of-all.ensures.low;
      high = to_z-of_z w64 all.high high ∙ c.totals_of-all.ensures.high;
    }
