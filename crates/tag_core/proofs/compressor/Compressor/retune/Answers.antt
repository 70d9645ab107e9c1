use Rattle.std.proofs.Common.{◌∷◌}
use Rattle.trend_model.specs.{Tune, Tuned}
use Rattle.trend_model.specs.State.{pushed_out}
use Rattle.trend_model.proofs.RulesLaw.{turned_few}
use Rattle.tag_core.proofs.Taking.{adds_two, after_both}
use Rattle.tag_core.proofs.compressor.Compressor.retune.Goals as goal

pub returns-clause-after : goal.returns-clause-after
returns-clause-after g c =
    after_both c.args.self.now c.take_pushed_out.new.self c.end_span.new.self c.args.held c.args.waiting c.or.result
    (Tuned c.args.tuning) c.take_pushed_out.ensures.after c.or.ensures c.end_span.ensures

pub returns-clause-adds : goal.returns-clause-adds
returns-clause-adds g c =
    adds_two c.args.self.now c.end_span.new.self c.args.held (Tuned c.args.tuning ∷ pushed_out c.args.waiting)
    (turned_few c.args.tuning c.args.held c.args.waiting (Tune c.args.tuning)) (returns-clause-after g c)
