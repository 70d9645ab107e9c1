use Rattle.std.proofs.Common.{◌≤◌, pos, inl, inr, Some, [], refl, arith}
use Rattle.trend_model.specs.{IsCleanSpan, at, untested}
use Rattle.trend_model.proofs.example.untested_value_is_refused.Goals as goal

-- the span from (0,0) to (2,3) is clean
span : IsCleanSpan untested (Some (at 3 (pos 0))) [] (at 0 (pos 0)) (at 2 (pos 3))
span = grind arith

-- and (1,0), which was sent, is 3 / 2 from it, where CompDev is 1
pub returns : goal.returns
returns c = λ bounded.
    let near : 3 ≤ 2 =
    bounded.sent_values (at 0 (pos 0)) (at 2 (pos 3)) (at 1 (pos 0)) span (inr (inr (inl refl))) (omega arith)
    (omega arith) in
    absurd (omega arith)
