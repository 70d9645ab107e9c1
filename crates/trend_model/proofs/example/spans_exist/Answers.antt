use Rattle.std.proofs.Common.{◌≤◌, pos, inl, refl, arith, lit<}
use Rattle.trend_model.specs.{at}
use Rattle.trend_model.proofs.example.spans_exist.Goals as goal

pub returns-clause-not_clean : goal.returns-clause-not_clean
returns-clause-not_clean c = λ span.
    let past : 2 ≤ 1 = span.none_passed (at 1 (pos 10)) (inl refl) (lit< tt) in
    absurd (omega arith)
