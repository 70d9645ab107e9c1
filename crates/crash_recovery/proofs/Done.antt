-- A core whose events are all acknowledged is what is recovered.
use Rattle.std.proofs.Common.{◌≡◌, Bool, length, sym, ◌∙◌, ap, subst, arith}
use Rattle.std.proofs.lemmas.List.{nil_from_length}
use Rattle.trend_num.specs.{TagDef}
use Rattle.trend_model.specs.State.{State, replay}
use Rattle.disk_model.specs.{Trace, seen}
use Rattle.disk_model.proofs.Images.{present}
use Rattle.crash_recovery.specs.{Seat, AllRecover, GoesOnFrom, SeatedOn}
use Rattle.crash_recovery.proofs.Places.{laid_on, laid_shown, overrun_on}
use Rattle.crash_recovery.proofs.Recovered.{recovered_at, goes_beyond}

-- so each image recovers it
pub done_recovers : (p : Seat) (o : Trace) (def : TagDef) (s : State) (step : Bool) (r : State) → SeatedOn p o
    → p.taken ≡ r.summary.taken → p.lane.next ≡ p.taken → GoesOnFrom def s step r → AllRecover def o s
    → AllRecover def o r
done_recovers p t def s step r seated taken next goes all =
    let at = recovered_at def p (seen t) s (laid_shown p t (laid_on p t seated))
    (λ stale. overrun_on p t seated stale) (all.each (seen t) (present t)) in
    let none : length goes.1.0 ≡ 0 = omega (arith, goes_beyond def p.lane.next s step r at goes, taken, next)
    in
    let same : r ≡ s = goes.1.1 ∙ ap (replay def.step s) (nil_from_length goes.1.0 none) in
    subst (AllRecover def t) (sym same) all
