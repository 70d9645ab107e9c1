use Rattle.std.proofs.Common.{◌≡◌, ap, subst, sym, arith}
use Rattle.crash_recovery.specs.{AllRecover, LeavesEither, Logged}
use Rattle.crash_recovery.proofs.Turns.{on_ok}
use Rattle.crash_recovery.proofs.journal.Journal.checkpoint.Goals as goal

pub returns-in_default-2-clause-crash : goal.returns-in_default-2-clause-crash
returns-in_default-2-clause-crash g c = λ small def s all goes.
    let e : c.self.inside.dev ≡ c.args.self.now.dev = ap (λ (x : Logged _). x.dev) c.self.view_is in
    let before = subst (λ d. AllRecover def (g.D.Disk.device d).trace s) (sym e) all in
    subst
    (λ d. LeavesEither def (g.D.Disk.device d).trace (g.D.Disk.device c.checkpoint.new.dev).trace s c.args.core.now.state
    c.checkpoint.result) e (record {
      any_moment = c.checkpoint.ensures.any_moment small def s before goes;
      durable = on_ok c.checkpoint.result (λ durable. durable small def s before goes)
          c.checkpoint.ensures.durable;
    })

pub returns-in_default-2-clause-calls : goal.returns-in_default-2-clause-calls
returns-in_default-2-clause-calls g c = grind arith
