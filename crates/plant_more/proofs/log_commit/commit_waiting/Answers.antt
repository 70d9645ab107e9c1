use Rattle.std.proofs.Common.{◌∙◌, arith}
use Rattle.plant_more.proofs.LogCommitting.{goes_of}
use Rattle.plant_more.proofs.log_commit.commit_waiting.Goals as goal

pub returns-then-done-eq0-clause-none_waits : goal.returns-then-done-eq0-clause-none_waits
returns-then-done-eq0-clause-none_waits g c =
    let is = goes_of g.D.Disk.device c.commit.result c.in_ok-done.done c.args.log.now c.loop-done.log c.commit.new.self c.loop-done.invariant c.in_ok-done.was
    c.commit.ensures.broken.1 c.commit.ensures.idle c.in_ok-done.ensures.committed in
    is.waiting ∙ c.if-done-eq0.true

pub returns-then-done-eq0-clause-committed : goal.returns-then-done-eq0-clause-committed
returns-then-done-eq0-clause-committed g c =
    (goes_of g.D.Disk.device c.commit.result c.in_ok-done.done c.args.log.now c.loop-done.log c.commit.new.self c.loop-done.invariant c.in_ok-done.was
    c.commit.ensures.broken.1 c.commit.ensures.idle c.in_ok-done.ensures.committed).committed

pub returns-then-done-eq0-clause-usable : goal.returns-then-done-eq0-clause-usable
returns-then-done-eq0-clause-usable g c =
    (goes_of g.D.Disk.device c.commit.result c.in_ok-done.done c.args.log.now c.loop-done.log c.commit.new.self c.loop-done.invariant c.in_ok-done.was
    c.commit.ensures.broken.1 c.commit.ensures.idle c.in_ok-done.ensures.committed).usable

pub loop-done-smaller : goal.loop-done-smaller
loop-done-smaller g c =
    (goes_of g.D.Disk.device c.commit.result c.in_ok-done.done c.args.log.now c.loop-done.log c.commit.new.self c.loop-done.invariant c.in_ok-done.was
    c.commit.ensures.broken.1 c.commit.ensures.idle c.in_ok-done.ensures.committed).fewer (omega (arith, c.if-done-eq0.false))

pub loop-done-preserved : goal.loop-done-preserved
loop-done-preserved g c =
    (goes_of g.D.Disk.device c.commit.result c.in_ok-done.done c.args.log.now c.loop-done.log c.commit.new.self c.loop-done.invariant c.in_ok-done.was
    c.commit.ensures.broken.1 c.commit.ensures.idle c.in_ok-done.ensures.committed).committed
