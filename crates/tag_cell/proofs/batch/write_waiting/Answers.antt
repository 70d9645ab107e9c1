use Rattle.std.proofs.Common.{◌∙◌, sym, subst, map, take, length, List}
use Rattle.std.proofs.lemmas.List.Elements.{All-take}
use Rattle.std.specs.List.{All}
use Rattle.trend_num.specs.{Point, InRange}
use Rattle.trend_model.specs.{Raw}
use Rattle.trend_model.specs.State.{replay}
use Rattle.crash_recovery.specs.{AllRecover}
use Rattle.tag_cell.specs.{taken}
use Rattle.tag_cell.proofs.Crashes.{batch_fits, during_all, during_batch, goes_from, taken-take}
use Rattle.tag_cell.proofs.batch.write_waiting.Goals as goal

pub returns-in_err-checkpoint-clause-any_moment : goal.returns-in_err-checkpoint-clause-any_moment
returns-in_err-checkpoint-clause-any_moment g c = λ few def s all goes.
    let core = c.args.core.now in
    during_all def s core.state core.step (taken c.args.rest.now) (g.D.Disk.device c.args.journal.now.dev).trace
    (g.D.Disk.device c.checkpoint.new.self.dev).trace goes
    (c.checkpoint.ensures.crash few def s all (goes_from def s core.state core.step (taken c.args.rest.now) goes)).any_moment

pub returns-then-free_slots-eq0-clause-any_moment : goal.returns-then-free_slots-eq0-clause-any_moment
returns-then-free_slots-eq0-clause-any_moment g c = λ few def s all goes.
    let core = c.args.core.now in
    during_all def s core.state core.step (taken c.args.rest.now) (g.D.Disk.device c.args.journal.now.dev).trace
    (g.D.Disk.device c.checkpoint.new.self.dev).trace goes
    (c.checkpoint.ensures.crash few def s all (goes_from def s core.state core.step (taken c.args.rest.now) goes)).any_moment

pub commit-requires-clause-in_range : goal.commit-requires-clause-in_range
commit-requires-clause-in_range g c =
    let n = c.oldest-batch.result.entries in
    let rest = c.args.rest.now in
    subst (All InRange) (sym (c.oldest-batch.ensures.points ∙ taken-take rest n))
    (All-take InRange (length (taken (take n rest))) (taken rest) c.requires.in_range)

pub returns-in-Ok-clause-any_moment : goal.returns-in-Ok-clause-any_moment
returns-in-Ok-clause-any_moment g c = λ few def s all goes.
    let core = c.args.core.now in
    let n = c.oldest-batch.result.entries in
    let sent : List Point = take c.oldest-batch.result.count c.oldest-batch.result.points in
    during_batch def s c.args.rest.now n sent (g.D.Disk.device c.args.journal.now.dev).trace (g.D.Disk.device c.commit.new.self.dev).trace
    c.oldest-batch.ensures.points
    (c.commit.ensures.crash def s all (batch_fits def s core.state core.step c.args.rest.now n sent c.oldest-batch.ensures.points goes)).any_moment

pub returns-in-Err-clause-any_moment : goal.returns-in-Err-clause-any_moment
returns-in-Err-clause-any_moment g c = λ few def s all goes.
    let core = c.args.core.now in
    let n = c.oldest-batch.result.entries in
    let sent : List Point = take c.oldest-batch.result.count c.oldest-batch.result.points in
    during_batch def s c.args.rest.now n sent (g.D.Disk.device c.args.journal.now.dev).trace (g.D.Disk.device c.commit.new.self.dev).trace
    c.oldest-batch.ensures.points
    (c.commit.ensures.crash def s all (batch_fits def s core.state core.step c.args.rest.now n sent c.oldest-batch.ensures.points goes)).any_moment

pub returns-in-Ok-clause-durable : goal.returns-in-Ok-clause-durable
returns-in-Ok-clause-durable g c = λ few def s all goes.
    let core = c.args.core.now in
    let n = c.oldest-batch.result.entries in
    let sent : List Point = take c.oldest-batch.result.count c.oldest-batch.result.points in
    subst (λ (ps : List Point). AllRecover def (g.D.Disk.device c.commit.new.self.dev).trace (replay def.step s (map Raw ps)))
    c.oldest-batch.ensures.points
    (c.in-Ok.ensures.crash def s all (batch_fits def s core.state core.step c.args.rest.now n sent c.oldest-batch.ensures.points goes)).durable
