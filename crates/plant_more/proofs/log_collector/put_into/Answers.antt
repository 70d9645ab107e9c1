use Rattle.std.proofs.Common.{◌≡◌, ◌+◌, length, true, false, rules}
use Rattle.plant_more.specs.{is_commit_due}
use Rattle.plant_more.proofs.LogPuts.{put_alone, put_at, refused_at, refused_commit}
use Rattle.plant_more.proofs.log_collector.put_into.Goals as goal

pub returns-in-Err-clause-refused : goal.returns-in-Err-clause-refused
returns-in-Err-clause-refused g c =
    refused_at g.row.D.Denot c.args.collector c.args.place c.args.rows.now _ c.args.log.now c.in-Err.why c.requires.within
    c.in-Err.ensures.refused

pub returns-then-not-is_due-clause-put : goal.returns-then-not-is_due-clause-put
returns-then-not-is_due-clause-put g c =
    let due : is_commit_due (c.args.place + 1) (length c.args.rows.now) ≡ false = search rules in
    put_alone c.args.collector c.args.place c.args.rows.now _ _ _ c.requires.within c.in_default.ensures.appended due

pub returns-in-Ok-clause-put : goal.returns-in-Ok-clause-put
returns-in-Ok-clause-put g c =
    let due : is_commit_due (c.args.place + 1) (length c.args.rows.now) ≡ true = search rules in
    put_at c.args.collector c.args.place c.args.rows.now _ _ _ _ c.requires.within c.in_default.ensures.appended
    c.commit_waiting.ensures.committed c.in-Ok.ensures.none_waits due

pub returns-in-Err-commit_waiting-clause-refused : goal.returns-in-Err-commit_waiting-clause-refused
returns-in-Err-commit_waiting-clause-refused g c =
    let due : is_commit_due (c.args.place + 1) (length c.args.rows.now) ≡ true = search rules in
    refused_commit g.row.D.Denot c.args.collector c.args.place c.args.rows.now c.in-Err-commit_waiting.why c.commit_waiting.new.log _
    c.requires.within due c.in-Err-commit_waiting.ensures.broken c.ending_of_commit.ensures
