use Rattle.std.proofs.Common.{◌≡◌, ◌∙◌, rules, sym}
use Rattle.std.specs.List.{count_by}
use Rattle.session_audit.proofs.TakeCounts.{is_take, takes_counted}
use Rattle.session_audit.proofs.taking.count_takes.Goals as goal

pub returns-clause-count : goal.returns-clause-count
returns-clause-count c =
    let counted : c.count.result ≡ count_by is_take c.args.tape.now = search rules in
    counted ∙ sym (takes_counted c.args.tape.now)
