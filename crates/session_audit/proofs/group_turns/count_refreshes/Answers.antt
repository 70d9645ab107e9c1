use Rattle.std.proofs.Common.{◌≡◌, ◌∙◌, rules, sym}
use Rattle.std.specs.List.{count_by}
use Rattle.session_audit.proofs.Refreshes.{is_refresh, refreshes_counted}
use Rattle.session_audit.proofs.group_turns.count_refreshes.Goals as goal

pub returns-clause-count : goal.returns-clause-count
returns-clause-count c =
    let counted : c.count.result ≡ count_by is_refresh c.args.tape.now = search rules in
    counted ∙ sym (refreshes_counted c.args.tape.now)
