use Rattle.std.proofs.Common.{map}
use Rattle.std.proofs.lemmas.Result.{IfErr-weaker, on_ok_weaker}
use Rattle.store_commands.proofs.Sheets.{over_once, refreshed_once}
use Rattle.store_commands.proofs.groups.refresh_once.Goals as goal

pub returns-clause-refreshed : goal.returns-clause-refreshed
returns-clause-refreshed g c =
    on_ok_weaker c.refresh_from.result
    (refreshed_once (map (λ r. r.now) c.args.records.now) c.args.book.now c.refresh_from.new.self c.requires.cut
    c.refresh_from.ensures.same_group c.refresh_from.ensures.same_grid c.refresh_from.ensures.inputs) c.refresh_from.ensures.published

pub returns-clause-refused : goal.returns-clause-refused
returns-clause-refused g c =
    IfErr-weaker c.refresh_from.result _ _
    (λ no. over_once (map (λ r. r.now) c.args.records.now) c.args.book.now no c.requires.cut c.refresh_from.ensures.same_group
    c.refresh_from.ensures.same_grid c.refresh_from.ensures.inputs)
    c.refresh_from.ensures.refused
