use Rattle.std.proofs.Common.{◌∙◌, [], Err, ap, drop, length, sym, subst, get_or}
use Rattle.session_audit.specs.{IsPulledMore, durable_lists}
use Rattle.group_book.specs.{IsPullRefusal}
use Rattle.session_audit.proofs.Each.{each_refl, each_set}
use Rattle.session_audit.proofs.MoreTurns.{pull_refused}
use Rattle.session_audit.proofs.Pulls.{list_at, pulled_one, pulled_refl, pulled_trans}
use Rattle.session_audit.proofs.group_refreshing.pull_one.Goals as goal

pub returns-in-Ok-clause-pull : goal.returns-in-Ok-clause-pull
returns-in-Ok-clause-pull g c =
    let durable = list_at c.args.cells.now c.args.tag c.index-cells-tag.result c.requires.known in
    record {
      ends = c.in-Ok.ensures.upto ∙ ap length (sym durable);
      records = c.in-Ok.ensures.records ∙ ap (drop c.args.from) (sym durable);
      copied = record { short = c.in-Ok.ensures.short; range = c.in-Ok.ensures.in_range };
      goes_on = c.in-Ok.ensures.long;
    }

pub returns-in-Ok-clause-pulled : goal.returns-in-Ok-clause-pulled
returns-in-Ok-clause-pulled g c =
    let cells = c.args.cells.now in
    let cell = get_or cells c.args.tag c.index-cells-tag.result in
    each_set IsPulledMore pulled_trans cells cells c.args.tag c.pull.new.self c.index-cells-tag.result c.requires.known
    (pulled_one c.args.group c.args.from c.in-Ok.pulled.upto cell c.pull.new.self c.in-Ok.ensures.pulled)
    (each_refl IsPulledMore pulled_refl cells)

pub returns-in-Err-clause-pulled : goal.returns-in-Err-clause-pulled
returns-in-Err-clause-pulled g c =
    let cells = c.args.cells.now in
    let cell = get_or cells c.args.tag c.index-cells-tag.result in
    each_set IsPulledMore pulled_trans cells cells c.args.tag c.pull.new.self c.index-cells-tag.result c.requires.known
    (subst (IsPulledMore cell) (sym c.in-Err.ensures.unchanged) (pulled_refl cell)) (each_refl IsPulledMore pulled_refl cells)

pub returns-in-Err-clause-refused : goal.returns-in-Err-clause-refused
returns-in-Err-clause-refused g c =
    let durable = list_at c.args.cells.now c.args.tag c.index-cells-tag.result c.requires.known in
    let list = get_or (durable_lists c.args.cells.now) c.args.tag [] in
    subst (IsPullRefusal list c.args.input c.args.from) (sym c.pull_refusal.ensures)
    (pull_refused list c.args.input c.args.from c.in-Err.no
    (λ f a is. (let so = c.in-Err.ensures.carried f a (ap Err is) in (so.0, so.1 ∙ ap length (sym durable), so.2))))
