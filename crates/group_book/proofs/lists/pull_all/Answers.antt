use Rattle.std.proofs.Common.{◌+◌, ◌∙◌, [], arith, get_or, map, subst, sym, take}
use Rattle.std.proofs.lemmas.List.{length-map}
use Rattle.std.proofs.lemmas.Result.{err_from_is_err_and}
use Rattle.group_book.specs.{ArePullsOf, IsPullOf, IsPullRefusal, lists_at}
use Rattle.group_book.proofs.InputLists.{list_ahead, list_at, pulls_all, pulls_more, pulls_none}
use Rattle.group_book.proofs.lists.pull_all.Goals as goal

pub loop-input-init : goal.loop-input-init
loop-input-init c = grind (arith, pulls_none)

pub returns-in_err-one-clause-ahead : goal.returns-in_err-one-clause-ahead
returns-in_err-one-clause-ahead c =
    let i = c.loop-input.input in
    let records = map (λ r. r.now) c.args.records.now in
    let tags = c.args.tags.now in
    let lists = lists_at records tags in
    let version = get_or c.args.versions.now i 0 in
    let no = c.in_err-one.field-0.0 in
    let list = c.list_of-list.ensures.list ∙ sym (list_at records tags i c.loop-input-test.true) in
    let p = err_from_is_err_and c.from_residual.result c.from_residual.ensures.1 in
    rw (p.1, p.2) (list_ahead lists c.args.versions.now i c.loop-input.pulled.items no
    (omega (arith, c.loop-input-test.true, length-map tags (λ tag. get_or records tag []))) c.loop-input.invariant
    (subst (λ l. IsPullRefusal l i version no) list c.in_err-one.ensures.refused))

pub loop-input-preserved : goal.loop-input-preserved
loop-input-preserved c =
    let i = c.loop-input.input in
    let records = map (λ r. r.now) c.args.records.now in
    let tags = c.args.tags.now in
    let versions = c.args.versions.now in
    let lists = lists_at records tags in
    let many = length-map tags (λ tag. get_or records tag []) in
    let list = c.list_of-list.ensures.list ∙ sym (list_at records tags i c.loop-input-test.true) in
    subst (ArePullsOf (take (i + 1) lists) (take (i + 1) versions)) (sym c.in-Ok.ensures.items)
    (pulls_more lists versions i c.loop-input.pulled.items c.in_ok-one.one (many ∙ c.requires.inputs)
    (omega (arith, c.loop-input-test.true, many))
    (subst (λ l. IsPullOf l (get_or versions i 0) c.in_ok-one.one) list c.in_ok-one.ensures.pull) c.loop-input.invariant)

pub returns-clause-pulls : goal.returns-clause-pulls
returns-clause-pulls c =
    let records = map (λ r. r.now) c.args.records.now in
    let tags = c.args.tags.now in
    let many = length-map tags (λ tag. get_or records tag []) in
    pulls_all (lists_at records tags) c.args.versions.now c.loop-input.input c.loop-input.pulled.items (many ∙ c.requires.inputs)
    (omega (arith, c.loop-input-test.false, many)) c.loop-input.invariant
