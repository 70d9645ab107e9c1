use Rattle.std.proofs.Common.{◌≡◌, ◌∷◌, ◌++◌, ◌∙◌, [], Err, Ok, All, length, map, drop, ap, sym, refl, subst, ◌+◌, rules}
use Rattle.std.proofs.lemmas.List.{drop_more}
use Rattle.std.proofs.lemmas.List.Elements.{All-push}
use Rattle.std.proofs.lemmas.Result.{err_from_is_err_and}
use Rattle.toml.specs.View.{table_view}
use Rattle.tag_base.specs.{GroupRead, GroupsRead, IsSoundGroup}
use Rattle.tag_base.proofs.group.groups_of.Goals as goal
use Rattle.tag_base.proofs.group.groups_of.Goals.{After-group_of}

-- the table comes before those that are left
next : (c : After-group_of)
    → drop c.loop-table.table-index c.args.tables.now
    ≡ c.table-item.result ∷ drop (c.loop-table.table-index + 1) c.args.tables.now
next c =
    drop_more c.args.tables.now c.loop-table.table-index c.table-item.result c.loop-table-test.true
    ∙ ap (λ x. x ∷ drop (c.loop-table.table-index + 1) c.args.tables.now) (sym c.table-item.is)

-- A group that is read goes after those so far.
pub loop-table-preserved : goal.loop-table-preserved
loop-table-preserved c =
    let t = c.table-item.result in
    let group = c.in_ok-group.group in
    let left = drop (c.loop-table.table-index + 1) c.args.tables.now in
    let longer : c.push.new.self.items ≡ c.loop-table.groups.items ++ group ∷ [] = c.in_ok-push.ensures.items in
    let first = subst (λ gs. GroupRead c.args.tags.now gs (table_view t.now) (Ok group)) c.deref.ensures.value c.in_ok-group.ensures.group in
    record {
      read = λ answer rest. c.loop-table.invariant.read answer
          (subst (λ l. GroupsRead c.args.tags.now c.loop-table.groups.items (map (λ x. table_view x.now) l) answer)
          (sym (next (goal.at.loop-table-preserved c).After-group_of))
          (Ok group, first, subst (λ gs. GroupsRead c.args.tags.now gs (map (λ x. table_view x.now) left) answer) longer rest));
      sound = subst (All (IsSoundGroup (length c.args.tags.now))) (sym longer)
          (All-push (IsSoundGroup (length c.args.tags.now)) c.loop-table.groups.items group c.loop-table.invariant.sound c.in_ok-group.ensures.sound);
      as_many = search rules;
    }

-- The table that is refused comes after those of the groups so far.
pub returns-in_err-group-clause-groups : goal.returns-in_err-group-clause-groups
returns-in_err-group-clause-groups c =
    let t = c.table-item.result in
    let next = next (goal.at.returns-in_err-group-clause-groups c).After-group_of in
    let p = err_from_is_err_and c.from_residual.result c.from_residual.ensures.1 in
    let why = c.in_err-group.field-0.0 in
    rw (p.1, p.2) (λ unless.
    let first = subst (λ gs. GroupRead c.args.tags.now gs (table_view t.now) (Err why)) c.deref.ensures.value (c.in_err-group.ensures.group unless) in
    c.loop-table.invariant.read (Err why)
    (subst (λ l. GroupsRead c.args.tags.now c.loop-table.groups.items (map (λ x. table_view x.now) l) (Err why)) (sym next) (Err why, first, refl)))
