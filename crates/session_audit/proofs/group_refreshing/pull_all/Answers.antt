use Rattle.std.proofs.Common.{◌≡◌, ◌<◌, ◌+◌, ◌∙◌, [], ap, sym, subst, arith, get_or, length, take}
use Rattle.std.proofs.lemmas.List.{length-map}
use Rattle.std.proofs.lemmas.List.Elements.{All-get_or}
use Rattle.std.proofs.lemmas.Result.{err_from_is_err_and}
use Rattle.group_book.specs.{ArePullsOf, IsPullOf, IsPullRefusal, lists_at, versions_of}
use Rattle.group_book.proofs.InputLists.{list_ahead, list_at as input_list, pulls_all, pulls_more, pulls_none}
use Rattle.session_audit.specs.{IsPulledMore, durable_lists}
use Rattle.session_audit.proofs.Each.{each_refl, each_trans}
use Rattle.session_audit.proofs.Pulls.{lists_same, pulled_refl, pulled_trans}
use Rattle.session_audit.proofs.group_refreshing.pull_all.Given as given
use Rattle.session_audit.proofs.group_refreshing.pull_all.Goals as goal
use Rattle.session_audit.proofs.group_refreshing.pull_all.Goals.{After-versions-versions}

-- there is one list, and one copy, for each input
lists_many : (g : given.Over) (c : After-versions-versions g)
    → length (lists_at (durable_lists c.args.cells.now) c.args.tags.now) ≡ length (versions_of c.args.book.now)
lists_many g c =
    length-map c.args.tags.now (λ tag. get_or (durable_lists c.args.cells.now) tag []) ∙ c.requires.inputs.same
    ∙ sym (ap length (sym c.versions-versions.ensures.versions) ∙ c.versions-versions.ensures.inputs)

pub returns-clause-inputs : goal.returns-clause-inputs
returns-clause-inputs g c =
    c.requires.inputs.same ∙ sym (ap length (sym c.versions-versions.ensures.versions) ∙ c.versions-versions.ensures.inputs)
    ∙ length-map c.args.book.now.sheet.copies length

pub loop-input-init : goal.loop-input-init
loop-input-init g c =
    let lists = lists_at (durable_lists c.args.cells.now) c.args.tags.now in
    let versions = versions_of c.args.book.now in
    record {
      pulls = subst (ArePullsOf (take 0 lists) (take 0 versions)) (sym c.new-pulled.ensures.items) (pulls_none lists versions);
      cells = each_refl IsPulledMore pulled_refl c.args.cells.now;
    }

pub pull_one-requires : goal.pull_one-requires
pull_one-requires g c =
    let many = length c.args.cells.now in
    let known = All-get_or (λ tag. tag < many) c.args.tags.now c.loop-input.input 0 c.loop-input-test.true c.requires.inputs.known in
    record { known = omega (arith, known, c.loop-input.invariant.cells.as_many) }

pub returns-in_err-one-clause-pulled : goal.returns-in_err-one-clause-pulled
returns-in_err-one-clause-pulled g c =
    each_trans IsPulledMore pulled_trans c.args.cells.now c.loop-input.cells c.pull_one.new.cells c.loop-input.invariant.cells
    c.pull_one.ensures.pulled

pub returns-in_default-clause-pulled : goal.returns-in_default-clause-pulled
returns-in_default-clause-pulled g c =
    each_trans IsPulledMore pulled_trans c.args.cells.now c.loop-input.cells c.pull_one.new.cells c.loop-input.invariant.cells
    c.pull_one.ensures.pulled

pub returns-in_err-one-clause-ahead : goal.returns-in_err-one-clause-ahead
returns-in_err-one-clause-ahead g c =
    let at = c.loop-input.input in
    let tags = c.args.tags.now in
    let durables = durable_lists c.args.cells.now in
    let lists = lists_at durables tags in
    let no = c.in_err-one.field-0.0 in
    let list = ap (λ l. get_or l (get_or tags at 0) []) (lists_same c.args.cells.now c.loop-input.cells c.loop-input.invariant.cells)
    ∙ sym (input_list durables tags at c.loop-input-test.true) in
    let version = ap (λ l. get_or l at 0) c.versions-versions.ensures.versions in
    let p = err_from_is_err_and c.from_residual.result c.from_residual.ensures.1 in
    rw (p.1, p.2) (list_ahead lists (versions_of c.args.book.now) at c.loop-input.pulled.items no
    (omega (arith, c.loop-input-test.true, length-map tags (λ tag. get_or durables tag []))) c.loop-input.invariant.pulls
    (subst (λ n. IsPullRefusal (get_or lists at []) at n no) version
    (subst (λ l. IsPullRefusal l at (get_or c.versions-versions.result.now at 0) no) list c.in_err-one.ensures.refused)))

pub loop-input-preserved : goal.loop-input-preserved
loop-input-preserved g c =
    let at = c.loop-input.input in
    let tags = c.args.tags.now in
    let durables = durable_lists c.args.cells.now in
    let lists = lists_at durables tags in
    let versions = versions_of c.args.book.now in
    let list = ap (λ l. get_or l (get_or tags at 0) []) (lists_same c.args.cells.now c.loop-input.cells c.loop-input.invariant.cells)
    ∙ sym (input_list durables tags at c.loop-input-test.true) in
    let version = ap (λ l. get_or l at 0) c.versions-versions.ensures.versions in
    record {
      pulls = subst (ArePullsOf (take (at + 1) lists) (take (at + 1) versions)) (sym c.in-Ok.ensures.items)
          (pulls_more lists versions at c.loop-input.pulled.items c.in_ok-one.one
          (lists_many g (goal.at.loop-input-preserved g c).After-versions-versions)
          (omega (arith, c.loop-input-test.true, length-map tags (λ tag. get_or durables tag [])))
          (subst (λ n. IsPullOf (get_or lists at []) n c.in_ok-one.one) version
          (subst (λ l. IsPullOf l (get_or c.versions-versions.result.now at 0) c.in_ok-one.one) list c.in_ok-one.ensures.pull))
          c.loop-input.invariant.pulls);
      cells = each_trans IsPulledMore pulled_trans c.args.cells.now c.loop-input.cells c.pull_one.new.cells
          c.loop-input.invariant.cells c.pull_one.ensures.pulled;
    }

pub returns-clause-pulls : goal.returns-clause-pulls
returns-clause-pulls g c =
    let lists = lists_at (durable_lists c.args.cells.now) c.args.tags.now in
    pulls_all lists (versions_of c.args.book.now) c.loop-input.input c.loop-input.pulled.items
    (lists_many g (goal.at.returns-clause-pulls g c).After-versions-versions)
    (omega (arith, c.loop-input-test.false, length-map c.args.tags.now (λ tag. get_or (durable_lists c.args.cells.now) tag [])))
    c.loop-input.invariant.pulls
