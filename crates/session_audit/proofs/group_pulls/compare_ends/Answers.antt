use Rattle.std.proofs.Common.{◌≡◌, ◌≢◌, ◌∙◌, None, ap, sym, subst, arith}
use Rattle.session_audit.specs.Pulls.{IsNextOf}
use Rattle.session_audit.specs.{pulled, reached}
use Rattle.session_audit.proofs.Cursors.{apart_next, drop_next, none_of, number_of, same_end, same_next}
use Rattle.session_audit.proofs.group_pulls.compare_ends.Goals as goal

pub returns-then-ne-clause-differs : goal.returns-then-ne-clause-differs
returns-then-ne-clause-differs c =
    let here = c.loop-pull.invariant in
    let differ : c.number_of-kept.result ≢ c.number_of-told.result =
    λ same. grind (arith, c.if-ne.true, c.if-ne.ensures, c.ne.ensures, same) in
    apart_next (pulled c.args.group) c.args.tape.now (reached c.args.input) c.args.turns.now c.loop-pull.at c.loop-pull.of
    c.loop-pull.turn c.next_pull-pull.result c.next_version-refresh.result c.number_of-kept.result c.number_of-told.result
    c.seen_of-kept.result c.seen_of-told.result here.ends here.versions here.before c.next_pull-pull.ensures
    c.next_version-refresh.ensures c.number_of-kept.ensures c.number_of-told.ensures c.seen_of-kept.ensures
    c.seen_of-told.ensures differ

pub returns-in_default-clause-same : goal.returns-in_default-clause-same
returns-in_default-clause-same c =
    let here = c.loop-pull.invariant in
    let none : c.next_pull-pull.result ≡ None = none_of c.next_pull-pull.result c.in_default.not-Some in
    let same : c.number_of-kept.result ≡ c.number_of-told.result = grind (arith, c.if-ne.false, c.if-ne.ensures, c.ne.ensures) in
    same_end (pulled c.args.group) c.args.tape.now (reached c.args.input) c.args.turns.now c.loop-pull.at c.loop-pull.of
    c.loop-pull.turn c.next_pull-pull.result c.next_version-refresh.result here.ends here.versions here.before
    c.next_pull-pull.ensures c.next_version-refresh.ensures (ap number_of none)
    (sym c.number_of-told.ensures ∙ (sym same ∙ (c.number_of-kept.ensures ∙ ap number_of none)))

pub loop-pull-preserved : goal.loop-pull-preserved
loop-pull-preserved c =
    let here = c.loop-pull.invariant in
    let tape = c.args.tape.now in
    let turns = c.args.turns.now in
    let same : c.number_of-kept.result ≡ c.number_of-told.result = grind (arith, c.if-ne.false, c.if-ne.ensures, c.ne.ensures) in
    let pull = subst (IsNextOf (pulled c.args.group) tape c.loop-pull.at) c.in-Some.is c.next_pull-pull.ensures in
    let refresh = subst (IsNextOf (reached c.args.input) turns c.loop-pull.of) c.in-Some-refresh.is c.next_version-refresh.ensures in
    record {
      at = pull.2;
      of = refresh.2;
      ends = drop_next (pulled c.args.group) tape c.loop-pull.at c.loop-pull.turn (pulled c.args.group tape) c.in-Some.pull here.ends pull;
      versions = drop_next (reached c.args.input) turns c.loop-pull.of c.loop-pull.turn (reached c.args.input turns)
          c.in-Some-refresh.refresh here.versions refresh;
      before = same_next (pulled c.args.group) tape (reached c.args.input) turns c.loop-pull.at c.loop-pull.of c.loop-pull.turn
          c.next_pull-pull.result c.next_version-refresh.result here.ends here.versions here.before c.next_pull-pull.ensures
          c.next_version-refresh.ensures (sym c.number_of-kept.ensures ∙ (same ∙ c.number_of-told.ensures));
    }
