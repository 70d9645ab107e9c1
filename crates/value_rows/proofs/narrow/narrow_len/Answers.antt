use Rattle.std.proofs.Common.{All, ◌≡◌, ◌+◌, get_or, length, take, subst, rules, arith}
use Rattle.csv.specs.declared.parser.State.TheVariants.{StartRecord}
use Rattle.value_rows.specs.{IsNarrow, ended_after, part_after, records_left}
use Rattle.value_rows.proofs.Scanned.{IsScanned, all_narrow, cut_there, ends_few, scan_begins, scans_on}
use Rattle.value_rows.proofs.narrow.narrow_len.Goals as goal

pub loop-i-init : goal.loop-i-init
loop-i-init c = record { scanned = scan_begins; few = omega arith }

pub returns-then-ended-eq-MOST_FIELDS-clause-agree :
    goal.returns-then-ended-eq-MOST_FIELDS-clause-agree
returns-then-ended-eq-MOST_FIELDS-clause-agree c =
    let text = c.args.text.now in
    let i = c.loop-i.i in
    let byte = get_or text i 0 in
    let full : ended_after c.loop-i.part c.loop-i.ended byte ≡ 4 = search rules in
    let on = scans_on text i c.loop-i.part c.loop-i.ended c.loop-i-test.true c.loop-i.invariant.few c.loop-i.invariant.scanned in
    cut_there (i + 1) text (part_after c.loop-i.part byte)
    (subst (IsScanned (take (i + 1) text) (part_after c.loop-i.part byte)) full on)

pub returns-then-ended-eq-MOST_FIELDS-clause-narrow :
    goal.returns-then-ended-eq-MOST_FIELDS-clause-narrow
returns-then-ended-eq-MOST_FIELDS-clause-narrow c =
    let text = c.args.text.now in
    let i = c.loop-i.i in
    let byte = get_or text i 0 in
    let full : ended_after c.loop-i.part c.loop-i.ended byte ≡ 4 = search rules in
    all_narrow (take (i + 1) text) (part_after c.loop-i.part byte) (ended_after c.loop-i.part c.loop-i.ended byte) (omega (arith, full))
    (scans_on text i c.loop-i.part c.loop-i.ended c.loop-i-test.true c.loop-i.invariant.few c.loop-i.invariant.scanned)

pub returns-clause-narrow : goal.returns-clause-narrow
returns-clause-narrow c =
    let text = c.args.text.now in
    let end : c.loop-i.i ≡ length text = omega (arith, c.loop-i-test.false, c.loop-i.auto.i-end) in
    subst (λ n. All IsNarrow (records_left StartRecord (take n text))) end
    (all_narrow (take c.loop-i.i text) c.loop-i.part c.loop-i.ended (omega (arith, c.loop-i.invariant.few)) c.loop-i.invariant.scanned)

pub loop-i-preserved : goal.loop-i-preserved
loop-i-preserved c = grind (arith, ends_few, scans_on)
