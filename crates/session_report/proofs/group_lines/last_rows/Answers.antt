use Rattle.std.proofs.Common.{◌≡◌, ◌+◌, ◌∙◌, ◌++◌, ◌∷◌, [], ap, sym, length, map, take, arith}
use Rattle.std.proofs.lemmas.Grind.{common_steps}
use Rattle.std.proofs.lemmas.List.{length-map, length-take-le, map_push, take_all, take_more}
use Rattle.calc_check.specs.Group.{calculation}
use Rattle.calc_refresh.specs.{lists_of}
use Rattle.session_report.specs.{last_row, last_rows}
use Rattle.session_report.proofs.Placed.{placed_push}
use Rattle.session_report.proofs.group_lines.last_rows.Goals as goal

pub loop-place-preserved : goal.loop-place-preserved
loop-place-preserved c =
    let defs = c.args.defs.now in
    let rows = lists_of c.args.rows.now in
    let i = c.loop-place.place in
    let def = c.index-defs-place.result in
    let before = map calculation (take i defs) in
    let more : map calculation (take (i + 1) defs) ≡ before ++ calculation def ∷ [] =
    ap (map calculation) (take_more defs i def c.loop-place-test.true ∙ ap (λ d. take i defs ++ d ∷ []) (sym c.index-defs-place.is))
    ∙ map_push calculation (take i defs) def in
    let within = c.loop-place-test.true in
    let number : 0 + length before ≡ i =
    omega (arith, length-map (take i defs) calculation, length-take-le i defs (omega (arith, within))) in
    let grown : c.push.new.self.items ≡ c.loop-place.lasts.items ++ last_row rows i (calculation def) ∷ [] = grind (arith, common_steps) in
    grown ∙ ap (λ l. l ++ last_row rows i (calculation def) ∷ []) c.loop-place.invariant
    ∙ ap (λ n. last_rows before rows ++ last_row rows n (calculation def) ∷ []) (sym number)
    ∙ sym (placed_push (last_row rows) 0 before (calculation def)) ∙ ap (λ l. last_rows l rows) (sym more)

pub returns : goal.returns
returns c =
    let defs = c.args.defs.now in
    c.loop-place.invariant
    ∙ ap (λ l. last_rows (map calculation l) (lists_of c.args.rows.now))
    (take_all c.loop-place.place defs (omega (arith, c.loop-place-test.false, c.loop-place.auto)))
