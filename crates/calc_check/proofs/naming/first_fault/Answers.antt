use Rattle.std.proofs.Common.{◌≡◌, ◌-◌, Some, length, map, take, drop, length-drop, sym, ap, ◌∙◌, arith}
use Rattle.std.proofs.Math.Seq.{take-length}
use Rattle.calc_parser.specs.Tree.{tree_of}
use Rattle.calc_check.specs.Group.{calculation, names_of, first_unknown, told}
use Rattle.calc_check.proofs.Mentions.{fault_told}
use Rattle.calc_check.proofs.naming.first_fault.Goals as goal

pub returns-in-Some : goal.returns-in-Some
returns-in-Some c =
    let inputs = c.args.inputs.now in
    let calcs = c.args.calcs.now in
    let i = c.loop-i.i in
    let def = c.index-calcs-i.result in
    let unknown : first_unknown inputs (names_of (map calculation (take i calcs))) (tree_of def.expr)
    ≡ Some c.in-Some.name =
    grind (arith, c.in-Some.ensures) in
    let coming : take (length calcs - i) (drop i calcs) ≡ drop i calcs =
    ap (λ n. take n (drop i calcs)) (sym (length-drop i calcs)) ∙ take-length (drop i calcs) in
    let is : c.told.result ≡ told i (names_of (map calculation (drop i calcs))) c.in-Some.name =
    c.told.ensures ∙ ap (λ ds. told i (names_of (map calculation ds)) c.in-Some.name) coming in
    sym (c.loop-i.invariant
    ∙ fault_told inputs calcs i def c.in-Some.name c.loop-i-test.true (sym c.index-calcs-i.is) unknown
    ∙ ap Some (sym is))
