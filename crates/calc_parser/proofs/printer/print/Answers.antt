use Rattle.std.proofs.Common.{◌≡◌, string_bytes, sym, subst, rules}
use Rattle.calc_parser.specs.{text_of, IsFormula}
use Rattle.calc_parser.specs.Tree.{tree_of}
use Rattle.calc_parser.proofs.RoundTrip.{round_trip}
use Rattle.calc_parser.proofs.printer.print.Goals as goal

-- what is printed is the canonical text
pub returns-clause-again : goal.returns-clause-again
returns-clause-again c = λ text f.
    let t = tree_of c.args.e.now in
    let same : string_bytes c.put.new.text ≡ text_of t = search rules in
    subst (λ l. IsFormula l t) (sym same) (round_trip text t f)
