use Rattle.std.proofs.Common.{◌≡◌, map, drop}
use Rattle.std.specs.Prelude.{bytes_eq}
use Rattle.std.specs.List.{list_any}
use Rattle.tag_base.specs.{formula_text_of}
use Rattle.tag_base.proofs.calculation.is_taken.Given as goal

abbrev pub invariant-loop-calc : goal.invariant-loop-calc
invariant-loop-calc l =
    list_any (λ c. bytes_eq c.name l.name) (map formula_text_of (drop l.calc-index l.calcs)) ≡ list_any (λ c. bytes_eq c.name l.name) (map formula_text_of l.calcs)
