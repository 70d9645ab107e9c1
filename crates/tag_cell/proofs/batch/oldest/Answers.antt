use Rattle.std.proofs.Common.{◌∙◌, ℕ, List, ◌≤◌, ap, sym, length, take, drop, arith, length-append}
use Rattle.std.proofs.lemmas.List.{take-append-drop}
use Rattle.tag_cell.specs.{Entry, taken}
use Rattle.tag_cell.proofs.Tapes.{taken-more, taken-append}
use Rattle.tag_cell.proofs.batch.oldest.Goals as goal

pub loop-batch-preserved : goal.loop-batch-preserved
loop-batch-preserved c = grind (arith, taken-more, length-append)

-- the first entries have no more values than all
front_most : (rest : List Entry) (n : ℕ) → length (taken (take n rest)) ≤ length (taken rest)
front_most rest n = omega (arith, ap length (ap taken (sym (take-append-drop n rest)) ∙ taken-append (take n rest) (drop n rest)), length-append (taken (take n rest)) (taken (drop n rest)))

pub returns-after-loop-batch-clause-count : goal.returns-after-loop-batch-clause-count
returns-after-loop-batch-clause-count c = omega (arith, front_most c.args.rest.now c.loop-batch.batch.entries, c.loop-batch.invariant.count, c.loop-batch.invariant.most, c.loop-batch-test.false)
