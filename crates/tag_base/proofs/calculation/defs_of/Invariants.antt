use Rattle.std.proofs.Common.{◌≡◌, map, take, vec_len}
use Rattle.calc_check.specs.Group.{calculation}
use Rattle.tag_base.specs.{formula_text_of, Define}
use Rattle.tag_base.proofs.calculation.defs_of.Given as goal

abbrev pub invariant-loop-text : goal.invariant-loop-text
invariant-loop-text l = record {
  defined : Define (map formula_text_of (take l.text-index l.texts)) (map calculation l.defs.items);
  as_many : vec_len l.defs ≡ l.text-index;
}
