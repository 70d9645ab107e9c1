use Rattle.std.proofs.Common.{◌≡◌, take, vec_len}
use Rattle.plant_files.specs.{tag_names}
use Rattle.plant_files.proofs.names.names_of_tags.Given as goal

abbrev pub invariant-loop-tag : goal.invariant-loop-tag
invariant-loop-tag l = record {
  names : l.names.items ≡ tag_names (take l.tag-index l.tags);
  as_many : vec_len l.names ≡ l.tag-index;
}
