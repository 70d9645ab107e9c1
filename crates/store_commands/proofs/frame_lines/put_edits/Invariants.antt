use Rattle.std.proofs.Common.{◌≡◌, ◌++◌, flat_map, string_bytes, take}
use Rattle.store_commands.specs.{edit_text}
use Rattle.store_commands.proofs.frame_lines.put_edits.Given as goal

abbrev pub invariant-loop-edit : goal.invariant-loop-edit
invariant-loop-edit l = string_bytes l.text ≡ string_bytes l.initial.text ++ flat_map (edit_text l.group) (take l.edit-index l.edits)
