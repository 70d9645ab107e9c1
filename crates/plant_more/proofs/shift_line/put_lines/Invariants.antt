use Rattle.std.proofs.Common.{◌≡◌, ◌++◌, string_bytes, take}
use Rattle.plant_more.specs.{dated, tag_lines}
use Rattle.plant_more.proofs.shift_line.put_lines.Given as goal

abbrev pub invariant-loop-tag : goal.invariant-loop-tag
invariant-loop-tag l =
    string_bytes l.text ≡ string_bytes l.initial.text ++ tag_lines l.measure (take l.tag-index l.tags) (dated l.window l.day)
