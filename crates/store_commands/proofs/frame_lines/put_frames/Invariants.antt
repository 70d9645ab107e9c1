use Rattle.std.proofs.Common.{◌≡◌, ◌++◌, codes, flat_map, string_bytes, take}
use Rattle.store_commands.specs.{frame_text}
use Rattle.store_commands.proofs.frame_lines.put_frames.Given as goal

abbrev pub invariant-loop-frame : goal.invariant-loop-frame
invariant-loop-frame l =
    string_bytes l.text ≡ string_bytes l.initial.text ++ flat_map (frame_text (codes "frame") l.group) (take l.frame-index l.frames)
