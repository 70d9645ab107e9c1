use Rattle.std.proofs.Common.{arith, length-drop}
use Rattle.std.proofs.lemmas.List.{take_all}
use Rattle.device_layout.proofs.slot_field.point_in.Goals as goal

pub returns : goal.returns
returns c = grind (arith, take_all, length-drop)
