use Rattle.std.proofs.Common.{◌≡◌, ◌++◌, take}
use Rattle.group_layout.specs.{names_text}
use Rattle.group_layout.proofs.definition.put_names.Given as goal

abbrev pub invariant-loop-name : goal.invariant-loop-name
invariant-loop-name l = l.text.items ≡ l.initial.text.items ++ names_text (take l.name-index l.names)
