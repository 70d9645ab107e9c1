use Rattle.std.proofs.Common.{◌≡◌, ◌++◌, take, string_bytes}
use Rattle.calc_parser.proofs.printer.put_bytes.Given as goal

-- the bytes so far are at the end
abbrev pub invariant-loop-b : goal.invariant-loop-b
invariant-loop-b l = string_bytes l.text ≡ string_bytes l.fn.text ++ take l.b-index l.name
