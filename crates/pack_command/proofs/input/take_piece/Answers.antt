use Rattle.std.proofs.Common.{◌≤◌, ◌-◌, ℕ, List, true, take, drop, length-take, subst, arith}
use Rattle.pack_command.specs.{HasCome}
use Rattle.pack_command.proofs.Buffer.{left_of_front}
use Rattle.pack_command.proofs.Coming.{come_same}
use Rattle.pack_command.proofs.input.take_piece.Goals as goal

pub bring_forward-requires-clause-begun : goal.bring_forward-requires-clause-begun
bring_forward-requires-clause-begun g c = grind (arith, length-take, left_of_front)

pub returns-clause-come : goal.returns-clause-come
returns-clause-come g c = λ o bytes come.
    let left = c.take_lines-left.result in
    let now = c.take_lines-left.new.self in
    let few : left ≤ c.args.filled = omega (arith, c.take_lines-left.ensures.within, length-take c.args.filled c.args.buffer.now) in
    let rest = take (c.args.filled - (c.args.filled - left)) (drop (c.args.filled - left) c.args.buffer.now) in
    come_same true o bytes rest (take c.bring_forward.result c.bring_forward.new.buffer) now.core now.rows now.standing c.bring_forward.ensures.same
    (subst (λ (l : List ℕ). HasCome true o bytes l now.core now.rows now.standing)
    (left_of_front c.args.buffer.now c.args.filled left c.requires.within few) (c.take_lines-left.ensures.come o bytes come))
