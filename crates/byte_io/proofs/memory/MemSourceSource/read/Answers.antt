use Rattle.std.proofs.Common.{◌≡◌, ◌-◌, ◌≤◌, min, length, take, drop, arith, ap, sym, ◌∙◌}
use Rattle.std.proofs.lemmas.List.{take_rest}
use Rattle.byte_io.proofs.Piece.{take-copied, front-rest, drop-none_copied}
use Rattle.byte_io.proofs.memory.MemSourceSource.read.Goals as goal

-- What was copied is the front of the bytes from the place on, and the rest is what the source has left.
pub returns-clause-bytes : goal.returns-clause-bytes
returns-clause-bytes c =
    let at = c.self.inside.at in
    let n = c.min-count.result in
    let items = c.self.inside.bytes.items in
    let whole = c.deref.result.now in
    let left : take (length whole - at) (drop at whole) ≡ drop at items = take_rest whole at ∙ ap (drop at) c.deref.ensures.value in
    let count : n ≡ min (length (drop at items)) (length c.args.buf.now) = c.min-count.ensures ∙ ap (λ l. min (length l) (length c.args.buf.now)) left in
    let bound : n ≤ length (drop at items) = omega (arith, count) in
    let copied : c.copy_from_slice.new.self ≡ take n (drop at items) = c.copy_from_slice.ensures.after ∙ ap (take n) left in
    let front = take-copied items c.copy_from_slice.new.self (drop n c.args.buf.now) at n copied bound in
    (ap (λ s. s.bytes_left) (sym c.self.view_is) ∙ front-rest items _ at n front, drop-none_copied items _ c.args.buf.now at n count copied)
