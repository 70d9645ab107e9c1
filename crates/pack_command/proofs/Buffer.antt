-- Lemmas on the front of a buffer.
use Rattle.std.proofs.Common.{◌≡◌, ℕ, ◌+◌, ◌-◌, ◌≤◌, List, length, take, drop, arith, ap, ◌∙◌}
use Rattle.std.proofs.lemmas.List.{drop-take, length-take-le}

-- the end of what fills a buffer
end_of_front : (bytes : List ℕ) (from to : ℕ) → from ≤ to → drop from (take to bytes) ≡ take (to - from) (drop from bytes)
end_of_front bytes from to order =
    let whole : to ≡ from + (to - from) = omega arith in
    ap (λ n. drop from (take n bytes)) whole ∙ drop-take from (to - from) bytes

-- what is left of a text that fills the front of a buffer, as a part of the buffer
pub left_of_front : (bytes : List ℕ) (filled left : ℕ) → filled ≤ length bytes → left ≤ filled
    → drop (length (take filled bytes) - left) (take filled bytes) ≡ take (filled - (filled - left)) (drop (filled - left) bytes)
left_of_front bytes filled left within few = grind (arith, length-take-le, end_of_front)
