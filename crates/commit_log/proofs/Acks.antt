-- Which rows a commit acknowledges.
use Rattle.std.proofs.Common.{◌≡◌, inl, inr, ℕ, ◌+◌, ◌-◌, List, [], ◌∷◌, ◌++◌, length, min, take, drop, sym, ap, ◌∙◌, arith, append_assoc, length-append}
use Rattle.std.proofs.lemmas.Bool.{cases_lt}
use Rattle.std.proofs.lemmas.List.{append-nil, take_all}
use Rattle.std.proofs.Math.Seq.{drop-append_seam, take-append_seam}
use Rattle.commit_log.specs.{LogRow, LogTurn, most_in_block, puts, Waits}
use Rattle.commit_log.proofs.Tapes.{puts_parts}

-- the first of two lists, where it is as long as it can be
take_least : (n : ℕ) (xs ys : List LogRow) → length xs ≡ min n (length xs + length ys) → take n (xs ++ ys) ≡ xs
take_least n xs ys least = elim (cases_lt (length xs + length ys) n) [
  | inl low ↦
      let none : ys ≡ [] = empty ys (omega (arith, low, least)) in
      ap (λ l. take n (xs ++ l)) none ∙ (ap (take n) (append-nil xs) ∙ take_all n xs (omega (arith, low)))
  | inr high ↦
      let long : n ≡ length xs = omega (arith, high, least) in
      ap (λ k. take k (xs ++ ys)) long ∙ take-append_seam xs ys
]
  where
    empty : (l : List LogRow) → length l ≡ 0 → l ≡ []
    empty [] none = λ i. []
    empty (x ∷ l) none = absurd (omega (arith, none))

-- the rows of a block are the oldest that wait
module _ (opening : List LogRow) (tape : List LogTurn) (next acked turns : ℕ) (waits : Waits opening tape next acked)
    (count_is : length (puts (take turns (drop next tape))) ≡ min most_in_block (length opening + length (puts tape) - acked)) where
  abbrev first : List LogRow
  first = puts (take next tape)

  abbrev block : List LogRow
  block = puts (take turns (drop next tape))

  abbrev behind : List LogRow
  behind = puts (drop turns (drop next tape))

  parts : puts tape ≡ first ++ (block ++ behind)
  parts = puts_parts tape next turns ∙ append_assoc first block behind

  sizes : length (puts tape) ≡ length first + (length block + length behind)
  sizes = omega (arith, ap length parts, length-append first (block ++ behind), length-append block behind)

  place : acked - length opening ≡ length first
  place = omega (arith, waits.acked_are)

  from_first : drop (acked - length opening) (puts tape) ≡ block ++ behind
  from_first = ap (λ (k : ℕ). drop k (puts tape)) place ∙ (ap (drop (length first)) parts ∙ drop-append_seam first (block ++ behind))

  pub oldest_are : block ≡ take most_in_block (drop (acked - length opening) (puts tape))
  oldest_are = sym (ap (take most_in_block) from_first
      ∙ take_least most_in_block block behind (omega (arith, count_is, waits.acked_are, sizes)))
