-- Lemmas on the parts between separators, and on the lines of a text.
use Rattle.std.proofs.Common.{◌≡◌, ◌≢◌, ℕ, ◌+◌, ◌-◌, ◌<◌, ◌≤◌, Bool, cond, List, [], ◌∷◌, length, take, drop, nat_eq, nat_lt, position, ◌++◌, get_or, Some, None, arith, refl, ap, ◌∙◌, length-take, get_or-take}
use Rattle.std.proofs.lemmas.Grind.{common_steps}
use Rattle.std.proofs.lemmas.List.Quantifiers.{position-Some}
use Rattle.std.proofs.lemmas.List.Splits.{slice_split_at, slice_split_none, slice_split_first, length-slice_split}
use Rattle.std.proofs.lemmas.Bool.{eqb-true}
use Rattle.std.proofs.lemmas.List.{drop_more, take-append-drop}
use Rattle.std.proofs.lemmas.List.Sums.{position_or_len_is, fails_before_first}
use Rattle.std.proofs.lemmas.Bool.Decides.{nat_tests}
use Rattle.std.specs.List.{slice_split}
use Rattle.std.specs.Str.Lines.{lines, lines_of_parts, strip_carriage_return}
use Rattle.point_text.specs.{HasNoFeed}

-- the end of a list, as it is cut out of it
pub rest_whole : (xs : List ℕ) (i : ℕ) → take (length xs - i) (drop i xs) ≡ drop i xs
rest_whole xs i = grind (arith, common_steps)

-- the first part ends at the first separator
pub split_found : (p : ℕ → Bool) (xs : List ℕ) (i : ℕ) → position p xs ≡ Some i
    → slice_split p xs ≡ take i xs ∷ slice_split p (take (length xs - (i + 1)) (drop (i + 1) xs))
split_found p xs i at = grind (arith, position-Some, position_or_len_is, slice_split_first, rest_whole)

-- no place, so each element is before the first separator
past_all : (n m : ℕ) → cond (nat_lt n m) (Some n) None ≡ None → m ≤ n
past_all n m e = grind (arith, nat_tests)

-- where there is no separator, there is one part
pub split_not_found : (p : ℕ → Bool) (xs : List ℕ) → position p xs ≡ None → slice_split p xs ≡ xs ∷ []
split_not_found p xs none = grind (arith, past_all, slice_split_none, fails_before_first)

-- a part before another one is a line
pub lines_of_parts-cons : (x : List ℕ) (parts : List (List ℕ)) → 0 < length parts → lines_of_parts (x ∷ parts) ≡ strip_carriage_return x ∷ lines_of_parts parts
lines_of_parts-cons x [] some = absurd (omega arith)
lines_of_parts-cons x (y ∷ more) some = refl

-- a line and its line feed come before the lines of the rest
pub lines_fed : (line after : List ℕ) → HasNoFeed line → lines (line ++ 10 ∷ after) ≡ strip_carriage_return line ∷ lines after
lines_fed line after one = grind (arith, length-slice_split, slice_split_at, lines_of_parts-cons)

-- a last part that is not empty is a line
one_line : (bs : List ℕ) → 0 < length bs → lines_of_parts (bs ∷ []) ≡ bs ∷ []
one_line bs some = grind (arith, nat_tests)

-- a text with no line feed is its one line
pub lines_begun : (line : List ℕ) → HasNoFeed line → 0 < length line → lines line ≡ line ∷ []
lines_begun line one some = ap lines_of_parts (slice_split_none (λ b. nat_eq b 10) line one) ∙ one_line line some

-- a text is cut at its first line feed
pub feed_found : (text : List ℕ) (i : ℕ) → position (λ b. nat_eq b 10) text ≡ Some i
    → (text ≡ take i text ++ 10 ∷ take (length text - (i + 1)) (drop (i + 1) text)) × HasNoFeed (take i text)
feed_found text i at =
    let found = position-Some (λ b. nat_eq b 10) text i 0 at in
    let byte : get_or text i 0 ≡ 10 = eqb-true _ _ found.1 in (grind (arith, take-append-drop, drop_more, rest_whole, length-take, get_or-take))

-- and where none is found there is none
pub feed_not_found : (text : List ℕ) → position (λ b. nat_eq b 10) text ≡ None → HasNoFeed text
feed_not_found text none = grind (arith, past_all, fails_before_first)

-- two separators make more parts than two
pub split_thrice : (p : ℕ → Bool) (xs : List ℕ) (i j : ℕ) → position p xs ≡ Some i
    → position p (take (length xs - (i + 1)) (drop (i + 1) xs)) ≡ Some j → length (slice_split p xs) ≢ 2
split_thrice p xs i j first second = λ two.
    let value : List ℕ = take (length xs - (i + 1)) (drop (i + 1) xs) in
    let others : List ℕ = take (length value - (j + 1)) (drop (j + 1) value) in
    let parts : slice_split p xs ≡ take i xs ∷ take j value ∷ slice_split p others =
    split_found p xs i first ∙ ap (λ l. take i xs ∷ l) (split_found p value j second) in
    let more = length-slice_split p others in
    omega (arith, ap length parts)
