-- The names of a drill's tags.
use Rattle.std.proofs.Common.{◌≡◌, ◌≢◌, ℕ, ◌+◌, ◌%◌, ◌^◌, ◌<◌, ◌≤◌, true, ◌&&◌, [], ◌∷◌, ◌++◌, length, codes, arith, sym, ◌∙◌, ap, ap₂, AllPairs, drop}
use Rattle.std.specs.Fmt.{decimal}
use Rattle.std.specs.List.{list_all}
use Rattle.std.proofs.lemmas.Bool.Decides.{nat_tests}
use Rattle.std.proofs.lemmas.Fmt.{decimal_by_steps, decimal_injective, length-decimal-le}
use Rattle.std.proofs.lemmas.List.Folds.{list_all-append}
use Rattle.std.proofs.lemmas.List.FromFn.{get_or-map-range_with_len, length-map-range_with_len}
use Rattle.trend_num.specs.{IsName, is_name_byte}
use Rattle.run_command.specs.{drill_tag, drill_tags}

-- a digit may occur in a name
digit_spelled : (n : ℕ) → n < 10 → is_name_byte (48 + n) ≡ true
digit_spelled n below = grind (arith, nat_tests)

one_spelled : (n : ℕ) → n < 10 → list_all is_name_byte ((48 + n) ∷ []) ≡ true
one_spelled n below = ap (λ b. b && true) (digit_spelled n below)

-- and so may a numeral
numeral_spelled : (n : ℕ) → n < 2 ^ 64 → list_all is_name_byte (decimal n) ≡ true
numeral_spelled n fits = decimal_by_steps (λ k ds. list_all is_name_byte ds ≡ true) one_spelled
    (λ k ds many before. list_all-append is_name_byte ds ((48 + k % 10) ∷ [])
    ∙ ap₂ (λ a b. a && b) before (one_spelled (k % 10) (omega arith)))
    n fits

-- `D` and a numeral are a name
pub place_named : (n : ℕ) → n < 2 ^ 32 → IsName (codes "D" ++ decimal n)
place_named n fits =
    let short : length (decimal n) ≤ 10 = length-decimal-le 10 n (omega arith) (omega arith) (omega arith) in
    record { not_empty = omega arith; fits = omega arith; spelled = numeral_spelled n (omega arith) }

-- there are as many tags as were asked for
pub as_many_tags : (tags : ℕ) → length (drill_tags tags) ≡ tags
as_many_tags tags = length-map-range_with_len drill_tag 0 tags

-- and no two of them have one name
pub distinct_tags : (tags : ℕ) → tags ≤ 64 → AllPairs (λ a b. a.name ≢ b.name) (drill_tags tags)
distinct_tags tags few i j d before within same =
    let below : j < tags = omega (arith, as_many_tags tags) in
    let first = get_or-map-range_with_len drill_tag 0 tags i i d (omega arith) (omega arith) in
    let second = get_or-map-range_with_len drill_tag 0 tags j j d below (omega arith) in
    let names : codes "D" ++ decimal i ≡ codes "D" ++ decimal j =
    ap (λ t. t.name) (sym first) ∙ same ∙ ap (λ t. t.name) second in
    let places : i ≡ j = decimal_injective i j (omega arith) (omega arith) (ap (drop 1) names) in
    absurd (omega arith)
