-- Which bytes of a line are printable.
use Rattle.std.proofs.Common.{ℕ, ◌+◌, ◌%◌, ◌^◌, ◌<◌, List, [], ◌∷◌, ◌++◌, decimal, arith}
use Rattle.std.proofs.lemmas.Bool.Decides.{nat_tests}
use Rattle.std.proofs.lemmas.Fmt.{decimal_by_steps}
use Rattle.std.proofs.lemmas.List.Folds.{list_all-append}
use Rattle.plant_status.specs.{is_printable, IsPrintable}

pub IsPrintable-append : (xs ys : List ℕ) → IsPrintable xs → IsPrintable ys → IsPrintable (xs ++ ys)
IsPrintable-append xs ys front back = rw (list_all-append is_printable xs ys, front, back)

IsPrintable-digit : (d : ℕ) → d < 10 → IsPrintable ((48 + d) ∷ [])
IsPrintable-digit d small = grind (arith, nat_tests)

pub IsPrintable-decimal : (n : ℕ) → n < 2 ^ 64 → IsPrintable (decimal n)
IsPrintable-decimal = decimal_by_steps (λ _ digits. IsPrintable digits) IsPrintable-digit
    (λ n digits _ front. IsPrintable-append digits ((48 + n % 10) ∷ []) front
    (IsPrintable-digit (n % 10) (omega arith)))

-- what the bytes of a line are made of
pub ruleset printable = (IsPrintable-append, IsPrintable-decimal)
