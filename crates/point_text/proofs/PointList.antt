-- Lemmas on the points of a text's lines.
use Rattle.std.proofs.Common.{◌≡◌, ℕ, ◌≤◌, ℤ, pos, negsuc, true, false, cond, List, [], ◌∷◌, nat_eq, nat_le, unsigned_abs, Option, Some, None, Result, Ok, Err, IfOk, arith, refl, sym, subst}
use Rattle.std.proofs.lemmas.Bool.Decides.{nat_tests}
use Rattle.std.specs.List.{slice_split}
use Rattle.trend_num.specs.{Point, Reason, numeral, natural_upto, InRange, last_time, largest_value}
use Rattle.trend_num.specs.declared.refusal.Reason.TheVariants.{Range}
use Rattle.point_text.specs.{point_of, point_read, point_of_fields, point_of_line}

-- a number in range
natural_upto-le : (most : ℕ) (z : ℤ) (n : ℕ) → natural_upto most z ≡ Some n → n ≤ most
natural_upto-le most (pos m) n given = grind (arith, nat_tests)
natural_upto-le most (negsuc m) n given = absurd (cc)

-- what a test says
le-from_test : {m n : ℕ} → nat_le m n ≡ true → m ≤ n
le-from_test test = grind (arith, nat_tests)

-- a row has one point
Ok_point : (read : Result Point Reason) (p q : Point) → read ≡ Ok p → read ≡ Ok q → p ≡ q
Ok_point read p q same is = cc

-- a point of two numbers is in range
point_of-in_range : (t : Option ℕ) (v : ℤ) (p : Point) → ((n : ℕ) → t ≡ Some n → n ≤ last_time) → point_of t v ≡ Ok p → InRange p
point_of-in_range None v p time read = absurd (cc)
point_of-in_range (Some t) v p time read =
    elim (nat_le (unsigned_abs v) largest_value) as (λ b. nat_le (unsigned_abs v) largest_value ≡ b → cond b (Ok (record { t = t; v = v })) (Err Range) ≡ Ok p → InRange p) [
      | true ↦ λ small is. subst InRange (Ok_point (Ok (record { t = t; v = v })) (record { t = t; v = v }) p refl is) (record { time = time t refl; value = le-from_test small })
      | false ↦ λ large is. absurd (cc)
    ] refl read

-- so is one of two numerals
point_read-in_range : (t v : Option ℤ) (p : Point) → point_read t v ≡ Ok p → InRange p
point_read-in_range None v p read = absurd (cc)
point_read-in_range (Some t) None p read = absurd (cc)
point_read-in_range (Some t) (Some v) p read = point_of-in_range (natural_upto last_time t) v p (natural_upto-le last_time t) read

-- and one of a line's fields
point_of_fields-in_range : (fields : List (List ℕ)) (p : Point) → point_of_fields fields ≡ Ok p → InRange p
point_of_fields-in_range [] p read = absurd (cc)
point_of_fields-in_range (t ∷ []) p read = absurd (cc)
point_of_fields-in_range (t ∷ v ∷ []) p read = point_read-in_range (numeral t) (numeral v) p read
point_of_fields-in_range (t ∷ v ∷ w ∷ fields) p read = absurd (cc)

-- the point of a line is in range
pub point_of_line-in_range : (line : List ℕ) (p : Point) → point_of_line line ≡ Ok p → InRange p
point_of_line-in_range line p read = point_of_fields-in_range (slice_split (λ b. nat_eq b 44) line) p read

-- and so what a line reads as
pub read-in_range : (read : Result Point Reason) (line : List ℕ) → read ≡ point_of_line line → IfOk read InRange
read-in_range (Ok p) line reads = point_of_line-in_range line p (sym reads)
read-in_range (Err reason) line reads = tt
