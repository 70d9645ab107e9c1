-- Two records or summaries in range that have the same bytes are the same.
use Rattle.std.proofs.Common.{◌≡◌, List, [], ◌∷◌, length, get_or, take, drop, Option, None, Some, is_some, IfSome, refl, sym, ap, ◌∙◌, arith}
use Rattle.trend_num.specs.{Rec, Summary, Tuning, InRange, TuningInRange}
use Rattle.archive_file.specs.{rec_image, recs_image, AreInRange, tuning_bytes, summary_image, IsSummary}
use Rattle.archive_file.proofs.Points.{rec_read}
use Rattle.archive_file.proofs.Parts.{AreRead, parts_read, tuning_read}

one_rec : (r x : Rec) → InRange r.point → InRange x.point → rec_image r ≡ rec_image x → r ≡ x
one_rec r x inside other same = grind (arith, rec_read)

pub one_list : (rs xs : List Rec) → AreInRange rs → AreInRange xs → length rs ≡ length xs
    → recs_image rs ≡ recs_image xs → rs ≡ xs
one_list [] [] inside other counted same = refl
one_list [] (x ∷ xs) inside other counted same = absurd (omega (arith, counted))
one_list (r ∷ rs) [] inside other counted same = absurd (omega (arith, counted))
one_list (r ∷ rs) (x ∷ xs) inside other counted same =
    let first = one_rec r x inside.0 other.0 (ap (take 17) same) in
    let rest = one_list rs xs inside.1 other.1 (omega (arith, counted)) (ap (drop 17) same) in
    λ i. first i ∷ rest i

one_tuning : (o q : Option Tuning) → is_some o ≡ is_some q → IfSome o TuningInRange → IfSome q TuningInRange
    → tuning_bytes o ≡ tuning_bytes q → o ≡ q
one_tuning None None there inside other same = refl
one_tuning None (Some u) there inside other same = absurd (cc (there))
one_tuning (Some t) None there inside other same = absurd (cc (there))
one_tuning (Some t) (Some u) there inside other same =
    let b = tuning_bytes (Some t) in
    ap Some (sym (tuning_read t b _ _ _ _ inside refl refl refl refl refl)
    ∙ tuning_read u b _ _ _ _ other same refl refl refl refl)

-- what is read of the bytes of a summary
are_read : (b : List _) (s : Summary) → IsSummary s → b ≡ summary_image s
    → let r2 = drop 4 (drop 8 b) in
    AreRead s b (drop 8 b) (drop 4 r2) (drop 16 (drop 4 r2)) (drop 16 (drop 16 (drop 4 r2)))
    (drop 16 (drop 16 (drop 16 (drop 4 r2)))) (drop 16 (drop 16 (drop 16 (drop 16 (drop 4 r2)))))
    (drop 16 (drop 16 (drop 16 (drop 16 (drop 16 (drop 4 r2)))))) (get_or r2 0 0)
are_read b s whole is = parts_read s b _ _ _ _ _ _ _ _ _ whole is refl refl refl refl refl refl refl refl refl

pub one_summary : (s x : Summary) → IsSummary s → IsSummary x → summary_image s ≡ summary_image x → s ≡ x
one_summary s x whole other same = grind (arith, are_read, one_tuning)
