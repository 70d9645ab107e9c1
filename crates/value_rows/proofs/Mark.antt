-- A byte order mark in the text: a reader leaves one out at the begin of what it is handed, and nowhere else.
use Rattle.std.proofs.Common.{◌≡◌, ℕ, zero, suc, ◌+◌, ◌-◌, true, false, cond, List, [], ◌∷◌, length, map, take, drop, take-add, take_all, length-drop, refl, sym, ap, ◌∙◌, arith}
use Rattle.std.proofs.lemmas.Bool.Decides.{nat_tests}
use Rattle.csv.specs.Reading.{is_bom, strip_bom}
use Rattle.csv.specs.declared.parser.State.TheVariants.{StartRecord}
use Rattle.value_rows.specs.{AreFirstRows, ReadsRecords, has_mark, reads_behind, records_left, text_records_of}

-- whether a text of three bytes and more begins with one
mark_is : (a b c : ℕ) (rest : List ℕ) → has_mark (a ∷ b ∷ c ∷ rest) ≡ is_bom a b c
mark_is a b c rest = grind (arith, nat_tests)

-- a text without one is read as it is
unmarked : (text : List ℕ) → has_mark text ≡ false → strip_bom text ≡ text
unfolding strip_bom
unmarked [] none = refl
unmarked (a ∷ []) none = refl
unmarked (a ∷ b ∷ []) none = refl
unmarked (a ∷ b ∷ c ∷ rest) none =
    ap (λ m. cond m rest (a ∷ b ∷ c ∷ rest)) (sym (mark_is a b c rest) ∙ none)

-- so is one that is cut
unmarked_cut : (n : ℕ) (text : List ℕ) → has_mark text ≡ false → strip_bom (take n text) ≡ take n text
unfolding strip_bom
unmarked_cut zero text none = refl
unmarked_cut (suc zero) [] none = refl
unmarked_cut (suc zero) (a ∷ rest) none = refl
unmarked_cut (suc (suc zero)) [] none = refl
unmarked_cut (suc (suc zero)) (a ∷ []) none = refl
unmarked_cut (suc (suc zero)) (a ∷ b ∷ rest) none = refl
unmarked_cut (suc (suc (suc n))) [] none = refl
unmarked_cut (suc (suc (suc n))) (a ∷ []) none = refl
unmarked_cut (suc (suc (suc n))) (a ∷ b ∷ []) none = refl
unmarked_cut (suc (suc (suc n))) (a ∷ b ∷ c ∷ rest) none =
    ap (λ m. cond m (take n rest) (a ∷ b ∷ c ∷ take n rest)) (sym (mark_is a b c rest) ∙ none)

-- a text with one is read without it
marked : (text : List ℕ) → has_mark text ≡ true → strip_bom text ≡ drop 3 text
unfolding strip_bom
marked [] has = absurd (cc)
marked (a ∷ []) has = absurd (cc)
marked (a ∷ b ∷ []) has = absurd (cc)
marked (a ∷ b ∷ c ∷ rest) has = ap (λ m. cond m rest (a ∷ b ∷ c ∷ rest)) (sym (mark_is a b c rest) ∙ has)

-- so is one that is cut
marked_cut : (n : ℕ) (text : List ℕ) → has_mark text ≡ true → strip_bom (take (3 + n) text) ≡ take n (drop 3 text)
unfolding strip_bom
marked_cut n [] has = absurd (cc)
marked_cut n (a ∷ []) has = absurd (cc)
marked_cut n (a ∷ b ∷ []) has = absurd (cc)
marked_cut n (a ∷ b ∷ c ∷ rest) has =
    ap strip_bom (take-add 3 n (a ∷ b ∷ c ∷ rest))
    ∙ ap (λ m. cond m (take n rest) (a ∷ b ∷ c ∷ take n rest)) (sym (mark_is a b c rest) ∙ has)

-- the text behind it
abbrev pub behind_mark : List ℕ → List ℕ
behind_mark text = take (length text - 3) (drop 3 text)

-- all of it
all_behind : (text : List ℕ) → behind_mark text ≡ drop 3 text
all_behind text = take_all (length text - 3) (drop 3 text) (omega (arith, length-drop 3 text))

-- the records of a text that has one, and of a part that has it too
pub marked_records : (text : List ℕ) → has_mark text ≡ true → text_records_of text ≡ records_left StartRecord (behind_mark text)
marked_records text has = grind (arith, marked, all_behind)

pub marked_part_records : (n : ℕ) (text : List ℕ) → has_mark text ≡ true
    → text_records_of (take (3 + n) text) ≡ records_left StartRecord (take n (behind_mark text))
marked_part_records n text has = grind (arith, marked_cut, all_behind)

-- and without one
pub unmarked_records : (text : List ℕ) → has_mark text ≡ false → text_records_of text ≡ records_left StartRecord text
unmarked_records text none = ap (records_left StartRecord) (unmarked text none)

pub unmarked_part_records : (n : ℕ) (text : List ℕ) → has_mark text ≡ false
    → text_records_of (take n text) ≡ records_left StartRecord (take n text)
unmarked_part_records n text none = ap (records_left StartRecord) (unmarked_cut n text none)

-- first rows of a text stay so where neither it nor what is left begins with one
pub rows_unmarked : {R : Type 0} (row_of : ReadsRecords R) (text after : List ℕ) (rows : List R)
    → has_mark text ≡ false → has_mark after ≡ false → AreFirstRows row_of text after rows → map row_of (text_records_of text) ≡ reads_behind row_of rows after
rows_unmarked row_of text after rows none none_after first = rw (unmarked text none, unmarked after none_after) first
