-- Why a value was not taken.
use Rattle.std.proofs.Common.{◌≡◌, ◌⊎◌, ℕ, ◌+◌, ◌<◌, ◌≤◌, inl, inr, Bool, true, false, nat_le, nat_lt, List, length, Option, None, Some, refl, ap, arith}
use Rattle.std.specs.Prelude.{slice_get, if◌then◌else◌}
use Rattle.std.proofs.lemmas.Bool.Decides.{nat_tests}
use Rattle.std.proofs.lemmas.Option.{none-some}
use Rattle.trend_num.specs.{most_records}
use Rattle.value_rows.specs.{RawRow}
use Rattle.tag_cell.specs.{TakeNo, taken, ToldCell, take_refusal}
use Rattle.tag_cell.specs.declared.entry.TakeNo.TheVariants.{Broken, RoomFull, Full}
use Rattle.session_audit.specs.{Item, take_of, LacksRow, IsTakeRefusal, OfBroken, OfLimit, OfRoom, tag_rows, take_status}

-- the first of three tests that holds
first_of : (a b c : Bool) (x y why : TakeNo)
    → (if a then Some Broken else (if b then Some x else (if c then Some y else None))) ≡ Some why
    → ((a ≡ true) × (why ≡ Broken)) ⊎ (((b ≡ true) × (why ≡ x)) ⊎ ((c ≡ true) × (why ≡ y)))
first_of true b c x y why is = inl (refl, cc)
first_of false true c x y why is = inr (inl (refl, cc))
first_of false false true x y why is = inr (inr (refl, cc))
first_of false false false x y why is = absurd (none-some why is)

-- what the status of a refused row reports, where the tape of its tag lacks the row, and has fewer takes than the tag has rows
pub take_refused : {D : Type 0} (item_of : ℕ → ℕ → RawRow → Option Item) (files : List (List RawRow)) (cells : List (ToldCell D))
    (tag takes rows : ℕ) (c : ToldCell D) (why : TakeNo) → slice_get cells tag ≡ Some c → take_refusal c ≡ Some why
    → takes ≡ length (taken c.tape) → rows ≡ tag_rows tag files → length (taken c.tape) < rows
    → LacksRow take_of item_of files tag c.tape → IsTakeRefusal item_of files cells (take_status tag takes rows why)
take_refused item_of files cells tag takes rows c why there is counted of_tag fewer lack =
    elim (first_of c.journal.failed (nat_le c.room (length (taken c.tape))) (nat_lt most_records (length c.state.records + 2))
    (RoomFull c.room) (Full (length c.state.records)) why is) [
      | inl (failed, broken) ↦ OfBroken tag (ap (take_status tag takes rows) broken)
          (record { cell = c; there = there; so = (failed, lack) })
      | inr (inl (full, told)) ↦ OfRoom tag takes rows (ap (take_status tag takes rows) told) (record {
        cell = c;
        there = there;
        so = (counted, of_tag, omega (arith, counted, fewer), omega (arith, counted, at_most c.room (length (taken c.tape)) full), lack);
      })
      | inr (inr (many, told)) ↦ OfLimit tag (length c.state.records) (ap (take_status tag takes rows) told)
          (record { cell = c; there = there; so = (refl, below most_records (length c.state.records + 2) many, lack) })
    ]
  where
    at_most : (a b : ℕ) → nat_le a b ≡ true → a ≤ b
    at_most a b h = grind (arith, nat_tests, h)

    below : (a b : ℕ) → nat_lt a b ≡ true → a < b
    below a b h = grind (arith, nat_tests, h)
