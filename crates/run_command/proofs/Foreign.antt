-- Entries of no file, and after which refusals a tape may have one.
use Rattle.std.proofs.Common.{◌≡◌, ℕ, List, length, refl, subst, sym}
use Rattle.calc_refresh.specs.{lists_of}
use Rattle.plant_status.specs.{Seen, Unit}
use Rattle.session_audit.specs.Agendas.{ask_item, phase_item, row_item}
use Rattle.session_audit.specs.{book_tape, cell_tape, row_ask_of, ask_of, take_of, AreOver, IsAskMismatch, IsMismatchAt, IsRowAskMismatch, IsTakeMismatch, Reached, IsBookAbove, IsTurnsMismatch}
use Rattle.plant_status.specs.declared.mismatch.Place.TheVariants as place
use Rattle.plant_status.specs.declared.status.Status.{Status}
use Rattle.plant_status.specs.declared.status.Status.TheVariants.{Done, BadWords, BadText, BadRow, ReadFault, WriteFault, DeviceFault, Damaged, OtherTag, Limit, Mismatch, Halted, WantOfMemory, OtherPlant, BadName}
use Rattle.tag_cell.specs.{ToldCell as Cell}
use Rattle.group_book.specs.{ToldBook as Book}
use Rattle.run_command.specs.{Given, AreCellAsksBegun, AreBegun, AreCellTakesBegun}
use Rattle.run_command.specs.Refusals.{IsFindingRefusal, IsOpening, MayBeForeign, OfAsk, OfRowAsk, OfTake, OfTurns}

-- a changed opening, and the status that reports it
pub opening_is : (s : Status) → IsOpening s → (unit : Unit) × (kept : Seen) × (told : Seen) × (s ≡ Mismatch (place.Opening unit) kept told)
opening_is (Mismatch (place.Opening unit) kept told) is = (unit, kept, told, refl)
opening_is (Mismatch (place.Takes tag) kept told) is = absurd is
opening_is (Mismatch (place.Take tag at) kept told) is = absurd is
opening_is (Mismatch (place.Ask tag at) kept told) is = absurd is
opening_is (Mismatch (place.RowAsk group at) kept told) is = absurd is
opening_is (Mismatch (place.Version group input) kept told) is = absurd is
opening_is (Mismatch (place.Windows group) kept told) is = absurd is
opening_is (Mismatch (place.Pull group input turn) kept told) is = absurd is
opening_is (Mismatch (place.Turns group) kept told) is = absurd is
opening_is (Mismatch (place.Log at) kept told) is = absurd is
opening_is Done is = absurd is
opening_is BadWords is = absurd is
opening_is (BadText file rule at row) is = absurd is
opening_is (BadRow file row reason) is = absurd is
opening_is (ReadFault file) is = absurd is
opening_is WriteFault is = absurd is
opening_is (DeviceFault unit) is = absurd is
opening_is (Damaged unit at byte) is = absurd is
opening_is (OtherTag tag found wanted) is = absurd is
opening_is (Limit what number) is = absurd is
opening_is (Halted worker) is = absurd is
opening_is WantOfMemory is = absurd is
opening_is (OtherPlant at) is = absurd is
opening_is (BadName word) is = absurd is

pub opening_foreign : (s : Status) → IsOpening s → MayBeForeign s
opening_foreign s is = subst MayBeForeign (sym (opening_is s is).3) tt

module _ {D : Type 0} (g : Given) (cells : List (Cell D)) (books : List (Book D)) where
  -- an entry that is not its worker's, or a group that was refreshed too often, and the status that reports it
  pub data Finding (why : Status) : Type 0 where
    AtTake : (works : List Reached) (tag at : ℕ) (kept told : Seen) → why ≡ Mismatch (place.Take tag at) kept told
        → AreOver (phase_item g.work.earlier) (length cells) (lists_of g.work.collectors.items) works
        → IsMismatchAt cell_tape take_of cells works tag at kept told → Finding why
    AtAsk : AreCellTakesBegun g cells → (works : List Reached) (tag at : ℕ) (kept told : Seen) → why ≡ Mismatch (place.Ask tag at) kept told
        → AreOver ask_item (length cells) (lists_of g.work.readers.items) works
        → IsMismatchAt cell_tape ask_of cells works tag at kept told → Finding why
    AtRowAsk : AreCellTakesBegun g cells → AreCellAsksBegun g cells → (works : List Reached) (group at : ℕ) (kept told : Seen) → why ≡ Mismatch (place.RowAsk group at) kept told
        → AreOver row_item (length books) (lists_of g.work.readers.items) works
        → IsMismatchAt book_tape row_ask_of books works group at kept told → Finding why
    AtTurns : AreBegun g cells books → (group : ℕ) (kept told : Seen) → why ≡ Mismatch (place.Turns group) kept told
        → IsBookAbove g.turns.items books group kept told → Finding why

  -- no other status reports one
  none_of : {P : Type 0} (s : Status) → ((works : List Reached) → IsTakeMismatch cells works s → ⊥)
      → ((works : List Reached) → IsAskMismatch cells works s → ⊥) → ((works : List Reached) → IsRowAskMismatch books works s → ⊥)
      → (IsTurnsMismatch g.turns.items books s → ⊥) → IsFindingRefusal g cells books s → P
  none_of s take ask row turns (OfTake works over unfound is) = absurd (take works is)
  none_of s take ask row turns (OfAsk takes works over unfound is) = absurd (ask works is)
  none_of s take ask row turns (OfRowAsk takes asks works over unfound is) = absurd (row works is)
  none_of s take ask row turns (OfTurns begun is) = absurd (turns is)

  pub found_at : (s : Status) → IsFindingRefusal g cells books s → Finding s
  found_at (Mismatch (place.Opening unit) kept told) is = none_of (Mismatch (place.Opening unit) kept told) (λ w no. no) (λ w no. no) (λ w no. no) (λ no. no) is
  found_at (Mismatch (place.Takes tag) kept told) is = none_of (Mismatch (place.Takes tag) kept told) (λ w no. no) (λ w no. no) (λ w no. no) (λ no. no) is
  found_at (Mismatch (place.Take tag at) kept told) (OfTake works over unfound is) = AtTake works tag at kept told refl over is
  found_at (Mismatch (place.Take tag at) kept told) (OfAsk takes works over unfound is) = absurd is
  found_at (Mismatch (place.Take tag at) kept told) (OfRowAsk takes asks works over unfound is) = absurd is
  found_at (Mismatch (place.Take tag at) kept told) (OfTurns begun is) = absurd is
  found_at (Mismatch (place.Ask tag at) kept told) (OfTake works over unfound is) = absurd is
  found_at (Mismatch (place.Ask tag at) kept told) (OfAsk takes works over unfound is) = AtAsk takes works tag at kept told refl over is
  found_at (Mismatch (place.Ask tag at) kept told) (OfRowAsk takes asks works over unfound is) = absurd is
  found_at (Mismatch (place.Ask tag at) kept told) (OfTurns begun is) = absurd is
  found_at (Mismatch (place.RowAsk group at) kept told) (OfTake works over unfound is) = absurd is
  found_at (Mismatch (place.RowAsk group at) kept told) (OfAsk takes works over unfound is) = absurd is
  found_at (Mismatch (place.RowAsk group at) kept told) (OfRowAsk takes asks works over unfound is) = AtRowAsk takes asks works group at kept told refl over is
  found_at (Mismatch (place.RowAsk group at) kept told) (OfTurns begun is) = absurd is
  found_at (Mismatch (place.Version group input) kept told) is = none_of (Mismatch (place.Version group input) kept told) (λ w no. no) (λ w no. no) (λ w no. no) (λ no. no) is
  found_at (Mismatch (place.Windows group) kept told) is = none_of (Mismatch (place.Windows group) kept told) (λ w no. no) (λ w no. no) (λ w no. no) (λ no. no) is
  found_at (Mismatch (place.Pull group input turn) kept told) is = none_of (Mismatch (place.Pull group input turn) kept told) (λ w no. no) (λ w no. no) (λ w no. no) (λ no. no) is
  found_at (Mismatch (place.Turns group) kept told) (OfTake works over unfound is) = absurd is
  found_at (Mismatch (place.Turns group) kept told) (OfAsk takes works over unfound is) = absurd is
  found_at (Mismatch (place.Turns group) kept told) (OfRowAsk takes asks works over unfound is) = absurd is
  found_at (Mismatch (place.Turns group) kept told) (OfTurns begun is) = AtTurns begun group kept told refl is
  found_at (Mismatch (place.Log at) kept told) is = none_of (Mismatch (place.Log at) kept told) (λ w no. no) (λ w no. no) (λ w no. no) (λ no. no) is
  found_at Done is = none_of Done (λ w no. no) (λ w no. no) (λ w no. no) (λ no. no) is
  found_at BadWords is = none_of BadWords (λ w no. no) (λ w no. no) (λ w no. no) (λ no. no) is
  found_at (BadText file rule at row) is = none_of (BadText file rule at row) (λ w no. no) (λ w no. no) (λ w no. no) (λ no. no) is
  found_at (BadRow file row reason) is = none_of (BadRow file row reason) (λ w no. no) (λ w no. no) (λ w no. no) (λ no. no) is
  found_at (ReadFault file) is = none_of (ReadFault file) (λ w no. no) (λ w no. no) (λ w no. no) (λ no. no) is
  found_at WriteFault is = none_of WriteFault (λ w no. no) (λ w no. no) (λ w no. no) (λ no. no) is
  found_at (DeviceFault unit) is = none_of (DeviceFault unit) (λ w no. no) (λ w no. no) (λ w no. no) (λ no. no) is
  found_at (Damaged unit at byte) is = none_of (Damaged unit at byte) (λ w no. no) (λ w no. no) (λ w no. no) (λ no. no) is
  found_at (OtherTag tag found wanted) is = none_of (OtherTag tag found wanted) (λ w no. no) (λ w no. no) (λ w no. no) (λ no. no) is
  found_at (Limit what number) is = none_of (Limit what number) (λ w no. no) (λ w no. no) (λ w no. no) (λ no. no) is
  found_at (Halted worker) is = none_of (Halted worker) (λ w no. no) (λ w no. no) (λ w no. no) (λ no. no) is
  found_at WantOfMemory is = none_of WantOfMemory (λ w no. no) (λ w no. no) (λ w no. no) (λ no. no) is
  found_at (OtherPlant at) is = none_of (OtherPlant at) (λ w no. no) (λ w no. no) (λ w no. no) (λ no. no) is
  found_at (BadName word) is = none_of (BadName word) (λ w no. no) (λ w no. no) (λ w no. no) (λ no. no) is

  -- what a status reports after which no tape may have an entry of no file comes behind all entries
  pub finding_begun : (s : Status) → IsFindingRefusal g cells books s → (MayBeForeign s → ⊥) → AreBegun g cells books
  finding_begun s is none = by (found_at s is)
    where
      by : Finding s → AreBegun g cells books
      by (AtTake works tag at kept told same over differs) = absurd (none (subst MayBeForeign (sym same) tt))
      by (AtAsk takes works tag at kept told same over differs) = absurd (none (subst MayBeForeign (sym same) tt))
      by (AtRowAsk takes asks works group at kept told same over differs) = absurd (none (subst MayBeForeign (sym same) tt))
      by (AtTurns begun group kept told same differs) = begun
