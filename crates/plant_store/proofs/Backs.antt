-- How a plant's devices come back.
use Rattle.std.proofs.Common.{◌≡◌, ℕ, ◌^◌, ◌<◌, ◌≤◌, List, [], length, get_or, sym, ◌∙◌, arith}
use Rattle.std.specs.Prelude.{All, true, string_bytes}
use Rattle.std.proofs.lemmas.List.{get_or-map, length-map}
use Rattle.std.proofs.lemmas.List.Elements.{All-weaker}
use Rattle.disk_model.specs.{Device}
use Rattle.tag_cell.specs.{ToldCell as Cell}
use Rattle.group_book.specs.{ToldBook as Book, faults_of}
use Rattle.plant_store.specs.CellClosings.{AreGivenBack, CountsCells, HasRisen}
use Rattle.plant_store.specs.{texts, AreOtherNamesSame, Shelf, AreDevicesBack, CountsClosed, IsShelf}
use Rattle.plant_store.specs.BookEndings.{AreGivenBack as AreBooksBack, counts_after}
use Rattle.plant_store.specs.Groups.{DeviceTraces}
use Rattle.plant_store.proofs.Risen.{sooner_risen, still_risen}
use Rattle.plant_store.proofs.BookReturns.{counts_small}

-- the devices of the books are given back, and then those of the cells
pub all_back : {D : Type 0} (device : D → Device) (shelf : Shelf) (cells : List (Cell D)) (books : List (Book D))
    (old mid new : DeviceTraces) → IsShelf shelf → length shelf.group_names.items ≡ length books
    → AreBooksBack device shelf.group_names.items books old mid
    → AreOtherNamesSame (length shelf.group_names.items) shelf.group_names.items old mid
    → AreGivenBack device (texts shelf.tag_names.items) cells mid new → AreDevicesBack device shelf cells books old new
all_back device shelf cells books old mid new is many given rest back =
    let names = shelf.group_names.items in
    let as_many = length-map names string_bytes in
    record {
      of_tags = back.given;
      of_groups = λ i b s below own.
          let there : i < length names = omega (arith, below, many) in
          back.others (string_bytes (get_or names i s)) (λ k d within same.
          is.kinds_apart k d within i [] (omega (arith, there, as_many)) (sym same ∙ sym (get_or-map string_bytes names i s [] there)))
          ∙ given i b s below own;
      others = λ n no_tag no_group. back.others n no_tag ∙ rest n (λ i s there same.
          no_group i [] (omega (arith, there, as_many)) (same ∙ sym (get_or-map string_bytes names i s [] there)));
    }

-- the faults of the books' devices are counted, and then those of the cells'
pub all_counted : {D : Type 0} (device : D → Device) (cells : List (Cell D)) (books : List (Book D)) (before mid now : ℕ) → before < 2 ^ 64
    → mid ≡ counts_after device books before → before ≤ mid
    → ((i : ℕ) (b : Book D) → i < length books → 0 < faults_of device (get_or books i b).dev → HasRisen before mid)
    → (All (λ (b : Book D). faults_of device b.dev ≡ 0) books → mid ≡ before)
    → (mid < 2 ^ 64 → CountsCells device cells mid now) → CountsClosed device cells books before now
all_counted {D} device cells books before mid now small is later rose none closed =
    let counts = closed (omega (arith, is, counts_small device books before small)) in
    record {
      later = omega (arith, later, counts.later);
      of_cells = All-weaker (λ (c : Cell D). c.journal.failed ≡ true → HasRisen mid now)
          (λ (c : Cell D). c.journal.failed ≡ true → HasRisen before now)
          (λ c risen failed. sooner_risen before mid now later (risen failed)) cells counts.risen;
      of_books = λ i b below some. still_risen before mid now small counts.later (rose i b below some);
      faultless = λ no_cell no_book. counts.faultless no_cell ∙ none no_book;
    }
