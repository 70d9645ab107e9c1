-- What the steps of a session ask of its work, its cells and its books.
use Rattle.std.proofs.Common.{◌≡◌, ◌∙◌, ◌<◌, ◌^◌, ℕ, List, [], ◌∷◌, All, Vec, Option, arith, ap, sym, subst, length, get_or}
use Rattle.std.specs.declared.alloc.Global.{Global}
use Rattle.value_rows.specs.{Query}
use Rattle.value_rows.specs.declared.asked.Query.TheVariants.{Tag, Snap, Row}
use Rattle.calc_refresh.specs.{lists_of}
use Rattle.session_audit.specs.{Item, Reached, ask_of, take_of, AreOver, AreTapesFound, AreAllFound, IsKnownAsk, cell_tape, AreEach, IsKnownRowAsk, book_tape, AreInputs, KeptGroup, AreBooksRefreshed, refreshes, row_ask_of}
use Rattle.session_audit.specs.Agendas.{ask_item, phase_item, row_item}
use Rattle.session_audit.proofs.Begun.{tapes_begun}
use Rattle.collector_pool.specs.{IsQueryOf}
use Rattle.tag_cell.specs.{ToldCell as Cell}
use Rattle.group_book.specs.{ToldBook as Book}
use Rattle.session_audit.specs.Openings.{AreAsKept}
use Rattle.session_audit.specs.BookOpenings.{IsBookAsKept}
use Rattle.trend_num.specs.{Rec}
use Rattle.run_command.specs.{Given, AreCellAsksBegun, AreBegun, AreGivenFor, AreInputsFor, AreCellTakesBegun, IsBookKept}

-- a query of a tag or a group is one of a tag, if it asks a tag
known_ask : (tags groups : ℕ) (q : Query) → IsQueryOf tags groups q → IsKnownAsk tags q
known_ask tags groups (Tag tag asked) is = is
known_ask tags groups (Snap tag) is = tt
known_ask tags groups (Row group calc k) is = tt

-- and one of a group, if it asks a group
known_row_ask : (tags groups : ℕ) (q : Query) → IsQueryOf tags groups q → IsKnownRowAsk groups q
known_row_ask tags groups (Tag tag asked) is = tt
known_row_ask tags groups (Snap tag) is = tt
known_row_ask tags groups (Row group calc k) is = is

-- so are all of them
pub known_asks : (tags groups n : ℕ) (xs ys : List (Vec Query Global)) → ys ≡ xs → n ≡ tags
    → All (λ (q : Vec Query Global). All (IsQueryOf tags groups) q.items) xs → All (λ (q : Vec Query Global). All (IsKnownAsk n) q.items) ys
known_asks tags groups n xs ys same many all =
    subst (λ l. All (λ (q : Vec Query Global). All (IsKnownAsk n) q.items) l) (sym same)
    (subst (λ m. All (λ (q : Vec Query Global). All (IsKnownAsk m) q.items) xs) (sym many)
    (λ i d below j e within. known_ask tags groups (get_or (get_or xs i d).items j e) (all i d below j e within)))

pub known_row_asks : (tags groups : ℕ) (xs ys : List (Vec Query Global)) → ys ≡ xs
    → All (λ (q : Vec Query Global). All (IsQueryOf tags groups) q.items) xs
    → All (λ (q : Vec Query Global). All (IsKnownRowAsk groups) q.items) ys
known_row_asks tags groups xs ys same all =
    subst (λ l. All (λ (q : Vec Query Global). All (IsKnownRowAsk groups) q.items) l) (sym same)
    (λ i d below j e within. known_row_ask tags groups (get_or (get_or xs i d).items j e) (all i d below j e within))

module _ {D : Type 0} where
  -- if the progress of the workers agrees with the tapes, these show the first rows that are due there
  pub takes_begun : (g : Given) (cells : List (Cell D)) (works : List Reached)
      → AreOver (phase_item g.work.earlier) (length cells) (lists_of g.work.collectors.items) works → AreAllFound take_of cells works
      → AreCellTakesBegun g cells
  takes_begun g cells works over found = tapes_begun cell_tape take_of (phase_item g.work.earlier) _ _ cells works over found

  pub asks_begun : (g : Given) (cells : List (Cell D)) (works : List Reached)
      → AreOver ask_item (length cells) (lists_of g.work.readers.items) works → AreAllFound ask_of cells works → AreCellAsksBegun g cells
  asks_begun g cells works over found = tapes_begun cell_tape ask_of ask_item _ _ cells works over found

  pub all_begun : (g : Given) (cells : List (Cell D)) (books : List (Book D)) (takes asks row_asks : List Reached)
      → AreOver (phase_item g.work.earlier) (length cells) (lists_of g.work.collectors.items) takes
      → AreOver ask_item (length cells) (lists_of g.work.readers.items) asks
      → AreOver row_item (length books) (lists_of g.work.readers.items) row_asks → AreAllFound take_of cells takes
      → AreAllFound ask_of cells asks → AreTapesFound book_tape row_ask_of books row_asks → AreBegun g cells books
  all_begun g cells books takes asks row_asks over_takes over_asks over_row_asks found found_asks found_row_asks = record {
    takes = takes_begun g cells takes over_takes found;
    asks = asks_begun g cells asks over_asks found_asks;
    row_asks = tapes_begun book_tape row_ask_of row_item _ _ books row_asks over_row_asks found_row_asks;
  }

  -- the inputs of books that are kept are their inputs
  pub inputs_kept : (many n : ℕ) (inputs more : List (List ℕ)) (old new : List (Book D)) → n ≡ many → more ≡ inputs
      → AreEach IsBookKept old new → AreInputs many inputs old → AreInputs n more new
  inputs_kept many n inputs more old new same same_inputs kept are =
      subst (λ m. AreInputs m more new) (sym same) (subst (λ l. AreInputs many l new) (sym same_inputs) (record {
        as_many = are.as_many ∙ sym kept.as_many;
        each = λ group b below.
            let it = are.each group b (subst (λ m. group < m) kept.as_many below) in
            record { same = it.same ∙ sym (ap (λ d. d.inputs) (kept.each group b).def); few = it.few; known = it.known };
      }))

  -- those of groups whose openings were kept are those of their books
  pub inputs_of_kept : (many : ℕ) (inputs : List (List ℕ)) (known : List KeptGroup) (books : List (Book D))
      → length known ≡ length books → AreInputsFor many inputs known → AreAsKept IsBookAsKept books known → AreInputs many inputs books
  inputs_of_kept many inputs [] books same are kept = record {
    as_many = are.as_many ∙ same;
    each = λ group b below. absurd (omega (arith, below, same));
  }
  inputs_of_kept many inputs (k ∷ ks) books same are kept = record {
    as_many = are.as_many ∙ same;
    each = λ group b below.
        let it = are.each group k (subst (λ m. group < m) (sym same) below) in
        record { same = it.same ∙ sym (ap (λ d. d.inputs) (kept.each group b k below).defined.def_is); few = it.few; known = it.known };
  }

  -- groups that have made their turns and one more have refreshes that have a number
  pub few_refreshes : (durables : List (List Rec)) (inputs : List (List ℕ)) (books : List (Book D)) (g : Given) (tags groups : ℕ)
      → length books ≡ groups → AreGivenFor tags groups g → AreBooksRefreshed durables inputs g.turns.items books
      → All (λ (b : Book D). length (refreshes b.tape) < 2 ^ 32) books
  few_refreshes durables inputs books g tags groups same given refreshed i b below =
      subst (λ n. n < 2 ^ 32) (sym (refreshed.each i b below).refreshed)
      (given.few_turns i (subst (λ n. i < n) same below))

-- the progress of workers is over the same rows, whatever they are read through
pub over_again : {A : Type 0} (item_of : ℕ → ℕ → A → Option Item) (many : ℕ) (xs ys : List (Vec A Global)) (now works : List Reached)
    → ys ≡ xs → now ≡ works → AreOver item_of many (lists_of ys) works → AreOver item_of many (lists_of xs) now
over_again {A} item_of many xs ys now works same is over =
    subst (λ (l : List (Vec A Global)). AreOver item_of many (lists_of l) now) same
    (subst (λ w. AreOver item_of many (lists_of ys) w) (sym is) over)
