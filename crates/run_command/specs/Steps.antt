-- A session after its workers have ended, and its cells and books once all is done.
use Rattle.std.specs.Prelude.{◌≡◌, ℕ, ◌+◌, ◌^◌, ◌<◌, ◌≤◌, List, [], All, length, slice_index, slice_index_or}
use Rattle.session_audit.specs.Agendas.{ask_item, phase_item, row_item}
use Rattle.session_audit.specs.{Reached, ask_of, take_of, AreAllBegun, AreAllFound, AreAllShown, IsCommittedCell, tag_rows, AreOver, AreTapesBegun, AreTapesFound, AreTapesWhole, KeptGroup, book_tape, AreInputs, AreBooksRefreshed}
use Rattle.session_audit.specs.{durable_lists, row_ask_of, IsWithinTurns, turns_for}
use Rattle.tag_cell.specs.{ToldCell as Cell}
use Rattle.group_book.specs.{ToldBook as Book}
use Rattle.calc_refresh.specs.{lists_of}
use Rattle.collector_pool.specs.{IsWorkOf}
use Rattle.run_command.specs.declared.work.Given.{Given}

-- ---- what a session is compared with

-- The work for a plant of so many tags and groups. It has the number of rows of each tag, and the number of refreshes
-- of each group before its last one: one for each phase before, and the turns of its refreshers.
pub record AreGivenFor (tags groups : ℕ) (g : Given) : Type 0 where
  pub work : IsWorkOf tags groups g.work
  pub rooms_are : length g.rooms.items ≡ tags
  pub rooms : (tag : ℕ) → tag < tags → slice_index g.rooms.items tag ≡ tag_rows tag (lists_of g.work.collectors.items)
  pub turns_are : length g.turns.items ≡ groups
  pub turns : (group : ℕ) → group < groups → slice_index g.turns.items group ≡ g.phases + turns_for group g.work.refreshers.items
  pub few_turns : (group : ℕ) → group < groups → slice_index g.turns.items group + 1 < 2 ^ 32

-- not too many cells and books, the work for them, and the tags of each group's inputs
pub record AreReady {D : Type 0} (g : Given) (cells : List (Cell D)) (books : List (Book D)) : Type 0 where
  pub few_cells : length cells < 2 ^ 32
  pub few_books : length books < 2 ^ 32
  pub given : AreGivenFor (length cells) (length books) g
  pub inputs : AreInputs (length cells) (lists_of g.inputs.items) books

-- the progress of the workers is over their rows: of collectors, of readers at tags, and of readers at groups
pub record AreOverAll (tags groups : ℕ) (g : Given) (takes asks row_asks : List Reached) : Type 0 where
  pub collectors : AreOver (phase_item g.work.earlier) tags (lists_of g.work.collectors.items) takes
  pub readers : AreOver ask_item tags (lists_of g.work.readers.items) asks
  pub row_readers : AreOver row_item groups (lists_of g.work.readers.items) row_asks

-- the progress of each worker agrees with each tape, and no group was refreshed more often than it has turns
pub record AreFoundAll {D : Type 0} (g : Given) (cells : List (Cell D)) (books : List (Book D)) (takes asks row_asks : List Reached)
    : Type 0 where
  pub collectors : AreAllFound take_of cells takes
  pub readers : AreAllFound ask_of cells asks
  pub row_readers : AreTapesFound book_tape row_ask_of books row_asks
  pub turns : IsWithinTurns g.turns.items books

-- each tape shows, of each collector, the first of its rows that are due there, and no other take
abbrev pub AreCellTakesBegun : {D : Type 0} → Given → List (Cell D) → Type 0
AreCellTakesBegun g cells = AreAllBegun take_of (phase_item g.work.earlier) (lists_of g.work.collectors.items) cells

-- the same of readers and questions about tags
abbrev pub AreCellAsksBegun : {D : Type 0} → Given → List (Cell D) → Type 0
AreCellAsksBegun g cells = AreAllBegun ask_of ask_item (lists_of g.work.readers.items) cells

-- each tape shows, of each worker, the first of its rows that are due there, and nothing of any other worker
pub record AreBegun {D : Type 0} (g : Given) (cells : List (Cell D)) (books : List (Book D)) : Type 0 where
  pub takes : AreCellTakesBegun g cells
  pub asks : AreCellAsksBegun g cells
  pub row_asks : AreTapesBegun book_tape row_ask_of row_item (lists_of g.work.readers.items) books

-- each tape shows all rows of each worker that are due there, and none of any other worker
pub record AreTapesMade {D : Type 0} (g : Given) (cells : List (Cell D)) (books : List (Book D)) : Type 0 where
  pub takes : AreAllShown take_of (phase_item g.work.earlier) (lists_of g.work.collectors.items) cells
  pub asks : AreAllShown ask_of ask_item (lists_of g.work.readers.items) cells
  pub row_asks : AreTapesWhole book_tape row_ask_of row_item (lists_of g.work.readers.items) books

-- All that is due stands on the tapes. All takes are acknowledged. Each group has made its turns and one more, has as
-- many records of its inputs as no crash takes away, and was saved after that. No device has failed.
pub record AreStepsMade {D : Type 0} (g : Given) (cells : List (Cell D)) (books : List (Book D)) : Type 0 where
  pub tapes : AreTapesMade g cells books
  pub committed : All IsCommittedCell cells
  pub refreshed : AreBooksRefreshed (durable_lists cells) (lists_of g.inputs.items) g.turns.items books

-- a cell keeps its definition and its opening
pub record IsCellKept {D : Type 0} (old new : Cell D) : Type 0 where
  pub def : new.def ≡ old.def
  pub opening : new.opening ≡ old.opening

-- a book keeps its group, its definition, its text, its tags and its opening
pub record IsBookKept {D : Type 0} (old new : Book D) : Type 0 where
  pub group : new.group ≡ old.group
  pub def : new.def ≡ old.def
  pub text : new.text ≡ old.text
  pub tags : new.tags ≡ old.tags
  pub opening : new.opening ≡ old.opening

-- a group whose opening was copied has one tag for each of its inputs, at most 64, and all these tags exist
pub record IsInputsFor (many : ℕ) (tags : List ℕ) (k : KeptGroup) : Type 0 where
  pub same : length tags ≡ k.def.inputs
  pub few : length tags ≤ 64
  pub known : All (λ tag. tag < many) tags

-- each group has its tags like that
pub record AreInputsFor (many : ℕ) (inputs : List (List ℕ)) (known : List KeptGroup) : Type 0 where
  pub as_many : length inputs ≡ length known
  pub each : (group : ℕ) (k : KeptGroup) → group < length known
      → IsInputsFor many (slice_index_or inputs group []) (slice_index_or known group k)
