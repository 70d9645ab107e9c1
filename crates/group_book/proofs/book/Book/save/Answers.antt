use Rattle.std.proofs.Common.{◌≡◌, ℕ, ◌+◌, ◌++◌, ◌∷◌, [], All, List, false, true, Some, Err, length, replicate, refl, sym, ap, ◌∙◌, subst, arith}
use Rattle.std.specs.Prelude.{Vec}
use Rattle.std.specs.declared.alloc.Global.{Global}
use Rattle.std.specs.Vec.{with_items}
use Rattle.std.proofs.lemmas.List.{length-map, with_items_is}
use Rattle.trend_num.specs.{CalcValue}
use Rattle.calc_check.specs.Group.{Group}
use Rattle.disk_model.specs.{IsShut, Now, LeftSince, FitsName, moment}
use Rattle.sheet_law.specs.{Grid, complete_windows}
use Rattle.calc_refresh.specs.{lists_of, AreRowsWhole, grid_of}
use Rattle.calc_refresh.proofs.Refreshing.{long_vecs}
use Rattle.group_layout.specs.{block_size, parts_of}
use Rattle.group_book.specs.declared.turn.Turn.TheVariants.{Save}
use Rattle.group_book.specs.{IsBookSafe, AreRowsEvaluated, BookBeganWell, IsSaved, ListsChanges, IsKept, IsOwnDevice, IsWellHeld, LeftOf, Saved, ToldBook, device_name_of, faults_of, moment_of, trace_of}
use Rattle.group_book.proofs.Begun.{still_well}
use Rattle.group_book.proofs.Evaluations.{evaluated_saved}
use Rattle.group_book.proofs.Flags.{flagged_changes, flagged_saved}
use Rattle.group_book.proofs.Saving.{IsNextBlock, KeepsAll, book_saved, keeps_alike, kept_faulted, kept_there, next_block_is, safe_writing}
use Rattle.group_book.proofs.book.Book.save.Given as given
use Rattle.group_book.proofs.book.Book.save.Goals as goal
use Rattle.group_book.proofs.book.Book.save.Goals.{After-put_block, After-push_reserved, After-bring_rows}

-- what was saved before
abbrev saved_of : (g : given.Over) (c : After-put_block g) → Saved
saved_of g c =
    let s = c.self.inside in
    record { number = s.number; versions = s.saved_versions.items; rows = lists_of s.saved_rows.items; end = s.end }

-- the device that is there was kept, and what it may have left is safe
kept : (g : given.Over) (c : After-put_block g)
    → let s = c.self.inside in
    let D = g.D.Disk in
    IsKept s.text.items s.def s.opening s.tape.items s.sheet.copies (saved_of g c) false (Some (D.device c.in-Some.dev).trace)
    (moment (D.device c.in-Some.dev).trace)
    (D.device c.in-Some.dev).faults
kept g c = grind (arith, kept_there)

safe : (g : given.Over) (c : After-put_block g)
    → let s = c.self.inside in
    IsBookSafe s.text.items s.def.calcs (grid_of s.def.start s.def.period) s.opening s.sheet.copies s.tape.items
    (LeftSince (g.D.Disk.device c.in-Some.dev).trace)
safe g c =
    let s = c.self.inside in
    subst (λ d. IsBookSafe s.text.items s.def.calcs (grid_of s.def.start s.def.period) s.opening s.sheet.copies s.tape.items
    (LeftOf (trace_of g.D.Disk.device d))) c.in-Some.is c.self.invariant.3

-- it is still the group's own
own_after : (g : given.Over) (c : After-put_block g) → IsOwnDevice g.D.Disk.device c.self.inside.text.items (Some c.put_block.new.dev)
own_after g c =
    let text = c.self.inside.text.items in
    subst (FitsName (device_name_of text)) (sym c.put_block.ensures.handed)
    (subst (IsOwnDevice g.D.Disk.device text) c.in-Some.is c.self.invariant.4.0.1)

-- it is at home, and it began well
held_after : (g : given.Over) (c : After-put_block g)
    → let s = c.self.inside in
    IsWellHeld g.D.Disk.device s.text.items s.def s.opening (Some c.put_block.new.dev)
held_after g c =
    let s = c.self.inside in (
      (λ some. refl, own_after g c),
      still_well g.D.Disk.device s.text.items s.def s.opening c.in-Some.dev c.put_block.new.dev
          c.put_block.ensures.handed c.put_block.ensures.any_moment.later
          (subst (BookBeganWell g.D.Disk.device s.text.items s.def s.opening) c.in-Some.is c.self.invariant.4.1),
    )

-- the block is the next one
next : (g : given.Over) (c : After-put_block g)
    → let s = c.self.inside in
    IsNextBlock (saved_of g c) (length s.def.calcs.calcs) s.versions.items
    (complete_windows (grid_of s.def.start s.def.period) s.sheet.copies) s.sheet.rows (parts_of c.in_ok-block.block)
next g c =
    let s = c.self.inside in
    let was = c.self.invariant in
    next_block_is s.def s.sheet (saved_of g c) s.versions.items c.deref-2.result.now c.deref-3.result.now (parts_of c.in_ok-block.block)
    was.0.same_group was.0.same_grid c.in_ok-block.ensures.number c.in_ok-block.ensures.versions c.deref-2.ensures.value
    c.in_ok-block.ensures.windows (ap lists_of c.deref-3.ensures.value) c.in_ok-block.ensures.rows

-- the rows have a value for each complete window
whole : (g : given.Over) (c : After-put_block g) → AreRowsWhole c.self.inside.sheet
whole g c =
    let s = c.self.inside in
    let was = c.self.invariant in
    record {
      calcs = was.5.rows_are.calcs ∙ ap (λ (h : Group). length h.calcs) (sym was.0.same_group);
      windows = subst (λ (w : Grid). All (λ row. length row ≡ complete_windows w s.sheet.copies) s.sheet.rows) (sym was.0.same_grid)
          was.5.rows_are.windows;
    }

-- with room for more windows the saved rows are the same
roomy : (v : Vec (Vec CalcValue Global) Global) (now new : List (Vec CalcValue Global)) → length new ≡ v.len
    → lists_of new ≡ lists_of now → now ≡ v.items → lists_of (with_items v new).items ≡ lists_of v.items
roomy v now new many same is = ap lists_of (with_items_is v new many) ∙ (same ∙ ap lists_of is)

-- and then they are those of the sheet
abbrev rows_after : (g : given.Over) (c : After-bring_rows g) → Vec (Vec CalcValue Global) Global
rows_after g c = with_items (with_items c.self.inside.saved_rows c.make_room.new.rows) c.bring_rows.new.saved

brought : (g : given.Over) (c : After-bring_rows g) → lists_of (rows_after g c).items ≡ c.self.inside.sheet.rows
brought g c =
    ap lists_of (with_items_is (with_items c.self.inside.saved_rows c.make_room.new.rows) c.bring_rows.new.saved
    (omega (arith, c.bring_rows.auto.saved, c.deref_mut-in-Ok.ensures.len)))
    ∙ (c.bring_rows.ensures ∙ c.rows.ensures.rows)

-- the tape is longer by the save
longer : (g : given.Over) (c : After-push_reserved g)
    → let b = parts_of c.in_ok-block.block in
    c.push_reserved.new.self.items ≡ c.self.inside.tape.items ++ Save b.number (moment (g.D.Disk.device c.put_block.new.dev).trace) ∷ []
longer g c =
    let b = parts_of c.in_ok-block.block in
    c.push_reserved.ensures.items
    ∙ ap (λ l. l ++ Save b.number c.clock-moment.result ∷ []) c.make_place.ensures.same
    ∙ ap (λ (m : ℕ). c.self.inside.tape.items ++ Save b.number m ∷ []) c.clock-moment.ensures

pub invariant_of-self-in-Ok : goal.invariant_of-self-in-Ok
invariant_of-self-in-Ok g c =
    let s = c.self.inside in
    let was = c.self.invariant in
    let D = g.D.Disk in
    let tape = s.tape.items in
    let copies = s.sheet.copies in
    let b = parts_of c.in_ok-block.block in
    let grid = grid_of s.def.start s.def.period in
    let at = (goal.at.invariant_of-self-in-Ok g c).After-put_block in
    let saved = saved_of g at in
    let kept = kept g at in
    let safe = safe g at in
    let is = next g at in
    let ended : ℕ = moment (D.device c.put_block.new.dev).trace in
    let longer = longer g (goal.at.invariant_of-self-in-Ok g c).After-push_reserved in
    let versions_are = c.in_ok-block.ensures.versions ∙ c.deref-2.ensures.value in
    let rows = lists_of (rows_after g (goal.at.invariant_of-self-in-Ok g c).After-bring_rows).items in
    let rows_are = brought g (goal.at.invariant_of-self-in-Ok g c).After-bring_rows in
    let next : Saved = record {
      number = b.number;
      versions = b.versions;
      rows = rows;
      end = c.in-Ok.end;
    } in
    let end_is : c.in-Ok.end ≡ s.end + block_size b = c.in-Ok.ensures.next in
    let kept' = book_saved s.text.items s.def s.opening tape s.versions.items copies s.sheet.rows saved (D.device c.in-Some.dev).trace
    (moment (D.device c.in-Some.dev).trace) (D.device c.in-Some.dev).faults was.0.group was.0.grid was.0.copies was.1 was.5.rows_are kept b is (D.device c.put_block.new.dev).trace
    ended (omega (arith, c.in-Ok.ensures.clock)) c.put_block.ensures.any_moment c.in-Ok.ensures.reads c.in-Ok.ensures.settled
    (subst (λ (n : ℕ). Now (D.device c.put_block.new.dev).trace (IsShut n)) end_is c.in-Ok.ensures.ready) refl
    c.push_reserved.new.self.items next s.failed (D.device c.put_block.new.dev).faults longer
    (λ i. record { number = b.number; versions = versions_are i; rows = rows_are i; end = end_is i }) c.if-self.false
    c.in-Ok.ensures.cause.passed safe in (
      was.0,
      kept'.0,
      kept'.1,
      kept'.2,
      held_after g at,
      subst (λ l. AreRowsEvaluated s.def.calcs grid s.opening l copies s.sheet.rows s.sheet.evals) (sym longer)
          (evaluated_saved s.def.calcs grid s.opening copies s.sheet.rows s.sheet.evals tape b.number ended was.5),
      flagged_saved c.clear_flags.new.flags.items rows s.sheet
          (c.clear_flags.ensures ∙ ap (λ (n : ℕ). replicate n false) c.windows-windows.ensures) rows_are
          (whole g (goal.at.invariant_of-self-in-Ok g c).After-put_block),
    )

pub returns-in-Ok-clause-saved : goal.returns-in-Ok-clause-saved
returns-in-Ok-clause-saved g c = λ d there.
    let s = c.self.inside in
    let D = g.D.Disk in
    let b = parts_of c.in_ok-block.block in
    let before = c.in-Some.dev in
    let told : ToldBook _ = record {
      group = s.group;
      def = s.def;
      text = s.text.items;
      tags = s.tags.items;
      opening = s.opening;
      tape = s.tape.items;
      sheet = s.sheet;
      dev = s.dev;
      saved = record { number = s.number; versions = s.saved_versions.items; rows = lists_of s.saved_rows.items; end = s.end };
      failed = s.failed;
    } in
    let same : Some before ≡ Some d = sym c.in-Some.is ∙ ap (λ (t : ToldBook _). t.dev) c.self.view_is ∙ there in
    let device : before ≡ d = cc (same) in
    let longer = longer g (goal.at.returns-in-Ok-clause-saved g c).After-push_reserved in
    let versions_are = c.in_ok-block.ensures.versions ∙ c.deref-2.ensures.value ∙ c.self.invariant.1.copied in
    let rows = lists_of (rows_after g (goal.at.returns-in-Ok-clause-saved g c).After-bring_rows).items in
    let rows_are = brought g (goal.at.returns-in-Ok-clause-saved g c).After-bring_rows in
    let end_is : c.in-Ok.end ≡ s.end + block_size b = c.in-Ok.ensures.next in
    let saved : ToldBook _ = record told {
      tape = c.push_reserved.new.self.items;
      dev = Some c.put_block.new.dev;
      saved = record {
        number = b.number;
        versions = b.versions;
        rows = rows;
        end = c.in-Ok.end;
      };
    } in
    subst (λ t. IsSaved D.device d t saved) c.self.view_is
    (subst (λ x. IsSaved D.device x told saved) device (record {
      after = c.put_block.new.dev;
      block = b;
      block_is = record {
        number = c.in_ok-block.ensures.number;
        versions = c.in_ok-block.ensures.versions ∙ c.deref-2.ensures.value ∙ c.self.invariant.1.copied;
        windows = c.in_ok-block.ensures.windows;
        rows = subst (λ l. ListsChanges (length s.sheet.group.calcs) b.windows l s.sheet.rows b.rows) (ap lists_of c.deref-3.ensures.value)
            c.in_ok-block.ensures.rows;
      };
      later = omega (arith, c.in-Ok.ensures.clock);
      wrote = c.in-Ok.ensures.reads;
      changed = λ i. record {
        group = s.group;
        def = s.def;
        text = s.text.items;
        tags = s.tags.items;
        opening = s.opening;
        tape = longer i;
        sheet = s.sheet;
        dev = Some c.put_block.new.dev;
        saved = record { number = b.number; versions = versions_are i; rows = rows_are i; end = end_is i };
        failed = s.failed;
      };
    }))

pub invariant_of-self-in-Err-DeviceFault : goal.invariant_of-self-in-Err-DeviceFault
invariant_of-self-in-Err-DeviceFault g c =
    let s = c.self.inside in
    let was = c.self.invariant in
    let D = g.D.Disk in
    let tape = s.tape.items in
    let copies = s.sheet.copies in
    let b = parts_of c.in_ok-block.block in
    let grid = grid_of s.def.start s.def.period in
    let at = (goal.at.invariant_of-self-in-Err-DeviceFault g c).After-put_block in
    let saved = saved_of g at in
    let kept = kept g at in
    let safe = safe g at in
    let is = next g at in
    let new = (D.device c.put_block.new.dev).trace in
    let ticks' : ℕ = moment (D.device c.put_block.new.dev).trace in
    let faults' : ℕ = (D.device c.put_block.new.dev).faults in
    keeps_alike s.text.items s.def s.tags.items s.opening s.versions.items s.sheet saved true (Some new) ticks' faults' (IsWellHeld D.device s.text.items s.def s.opening (Some c.put_block.new.dev))
    tape c.make_place.new.tape.items saved.rows
    (lists_of (with_items s.saved_rows c.make_room.new.rows).items) s.unsaved.items c.make_room.new.flags.items c.make_place.ensures.same
    (roomy s.saved_rows c.deref_mut.result.now c.make_room.new.rows (omega (arith, c.make_room.auto.rows, c.deref_mut.ensures.len))
    c.make_room.ensures.same_rows c.deref_mut.ensures.value) c.make_room.ensures.same_flags (
      was.0,
      was.1,
      kept_faulted s.text.items s.def s.opening tape s.versions.items copies s.sheet.rows saved (D.device c.in-Some.dev).trace
          (moment (D.device c.in-Some.dev).trace) (D.device c.in-Some.dev).faults was.0.group was.0.grid was.0.copies was.1 was.5.rows_are kept b is new ticks' faults'
          c.put_block.ensures.later (c.in-Err-DeviceFault.ensures.cause.failed (ap Err c.in-Err-DeviceFault.field-0-is)),
      safe_writing s.text.items s.def s.opening tape s.versions.items copies s.sheet.rows saved (D.device c.in-Some.dev).trace
          (moment (D.device c.in-Some.dev).trace) (D.device c.in-Some.dev).faults was.0.group was.0.grid was.0.copies was.1 was.5.rows_are kept b is safe new
          c.put_block.ensures.any_moment,
      held_after g at,
      was.5,
      was.6,
    )

pub invariant_of-self-in_err-make_room : goal.invariant_of-self-in_err-make_room
invariant_of-self-in_err-make_room g c = grind (arith, keeps_alike, roomy)

pub invariant_of-self-in-Err-WantOfMemory : goal.invariant_of-self-in-Err-WantOfMemory
invariant_of-self-in-Err-WantOfMemory g c =
    let s = c.self.inside in
    let D = g.D.Disk in
    let saved : Saved
    = record { number = s.number; versions = s.saved_versions.items; rows = lists_of s.saved_rows.items; end = s.end } in
    keeps_alike s.text.items s.def s.tags.items s.opening s.versions.items s.sheet saved s.failed (Some (D.device c.put_block.new.dev).trace)
    (moment (D.device c.put_block.new.dev).trace)
    (D.device c.put_block.new.dev).faults (IsWellHeld D.device s.text.items s.def s.opening (Some c.put_block.new.dev)) s.tape.items c.make_place.new.tape.items saved.rows
    (lists_of (with_items s.saved_rows c.make_room.new.rows).items) s.unsaved.items c.make_room.new.flags.items c.make_place.ensures.same
    (roomy s.saved_rows c.deref_mut.result.now c.make_room.new.rows (omega (arith, c.make_room.auto.rows, c.deref_mut.ensures.len))
    c.make_room.ensures.same_rows c.deref_mut.ensures.value) c.make_room.ensures.same_flags
    (subst (λ d. KeepsAll s.text.items s.def s.tags.items s.opening s.versions.items s.sheet saved s.failed (trace_of D.device d)
    (moment_of D.device d) (faults_of D.device d) (IsWellHeld D.device s.text.items s.def s.opening d) s.tape.items saved.rows s.unsaved.items)
    (c.in-Some.is ∙ ap Some (sym (c.in-Err-WantOfMemory.ensures.no_memory (ap Err c.in-Err-WantOfMemory.field-0-is)))) c.self.invariant)

pub next_block-requires : goal.next_block-requires
next_block-requires g c = grind (arith, flagged_changes)

pub bring_rows-requires-clause-calcs : goal.bring_rows-requires-clause-calcs
bring_rows-requires-clause-calcs g c = grind (arith, roomy, length-map)

pub bring_rows-requires-clause-windows : goal.bring_rows-requires-clause-windows
bring_rows-requires-clause-windows g c =
    let s = c.self.inside in
    let rows = c.rows.result.now in
    long_vecs rows c.windows-windows.result
    (subst (λ n. All (λ row. length row ≡ n) (lists_of rows)) (sym c.windows-windows.ensures)
    (subst (All (λ row. length row ≡ complete_windows s.sheet.grid s.sheet.copies)) (sym c.rows.ensures.rows)
    (whole g (goal.at.bring_rows-requires-clause-windows g c).After-put_block).windows))

pub bring_rows-requires-clause-room : goal.bring_rows-requires-clause-room
bring_rows-requires-clause-room g c = grind (arith, with_items_is)

pub bring_rows-requires-clause-changed : goal.bring_rows-requires-clause-changed
bring_rows-requires-clause-changed g c = grind (arith, flagged_changes, roomy)
