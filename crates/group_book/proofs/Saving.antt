-- A book's history after a save, and after one whose device failed.
use Rattle.std.proofs.Common.{◌≡◌, ◌⊎◌, ⊎_elim, inl, inr, ℕ, ◌+◌, ◌<◌, ◌≤◌, Bool, true, false, All, List, [], ◌∷◌, ◌++◌, Contains, length, get_or, Vec, Option, Some, IfSome, nat_le, refl, sym, ap, ◌∙◌, subst, arith, lit<, if◌then◌else◌}
use Rattle.std.specs.declared.alloc.Global.{Global}
use Rattle.std.proofs.lemmas.Bool.{cases_eq}
use Rattle.std.proofs.lemmas.Bool.Decides.{nat_tests}
use Rattle.trend_num.specs.{Rec, CalcValue}
use Rattle.disk_model.specs.{Rose, Sees, IsGuarded, IsOpen, IsShut, open_byte, FromOld, IsSettled, MayLeave, Now, During, LeftSince, Device, Trace, moment, seen, written}
use Rattle.disk_model.proofs.Bytes.{length-written}
use Rattle.disk_model.proofs.Images.{present}
use Rattle.disk_model.proofs.Moments.{during_now, only_since, parted}
use Rattle.calc_refresh.specs.{GroupDefParts, lists_of, IsGrid, IsGroup, SheetState, grid_of}
use Rattle.sheet_law.specs.{IsScratch, complete_windows}
use Rattle.group_layout.specs.{MayFollow, BlockParts, block_image, block_size, last_of, unsaved, ByBlocks, StandsFor, AreRowsOf}
use Rattle.archive_file.specs.{blocks_at}
use Rattle.archive_file.proofs.PlacedBytes.{written_byte}
use Rattle.group_layout.proofs.BlockAdded.{block_closed, block_opened}
use Rattle.group_layout.proofs.RowsAdded.{IsAddedAt, rows_more}
use Rattle.group_layout.proofs.Walks.{end_of-push, last_of-push}
use Rattle.group_book.specs.{Turn, GroupOpening, BookWalk, after_turn, cut, saved_at, book_start, versions_since, book_walked, AreRowsEvaluated, AreRowsOver, IsBookLegal, IsRight, NeverFall, IsBookSafe, StandsForOne, IsListed, IsOther}
use Rattle.group_book.specs.{IsSame, ListsChanges, AreFlagged, HoldsBlocks, IsDefined, IsKept, IsReady, LeftOf, Saved, faults_of, moment_of, trace_of}
use Rattle.group_book.specs.declared.turn.Turn.TheVariants.{Refresh, Ask, Save}
use Rattle.group_book.proofs.Cuts.{cut-all, never_refl}
use Rattle.group_book.proofs.Evaluations.{cut_windows}
use Rattle.group_book.proofs.Ranges.{rows_range}
use Rattle.group_book.proofs.Turns.{contains_last, contains_left, fit_push, saved_rises, walked-push}

-- ---- one save more on a tape

-- the versions of the last save are those at the end
saved-save : (w : BookWalk) (saved : List ℕ) (es : List Turn) (number moment : ℕ)
    → saved_at w.versions saved (es ++ Save number moment ∷ []) ≡ (book_walked w es).versions
saved-save w saved [] number moment = refl
saved-save w saved (Refresh v ∷ es) number moment = saved-save (after_turn w (Refresh v)) saved es number moment
saved-save w saved (Ask a b c d e ∷ es) number moment = saved-save w saved es number moment
saved-save w saved (Save n m ∷ es) number moment = saved-save (after_turn w (Save n m)) w.versions es number moment

-- from its moment on no others count
since-save : (t : ℕ) (w : BookWalk) (since : List (List ℕ)) (es : List Turn) (number moment : ℕ)
    → versions_since t w.versions since (es ++ Save number moment ∷ [])
    ≡ (if nat_le moment t then (book_walked w es).versions ∷ [] else versions_since t w.versions since es)
since-save t w since [] number moment = refl
since-save t w since (Refresh v ∷ es) number moment =
    since-save t (after_turn w (Refresh v)) (since ++ v.items ∷ []) es number moment
since-save t w since (Ask a b c d e ∷ es) number moment = since-save t w since es number moment
since-save t w since (Save n m ∷ es) number moment =
    since-save t (after_turn w (Save n m)) (if nat_le m t then w.versions ∷ [] else since) es number moment

-- the versions at the end, and those of the last save, are among those since a save
since_has : (t : ℕ) (w : BookWalk) (saved : List ℕ) (since : List (List ℕ)) (es : List Turn) → Contains since w.versions
    → Contains since saved
    → Contains (versions_since t w.versions since es) (book_walked w es).versions
    × Contains (versions_since t w.versions since es) (saved_at w.versions saved es)
since_has t w saved since [] now last = (now, last)
since_has t w saved since (Refresh v ∷ es) now last =
    since_has t (after_turn w (Refresh v)) saved (since ++ v.items ∷ []) es (contains_last since v.items)
    (contains_left since (v.items ∷ []) saved last)
since_has t w saved since (Ask a b c d e ∷ es) now last = since_has t w saved since es now last
since_has t w saved since (Save n m ∷ es) now last =
    since_has t (after_turn w (Save n m)) w.versions (if nat_le m t then w.versions ∷ [] else since) es (either (nat_le m t))
    (either (nat_le m t))
  where
    either : (b : Bool) → Contains (if b then w.versions ∷ [] else since) w.versions
    either true = (0, lit< tt, refl)
    either false = now

-- ---- the next block

-- the block of a save
pub record IsNextBlock (saved : Saved) (calcs : ℕ) (versions : List ℕ) (windows : ℕ) (rows : List (List CalcValue)) (b : BlockParts) : Type 0 where
  pub number : b.number ≡ saved.number + 1
  pub versions_are : b.versions ≡ versions
  pub windows_are : b.windows ≡ windows
  pub changes : ListsChanges calcs b.windows saved.rows rows b.rows

-- what was made for it is that block
pub next_block_is : (def : GroupDefParts) (s : SheetState) (saved : Saved) (vs vs' : List ℕ) (old : List (Vec CalcValue Global)) (b : BlockParts)
    → s.group ≡ def.calcs → s.grid ≡ grid_of def.start def.period → b.number ≡ saved.number + 1 → b.versions ≡ vs' → vs' ≡ vs
    → b.windows ≡ complete_windows s.grid s.copies → lists_of old ≡ saved.rows
    → ListsChanges (length s.group.calcs) b.windows (lists_of old) s.rows b.rows
    → IsNextBlock saved (length def.calcs.calcs) vs (complete_windows (grid_of def.start def.period) s.copies) s.rows b
next_block_is def s saved vs vs' old b group grid number versions same windows rows changes = grind arith

-- what a device keeps that is there, and of which no call failed
pub kept_there : {D : Type 0} (device : D → Device) (text : List ℕ) (def : GroupDefParts) (o : GroupOpening)
    (tape : List Turn) (copies : List (List Rec)) (saved : Saved) (failed : Bool) (dev : Option D) (d : D) → dev ≡ Some d → failed ≡ false
    → IsKept text def o tape copies saved failed (trace_of device dev) (moment_of device dev) (faults_of device dev)
    → IsKept text def o tape copies saved false (Some (device d).trace) (moment (device d).trace) (device d).faults
kept_there device text def o tape copies saved failed dev d there usable kept = grind (arith, there)

-- what a device has while it is written
abbrev pub IsWriting : BlockParts → ℕ → Trace → List ℕ → Type 0
IsWriting b at old = FromOld old (IsGuarded (at + 1) (block_image b ++ 0 ∷ []) at)

-- each image of a device that is ready has what is read
pub holds_now : (text : List ℕ) (def : GroupDefParts) (saved : Saved) (o : Trace) → IsReady saved.end o
    → HoldsBlocks text def saved (seen o) → (d : List ℕ) → MayLeave o d → HoldsBlocks text def saved d
holds_now text def saved t ready has d may = subst (HoldsBlocks text def saved) (sym (ready.settled.each d may)) has

module _ (text : List ℕ) (def : GroupDefParts) (o : GroupOpening) (tape : List Turn) (versions : List ℕ) (copies : List (List Rec))
    (rows : List (List CalcValue)) (saved : Saved) (old : Trace) (ticks faults : ℕ)
    (group : IsGroup def.inputs def.calcs) (grid : IsGrid (grid_of def.start def.period)) (inputs : length copies ≡ def.inputs)
    (legal : IsBookLegal def.calcs (grid_of def.start def.period) o tape versions copies rows)
    (over : AreRowsOver def.calcs (grid_of def.start def.period) o copies rows)
    (kept : IsKept text def o tape copies saved false (Some old) ticks faults)
    (b : BlockParts) (is : IsNextBlock saved (length def.calcs.calcs) versions (complete_windows (grid_of def.start def.period) copies) rows b) where
  -- the rows are those over what the versions say
  over_here : AreRowsOver def.calcs (grid_of def.start def.period) o (cut versions copies) rows
  over_here = subst (λ rss. AreRowsOver def.calcs (grid_of def.start def.period) o rss rows)
      (sym (ap (λ v. cut v copies) legal.copied ∙ cut-all copies)) over

  scratch_here : IsRight def.calcs (grid_of def.start def.period) o copies
      → IsScratch def.calcs (grid_of def.start def.period) (cut versions copies) rows
  scratch_here right = subst (λ rss. IsScratch def.calcs (grid_of def.start def.period) rss rows)
      (sym (ap (λ v. cut v copies) legal.copied ∙ cut-all copies)) (legal.scratch right)

  many : length saved.versions ≡ length copies
  many = kept.inputs ∙ sym inputs

  low : NeverFall saved.versions versions
  low = subst (λ v. NeverFall v versions) (sym kept.versions)
      (subst (NeverFall (saved_at o.versions.items o.versions.items tape)) (sym legal.last)
      (saved_rises def.calcs (grid_of def.start def.period) o copies (book_start o) o.versions.items tape legal.turns
      (never_refl o.versions.items)))

  -- it may follow the blocks that are there
  follows : (d : List ℕ) → (h : HoldsBlocks text def saved d) → MayFollow (length def.calcs.calcs) (last_of (unsaved def.inputs) h.blocks) b
  follows d h = record {
    number = is.number ∙ ap (λ n. n + 1) (sym h.number);
    inputs = ap length is.versions_are ∙ low.inputs ∙ ap length (sym h.versions);
    rises = subst (λ vs. (i : ℕ) → i < length vs → get_or vs i 0 ≤ get_or b.versions i 0) (sym h.versions)
        (subst (λ vs. (i : ℕ) → i < length saved.versions → get_or saved.versions i 0 ≤ get_or vs i 0) (sym is.versions_are) low.rises);
    windows = more;
    rows = is.changes.rows_are (rows_range def.calcs (grid_of def.start def.period) o copies rows over kept.range);
  }
    where
      some : 0 < length saved.rows
      some = omega (arith, kept.rows_are.calcs, group.some_calcs)

      more : (last_of (unsaved def.inputs) h.blocks).windows ≤ b.windows
      more = omega (
        arith,
        is.windows_are,
        h.has.rows_are.windows_are 0 [] some,
        kept.rows_are.windows 0 [] some,
        cut_windows (grid_of def.start def.period) saved.versions copies (omega (arith, grid.some)) many,
      )

  -- with it the blocks give the rows
  gives : (d : List ℕ) → (h : HoldsBlocks text def saved d) → AreRowsOf (length def.calcs.calcs) b.windows (h.blocks ++ b ∷ []) rows
  gives d h =
      rows_more (length def.calcs.calcs) (last_of (unsaved def.inputs) h.blocks) b h.blocks saved.rows rows h.has.rows_are over.calcs
      (subst (λ n. All (λ row. length row ≡ n) rows) (sym is.windows_are) over.windows)
      (λ calc k calc_low within. added calc k (is.changes.listed calc k calc_low within))
    where
      added : (calc k : ℕ) → IsListed saved.rows rows b.rows calc k → IsAddedAt saved.rows rows b.rows calc k
      added calc k (IsSame same none) = inl (same, none)
      added calc k (IsOther other listed) = inr listed

  -- what is saved then
  abbrev pub next_saved : Saved
  next_saved = record { number = b.number; versions = versions; rows = rows; end = saved.end + block_size b }

  -- after its open gate it is saved
  holds_next : (d c : List ℕ) → HoldsBlocks text def saved d → IsGuarded (saved.end + 1) (block_image b ++ 0 ∷ []) saved.end d c
      → IsOpen saved.end c → HoldsBlocks text def next_saved c
  holds_next d c h guarded opened = record {
    blocks = h.blocks ++ b ∷ [];
    has = block_opened text d c def.inputs (length def.calcs.calcs) h.blocks saved.rows h.has b saved.end h.end guarded rows opened
        (follows d h) (gives d h);
    number = ap (λ (x : BlockParts). x.number) (last_of-push (unsaved def.inputs) h.blocks b);
    versions = ap (λ (x : BlockParts). x.versions) (last_of-push (unsaved def.inputs) h.blocks b) ∙ is.versions_are;
    end = end_of-push (blocks_at (length text)) h.blocks b ∙ ap (λ n. n + block_size b) h.end;
  }

  -- an image stands for what is saved
  stands_for : (s : Saved) (c : List ℕ) → HoldsBlocks text def s c
      → StandsFor text (length def.calcs.inputs) (length def.calcs.calcs) c s.versions s.rows
  stands_for s c h = subst (λ n. StandsFor text n (length def.calcs.calcs) c s.versions s.rows) (sym group.named)
      (ByBlocks h.blocks h.has (sym h.versions))

  abbrev IsEither : List ℕ → Type 0
  IsEither c = HoldsBlocks text def saved c ⊎ HoldsBlocks text def next_saved c

  -- while it is written an image has the old blocks, or it too
  either_saved : (c : List ℕ) → IsWriting b saved.end old c → IsEither c
  either_saved c from =
      let h = holds_now text def saved old (kept.shut refl) (kept.holds refl) from.0 from.1 in
      elim (cases_eq (get_or c saved.end 0) open_byte) [
        | inl opened ↦ inr (holds_next from.0 c h from.2 opened)
        | inr closed ↦ inl (record {
          blocks = h.blocks;
          has = block_closed text from.0 c def.inputs (length def.calcs.calcs) h.blocks saved.rows h.has b saved.end h.end from.2 closed;
          number = h.number;
          versions = h.versions;
          end = h.end;
        })
      ]

  -- ---- what a crash leaves

  module _ (safe : IsBookSafe text def.calcs (grid_of def.start def.period) o copies tape (LeftSince old)) (new : Trace)
      (during : During old new (IsWriting b saved.end old)) where
    stands_one : (t : ℕ) (c : List ℕ) → IsEither c
        → StandsForOne text def.calcs (grid_of def.start def.period) o copies
        (versions_since t o.versions.items (o.versions.items ∷ []) tape) c
    stands_one t c either =
        let has = since_has t (book_start o) o.versions.items (o.versions.items ∷ []) tape (0, lit< tt, refl) (0, lit< tt, refl) in
        let since = versions_since t o.versions.items (o.versions.items ∷ []) tape in
        elim either [
          | inl was ↦ record {
            versions = saved.versions;
            rows = saved.rows;
            among = subst (Contains since) (sym kept.versions) has.1;
            stands = stands_for saved c was;
            rows_are = kept.rows_are;
            scratch = kept.scratch;
          }
          | inr now ↦ record {
            versions = versions;
            rows = rows;
            among = subst (Contains since) (sym legal.last) has.0;
            stands = stands_for next_saved c now;
            rows_are = over_here;
            scratch = scratch_here;
          }
        ]

    pub safe_writing : IsBookSafe text def.calcs (grid_of def.start def.period) o copies tape (LeftSince new)
    safe_writing = record {
      images = λ t c since left. ⊎_elim
          (λ now. stands_one t c (either_saved c (during.each c now)))
          (λ before. safe.images t c since before)
          (parted old new t c during.later left);
    }

  -- ---- a save that failed

  pub kept_faulted : (new : Trace) (ticks' faults' : ℕ) → ticks ≤ ticks' → Rose faults faults'
      → IsKept text def o tape copies saved true (Some new) ticks' faults'
  kept_faulted new ticks' faults' later rose = grind arith

  -- ---- a save that is done

  module _ (new : Trace) (ticks' : ℕ) (later : ticks < ticks') (during : During old new (IsWriting b saved.end old))
      (sees : Sees new (written (written (seen old) (saved.end + 1) (block_image b ++ 0 ∷ [])) saved.end (open_byte ∷ [])))
      (settled : IsSettled new) (ready : Now new (IsShut (saved.end + block_size b)))
      (told : length new.calls ≡ ticks') where
    abbrev pub turn : Turn
    turn = Save b.number ticks'

    pub legal_saved : IsBookLegal def.calcs (grid_of def.start def.period) o (tape ++ turn ∷ []) versions copies rows
    legal_saved = grind (arith, fit_push, walked-push)

    -- an image now has the block after its open gate
    holds_settled : (c : List ℕ) → MayLeave new c → HoldsBlocks text def next_saved c
    holds_settled c may =
        let from = (during_now old new (IsWriting b saved.end old) during).each c may in
        holds_next from.0 c (holds_now text def saved old (kept.shut refl) (kept.holds refl) from.0 from.1) from.2
        opened
      where
        there : saved.end < length (seen old)
        there = (kept.shut refl).shut.there

        opened : IsOpen saved.end c
        opened =
            ap (λ l. get_or l saved.end 0) (settled.each c may ∙ sees)
            ∙ written_byte (written (seen old) (saved.end + 1) (block_image b ++ 0 ∷ [])) saved.end open_byte
            (omega (arith, there, length-written (seen old) (saved.end + 1) (block_image b ++ 0 ∷ []) (omega (arith, there))))

    pub kept_saved : (faults' : ℕ) → faults' ≡ faults
        → IsKept text def o (tape ++ turn ∷ []) copies next_saved false (Some new) ticks' faults'
    kept_saved faults' same = record {
      shut = λ usable. record { settled = settled; shut = ready.each (seen new) (present new) };
      holds = λ usable. holds_settled (seen new) (present new);
      range = kept.range;
      rows_are = over_here;
      scratch = scratch_here;
      versions = legal.last ∙ sym (saved-save (book_start o) o.versions.items tape b.number ticks');
      inputs = low.inputs ∙ kept.inputs;
      number = subst (λ w. IfSome w.number (λ n. n ≡ b.number)) (sym (walked-push (book_start o) tape turn)) refl;
      past = subst (λ w. w.moment ≤ ticks') (sym (walked-push (book_start o) tape turn)) (omega arith);
      opened_before = omega (arith, kept.opened_before, later);
      faultless = λ usable. same ∙ kept.faultless refl;
      cause = λ failed. absurd (cc (failed));
    }

    pub safe_saved : IsBookSafe text def.calcs (grid_of def.start def.period) o copies tape (LeftSince old)
        → IsBookSafe text def.calcs (grid_of def.start def.period) o copies (tape ++ turn ∷ []) (LeftSince new)
    safe_saved safe = record {
      images = λ t c since left.
          subst (λ l. StandsForOne text def.calcs (grid_of def.start def.period) o copies l c)
          (sym (since-save t (book_start o) (o.versions.items ∷ []) tape b.number ticks'))
          (by_moment t c since left (nat_le ticks' t) refl);
    }
      where
        after_moment : (t : ℕ) → nat_le ticks' t ≡ true → ticks' ≤ t
        after_moment t e = grind (arith, nat_tests)

        by_moment : (t : ℕ) (c : List ℕ) → o.moment ≤ t → LeftSince new t c → (x : Bool) → nat_le ticks' t ≡ x
            → StandsForOne text def.calcs (grid_of def.start def.period) o copies
            (if x then (book_walked (book_start o) tape).versions ∷ [] else versions_since t o.versions.items (o.versions.items ∷ []) tape) c
        by_moment t c since left true e = record {
          versions = versions;
          rows = rows;
          among = subst (λ v. Contains (v ∷ []) versions) legal.last (0, lit< tt, refl);
          stands = stands_for next_saved c (holds_settled c (only_since new ticks' t c told (after_moment t e) left));
          rows_are = over_here;
          scratch = scratch_here;
        }
        by_moment t c since left false e = (safe_writing safe new during).images t c since left

    -- all that a book keeps
    pub book_saved : (tape' : List Turn) (next : Saved) (failed : Bool) (faults' : ℕ) → tape' ≡ tape ++ turn ∷ [] → next ≡ next_saved
        → failed ≡ false → faults' ≡ faults → IsBookSafe text def.calcs (grid_of def.start def.period) o copies tape (LeftSince old)
        → IsBookLegal def.calcs (grid_of def.start def.period) o tape' versions copies rows
        × IsKept text def o tape' copies next failed (Some new) ticks' faults'
        × IsBookSafe text def.calcs (grid_of def.start def.period) o copies tape' (LeftSince new)
    book_saved tape' next failed faults' longer is_next usable same safe = (
      subst (λ l. IsBookLegal def.calcs (grid_of def.start def.period) o l versions copies rows) (sym longer) legal_saved,
      subst (λ l. IsKept text def o l copies next failed (Some new) ticks' faults') (sym longer)
          (subst (λ x. IsKept text def o (tape ++ turn ∷ []) copies x failed (Some new) ticks' faults') (sym is_next)
          (subst (λ f. IsKept text def o (tape ++ turn ∷ []) copies next_saved f (Some new) ticks' faults') (sym usable) (kept_saved faults' same))),
      subst (λ l. IsBookSafe text def.calcs (grid_of def.start def.period) o copies l (LeftSince new)) (sym longer) (safe_saved safe),
    )

-- ---- what a book keeps of its parts

-- all that the type keeps, of a device with this trace, this clock and this count of faults
abbrev pub KeepsAll : (text : List ℕ) (def : GroupDefParts) (tags : List ℕ) (o : GroupOpening) (versions : List ℕ) (sheet : SheetState)
    (saved : Saved) (failed : Bool) (trace : Option Trace) (ticks faults : ℕ) → Type 0 → (tape : List Turn)
    (rows : List (List CalcValue)) (flags : List Bool) → Type 0
KeepsAll text def tags o versions sheet saved failed trace ticks faults on tape rows flags = IsDefined def tags sheet
    × IsBookLegal def.calcs (grid_of def.start def.period) o tape versions sheet.copies sheet.rows
    × IsKept text def o tape sheet.copies (record saved { rows = rows }) failed trace ticks faults
    × IsBookSafe text def.calcs (grid_of def.start def.period) o sheet.copies tape (LeftOf trace)
    × on
    × AreRowsEvaluated def.calcs (grid_of def.start def.period) o tape sheet.copies sheet.rows sheet.evals
    × AreFlagged flags rows sheet

-- it keeps the same of parts that are the same
pub keeps_alike : (text : List ℕ) (def : GroupDefParts) (tags : List ℕ) (o : GroupOpening) (versions : List ℕ) (sheet : SheetState)
    (saved : Saved) (failed : Bool) (trace : Option Trace) (ticks faults : ℕ) (on : Type 0) (tape tape' : List Turn)
    (rows rows' : List (List CalcValue)) (flags flags' : List Bool) → tape' ≡ tape → rows' ≡ rows → flags' ≡ flags
    → KeepsAll text def tags o versions sheet saved failed trace ticks faults on tape rows flags
    → KeepsAll text def tags o versions sheet saved failed trace ticks faults on tape' rows' flags'
keeps_alike text def tags o versions sheet saved failed trace ticks faults on tape tape' rows rows' flags flags' same old unset all =
    grind arith
