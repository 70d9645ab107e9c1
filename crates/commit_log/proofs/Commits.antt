-- What a log's type keeps, after a commit and after one whose device failed.
use Rattle.std.proofs.Common.{◌≡◌, ⊎_elim, ℕ, ◌+◌, ◌-◌, ◌≤◌, Bool, true, false, List, [], ◌∷◌, ◌++◌, length, min, take, drop, nat_le, if◌then◌else◌, refl, sym, ap, ◌∙◌, subst, arith, append_assoc, length-append, length-drop}
use Rattle.std.proofs.lemmas.Bool.Decides.{nat_tests}
use Rattle.std.proofs.lemmas.List.{append-nil, take-append-le}
use Rattle.std.proofs.Math.Seq.{take-add, take-append_seam}
use Rattle.disk_model.specs.{Rose, Sees, IsGuarded, IsOpen, IsShut, open_byte, FromOld, IsSettled, MayLeave, Now, ComesAfter, During, LeftSince, Trace, seen, written}
use Rattle.disk_model.proofs.Bytes.{length-written}
use Rattle.disk_model.proofs.Images.{present}
use Rattle.disk_model.proofs.Moments.{during_now, only_since, parted}
use Rattle.commit_log.specs.{LogRow, LogTurn, AreBlockRows, log_block_image, log_block_size, most_in_block, ByBlocks, StandsForRows, Stores, LogWalk, acked_at, after_turn, puts, log_begin, log_walked, IsBlockOf, IsLogLegal, IsLogSafe}
use Rattle.commit_log.specs.{StandsForPart, HasRoomForPuts, IsKept, IsReady, Waits}
use Rattle.commit_log.specs.declared.history.LogTurn.TheVariants.{Commit}
use Rattle.archive_file.proofs.PlacedBytes.{written_byte}
use Rattle.commit_log.proofs.BlockAdded.{block_either, block_opened}
use Rattle.commit_log.proofs.Tapes.{acked_at-commit, acked_at-most, fit-push, fit_rows, middle_rows, puts-append, puts_parts, walked-push, walked-rows}

-- ---- images

-- what is stored is what an image stands for
pub stores_stand : (plant : List ℕ) (tags : ℕ) (rows : List LogRow) (end : ℕ) (c : List ℕ) → Stores plant tags rows end c
    → StandsForRows plant tags c rows
stores_stand plant tags rows end c has =
    ByBlocks has.lists.blocks (record { of_plant = has.of_plant; blocks = has.lists.are }) has.lists.rows_are

-- the oldest rows that were put, of all of them
stands_part : (plant : List ℕ) (tags : ℕ) (opening rows first behind : List LogRow) (least : ℕ) (c : List ℕ) → rows ≡ first ++ behind
    → least ≤ length opening + length first → StandsForRows plant tags c (opening ++ first) → StandsForPart plant tags opening rows least c
stands_part plant tags opening rows first behind least c are enough stands = record {
  count = length first;
  enough = enough;
  within = omega (arith, ap length are, length-append first behind);
  stands = subst (λ (l : List LogRow). StandsForRows plant tags c (opening ++ l)) (sym (ap (take (length first)) are ∙ take-append_seam first behind)) stands;
}

-- fewer are asked for
part_least : (plant : List ℕ) (tags : ℕ) (opening rows : List LogRow) (least fewer : ℕ) (c : List ℕ) → fewer ≤ least
    → StandsForPart plant tags opening rows least c → StandsForPart plant tags opening rows fewer c
part_least plant tags opening rows least fewer c le is =
    let enough : least ≤ length opening + is.count = is.enough in
    record { count = is.count; enough = omega arith; within = is.within; stands = is.stands }

-- each image of a device that is ready stores what is read
ready_now : (plant : List ℕ) (tags : ℕ) (rows : List LogRow) (end : ℕ) (o : Trace) → IsReady plant tags rows end o
    → (d : List ℕ) → MayLeave o d → Stores plant tags rows end d
ready_now plant tags rows end t ready d may = subst (Stores plant tags rows end) (sym (ready.settled.each d may)) ready.stores

-- so it stands for these rows
pub ready_stands : (plant : List ℕ) (tags : ℕ) (rows : List LogRow) (end : ℕ) (o : Trace) → IsReady plant tags rows end o
    → (d : List ℕ) → MayLeave o d → StandsForRows plant tags d rows
ready_stands plant tags rows end o ready d may = stores_stand plant tags rows end d (ready_now plant tags rows end o ready d may)

-- and has a closed gate where the next block goes
pub ready_shut : (plant : List ℕ) (tags : ℕ) (rows : List LogRow) (end : ℕ) (o : Trace) → IsReady plant tags rows end o
    → Now o (IsShut end)
ready_shut plant tags rows end o ready = grind (arith, ready_now, rows)

-- a test that passes
le_when : (m t : ℕ) → nat_le m t ≡ true → m ≤ t
le_when m t is = grind (arith, nat_tests)

-- ---- a commit

module _ (plant : List ℕ) (tags : ℕ) (opening : List LogRow) (moment faults : ℕ) (tape : List LogTurn) (next acked end : ℕ)
    (old : Trace) (ticks faults_now : ℕ) (legal : IsLogLegal tags opening moment tape acked) (waits : Waits opening tape next acked)
    (kept : IsKept plant tags opening moment faults tape next end false old ticks faults_now)
    (count turns : ℕ) (bytes : List ℕ) (is : IsBlockOf acked count (drop next tape) bytes turns)
    (some : 1 ≤ count) (few : count ≤ most_in_block) where
  -- the rows that are acknowledged, the rows of the block, and those that still wait
  abbrev first : List LogRow
  first = puts (take next tape)

  abbrev pub block : List LogRow
  block = puts (take turns (drop next tape))

  abbrev behind : List LogRow
  behind = puts (drop turns (drop next tape))

  abbrev done : List LogRow
  done = opening ++ first

  parts : puts tape ≡ (first ++ block) ++ behind
  parts = puts_parts tape next turns

  number : acked ≡ length done
  number = waits.acked_are ∙ sym (length-append opening first)

  pub rows_are : AreBlockRows tags block
  rows_are = record {
    some = omega (arith, is.long, some);
    few = omega (arith, is.long, few);
    each = middle_rows tags (puts tape) first block behind parts (fit_rows tags (log_begin (length opening) moment) tape legal.turns);
  }

  -- the bytes that are written
  pub bytes_are : bytes ≡ log_block_image (length done) block ++ 0 ∷ []
  bytes_are = is.bytes_are ∙ ap (λ (n : ℕ). log_block_image n block ++ 0 ∷ []) number

  abbrev pub IsWriting : List ℕ → Type 0
  IsWriting = FromOld old (IsGuarded (end + 1) bytes end)

  guarded_by : (d c : List ℕ) → IsGuarded (end + 1) bytes end d c → IsGuarded (end + 1) (log_block_image (length done) block ++ 0 ∷ []) end d c
  guarded_by d c guarded = subst (λ (l : List ℕ). IsGuarded (end + 1) l end d c) bytes_are guarded

  stored : (d : List ℕ) → MayLeave old d → Stores plant tags done end d
  stored d may = ready_now plant tags done end old (kept.ready refl) d may

  -- the rows of the block after those that were acknowledged
  both_are : done ++ block ≡ opening ++ (first ++ block)
  both_are = append_assoc opening first block

  -- while it is written an image stands for what was acknowledged, or for that and the block
  writing_stands : (c : List ℕ) → IsWriting c → StandsForPart plant tags opening (puts tape) acked c
  writing_stands c from = ⊎_elim without with_it (block_either plant tags done end from.0 c (stored from.0 from.1) block (guarded_by from.0 c from.2) rows_are)
    where
      without : Stores plant tags done end c → StandsForPart plant tags opening (puts tape) acked c
      without has =
          stands_part plant tags opening (puts tape) first (block ++ behind) acked c (parts ∙ append_assoc first block behind)
          (omega (arith, waits.acked_are)) (stores_stand plant tags done end c has)

      with_it : Stores plant tags (done ++ block) (end + log_block_size block) c → StandsForPart plant tags opening (puts tape) acked c
      with_it has =
          stands_part plant tags opening (puts tape) (first ++ block) behind acked c parts
          (omega (arith, waits.acked_are, length-append first block))
          (subst (StandsForRows plant tags c) both_are (stores_stand plant tags (done ++ block) (end + log_block_size block) c has))

  -- at each moment no more is acknowledged
  most : (t : ℕ) → acked_at t (length opening) tape ≤ acked
  most t = grind (arith, acked_at-most)

  -- so the log stays safe
  pub writing_safe : (new : Trace) → IsLogSafe plant tags opening moment tape (LeftSince old) → During old new IsWriting
      → IsLogSafe plant tags opening moment tape (LeftSince new)
  writing_safe new safe during = record {
    images = λ t c since left. ⊎_elim
        (λ now. part_least plant tags opening (puts tape) acked (acked_at t (length opening) tape) c (most t) (writing_stands c (during.each c now)))
        (λ before. safe.images t c since before)
        (parted old new t c during.later left);
  }

  -- a call of the device failed
  pub kept_faulted : (new : Trace) (ticks' faults' : ℕ) → ticks ≤ ticks' → Rose faults_now faults'
      → IsKept plant tags opening moment faults tape next end true new ticks' faults'
  kept_faulted new ticks' faults' later rose = grind arith

  module _ (new : Trace) (ticks' faults' : ℕ) (clock : ticks' ≡ ticks + 4) (during : During old new IsWriting)
      (sees : Sees new (written (written (seen old) (end + 1) bytes) end (open_byte ∷ []))) (settled : IsSettled new)
      (told : length new.calls ≡ ticks') (longer : List LogTurn)
      (longer_is : longer ≡ tape ++ Commit ticks' (acked + count) ∷ []) where
    same_puts : puts longer ≡ puts tape
    same_puts = ap puts longer_is ∙ (puts-append tape (Commit ticks' (acked + count) ∷ []) ∙ append-nil (puts tape))

    long : length longer ≡ length tape + 1
    long = ap length longer_is ∙ length-append tape (Commit ticks' (acked + count) ∷ [])

    walk_is : log_walked (log_begin (length opening) moment) longer
        ≡ after_turn (log_walked (log_begin (length opening) moment) tape) (Commit ticks' (acked + count))
    walk_is = ap (log_walked (log_begin (length opening) moment)) longer_is ∙ walked-push (log_begin (length opening) moment) tape (Commit ticks' (acked + count))

    -- so many rows waited, and so many of them are written
    commit_legal : count ≡ min most_in_block (length opening + length (puts tape) - acked) → IsLogLegal tags opening moment longer (acked + count)
    commit_legal count_is = record {
      opened = legal.opened;
      turns = grind (arith, fit-push, was, rows);
      last = sym (ap (λ (w : LogWalk). w.acked) walk_is);
    }
      where
        was : (log_walked (log_begin (length opening) moment) tape).acked ≡ acked
        was = sym legal.last

        rows : (log_walked (log_begin (length opening) moment) tape).rows ≡ length opening + length (puts tape)
        rows = walked-rows (log_begin (length opening) moment) tape

    commit_room : (places places' n room : ℕ) → HasRoomForPuts opening tape places n room → length tape + (room - n) + 1 ≤ places'
        → HasRoomForPuts opening longer places' n room
    commit_room places places' n room has enough = grind (arith, same_puts, long)

    -- the turns that are acknowledged then
    upto : take (next + turns) longer ≡ take next tape ++ take turns (drop next tape)
    upto = grind (arith, length-drop, take-append-le, take-add)

    upto_rows : puts (take (next + turns) longer) ≡ first ++ block
    upto_rows = ap puts upto ∙ puts-append (take next tape) (take turns (drop next tape))

    commit_waits : Waits opening longer (next + turns) (acked + count)
    commit_waits = grind (arith, length-drop, long, upto_rows, length-append)

    -- an image now has the block
    stored_now : (c : List ℕ) → MayLeave new c → Stores plant tags (done ++ block) (end + log_block_size block) c
    stored_now c may =
        let from = (during_now old new IsWriting during).each c may in
        block_opened plant tags done end from.0 c (stored from.0 from.1) block (guarded_by from.0 c from.2)
        (opened old new (ready_shut plant tags done end old (kept.ready refl)) during.later sees settled c may) rows_are
      where
        opened : (x y : Trace) → Now x (IsShut end) → ComesAfter x y
            → Sees y (written (written (seen x) (end + 1) bytes) end (open_byte ∷ [])) → IsSettled y → (c : List ℕ) → MayLeave y c → IsOpen end c
        opened t u shut after sees settled c may = grind (arith, present, written_byte, length-written)

    commit_kept : (end' : ℕ) → end' ≡ end + log_block_size block → faults' ≡ faults_now
        → IsKept plant tags opening moment faults longer (next + turns) end' false new ticks' faults'
    commit_kept end' end_is same = record {
      ready = λ usable. subst (λ (n : ℕ). IsReady plant tags (opening ++ puts (take (next + turns) longer)) n new) (sym end_is)
          (subst (λ (l : List LogRow). IsReady plant tags l (end + log_block_size block) new) rows_is (shown new settled stored_now));
      past = subst (λ (w : LogWalk). w.moment ≤ ticks') (sym walk_is) (omega arith);
      opened_before = omega (arith, kept.opened_before, clock);
      faultless = λ usable. same ∙ kept.faultless refl;
      cause = λ failed. absurd (cc (failed));
    }
      where
        rows_is : done ++ block ≡ opening ++ puts (take (next + turns) longer)
        rows_is = both_are ∙ ap (λ (l : List LogRow). opening ++ l) (sym upto_rows)

        shown : (x : Trace) → IsSettled x → ((c : List ℕ) → MayLeave x c → Stores plant tags (done ++ block) (end + log_block_size block) c)
            → IsReady plant tags (done ++ block) (end + log_block_size block) x
        shown t settled has = record { settled = settled; stores = has (seen t) (present t) }

    commit_safe : IsLogSafe plant tags opening moment tape (LeftSince old) → IsLogSafe plant tags opening moment longer (LeftSince new)
    commit_safe safe = record {
      images = grind (arith, same_puts, acked_at-commit, by_moment);
    }
      where
        by_moment : (t : ℕ) (c : List ℕ) → moment ≤ t → LeftSince new t c → (x : Bool) → nat_le ticks' t ≡ x
            → StandsForPart plant tags opening (puts tape) (if x then acked + count else acked_at t (length opening) tape) c
        by_moment t c since left true e =
            stands_part plant tags opening (puts tape) (first ++ block) behind (acked + count) c parts
            (omega (arith, waits.acked_are, length-append first block, is.long))
            (subst (StandsForRows plant tags c) both_are (stores_stand plant tags (done ++ block) (end + log_block_size block) c
            (stored_now c (only_since new ticks' t c told (le_when ticks' t e) left))))
        by_moment t c since left false e = (writing_safe new safe during).images t c since left

    -- all that a log keeps
    pub committed : (places places' n room end' : ℕ) (failed : Bool) → failed ≡ false
        → count ≡ min most_in_block (length opening + length (puts tape) - acked) → HasRoomForPuts opening tape places n room
        → length tape + (room - n) + 1 ≤ places' → end' ≡ end + log_block_size block → faults' ≡ faults_now
        → IsLogSafe plant tags opening moment tape (LeftSince old)
        → IsLogLegal tags opening moment longer (acked + count) × HasRoomForPuts opening longer places' n room
        × Waits opening longer (next + turns) (acked + count)
        × IsKept plant tags opening moment faults longer (next + turns) end' failed new ticks' faults'
        × IsLogSafe plant tags opening moment longer (LeftSince new)
    committed places places' n room end' failed usable count_is has enough end_is same safe = (
      commit_legal count_is,
      commit_room places places' n room has enough,
      commit_waits,
      subst (λ f. IsKept plant tags opening moment faults longer (next + turns) end' f new ticks' faults') (sym usable)
          (commit_kept end' end_is same),
      commit_safe safe,
    )
