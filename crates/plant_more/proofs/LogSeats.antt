-- Workers join the crew, and their notes are in order.
use Rattle.std.proofs.Common.{◌≡◌, ℕ, ◌<◌, List, [], ◌∷◌, ◌++◌, length, get_or, map, sym, ◌∙◌, ap, subst, arith}
use Rattle.std.specs.Prelude.{All, Vec}
use Rattle.std.specs.declared.alloc.Global.{Global}
use Rattle.std.proofs.lemmas.Grind.{common_steps}
use Rattle.value_rows.specs.{RawRow}
use Rattle.plant_status.proofs.Elements.{element, mapped_at, mapped_length}
use Rattle.plant_more.specs.{LogNote, LogWorker, AreLogNotesOf, IsNoteOf, halts, row_lists_of}
use Rattle.plant_more.specs.LogCrew.{AreDone, AreSeated, IsReady}

-- no one is in the crew yet
pub none_seated : {O : Type 0} (stops : O → ℕ) → AreSeated stops []
none_seated stops = record { numbered = λ place s few. absurd (omega arith); fresh = λ place s few. absurd (omega arith) }

-- one more worker joins
pub one_seated : {O : Type 0} (stops : O → ℕ) (old : List (LogWorker O)) (s : LogWorker O) → AreSeated stops old → s.note.worker ≡ length old
    → stops s.pass ≡ 0 → AreSeated stops (old ++ s ∷ [])
one_seated {O} stops old s seated number fresh = record {
  numbered = λ place d few. numbered_at old place d seated.numbered number few;
  fresh = λ place d few. fresh_at old place d seated.fresh few;
}
  where
    numbered_at : (xs : List (LogWorker O)) (place : ℕ) (d : LogWorker O)
        → ((k : ℕ) (e : LogWorker O) → k < length xs → (get_or xs k e).note.worker ≡ k) → s.note.worker ≡ length xs
        → place < length (xs ++ s ∷ []) → (get_or (xs ++ s ∷ []) place d).note.worker ≡ place
    numbered_at xs place d are last few = grind (arith, common_steps, are place d, last)

    fresh_at : (xs : List (LogWorker O)) (place : ℕ) (d : LogWorker O)
        → ((k : ℕ) (e : LogWorker O) → k < length xs → stops (get_or xs k e).pass ≡ 0)
        → place < length (xs ++ s ∷ []) → stops (get_or (xs ++ s ∷ []) place d).pass ≡ 0
    fresh_at xs place d are few = grind (arith, common_steps, are place d, fresh)

-- each may begin
pub all_ready : {O : Type 0} (stops : O → ℕ) (workers : ℕ) (crew : List (LogWorker O)) → AreSeated stops crew → length crew ≡ workers
    → All (IsReady stops workers) crew
all_ready stops workers crew seated count = λ k d few. record {
  worker = omega (arith, seated.numbered k d few, count);
  fresh = seated.fresh k d few;
}

-- the notes of a crew that was ready and has ended
notes_of : {O : Type 0} (D : Type 0) (stops : O → ℕ) (files : List (List RawRow)) (old new : List (LogWorker O)) (notes : List LogNote)
    → AreSeated stops old → length old ≡ length files → length new ≡ length old → AreDone D stops files old new
    → notes ≡ map (λ s. s.note) new → AreLogNotesOf D files notes
notes_of {O} D stops files old new notes seated count same done are = record {
  count = ap length are ∙ (mapped_length (λ (s : LogWorker O). s.note) new ∙ (same ∙ count));
  each = λ place rows n few.
      let few' : place < length new = omega (arith, ap length are, mapped_length (λ (s : LogWorker O). s.note) new, few) in
      let few'' : place < length old = omega arith in
      let d = element new place few' in
      let number = seated.numbered place d few'' in
      let is : get_or notes place n ≡ (get_or new place d).note =
      ap (λ (l : List LogNote). get_or l place n) are ∙ mapped_at (λ s. s.note) new place d n few' in
      rw is
      (subst (λ (k : ℕ). IsNoteOf D k (get_or files k rows) (get_or new place d).note) number ((done.each place d few'').note rows));
}

-- the same over the files of collectors
pub all_notes : {O : Type 0} (D : Type 0) (stops : O → ℕ) (collectors : List (Vec RawRow Global)) (old new : List (LogWorker O))
    (notes : List LogNote) → AreSeated stops old → length old ≡ length collectors → length new ≡ length old
    → AreDone D stops (row_lists_of collectors) old new → notes ≡ map (λ s. s.note) new → AreLogNotesOf D (row_lists_of collectors) notes
all_notes D stops collectors old new notes seated count same done are =
    notes_of D stops (row_lists_of collectors) old new notes seated (count ∙ sym (mapped_length (λ (v : Vec RawRow Global). v.items) collectors))
    same done are

-- the pass of each of a crew has stopped its worker as often as the note says
pub all_stopped : {O : Type 0} (D : Type 0) (stops : O → ℕ) (files : List (List RawRow)) (old new : List (LogWorker O))
    → length new ≡ length old → AreDone D stops files old new → All (λ s. stops s.pass ≡ halts s.note.ending) new
all_stopped D stops files old new same done = λ k d few. (done.each k d (omega arith)).stopped
