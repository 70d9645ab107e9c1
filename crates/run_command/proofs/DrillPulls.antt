-- The first pulls of a drill: what cells show, their histories show.
use Rattle.std.proofs.Common.{◌≡◌, ◌∙◌, ℕ, ◌<◌, List, [], Result, Ok, Err, OnOk, IfErr, arith, ap, ap₂, length, get_or, refl, sym, subst}
use Rattle.std.proofs.lemmas.Option.{slice_get_within}
use Rattle.disk_model.specs.{Device}
use Rattle.plant_status.proofs.Elements.{element}
use Rattle.plant_status.specs.declared.status.Status.{Status}
use Rattle.plant_store.specs.CellClosings.{IsHistoryOfCell}
use Rattle.plant_store.specs.Groups.{DeviceTraces}
use Rattle.tag_base.specs.{Base}
use Rattle.tag_cell.specs.{TagHistory, ToldCell as Cell}
use Rattle.group_book.specs.{ToldBook as Book}
use Rattle.value_rows.specs.{RawRow}
use Rattle.session_audit.specs.{tag_rows, takes_mismatch, HaveFirstPulls, IsFirstPullMismatch, takes_at_pull}
use Rattle.session_report.specs.{Session}
use Rattle.run_command.specs.{Given, ArePhasesApart, IsPulledElsewhere}
use Rattle.run_command.specs.Runs.{IsOver, IsWorkIn}
use Rattle.run_command.proofs.Zipped.{zip_at, zip_length, zip_right}

-- ---- the answer of two phases

-- what is so of a refusal stays so if it is returned again
pub still_refused : {X E : Type 0} (P : Result X E → Type 0) (was now : Result X E) → IfErr was (λ why. now ≡ Err why)
    → ((x : X) → P (Ok x) → P now) → P was → P now
still_refused P (Ok x) now same fine p = fine x p
still_refused P (Err why) now same fine p = subst P (sym same) p

-- what holds if the phases are apart held before they were compared
pub held_before : {X E : Type 0} (P : Type 0) (was now : Result X E) → IfErr was (λ why. now ≡ Err why) → OnOk was P → OnOk now P
held_before P (Ok x) (Ok y) same p = p
held_before P (Ok x) (Err why) same p = tt
held_before P (Err why) (Ok y) same p = absurd (cc same)
held_before P (Err why) (Err e) same p = tt

-- why there is no answer: as before they were compared, or because they are not apart
pub refused_by : {X E : Type 0} {P Q R : E → Type 0} (was now : Result X E) → IfErr was (λ why. now ≡ Err why) → IfErr was P
    → OnOk was (IfErr now Q) → ((e : E) → P e → R e) → ((x : X) → was ≡ Ok x → (e : E) → Q e → R e) → IfErr now R
refused_by (Ok x) (Ok y) same p q first then = tt
refused_by (Ok x) (Err e) same p q first then = then x refl e q
refused_by {X} {E} {P} {Q} {R} (Err why) now same p q first then = subst (λ r. IfErr r R) (sym same) (first why p)

-- ---- histories

module _ {D : Type 0} (device : D → Device) (base : Base) (old new : DeviceTraces) (cells : List (Cell D))
    (books : List (Book D)) (s : Session) (is : IsOver device base old new cells books s) (first : Given)
    (rows : List (List RawRow)) (given : IsWorkIn base 0 0 rows [] [] first) where
  abbrev IsOfCell : Cell D → TagHistory → Type 0
  IsOfCell c t = IsHistoryOfCell (device c.journal.dev) c t

  -- the rooms of the first phase are the numbers of its rows
  rooms_are : (tag : ℕ) → tag < length base.tags.items → get_or first.rooms.items tag 0 ≡ tag_rows tag rows
  rooms_are tag below = given.sized.rooms tag below ∙ ap (tag_rows tag) given.its.collectors

  -- what a history pulled first, its cell did
  same_pull : (tag : ℕ) (c : Cell D) (t : TagHistory) → IsOfCell c t
      → takes_at_pull t.opening t.tape.items ≡ takes_at_pull c.opening c.tape
  same_pull tag c t of = ap₂ takes_at_pull of.opening_is of.tape_is

  pull_at : (k : ℕ) (t : TagHistory) (there : k < length cells)
      → ((c : Cell D) → takes_at_pull (get_or cells k c).opening (get_or cells k c).tape ≡ get_or first.rooms.items k 0)
      → takes_at_pull (get_or s.tags.items k t).opening (get_or s.tags.items k t).tape.items ≡ tag_rows k rows
  pull_at k t there so =
      let c = element cells k there in
      same_pull k (get_or cells k c) (get_or s.tags.items k t)
      (zip_at IsOfCell cells s.tags.items k c t is.tags (omega (arith, there, zip_length IsOfCell cells s.tags.items is.tags)))
      ∙ so c ∙ rooms_are k (omega (arith, there, is.as_many_tags))

  pub apart : HaveFirstPulls first.rooms.items cells → ArePhasesApart rows s
  apart have tag t below =
      let there : tag < length cells = omega (arith, below, zip_length IsOfCell cells s.tags.items is.tags) in
      pull_at tag t there (λ c. have.each tag c there)

  pub pulled_elsewhere : (why : Status) → IsFirstPullMismatch first.rooms.items cells why → IsPulledElsewhere rows s why
  pulled_elsewhere why m =
      let there = slice_get_within cells m.tag m.cell m.there in
      let h = zip_right IsOfCell cells s.tags.items m.tag m.cell is.tags m.there in
      let takes = same_pull m.tag m.cell h.0 h.2 in
      let room = rooms_are m.tag (omega (arith, there, is.as_many_tags)) in
      record {
        tag = m.tag;
        its = h.0;
        there = h.1;
        told = m.told ∙ ap₂ (takes_mismatch m.tag) (sym takes) room;
        differ = λ same. m.differ (sym takes ∙ same ∙ sym room);
        front = λ k t below. pull_at k t (omega (arith, below, there)) (λ c. m.front k c below);
      }
