-- Tags that are opened one after the other, whose devices stay out.
use Rattle.std.proofs.Common.{◌≡◌, ◌≢◌, inl, inr, ℕ, ◌+◌, ◌<◌, ◌≤◌, List, ◌∷◌, length, map, take, drop, get_or, slice_get, Some, sym, ◌∙◌, ap, subst, arith}
use Rattle.std.specs.Prelude.{All}
use Rattle.std.proofs.lemmas.Bool.{cases_lt}
use Rattle.std.proofs.lemmas.List.{get_or_default, get_or-take, length-take-le, take-take}
use Rattle.std.proofs.lemmas.List.Elements.{All-take}
use Rattle.trend_num.specs.{TagDef}
use Rattle.tag_core.specs.Core.{Core}
use Rattle.disk_model.specs.{Trace, Device}
use Rattle.crash_recovery.specs.{StaysSame}
use Rattle.atomic_table.specs.Seated.{TableId}
use Rattle.snapshot_table.specs.{new_posters, Posting, PostsTo, nothing}
use Rattle.snapshot_table.proofs.Places.{poster_at, posts_at}
use Rattle.tag_cell.specs.{ToldCell, device_name}
use Rattle.plant_store.specs.Tags.{tag_trace_of, AreDistinct, IsOpened, AreTagsOpened, AreOtherTagsSame, AllStaySame, tag_records_in}
use Rattle.plant_store.proofs.TagDevices.{untouched}
use Rattle.plant_store.proofs.TagTurns.{IsTag, not_reached, reached}
use Rattle.plant_store.specs.{core_of, IsCellOpened, AreCellsOpened, records_opened, AreTold}
use Rattle.plant_store.proofs.CellLists.{next_of, sum_by_seen, zip_as, zip_both}

-- ---- tags by their place

-- the tag at a place
pub tag_at : (tags : List TagDef) (k : ℕ) (d : TagDef) → k < length tags → IsTag tags k (get_or tags k d)
tag_at tags k d there = record { there = there; is = get_or_default tags k d (get_or tags k d) there }

-- what none of the first tags has stays as it was if the devices of fewer of them change then
pub given_later : (tags : List TagDef) (i j : ℕ) (old now new : List ℕ → Trace) → AreOtherTagsSame (take i tags) old now
    → AreOtherTagsSame (take j tags) now new → j ≤ i → AreOtherTagsSame (take i tags) old new
given_later tags i j old now new others later few n none =
    later n (subst (All (λ (d : TagDef). n ≢ device_name d.name)) (take-take j i tags few)
    (All-take (λ (d : TagDef). n ≢ device_name d.name) j (take i tags) none)) ∙ others n none

-- ---- cells

-- the records that the cores of cells have
pub records_are : {D : Type 0} (cells : List (ToldCell D)) → tag_records_in (map (core_of {D = D}) cells) ≡ records_opened cells
records_are {D} cells = sum_by_seen (λ (core : Core). length core.state.records) (core_of {D = D}) cells

-- the cores of cells are what the tags are opened as
pub cores_opened : {D : Type 0} (device : D → Device) (tags : List TagDef)
    (traces : List ℕ → Trace) (cells : List (ToldCell D)) → AreCellsOpened device tags traces cells
    → AreTagsOpened tags traces (map (core_of {D = D}) cells)
cores_opened {D} device tags traces cells opened = zip_as (λ (def : TagDef) (c : ToldCell D).
    IsCellOpened def (tag_trace_of traces def) (device c.journal.dev) c)
    (λ (def : TagDef) (core : Core). IsOpened def (tag_trace_of traces def) core) (core_of {D = D}) (λ def c is. is.found) tags cells opened

-- ---- what a crash leaves

-- a crash has left nothing else of the devices of the tags from this place on
abbrev pub AllStayFrom : ℕ → List TagDef → (List ℕ → Trace) → (List ℕ → Trace) → Type 0
AllStayFrom i tags old now = (k : ℕ) (def : TagDef) → IsTag tags k def → i ≤ k
    → StaysSame def (tag_trace_of old def) (tag_trace_of now def)

-- as none of them is changed
pub unchanged_from : (tags : List TagDef) (i : ℕ) (old now : List ℕ → Trace) → AreDistinct tags
    → AreOtherTagsSame (take i tags) old now → AllStayFrom i tags old now
unchanged_from tags i old now distinct others k def tag from = untouched def (tag_trace_of old def) (tag_trace_of now def)
    (not_reached tags i k def old now others distinct tag from)

-- or the first of them alone, of which it is so
pub turned_from : (tags : List TagDef) (i : ℕ) (def : TagDef) (old now new : List ℕ → Trace) → AreDistinct tags
    → IsTag tags i def → AreOtherTagsSame (take i tags) old now → ((n : List ℕ) → n ≢ device_name def.name → new n ≡ now n)
    → StaysSame def (tag_trace_of now def) (tag_trace_of new def) → AllStayFrom i tags old new
turned_from tags i def old now new distinct tag others step same k d at from = elim (cases_lt i k) [
  | inl behind ↦ unchanged_from tags (i + 1) old new distinct (reached tags i def old now new others tag step) k d at
      (omega (arith, behind))
  | inr here ↦
      let place : k ≡ i = omega (arith, here, from) in
      let this : def ≡ d = tag.is ∙ (get_or_default tags i def d tag.there ∙ (ap (λ j. get_or tags j d) (sym place) ∙ sym at.is)) in
      subst (λ (x : TagDef). StaysSame x (tag_trace_of old x) (tag_trace_of new x)) this
      (subst (λ o. StaysSame def o (tag_trace_of new def)) (not_reached tags i i def old now others distinct tag (omega arith)) same)
]

-- and of the tags of these cells neither, once their devices are given back
pub all_stay : {D : Type 0} (device : D → Device) (tags : List TagDef) (cells : List (ToldCell D))
    (old now new : List ℕ → Trace) → AreDistinct tags → length cells ≤ length tags
    → AreCellsOpened device (take (length cells) tags) old cells → AllStayFrom (length cells) tags old now
    → AreOtherTagsSame (take (length cells) tags) now new → AreTold device tags cells new → AllStaySame tags old new
all_stay {D} device tags cells old now new distinct within opened stay others told k d there = elim (cases_lt k (length cells)) [
  | inl before ↦
      subst (λ (x : TagDef). StaysSame x (tag_trace_of old x) (tag_trace_of new x)) (get_or-take (length cells) tags k d before)
      (zip_both (λ (def : TagDef) (c : ToldCell D). IsCellOpened def (tag_trace_of old def) (device c.journal.dev) c) (λ (def : TagDef) (c : ToldCell D). tag_trace_of new def ≡ (device c.journal.dev).trace)
      (λ (def : TagDef). StaysSame def (tag_trace_of old def) (tag_trace_of new def))
      (λ def c is says. subst (λ o. StaysSame def (tag_trace_of old def) o) (sym says) is.same) (take (length cells) tags) cells
      opened told k d (omega (arith, before, length-take-le (length cells) tags within)))
  | inr behind ↦
      let def = get_or tags k d in
      let tag = tag_at tags k d there in
      subst (λ o. StaysSame def (tag_trace_of old def) o) (sym (not_reached tags (length cells) k def now new others distinct tag behind))
      (stay k def tag behind)
]

-- ---- posters

-- the next poster is that of the next tag, and has posted nothing
pub posts_to : (board : List TableId) (i : ℕ) (p : Posting) (more : List Posting) → i < length board
    → drop i (new_posters 0 board) ≡ p ∷ more → PostsTo board p × (p.last ≡ nothing)
posts_to board i p more there left =
    let next = next_of (new_posters 0 board) i p more left in
    let at = poster_at board i p there next.is in (
      subst (λ (n : ℕ). slice_get board n ≡ Some p.cell) (sym (ap (λ (q : Posting). q.tag) at)) (posts_at board i p there next.is),
      ap (λ (q : Posting). q.last) at,
    )
