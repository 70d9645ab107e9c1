-- What a crash leaves while a layout is made: a new device, or the whole layout.
use Rattle.std.proofs.Common.{◌≡◌, inl, inr, ℕ, ◌+◌, ◌-◌, ◌*◌, ◌<◌, ◌≤◌, List, [], ◌∷◌, ◌++◌, length, get_or, take, drop, replicate, refl, sym, ◌∙◌, ap, arith, length-append, length-take, length-drop, take-take, take_at, get_or-take}
use Rattle.std.proofs.Common.{get_or-drop}
use Rattle.std.proofs.lemmas.{Bool.cases_eq, List.get_or-append_right, List.get_or-replicate, List.length-replicate}
use Rattle.trend_num.specs.{declared.tag_def.TagDef.TagDef, Names.IsName, Ranges.TuningInRange}
use Rattle.trend_model.specs.State.{nothing_taken}
use Rattle.disk_model.specs.{Traces.Trace, Traces.seen, Traces.written, Images.Now, Images.FromOld, Images.IsSettled, Moments.During, Calls.Reaches, Calls.Sees, Gates.open_byte, Gates.IsShut, Gates.IsGuarded, Gates.IsNew}
use Rattle.disk_model.proofs.{Images.present, Moments.during_now, Moments.weaker, Moments.in_turn}
use Rattle.archive_file.specs.{IsLeftOrNew}
use Rattle.event_queue.specs.{lane_end}
use Rattle.device_layout.specs.{header_image, Recovers, IsMade}
use Rattle.device_layout.proofs.{HeaderImages.length-header_image, NewLayout.made_recovers}

-- ---- the gate is closed

-- where a read gives a new device, so does each image
pub new_now : (o : Trace) → IsNew (seen o) → IsSettled o → Now o IsNew
new_now o new settled = grind arith

-- until its gate is closed, a new device stays one
pub new_closed : (o o1 : Trace) → IsNew (seen o) → IsSettled o → During o o1 (IsLeftOrNew o) → During o o1 IsNew
new_closed o o1 new settled closing = grind (arith, weaker, new_now)

-- ---- the layout is written after it

-- bytes written after the gate begin after it
pub shut_reached : (o : Trace) → Now o (IsShut 0) → Reaches o 1
shut_reached o shut = grind (arith, present)

-- a new device recovers that nothing was taken
pub new_recovers : (def : TagDef) (o o1 : Trace) → During o o1 IsNew
    → During o o1 (λ c. Recovers def c (nothing_taken def.tuning))
new_recovers def o o1 closed = grind (arith, weaker)

-- the header and zeros
abbrev layout_image : TagDef → ℕ → List ℕ
layout_image def slots = header_image def slots ++ replicate (272 + 1035 * slots) 0

module _ (def : TagDef) (slots : ℕ) (bytes : List ℕ) (name : IsName def.name)
    (is : bytes ≡ layout_image def slots) where
  -- how many bytes there are
  all_bytes : length bytes ≡ 399 + 1035 * slots
  all_bytes = grind (arith, length-append, length-header_image, length-replicate)

  -- after the open gate they are a layout
  guarded_made : (d c : List ℕ) → IsGuarded 1 bytes 0 d c → get_or c 0 0 ≡ open_byte → IsMade def slots c
  guarded_made d c guarded opened = record { opened = opened; header = header; long = long; zeros = zeros }
    where
      holds : take (length bytes) (drop 1 c) ≡ bytes
      holds = guarded.whole opened

      long : lane_end slots ≤ length c
      long = grind (arith, holds, length-take, length-drop, all_bytes)

      header : take 127 (drop 1 c) ≡ header_image def slots
      header =
          sym (take-take 127 (length bytes) (drop 1 c) (omega (arith, all_bytes)))
          ∙ ap (take 127) (holds ∙ is)
          ∙ take_at (header_image def slots) (replicate (272 + 1035 * slots) 0) 127
          (length-header_image def slots name)

      zeros : (i : ℕ) → 128 ≤ i → i < lane_end slots → get_or c i 0 ≡ 0
      zeros i low high =
          let place : i ≡ 1 + (i - 1) = omega arith in
          ap (λ k. get_or c k 0) place ∙ sym (get_or-drop 1 c (i - 1) 0)
          ∙ sym (get_or-take (length bytes) (drop 1 c) (i - 1) 0 (omega (arith, all_bytes)))
          ∙ ap (λ l. get_or l (i - 1) 0) (holds ∙ is)
          ∙ get_or-append_right (header_image def slots) (replicate (272 + 1035 * slots) 0) 127 (i - 1) 0
          (length-header_image def slots name) (omega arith)
          ∙ get_or-replicate (272 + 1035 * slots) (i - 1 - 127) 0 0 (omega arith)

  module _ (tuned : TuningInRange def.tuning) (some : 1 ≤ slots) (few : slots ≤ 65536) (o o1 : Trace)
      (closed : During o o1 IsNew) where
    -- and so does the whole layout
    pub layout_recovers : (o2 : Trace) → During o1 o2 (FromOld o1 (IsGuarded 1 bytes 0))
        → During o o2 (λ c. Recovers def c (nothing_taken def.tuning))
    layout_recovers o2 guarded =
        in_turn o o1 o2 (λ c. Recovers def c (nothing_taken def.tuning)) (new_recovers def o o1 closed)
        (grind (arith, weaker, either))
      where
        either : (c : List ℕ) → FromOld o1 (IsGuarded 1 bytes 0) c → Recovers def c (nothing_taken def.tuning)
        either c from = elim (cases_eq (get_or c 0 0) open_byte) [
          | inl opened ↦ made_recovers def slots c (guarded_made from.0 c from.2 opened) tuned name some few
          | inr shut ↦ inl (inr shut, refl)
        ]

    -- which a read gives in the end
    pub layout_made : (o2 : Trace) → During o1 o2 (FromOld o1 (IsGuarded 1 bytes 0))
        → Sees o2 (written (written (seen o1) 1 bytes) 0 (open_byte ∷ [])) → IsMade def slots (seen o2)
    layout_made t guarded sees =
        let left = during_now o1 t (FromOld o1 (IsGuarded 1 bytes 0)) guarded in
        let from = left.each (seen t) (present t) in
        guarded_made from.0 (seen t) from.2 (ap (λ l. get_or l 0 0) sees)
