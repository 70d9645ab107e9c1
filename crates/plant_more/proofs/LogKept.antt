-- The device of a log that is not opened, or to which no collector put a row.
use Rattle.std.proofs.Common.{◌≡◌, ◌∙◌, ℕ, List, length, refl, sym, subst, inl, inr}
use Rattle.disk_model.specs.{Shows, During, Device, Trace}
use Rattle.disk_model.proofs.Moments.{started}
use Rattle.commit_log.specs.{LogRow, StandsForRows, GainsLogSync, IsLogLeftOrSame, IsLeftOrStands, ToldLog, log_name}
use Rattle.tag_base.specs.{Base}
use Rattle.plant_status.specs.declared.status.Status.TheVariants.{WantOfMemory}
use Rattle.plant_more.specs.LogHeadline.{IsUnopened}
use Rattle.plant_more.specs.LogOpenings.{AreOthersSame, GainsSyncAtMost, TracesByName, IsGivenBack, IsLogKept, IsLogOpened}
use Rattle.plant_more.specs.{plant_text}

-- nothing was called
still : (text : List ℕ) (tags : ℕ) (o : Trace) → During o o (IsLogLeftOrSame text tags o)
still text tags o = started o (IsLogLeftOrSame text tags o) (record { each = λ c may. inl may })

-- so no device has changed
pub untouched : (text : List ℕ) (tags : ℕ) (old new : TracesByName) → ((n : List ℕ) → new n ≡ old n) → IsLogKept text tags old new
untouched text tags old new same = record {
  any_moment = subst (λ (o : Trace). During (old log_name) o (IsLogLeftOrSame text tags (old log_name))) (sym (same log_name))
      (still text tags (old log_name));
  others = λ n differs. same n;
}

-- ---- a device that gains a sync at most

-- none
pub gains_none : (o new : Trace) → new ≡ o → GainsSyncAtMost o new
gains_none t new same = λ begun. inl same

-- that of an opening
gains_opened : (o mid new : Trace) → new ≡ mid → GainsLogSync o mid → GainsSyncAtMost o new
gains_opened t mid new same gains = λ begun. inr (same ∙ gains begun)

-- ---- a log that was opened

-- it stands for the same
pub stands_same : (text : List ℕ) (tags : ℕ) (rows : List LogRow) (o new : Trace) → Shows o (λ c. StandsForRows text tags c rows)
    → During o new (IsLeftOrStands text tags rows o) → During o new (IsLogLeftOrSame text tags o)
stands_same text tags rows t new stood is = record { later = is.later; each = λ c left. by_image c (is.each c left) }
  where
    by_image : (c : List ℕ) → IsLeftOrStands text tags rows t c → IsLogLeftOrSame text tags t c
    by_image c (inl may) = inl may
    by_image c (inr stands) = inr (record { rows = rows; stood = stood; stands = stands })

-- the device of a log to which no collector put a row
pub kept_ready : {D : Type 0} (device : D → Device) (text : List ℕ) (tags room : ℕ) (old mid new : TracesByName)
    (before now : ℕ) (l : ToldLog D) → IsLogOpened device text tags room (old log_name) l → AreOthersSame old mid
    → IsGivenBack device l mid new before now → IsLogKept text tags old new
kept_ready device text tags room old mid new before now l opened others back = record {
  any_moment = subst (λ (o : Trace). During (old log_name) o (IsLogLeftOrSame text tags (old log_name))) (sym back.given)
      (stands_same text tags l.opening (old log_name) (device l.dev).trace opened.rows opened.any_moment);
  others = λ n differs. back.others n differs ∙ others n differs;
}

pub synced_ready : {D : Type 0} (device : D → Device) (text : List ℕ) (tags room : ℕ) (old mid new : TracesByName)
    (before now : ℕ) (l : ToldLog D) → IsLogOpened device text tags room (old log_name) l
    → IsGivenBack device l mid new before now → GainsSyncAtMost (old log_name) (new log_name)
synced_ready device text tags room old mid new before now l opened back =
    gains_opened (old log_name) (device l.dev).trace (new log_name) back.given opened.synced

-- a log that is opened for a text is opened for the plant that has it
pub opened_for : {D : Type 0} (device : D → Device) (text text' : List ℕ) (tags tags' room room' : ℕ) (o : Trace)
    (l : ToldLog D) → text ≡ text' → tags ≡ tags' → room ≡ room' → IsLogOpened device text tags room o l
    → IsLogOpened device text' tags' room' o l
opened_for device text text' tags tags' room room' o l text_is tags_are room_is opened =
    subst (λ (t : List ℕ). IsLogOpened device t tags' room' o l) text_is
    (subst (λ (n : ℕ). IsLogOpened device text n room' o l) tags_are
    (subst (λ (n : ℕ). IsLogOpened device text tags n o l) room_is opened))

-- and one for which no memory is found
pub unready_for : (base : Base) (rows : ℕ) (old new : TracesByName) (before now : ℕ)
    → IsLogKept (plant_text base.tags.items) (length base.tags.items) old new → GainsSyncAtMost (old log_name) (new log_name)
    → IsUnopened base rows old new before now WantOfMemory
unready_for base rows old new before now kept synced = record { cause = inr refl; kept = kept; synced = λ other. synced }
