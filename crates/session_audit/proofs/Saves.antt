-- A book that was saved, or was not.
use Rattle.std.proofs.Common.{◌≡◌, ◌∙◌, ℕ, Bool, zero, suc, ◌+◌, List, [], ◌∷◌, All, length, map, Result, Ok, Err, IfErr, OnOk, true, false, Option, None, Some, IsSome, refl, sym, ap, subst, arith, append-nil}
use Rattle.std.proofs.lemmas.Bool.{false≢true}
use Rattle.std.proofs.lemmas.List.Elements.{filter_map-append}
use Rattle.disk_model.specs.{Device, moment}
use Rattle.calc_refresh.specs.{fault_of}
use Rattle.group_book.specs.{SaveNo, IsBookFaulted, IsSaved, ToldBook as Book, versions_of}
use Rattle.group_book.specs.declared.refusal.SaveNo.TheVariants.{Broken, DeviceFault, WantOfMemory}
use Rattle.group_book.specs.declared.turn.Turn.TheVariants.{Save}
use Rattle.trend_num.specs.{Rec}
use Rattle.plant_status.specs.declared.status.Status.{Status}
use Rattle.session_audit.specs.{IsNoAsk, IsRefreshedMore, IsRefreshedTo, IsSavedOn, durable_numbers, IsBookRefusal, IsSaveCause, IsSaveRefusal, refreshes, reached_by}
use Rattle.session_audit.specs.BookRefusals.IsBookRefusal.{OfSave}
use Rattle.session_audit.proofs.MoreTurns.{refreshed_refl}

-- what does not hold is false
pub unfailed : (b : Bool) → (b ≡ true → ⊥) → b ≡ false
unfailed true h = absurd (h refl)
unfailed false h = refl

-- a save more on the tape
saved_more : {D : Type 0} (device : D → Device) (before : D) (old new : Book D)
    → IsSaved device before old new → IsRefreshedMore old new
saved_more device before old new s = record {
  more = Save s.block.number (moment (device s.after).trace) ∷ [];
  each = one;
  tape = ap (λ b. b.tape) s.changed;
  same_group = ap (λ b. b.group) s.changed;
  same_def = ap (λ b. b.def) s.changed;
  same_text = ap (λ b. b.text) s.changed;
  same_tags = ap (λ b. b.tags) s.changed;
  same_opening = ap (λ b. b.opening) s.changed;
}
  where
    one : All IsNoAsk (Save s.block.number (moment (device s.after).trace) ∷ [])
    one zero d below = tt
    one (suc i) d below = absurd (omega (arith, below))

-- a book without a device is as it was, and one with a device has a save more
pub saved_on : {D : Type 0} (device : D → Device) (old new : Book D) (dev : Option D) → old.dev ≡ dev
    → (old.dev ≡ None → new ≡ old) → ((d : D) → old.dev ≡ Some d → IsSaved device d old new)
    → old.failed ≡ false → IsSavedOn old new × IsRefreshedMore old new
saved_on {D = D} device old new None is none some sound =
    let same = none is in (
      record {
        same_refreshes = ap (λ b. refreshes b.tape) same;
        same_sheet = ap (λ b. b.sheet) same;
        usable = ap (λ b. b.failed) same ∙ sound;
        last = λ there. absurd (nothing new.dev (ap (λ b. b.dev) same ∙ is) there);
      },
      subst (IsRefreshedMore old) (sym same) (refreshed_refl old),
    )
  where
    nothing : (o : Option D) → o ≡ None → IsSome o → ⊥
    nothing None e there = false≢true there
    nothing (Some d) e there = cc
saved_on device old new (Some d) is none some sound =
    let s = some d is in (
      record {
        same_refreshes = ap (λ b. refreshes b.tape) s.changed
            ∙ (filter_map-append reached_by old.tape (Save s.block.number (moment (device s.after).trace) ∷ []) ∙ append-nil (refreshes old.tape));
        same_sheet = ap (λ b. b.sheet) s.changed;
        usable = ap (λ b. b.failed) s.changed ∙ sound;
        last = λ there. record {
          before = old.tape;
          number = s.block.number;
          moment = moment (device s.after).trace;
          is = ap (λ b. b.tape) s.changed;
        };
      },
      saved_more device d old new s,
    )

-- ---- a book that was not saved

pub unsaved_more : {D : Type 0} (old new : Book D) (why : SaveNo) → (why ≡ DeviceFault → IsBookFaulted old new)
    → (why ≡ Broken → new ≡ old) → (why ≡ WantOfMemory → new ≡ old) → IsRefreshedMore old new
unsaved_more old new Broken faulted broken memory = subst (IsRefreshedMore old) (sym (broken refl)) (refreshed_refl old)
unsaved_more old new WantOfMemory faulted broken memory = subst (IsRefreshedMore old) (sym (memory refl)) (refreshed_refl old)
unsaved_more old new DeviceFault faulted broken memory =
    let f = faulted refl in
    record {
      more = [];
      each = λ k d below. absurd (omega (arith, below));
      tape = ap (λ b. b.tape) f.changed ∙ sym (append-nil old.tape);
      same_group = ap (λ b. b.group) f.changed;
      same_def = ap (λ b. b.def) f.changed;
      same_text = ap (λ b. b.text) f.changed;
      same_tags = ap (λ b. b.tags) f.changed;
      same_opening = ap (λ b. b.opening) f.changed;
    }

pub unsaved_cause : {D : Type 0} (old new : Book D) (why : SaveNo) → (why ≡ DeviceFault → IsBookFaulted old new)
    → (why ≡ Broken → (old.failed ≡ true) × (new ≡ old)) → IsSaveCause new why
unsaved_cause old new Broken faulted broken = ap (λ b. b.failed) (broken refl).1 ∙ (broken refl).0
unsaved_cause old new DeviceFault faulted broken = (faulted refl).failed
unsaved_cause old new WantOfMemory faulted broken = tt

-- ---- the end of a group's turns

-- a book with all its turns that was saved
pub saved_to : {D T E : Type 0} (durables : List (List Rec)) (tags : List ℕ) (turns : ℕ) (old new : Book D) (r : Result T E)
    → length (refreshes old.tape) ≡ turns + 1 → versions_of old ≡ durable_numbers durables tags → fault_of old.sheet ≡ None
    → OnOk r (IsSavedOn old new)
    → OnOk r (IsRefreshedTo durables tags turns new)
saved_to durables tags turns old new (Ok x) count versions within saved = record {
  refreshed = ap length saved.same_refreshes ∙ count;
  versions = ap (λ s. map length s.copies) saved.same_sheet ∙ versions;
  within = ap fault_of saved.same_sheet ∙ within;
  usable = saved.usable;
  saved = saved.last;
}
saved_to durables tags turns old new (Err e) count versions within saved = tt

-- or was not
pub save_refused : {D T : Type 0} (durables : List (List Rec)) (tags : List ℕ) (group : ℕ) (b : Book D) (r : Result T Status)
    → IfErr r (IsSaveRefusal group b) → IfErr r (IsBookRefusal durables tags group b)
save_refused durables tags group b (Ok x) refused = tt
save_refused durables tags group b (Err s) refused = OfSave refused
