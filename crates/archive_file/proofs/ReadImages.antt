-- What a read of a device gives, what follows for its images, and a device that is synced before it is read.
use Rattle.std.proofs.Common.{◌≡◌, ◌⊎◌, inl, ℕ, ◌+◌, List, Result, sym, subst, arith}
use Rattle.disk_model.specs.{IsNoted, Reaches, Shows, IsShut, IsSettled, MayLeave, Now, During, Synced, Idle, Trace, noted}
use Rattle.disk_model.proofs.Images.{present, synced_now}
use Rattle.disk_model.proofs.Moments.{goes_on, started}

-- ---- what a read gives

-- from two facts
pub shows_both : (o : Trace) (P Q R : List ℕ → Type 0) → ((c : List ℕ) → P c → Q c → R c) → Shows o P → Shows o Q → Shows o R
shows_both o h g i then first second = grind arith

-- bytes written after a gate begin after it
pub shut_reached : (o : Trace) (at : ℕ) → Now o (IsShut at) → Reaches o (at + 1)
shut_reached o at shut = grind (arith, present)

-- what holds of that of a settled device holds of each image
pub shown_now : (o : Trace) (P : List ℕ → Type 0) → Shows o P → IsSettled o → Now o P
shown_now o h is settled = grind arith

-- ---- a sync before it

-- a sync leaves what might have been left before
pub left_synced : {E : Type 0} (P : List ℕ → Type 0) (r : Result (Unit {0}) E) (o mid : Trace) → IsNoted Synced Idle r o mid
    → During o mid (λ c. MayLeave o c ⊎ P c)
left_synced P r o mid is =
    goes_on Synced Idle r o o mid (λ c. MayLeave o c ⊎ P c)
    (started o (λ c. MayLeave o c ⊎ P c) (record { each = λ c may. inl may })) is
    (record { each = λ c may. inl (synced_now r o mid c is may) })

-- a synced device shows what it showed
pub shown_before : (o mid : Trace) (P : List ℕ → Type 0) → mid ≡ noted Synced o → Shows mid P → Shows o P
shown_before o mid h synced is = grind arith

-- the same images until a later device that is the same
pub during_same : (o mid new : Trace) (P : List ℕ → Type 0) → new ≡ mid → During o mid P → During o new P
during_same o mid new P same during = subst (λ x. During o x P) (sym same) during
