-- What is so of the shifts that words ask for is so of the words.
use Rattle.std.proofs.Common.{◌≡◌, Option, subst}
use Rattle.plant_status.specs.declared.status.Status.{Status}
use Rattle.plant_files.specs.{ToldFiles}
use Rattle.plant_store.specs.Groups.{DeviceTraces}
use Rattle.plant_more.specs.{EndsOfShifts, KeepsForShifts, Scene, AskedShifts}

module _ (asked words : Option AskedShifts) (same : asked ≡ words) where
  pub ends_of : (before now : Scene) (status : Status) → EndsOfShifts asked before now status → EndsOfShifts words before now status
  ends_of before now status is = subst (λ (o : Option AskedShifts). EndsOfShifts o before now status) same is

  pub keeps_for : (files : ToldFiles) (old new : DeviceTraces) → KeepsForShifts asked files old new → KeepsForShifts words files old new
  keeps_for files old new is = subst (λ (o : Option AskedShifts). KeepsForShifts o files old new) same is
