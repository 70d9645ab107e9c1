-- What holds of an answer holds of what is printed.
use Rattle.std.proofs.Common.{◌≡◌, ℕ, List, Option, None, Some, Result, Ok, Err, IfErr, IfOk, String, Global, refl, string_bytes}
use Rattle.plant_status.specs.declared.status.Status.{Status}
use Rattle.plant_status.specs.declared.status.Status.TheVariants.{Done, WriteFault}
use Rattle.session_report.specs.{Session}
use Rattle.run_command.proofs.Understood.{drill_no_done, drill_no_fault, held_no_done, held_no_fault, unheld_no_done, unheld_no_fault}
use Rattle.plant_run.specs.{World, IsDrillEnd, IsRunEnd}

module _ (P : Result (String Global) Status → Type 0) where
  pub of_text : (answer : Result (String Global) Status) → P answer
      → IfOk answer (λ t. (report : String Global) × (string_bytes t ≡ string_bytes report) × P (Ok report))
  of_text (Ok text) p = (text, refl, p)
  of_text (Err why) p = tt

  pub of_refusal : (answer : Result (String Global) Status) → P answer → IfErr answer (λ why. P (Err why))
  of_refusal (Ok text) p = tt
  of_refusal (Err why) p = p

-- no refusal of a run is a status that only the printing gives
module _ (base plan : List ℕ) (before now : World) (stops_before stops_now : ℕ) where
  pub run_no_done : (session : Option Session) → IsRunEnd base plan before now stops_before stops_now session (Err Done) → ⊥
  run_no_done None is = unheld_no_done base plan before.scene.files before.scene.devices now.scene.devices before.scene.device_faults
      now.scene.device_faults (is.unheld refl)
  run_no_done (Some s) is = held_no_done _ _ _ _ _ _ _ _ s is.promised.cause

  pub run_no_fault : (session : Option Session) → IsRunEnd base plan before now stops_before stops_now session (Err WriteFault) → ⊥
  run_no_fault None is = unheld_no_fault base plan before.scene.files before.scene.devices now.scene.devices before.scene.device_faults
      now.scene.device_faults (is.unheld refl)
  run_no_fault (Some s) is = held_no_fault _ _ _ _ _ _ _ _ s is.promised.cause

-- nor is one of a drill
module _ (number tags events stops_before stops_now : ℕ) where
  pub end_no_done : (session : Option Session) → IsDrillEnd number tags events stops_before stops_now session (Err Done) → ⊥
  end_no_done None is = cc (is.unheld refl)
  end_no_done (Some s) is = drill_no_done number tags events is.drilled.base is.drilled.first is.drilled.second s is.drilled.cause

  pub end_no_fault : (session : Option Session) → IsDrillEnd number tags events stops_before stops_now session (Err WriteFault) → ⊥
  end_no_fault None is = cc (is.unheld refl)
  end_no_fault (Some s) is = drill_no_fault number tags events is.drilled.base is.drilled.first is.drilled.second s is.drilled.cause
