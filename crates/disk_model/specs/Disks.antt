-- What a device in memory keeps true of its log.
use Rattle.std.specs.Prelude.{◌≡◌, ℕ, List, length, Option, None, Some, String, string_bytes}
use Rattle.std.specs.declared.alloc.Global.{Global}
use Rattle.disk_model.specs.declared.memory_log.CallLog.{CallLog}
use Rattle.disk_model.specs.Traces.{content}
use Rattle.disk_model.specs.Logs.{log_first, log_calls}

-- the bytes of the name that it has, if it has one
abbrev pub name_of : Option (String Global) → Option (List ℕ)
name_of None = None
name_of (Some name) = Some (string_bytes name)

-- what it holds is what a read returns after its calls, and the clock counts them
pub record IsKept (log : CallLog) (clock : ℕ) : Type 0 where
  pub held : log.content.items ≡ content (log_first log) (log_calls log)
  pub counted : length (log_calls log) ≡ clock
