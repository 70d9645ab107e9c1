-- How a proof sees the log of a device in memory.
use Rattle.std.specs.Prelude.{ℕ, Bool, true, false, List, [], ◌∷◌, ◌++◌, replicate, Option, None, Some, Vec}
use Rattle.std.specs.declared.alloc.Global.{Global}
use Rattle.disk_model.specs.declared.memory_log.Call.{Call}
use Rattle.disk_model.specs.declared.memory_log.Call.TheVariants.{Write, Resize, Sync}
use Rattle.disk_model.specs.declared.memory_log.Note.{Note}
use Rattle.disk_model.specs.declared.memory_log.CallLog.{CallLog}
use Rattle.disk_model.specs.Traces.{DeviceCall, Wrote, WroteInPart, Resized, ResizedInPart, Synced, Idle}

-- a write, which was done whole or not
abbrev pub write_call : Bool → ℕ → List ℕ → DeviceCall
write_call true at bytes = Wrote at bytes
write_call false at bytes = WroteInPart at bytes

-- a change of the length, which was done whole or not
abbrev pub resize_call : Bool → ℕ → DeviceCall
resize_call true len = Resized len
resize_call false len = ResizedInPart len

-- the call of the model that a noted call stands for
abbrev pub call_of : Call → DeviceCall
call_of (Write at bytes whole) = write_call whole at bytes.items
call_of (Resize len whole) = resize_call whole len
call_of Sync = Synced

-- so many idle calls after these
abbrev pub idles : ℕ → List DeviceCall → List DeviceCall
idles n es = replicate n Idle ++ es

-- the notes, the oldest first, after these calls
abbrev pub calls_after : List DeviceCall → List Note → List DeviceCall
calls_after es [] = es
calls_after es (n ∷ ns) = calls_after (call_of n.call ∷ idles n.idle es) ns

-- the first bytes, which are kept apart once they may have changed
abbrev pub first_of : Option (Vec ℕ Global) → List ℕ → List ℕ
first_of None content = content
first_of (Some v) content = v.items

-- what the device held at first
abbrev pub log_first : CallLog → List ℕ
log_first log = first_of log.base log.content.items

-- the calls so far, the newest first
abbrev pub log_calls : CallLog → List DeviceCall
log_calls log = idles log.idle (calls_after [] log.notes.items)
