pub mod Calls
pub mod Disks
pub mod Gates
pub mod Images
pub mod Logs
pub mod Memory
pub mod Moments
pub mod Stores
pub mod Traces
pub use Calls.{next_count, sum_of_counts, Rose, HasCause, CountsFault, IsTimed, Shows, Sees, HasLength, Reaches, Reads, IsNoted}
pub use Gates.{open_byte, IsOpen, IsNew, IsBegun, IsShut, Holds, IsGuarded, HasGatesOf, AreShut, IsClosing, open_gate, open_gates, closing_calls, layout_calls}
pub use Images.{IsOutside, IsTorn, IsBetween, IsImage, MayLeave, Now, IsSettled, FromOld, IsUntouched, KeepsUntouched}
pub use Logs.{call_of, idles, calls_after, log_first}
pub use Memory.{DiskState, handed_as, picked_bytes, picked_length, picked}
pub use Moments.{WasImageSince, LeftSince, ComesAfter, During}
pub use Stores.{Devices, device_of, empty_trace, trace_at, has_device, named, Puts}
pub use Traces.{DeviceCall, Wrote, WroteInPart, Resized, ResizedInPart, Synced, Idle, Trace, HandOut, FitsName, Device, written, resized, content, seen, noted, moment}
