-- A device, as the bytes that it held at first and the calls on it since.
use Rattle.std.specs.Prelude.{◌≡◌, IfSome, ℕ, ◌+◌, ◌-◌, List, [], ◌∷◌, ◌++◌, length, take, drop, replicate, Option}

-- a call that may change what a crash leaves. A call in part answered that it failed, and may have done some of its
-- work. An idle call did nothing
pub data DeviceCall : Type 0 where
  Wrote : (at : ℕ) (bytes : List ℕ) → DeviceCall
  WroteInPart : (at : ℕ) (bytes : List ℕ) → DeviceCall
  Resized : (len : ℕ) → DeviceCall
  ResizedInPart : (len : ℕ) → DeviceCall
  Synced : DeviceCall
  Idle : DeviceCall

-- the first bytes, and the calls since, the newest first
pub record Trace : Type 0 where
  pub first : List ℕ
  pub calls : List DeviceCall

-- how a store handed a device out: its name there, or none if no store did; and what the device was then, if that is
-- recorded
pub record HandOut : Type 0 where
  pub name : Option (List ℕ)
  pub trace : Option Trace

-- the device may be kept under this name: a store handed it out under it, or no store handed it out
abbrev pub FitsName : List ℕ → HandOut → Type 0
FitsName name h = IfSome h.name (λ n. n ≡ name)

-- a device, as a proof sees it: how it was handed out, what it held at first and the calls since, and how often a call
-- has failed
pub record Device : Type 0 where
  pub handed : HandOut
  pub trace : Trace
  pub faults : ℕ

-- the bytes with others written over them and past their end
abbrev pub written : List ℕ → ℕ → List ℕ → List ℕ
written old at bytes = take at old ++ (bytes ++ drop (at + length bytes) old)

-- the bytes cut to a length, or filled up to it with zeros
abbrev pub resized : List ℕ → ℕ → List ℕ
resized old len = take len old ++ replicate (len - length old) 0

-- what a read returns
abbrev pub content : List ℕ → List DeviceCall → List ℕ
content first [] = first
content first (Wrote at bytes ∷ es) = written (content first es) at bytes
content first (WroteInPart at bytes ∷ es) = content first es
content first (Resized len ∷ es) = resized (content first es) len
content first (ResizedInPart len ∷ es) = content first es
content first (Synced ∷ es) = content first es
content first (Idle ∷ es) = content first es

-- what a read returns of the device
abbrev pub seen : Trace → List ℕ
seen t = content t.first t.calls

-- one call more
abbrev pub noted : DeviceCall → Trace → Trace
noted e t = record { first = t.first; calls = e ∷ t.calls }

-- how many calls there were
abbrev pub moment : Trace → ℕ
moment t = length t.calls
