-- A window: what is read of bytes, from the first one on.
use Rattle.std.specs.Prelude.{◌≡◌, ℕ, ◌+◌, ◌^◌, ◌<◌, ◌≤◌, List, [], ◌∷◌, take}
use Rattle.archive_file.specs.declared.layout_field.Field.{Field}
use Rattle.archive_file.specs.declared.window.Window.{Window}

-- a window shows as many of these bytes as were asked for, or all that there are
pub record IsWindow (c : List ℕ) (w : Window) : Type 0 where
  pub shown : w.bytes.items ≡ take w.asked c
  pub fits : w.asked < 2 ^ 64

-- a field with some bytes, which are among the first n
pub record IsAsked (n : ℕ) (f : Field) : Type 0 where
  pub some : 0 < f.size
  pub ends : f.place + f.size ≤ n

-- fields with some bytes, which are all among the first n
abbrev pub AreAsked : ℕ → List Field → Type 0
AreAsked n [] = Unit {0}
AreAsked n (f ∷ fs) = IsAsked n f × AreAsked n fs
