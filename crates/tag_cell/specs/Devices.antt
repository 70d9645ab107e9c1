-- The devices of tags.
use Rattle.std.specs.Prelude.{ℕ, List, ◌++◌, codes}

-- the name of a tag's device
abbrev pub device_name : List ℕ → List ℕ
device_name name = name ++ codes ".tag"
