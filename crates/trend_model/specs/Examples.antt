-- Small histories.
use Rattle.std.specs.Prelude.{ℕ, ℤ, pos, negsuc, true, false, List, [], ◌∷◌, map}
use Rattle.trend_num.specs.{Point, Rec, Tuning}
use Rattle.trend_model.specs.History.{Event, Raw, Tune, Origin}
use Rattle.trend_model.specs.Walk.{kept, late}

-- a point by its time and its value
abbrev pub at : ℕ → ℤ → Point
at t v = record { t = t; v = v }

-- a tuning by ExcDev, CompDev, CompMin and CompMax; ExcMax is a million
abbrev pub tuned : ℕ → ℕ → ℕ → ℕ → Tuning
tuned exc_dev comp_dev comp_min comp_max =
    record { exc_dev = exc_dev; exc_max = 1000000; comp_dev = comp_dev; comp_min = comp_min; comp_max = comp_max }

-- a tag of lines, and a step tag
abbrev pub lines : Tuning → Origin
lines u = record { tuning = u; step = false }

abbrev pub stairs : Tuning → Origin
stairs u = record { tuning = u; step = true }

-- CompDev 1: (0,0) (1,0) (2,3) (3,0)
abbrev pub steep : List Event
steep = map Raw (at 3 (pos 0) ∷ at 2 (pos 3) ∷ at 1 (pos 0) ∷ at 0 (pos 0) ∷ [])

-- CompDev 1: (0,0) (10,1) (20,0), where the deviation is exactly 1
abbrev pub shallow : List Event
shallow = map Raw (at 20 (pos 0) ∷ at 10 (pos 1) ∷ at 0 (pos 0) ∷ [])

-- ExcDev 2: (0,0) (1,2) (2,-2) (3,10), where the raw (1,2) is 3 from the line
abbrev pub wide : List Event
wide = map Raw (at 3 (pos 10) ∷ at 2 (negsuc 1) ∷ at 1 (pos 2) ∷ at 0 (pos 0) ∷ [])

-- CompMin 5: (0,0) (1,10) (2,0), where (1,10) is passed over
abbrev pub spiked : List Event
spiked = map Raw (at 2 (pos 0) ∷ at 1 (pos 10) ∷ at 0 (pos 0) ∷ [])

-- CompMax 10: (0,0) (6,6) (12,12)
abbrev pub long : List Event
long = map Raw (at 12 (pos 12) ∷ at 6 (pos 6) ∷ at 0 (pos 0) ∷ [])

-- ExcDev 5: (0,0) (20,1) (15,9), the last of which is late
abbrev pub overtaken : List Event
overtaken = map Raw (at 15 (pos 9) ∷ at 20 (pos 1) ∷ at 0 (pos 0) ∷ [])

-- (0,0) (10,10) (20,20), then CompDev 5 in place of 0, then (30,33) (40,40)
abbrev pub loosened : List Event
loosened = Raw (at 40 (pos 40)) ∷ Raw (at 30 (pos 33)) ∷ Tune (tuned 0 5 0 1000000)
    ∷ Raw (at 20 (pos 20)) ∷ Raw (at 10 (pos 10)) ∷ Raw (at 0 (pos 0)) ∷ []

-- ExcDev 5: (0,0) (10,1), then ExcDev 0, which sends the pending value
abbrev pub tightened : List Event
tightened = Tune (tuned 0 0 0 1000000) ∷ Raw (at 10 (pos 1)) ∷ Raw (at 0 (pos 0)) ∷ []

-- CompDev 5: (0,0) (10,3) (20,0), then CompDev 0
abbrev pub sharpened : List Event
sharpened = Tune (tuned 0 0 0 1000000) ∷ map Raw (at 20 (pos 0) ∷ at 10 (pos 3) ∷ at 0 (pos 0) ∷ [])

-- ExcDev 5: a late value before and after a retuning to ExcDev 0
abbrev pub late_about : List Event
late_about = Raw (at 30 (pos 1)) ∷ Raw (at 10 (pos 4)) ∷ Tune (tuned 0 0 0 1000000)
    ∷ Raw (at 15 (pos 9)) ∷ Raw (at 20 (pos 1)) ∷ Raw (at 0 (pos 0)) ∷ []

-- a step tag, CompDev 2: (0,10) (10,11) (20,15) (30,14)
abbrev pub climbing : List Event
climbing = map Raw (at 30 (pos 14) ∷ at 20 (pos 15) ∷ at 10 (pos 11) ∷ at 0 (pos 10) ∷ [])

-- a step tag, CompDev 2, CompMin 15: (0,10) (10,20) (20,21), where (10,20) is passed over
abbrev pub hasty : List Event
hasty = map Raw (at 20 (pos 21) ∷ at 10 (pos 20) ∷ at 0 (pos 10) ∷ [])

-- a kept point and a late one at one time, and two late ones at another
abbrev pub doubled : List Rec
doubled = kept (at 0 (pos 0)) ∷ late (at 0 (pos 4)) ∷ late (at 5 (pos 1)) ∷ late (at 5 (pos 2)) ∷ kept (at 10 (pos 8)) ∷ []

-- what another compressor keeps of the steep history. It ends a span only after its doors have opened past parallel,
-- and then keeps the value before without a test
abbrev pub untested : List Rec
untested = kept (at 0 (pos 0)) ∷ kept (at 2 (pos 3)) ∷ []
