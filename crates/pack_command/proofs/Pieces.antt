-- Lemmas on what was read of an input, a piece at a time.
use Rattle.std.proofs.Common.{◌≡◌, ℕ, ◌+◌, ◌≤◌, true, List, ◌++◌, length, take, take-add, nat_lt, arith, ◌∙◌, length-append}
use Rattle.std.proofs.KnownBytes.{Consumes-trans}
use Rattle.std.proofs.lemmas.Bool.Decides.{nat_tests}
use Rattle.std.proofs.lemmas.List.{drop_at, length-take-le, take_at, take-append-le}
use Rattle.std.specs.Io.KnownBytes.{IsAtEnd}
use Rattle.trend_num.specs.declared.refusal.What.TheVariants.{FileBytes}
use Rattle.trend_num.specs.{Tuning}
use Rattle.trend_model.specs.{Origin}
use Rattle.tag_core.specs.Core.{Core}
use Rattle.byte_io.specs.Outside.{Outside, CountsNoFault, Takes}
use Rattle.plant_status.specs.declared.status.Status.TheVariants.{Limit}
use Rattle.pack_command.specs.{IsPackRefusal, most_input_bytes, AreTakenFrom, HasCome, IsReadAfter, Standing}
use Rattle.pack_command.proofs.Coming.{come_more}

-- a piece more was taken
pub taken_piece : (before at now : Outside) (bytes old new : List ℕ) (total begun n : ℕ) → AreTakenFrom before at bytes total
    → (read : IsReadAfter at now begun n old new) → AreTakenFrom before now (bytes ++ read.piece) (total + n)
taken_piece before at now bytes old new total begun n taken read = record {
  taken = Consumes-trans before.content at.content now.content bytes read.piece taken.taken read.taken;
  no_fault = read.no_fault ∙ taken.no_fault;
  counted = omega (arith, length-append bytes read.piece, taken.counted, read.counted);
}

-- and has come to this
pub come_piece : (o : Origin) (at now : Outside) (bytes old new : List ℕ) (begun n : ℕ) (core : Core) (rows : ℕ) (standing : Standing)
    → (read : IsReadAfter at now begun n old new) → HasCome true o bytes (take begun old) core rows standing
    → HasCome true o (bytes ++ read.piece) (take (begun + n) new) core rows standing
come_piece o at now bytes old new begun n core rows standing read come = grind (arith, come_more)

-- what a read into the middle of a buffer gave
pub read_is : (before now : Outside) (begun n : ℕ) (old buf post : List ℕ) → Takes before now (take n buf) → (n ≡ 0 → IsAtEnd now.content)
    → CountsNoFault before now → n ≤ length buf → begun ≤ length old → IsReadAfter before now begun n old (take begun old ++ (buf ++ post))
read_is before now begun n old buf post taken ended no_fault bound within =
    grind (arith, length-take-le, take-add, take_at, drop_at, take-append-le)

above : (n : ℕ) → n ≡ most_input_bytes + 1 → nat_lt most_input_bytes n ≡ true
above n is = grind (arith, nat_tests)

-- one byte too many came
pub long_refused : (tuning : Tuning) (before now : Outside) (bytes : List ℕ) (count : ℕ) → AreTakenFrom before now bytes count
    → count ≡ most_input_bytes + 1 → IsPackRefusal tuning before now (Limit FileBytes (most_input_bytes + 1))
long_refused tuning before now bytes count taken is = grind (arith, above)
