-- A gate that stands for a history.
use Rattle.std.specs.Prelude.{◌≡◌, List}
use Rattle.trend_model.specs.History as history
use Rattle.exception_test.specs.declared.gate.Gate.{Gate}

-- the gate is where this history of a tag of this origin leaves it: its last value is the last one sent in order
pub record GateStands (o : history.Origin) (gate : Gate) (h : List history.Event) : Type 0 where
  pub last : gate.last ≡ history.last_in_order (history.sent o h)
  pub pending : gate.pending ≡ history.pending o h
