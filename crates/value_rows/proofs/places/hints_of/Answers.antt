use Rattle.std.proofs.Common.{All, ◌≡◌, replicate, Some, sym, ◌∙◌, subst, rules, arith}
use Rattle.std.proofs.lemmas.List.{length-set}
use Rattle.std.proofs.lemmas.List.Elements.{All-replicate, All-set}
use Rattle.value_rows.specs.{first_place_of, IsHint}
use Rattle.value_rows.proofs.NameMap.{no_hint, place_hint}
use Rattle.value_rows.proofs.places.hints_of.Goals as goal
use Rattle.value_rows.proofs.places.hints_of.Goals.{in-Some, in_default}

pub loop-name-init : goal.loop-name-init
loop-name-init c =
    let names = c.args.names.now in
    let empty : c.in_ok-hints.hints.items ≡ replicate 16384 4294967295 = c.in_ok-hints.ensures in
    record {
      slots = search rules;
      hints = subst (All (IsHint names)) (sym empty)
          (All-replicate (IsHint names) 16384 4294967295 (no_hint names 4294967295 (omega (arith, c.requires.few))));
    }

pub loop-name-preserved : goal.loop-name-preserved
loop-name-preserved c =
    let names = c.args.names.now in
    elim c.match-get.branch [
      | in-Some w ↦
          let place = w.in-Some.place.now in
          let slots = c.loop-name.hints.items in
          let found : first_place_of names c.bytes.result.now ≡ Some place = search rules in
          rw w.hints-is (record {
            slots = length-set slots w.slot_of.result place ∙ c.loop-name.invariant.slots;
            hints = All-set (IsHint names) slots w.slot_of.result place (place_hint names c.bytes.result.now place found)
                c.loop-name.invariant.hints;
          })
      | in_default w ↦ rw w.hints-is c.loop-name.invariant
    ]
