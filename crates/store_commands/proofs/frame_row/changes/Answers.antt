use Rattle.std.proofs.Common.{◌≡◌, pos, get_or, refl}
use Rattle.std.proofs.lemmas.List.{get_or_default}
use Rattle.trend_num.specs.{CalcValue}
use Rattle.trend_num.specs.declared.value.CalcValue.TheVariants.{Num}
use Rattle.store_commands.proofs.Changing.{changes_more, changes_same}
use Rattle.store_commands.proofs.frame_row.changes.Goals.{then-not-is_at+in_ok-push, else-not-is_at}
use Rattle.store_commands.proofs.frame_row.changes.Goals as goal

pub loop-k-preserved : goal.loop-k-preserved
loop-k-preserved c =
    let old = c.args.old.now in
    let new = c.args.new.now in
    let k = c.loop-k.k in
    let v : CalcValue = get_or new k (Num (pos 0)) in
    let here : v ≡ get_or new k v = get_or_default new k (Num (pos 0)) v c.loop-k-test.true in
    elim c.if-not-is_at.branch [
      | then-not-is_at+in_ok-push w ↦ rw w.changes-is (rw w.in_ok-push.ensures.items
          (changes_more old new k c.loop-k.changes.items (record { k = k; value = v }) c.loop-k-test.true refl here c.loop-k.invariant))
      | else-not-is_at w ↦ rw w.changes-is (changes_same old new k c.loop-k.changes.items v c.loop-k-test.true
          (c.is_at.ensures.0 w.if-not-is_at.false) here c.loop-k.invariant)
    ]
