use Rattle.std.proofs.Common.{◌≡◌, get_or, sym, subst, rules, false}
use Rattle.std.proofs.lemmas.List.Elements.{All-more}
use Rattle.std.specs.BTreeMap.{get_by}
use Rattle.std.specs.Cmp.Lexicographic.{slice_cmp}
use Rattle.std.specs.Option.{is_some}
use Rattle.std.specs.Ordering.{nat_cmp}
use Rattle.trend_num.specs.{IsName}
use Rattle.value_rows.proofs.NameMap.{there_already, put_next}
use Rattle.value_rows.proofs.places.map_of.Goals as goal
use Rattle.value_rows.proofs.places.map_of.Goals.{then-not-contains_key+in_ok-insert, else-not-contains_key}

pub loop-i-preserved : goal.loop-i-preserved
loop-i-preserved c =
    let names = c.args.names.now in
    let i = c.loop-i.i in
    let name = c.bytes-name.result.now in
    let here : get_or names i name ≡ name = rw (c.bytes-name.ensures.same) (sym c.index-names-i.is) in
    let so_far = c.loop-i.invariant in
    record {
      places = elim c.if-not-contains_key.branch [
        | then-not-contains_key+in_ok-insert w ↦
            let gone : is_some (get_by (λ k. slice_cmp nat_cmp name k.now) c.loop-i.map) ≡ false = search rules in
            rw w.map-is (put_next c.loop-i.map w.insert.new.self names i name c.loop-i-test.true here so_far.places gone (search rules))
        | else-not-contains_key w ↦ rw w.map-is (there_already c.loop-i.map names i name c.loop-i-test.true here so_far.places (sym w.if-not-contains_key.ensures))
      ];
      named = All-more IsName names i name c.loop-i-test.true so_far.named (subst IsName (sym here) c.bytes-name.ensures.name);
    }
