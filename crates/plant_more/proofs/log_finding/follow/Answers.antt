use Rattle.std.proofs.Common.{◌≡◌, None, Some, refl, sym, ap, ◌∙◌, arith, rules}
use Rattle.plant_more.proofs.LogRows.{next_is, same_seen, told_of}
use Rattle.plant_more.proofs.log_finding.follow.Goals as goal

pub overflow_add-next : goal.overflow_add-next
overflow_add-next c =
    omega (arith, c.in-Some.ensures.within, c.deref.ensures.len, c.index-files-collector.result.ok, c.index-files-collector.result.small)

pub returns-else-ne-clause-followed : goal.returns-else-ne-clause-followed
returns-else-ne-clause-followed c =
    let same : c.in-Some.due ≡ c.args.row = search rules in
    record {
      there = omega (arith, c.if-collector-files.false, c.requires.as_many);
      due = next_is c.args.files.now c.args.row.collector _ c.index-files-collector.result c.deref.result.now (Some c.in-Some.due)
          (omega arith) c.index-files-collector.is c.deref.ensures.value c.in-Some.ensures.row ∙ ap Some same;
      changed = refl;
    }

pub returns-then-ne-clause-told : goal.returns-then-ne-clause-told
returns-then-ne-clause-told c =
    let differ : c.in-Some.due ≡ c.args.row → ⊥ = search rules in
    record {
      told_is = c.seen_of.ensures ∙ sym (told_of (next_is c.args.files.now c.args.row.collector _ c.index-files-collector.result
          c.deref.result.now (Some c.in-Some.due) (omega arith) c.index-files-collector.is c.deref.ensures.value c.in-Some.ensures.row));
      differ = λ is. differ (sym (same_seen c.args.row c.in-Some.due (is ∙ c.seen_of.ensures)));
    }

pub returns-in-None-clause-told : goal.returns-in-None-clause-told
returns-in-None-clause-told c = record {
  told_is = sym (told_of (next_is c.args.files.now c.args.row.collector _ c.index-files-collector.result c.deref.result.now None
      (omega arith) c.index-files-collector.is c.deref.ensures.value c.in-None.ensures.row));
  differ = λ is. cc is;
}
