use Rattle.std.proofs.Common.{◌≡◌, ℕ, List, get_or, ◌+◌, ◌^◌, ◌<◌, [], ◌∷◌, length, length-append, Vec, Err, refl, sym, ◌∙◌, ap, subst, arith}
use Rattle.std.proofs.lemmas.List.Sums.{sum_by_push}
use Rattle.trend_num.specs.{Rec, TagDef}
use Rattle.std.specs.declared.alloc.Global.{Global}
use Rattle.tag_core.specs.Core.{Core}
use Rattle.plant_store.specs.Tags.{tag_records_in}
use Rattle.device_layout.specs.declared.failure.OpenNo.TheVariants.{DeviceFault}
use Rattle.plant_store.specs.TagRefusals.{status_of, IsTooMuch, IsRefusal, CountsStore}
use Rattle.plant_store.proofs.Counts.{counted_since}
use Rattle.plant_files.specs.Reading.{faults_told}
use Rattle.plant_files.proofs.Distinct.{distinct_tags}
use Rattle.plant_store.proofs.OpenedBases.{few_each, no_file_fault}
use Rattle.plant_store.proofs.TagTurns.{IsSoFar, IsTag, begun, next}
use Rattle.plant_store.proofs.TagEndings.{ends_at, of_all, all_opened, all_left, refused_at, told, counted}
use Rattle.plant_store.proofs.base_opening.open_base.Goals as goal

-- the tag whose device is opened is one of the base
tag_of : {tags items : List TagDef} {i : ℕ} {def : TagDef} → items ≡ tags → i < length items → def ≡ get_or items i def
    → IsTag tags i def
tag_of {i = i} {def = def} same there is = subst (λ l. IsTag l i def) same (record { there = there; is = is })

pub returns-in-Err-clause-same : goal.returns-in-Err-clause-same
returns-in-Err-clause-same g c =
    let tag = tag_of c.deref-def-items.ensures.value c.loop-def-test.true c.def-item.is in
    (ends_at c.args.base.now.tags.items c.loop-def.def-index c.def-item.result _ _ _ _ c.loop-def.invariant.so_far tag.there tag.is
    c.open_device.ensures.others c.open_device.ensures.same).0 (distinct_tags _ c.requires.distinct)

pub returns-in-Err-clause-others : goal.returns-in-Err-clause-others
returns-in-Err-clause-others g c =
    let tag = tag_of c.deref-def-items.ensures.value c.loop-def-test.true c.def-item.is in
    (ends_at c.args.base.now.tags.items c.loop-def.def-index c.def-item.result _ _ _ _ c.loop-def.invariant.so_far tag.there tag.is
    c.open_device.ensures.others c.open_device.ensures.same).1

pub returns-in-Err-clause-refused : goal.returns-in-Err-clause-refused
returns-in-Err-clause-refused g c =
    let status : c.status_of.result ≡ status_of c.loop-def.def-index c.in-Err.why = cc in
    let tag = tag_of c.deref-def-items.ensures.value c.loop-def-test.true c.def-item.is in
    let distinct = distinct_tags c.args.base.now.tags.items c.requires.distinct in
    subst (IsRefusal c.args.base.now.tags.items (g.S.Store.device_at c.args.store.now)
    (g.S.Store.device_at c.open_device.new.store)
    (g.S.Store.fault_count c.args.store.now) (g.S.Store.fault_count c.open_device.new.store)) (sym status)
    (told c.args.base.now.tags.items c.loop-def.def-index c.def-item.result _ _ _ c.loop-def.cores.items _ _
    c.in-Err.why c.loop-def.invariant.so_far
    (omega (arith, c.loop-def.invariant.records, c.loop-def.invariant.few)) distinct tag
    (record { others = c.open_device.ensures.others; same = c.open_device.ensures.same })
    (λ small is. (counted_since {U = Core} c.in-Err.why DeviceFault _ _ _ (c.loop-def.invariant.faults small) small c.in-Err.ensures.counts).failed
    (ap Err is)) c.in-Err.ensures.cause)

pub returns-in-Err-clause-counts : goal.returns-in-Err-clause-counts
returns-in-Err-clause-counts g c = λ small.
    let status : c.status_of.result ≡ status_of c.loop-def.def-index c.in-Err.why = cc in
    subst (λ why. CountsStore {T = Vec Core Global} (Err why) (g.S.Store.fault_count c.args.store.now)
    (g.S.Store.fault_count c.open_device.new.store)) (sym status)
    (counted {T = Core} (Vec Core Global) c.loop-def.def-index _ _ c.in-Err.why
    (counted_since c.in-Err.why DeviceFault _ _ _ (c.loop-def.invariant.faults small) small c.in-Err.ensures.counts))

pub returns-then-records-gt-MAX_STORE_RECORDS-clause-same :
    goal.returns-then-records-gt-MAX_STORE_RECORDS-clause-same
returns-then-records-gt-MAX_STORE_RECORDS-clause-same g c =
    let tag = tag_of c.deref-def-items.ensures.value c.loop-def-test.true c.def-item.is in
    (ends_at c.args.base.now.tags.items c.loop-def.def-index c.def-item.result _ _ _ _ c.loop-def.invariant.so_far tag.there tag.is
    c.open_device.ensures.others c.open_device.ensures.same).0 (distinct_tags _ c.requires.distinct)

pub returns-then-records-gt-MAX_STORE_RECORDS-clause-others :
    goal.returns-then-records-gt-MAX_STORE_RECORDS-clause-others
returns-then-records-gt-MAX_STORE_RECORDS-clause-others g c =
    let tag = tag_of c.deref-def-items.ensures.value c.loop-def-test.true c.def-item.is in
    (ends_at c.args.base.now.tags.items c.loop-def.def-index c.def-item.result _ _ _ _ c.loop-def.invariant.so_far tag.there tag.is
    c.open_device.ensures.others c.open_device.ensures.same).1

pub returns-then-records-gt-MAX_STORE_RECORDS-clause-refused :
    goal.returns-then-records-gt-MAX_STORE_RECORDS-clause-refused
returns-then-records-gt-MAX_STORE_RECORDS-clause-refused g c =
    let tag = tag_of c.deref-def-items.ensures.value c.loop-def-test.true c.def-item.is in
    let distinct = distinct_tags c.args.base.now.tags.items c.requires.distinct in
    subst (IsRefusal c.args.base.now.tags.items (g.S.Store.device_at c.args.store.now)
    (g.S.Store.device_at c.open_device.new.store)
    (g.S.Store.fault_count c.args.store.now) (g.S.Store.fault_count c.open_device.new.store))
    (sym c.too_many.ensures) (
      c.loop-def.def-index,
      refused_at c.args.base.now.tags.items c.loop-def.def-index c.def-item.result _ _ _ c.loop-def.cores.items
          (IsTooMuch _) c.loop-def.invariant.so_far
          (omega (arith, c.loop-def.invariant.records, c.loop-def.invariant.few)) distinct tag
          (record { others = c.open_device.ensures.others; same = c.open_device.ensures.same })
          (record {
            core = c.in-Ok.core;
            opened = c.in-Ok.ensures.opened;
            number_is = omega (arith, c.loop-def.invariant.records, ap (length {A = Rec}) c.recs.ensures.value);
            many = c.if-records-gt-MAX_STORE_RECORDS.true;
          }),
    )

pub returns-in_default-clause-same : goal.returns-in_default-clause-same
returns-in_default-clause-same g c =
    let tag = tag_of c.deref-def-items.ensures.value c.loop-def-test.true c.def-item.is in
    (ends_at c.args.base.now.tags.items c.loop-def.def-index c.def-item.result _ _ _ _ c.loop-def.invariant.so_far tag.there tag.is
    c.open_device.ensures.others c.open_device.ensures.same).0 (distinct_tags _ c.requires.distinct)

pub returns-in_default-clause-others : goal.returns-in_default-clause-others
returns-in_default-clause-others g c =
    let tag = tag_of c.deref-def-items.ensures.value c.loop-def-test.true c.def-item.is in
    (ends_at c.args.base.now.tags.items c.loop-def.def-index c.def-item.result _ _ _ _ c.loop-def.invariant.so_far tag.there tag.is
    c.open_device.ensures.others c.open_device.ensures.same).1

pub loop-def-init : goal.loop-def-init
loop-def-init g c = record {
  so_far = subst (IsSoFar c.args.base.now.tags.items 0 (g.S.Store.device_at c.args.store.now)
      (g.S.Store.device_at c.args.store.now))
      (sym c.new-cores.ensures.items) (begun c.args.base.now.tags.items (g.S.Store.device_at c.args.store.now));
  count = ap (length {A = Core}) c.new-cores.ensures.items;
  records = sym (ap tag_records_in c.new-cores.ensures.items);
  few = omega arith;
  faults = λ small. refl;
}

pub loop-def-preserved : goal.loop-def-preserved
loop-def-preserved g c =
    let tag = tag_of c.deref-def-items.ensures.value c.loop-def-test.true c.def-item.is in
    record {
      so_far = subst (IsSoFar c.args.base.now.tags.items (c.loop-def.def-index + 1) (g.S.Store.device_at c.args.store.now)
          (g.S.Store.device_at c.open_device.new.store)) (sym c.in-Ok-push.ensures.items)
          (next c.args.base.now.tags.items c.loop-def.def-index c.def-item.result _ _ _ c.loop-def.cores.items c.in-Ok.core
          c.loop-def.invariant.so_far tag
          (record { others = c.open_device.ensures.others; same = c.open_device.ensures.same })
          c.in-Ok.ensures.opened c.in-Ok.ensures.left);
      count = omega (
        arith,
        ap (length {A = Core}) c.in-Ok-push.ensures.items,
        length-append c.loop-def.cores.items (c.in-Ok.core ∷ []),
        c.loop-def.invariant.count,
      );
      records = omega (
        arith,
        ap tag_records_in c.in-Ok-push.ensures.items,
        ap (length {A = Rec}) c.recs.ensures.value,
        sum_by_push (λ (core : Core). length core.state.records) c.loop-def.cores.items c.in-Ok.core,
        c.loop-def.invariant.records,
      );
      few = omega (arith, c.if-records-gt-MAX_STORE_RECORDS.false);
      faults = λ small.
          let so_far = c.loop-def.invariant.faults small in
          (c.in-Ok.ensures.counts (subst (λ n. n < 2 ^ 64) (sym so_far) small)).passed ∙ so_far;
    }

pub returns-in-Err-clause-no_file_fault : goal.returns-in-Err-clause-no_file_fault
returns-in-Err-clause-no_file_fault g c = λ n. subst (λ why. faults_told why n ≡ n) (sym c.status_of.ensures) (no_file_fault _ c.in-Err.why n)

pub returns-clause-opened : goal.returns-clause-opened
returns-clause-opened g c = all_opened c.args.base.now.tags.items c.loop-def.def-index
    (g.S.Store.device_at c.args.store.now) c.loop-def.cores.items (omega (arith, c.loop-def-test.false, ap (length {A = TagDef}) c.deref-def-items.ensures.value))
    (c.loop-def.invariant.so_far.opened (distinct_tags _ c.requires.distinct))

pub returns-clause-left : goal.returns-clause-left
returns-clause-left g c = all_left c.args.base.now.tags.items c.loop-def.def-index
    (g.S.Store.device_at c.args.store.now) (g.S.Store.device_at c.loop-def.store) c.loop-def.cores.items
    (omega (arith, c.loop-def-test.false, ap (length {A = TagDef}) c.deref-def-items.ensures.value)) (c.loop-def.invariant.so_far.left (distinct_tags _ c.requires.distinct))

pub returns-clause-short : goal.returns-clause-short
returns-clause-short g c = few_each c.loop-def.cores.items (omega (arith, c.loop-def.invariant.records, c.loop-def.invariant.few))

pub returns-clause-same : goal.returns-clause-same
returns-clause-same g c = c.loop-def.invariant.so_far.same (distinct_tags _ c.requires.distinct)

pub returns-clause-others : goal.returns-clause-others
returns-clause-others g c = of_all c.args.base.now.tags.items c.loop-def.def-index _ _ c.loop-def.invariant.so_far.others
