use Rattle.std.proofs.Common.{◌≡◌, ◌+◌, Bool, true, false, List, ◌++◌, All, get_or, take, set, subst, sym, ap, ◌∙◌, refl, arith}
use Rattle.std.specs.Prelude.{◌||◌, Vec}
use Rattle.std.specs.declared.alloc.Global.{Global}
use Rattle.std.proofs.lemmas.List.{get_or-set_other, take_all as take_whole}
use Rattle.trend_num.specs.{Rec, InRange}
use Rattle.sheet_law.specs.{window_from, window_to, any_touched, is_touched, longer}
use Rattle.calc_refresh.specs.{lists_of, is_marked, IsCopy}
use Rattle.calc_refresh.proofs.Inputs.{any_touched-nil, any_touched_more, each_at, ended_at, ended_set, lists_set, longer-nil, longer_more, read_at, read_set}
use Rattle.calc_refresh.proofs.Turns.{or_more}
use Rattle.calc_refresh.proofs.taking.take_all.Goals as goal

pub take_records-requires-clause-range : goal.take_records-requires-clause-range
take_records-requires-clause-range c =
    let here = each_at IsCopy c.args.deltas.now c.loop-i.i c.index-deltas-i.result c.loop-i-test.true c.requires.range in
    subst (λ (l : List Rec). All (λ r. InRange r.point) l)
    (ap (λ (v : Vec Rec Global). v.items) (sym c.index-deltas-i.is) ∙ sym c.deref.ensures.value) here.range

pub take_records-requires-clause-copied : goal.take_records-requires-clause-copied
take_records-requires-clause-copied c =
    let same = c.loop-i.invariant.copies_rest c.loop-i.i c.index-copies-i.result (omega arith) in
    let here = each_at IsCopy c.args.copies.now c.loop-i.i c.index-copies-i.result (omega (arith, c.loop-i-test.true, c.requires.inputs)) c.requires.copied in
    subst (λ (v : Vec Rec Global). All (λ r. InRange r.point) v.items) (sym same) here.range

pub take_records-requires-clause-content : goal.take_records-requires-clause-content
take_records-requires-clause-content c =
    read_at c.loop-i.contents c.loop-i.copies c.loop-i.i c.index-contents-i.result c.index-copies-i.result
    (omega (arith, c.loop-i-test.true, c.requires.inputs, c.loop-i.auto.copies)) c.loop-i.invariant.read

pub take_records-requires-clause-end : goal.take_records-requires-clause-end
take_records-requires-clause-end c =
    ended_at c.loop-i.ends c.loop-i.copies c.loop-i.i c.index-copies-i.result
    (omega (arith, c.loop-i-test.true, c.requires.inputs, c.loop-i.auto.copies)) c.loop-i.invariant.ended

pub loop-i-init : goal.loop-i-init
loop-i-init c = record {
  copied = sym (longer-nil (lists_of c.args.copies.now));
  read = c.requires.contents;
  ended = c.requires.ends;
  copies_rest = λ k d after. refl;
  contents_rest = λ k d after. refl;
  marked = λ k within.
      last (is_marked c.args.marks.now k)
      ∙ ap (λ b. is_marked c.args.marks.now k || b)
      (sym (any_touched-nil (lists_of c.args.copies.now) (window_from c.args.grid k) (window_to c.args.grid k)));
}
  where
    last : (b : Bool) → b ≡ (b || false)
    last true = refl
    last false = refl

pub loop-i-preserved : goal.loop-i-preserved
loop-i-preserved c =
    let i = c.loop-i.i in
    let was = c.loop-i.invariant in
    let vs0 = c.args.copies.now in
    let ds = c.args.deltas.now in
    let v = c.index-copies-i.result in
    let d = c.index-deltas-i.result in
    let within = c.loop-i-test.true in
    let same = c.requires.inputs in
    let here : get_or c.loop-i.copies i v ≡ get_or vs0 i v = was.copies_rest i v (omega arith) in
    let delta : c.deref.result.now ≡ (get_or ds i d).items =
    c.deref.ensures.value ∙ ap (λ (w : Vec Rec Global). w.items) (c.index-deltas-i.is) in
    let taken : c.take_records.new.copy.items ≡ (get_or vs0 i v).items ++ (get_or ds i d).items =
    c.take_records.ensures.copy
    ∙ (ap (λ (w : Vec Rec Global). w.items ++ c.deref.result.now) here ∙ ap (λ l. (get_or vs0 i v).items ++ l) delta) in
    record {
      copied = lists_set c.loop-i.copies i c.take_records.new.copy
          ∙ (ap (λ l. set l i c.take_records.new.copy.items) was.copied
          ∙ (ap (set (longer (lists_of vs0) (lists_of (take i ds))) i) taken
          ∙ sym (longer_more vs0 ds i v d within same)));
      read = read_set c.loop-i.contents c.loop-i.copies i c.take_records.new.content c.take_records.new.copy was.read
          c.take_records.ensures.content;
      ended = ended_set c.loop-i.ends c.loop-i.copies i c.take_records.result c.take_records.new.copy was.ended
          c.take_records.ensures.end;
      copies_rest = λ k e after.
          get_or-set_other c.loop-i.copies i k c.take_records.new.copy e (λ h. absurd (omega arith))
          ∙ was.copies_rest k e (omega arith);
      contents_rest = λ k e after.
          get_or-set_other c.loop-i.contents i k c.take_records.new.content e (λ h. absurd (omega arith))
          ∙ was.contents_rest k e (omega arith);
      marked = λ k inside.
          let from = window_from c.args.grid k in
          let to = window_to c.args.grid k in
          or_more (is_marked c.loop-i.marks k) (is_marked c.args.marks.now k)
          (any_touched (lists_of vs0) (lists_of (take i ds)) from to)
          (is_touched (get_or vs0 i v).items (get_or ds i d).items from to)
          (any_touched (lists_of vs0) (lists_of (take (i + 1) ds)) from to)
          (is_marked c.take_records.new.marks k)
          (c.take_records.ensures.marks k (omega arith)
          ∙ (ap (λ (w : Vec Rec Global). is_marked c.loop-i.marks k || is_touched w.items c.deref.result.now from to) here
          ∙ ap (λ l. is_marked c.loop-i.marks k || is_touched (get_or vs0 i v).items l from to) delta))
          (was.marked k (omega arith))
          (any_touched_more vs0 ds i from to v d within same);
    }

pub returns : goal.returns
returns c =
    let was = c.loop-i.invariant in
    let ds = c.args.deltas.now in
    let whole : take c.loop-i.i ds ≡ ds = take_whole c.loop-i.i ds (omega arith) in
    record {
      copies = was.copied ∙ ap (λ l. longer (lists_of c.args.copies.now) (lists_of l)) whole;
      contents = was.read;
      ends = was.ended;
      marks = λ k within.
          was.marked k (omega arith)
          ∙ ap (λ l. is_marked c.args.marks.now k
          || any_touched (lists_of c.args.copies.now) (lists_of l) (window_from c.args.grid k) (window_to c.args.grid k)) whole;
    }
