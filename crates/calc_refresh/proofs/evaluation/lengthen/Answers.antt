use Rattle.std.proofs.Common.{◌≡◌, ◌-◌, ◌<◌, ◌≤◌, inl, inr, true, ◌++◌, length, get_or, take, replicate, set, subst, pos, sym, ap, ◌∙◌, arith}
use Rattle.std.specs.Prelude.{is_ok, slice_get, vec_len, Vec, if◌then◌else◌}
use Rattle.std.specs.declared.alloc.Global.{Global}
use Rattle.std.proofs.lemmas.Bool.{cases_eq}
use Rattle.std.proofs.lemmas.List.{get_or-set_other, get_or-set_same}
use Rattle.trend_num.specs.{CalcValue}
use Rattle.trend_num.specs.declared.value.CalcValue.TheVariants.{Num}
use Rattle.calc_refresh.proofs.Columns.{column_kept, get-longer}
use Rattle.calc_refresh.proofs.evaluation.lengthen.Goals as goal

pub loop-i-preserved : goal.loop-i-preserved
loop-i-preserved c =
    let i = c.loop-i.i in
    let rows = c.loop-i.rows in
    let was = c.loop-i.invariant in
    let v = c.index-rows-i.result in
    let old = get_or rows i v in
    let within : i < length rows = omega (arith, c.loop-i-test.true, c.loop-i.auto.rows) in
    let same : old ≡ get_or c.args.rows.now i v = was.rest i v (omega arith) in
    let room : c.args.windows ≤ old.cap =
    subst (λ (w : Vec CalcValue Global). c.args.windows ≤ w.cap) (sym same) (c.requires i v c.loop-i-test.true) in
    let ok : is_ok c.resize.result ≡ true = c.resize.ensures.succeeds room in
    let len : vec_len c.resize.new.self ≡ c.args.windows =
    c.resize.ensures.len ∙ ap (λ b. if b then c.args.windows else vec_len old) ok in
    record {
      done = λ j d before. elim (cases_eq j i) [
        | inl here ↦
            ap (λ k. vec_len (get_or (set rows i c.resize.new.self) k d)) here
            ∙ (ap vec_len (get_or-set_same rows i c.resize.new.self d within) ∙ len)
        | inr other ↦
            ap vec_len (get_or-set_other rows i j c.resize.new.self d other) ∙ was.done j d (omega arith)
      ];
      rest = λ j d after.
          get_or-set_other rows i j c.resize.new.self d (λ h. absurd (omega arith)) ∙ was.rest j d (omega arith);
      columns = λ k each below.
          let here : k < vec_len old =
          subst (λ (w : Vec CalcValue Global). k < vec_len w) (sym same) (each i v c.loop-i-test.true) in
          let inside : k < length old.items = omega (arith, old.ok.0) in
          let kept : slice_get c.resize.new.self.items k ≡ slice_get old.items k =
          ap (λ l. slice_get l k) (c.resize.ensures.items
          ∙ ap (λ b. if b then take c.args.windows old.items ++ replicate (c.args.windows - vec_len old) (Num (pos 0)) else old.items) ok)
          ∙ get-longer old.items _ c.args.windows k inside below in
          column_kept rows i k c.resize.new.self v kept ∙ was.columns k each below;
    }

pub returns : goal.returns
returns c = record {
  windows = λ k d within. c.loop-i.invariant.done k d (omega (arith, c.loop-i-test.false, c.loop-i.auto.rows));
  columns = c.loop-i.invariant.columns;
}
