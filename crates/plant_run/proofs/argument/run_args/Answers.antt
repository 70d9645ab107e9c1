use Rattle.std.proofs.Common.{◌≡◌, drop, inl, inr, ap, refl, ◌∙◌}
use Rattle.std.specs.Vec.Iter.{into_iter_items}
use Rattle.plant_status.specs.{code_of}
use Rattle.plant_run.proofs.argument.run_args.Goals as goal
use Rattle.plant_run.proofs.argument.run_args.Goals.{in-Ok+in-Ok-words_of, in-Ok+in-Err-words_of, in-Err}

pub returns-clause-comes : goal.returns-clause-comes
returns-clause-comes g c =
    let code = c.from.ensures ∙ c.code.ensures in
    elim c.match-args.branch [
      | in-Ok+in-Ok-words_of w ↦
          let words : w.as_slice.result.now ≡ drop 1 (into_iter_items w.in-Ok.given) =
          w.as_slice.ensures.value ∙ w.in-Ok-words_of.ensures in
          let exit = code ∙ ap code_of w.status-is in
          rw w.in-Ok.is (rw (w.input-is, w.files-is, w.out-is, w.store-is, w.passes-is, ← words)
          (inl (w.run.result, exit, w.run.ensures.comes)))
      | in-Ok+in-Err-words_of w ↦
          rw w.in-Ok.is (rw (w.input-is, w.files-is, w.out-is, w.store-is, w.passes-is)
          (inr (record {
            exit = code ∙ ap code_of (w.status-is ∙ w.refuse.ensures.same);
            told = w.refuse.ensures.line;
            input = refl;
            rest = refl;
            unstopped = refl;
          })))
      | in-Err w ↦ rw w.in-Err.is tt
    ]
