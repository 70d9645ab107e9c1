use Rattle.std.proofs.Common.{◌≡◌, ℕ, ◌+◌, ◌<◌, ◌≤◌, ◌∷◌, ◌++◌, [], true, All, get_or, length, sym, ap, ◌∙◌, subst, arith, length-append, nat_le, lit<, leb-true}
use Rattle.std.proofs.Math.Seq.{get_or-append_seam}
use Rattle.std.proofs.Math.ListN.{get_or-append}
use Rattle.std.proofs.lemmas.Result.{err_from_is_err_and}
use Rattle.archive_file.specs.{number_bytes, Keeps, Spells, short_at}
use Rattle.archive_file.proofs.Joins.{images_push}
use Rattle.group_layout.specs.{versions_image}
use Rattle.archive_file.proofs.FieldLaws.{field_of, spells_both, told_through}
use Rattle.group_layout.proofs.VersionLaws.{version_breaks, version_more}
use Rattle.group_layout.proofs.reader.read_versions.Goals as goal

-- the numbers after a list and one more
risen : (xs ys : _) (n y : ℕ) → length ys ≡ n → ((k : ℕ) → k < n → get_or xs k 0 ≤ get_or ys k 0) → get_or xs n 0 ≤ y
    → (k : ℕ) → k < n + 1 → get_or xs k 0 ≤ get_or (ys ++ y ∷ []) k 0
risen xs ys n y long below here k low = grind (arith, get_or-append, get_or-append_seam)

pub returns-in_err-check-clause-damaged : goal.returns-in_err-check-clause-damaged
returns-in_err-check-clause-damaged g c = λ a byte told.
    let x = c.args in
    let l = c.loop-least in
    let out = err_from_is_err_and c.from_residual.result c.from_residual.ensures.1 in
    let is = c.new.ensures ∙ ap (λ v. field_of l.next 4 (nat_le (get_or x.before.now l.least-index 0) v)) c.short_at-version.ensures.value in
    version_breaks g.C.Rest.rest x.before.now x.at l.next l.least-index c.loop-least-test.true l.invariant.kept a byte
    (grind (arith, told_through))

pub loop-least-preserved : goal.loop-least-preserved
loop-least-preserved g c =
    let x = c.args in
    let l = c.loop-least in
    let v = c.short_at-version.result in
    let vs = l.versions.items in
    let is = c.new.ensures ∙ ap (λ v. field_of l.next 4 (nat_le (get_or x.before.now l.least-index 0) v)) c.short_at-version.ensures.value in
    let pushed = c.in-Ok.ensures.items in
    let kept = subst (λ f. All (Keeps g.C.Rest.rest) (f ∷ [])) is c.in_ok-check.ensures.kept in
    let field : Keeps g.C.Rest.rest (field_of l.next 4 (nat_le (get_or x.before.now l.least-index 0) (short_at g.C.Rest.rest l.next)))
    = kept 0 (field_of 0 0 true) (lit< tt) in
    record {
      place = omega arith;
      within = omega (arith, field.there);
      len = omega (arith, ap length pushed, length-append vs (v ∷ []));
      rises = grind (arith, risen, leb-true);
      spelled = subst (λ bytes. Spells g.C.Rest.rest x.at bytes (l.next + 4))
          (sym (ap versions_image pushed ∙ images_push (number_bytes 4) vs v))
          (spells_both g.C.Rest.rest x.at l.next (l.next + 4) (versions_image vs) (number_bytes 4 v) l.invariant.spelled
          (grind arith));
      kept = version_more g.C.Rest.rest x.before.now x.at l.next l.least-index c.loop-least-test.true l.invariant.kept kept;
    }
