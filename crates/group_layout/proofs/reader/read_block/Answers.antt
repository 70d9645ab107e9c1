use Rattle.std.proofs.Common.{◌≡◌, ◌+◌, ◌*◌, ◌≤◌, ◌∷◌, [], true, All, length, nat_le, refl, ap, ◌∙◌, subst, arith, lit<}
use Rattle.std.proofs.lemmas.Result.{err_from_is_err_and}
use Rattle.archive_file.specs.{BreaksFirst, Keeps}
use Rattle.group_layout.specs.{block_fields, parts_of}
use Rattle.archive_file.proofs.FieldLaws.{breaks_part, field_of, kept_none, told_through}
use Rattle.group_layout.proofs.BlockLaws.{IsRead, at_counts, at_gate, at_rows, at_versions, block_follows, block_spelled, number_field, number_read}
use Rattle.group_layout.proofs.reader.read_block.Goals as goal
use Rattle.group_layout.proofs.reader.read_block.Goals.{After-check-2, After-read_versions, After-read_rows}

-- the number was read, and it and the versions are kept
kept : (g : _) (c : After-read_versions g) → All (Keeps g.C.Rest.rest) (number_field g.C.Rest.rest (parts_of c.args.before.now) ∷ [])
kept g c = grind (arith, number_read)

read : (g : _) (c : After-check-2 g) → All (Keeps g.C.Rest.rest) (number_field g.C.Rest.rest (parts_of c.args.before.now) ∷ [])
    → IsRead g.C.Rest.rest (parts_of c.args.before.now) (9 + 4 * c.len.result) c.short_at-windows.result
    c.deref.result.now
read g c kept = grind (arith, kept)

-- and so are the counts after the versions
counts : (g : _) (c : After-read_rows g)
    → let at = 9 + 4 * c.len.result in
    All (Keeps g.C.Rest.rest)
    (field_of at 4 (nat_le (parts_of c.args.before.now).windows c.short_at-windows.result) ∷ field_of (at + 4) 4 true ∷ [])
counts g c = grind arith

pub returns-in_err-check-clause-damaged : goal.returns-in_err-check-clause-damaged
returns-in_err-check-clause-damaged g c = λ a byte told.
    let s = g.C.Rest.rest in
    let b = parts_of c.args.before.now in
    let out = err_from_is_err_and c.from_residual.result c.from_residual.ensures.1 in
    breaks_part s _ (number_field s b ∷ []) _ a byte (kept_none s (block_fields s c.args.calcs b 0))
    (grind (arith, number_read, told_through))

pub returns-in_err-versions-clause-damaged : goal.returns-in_err-versions-clause-damaged
returns-in_err-versions-clause-damaged g c = λ a byte told.
    let here = goal.at.returns-in_err-versions-clause-damaged g c in
    let out = err_from_is_err_and c.from_residual-in_err-versions.result c.from_residual-in_err-versions.ensures.1 in
    breaks_part g.C.Rest.rest _ _ _ a byte
    (at_versions _ c.args.calcs (parts_of c.args.before.now) _ c.deref.ensures.value (kept g here.After-read_versions))
    (c.in_err-versions.ensures.damaged a byte
    (told_through c.from_residual-in_err-versions.result out.0 _ a byte out.1 out.2 told))

pub returns-in_err-check-2-clause-damaged : goal.returns-in_err-check-2-clause-damaged
returns-in_err-check-2-clause-damaged g c = λ a byte told.
    let here = goal.at.returns-in_err-check-2-clause-damaged g c in
    let s = g.C.Rest.rest in
    let out = err_from_is_err_and c.from_residual-in_err-check-2.result c.from_residual-in_err-check-2.ensures.1 in
    let first = c.new-2.ensures in
    let second = c.new-3.ensures in
    breaks_part s _ _ _ a byte (at_counts c.args.calcs (read g here.After-check-2 (kept g here.After-read_versions)) refl)
    (subst (λ fs. BreaksFirst s fs a byte) (λ i. first i ∷ second i ∷ [])
    (grind (arith, told_through)))

pub read_rows-requires-clause-there : goal.read_rows-requires-clause-there
read_rows-requires-clause-there g c =
    let kept = subst (Keeps g.C.Rest.rest) c.new-3.ensures (c.in_ok-check-2.ensures.kept 1 (field_of 0 0 true) (lit< tt)) in
    let there : 9 + 4 * c.len.result + 4 + 4 ≤ length g.C.Rest.rest = kept.there in
    omega (arith, there)

pub returns-in_err-rows-clause-damaged : goal.returns-in_err-rows-clause-damaged
returns-in_err-rows-clause-damaged g c = λ a byte told.
    let here = goal.at.returns-in_err-rows-clause-damaged g c in
    let out = err_from_is_err_and c.from_residual-in_err-rows.result c.from_residual-in_err-rows.ensures.1 in
    breaks_part g.C.Rest.rest _ _ _ a byte
    (at_rows c.args.calcs (read g here.After-check-2 (kept g here.After-read_versions)) c.short_at-count.ensures.value (counts g here.After-read_rows))
    (c.in_err-rows.ensures.damaged a byte
    (told_through c.from_residual-in_err-rows.result out.0 _ a byte out.1 out.2 told))

pub returns-in_err-check-3-clause-damaged : goal.returns-in_err-check-3-clause-damaged
returns-in_err-check-3-clause-damaged g c = λ a byte told.
    let here = goal.at.returns-in_err-check-3-clause-damaged g c in
    let s = g.C.Rest.rest in
    let at = 9 + 4 * c.len.result in
    let out = err_from_is_err_and c.from_residual-in_err-check-3.result c.from_residual-in_err-check-3.ensures.1 in
    let long : c.len-2.result ≡ c.short_at-count.result = omega (arith, c.len-2.ensures, c.in_ok-rows.ensures.len) in
    let last = c.new-4.ensures ∙ ap (λ n. field_of (at + 8 + 17 * n) 1 true) long in
    breaks_part s _ _ _ a byte
    (at_gate c.args.calcs (read g here.After-check-2 (kept g here.After-read_versions)) c.short_at-count.ensures.value (counts g here.After-read_rows)
    c.in_ok-rows.ensures.kept)
    (subst (λ f. BreaksFirst s (f ∷ []) a byte) last
    (grind (arith, told_through)))

pub returns-clause-follows : goal.returns-clause-follows
returns-clause-follows g c =
    let here = goal.at.returns-clause-follows g c in
    block_follows c.args.calcs (read g here.After-check-2 (kept g here.After-read_versions)) c.short_at-count.ensures.value (counts g here.After-read_rows)
    c.long_at-number.result c.long_at-number.ensures.value c.in_ok-versions.versions.items c.in_ok-rows.rows.items
    c.in_ok-versions.ensures.len c.in_ok-versions.ensures.rises c.in_ok-rows.ensures.rows

pub returns-clause-spelled : goal.returns-clause-spelled
returns-clause-spelled g c =
    let here = goal.at.returns-clause-spelled g c in
    let are = counts g here.After-read_rows in
    let is = kept g here.After-read_versions in
    block_spelled c.args.calcs (read g here.After-check-2 is) c.short_at-count.ensures.value are
    c.long_at-number.result c.long_at-number.ensures.value c.in_ok-versions.versions.items c.in_ok-rows.rows.items c.in_ok-versions.ensures.len
    (c.long_at-number.ensures.spelled (is 0 (field_of 0 0 true) (lit< tt)).there) c.in_ok-versions.ensures.spelled
    (c.short_at-windows.ensures.spelled (are 0 (field_of 0 0 true) (lit< tt)).there)
    (c.short_at-count.ensures.spelled (are 1 (field_of 0 0 true) (lit< tt)).there) c.in_ok-rows.ensures.spelled c.in_ok-rows.ensures.len

pub returns-clause-next : goal.returns-clause-next
returns-clause-next g c =
    let at = 9 + 4 * c.len.result in
    let last = c.new-4.ensures in
    let kept = subst (λ f. All (Keeps g.C.Rest.rest) (f ∷ [])) last c.in_ok-check-3.ensures.kept in
    let there : at + 8 + 17 * c.len-2.result + 1 ≤ length g.C.Rest.rest = (kept 0 (field_of 0 0 true) (lit< tt)).there in
    omega (arith, there, c.len.ensures, c.len-2.ensures)
