use Rattle.std.proofs.Common.{◌≡◌, ℕ, ◌+◌, ◌∙◌, List, true, ap, arith, length-set}
use Rattle.std.proofs.lemmas.List.Edits.{fill_by_more}
use Rattle.std.proofs.lemmas.List.FromFn.{fill_by_all}
use Rattle.archive_file.specs.{Field}
use Rattle.device_layout.specs.{byte_field, is_name_at}
use Rattle.device_layout.proofs.header.name_fields.Goals as goal

-- the field of byte number k
abbrev field : List ℕ → ℕ → Field
field h k = byte_field (6 + k) (is_name_at h (6 + k))

pub loop-i-preserved : goal.loop-i-preserved
loop-i-preserved c =
    let h = c.args.h.now in
    let set_there : c.byte_field.result ≡ field h c.loop-i.i =
    c.byte_field.ensures ∙ ap (byte_field (6 + c.loop-i.i)) c.is_name_at.ensures in
    rw set_there
    (record {
      long = length-set c.loop-i.fields c.loop-i.i (field h c.loop-i.i) ∙ c.loop-i.invariant.long;
      made = fill_by_more (field h) c.loop-i.fields c.loop-i.i (byte_field 0 true)
          (omega (arith, c.loop-i.invariant.long)) c.loop-i.invariant.made;
    })

pub returns : goal.returns
returns c = fill_by_all (field c.args.h.now) c.loop-i.fields 64 (byte_field 0 true) c.loop-i.invariant.long
    (λ k low. c.loop-i.invariant.made k (omega (arith, low, c.loop-i-test.false)))
