use Rattle.std.proofs.Common.{[], ◌∷◌, ◌∙◌, ap}
use Rattle.archive_file.proofs.FieldLaws.{field_of}
use Rattle.device_layout.proofs.slot_field.summary_fields.Goals as goal

pub returns : goal.returns
returns c = λ i.
    (c.new.ensures ∙ ap (field_of 12 1) c.are_flags_ok.ensures) i
    ∷ (c.new-2.ensures ∙ ap (field_of 13 3) c.are_zeros.ensures) i
    ∷ c.form_field.ensures i ∷ c.form_field-2.ensures i ∷ c.form_field-3.ensures i ∷ c.form_field-4.ensures i
    ∷ c.form_field-5.ensures i ∷ c.form_field-6.ensures i ∷ c.point_field.ensures i ∷ c.point_field-2.ensures i
    ∷ c.point_field-3.ensures i ∷ c.point_field-4.ensures i ∷ c.point_field-5.ensures i ∷ c.deviation_field.ensures i
    ∷ c.time_field.ensures i ∷ c.deviation_field-2.ensures i ∷ c.time_field-2.ensures i ∷ c.time_field-3.ensures i ∷ []
