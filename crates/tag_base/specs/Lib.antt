pub mod Answers
pub mod Tables
pub mod Tags
pub mod Groups
pub mod Bases
pub mod Plans
pub use Answers.{broken, where_held, limited, where_given, after_step, Follows}
pub use Tables.{name_at, number_at, tables_after}
pub use Tags.{has_tag_form, tuning_at, step_of, tag_place, new_tag_name, tag_of, tags_after}
pub use Groups.{most_calcs, longest_period, CalcForm, formula_text_of, GroupForm, group_place, new_group_name, inputs_at, calcs_after, calcs_at, group_keys, group_text, Define, told_of, IsFirstRefused, AreCalcs, IsGroupAnswer, IsSoundGroup}
pub use Groups.{TextRead, GroupRead, GroupsRead}
pub use declared.calculation.CalcText.{CalcText}
pub use declared.definition.Base.{Base}
pub use declared.definition.GroupDef.{GroupDef}
pub use declared.refusal.TextNo.{TextNo}
pub use declared.schedule.Plan.{Plan}
pub use declared.schedule.Refresher.{Refresher}
