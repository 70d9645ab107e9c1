use Rattle.toml_tables.proofs.Documents.{no_text_passes}
use Rattle.toml_tables.proofs.text.document.Goals as goal

pub returns-in-Ok-table_from_str-clause-no_text : goal.returns-in-Ok-table_from_str-clause-no_text
returns-in-Ok-table_from_str-clause-no_text c = λ none. no_text_passes c.args.bytes.now c.in-Ok.ensures.cases.1 none

pub returns-in-Err-clause-no_text : goal.returns-in-Err-clause-no_text
returns-in-Err-clause-no_text c = λ none. no_text_passes c.args.bytes.now c.in-Ok.ensures.cases.1 none
