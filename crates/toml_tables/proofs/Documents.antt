-- Which bytes are a document.
use Rattle.std.proofs.Common.{◌≡◌, ℕ, false, List, None, Some, inl, inr, sym, ap, ◌∙◌}
use Rattle.std.specs.Str.{IsUtf8, is_utf8}
use Rattle.std.proofs.lemmas.Bool.{cases_Bool}
use Rattle.std.proofs.lemmas.Str.{IsUtf8-from_is_utf8, is_utf8-from_IsUtf8}
use Rattle.toml.specs.Data.{Members}
use Rattle.toml.specs.Parse.{parse_document}
use Rattle.toml_tables.specs.{document}

-- bytes that are no text are none
pub no_document : (bytes : List ℕ) → ¬ IsUtf8 bytes → None ≡ document bytes
no_document bytes none =
    elim (cases_Bool (is_utf8 bytes)) [
      | inl test ↦ absurd (none (IsUtf8-from_is_utf8 bytes test))
      | inr fails ↦ rw fails
    ]

-- those of a text are the document that the text is
pub document_of : (bytes text : List ℕ) (found : Members) → text ≡ bytes → IsUtf8 bytes → parse_document text ≡ Some found → Some found ≡ document bytes
document_of bytes text found same utf8 parsed = rw (is_utf8-from_IsUtf8 bytes utf8) (sym parsed ∙ ap parse_document same)

-- bytes that are a text pass the test of texts
pub no_text_passes : {P : Type 0} (bytes : List ℕ) → IsUtf8 bytes → is_utf8 bytes ≡ false → P
no_text_passes bytes utf8 fails = let passes = is_utf8-from_IsUtf8 bytes utf8 in cc
