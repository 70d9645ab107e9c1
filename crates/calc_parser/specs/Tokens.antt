-- The tokens of a text, and where each begins.
use Rattle.std.specs.Prelude.{ℕ, zero, suc, ◌+◌, ◌-◌, ◌^◌, ◌&&◌, Bool, pos, List, [], ◌∷◌, length, take, drop, map, position, slice_index, nat_eq, nat_le, Option, None, Some, codes, if◌then◌else◌}
use Rattle.std.specs.Char.{is_ascii_digit}
use Rattle.std.specs.List.{list_all, prefix_len}
use Rattle.std.specs.Str.{bytes_eq}
use Rattle.trend_num.specs.{Measure, is_name_byte, digits_value}
use Rattle.trend_num.specs.declared.measure.Measure.TheVariants.{Avg, Total, Low, High, Count, First, Last}
use Rattle.calc_parser.specs.declared.refusal.SyntaxKind.{SyntaxKind}
use Rattle.calc_parser.specs.declared.refusal.SyntaxKind.TheVariants as kind
use Rattle.calc_parser.specs.declared.tree.Cmp.TheVariants.{Le, Ge, Ne, Lt, Gt, Eq}
use Rattle.calc_parser.specs.declared.token.Sum.TheVariants.{Plus, Minus}
use Rattle.calc_parser.specs.declared.token.Product.TheVariants.{Times, Over, Modulo}
use Rattle.calc_parser.specs.declared.token.Pick.TheVariants.{Least, Greatest}
use Rattle.calc_parser.specs.declared.token.Token.{Token}
use Rattle.calc_parser.specs.declared.token.Token.TheVariants.{Number, Quoted, Measuring, Calculation, Absolute, Picking, Choice, Open, Close, Comma, Summing, Multiplying, Comparing, Ill}

-- a token, and how many bytes it takes
abbrev pub Piece : Type 0
Piece = Token × ℕ

-- bytes that are no token: they take all that is left, so no token is read after them
abbrev pub ill : SyntaxKind → List ℕ → Piece
ill why bytes = (Ill why, length bytes)

-- the greatest number of a numeral
abbrev pub largest_number : ℕ
largest_number = 10 ^ 18

-- the numeral with so many digits
abbrev pub numeral_of : ℕ → List ℕ → Piece
numeral_of n bytes = if nat_le (digits_value (take n bytes)) largest_number then (Number (pos (digits_value (take n bytes))), n)
    else ill kind.Number bytes

abbrev pub is_letter : ℕ → Bool
is_letter b = nat_le 97 b && nat_le b 122

-- the words of measures
abbrev pub measure_word_of : List ℕ → Option Measure
measure_word_of w =
    if bytes_eq w (codes "avg") then Some Avg
    else if bytes_eq w (codes "total") then Some Total
    else if bytes_eq w (codes "low") then Some Low
    else if bytes_eq w (codes "high") then Some High
    else if bytes_eq w (codes "count") then Some Count
    else if bytes_eq w (codes "first") then Some First
    else if bytes_eq w (codes "last") then Some Last else None

-- the other words of the language
abbrev pub other_word : List ℕ → Option Token
other_word w =
    if bytes_eq w (codes "calc") then Some Calculation
    else if bytes_eq w (codes "abs") then Some Absolute
    else if bytes_eq w (codes "min") then Some (Picking Least)
    else if bytes_eq w (codes "max") then Some (Picking Greatest)
    else if bytes_eq w (codes "if") then Some Choice else None

abbrev pub measured_or : Option Measure → Option Token → Option Token
measured_or None other = other
measured_or (Some m) other = Some (Measuring m)

abbrev pub word_of : List ℕ → Option Token
word_of w = measured_or (measure_word_of w) (other_word w)

abbrev pub or_ill : Option Token → ℕ → SyntaxKind → List ℕ → Piece
or_ill None n why bytes = ill why bytes
or_ill (Some token) n why bytes = (token, n)

-- the word with so many letters
abbrev pub word_at : ℕ → List ℕ → Piece
word_at n bytes = or_ill (word_of (take n bytes)) n kind.Word bytes

-- whether bytes are a name
abbrev pub is_name : List ℕ → Bool
is_name bytes = nat_le 1 (length bytes) && nat_le (length bytes) 64 && list_all is_name_byte bytes

abbrev pub name_of : List ℕ → Option Token
name_of bytes = if is_name bytes then Some (Quoted bytes) else None

-- the name up to the closing quote, where there is one
abbrev pub quoted_of : Option ℕ → List ℕ → Piece
quoted_of None bytes = ill kind.Name bytes
quoted_of (Some n) bytes = or_ill (name_of (take n (drop 1 bytes))) (n + 2) kind.Name bytes

-- the comparison that `<` or `>` begins, by the byte after it. If two are possible, it is the longer one
abbrev pub less_of : ℕ → Piece
less_of next = if nat_eq next 61 then (Comparing Le, 2) else if nat_eq next 62 then (Comparing Ne, 2) else (Comparing Lt, 1)

abbrev pub greater_of : ℕ → Piece
greater_of next = if nat_eq next 61 then (Comparing Ge, 2) else (Comparing Gt, 1)

-- the token of any other sign
abbrev pub sign_of : ℕ → Option Token
sign_of b =
    if nat_eq b 40 then Some Open
    else if nat_eq b 41 then Some Close
    else if nat_eq b 44 then Some Comma
    else if nat_eq b 43 then Some (Summing Plus)
    else if nat_eq b 45 then Some (Summing Minus)
    else if nat_eq b 42 then Some (Multiplying Times)
    else if nat_eq b 47 then Some (Multiplying Over)
    else if nat_eq b 37 then Some (Multiplying Modulo)
    else if nat_eq b 61 then Some (Comparing Eq) else None

-- the token that bytes begin with. The first byte is no space
abbrev pub token_at : List ℕ → Piece
token_at bytes = let b = slice_index bytes 0 in
    if is_ascii_digit b then numeral_of (prefix_len is_ascii_digit bytes) bytes
    else if is_letter b then word_at (prefix_len is_letter bytes) bytes
    else if nat_eq b 39 then quoted_of (position (λ c. nat_eq c 39) (drop 1 bytes)) bytes
    else if nat_eq b 60 then less_of (slice_index bytes 1)
    else if nat_eq b 62 then greater_of (slice_index bytes 1)
    else or_ill (sign_of b) 1 kind.Char bytes

-- a token and the byte at which it begins
pub record Lexeme : Type 0 where
  pub token : Token
  pub place : ℕ

-- the tokens of bytes that begin at a place of the text. The first `skip` bytes belong to the token before. Spaces mean
-- nothing
abbrev pub lexemes : ℕ → ℕ → List ℕ → List Lexeme
lexemes place skip [] = []
lexemes place (suc skip) (b ∷ bytes) = lexemes (place + 1) skip bytes
lexemes place zero (b ∷ bytes) = if nat_eq b 32 then lexemes (place + 1) 0 bytes
    else record { token = (token_at (b ∷ bytes)).0; place = place } ∷ lexemes (place + 1) ((token_at (b ∷ bytes)).1 - 1) bytes

abbrev pub tokens_of : List ℕ → List Token
tokens_of text = map (λ l. l.token) (lexemes 0 0 text)

abbrev pub places_of : List ℕ → List ℕ
places_of text = map (λ l. l.place) (lexemes 0 0 text)
