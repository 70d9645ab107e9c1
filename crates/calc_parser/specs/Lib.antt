pub mod Tree
pub mod Grammar
pub mod Tokens
pub mod Formulas
pub mod Canonical
pub mod Scan
pub use Grammar.{Level, Reading, words, sum_op, product_op, pick_op, tree, opens, absolute, calculated, chosen, compared, factor, formula, grouped, measured, more_factors, more_terms, negated, numeral, one_factor, one_term, picked, plain}
pub use Grammar.{sums, terms}
pub use Tokens.{Piece, ill, largest_number, numeral_of, is_letter, measure_word_of, other_word, measured_or, word_of, or_ill, word_at, is_name, name_of, quoted_of, less_of, greater_of, sign_of, token_at, Lexeme, lexemes, tokens_of}
pub use Tokens.{places_of}
pub use Formulas.{most_bytes, deepest, IsTree, IsFormula, Begins, IsShallow, CannotFollow, kind_of, IsSyntax, IsDeep, HasFormulaCause, Gives}
pub use Canonical.{op_binds, binds, is_call, op_token, fit, joined, canonical, measure_word, cmp_sign, spelling, spelled, text_of}
pub use Scan.{head, Stack, whole, Next, step, may_end, Verdict, judged, scan, SpellsTokens, SpellsFirst, SpellsNext, SpellsAfter, Stops, EndsTerms, EndsSums, refusal_of, bracket, close, comma, deep, fine, more, name, operand, refused}
pub use declared.parser.Stop.{Stop}
pub use declared.refusal.ParseNo.{ParseNo}
pub use declared.refusal.SyntaxKind.{SyntaxKind}
pub use declared.token.Pick.{Pick}
pub use declared.token.Product.{Product}
pub use declared.token.Sum.{Sum}
pub use declared.token.Token.{Token}
pub use declared.tree.Cmp.{Cmp}
pub use declared.tree.Op.{Op}
