use Rattle.calc_parser.proofs.Lexing.{lexed_token}
use Rattle.calc_parser.proofs.lexer.lexed.Goals as goal

pub loop-at-preserved : goal.loop-at-preserved
loop-at-preserved c = rw (c.in_ok-push.ensures.tokens, c.in_ok-push.ensures.places)
    (lexed_token c.args.text.now c.loop-at.at _ _ _ _ c.loop-at.invariant c.loop-at-test.true
    c.if-text-at-eq32.false
    c.token_at-token.ensures.piece c.token_at-token.ensures.some c.token_at-token.ensures.within)
