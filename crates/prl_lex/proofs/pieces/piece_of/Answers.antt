use Rattle.std.proofs.Common.{sym, subst}
use Rattle.prl_lex.specs.Tokens.{FitsPiece}
use Rattle.prl_lex.proofs.Fits.{piece_of_fits}
use Rattle.prl_lex.proofs.pieces.piece_of.Goals as goal

pub returns-clause-fits : goal.returns-clause-fits
returns-clause-fits c = subst (FitsPiece c.args.text.now) (sym c.front.ensures) (piece_of_fits c.args.text.now)
