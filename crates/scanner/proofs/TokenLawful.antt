use Rattle.scanner.specs.TokenLaws.{TokenLaws}
use Rattle.scanner.proofs.AnswerLawful.{answer_law}
use Rattle.scanner.proofs.FigureLawful.{figure_law}
use Rattle.scanner.proofs.HexLawful.{hex_law}
use Rattle.scanner.proofs.RealLawful.{real_law}
use Rattle.scanner.proofs.RunLawful.{run_law}
use Rattle.scanner.proofs.SpaceLawful.{space_law}
use Rattle.scanner.proofs.StartLawful.{start_law}
use Rattle.scanner.proofs.StringLawful.{string_law}

pub token_laws : TokenLaws
token_laws = record { spaces = space_law; runs = run_law; starts = start_law; strings = string_law; hex_strings = hex_law; figures = figure_law; reals = real_law; answers = answer_law }
