use Rattle.scanner.specs.AnswerLaw.{AnswerLaw}
use Rattle.scanner.specs.HexLaw.{HexLaw}
use Rattle.scanner.specs.RealLaw.{RealLaw}
use Rattle.scanner.specs.RunLaw.{RunLaw}
use Rattle.scanner.specs.SpaceLaw.{SpaceLaw}
use Rattle.scanner.specs.StartLaw.{StartLaw}
use Rattle.scanner.specs.StringLaw.{StringLaw}
use Rattle.scanner.specs.FigureLaw.{FigureLaw}

-- what the definitions come to, in the words of the subject
pub record TokenLaws : Type 0 where
  -- what is passed over makes no difference
  pub spaces : SpaceLaw
  -- what a run is, and where it stops
  pub runs : RunLaw
  -- what begins with a regular byte or a / is a run, and brackets are tokens
  pub starts : StartLaw
  -- what is written as a string, or as a hex string, scans as what it was
  pub strings : StringLaw
  pub hex_strings : HexLaw
  -- a number has the value of its figures
  pub figures : FigureLaw
  -- what a real is
  pub reals : RealLaw
  -- the count, the value and the progress of each answer
  pub answers : AnswerLaw
