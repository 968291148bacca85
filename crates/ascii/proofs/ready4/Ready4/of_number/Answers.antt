use Rattle.std.proofs.Common.{drop, take, ap, ◌∙◌, arith}
use Rattle.ascii.proofs.Ready4Uses.{number_ready}
use Rattle.ascii.proofs.ready4.Ready4.of_number.Goals as goal

pub returns : goal.returns
returns c =
    ap (λ bytes. drop c.args.missing (take 4 bytes)) c.to_be_bytes.ensures
    ∙ number_ready c.args.missing c.args.number c.requires (omega arith)
