use Rattle.std.proofs.Common.{length, ap, arith}
use Rattle.std.proofs.lemmas.List.{length-map}
use Rattle.std.specs.Int.{w64, from_be_bytes}
use Rattle.bank.proofs.Bounds.{few_bytes}
use Rattle.bank.proofs.bytes.ByteBankBank.size.Goals as goal

pub returns-clause-few : goal.returns-clause-few
returns-clause-few c = omega (arith, few_bytes c.args.self.now.bytes.now, ap length c.words.ensures, length-map c.words.result.now (from_be_bytes w64))
