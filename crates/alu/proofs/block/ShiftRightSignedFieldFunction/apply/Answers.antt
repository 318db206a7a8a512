use Rattle.alu.proofs.Cuts.{signed_set}
use Rattle.alu.proofs.block.ShiftRightSignedFieldFunction.apply.Goals as goal

pub returns-then-p-bits-eq1 : goal.returns-then-p-bits-eq1
returns-then-p-bits-eq1 c =
    signed_set c.args.self.now.0 c.args.p c.args.q c.bits.ensures.value c.distance-by.ensures.value c.distance-by.ensures.below c.ones-ones.ensures c.if-p-bits-eq1.true
