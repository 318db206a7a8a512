use Rattle.base.proofs.Bits.{merge_bits, masked_byte}
use Rattle.base.proofs.word.merge.Goals as goal

pub returns : goal.returns
returns c =
    let is = merge_bits c.args.mask c.args.new c.args.old c.byte_mask-bytes.result c.ranges.new.fits c.ranges.old.fits c.byte_mask-bytes.type_inv c.byte_mask-bytes.ensures in
    record { value = is; bytes = masked_byte c.args.mask c.args.new c.args.old is }
