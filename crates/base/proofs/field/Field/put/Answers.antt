use Rattle.base.proofs.Bits.{put_bits, put_replaces}
use Rattle.base.proofs.Widths.{is_width}
use Rattle.base.proofs.field.Field.put.Goals as goal

pub returns-clause-value : goal.returns-clause-value
returns-clause-value c =
    let f = c.args.self in
    rw (c.ones.ensures, c.place-place.ensures.value) (put_bits (is_width f.width) f.index _ _ f.inside c.requires.fits c.ranges.x.fits)

pub returns-clause-replaced : goal.returns-clause-replaced
returns-clause-replaced c = let f = c.args.self in put_replaces f.width _ _ _ _ f.inside c.requires.fits (returns-clause-value c)
