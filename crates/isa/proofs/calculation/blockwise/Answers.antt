use Rattle.std.proofs.Common.{inl, inr}
use Rattle.base.proofs.Fields.{whole_and, whole_or, whole_xor, whole_not, whole_same, whole_zero}
use Rattle.isa.proofs.calculation.blockwise.Goals as goal

pub returns-in-Vand : goal.returns-in-Vand
returns-in-Vand c = simp c.in-Vand.is (whole_and c.args.reach c.args.a c.args.b c.ranges.a.fits c.ranges.b.fits)

pub returns-in-Vor : goal.returns-in-Vor
returns-in-Vor c = simp c.in-Vor.is (whole_or c.args.reach c.args.a c.args.b c.ranges.a.fits c.ranges.b.fits)

pub returns-in-Vxor : goal.returns-in-Vxor
returns-in-Vxor c = simp c.in-Vxor.is (whole_xor c.args.reach c.args.a c.args.b c.ranges.a.fits c.ranges.b.fits)

pub returns-in-Vnot : goal.returns-in-Vnot
returns-in-Vnot c = simp c.in-Vnot.is (whole_not c.args.reach c.args.a c.ranges.a.fits)

pub returns-in-Vmov : goal.returns-in-Vmov
returns-in-Vmov c = simp c.in-Vmov.is (whole_same c.args.reach c.args.a c.ranges.a.fits)

pub returns-in-Vld : goal.returns-in-Vld
returns-in-Vld c =
    let zero = whole_zero c.args.reach in
    elim c.in-Vld.is [
      | inl e ↦ simp e zero
      | inr (inl e) ↦ simp e zero
      | inr (inr (inl e)) ↦ simp e zero
      | inr (inr (inr (inl e))) ↦ simp e zero
      | inr (inr (inr (inr e))) ↦ simp e zero
    ]
