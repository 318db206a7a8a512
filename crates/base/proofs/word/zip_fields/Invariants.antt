use Rattle.base.specs.Words.{field}
use Rattle.base.proofs.Bits.{Joined}
use Rattle.base.proofs.word.zip_fields.Given as goal

abbrev pub invariant-loop-index : goal.invariant-loop-index
invariant-loop-index g l =
    Joined l.size (λ i. g.F.FieldFunction.meaning l.f (field l.size i l.a) (field l.size i l.b)) l.index l.r
