use Rattle.std.proofs.Common.{ℕ, ap, ◌∙◌}
use Rattle.base.specs.Words.{bits, word, field}
use Rattle.base.proofs.Bits.{joined_none, joined_more, joined_all, field-from_word}
use Rattle.base.proofs.word.zip_fields.Goals as goal

pub loop-index-init : goal.loop-index-init
loop-index-init g c = joined_none

pub loop-index-preserved : goal.loop-index-preserved
loop-index-preserved g c =
    joined_more c.args.width c.bits-size.ensures.value c.fields-index-end.ensures c.loop-index.invariant c.loop-index-test.true (cc) c.ones-ones.ensures

pub returns : goal.returns
returns g c =
    let f : ℕ → ℕ → ℕ = λ w i. g.F.FieldFunction.meaning c.args.f.now (field w i c.args.a) (field w i c.args.b) in
    let at = c.bits-size.ensures.value in
    let is =
    joined_all c.args.width at c.fields-index-end.ensures {f = f c.bits-size.result} c.loop-index.invariant c.loop-index.auto.index-end c.loop-index-test.false
    ∙ ap (λ w. word w (f w)) at in
    record { value = is; fields = field-from_word c.args.width (f (bits c.args.width)) is }
