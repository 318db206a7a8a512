use Rattle.std.proofs.Common.{refl, ap, ◌∙◌}
use Rattle.bank.specs.Store.{write_at}
use Rattle.bank.proofs.Overlays.{carried_none, skipped, written_below}
use Rattle.bank.proofs.trial.settle.Goals.{in-Some, in_default}
use Rattle.bank.proofs.trial.settle.Goals as goal

pub loop-address-init : goal.loop-address-init
loop-address-init g c = record { words = carried_none c.args.overlay.now (g.B.Bank.meaning c.args.bank.now); stays = refl }

pub loop-address-preserved : goal.loop-address-preserved
loop-address-preserved g c =
    let os = c.args.overlay.now in
    let s = g.B.Bank.meaning c.args.bank.now in
    let i = c.loop-address.address in
    let now = c.loop-address.invariant in
    elim c.match-word.branch [
      | in-Some w ↦ rw w.bank-is (record {
        words = w.write.ensures.after ∙ ap (λ x. write_at x i w.in-Some.word) now.words ∙ written_below os s i w.in-Some.word c.loop-address-test.true w.in-Some.is;
        stays = w.write.ensures.stays ∙ now.stays;
      })
      | in_default w ↦ rw w.bank-is (record { words = now.words ∙ skipped os s i w.in_default.is; stays = now.stays })
    ]
