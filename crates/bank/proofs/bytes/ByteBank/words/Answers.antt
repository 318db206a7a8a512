use Rattle.std.proofs.Common.{take, map, ap, ◌∙◌}
use Rattle.std.specs.Int.{w64, from_be_bytes}
use Rattle.bank.proofs.AllOpen.{take_first}
use Rattle.bank.proofs.Groups.{words_read}
use Rattle.bank.proofs.bytes.ByteBank.words.Goals as goal

pub returns : goal.returns
returns c =
    ap (map (from_be_bytes w64)) (take_first 65536 _ c.as_chunks.result.0.now c.min.ensures ∙ ap (take 65536) c.as_chunks.ensures.front)
    ∙ words_read c.args.self.now.bytes.now
