use Rattle.std.proofs.Common.{◌≡◌, ℕ, ◌+◌, ◌-◌, ◌*◌, ◌<◌, ◌≤◌, length, get_or, set, refl, ap, ◌∙◌, arith}
use borrow.Rule.Slice.PartMut.{put_mid}
use Rattle.std.proofs.lemmas.Bool.{cond_below}
use Rattle.bank.specs.Bytes.{word_count, words_of, rest_of, bytes_of, put_word}
use Rattle.bank.specs.Store.{Lent, all_open}
use Rattle.bank.proofs.Groups.{length-words_of, number_bytes, outside_written, words_written, rest_written, put_mid-put_word, to_be_bytes_lem}
use Rattle.bank.proofs.AllOpen.{read_within, answer_below, write_below}
use Rattle.bank.proofs.bytes.ByteBankBank.write.Goals as goal

width : (a : ℕ) → 8 * a + 8 - 8 * a ≡ 8
width a = omega arith

pub returns : goal.returns
returns c =
    let bytes = c.args.self.now.bytes in
    let bs = bytes.now in
    let a = c.args.address in
    let v = c.args.value in
    let n = length-words_of bs in
    let h : a < length (words_of bs) = read_within (words_of bs) a _ c.in_ok-read.ensures in
    let fits : 8 * a + 8 ≤ length bs = omega arith in
    let e = ap (λ w. put_mid (8 * a) w bs c.copy_from_slice.new.self) (width a)
    ∙ ap (put_mid (8 * a) 8 bs) (c.copy_from_slice.ensures.after ∙ c.to_be_bytes.ensures ∙ to_be_bytes_lem v) in
    record {
      answer = answer_below (words_of bs) a h;
      after = ap (λ xs. all_open (words_of xs)) e
          ∙ ap all_open (words_written bs a (bytes_of 8 v) fits refl ∙ ap (set (words_of bs) a) (number_bytes v (omega arith)))
          ∙ write_below (words_of bs) a v h;
      stays = ap (λ xs. Lent bytes.ghost_name (rest_of xs)) e ∙ ap (Lent bytes.ghost_name) (rest_written bs a (bytes_of 8 v) fits refl (omega arith));
      bytes = e ∙ put_mid-put_word bs a v ∙ cond_below a (word_count bs) (put_word 8 bs a v) bs (omega arith);
      untouched = λ k h. ap (λ xs. get_or xs k 0) e ∙ outside_written bs a (bytes_of 8 v) fits refl k h;
    }
