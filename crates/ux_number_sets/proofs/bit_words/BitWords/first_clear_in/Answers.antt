use Rattle.std.proofs.Common.{◌≡◌, ℕ, sym, ◌∙◌, subst, arith}
use Rattle.std.specs.Prelude.{slice_index}
use Rattle.std.proofs.lemmas.List.{get_or_read}
use Rattle.ux_number_sets.specs.Bits.{IsFirstOpenWord, IsFirstClearBit}
use Rattle.ux_number_sets.proofs.BitLaws.{none_in_words, clear_in_word, from_every_bit}
use Rattle.ux_number_sets.proofs.bit_words.BitWords.first_clear_in.Goals as goal

pub returns-in_err-word : goal.returns-in_err-word
returns-in_err-word c = rw c.from_residual.ensures
    (λ i low high. none_in_words c.args.self.now c.args.from i c.in_err-word.ensures low high)

pub returns-in_err-bit : goal.returns-in_err-bit
returns-in_err-bit c =
    let opened : IsFirstOpenWord c.args.self.now c.args.from c.in_ok-word.word = c.in_ok-word.ensures in
    let read : c.index.result.now ≡ slice_index c.args.self.now c.in_ok-word.word =
    rw (← c.self.view_is) (get_or_read c.self.inside.words.items c.in_ok-word.word c.index.result.now (rw c.self.view_is opened.within)
    c.index.ensures 0) in
    absurd (opened.opened (sym read ∙ from_every_bit c.index.result.now (omega arith)
    (λ i within. c.in_err-bit.ensures i (omega arith) within)))

pub returns : goal.returns
returns c =
    let opened : IsFirstOpenWord c.args.self.now c.args.from c.in_ok-word.word = c.in_ok-word.ensures in
    let read : c.index.result.now ≡ slice_index c.args.self.now c.in_ok-word.word =
    rw (← c.self.view_is) (get_or_read c.self.inside.words.items c.in_ok-word.word c.index.result.now (rw c.self.view_is opened.within)
    c.index.ensures 0) in
    clear_in_word c.args.self.now c.args.from c.in_ok-word.word c.in_ok-bit.bit opened
    (subst (λ (w : ℕ). IsFirstClearBit w 0 c.in_ok-bit.bit) read c.in_ok-bit.ensures)
