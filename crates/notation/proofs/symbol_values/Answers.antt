-- `notation::symbol_values` meets its contract: the symbols written are the text's, so the answers are those of questions 5, 6 and 7, and
-- the words are the text's.
-- Assumes nothing.
use mathlib.Core.Path.{◌≡◌, sym, ap, ◌∙◌}
use Prim.Native.Nat.{ℕ, ◌+◌, ◌-◌, ◌^◌, ◌<◌}
use native.Mathlib.Omega.{arith}
use lib.ListN.{length, get_or}
use lib.Seq.{length-take-le}
use Rattle.std.proofs.lemmas.Result.{err_from_is_err_and}
use Rattle.words.proofs.Letters.{count_small}
use Rattle.parser.proofs.Codes.{text_meant}
use Rattle.notation.proofs.Refusal.{symbols_no5, symbols_no6, symbols_no7, symbols_yes}
use Rattle.notation.proofs.Values.{signs_text, declared_text, whole_text, words_text, words_kept}
use Rattle.notation.proofs.symbol_values.Goals as goal

pub returns-in_err-require-clause-value : goal.returns-in_err-require-clause-value
returns-in_err-require-clause-value c =
    let bytes : (i : ℕ) → get_or c.args.text.now i 0 < 256 = (λ i. omega (arith, c.type_inv.text i)) in
    let no = err_from_is_err_and c.from_residual.result c.from_residual.ensures.1 in
    rw (no.1, no.2, c.in_err-require.ensures.0)
    (symbols_no5 _ _ _ (sym (signs_text _ _ _ c.write_symbols-count.ensures.1 bytes c.all_signs.ensures) ∙ c.in_err-require.ensures.1))

pub returns-in_err-require-2-clause-value : goal.returns-in_err-require-2-clause-value
returns-in_err-require-2-clause-value c =
    let bytes : (i : ℕ) → get_or c.args.text.now i 0 < 256 = (λ i. omega (arith, c.type_inv.text i)) in
    let same = c.write_symbols-count.ensures.1 in
    let no = err_from_is_err_and c.from_residual-in_err-require-2.result c.from_residual-in_err-require-2.ensures.1 in
    rw (no.1, no.2, c.in_err-require-2.ensures.0)
    (symbols_no6 _ _ _ (sym (signs_text _ _ _ same bytes c.all_signs.ensures) ∙ c.in_ok-require.ensures)
    (sym (declared_text _ _ _ same bytes _ _ c.all_declared-declared.ensures) ∙ c.in_err-require-2.ensures.1))

pub read_values-whole-requires : goal.read_values-whole-requires
read_values-whole-requires c = (
  omega (arith, length-take-le c.write_symbols-count.result c.write_symbols-count.new.out c.write_symbols-count.ensures.0, c.write_symbols-count.auto.out),
  c.args.letters.unknowns_fit,
  count_small _ _ c.requires.1 c.args.letters.n_fits,
)

pub returns-in_err-require-3-clause-value : goal.returns-in_err-require-3-clause-value
returns-in_err-require-3-clause-value c =
    let bytes : (i : ℕ) → get_or c.args.text.now i 0 < 256 = (λ i. omega (arith, c.type_inv.text i)) in
    let same = c.write_symbols-count.ensures.1 in
    let no = err_from_is_err_and c.from_residual-in_err-require-3.result c.from_residual-in_err-require-3.ensures.1 in
    rw (no.1, no.2, c.in_err-require-3.ensures.0)
    (symbols_no7 _ _ _ (sym (signs_text _ _ _ same bytes c.all_signs.ensures) ∙ c.in_ok-require.ensures)
    (sym (declared_text _ _ _ same bytes _ _ c.all_declared-declared.ensures) ∙ c.in_ok-require-2.ensures)
    (sym (whole_text _ _ _ (text_meant _ _ bytes same) c.read_values-whole.ensures.value) ∙ c.in_err-require-3.ensures.1))

pub returns-in_err-require-3-clause-words_after : goal.returns-in_err-require-3-clause-words_after
returns-in_err-require-3-clause-words_after c =
    let no = err_from_is_err_and c.from_residual-in_err-require-3.result c.from_residual-in_err-require-3.ensures.1 in
    rw (no.1)
    (words_kept _ _ _ _ c.read_values-whole.ensures.words_after (sym c.read_values-whole.ensures.value ∙ c.in_err-require-3.ensures.1))

pub returns : goal.returns
returns c =
    let bytes : (i : ℕ) → get_or c.args.text.now i 0 < 256 = (λ i. omega (arith, c.type_inv.text i)) in
    let same = c.write_symbols-count.ensures.1 in
    let meant = text_meant _ _ bytes same in
    let declared = sym (declared_text _ _ _ same bytes _ _ c.all_declared-declared.ensures) ∙ c.in_ok-require-2.ensures in
    let reads = sym (whole_text _ _ _ meant c.read_values-whole.ensures.value) ∙ c.in_ok-require-3.ensures in
    let size : length c.args.words.now ≡ 2 ^ (c.args.letters.unknowns + c.args.letters.givens - 6) =
    c.requires.1 ∙ ap (λ (n : ℕ). 2 ^ (n - 6)) c.args.letters.n_is in
    record {
      value = symbols_yes _ _ _ (sym (signs_text _ _ _ same bytes c.all_signs.ensures) ∙ c.in_ok-require.ensures) declared reads;
      words_after = words_text _ _ _ _ _ _ c.read_values-whole.ensures.words_after (record { declared = declared; reads = reads }) meant
          (sym c.read_values-whole.ensures.value ∙ c.in_ok-require-3.ensures) size;
    }
