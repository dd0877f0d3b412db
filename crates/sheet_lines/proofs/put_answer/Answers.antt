-- Question 1, room for the values, and once no question is answered no, the entry of the text's values. Assumes nothing.
use mathlib.Core.Path.{◌≡◌, refl, sym, ◌∙◌}
use lib.Seq.{length-take-le}
use Rattle.std.proofs.lemmas.Result.{err_from_is_err_and}
use Rattle.words.proofs.Letters.{count_small}
use Rattle.grammar.specs.Text.{text_table}
use Rattle.sheet_lines.specs.Inner.Feeding.{table_of}
use Rattle.sheet_lines.proofs.Refusals.{refused_letters, route_passes}
use Rattle.sheet_lines.proofs.Entries.{text_values, text_table_lem}
use Rattle.sheet_lines.proofs.put_answer.Goals as goal

pub returns-in_err-letters : goal.returns-in_err-letters
returns-in_err-letters c =
    let no = err_from_is_err_and c.from_residual.result c.from_residual.ensures.1 in
    rw (no.1, no.2, c.in_err-letters.ensures.0) (refused_letters _ _ _ _ _ c.in_err-letters.ensures.1, refl)

pub slice_bounds-room-end : goal.slice_bounds-room-end
slice_bounds-room-end c = count_small _ _ c.word_count-k.ensures c.in_ok-letters.letters.n_fits

pub slice_bounds-values-end : goal.slice_bounds-values-end
slice_bounds-values-end c = sym (length-take-le _ _ (count_small _ _ c.word_count-k.ensures c.in_ok-letters.letters.n_fits))

pub line_values-requires : goal.line_values-requires
line_values-requires c =
    let letters = c.in_ok-letters.ensures in (
      rw (letters.0, letters.1) letters.2,
      length-take-le _ _ (count_small _ _ c.word_count-k.ensures c.in_ok-letters.letters.n_fits) ∙ c.word_count-k.ensures,
    )

pub put_entry-requires : goal.put_entry-requires
put_entry-requires c =
    let letters = c.in_ok-letters.ensures in (
      rw (letters.0, letters.1) letters.2,
      route_passes _ _ _ _ _ c.in_ok-line_values.ensures.value,
      rw c.in_ok-letters.letters.n_is (text_values _ _ c.args.text.now c.in_ok-line_values.ensures.values_after),
      c.requires,
    )

pub returns : goal.returns
returns c =
    let letters = c.in_ok-letters.ensures in
    let is : table_of c.in_ok-letters.letters.n c.line_values.new.values
    ≡ text_table c.in_ok-letters.letters.unknowns c.in_ok-letters.letters.givens c.args.text.now =
    rw c.in_ok-letters.letters.n_is (text_table_lem _ _ c.args.text.now c.in_ok-line_values.ensures.values_after) in
    rw (← letters.0, ← letters.1) (record { none_no = c.in_ok-line_values.ensures.value; put = rw (← is) c.put_entry.ensures })
