-- `polynomials::substitute` meets its contract: to values, the handed polynomials put in, and back. Assumes nothing.
use Rattle.polynomials.proofs.LookUp.{substitute_done}
use mathlib.Core.Path.{sym, ap, ◌∙◌}
use Prim.Native.Nat.{ℕ, ◌*◌, ◌≤◌}
use native.Mathlib.Omega.{arith}
use Rattle.words.proofs.Words.{size_words}
use lib.Seq.{length-take-le}
use Rattle.words.proofs.Letters.{count_small}
use Rattle.polynomials.proofs.substitute.Goals as goal

pub slice_bounds-f-end : goal.slice_bounds-f-end
slice_bounds-f-end c = sym (length-take-le _ _ (count_small _ _ c.word_count-k.ensures c.args.letters.n_fits))

pub slice_bounds-parts-end : goal.slice_bounds-parts-end
slice_bounds-parts-end c =
    let one : c.word_count-k.result ≤ 16 = count_small _ _ c.word_count-k.ensures c.args.letters.n_fits in
    sym (length-take-le _ _ (omega (arith, one)))

pub take_values-requires : goal.take_values-requires
take_values-requires c = (
  c.args.letters.n_fits,
  c.requires.0,
  length-take-le _ _ (count_small _ _ c.word_count-k.ensures c.args.letters.n_fits) ∙ c.word_count-k.ensures,
)

pub put_handed-requires : goal.put_handed-requires
put_handed-requires c =
    let letters = c.args.letters in
    let one : c.word_count-k.result ≤ 16 = count_small _ _ c.word_count-k.ensures letters.n_fits in (
      letters.unknowns_fit,
      omega (arith, letters.n_is),
      letters.n_fits,
      c.requires.1,
      c.requires.2,
      size_words _ _ _ c.take_values.ensures,
      length-take-le _ _ (omega (arith, one)) ∙ ap (λ (k : ℕ). 6 * k) c.word_count-k.ensures,
    )

pub returns : goal.returns
returns c = (
  substitute_done _ _ c.args.condition.now c.args.handed.now _ _ _ c.put_handed.ensures.0
      c.take_values.ensures c.put_counted.ensures.0,
  c.put_counted.ensures.1,
)
