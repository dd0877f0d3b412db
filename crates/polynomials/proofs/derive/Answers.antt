-- `polynomials::derive` meets its contract. Assumes nothing.
use mathlib.Core.Path.{◌≡◌, sym, ap, ◌∙◌}
use Prim.Native.Nat.{ℕ, ◌^◌}
use Rattle.words.proofs.Words.{size_words}
use Rattle.polynomials.proofs.Work.{mask_fits, derivative_done}
use lib.Seq.{length-take-le}
use Rattle.words.proofs.Letters.{count_small}
use Rattle.polynomials.proofs.derive.Goals as goal

pub slice_bounds-values-end : goal.slice_bounds-values-end
slice_bounds-values-end c = sym (length-take-le _ _ (count_small _ _ c.word_count-k.ensures c.requires.0))

pub slice_bounds-flipped-end : goal.slice_bounds-flipped-end
slice_bounds-flipped-end c = sym (length-take-le _ _ (count_small _ _ c.word_count-k.ensures c.requires.0))

pub take_values-requires : goal.take_values-requires
take_values-requires c = (
  c.requires.0,
  c.requires.1,
  length-take-le _ _ (count_small _ _ c.word_count-k.ensures c.requires.0) ∙ c.word_count-k.ensures,
)

pub flip-requires : goal.flip-requires
flip-requires c = let letters : 2 ^ _ ≡ 2 ^ _ = ap (λ (x : ℕ). 2 ^ x) (sym c.further.ensures) in (
  mask_fits _ _ _ c.further.ensures c.requires.2,
  size_words _ _ _ c.take_values.ensures ∙ letters,
  length-take-le _ _ (count_small _ _ c.word_count-k.ensures c.requires.0) ∙ c.word_count-k.ensures ∙ letters,
)

pub returns : goal.returns
returns c =
    derivative_done _ _ _ _ c.args.t.now _ _ _ _ c.further.ensures (size_words _ _ _ c.take_values.ensures)
    c.requires.2 c.take_values.ensures c.flip.ensures c.add_into.ensures
    c.put_table.ensures
