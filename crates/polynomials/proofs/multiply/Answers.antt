-- `polynomials::multiply` meets its contract. Assumes nothing.
use mathlib.Core.Path.{◌≡◌, sym, ap, ◌∙◌}
use mathlib.Core.Bool.{Bool, true, false, cond}
use mathlib.Core.List.{List}
use Prim.Native.Nat.{ℕ}
use Rattle.ring.specs.Polynomial.{value, product}
use Rattle.ring.specs.Table.{present, table}
use Rattle.words.specs.Inner.Words.{bit_at}
use Rattle.words.proofs.Words.{size_words}
use Rattle.polynomials.proofs.Work.{product_done}
use lib.Seq.{length-take-le}
use Rattle.words.proofs.Letters.{count_small}
use Rattle.polynomials.proofs.multiply.Goals as goal

-- what it counts, or not
counting : (b : Bool) (x r : ℕ) → b ≡ true → r ≡ x → r ≡ cond b x 0
counting b x r e er = er ∙ ap (λ (a : Bool). cond a x 0) (sym e)

not-counting : (b : Bool) (x : ℕ) → b ≡ false → 0 ≡ cond b x 0
not-counting b x e = ap (λ (a : Bool). cond a x 0) (sym e)

pub slice_bounds-first-end : goal.slice_bounds-first-end
slice_bounds-first-end c = sym (length-take-le _ _ (count_small _ _ c.word_count-k.ensures c.requires.0))

pub slice_bounds-second-end : goal.slice_bounds-second-end
slice_bounds-second-end c = sym (length-take-le _ _ (count_small _ _ c.word_count-k.ensures c.requires.0))

pub take_values-requires : goal.take_values-requires
take_values-requires c = (
  c.requires.0,
  c.requires.1,
  length-take-le _ _ (count_small _ _ c.word_count-k.ensures c.requires.0) ∙ c.word_count-k.ensures,
)

pub returns-then-counts : goal.returns-then-counts
returns-then-counts c = let made : (out : List ℕ)
    → (
    out ≡ table c.args.n (value c.args.n (bit_at c.multiply_into.new.d))
    → out ≡ table c.args.n (product c.args.n (present c.args.a.now) (present c.args.b.now))) = (λ out e. product_done _ _ c.args.a.now c.args.b.now _ _ _ _ (size_words _ _ _ c.take_values.ensures)
    c.take_values.ensures c.take_values-2.ensures c.multiply_into.ensures e) in
    let taken = c.if-counts.true in (
      made _ c.put_counted.ensures.0,
      counting _ _ _ taken c.put_counted.ensures.1,
    )

pub returns : goal.returns
returns c = let made : (out : List ℕ)
    → (
    out ≡ table c.args.n (value c.args.n (bit_at c.multiply_into.new.d))
    → out ≡ table c.args.n (product c.args.n (present c.args.a.now) (present c.args.b.now))) = (λ out e. product_done _ _ c.args.a.now c.args.b.now _ _ _ _ (size_words _ _ _ c.take_values.ensures)
    c.take_values.ensures c.take_values-2.ensures c.multiply_into.ensures e) in
    let left = c.if-counts.false in
    (made _ c.put_table.ensures, not-counting _ _ left)
