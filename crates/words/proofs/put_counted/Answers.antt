-- `words::put_counted` meets its contract. Assumes nothing.
use mathlib.Core.Path.{◌≡◌, refl, sym, ap, ◌∙◌}
use Prim.Native.Nat.{ℕ, ◌-◌, ◌^◌}
use lib.ListN.{length}
use Rattle.words.proofs.Words.{size_words}
use Rattle.words.proofs.Letters.{table_put}
use Rattle.words.proofs.Packing.{large_size}
use Rattle.words.proofs.Crossing.{large_bytes}
use Rattle.words.proofs.Counts.{counted_few, counted-crossed}
use Rattle.words.proofs.put_counted.Goals as goal

pub returns-then-n-lt6 : goal.returns-then-n-lt6
returns-then-n-lt6 c = (
  table_put _ _ c.args.words.now _ _ c.further.ensures c.to_values.ensures c.unpack.ensures,
  counted_few c.args.n _ _ c.to_values.new.t _ c.if-n-lt6.true c.unpack.ensures refl
      c.count_few-found.ensures,
)

pub unpack_all-requires : goal.unpack_all-requires
unpack_all-requires c =
    let size : length c.cross_all.new.words ≡ 2 ^ (c.args.n - 6) = size_words _ _ _ c.cross_all.ensures ∙ size_words _ _ _ c.to_values.ensures
    ∙ ap (λ (x : ℕ). 2 ^ x) c.further.ensures in
    large_size c.args.n _ c.args.out.now c.if-n-lt6.false c.requires.2 size

pub returns : goal.returns
returns c =
    let words = c.to_values.new.t in
    let size : length words ≡ 2 ^ (c.args.n - 6) = size_words _ _ _ c.to_values.ensures ∙ ap (λ (x : ℕ). 2 ^ x) c.further.ensures in
    let bytes = large_bytes c.args.n words _ c.args.out.now _ size c.requires.2 c.cross_all.ensures c.unpack_all.ensures.0 in (
      table_put _ _ c.args.words.now _ _ c.further.ensures c.to_values.ensures bytes,
      counted-crossed c.args.n _ words _ _ (sym (large_size c.args.n _ c.args.out.now c.if-n-lt6.false c.requires.2 size) ∙ c.requires.2)
          c.cross_all.ensures bytes c.unpack_all.ensures.1 (size_words _ _ _ c.cross_all.ensures),
    )
