-- A sum that is counted as it is made: byte by byte in a block, and block by block.
-- Assumes nothing.
use mathlib.Core.Path.{◌≡◌, sym, ap, ap₂, ◌∙◌}
use mathlib.Core.List.{List}
use Prim.Native.Nat.{ℕ, ◌+◌, ◌-◌, ◌*◌, ◌^◌, ◌≤◌, ◌<◌}
use native.Mathlib.Omega.{arith}
use lib.Bits.{bit_xor}
use lib.ListN.{get_or, take, drop}
use lib.Pow.{pow-add, pow_mono}
use borrow.Rule.Slice.PartMut.{put_mid}
use Rattle.ring.specs.Letters.{digit}
use Rattle.ring.specs.Polynomial.{◌⊕◌, count, sum}
use Rattle.ring.specs.Table.{AreBits, present, tabulate, table}
use Rattle.ring.specs.Length.{monomial_count}
use Rattle.ring.proofs.Lists.{listed_cong, tabulate-listed}
use Rattle.ring.proofs.Length.{monomials-table}
use Rattle.ring.proofs.Table.{present_part}
use Rattle.ring.proofs.Parity.{count_cong, count_add}
use Rattle.tables.proofs.Bits.{xor_bytes}
use Rattle.tables.proofs.Filled.{filled}
use Rattle.words.proofs.Parts.{parts_more}

-- ---- one byte more
pub sum_byte : (a b : List ℕ) (m : ℕ) → AreBits a → AreBits b
    → bit_xor (get_or a m 0) (get_or b m 0) ≡ digit (sum (present a) (present b) m)
unfolding sum present
sum_byte a b m ha hb = xor_bytes _ _ (ha m) (hb m)

-- ---- one block more, of k bytes
module _ (w k : ℕ) (a b : List ℕ) where
  block_sum : (m : ℕ) → m < k
      → sum (present (take (w * k + k - w * k) (drop (w * k) a))) (present (take (w * k + k - w * k) (drop (w * k) b))) m
      ≡ sum (present a) (present b) (w * k + m)
  unfolding sum
  block_sum m l =
      let d : w * k + k - w * k ≡ k = omega arith in
      rw d (ap₂ ◌⊕◌ (present_part k (w * k) a m l) (present_part k (w * k) b m l))

  pub block_added : (size : ℕ) (t₀ t ys : List ℕ) → size ≡ k
      → t ≡ filled (w * k) (λ m. digit (sum (present a) (present b) m)) t₀
      → ys ≡ tabulate size (sum (present (take (w * k + k - w * k) (drop (w * k) a))) (present (take (w * k + k - w * k) (drop (w * k) b))))
      → put_mid (w * k) (w * k + k - w * k) t ys ≡ filled ((w + 1) * k) (λ m. digit (sum (present a) (present b) m)) t₀
  block_added size t₀ t ys es e ey =
      parts_more w k _ t₀ t ys e
      (ey ∙ rw es (tabulate-listed k _ ∙ listed_cong k _ _ (λ m l. ap digit (block_sum m l))))

  pub block_counted : (size ones r : ℕ) → size ≡ k → ones ≡ count (w * k) (sum (present a) (present b))
      → r ≡ count size (sum (present (take (w * k + k - w * k) (drop (w * k) a))) (present (take (w * k + k - w * k) (drop (w * k) b))))
      → ones + r ≡ count ((w + 1) * k) (sum (present a) (present b))
  block_counted size ones r es e er =
      let next : (w + 1) * k ≡ w * k + k = omega arith in
      ap₂ ◌+◌ e (er ∙ rw es (count_cong k _ _ block_sum))
      ∙ sym (ap (λ (x : ℕ). count x (sum (present a) (present b))) next ∙ count_add (w * k) k (sum (present a) (present b)))

-- ---- a whole table, in one block or in several
pub sum_made : (n k r : ℕ) (a b out : List ℕ) → k ≡ 2 ^ n → out ≡ tabulate k (sum (present a) (present b))
    → r ≡ count k (sum (present a) (present b))
    → (out ≡ table n (sum (present a) (present b))) × (r ≡ monomial_count n (present out))
unfolding table monomial_count
sum_made n k r a b out ek eo er =
    let made : out ≡ table n (sum (present a) (present b)) = rw ek at eo in (
      made,
      er ∙ ap (λ (x : ℕ). count x (sum (present a) (present b))) ek
          ∙ sym (ap (λ (t : List ℕ). monomial_count n (present t)) made ∙ monomials-table n (sum (present a) (present b))),
    )

pub whole_block : (n : ℕ) → n < 7 → 2 ^ n ≤ 128
whole_block n l = let m : n ≤ 7 = omega arith in pow_mono m

pub whole_blocks : (n k : ℕ) → k ≡ 2 ^ (n - 7) → 7 ≤ n → n ≤ 10 → (2 ^ n ≡ k * 128) × (k ≤ 8)
whole_blocks n k e l h =
    let s : n - 7 + 7 ≡ n = omega arith in
    let m : n - 7 ≤ 3 = omega arith in
    (ap (λ (x : ℕ). 2 ^ x) (sym s) ∙ pow-add 2 (n - 7) 7 ∙ ap (λ (x : ℕ). x * 128) (sym e), rw e (pow_mono m))
