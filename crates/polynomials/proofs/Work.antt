-- The steps of the inner functions put together: a sum, a join, a product and a derivative by values, and the parts of a substitution.
-- Assumes nothing.
use mathlib.Core.Path.{◌≡◌, sym, ap, ap₂, ◌∙◌}
use mathlib.Core.Bool.{Bool, ◌&&◌, cond}
use mathlib.Core.List.{List}
use Prim.Native.Nat.{ℕ, ◌+◌, ◌-◌, ◌*◌, ◌/◌, ◌%◌, ◌^◌, ◌≤◌, ◌<◌}
use native.Mathlib.Omega.{arith}
use lib.Arith.{digits_div, digits_mod}
use lib.ListN.{length, take, drop}
use borrow.Author.Tests.{lt-ltb, le-ltb}
use Rattle.ring.specs.Letters.{bit}
use Rattle.ring.specs.Lists.{listed}
use Rattle.ring.specs.Polynomial.{Polynomial, ◌⊕◌, value, sum, product}
use Rattle.ring.specs.Join.{join}
use Rattle.ring.specs.Derivative.{derivative, flipped}
use Rattle.ring.specs.Table.{AreBits, IsTable, present, tabulate, table, held}
use Rattle.ring.proofs.Bool.{xor_comm, xor_assoc}
use Rattle.ring.proofs.Lists.{listed_cong}
use Rattle.ring.proofs.Value.{value_cong, value-product}
use Rattle.ring.proofs.Derivative.{flipped_lt, flipped_fewer, value-derivative}
use Rattle.ring.proofs.Table.{tabulate_cong, present-tabulate, is-table, present-table}
use Rattle.tables.proofs.Bits.{bits_take, bits_drop}
use Rattle.tables.proofs.Filled.{filled}
use Rattle.tables.proofs.Parts.{held_part}
use Rattle.words.specs.Inner.Words.{word_of, words_of, bit_at, answer_words}
use Rattle.words.proofs.Words.{words_cong, at_known, size_words}
use Rattle.words.proofs.Letters.{points, room, table_back}
use Rattle.words.proofs.Parts.{part_length_lem, parts_end, words_parts}
use Rattle.polynomials.specs.Inner.LookUp.{put_for}

-- a table that is made, and one with another added to it
pub made_table : (n : ℕ) (f : Polynomial) (o : List ℕ) → o ≡ table n f → IsTable n o
unfolding table
made_table n f o e = rw e (is-table n f)

pub added-table : (n : ℕ) (o t out : List ℕ) → IsTable n o → out ≡ tabulate (length o) (sum (present o) (present t)) → IsTable n out
added-table n o t out h e = rw (e, h.size) (is-table n (sum (present o) (present t)))

-- the product with both added to it is the join
pub join_done : (n : ℕ) (a b o₁ o₂ o₃ : List ℕ) → o₁ ≡ table n (product n (present a) (present b))
    → o₂ ≡ tabulate (length o₁) (sum (present o₁) (present a)) → o₃ ≡ tabulate (length o₂) (sum (present o₂) (present b))
    → o₃ ≡ table n (join n (present a) (present b))
unfolding join sum table
join_done n a b o₁ o₂ o₃ e₁ e₂ e₃ =
    e₃ ∙ ap (λ (k : ℕ). tabulate k (sum (present o₂) (present b))) (added-table n o₁ a o₂ first e₂).size
    ∙ tabulate_cong (2 ^ n) _ _ (λ m l.
    ap (λ (x : Bool). x ⊕ present b m) (second m l) ∙ xor_assoc (product n (present a) (present b) m) (present a m) (present b m)
    ∙ xor_comm (product n (present a) (present b) m) (present a m ⊕ present b m))
  where
    first : IsTable n o₁
    first = made_table n (product n (present a) (present b)) o₁ e₁

    second : (m : ℕ) → m < 2 ^ n → present o₂ m ≡ (product n (present a) (present b) m ⊕ present a m)
    second m l =
        ap (λ (t : List ℕ). present t m) (e₂ ∙ ap (λ (k : ℕ). tabulate k (sum (present o₁) (present a))) first.size)
        ∙ present-tabulate (2 ^ n) (sum (present o₁) (present a)) m l
        ∙ ap (λ (x : Bool). x ⊕ present a m) (ap (λ (t : List ℕ). present t m) e₁ ∙ present-table n (product n (present a) (present b)) m l)

-- to values, point by point, and back
pub product_done : (n k : ℕ) (a b x y z out : List ℕ) → k ≡ 2 ^ (n - 6) → x ≡ words_of (2 ^ (n - 6)) (value n (present a))
    → y ≡ words_of (2 ^ (n - 6)) (value n (present b))
    → z ≡ words_of k (λ p. bit_at x p && bit_at y p) → out ≡ table n (value n (bit_at z)) → out ≡ table n (product n (present a) (present b))
product_done n k a b x y z out ek ex ey ez eo =
    eo ∙ table_back n (product n (present a) (present b)) z (λ p l.
    let m : p < 64 * 2 ^ (n - 6) = omega (arith, room n) in
    at_known (2 ^ (n - 6)) _ z (ez ∙ ap (λ (q : ℕ). words_of q (λ p. bit_at x p && bit_at y p)) ek) p m
    ∙ ap₂ ◌&&◌ (at_known (2 ^ (n - 6)) _ x ex p m) (at_known (2 ^ (n - 6)) _ y ey p m)
    ∙ sym (value-product n (present a) (present b) p))

-- a mask in as many letters as words have, which are six or more
pub mask_fits : (n c s : ℕ) → c ≡ n - 6 → s < 2 ^ n → s < 2 ^ (6 + c)
mask_fits n c s e h = rw e (omega (arith, points n, room n))

-- to values, each with that at the flipped point, and back
pub derivative_done : (n c k s : ℕ) (t x y z out : List ℕ) → c ≡ n - 6 → k ≡ 2 ^ (n - 6) → s < 2 ^ n
    → x ≡ words_of (2 ^ (n - 6)) (value n (present t)) → y ≡ words_of (2 ^ c) (λ p. bit_at x (flipped (6 + c) s p))
    → z ≡ words_of k (λ p. bit_at x p ⊕ bit_at y p) → out ≡ table n (value n (bit_at z)) → out ≡ table n (derivative n s (present t))
derivative_done n c k s t x y z out ec ek h ex ey ez eo =
    eo ∙ table_back n (derivative n s (present t)) z (λ p l.
    let m : p < 64 * 2 ^ (n - 6) = omega (arith, room n) in
    let other : flipped (6 + c) s p ≡ flipped n s p = flipped_fewer n (6 + c) s p (omega arith) h l in
    at_known (2 ^ (n - 6)) _ z (ez ∙ ap (λ (q : ℕ). words_of q (λ p. bit_at x p ⊕ bit_at y p)) ek) p m
    ∙ ap₂ ◌⊕◌ (at_known (2 ^ (n - 6)) _ x ex p m)
    (at_known (2 ^ (n - 6)) _ y (ey ∙ ap (λ (q : ℕ). words_of (2 ^ q) (λ p. bit_at x (flipped (6 + c) s p))) ec) p m
    ∙ ap (bit_at x) other ∙ at_known (2 ^ (n - 6)) _ x ex (flipped n s p) (omega (arith, room n, flipped_lt n s p)))
    ∙ sym (value-derivative n s (present t) p))

-- the handed table j
module _ (n j size : ℕ) (t : List ℕ) (e : size ≡ 2 ^ n) where
  pub handed_table_lem : j * size + size ≤ length t → AreBits t → IsTable n (take (j * size + size - j * size) (drop (j * size) t))
  handed_table_lem fits bits =
      record {
        size = part_length_lem j size t fits
            ∙ e;
        bits = bits_take (j * size + size - j * size) (drop (j * size) t) (bits_drop (j * size) t bits);
      }

  pub unknown_part : (u k : ℕ) (ws : List ℕ) → j < u
      → ws ≡ words_of k (value n (present (take (j * size + size - j * size) (drop (j * size) t)))) → ws ≡ words_of k (put_for u n t j)
  unfolding put_for
  unknown_part u k ws h ew =
      let d : j * size + size - j * size ≡ 2 ^ n = omega arith in
      ew ∙ words_cong k _ _ (λ p l.
      value_cong n _ _ p (λ m i. ap₂ (λ (x y : ℕ). present (take x (drop (j * y) t)) m) d e ∙ held_part n j t m i)
      ∙ sym (ap (λ (b : Bool). cond b (value n (held n t j) p) (bit p j)) (lt-ltb j u h)))

pub given_part : (u n j k k' : ℕ) (t ws : List ℕ) → u ≤ j → ws ≡ words_of k (λ p. bit p j) → k ≡ k' → ws ≡ words_of k' (put_for u n t j)
unfolding put_for
given_part u n j k k' t ws h ew ek =
    ew ∙ ap (λ (x : ℕ). words_of x (λ p. bit p j)) ek
    ∙ words_cong k' _ _ (λ p l. sym (ap (λ (b : Bool). cond b (value n (held n t j) p) (bit p j)) (le-ltb j u h)))

-- ---- the parts, one after another
-- word w of all: word w % k of part w / k
unfoldable pub part_word : ℕ → (ℕ → ℕ → Bool) → ℕ → ℕ
part_word k h w = word_of (λ i. h (w / k) (64 * (w % k) + i))

part_word_lem : (k : ℕ) (h : ℕ → ℕ → Bool) (j w : ℕ) → w < k → part_word k h (j * k + w) ≡ word_of (λ i. h j (64 * w + i))
unfolding part_word
part_word_lem k h j w l = ap₂ (λ (x y : ℕ). word_of (λ i. h x (64 * y + i))) (digits_div j l) (digits_mod j l)

pub part_put : (j k k' : ℕ) (h : ℕ → ℕ → Bool) (ys : List ℕ) → ys ≡ words_of k' (h j) → k ≡ k'
    → ys ≡ listed k (λ w. part_word k h (j * k + w))
unfolding words_of
part_put j k k' h ys e ek = e ∙ ap (λ (x : ℕ). words_of x (h j)) (sym ek) ∙ listed_cong k _ _ (λ w l. sym (part_word_lem k h j w l))

pub parts_taken : (k size j : ℕ) (h : ℕ → ℕ → Bool) (t₀ t : List ℕ) → k ≡ size → j ≡ 6 → length t₀ ≡ 6 * size
    → t ≡ filled (j * k) (part_word k h) t₀ → 0 < size → t ≡ answer_words 6 size h
parts_taken k size j h t₀ t ek ej es e pos =
    parts_end 6 size j k (part_word k h) t₀ t ek ej es e ∙ ap (λ (x : ℕ). listed (6 * size) (part_word x h)) ek
    ∙ words_parts 6 size (part_word size h) h pos (λ x w _ l. part_word_lem size h x w l)

pub length_parts : (u k : ℕ) (h : ℕ → ℕ → Bool) (ws : List ℕ) → ws ≡ answer_words u k h → length ws ≡ u * k
unfolding answer_words
length_parts u k h ws e = size_words (u * k) _ ws e
