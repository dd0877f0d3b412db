-- The letters of a mask flipped: whole words change places for those beyond six, and the others are turned over one by one.
-- Assumes nothing.
use mathlib.Core.Path.{◌≡◌, refl, sym, ap, ap₂, ◌∙◌}
use mathlib.Core.Bool.{Bool, true, false, not, ◌&&◌, ◌||◌, and-false, or-true}
use mathlib.Core.List.{List}
use Prim.Native.Nat.{ℕ, suc, ◌+◌, ◌-◌, ◌*◌, ◌/◌, ◌%◌, ◌^◌, ◌≤◌, ◌<◌}
use native.Mathlib.Nat.{pow-suc}
use native.Mathlib.Omega.{arith}
use lib.Bits.{bit_xor, xor_lt}
use lib.Dec.{eqb, ltb}
use lib.ListN.{get_or}
use lib.Pow.{pow-add, pow_pos, pow_mono}
use borrow.Author.Tests.{eq-eqb, ne_eqb, eqb-true, eqb-false, ltb-true, ltb-false, lt-ltb, le-ltb}
use Rattle.ring.specs.Letters.{bit, point_where}
use Rattle.ring.specs.Polynomial.{◌⊕◌}
use Rattle.ring.specs.Derivative.{flipped}
use Rattle.ring.proofs.Bool.{xor_comm, xor_false}
use Rattle.ring.proofs.Bitwise.{xor_bit}
use Rattle.ring.proofs.Points.{bit_none, bit-assign, bit_assign_other, point_where_cong, same_letters}
use Rattle.ring.proofs.Derivative.{bit-flipped, flipped_lt, flipped-letter}
use Rattle.words.specs.Inner.Words.{words_of, bit_at, turned}
use Rattle.words.proofs.Bits.{bit_in, bit_over}
use Rattle.words.proofs.Words.{bit_at_lem, words_cong, at_known}
use Rattle.words.proofs.Holds.{Holds}
use Rattle.words.proofs.Turned.{turned_lt}

points : (c : ℕ) → 64 * 2 ^ c ≡ 2 ^ (6 + c)
points c = sym (pow-add 2 6 c)

-- ---- words that change places
-- a mask of letters beyond six: those below have no bit in it
low_none : (high t : ℕ) → t < 6 → bit (high * 64) t ≡ false
low_none high t h =
    let e : high * 64 ≡ 64 * high + 0 = omega arith in
    ap (λ (x : ℕ). bit x t) e ∙ bit_in t high 0 h ∙ bit_none 0 t (pow_pos t)

high_own : (high j : ℕ) → bit (high * 64) (6 + j) ≡ bit high j
high_own high j =
    let e : high * 64 ≡ 64 * high + 0 = omega arith in
    ap (λ (x : ℕ). bit x (6 + j)) e ∙ bit_over j high 0 (omega arith)

pub flip_room : (c high i k : ℕ) → high < 2 ^ c → i < k → k ≡ 2 ^ c → bit_xor i high < 2 ^ c
flip_room c high i k h l e = xor_lt c i high (omega arith) h

high_point : (c high i b : ℕ) → bit_xor i high < 2 ^ c → b < 64 → flipped (6 + c) (high * 64) (64 * i + b) ≡ 64 * bit_xor i high + b
high_point c high i b room l =
    same_letters (6 + c) _ _ (flipped_lt (6 + c) (high * 64) (64 * i + b)) (omega (arith, points c))
    (λ t k. bit-flipped (6 + c) (high * 64) (64 * i + b) t k ∙ go t (ltb t 6) refl)
  where
    go : (t : ℕ) (a : Bool) → ltb t 6 ≡ a → (bit (64 * i + b) t ⊕ bit (high * 64) t) ≡ bit (64 * bit_xor i high + b) t
    go t true e =
        let h : t < 6 = ltb-true t 6 e in
        ap₂ ◌⊕◌ (bit_in t i b h) (low_none high t h) ∙ xor_false (bit b t) ∙ sym (bit_in t (bit_xor i high) b h)
    go t false e =
        let h : 6 ≤ t = ltb-false t 6 e in
        let q : t ≡ 6 + (t - 6) = omega arith in
        ap (λ (x : ℕ). bit (64 * i + b) x ⊕ bit (high * 64) x) q ∙ ap₂ ◌⊕◌ (bit_over (t - 6) i b l) (high_own high (t - 6))
        ∙ sym (ap (bit (64 * bit_xor i high + b)) q ∙ bit_over (t - 6) (bit_xor i high) b l ∙ xor_bit i high (t - 6))

pub flip_high_holds : (f : List ℕ) (c high i : ℕ) → bit_xor i high < 2 ^ c → get_or f (bit_xor i high) 0 < 2 ^ 64
    → Holds (get_or f (bit_xor i high) 0) (λ b. bit_at f (flipped (6 + c) (high * 64) (64 * i + b)))
flip_high_holds f c high i room small =
    record { small = small; bits = λ b l. sym (ap (bit_at f) (high_point c high i b room l) ∙ bit_at_lem f (bit_xor i high) b l) }

-- one of them alone is turned over
pub high_small : (x c s : ℕ) → 6 ≤ x → x < 6 + c → s ≡ 2 ^ (x - 6) → s < 2 ^ c
high_small x c s h l e =
    let m : suc (x - 6) ≤ c = omega arith in
    let w : 2 ^ suc (x - 6) ≤ 2 ^ c = pow_mono m in
    omega (arith, pow-suc 2 (x - 6), pow_pos (x - 6))

pub turned_high : (c x s : ℕ) (f ws : List ℕ) → 6 ≤ x → x < 6 + c → s ≡ 2 ^ (x - 6)
    → ws ≡ words_of (2 ^ c) (λ p. bit_at f (flipped (6 + c) (s * 64) p))
    → ws ≡ words_of (2 ^ c) (λ p. bit_at f (turned x p))
unfolding turned
turned_high c x s f ws h l es e =
    let q : x - 6 + 6 ≡ x = omega arith in
    let m : s * 64 ≡ 2 ^ x = ap (λ (y : ℕ). y * 64) es ∙ sym (pow-add 2 (x - 6) 6) ∙ ap (λ (y : ℕ). 2 ^ y) q in
    e ∙ words_cong (2 ^ c) _ _ (λ p k.
    ap (bit_at f) (ap (λ (y : ℕ). flipped (6 + c) y p) m ∙ flipped-letter (6 + c) x p l (omega (arith, points c))))

-- ---- the letters below six, one by one
-- the letters of s that are done: those from the sixth on, and those below x
done : ℕ → ℕ → ℕ → Bool
done s x t = (not (ltb t 6) || ltb t x) && bit s t

pub flipped_to : ℕ → ℕ → ℕ → ℕ → ℕ
flipped_to n s x p = point_where n (λ t. bit p t ⊕ done s x t)

pub mask_high : (c s : ℕ) → s < 2 ^ (6 + c) → s / 2 ^ 6 < 2 ^ c
mask_high c s h = omega (arith, points c)

module _ (c s : ℕ) (f : List ℕ) where
  pub flip_start : (high : ℕ) (ws : List ℕ) → high ≡ s / 2 ^ 6 → ws ≡ words_of (2 ^ c) (λ p. bit_at f (flipped (6 + c) (high * 64) p))
      → ws ≡ words_of (2 ^ c) (λ p. bit_at f (flipped_to (6 + c) s 0 p))
  unfolding flipped_to done flipped
  flip_start high ws eh e =
      e ∙ words_cong (2 ^ c) _ _ (λ p l. ap (bit_at f) (point_where_cong (6 + c) _ _ (λ t k. ap (λ (x : Bool). bit p t ⊕ x) (go t (ltb t 6) refl))))
    where
      go : (t : ℕ) (b : Bool) → ltb t 6 ≡ b → bit (high * 64) t ≡ ((not b || ltb t 0) && bit s t)
      go t true q = low_none high t (ltb-true t 6 q) ∙ sym (ap (λ (x : Bool). x && bit s t) (le-ltb t 0 (omega arith)))
      go t false q =
          let h : 6 ≤ t = ltb-false t 6 q in
          let d : t ≡ 6 + (t - 6) = omega arith in
          let w : s ≡ 64 * high + s % 64 = omega arith in
          ap (bit (high * 64)) d ∙ high_own high (t - 6)
          ∙ sym (ap₂ bit w d ∙ bit_over (t - 6) high (s % 64) (omega arith))

  -- another letter than x is done behind x exactly if it is before
  done_other : (x t : ℕ) → eqb t x ≡ false → done s x t ≡ done s (x + 1) t
  unfolding done
  done_other x t e = ap (λ (y : Bool). (not (ltb t 6) || y) && bit s t) (go (ltb t x) refl)
    where
      go : (b : Bool) → ltb t x ≡ b → b ≡ ltb t (x + 1)
      go true l = sym (lt-ltb t (x + 1) (omega (arith, ltb-true t x l)))
      go false l =
          let h : x ≤ t = ltb-false t x l in
          let d : x + 1 ≤ t = omega (arith, eqb-false t x e) in
          sym (le-ltb t (x + 1) d)

  pub flip_more : (x : ℕ) (ws ws' : List ℕ) → x < 6 → s / 2 ^ x % 2 ≡ 1
      → ws ≡ words_of (2 ^ c) (λ p. bit_at f (flipped_to (6 + c) s x p)) → ws' ≡ words_of (2 ^ c) (λ p. bit_at ws (turned x p))
      → ws' ≡ words_of (2 ^ c) (λ p. bit_at f (flipped_to (6 + c) s (x + 1) p))
  unfolding flipped_to done turned bit
  flip_more x ws ws' h b e e' =
      e' ∙ words_cong (2 ^ c) _ _ (λ p l.
      at_known (2 ^ c) _ ws e (turned x p) (room p l)
      ∙ ap (bit_at f) (point_where_cong (6 + c) _ _ (λ t k. go p t (eqb t x) refl)))
    where
      room : (p : ℕ) → p < 64 * 2 ^ c → turned x p < 64 * 2 ^ c
      room p l = omega (arith, points c, turned_lt (6 + c) x p (omega arith) (omega (arith, points c)))

      go : (p t : ℕ) (a : Bool) → eqb t x ≡ a → (bit (turned x p) t ⊕ done s x t) ≡ (bit p t ⊕ done s (x + 1) t)
      go p t true q =
          let d : t ≡ x = eqb-true t x q in
          ap (λ (y : ℕ). bit (turned x p) y ⊕ ((not (ltb y 6) || ltb y x) && bit s y)) d
          ∙ ap₂ ◌⊕◌ (bit-assign p x (not (bit p x)))
          (ap₂ (λ (y z : Bool). (not y || z) && bit s x) (lt-ltb x 6 h) (le-ltb x x (omega arith)))
          ∙ xor_false (not (bit p x)) ∙ xor_comm true (bit p x)
          ∙ sym (ap (λ (y : ℕ). bit p y ⊕ ((not (ltb y 6) || ltb y (x + 1)) && bit s y)) d
          ∙ ap (λ (y : Bool). bit p x ⊕ y)
          (ap₂ (λ (y z : Bool). (not (ltb x 6) || y) && z) (lt-ltb x (x + 1) (omega arith)) (eq-eqb (s / 2 ^ x % 2) 1 b)
          ∙ ap (λ (y : Bool). y && true) (or-true (not (ltb x 6)))))
      go p t false q = ap₂ ◌⊕◌ (bit_assign_other p t x (not (bit p x)) (eqb-false t x q)) (done_other x t q)

  pub flip_skip : (x : ℕ) (ws : List ℕ) → (s / 2 ^ x % 2 ≡ 1 → ⊥)
      → ws ≡ words_of (2 ^ c) (λ p. bit_at f (flipped_to (6 + c) s x p)) → ws ≡ words_of (2 ^ c) (λ p. bit_at f (flipped_to (6 + c) s (x + 1) p))
  unfolding flipped_to done bit
  flip_skip x ws b e =
      e ∙ words_cong (2 ^ c) _ _ (λ p l. ap (bit_at f) (point_where_cong (6 + c) _ _ (λ t k. ap (λ (y : Bool). bit p t ⊕ y) (go t (eqb t x) refl))))
    where
      go : (t : ℕ) (a : Bool) → eqb t x ≡ a → done s x t ≡ done s (x + 1) t
      go t true q =
          let n : bit s t ≡ false = ap (bit s) (eqb-true t x q) ∙ ne_eqb (s / 2 ^ x % 2) 1 b in
          ap (λ (y : Bool). (not (ltb t 6) || ltb t x) && y) n ∙ and-false (not (ltb t 6) || ltb t x)
          ∙ sym (ap (λ (y : Bool). (not (ltb t 6) || ltb t (x + 1)) && y) n ∙ and-false (not (ltb t 6) || ltb t (x + 1)))
      go t false q = done_other x t q

  pub flip_end : (x : ℕ) (ws : List ℕ) → 6 ≤ x → x ≤ 6 → ws ≡ words_of (2 ^ c) (λ p. bit_at f (flipped_to (6 + c) s x p))
      → ws ≡ words_of (2 ^ c) (λ p. bit_at f (flipped (6 + c) s p))
  unfolding flipped_to done flipped
  flip_end x ws h l e =
      let six : x ≡ 6 = omega arith in
      e ∙ words_cong (2 ^ c) _ _ (λ p k. ap (bit_at f) (point_where_cong (6 + c) _ _ (λ t m.
      ap (λ (y : Bool). bit p t ⊕ y) (ap (λ (y : ℕ). (not (ltb t 6) || ltb t y) && bit s t) six ∙ go t (ltb t 6)))))
    where
      go : (t : ℕ) (a : Bool) → ((not a || a) && bit s t) ≡ bit s t
      go t true = refl
      go t false = refl
