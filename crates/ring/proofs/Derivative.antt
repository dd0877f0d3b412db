-- The laws of the vectorial derivative (document 02, C-13), over every n, S, f and h. By values: at a point it compares f there with f at the
-- flipped point (`value-derivative`).
-- Assumes nothing.
use mathlib.Core.Path.{◌≡◌, refl, sym, ap, ap₂, ◌∙◌}
use mathlib.Core.Logic.{◌↔◌}
use mathlib.Core.Bool.{Bool, true, false, not, cond}
use mathlib.Core.List.{[], ◌∷◌}
use Prim.Native.Nat.{ℕ, ◌+◌, ◌-◌, ◌/◌, ◌%◌, ◌^◌, ◌≤◌, ◌<◌}
use native.Mathlib.Nat.{add_comm, mod-lt}
use native.Mathlib.Omega.{arith}
use lib.Bits.{xor_lt}
use lib.Dec.{eqb, ltb}
use lib.Pow.{pow_pos, pow_mono, shr_lt, split}
use borrow.Author.Tests.{eqb-true, eqb-false, ltb-true, ltb-false}
use Rattle.ring.specs.declared.State.{State}
use Rattle.ring.specs.declared.Choice.{Choice}
use Rattle.ring.specs.Letters.{bit, point, point_where, assign}
use Rattle.ring.specs.Polynomial.{Polynomial, ◌⊕◌, count, odd, value, constant, letter, sum, product, restrict, monomial, substitute}
use Rattle.ring.specs.Table.{tabulate, table}
use Rattle.ring.specs.Derivative.{inverted, derivative, flipped, flipped_state, flipped_choice}
use Rattle.ring.proofs.Bool.{xor_self, xor_comm, xor_false, ac}
use Rattle.ring.proofs.Points.{bit_none, assign-bit, bit-assign, bit_assign_other, assign_lt, assign_set, point_where_cong, point_where_bits}
use Rattle.ring.proofs.Points.{point_where_lt, bit-point_where, same_letters, bit_low, bit_high, bit_choice, bit_state, point_lt}
use Rattle.ring.proofs.Bitwise.{xor_bit}
use Rattle.ring.proofs.Restrict.{value-restrict}
use Rattle.ring.proofs.Value.{value_cong, value_none, value-sum, same_values}
use Rattle.ring.proofs.Substitute.{value-constant, value-letter, value-substitute}

-- the product of two letters, both inverted, and each alone; the point 6 with letters 0 and 2 flipped
pub derivative_rows : (table 2 (derivative 2 3 (product 2 (letter 0) (letter 1))) ≡ 1 ∷ 1 ∷ 1 ∷ 0 ∷ [])
    × (table 2 (derivative 2 1 (product 2 (letter 0) (letter 1))) ≡ 0 ∷ 0 ∷ 1 ∷ 0 ∷ [])
    × (table 2 (derivative 2 2 (product 2 (letter 0) (letter 1))) ≡ 0 ∷ 1 ∷ 0 ∷ 0 ∷ [])
    × (flipped 3 5 6 ≡ 3)
unfolding table tabulate derivative inverted flipped point_where sum product substitute monomial odd count letter constant bit
derivative_rows = (refl, refl, refl, refl)

-- ---- flipped points
pub bit-flipped : (n S p j : ℕ) → j < n → bit (flipped n S p) j ≡ (bit p j ⊕ bit S j)
unfolding flipped
bit-flipped n S p = bit-point_where n (λ j. bit p j ⊕ bit S j)

pub flipped_lt : (n S p : ℕ) → flipped n S p < 2 ^ n
unfolding flipped
flipped_lt n S p = point_where_lt n _

-- flipped twice, a point is itself
pub flipped_back : (n S p : ℕ) → p < 2 ^ n → flipped n S (flipped n S p) ≡ p
flipped_back n S p l =
    same_letters n _ p (flipped_lt n S (flipped n S p)) l
    (λ j k. bit-flipped n S (flipped n S p) j k ∙ ap (λ (x : Bool). x ⊕ bit S j) (bit-flipped n S p j k) ∙ cancel (bit p j) (bit S j))
  where
    cancel : (a b : Bool) → (a ⊕ b ⊕ b) ≡ a
    cancel true true = refl
    cancel true false = refl
    cancel false true = refl
    cancel false false = refl

pub flipped_none : (n p : ℕ) → p < 2 ^ n → flipped n 0 p ≡ p
unfolding flipped
flipped_none n p l =
    point_where_cong n _ _ (λ j k. ap (λ (x : Bool). bit p j ⊕ x) (bit_none 0 j (pow_pos j)) ∙ xor_false (bit p j)) ∙ point_where_bits n p l

-- one letter
bit_of_letter : (j i : ℕ) → bit (2 ^ j) i ≡ eqb i j
bit_of_letter j i =
    let e : 2 ^ j ≡ assign 0 j true = omega (arith, assign_set 0 j (bit_none 0 j (pow_pos j))) in
    ap (λ (x : ℕ). bit x i) e ∙ go (eqb i j) refl
  where
    go : (b : Bool) → eqb i j ≡ b → bit (assign 0 j true) i ≡ b
    go true e = ap (bit (assign 0 j true)) (eqb-true i j e) ∙ bit-assign 0 j true
    go false e = bit_assign_other 0 i j true (eqb-false i j e) ∙ bit_none 0 i (pow_pos i)

pub flipped-letter : (n j p : ℕ) → j < n → p < 2 ^ n → flipped n (2 ^ j) p ≡ assign p j (not (bit p j))
flipped-letter n j p h l =
    same_letters n _ _ (flipped_lt n (2 ^ j) p) (assign_lt n p j (not (bit p j)) l h)
    (λ i k. bit-flipped n (2 ^ j) p i k ∙ ap (λ (x : Bool). bit p i ⊕ x) (bit_of_letter j i) ∙ go i (eqb i j) refl)
  where
    go : (i : ℕ) (b : Bool) → eqb i j ≡ b → (bit p i ⊕ b) ≡ bit (assign p j (not (bit p j))) i
    go i true e =
        let q : i ≡ j = eqb-true i j e in
        xor_comm (bit p i) true ∙ ap (λ (x : ℕ). not (bit p x)) q
        ∙ sym (ap (bit (assign p j (not (bit p j)))) q ∙ bit-assign p j (not (bit p j)))
    go i false e = xor_false (bit p i) ∙ sym (bit_assign_other p i j (not (bit p j)) (eqb-false i j e))

-- 'bits as in a monomial': the flipped point is that of the flipped state and the flipped choice
pub flipped-point : (U G S : ℕ) (state : State) (choice : Choice) → S < 2 ^ (U + G) → state.0 < 2 ^ G → choice.0 < 2 ^ U
    → flipped (U + G) S (point U state choice) ≡ point U (flipped_state U S state) (flipped_choice U S choice)
unfolding flipped_state flipped_choice
flipped-point U G S state choice hS hs hc =
    same_letters (U + G) _ _ (flipped_lt (U + G) S (point U state choice)) (point_lt U G state' choice' (xor_lt G _ _ hs high_lt) low_flipped)
    (λ i l. bit-flipped (U + G) S (point U state choice) i l ∙ go i (ltb i U) refl)
  where
    state' : State
    state' = flipped_state U S state

    choice' : Choice
    choice' = flipped_choice U S choice

    low_lt : S % 2 ^ U < 2 ^ U
    low_lt = mod-lt S (pow_pos U)

    high_lt : S / 2 ^ U < 2 ^ G
    high_lt = shr_lt G U (rw (add_comm G U) hS)

    low_flipped : choice'.0 < 2 ^ U
    low_flipped = xor_lt U choice.0 (S % 2 ^ U) hc low_lt

    go : (i : ℕ) (b : Bool) → ltb i U ≡ b → (bit (point U state choice) i ⊕ bit S i) ≡ bit (point U state' choice') i
    go i true e =
        let h : i < U = ltb-true i U e in
        ap₂ ◌⊕◌ (bit_choice U state choice i h) (ap (λ (x : ℕ). bit x i) (sym (split S U)) ∙ bit_low (S / 2 ^ U) (S % 2 ^ U) U i h)
        ∙ sym (bit_choice U state' choice' i h ∙ xor_bit choice.0 (S % 2 ^ U) i)
    go i false e =
        let h : U ≤ i = ltb-false i U e in
        let q : i ≡ U + (i - U) = omega arith in
        ap (λ (x : ℕ). bit (point U state choice) x ⊕ bit S x) q
        ∙ ap₂ ◌⊕◌ (bit_state U state choice (i - U) hc)
        (ap (λ (x : ℕ). bit x (U + (i - U))) (sym (split S U)) ∙ bit_high (S / 2 ^ U) (S % 2 ^ U) U (i - U) low_lt)
        ∙ sym (ap (bit (point U state' choice')) q ∙ bit_state U state' choice' (i - U) low_flipped ∙ xor_bit state.0 (S / 2 ^ U) (i - U))

-- more letters than the mask and the point have
pub flipped_fewer : (n k S p : ℕ) → n ≤ k → S < 2 ^ n → p < 2 ^ n → flipped k S p ≡ flipped n S p
flipped_fewer n k S p h hS hp =
    let wider : 2 ^ n ≤ 2 ^ k = pow_mono h in
    same_letters k _ _ (flipped_lt k S p) (omega (arith, flipped_lt n S p))
    (λ i l. bit-flipped k S p i l ∙ go i (ltb i n) refl)
  where
    go : (i : ℕ) (b : Bool) → ltb i n ≡ b → (bit p i ⊕ bit S i) ≡ bit (flipped n S p) i
    go i true e = sym (bit-flipped n S p i (ltb-true i n e))
    go i false e =
        let m : n ≤ i = ltb-false i n e in
        let wide : 2 ^ n ≤ 2 ^ i = pow_mono m in
        ap₂ ◌⊕◌ (bit_none p i (omega arith)) (bit_none S i (omega arith)) ∙ sym (bit_none (flipped n S p) i (omega (arith, flipped_lt n S p)))

-- ---- values
-- f with the letters of S inverted, at a point, is f at the point with these letters flipped
pub value-inverted : (n S : ℕ) (f : Polynomial) (p : ℕ) → value n (substitute n n f (inverted S)) p ≡ value n f (flipped n S p)
unfolding inverted flipped
value-inverted n S f p =
    value-substitute n n f (inverted S) p ∙ ap (value n f) (point_where_cong n _ _ (λ j k. go j k (bit S j)))
  where
    go : (j : ℕ) → j < n → (b : Bool) → value n (cond b (sum (constant true) (letter j)) (letter j)) p ≡ (bit p j ⊕ b)
    go j k true =
        value-sum n (constant true) (letter j) p ∙ ap₂ ◌⊕◌ (value-constant n true p) (value-letter n j p k) ∙ xor_comm true (bit p j)
    go j k false = value-letter n j p k ∙ sym (xor_false (bit p j))

pub value-derivative : (n S : ℕ) (f : Polynomial) (p : ℕ) → value n (derivative n S f) p ≡ (value n f p ⊕ value n f (flipped n S p))
unfolding derivative
value-derivative n S f p =
    value-sum n f (substitute n n f (inverted S)) p ∙ ap (λ (x : Bool). value n f p ⊕ x) (value-inverted n S f p)

-- it does not change when S is flipped
pub derivative-flipped : (n S : ℕ) (f : Polynomial) (p : ℕ) → p < 2 ^ n
    → value n (derivative n S f) (flipped n S p) ≡ value n (derivative n S f) p
derivative-flipped n S f p l =
    value-derivative n S f (flipped n S p) ∙ ap (λ (x : ℕ). value n f (flipped n S p) ⊕ value n f x) (flipped_back n S p l)
    ∙ xor_comm (value n f (flipped n S p)) (value n f p) ∙ sym (value-derivative n S f p)

-- ---- which monomials it has
-- it looks at masks below 2 ^ n alone
pub derivative_cong : (n S : ℕ) (f g : Polynomial) → ((m : ℕ) → m < 2 ^ n → f m ≡ g m)
    → (m : ℕ) → m < 2 ^ n → derivative n S f m ≡ derivative n S g m
derivative_cong n S f g e =
    same_values n (derivative n S f) (derivative n S g) (λ p l.
    value-derivative n S f p ∙ ap₂ ◌⊕◌ (value_cong n f g p e) (value_cong n f g (flipped n S p) e) ∙ sym (value-derivative n S g p))

-- it has none exactly when no flip changes the value anywhere
pub derivative_none : (n S : ℕ) (f : Polynomial)
    → ((m : ℕ) → m < 2 ^ n → derivative n S f m ≡ false) ↔ ((p : ℕ) → p < 2 ^ n → value n f (flipped n S p) ≡ value n f p)
derivative_none n S f = (
  λ z p l. same (value n f p) (value n f (flipped n S p))
      (sym (value-derivative n S f p) ∙ value_cong n (derivative n S f) (λ m. false) p z ∙ value_none n p),
  λ e. same_values n (derivative n S f) (λ m. false) (λ p l.
      value-derivative n S f p ∙ ap (λ (x : Bool). value n f p ⊕ x) (e p l) ∙ xor_self (value n f p) ∙ sym (value_none n p)),
)
  where
    same : (a b : Bool) → (a ⊕ b) ≡ false → b ≡ a
    same true true e = refl
    same true false e = sym e
    same false b e = e

-- of an empty S
pub derivative_empty : (n : ℕ) (f : Polynomial) (m : ℕ) → m < 2 ^ n → derivative n 0 f m ≡ false
derivative_empty n f = (derivative_none n 0 f).1 (λ p l. ap (value n f) (flipped_none n p l))

-- of a sum
pub derivative-sum : (n S : ℕ) (f h : Polynomial) (m : ℕ) → m < 2 ^ n
    → derivative n S (sum f h) m ≡ sum (derivative n S f) (derivative n S h) m
derivative-sum n S f h =
    same_values n _ _ (λ p l.
    value-derivative n S (sum f h) p ∙ ap₂ ◌⊕◌ (value-sum n f h p) (value-sum n f h (flipped n S p))
    ∙ spread (value n f p) (value n h p) (value n f (flipped n S p)) (value n h (flipped n S p))
    ∙ sym (value-sum n (derivative n S f) (derivative n S h) p ∙ ap₂ ◌⊕◌ (value-derivative n S f p) (value-derivative n S h p)))
  where
    spread : (a b c d : Bool) → ((a ⊕ b) ⊕ (c ⊕ d)) ≡ ((a ⊕ c) ⊕ (b ⊕ d))
    spread a b c d = simp ac

-- a second time, by the same S
pub derivative_twice : (n S : ℕ) (f : Polynomial) (m : ℕ) → m < 2 ^ n → derivative n S (derivative n S f) m ≡ false
derivative_twice n S f = (derivative_none n S (derivative n S f)).1 (derivative-flipped n S f)

-- by a single letter it is r + s of Boole's elimination: f at 1 plus f at 0
pub derivative-letter : (n j : ℕ) (f : Polynomial) → j < n → (m : ℕ) → m < 2 ^ n
    → derivative n (2 ^ j) f m ≡ sum (restrict f j true) (restrict f j false) m
derivative-letter n j f h =
    same_values n _ _ (λ p l.
    value-derivative n (2 ^ j) f p ∙ ap (λ (x : ℕ). value n f p ⊕ value n f x) (flipped-letter n j p h l) ∙ go p (bit p j) (assign-bit p j)
    ∙ sym (value-sum n (restrict f j true) (restrict f j false) p ∙ ap₂ ◌⊕◌ (value-restrict n f j true p h) (value-restrict n f j false p h)))
  where
    go : (p : ℕ) (b : Bool) → assign p j b ≡ p
        → (value n f p ⊕ value n f (assign p j (not b))) ≡ (value n f (assign p j true) ⊕ value n f (assign p j false))
    go p true e = ap (λ (x : ℕ). value n f x ⊕ value n f (assign p j false)) (sym e)
    go p false e = ap (λ (x : ℕ). value n f x ⊕ value n f (assign p j true)) (sym e) ∙ xor_comm (value n f (assign p j false)) (value n f (assign p j true))
