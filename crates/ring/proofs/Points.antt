-- The laws of points: `bit`, `assign` and `point_where`, digit by digit, lowest first. Two points with the same letters are one.
-- Assumes nothing.
use mathlib.Core.Path.{◌≡◌, refl, sym, ap, ap₂, ◌∙◌}
use mathlib.Core.Logic.{◌≢◌, ◌↔◌}
use mathlib.Core.Bool.{Bool, true, false, true≢false}
use Prim.Native.Nat.{ℕ, zero, suc, ◌+◌, ◌*◌, ◌/◌, ◌%◌, ◌^◌, ◌-◌, ◌<◌, ◌≤◌, max}
use native.Mathlib.Nat.{div-add-mod', div-eq_of_lt, mod-lt, pow-suc, pow-succ', div-one, div-div-eq-div-mul, max-zero, mul_assoc}
use native.Mathlib.Nat.{mul-add-div_right, add_comm}
use native.Mathlib.Omega.{arith}
use lib.Dec.{eqb, ltb}
use lib.Arith.{lt-one, digits_lt}
use lib.Pow.{pow_pos, pow_mono, pow-add, shr-shr, shr_lt, high, split}
use lib.Bits.{bit_or, or_step, or_zero_r}
use borrow.Author.Tests.{eq-eqb, ne_eqb, eqb-true, eqb-false, ltb-true, ltb-false}
use Rattle.ring.specs.declared.State.{State}
use Rattle.ring.specs.declared.Choice.{Choice}
use Rattle.ring.specs.Letters.{digit, bit, point, point_where, assign}
use Rattle.ring.proofs.Bool.{digit_lt}
use Rattle.ring.proofs.Mask.{low}

pub bit_zero : (p : ℕ) → bit p 0 ≡ low p
unfolding bit low
bit_zero p = ap (λ (x : ℕ). eqb (x % 2) 1) (div-one p)

pub shift_suc : (p j : ℕ) → p / 2 ^ suc j ≡ p / 2 / 2 ^ j
shift_suc p j = ap (λ (x : ℕ). p / x) (pow-succ' 2 j) ∙ sym (div-div-eq-div-mul p 2 (2 ^ j))

pub bit_suc : (p j : ℕ) → bit p (suc j) ≡ bit (p / 2) j
unfolding bit
bit_suc p j = ap (λ (x : ℕ). eqb (x % 2) 1) (shift_suc p j)

-- a bit above the number
pub bit_none : (m j : ℕ) → m < 2 ^ j → bit m j ≡ false
unfolding bit
bit_none m j h = rw (div-eq_of_lt h)

pub low_digit : (q : ℕ) (b : Bool) → low (q * 2 + digit b) ≡ b
unfolding low
low_digit q true = eq-eqb ((q * 2 + 1) % 2) 1 (omega arith)
low_digit q false = ne_eqb ((q * 2 + 0) % 2) 1 (omega arith)

pub digit_low : (p : ℕ) → digit (low p) ≡ p % 2
unfolding low
digit_low p = go (eqb (p % 2) 1) refl
  where
    go : (b : Bool) → eqb (p % 2) 1 ≡ b → digit b ≡ p % 2
    go true e = omega (arith, eqb-true (p % 2) 1 e)
    go false e = omega (arith, eqb-false (p % 2) 1 e)

pub half_digit : (q r : ℕ) → r < 2 → (q * 2 + r) / 2 ≡ q
half_digit q r h = omega arith

pub mod_digit : (q r : ℕ) → r < 2 → (q * 2 + r) % 2 ≡ r
mod_digit q r h = omega arith

mod_lt2 : (p : ℕ) → p % 2 < 2
mod_lt2 p = omega arith

assign_half : (p j : ℕ) (b : Bool) → assign p (suc j) b / 2 ≡ assign (p / 2) j b
unfolding assign
assign_half p j b = half_digit (assign (p / 2) j b) (p % 2) (mod_lt2 p)

assign_mod : (p j : ℕ) (b : Bool) → assign p (suc j) b % 2 ≡ p % 2
unfolding assign
assign_mod p j b = mod_digit (assign (p / 2) j b) (p % 2) (mod_lt2 p)

-- a letter that is assigned the value that it has
pub assign-bit : (p j : ℕ) → assign p j (bit p j) ≡ p
unfolding assign
assign-bit p zero = rw (bit_zero p, digit_low p) (div-add-mod' p 2)
assign-bit p (suc j) = rw (bit_suc p j, assign-bit (p / 2) j) (div-add-mod' p 2)

pub bit-assign : (p j : ℕ) (b : Bool) → bit (assign p j b) j ≡ b
unfolding assign
bit-assign p zero b = bit_zero (p / 2 * 2 + digit b) ∙ low_digit (p / 2) b
bit-assign p (suc j) b = bit_suc (assign p (suc j) b) j ∙ ap (λ (x : ℕ). bit x j) (assign_half p j b) ∙ bit-assign (p / 2) j b

pub bit_assign_other : (p i j : ℕ) (b : Bool) → i ≢ j → bit (assign p j b) i ≡ bit p i
unfolding assign low
bit_assign_other p zero zero b h = absurd (h refl)
bit_assign_other p zero (suc j) b h = bit_zero (assign p (suc j) b) ∙ ap (λ (x : ℕ). eqb x 1) (assign_mod p j b) ∙ sym (bit_zero p)
bit_assign_other p (suc i) zero b h =
    bit_suc (assign p zero b) i ∙ ap (λ (x : ℕ). bit x i) (half_digit (p / 2) (digit b) (digit_lt b)) ∙ sym (bit_suc p i)
bit_assign_other p (suc i) (suc j) b h =
    bit_suc (assign p (suc j) b) i ∙ ap (λ (x : ℕ). bit x i) (assign_half p j b) ∙ bit_assign_other (p / 2) i j b (λ e. h (ap suc e))
    ∙ sym (bit_suc p i)

-- the letters above j, and letter j
pub assign_above : (p j : ℕ) (b : Bool) → assign p j b / 2 ^ j ≡ p / 2 ^ suc j * 2 + digit b
unfolding assign
assign_above p zero b = div-one (p / 2 * 2 + digit b)
assign_above p (suc j) b =
    shift_suc (assign p (suc j) b) j ∙ ap (λ (x : ℕ). x / 2 ^ j) (assign_half p j b) ∙ assign_above (p / 2) j b
    ∙ ap (λ (x : ℕ). x * 2 + digit b) (sym (shift_suc p (suc j)))

pub shift_half : (p j : ℕ) → p / 2 ^ suc j ≡ p / 2 ^ j / 2
shift_half p j = ap (λ (x : ℕ). p / x) (pow-suc 2 j) ∙ sym (div-div-eq-div-mul p (2 ^ j) 2)

-- a point of n letters stays one
pub assign_lt : (n p j : ℕ) (b : Bool) → p < 2 ^ n → j < n → assign p j b < 2 ^ n
unfolding assign
assign_lt zero p j b hp hj = absurd (omega arith)
assign_lt (suc n) p zero b hp hj = omega (arith, pow-suc 2 n, digit_lt b)
assign_lt (suc n) p (suc j) b hp hj = omega (arith, pow-suc 2 n, assign_lt n (p / 2) j b (omega (arith, pow-suc 2 n)) (omega arith))

-- a letter that is 0 set to 1, and one that is 1 set to 0
pub assign_set : (p j : ℕ) → bit p j ≡ false → assign p j true ≡ p + 2 ^ j
unfolding assign low
assign_set p zero h = omega (arith, eqb-false (p % 2) 1 (sym (bit_zero p) ∙ h))
assign_set p (suc j) h = omega (arith, pow-suc 2 j, assign_set (p / 2) j (sym (bit_suc p j) ∙ h))

pub assign_clear : (p j : ℕ) → bit p j ≡ true → assign p j false + 2 ^ j ≡ p
unfolding assign low
assign_clear p zero h = omega (arith, eqb-true (p % 2) 1 (sym (bit_zero p) ∙ h))
assign_clear p (suc j) h = omega (arith, pow-suc 2 j, assign_clear (p / 2) j (sym (bit_suc p j) ∙ h))

-- the masks that a program makes
pub assign_true : (p j : ℕ) → assign p j true ≡ bit_or p (2 ^ j)
unfolding assign
assign_true p zero = omega (arith, or_step p 1, or_zero_r (p / 2))
assign_true p (suc j) =
    let h : 2 ^ suc j / 2 ≡ 2 ^ j = omega (arith, pow-suc 2 j) in
    let e : 2 ^ suc j % 2 ≡ 0 = omega (arith, pow-suc 2 j) in
    ap (λ (x : ℕ). x * 2 + p % 2) (assign_true (p / 2) j)
    ∙ sym (or_step p (2 ^ suc j) ∙ ap₂ (λ (x y : ℕ). bit_or (p / 2) x * 2 + max (p % 2) y) h e
    ∙ ap (λ (x : ℕ). bit_or (p / 2) (2 ^ j) * 2 + x) (max-zero (p % 2)))

pub point_where_cong : (n : ℕ) (b c : ℕ → Bool) → ((j : ℕ) → j < n → b j ≡ c j) → point_where n b ≡ point_where n c
unfolding point_where
point_where_cong zero b c e = refl
point_where_cong (suc n) b c e =
    ap₂ (λ (x : ℕ) (y : Bool). x * 2 + digit y) (point_where_cong n (λ j. b (suc j)) (λ j. c (suc j)) (λ j l. e (suc j) (omega arith)))
    (e 0 (omega arith))

-- the letters of a point
pub bit-point_where : (n : ℕ) (b : ℕ → Bool) (j : ℕ) → j < n → bit (point_where n b) j ≡ b j
unfolding point_where
bit-point_where zero b j h = absurd (omega arith)
bit-point_where (suc n) b zero h =
    bit_zero (point_where n (λ j. b (suc j)) * 2 + digit (b 0)) ∙ low_digit (point_where n (λ j. b (suc j))) (b 0)
bit-point_where (suc n) b (suc j) h =
    bit_suc (point_where n (λ j. b (suc j)) * 2 + digit (b 0)) j
    ∙ ap (λ (x : ℕ). bit x j) (half_digit (point_where n (λ j. b (suc j))) (digit (b 0)) (digit_lt (b 0)))
    ∙ bit-point_where n (λ j. b (suc j)) j (omega arith)

-- two points with the same letters are one
pub same_letters : (n x y : ℕ) → x < 2 ^ n → y < 2 ^ n → ((i : ℕ) → i < n → bit x i ≡ bit y i) → x ≡ y
same_letters zero x y hx hy e = lt-one hx ∙ sym (lt-one hy)
same_letters (suc n) x y hx hy e =
    let half : x / 2 ≡ y / 2 = same_letters n (x / 2) (y / 2) (omega (arith, pow-suc 2 n)) (omega (arith, pow-suc 2 n))
    (λ i l. sym (bit_suc x i) ∙ e (suc i) (omega arith) ∙ bit_suc y i) in
    let last : x % 2 ≡ y % 2 = sym (digit_low x) ∙ ap digit (sym (bit_zero x) ∙ e 0 (omega arith) ∙ bit_zero y) ∙ digit_low y in
    omega arith

-- the same of the letters from k on
pub same_above : (k n x y : ℕ) → x < 2 ^ n → y < 2 ^ n → ((i : ℕ) → k ≤ i → i < n → bit x i ≡ bit y i) → x / 2 ^ k ≡ y / 2 ^ k
same_above zero n x y hx hy e = ap (λ (z : ℕ). z / 1) (same_letters n x y hx hy (λ i l. e i (omega arith) l))
same_above (suc k) zero x y hx hy e = ap (λ (z : ℕ). z / 2 ^ suc k) (lt-one hx ∙ sym (lt-one hy))
same_above (suc k) (suc n) x y hx hy e =
    shift_suc x k
    ∙ same_above k n (x / 2) (y / 2) (omega (arith, pow-suc 2 n)) (omega (arith, pow-suc 2 n))
    (λ i l m. sym (bit_suc x i) ∙ e (suc i) (omega arith) (omega arith) ∙ bit_suc y i)
    ∙ sym (shift_suc y k)

-- a state's letters, by any of its points
pub bit_above : (u i x y : ℕ) → u ≤ i → x / 2 ^ u ≡ y / 2 ^ u → bit x i ≡ bit y i
bit_above zero i x y h e = ap (λ (z : ℕ). bit z i) (sym (div-one x) ∙ e ∙ div-one y)
bit_above (suc u) zero x y h e = absurd (omega arith)
bit_above (suc u) (suc i) x y h e =
    bit_suc x i ∙ bit_above u i (x / 2) (y / 2) (omega arith) (sym (shift_suc x u) ∙ e ∙ shift_suc y u) ∙ sym (bit_suc y i)

pub point_where_lt : (n : ℕ) (b : ℕ → Bool) → point_where n b < 2 ^ n
unfolding point_where
point_where_lt zero b = omega arith
point_where_lt (suc n) b = omega (arith, pow-suc 2 n, point_where_lt n (λ j. b (suc j)), digit_lt (b 0))

-- a point is the point of its letters
pub point_where_bits : (n q : ℕ) → q < 2 ^ n → point_where n (λ j. bit q j) ≡ q
point_where_bits n q h = same_letters n (point_where n (λ j. bit q j)) q (point_where_lt n _) h (λ j l. bit-point_where n (λ j. bit q j) j l)

-- a number made of a high part and U low bits: its bits below U, and from U on
pub bit_low : (hi lo U j : ℕ) → j < U → bit (hi * 2 ^ U + lo) j ≡ bit lo j
unfolding bit
bit_low hi lo U j h =
    let d : ℕ = U - suc j in
    let k : d + suc j ≡ U = omega arith in
    let e : hi * 2 ^ U ≡ hi * 2 ^ d * 2 * 2 ^ j =
    ap (λ (x : ℕ). hi * 2 ^ x) (sym k) ∙ ap (λ (x : ℕ). hi * x) (pow-add 2 d (suc j) ∙ ap (λ (x : ℕ). 2 ^ d * x) (pow-succ' 2 j))
    ∙ sym (mul_assoc hi (2 ^ d) (2 * 2 ^ j)) ∙ sym (mul_assoc (hi * 2 ^ d) 2 (2 ^ j)) in
    let q : (hi * 2 ^ U + lo) / 2 ^ j ≡ hi * 2 ^ d * 2 + lo / 2 ^ j =
    ap (λ (x : ℕ). (x + lo) / 2 ^ j) e ∙ mul-add-div_right (pow_pos j) (hi * 2 ^ d * 2) lo in
    let r : (hi * 2 ^ U + lo) / 2 ^ j % 2 ≡ lo / 2 ^ j % 2 = omega arith in
    ap (λ (x : ℕ). eqb x 1) r

pub bit_high : (hi lo U i : ℕ) → lo < 2 ^ U → bit (hi * 2 ^ U + lo) (U + i) ≡ bit hi i
unfolding bit
bit_high hi lo U i h = ap (λ (x : ℕ). eqb (x % 2) 1) (sym (shr-shr (hi * 2 ^ U + lo) U i) ∙ ap (λ (x : ℕ). x / 2 ^ i) (high hi U h))

-- the point of a state and a choice: unknown j has the choice's bit j, given i the state's bit i
pub bit_choice : (U : ℕ) (state : State) (choice : Choice) (j : ℕ) → j < U → bit (point U state choice) j ≡ bit choice.0 j
unfolding point
bit_choice U state choice j h = bit_low state.0 choice.0 U j h

pub bit_state : (U : ℕ) (state : State) (choice : Choice) (i : ℕ) → choice.0 < 2 ^ U
    → bit (point U state choice) (U + i) ≡ bit state.0 i
unfolding point
bit_state U state choice i h = bit_high state.0 choice.0 U i h

-- every point is that of a state and a choice
pub record Parts (U G p : ℕ) : Type 0 where
  pub state : State
  pub choice : Choice
  pub state_fits : state.0 < 2 ^ G
  pub choice_fits : choice.0 < 2 ^ U
  pub whole : point U state choice ≡ p

pub parts : (U G p : ℕ) → p < 2 ^ (U + G) → Parts U G p
unfolding point
parts U G p h =
    record {
      state = record { 0 = p / 2 ^ U };
      choice = record { 0 = p % 2 ^ U };
      state_fits = shr_lt G U (rw (add_comm G U) h);
      choice_fits = mod-lt p (pow_pos U);
      whole = split p U;
    }

-- and a state and a choice in range make a point
pub point_lt : (U G : ℕ) (state : State) (choice : Choice) → state.0 < 2 ^ G → choice.0 < 2 ^ U → point U state choice < 2 ^ (U + G)
unfolding point
point_lt U G state choice hs hc = rw (add_comm U G, pow-add 2 G U) (digits_lt hs hc)

-- ---- masks
-- a mask is below 2 ^ n exactly if its letters are
doubled : (m : ℕ) → m < 2 ^ m
doubled zero = omega arith
doubled (suc m) = omega (arith, pow-suc 2 m, doubled m)

pub mask_letters : (n m : ℕ) → (m < 2 ^ n) ↔ ((j : ℕ) → bit m j ≡ true → j < n)
mask_letters n m = (λ h j e. below h j e (ltb j n) refl, bounded)
  where
    below : m < 2 ^ n → (j : ℕ) → bit m j ≡ true → (b : Bool) → ltb j n ≡ b → j < n
    below h j e true l = ltb-true j n l
    below h j e false l =
        let a : n ≤ j = ltb-false j n l in
        let w : 2 ^ n ≤ 2 ^ j = pow_mono a in
        absurd (true≢false (sym e ∙ bit_none m j (omega arith)))

    bounded : ((j : ℕ) → bit m j ≡ true → j < n) → m < 2 ^ n
    bounded all =
        let low_lt : m % 2 ^ n < 2 ^ n = mod-lt m (pow_pos n) in
        let a : m ≤ n + m = omega arith in
        let b : n ≤ n + m = omega arith in
        let wide : 2 ^ m ≤ 2 ^ (n + m) = pow_mono a in
        let wide' : 2 ^ n ≤ 2 ^ (n + m) = pow_mono b in
        let e : m ≡ m % 2 ^ n =
        same_letters (n + m) m (m % 2 ^ n) (omega (arith, doubled m)) (omega arith) (λ i _. letter i low_lt (ltb i n) (bit m i) refl refl) in
        omega arith
      where
        letter : (i : ℕ) → m % 2 ^ n < 2 ^ n → (l b : Bool) → ltb i n ≡ l → bit m i ≡ b → bit m i ≡ bit (m % 2 ^ n) i
        letter i h true b el eb = ap (λ (x : ℕ). bit x i) (sym (split m n)) ∙ bit_low (m / 2 ^ n) (m % 2 ^ n) n i (ltb-true i n el)
        letter i h false true el eb = absurd (omega (arith, all i eb, ltb-false i n el))
        letter i h false false el eb =
            let a : n ≤ i = ltb-false i n el in
            let w : 2 ^ n ≤ 2 ^ i = pow_mono a in
            eb ∙ sym (bit_none (m % 2 ^ n) i (omega arith))
