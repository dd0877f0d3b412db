-- The value of a substitution: the value of f at the point that the values of what is put in make.
-- Assumes nothing.
use mathlib.Core.Path.{◌≡◌, refl, sym, ap, ap₂, ◌∙◌}
use mathlib.Core.Bool.{Bool, true, false, not, ◌&&◌, and_assoc, and_comm, and-true, not-not, cond}
use Prim.Native.Nat.{ℕ, zero, suc, ◌+◌, ◌*◌, ◌/◌, ◌^◌, ◌<◌}
use native.Mathlib.Nat.{pow-suc}
use native.Mathlib.Omega.{arith}
use lib.Arith.{lt-one}
use lib.Pow.{pow_pos, pow-lt}
use lib.Dec.{eqb, ltb}
use borrow.Author.Tests.{ltb-true}
use Rattle.ring.specs.Letters.{digit, bit, point_where}
use Rattle.ring.specs.Polynomial.{Polynomial, every_below, within, value, constant, letter, monomial, substitute}
use Rattle.ring.specs.Table.{for_unknowns}
use Rattle.ring.proofs.Every.{every_first, every_cong}
use Rattle.ring.proofs.Parity.{odd_cong, odd_and, odd_and_r, odd_swap, odd_at}
use Rattle.ring.proofs.Mask.{low, within_step, even_low, even_half}
use Rattle.ring.proofs.Value.{value_none, value-product, product_cong}
use Rattle.ring.proofs.Points.{bit_zero, bit_suc, low_digit, half_digit, point_where_cong}
use Rattle.ring.proofs.Bool.{digit_lt}

within_zero : (p : ℕ) → within 0 p ≡ true
unfolding within
within_zero p = refl

-- the value of one monomial alone
value_alone : (n m p : ℕ) → m < 2 ^ n → value n (λ i. eqb m i) p ≡ within m p
unfolding value
value_alone n m p h = odd_cong (2 ^ n) _ _ (λ i l. and_comm (eqb m i) (within i p)) ∙ odd_at (2 ^ n) m (λ i. within i p) h

pub value-constant : (n : ℕ) (b : Bool) (p : ℕ) → value n (constant b) p ≡ b
unfolding constant
value-constant n true p = value_alone n 0 p (pow_pos n) ∙ within_zero p
value-constant n false p = value_none n p

within-letter : (l p : ℕ) → within (2 ^ l) p ≡ bit p l
unfolding low within
within-letter zero p = within_step 1 p ∙ and-true (not (not (low p))) ∙ not-not (low p) ∙ sym (bit_zero p)
within-letter (suc l) p =
    ap (λ (m : ℕ). within m p) (pow-suc 2 l) ∙ within_step (2 ^ l * 2) p
    ∙ ap₂ (λ (x : Bool) (m : ℕ). not (x && not (low p)) && within m (p / 2)) (even_low (2 ^ l)) (even_half (2 ^ l))
    ∙ within-letter l (p / 2) ∙ sym (bit_suc p l)

pub value-letter : (n l p : ℕ) → l < n → value n (letter l) p ≡ bit p l
unfolding letter
value-letter n l p h = value_alone n (2 ^ l) p (pow-lt h) ∙ within-letter l p

-- a monomial is 1 at the point where each of its letters is
within-point : (n i : ℕ) (b : ℕ → Bool) → i < 2 ^ n → within i (point_where n b) ≡ every_below n (λ j. not (bit i j && not (b j)))
unfolding every_below point_where within
within-point zero i b h = rw (lt-one h)
within-point (suc n) i b h =
    within_step i (point_where n (λ j. b (suc j)) * 2 + digit (b 0))
    ∙ ap₂ (λ (x : Bool) (y : ℕ). not (low i && not x) && within (i / 2) y) (low_digit (point_where n (λ j. b (suc j))) (b 0))
    (half_digit (point_where n (λ j. b (suc j))) (digit (b 0)) (digit_lt (b 0)))
    ∙ ap (λ (x : Bool). not (low i && not (b 0)) && x) (within-point n (i / 2) (λ j. b (suc j)) (omega (arith, pow-suc 2 n)))
    ∙ ap₂ (λ (x y : Bool). not (x && not (b 0)) && y) (sym (bit_zero i))
    (every_cong n _ _ (λ j _. ap (λ (x : Bool). not (x && not (b (suc j)))) (sym (bit_suc i j))))
    ∙ sym (every_first n (λ j. not (bit i j && not (b j))))

value-monomial : (k : ℕ) (τ : ℕ → ℕ → Bool) (i n q : ℕ)
    → value k (monomial k τ i n) q ≡ every_below n (λ j. not (bit i j && not (value k (τ j) q)))
unfolding monomial every_below
value-monomial k τ i zero q = value-constant k true q
value-monomial k τ i (suc n) q =
    value-product k (monomial k τ i n) (cond (bit i n) (τ n) (constant true)) q ∙ ap₂ ◌&&◌ (value-monomial k τ i n q) (go (bit i n))
  where
    go : (b : Bool) → value k (cond b (τ n) (constant true)) q ≡ not (b && not (value k (τ n) q))
    go true = sym (not-not (value k (τ n) q))
    go false = value-constant k true q

pub value-substitute : (n k : ℕ) (f : ℕ → Bool) (τ : ℕ → ℕ → Bool) (q : ℕ)
    → value k (substitute n k f τ) q ≡ value n f (point_where n (λ j. value k (τ j) q))
unfolding value substitute
value-substitute n k f τ q =
    odd_cong (2 ^ k) _ _ (λ m _. sym (odd_and_r (2 ^ n) (within m q) (λ i. f i && monomial k τ i n m)))
    ∙ odd_swap (2 ^ k) (2 ^ n) (λ m i. (f i && monomial k τ i n m) && within m q)
    ∙ odd_cong (2 ^ n) _ _ (λ i l.
    odd_cong (2 ^ k) _ _ (λ m _. and_assoc (f i) (monomial k τ i n m) (within m q))
    ∙ odd_and (2 ^ k) (f i) (λ m. monomial k τ i n m && within m q)
    ∙ ap (λ (x : Bool). f i && x) (value-monomial k τ i n q ∙ sym (within-point n i (λ j. value k (τ j) q) l)))

-- b put for the unknowns, the givens kept
pub value-for_unknowns : (n u : ℕ) (f : Polynomial) (b : ℕ → Polynomial) (q : ℕ)
    → value n (substitute n n f (for_unknowns u b)) q ≡ value n f (point_where n (λ j. cond (ltb j u) (value n (b j) q) (bit q j)))
unfolding for_unknowns
value-for_unknowns n u f b q =
    value-substitute n n f (for_unknowns u b) q ∙ ap (value n f) (point_where_cong n _ _ (λ j l. go j l (ltb j u)))
  where
    go : (j : ℕ) → j < n → (c : Bool) → value n (cond c (b j) (letter j)) q ≡ cond c (value n (b j) q) (bit q j)
    go j l true = refl
    go j l false = value-letter n j q l

monomial_cong : (k : ℕ) (σ τ : ℕ → Polynomial) (i n : ℕ) → ((j : ℕ) → j < n → (m : ℕ) → m < 2 ^ k → σ j m ≡ τ j m)
    → (m : ℕ) → monomial k σ i n m ≡ monomial k τ i n m
unfolding monomial
monomial_cong k σ τ i zero e m = refl
monomial_cong k σ τ i (suc n) e m =
    product_cong k _ _ _ _ (λ m' l. monomial_cong k σ τ i n (λ j h. e j (omega arith)) m') (λ m' l. go (bit i n) m' l) m
  where
    go : (b : Bool) (m' : ℕ) → m' < 2 ^ k → cond b (σ n) (constant true) m' ≡ cond b (τ n) (constant true) m'
    go true m' l = e n (omega arith) m' l
    go false m' l = refl

-- a substitution depends on the masks below 2 ^ n and 2 ^ k alone
pub substitute_cong : (n k : ℕ) (f g : Polynomial) (σ τ : ℕ → Polynomial) → ((m : ℕ) → m < 2 ^ n → f m ≡ g m)
    → ((j : ℕ) → j < n → (m : ℕ) → m < 2 ^ k → σ j m ≡ τ j m) → (m : ℕ) → substitute n k f σ m ≡ substitute n k g τ m
unfolding substitute
substitute_cong n k f g σ τ ef e m = odd_cong (2 ^ n) _ _ (λ i l. ap₂ ◌&&◌ (ef i l) (monomial_cong k σ τ i n e m))

pub for_unknowns_cong : (n u : ℕ) (b c : ℕ → Polynomial) → ((j : ℕ) → j < u → (m : ℕ) → m < 2 ^ n → b j m ≡ c j m)
    → (j : ℕ) (m : ℕ) → m < 2 ^ n → for_unknowns u b j m ≡ for_unknowns u c j m
unfolding for_unknowns
for_unknowns_cong n u b c e j m l = go (ltb j u) refl
  where
    go : (t : Bool) → ltb j u ≡ t → cond t (b j) (letter j) m ≡ cond t (c j) (letter j) m
    go true h = e j (ltb-true j u h) m l
    go false h = refl
