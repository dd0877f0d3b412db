-- The laws of `listed`, the list h 0, h 1, .., of k members, and of `has`. A table of bytes is such a list.
-- Assumes nothing.
use mathlib.Core.Path.{◌≡◌, refl, sym, ap, ap₂, ◌∙◌}
use mathlib.Core.Bool.{Bool, true, false, ◌||◌, or_assoc, true≢false}
use mathlib.Core.Logic.{◌⊎◌, inl, inr}
use mathlib.Core.List.{List, [], ◌∷◌, ◌++◌}
use Prim.Native.Nat.{ℕ, zero, suc, ◌+◌, ◌<◌}
use native.Mathlib.Nat.{zero-add, suc-add}
use native.Mathlib.Omega.{arith}
use lib.Dec.{eqb, ltb}
use lib.ListN.{length, get_or}
use borrow.Author.Tests.{eq-eqb, eqb-true, lt-ltb, ltb-true}
use Rattle.ring.specs.Letters.{digit}
use Rattle.ring.specs.Table.{tabulate}
use Rattle.ring.specs.Lists.{listed, has}
use Rattle.ring.proofs.Bool.{bool_iff, or_cases, or_right}

pub length-listed : {A : Type 0} (k : ℕ) (f : ℕ → A) → length (listed k f) ≡ k
unfolding listed
length-listed zero f = refl
length-listed (suc k) f = ap suc (length-listed k (λ i. f (suc i)))

pub get_d_listed : {A : Type 0} (k : ℕ) (f : ℕ → A) (i : ℕ) (d : A) → i < k → get_or (listed k f) i d ≡ f i
unfolding listed
get_d_listed zero f i d h = absurd (omega arith)
get_d_listed (suc k) f zero d h = refl
get_d_listed (suc k) f (suc i) d h = get_d_listed k (λ j. f (suc j)) i d (omega arith)

-- the last member apart
pub listed_last : {A : Type 0} (k : ℕ) (f : ℕ → A) → listed (suc k) f ≡ listed k f ++ (f k ∷ [])
unfolding listed
listed_last zero f = refl
listed_last (suc k) f = ap (λ l. f 0 ∷ l) (listed_last k (λ i. f (suc i)))

pub listed_get_d : (xs : List ℕ) → listed (length xs) (λ m. get_or xs m 0) ≡ xs
unfolding listed
listed_get_d [] = refl
listed_get_d (x ∷ xs) = ap (λ (l : List ℕ). x ∷ l) (listed_get_d xs)

pub listed_cong : (k : ℕ) (f g : ℕ → ℕ) → ((i : ℕ) → i < k → f i ≡ g i) → listed k f ≡ listed k g
unfolding listed
listed_cong zero f g e = refl
listed_cong (suc k) f g e =
    ap₂ (λ (x : ℕ) (l : List ℕ). x ∷ l) (e 0 (omega arith))
    (listed_cong k (λ i. f (suc i)) (λ i. g (suc i)) (λ i l. e (suc i) (omega arith)))

pub tabulate-listed : (k : ℕ) (h : ℕ → Bool) → tabulate k h ≡ listed k (λ i. digit (h i))
unfolding listed tabulate
tabulate-listed zero h = refl
tabulate-listed (suc k) h = ap (λ (l : List ℕ). digit (h 0) ∷ l) (tabulate-listed k (λ i. h (suc i)))

pub listed-tabulate : (k : ℕ) (f : ℕ → ℕ) (h : ℕ → Bool) → ((i : ℕ) → i < k → f i ≡ digit (h i)) → listed k f ≡ tabulate k h
listed-tabulate k f h e = listed_cong k f _ e ∙ sym (tabulate-listed k h)

pub listed_add : (a k : ℕ) (f : ℕ → ℕ) → listed (a + k) f ≡ listed a f ++ listed k (λ i. f (a + i))
unfolding listed
listed_add zero k f = ap (λ (x : ℕ). listed x f) (zero-add k) ∙ listed_cong k f _ (λ i l. ap f (sym (zero-add i)))
listed_add (suc a) k f =
    ap (λ (x : ℕ). listed x f) (suc-add a k)
    ∙ ap (λ (l : List ℕ). f 0 ∷ l)
    (listed_add a k (λ i. f (suc i))
    ∙ ap (λ (l : List ℕ). listed a (λ i. f (suc i)) ++ l) (listed_cong k _ _ (λ i l. ap f (sym (suc-add a i)))))

-- ---- has
pub has_first : (m : ℕ) (ms : List ℕ) → has m (m ∷ ms) ≡ true
unfolding has
has_first m ms = rw (eq-eqb m m refl)

pub has_rest : (k m : ℕ) (ms : List ℕ) → has k ms ≡ true → has k (m ∷ ms) ≡ true
unfolding has
has_rest k m ms h = or_right (eqb k m) h

pub has_cases : (k m : ℕ) (ms : List ℕ) → has k (m ∷ ms) ≡ true → (k ≡ m) ⊎ (has k ms ≡ true)
unfolding has
has_cases k m ms h = go (or_cases (eqb k m) (has k ms) h)
  where
    go : (eqb k m ≡ true) ⊎ (has k ms ≡ true) → (k ≡ m) ⊎ (has k ms ≡ true)
    go (inl e) = inl (eqb-true k m e)
    go (inr i) = inr i

pub has_place : (xs : List ℕ) (i : ℕ) → i < length xs → has (get_or xs i 0) xs ≡ true
has_place [] i h = absurd (omega arith)
has_place (x ∷ xs) zero h = has_first x xs
has_place (x ∷ xs) (suc i) h = has_rest (get_or xs i 0) x xs (has_place xs i (omega arith))

pub has_append : (m : ℕ) (xs ys : List ℕ) → has m (xs ++ ys) ≡ (has m xs || has m ys)
unfolding has
has_append m [] ys = refl
has_append m (x ∷ xs) ys = ap (λ (b : Bool). eqb m x || b) (has_append m xs ys) ∙ sym (or_assoc (eqb m x) (has m xs) (has m ys))

pub listed_in : (k : ℕ) (h : ℕ → ℕ) (i : ℕ) → i < k → has (h i) (listed k h) ≡ true
listed_in k h i l = ap (λ (x : ℕ). has x (listed k h)) (sym (get_d_listed k h i 0 l)) ∙ has_place (listed k h) i (rw (length-listed k h) l)

pub listed_only : (k : ℕ) (h : ℕ → ℕ) (x : ℕ) → has x (listed k h) ≡ true → (i : ℕ) × (i < k) × (h i ≡ x)
unfolding listed has
listed_only zero h x e = absurd (true≢false (sym e))
listed_only (suc k) h x e = go (eqb x (h 0)) refl e (listed_only k (λ i. h (suc i)) x)
  where
    go : (b : Bool) → eqb x (h 0) ≡ b → (b || has x (listed k (λ i. h (suc i)))) ≡ true
        → (has x (listed k (λ i. h (suc i))) ≡ true → (i : ℕ) × (i < k) × (h (suc i) ≡ x)) → (i : ℕ) × (i < suc k) × (h i ≡ x)
    go true q e ih = (0, omega arith, sym (eqb-true x (h 0) q))
    go false q e ih = let r = ih e in (suc r.0, omega (arith, r.1), r.2)

-- the numbers below k
pub has_numbers : (m k : ℕ) → has m (listed k (λ i. i)) ≡ ltb m k
has_numbers m k =
    bool_iff (has m (listed k (λ i. i))) (ltb m k)
    (λ e. let r = listed_only k (λ i. i) m e in lt-ltb m k (omega (arith, r.1, r.2)))
    (λ e. listed_in k (λ i. i) m (ltb-true m k e))
