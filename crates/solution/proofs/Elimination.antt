-- Boole's method at points, through the unknowns of any list in any order: it solves wherever nothing remains, it reproduces every solution,
-- and what remains turns on the letters outside the list alone. Each is by induction on the list, one unknown at a time:
-- `chosen_solves` and `solution_kept` are the step.
-- Assumes nothing.
use mathlib.Core.Path.{◌≡◌, refl, sym, ap, ap₂, ◌∙◌}
use mathlib.Core.Logic.{◌≢◌}
use mathlib.Core.Bool.{Bool, true, false, ◌&&◌, ◌||◌, and-false, or-false, true≢false}
use mathlib.Core.List.{List, [], ◌∷◌}
use Prim.Native.Nat.{ℕ, ◌^◌, ◌<◌}
use lib.Dec.{eqb}
use borrow.Author.Tests.{eqb-true, eqb-false}
use Rattle.ring.specs.Letters.{bit, assign}
use Rattle.ring.specs.Polynomial.{◌⊕◌}
use Rattle.ring.specs.Lists.{has}
use Rattle.ring.proofs.Lists.{has_first, has_rest}
use Rattle.ring.proofs.Points.{assign-bit, bit-assign, bit_assign_other, assign_lt, same_letters}
use Rattle.solution.specs.Inner.ByPoints.{chosen_value, both_cases, remains_through, chosen_point, answered_through}

-- where not both cases give 1, the chosen value gives 0
pub chosen_solves : (e : Bool → Bool) (x : Bool) → (e true && e false) ≡ false → e (chosen_value (e true) (e false) x) ≡ false
unfolding chosen_value
chosen_solves e x h = go (e true) (e false) x refl refl h
  where
    go : (r s x : Bool) → e true ≡ r → e false ≡ s → (r && s) ≡ false → e (chosen_value r s x) ≡ false
    go true true x er es h = cc
    go true false true er es h = es
    go true false false er es h = es
    go false true true er es h = er
    go false true false er es h = er
    go false false true er es h = er
    go false false false er es h = es

-- a value that gives 0 is kept
pub solution_kept : (e : Bool → Bool) (x : Bool) → e x ≡ false → chosen_value (e true) (e false) x ≡ x
unfolding chosen_value
solution_kept e true h = rw h (go (e false))
  where
    go : (s : Bool) → ((s ⊕ true) ⊕ s) ≡ true
    go true = refl
    go false = refl
solution_kept e false h = h

-- where nothing remains the answers solve
pub solves : (f : ℕ → Bool) (order : List ℕ) (p : ℕ) → remains_through f order p ≡ false → f (answered_through f order p) ≡ false
unfolding remains_through answered_through chosen_point both_cases
solves f [] p h = h
solves f (x ∷ order) p h =
    chosen_solves (λ b. f (assign (answered_through (both_cases f x) order p) x b)) (bit p x) (solves (both_cases f x) order p h)

-- where f is 0 nothing remains
cases_none : (f : ℕ → Bool) (x p : ℕ) → f p ≡ false → both_cases f x p ≡ false
unfolding both_cases
cases_none f x p h = go (bit p x) (assign-bit p x)
  where
    go : (b : Bool) → assign p x b ≡ p → (f (assign p x true) && f (assign p x false)) ≡ false
    go true e = rw (e, h)
    go false e = rw (e, h) (and-false (f (assign p x true)))

pub remains_none : (f : ℕ → Bool) (order : List ℕ) (p : ℕ) → f p ≡ false → remains_through f order p ≡ false
unfolding remains_through
remains_none f [] p h = h
remains_none f (x ∷ order) p h = remains_none (both_cases f x) order p (cases_none f x p h)

-- a solution is its own answer
pub reproduces : (f : ℕ → Bool) (order : List ℕ) (p : ℕ) → f p ≡ false → answered_through f order p ≡ p
unfolding answered_through chosen_point
reproduces f [] p h = refl
reproduces f (x ∷ order) p h =
    ap (chosen_point f x (bit p x)) (reproduces (both_cases f x) order p (cases_none f x p h))
    ∙ ap (assign p x) (solution_kept (λ b. f (assign p x b)) (bit p x) (ap f (assign-bit p x) ∙ h))
    ∙ assign-bit p x

-- the letters outside an order
pub out_head : (x : ℕ) (order : List ℕ) (y : ℕ) → has y (x ∷ order) ≡ false → y ≢ x
out_head x order y h e = true≢false (sym (has_first x order) ∙ ap (λ (z : ℕ). has z (x ∷ order)) (sym e) ∙ h)

pub out_tail : (x : ℕ) (order : List ℕ) (y : ℕ) → has y (x ∷ order) ≡ false → has y order ≡ false
out_tail x order y h = go (has y order) refl
  where
    go : (b : Bool) → has y order ≡ b → b ≡ false
    go true e = sym (has_rest y x order e) ∙ h
    go false e = refl

pub answered_lt : (n : ℕ) (f : ℕ → Bool) (order : List ℕ) (p : ℕ) → ((x : ℕ) → has x order ≡ true → x < n) → p < 2 ^ n
    → answered_through f order p < 2 ^ n
unfolding answered_through chosen_point
answered_lt n f [] p b h = h
answered_lt n f (x ∷ order) p b h =
    assign_lt n (answered_through (both_cases f x) order p) x _ (answered_lt n (both_cases f x) order p (λ y e. b y (has_rest y x order e)) h)
    (b x (has_first x order))

-- a letter that is not in the order is kept
pub answered_kept : (f : ℕ → Bool) (order : List ℕ) (p j : ℕ) → has j order ≡ false → bit (answered_through f order p) j ≡ bit p j
unfolding answered_through chosen_point
answered_kept f [] p j h = refl
answered_kept f (x ∷ order) p j h =
    bit_assign_other (answered_through (both_cases f x) order p) j x _ (out_head x order j h)
    ∙ answered_kept (both_cases f x) order p j (out_tail x order j h)

-- f does not turn on the letters of D
abbrev Ignores : ℕ → (ℕ → Bool) → (ℕ → Bool) → Type 0
Ignores n f D = (p q : ℕ) → p < 2 ^ n → q < 2 ^ n → ((j : ℕ) → j < n → D j ≡ false → bit p j ≡ bit q j) → f p ≡ f q

cases_ignore : (n : ℕ) (f D : ℕ → Bool) (x : ℕ) → x < n → Ignores n f D → Ignores n (both_cases f x) (λ j. eqb j x || D j)
unfolding both_cases
cases_ignore n f D x hx ignores p q hp hq e = ap₂ ◌&&◌ (side true) (side false)
  where
    agree : (b : Bool) (j : ℕ) → j < n → D j ≡ false → (t : Bool) → eqb j x ≡ t → bit (assign p x b) j ≡ bit (assign q x b) j
    agree b j l d true k = rw (eqb-true j x k) (bit-assign p x b ∙ sym (bit-assign q x b))
    agree b j l d false k =
        let other : j ≢ x = eqb-false j x k in
        bit_assign_other p j x b other ∙ e j l (rw (k, d)) ∙ sym (bit_assign_other q j x b other)

    side : (b : Bool) → f (assign p x b) ≡ f (assign q x b)
    side b =
        ignores (assign p x b) (assign q x b) (assign_lt n p x b hp hx) (assign_lt n q x b hq hx) (λ j l d. agree b j l d (eqb j x) refl)

remains_ignore : (n : ℕ) (f D : ℕ → Bool) (order : List ℕ) → ((x : ℕ) → has x order ≡ true → x < n) → Ignores n f D
    → Ignores n (remains_through f order) (λ j. has j order || D j)
unfolding remains_through has
remains_ignore n f D [] b ignores p q hp hq e = ignores p q hp hq e
remains_ignore n f D (x ∷ order) b ignores p q hp hq e =
    remains_ignore n (both_cases f x) (λ j. eqb j x || D j) order (λ y k. b y (has_rest y x order k))
    (cases_ignore n f D x (b x (has_first x order)) ignores) p q hp hq
    (λ j l d. e j l (shuffle (eqb j x) (has j order) (D j) ∙ d))
  where
    shuffle : (a b c : Bool) → ((a || b) || c) ≡ (b || (a || c))
    shuffle true true c = refl
    shuffle true false c = refl
    shuffle false b c = refl

-- what remains is the same at two points that agree outside the order
pub remains_outside : (n : ℕ) (f : ℕ → Bool) (order : List ℕ) → ((x : ℕ) → has x order ≡ true → x < n)
    → (p q : ℕ) → p < 2 ^ n → q < 2 ^ n → ((j : ℕ) → j < n → has j order ≡ false → bit p j ≡ bit q j)
    → remains_through f order p ≡ remains_through f order q
remains_outside n f order b p q hp hq e =
    remains_ignore n f (λ j. false) order b (λ x y hx hy k. ap f (same_letters n x y hx hy (λ j l. k j l refl))) p q hp hq
    (λ j l d. e j l (sym (or-false (has j order)) ∙ d))
