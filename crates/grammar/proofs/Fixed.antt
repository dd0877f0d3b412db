-- `reads` meets its own equation: reading with the fuel that `calls` gives is one `step` over reading.
-- Assumes nothing.
use mathlib.Core.Path.{◌≡◌, refl, ap, ◌∙◌}
use mathlib.Core.Bool.{Bool, true, false, cond, false≢true}
use mathlib.Core.Logic.{◌⊎◌, inl, inr, ⊎_elim}
use mathlib.Core.List.{List, [], ◌∷◌}
use Prim.Native.Nat.{ℕ, zero, suc, ◌+◌, ◌≤◌, ◌<◌}
use native.Mathlib.Nat.{le_refl}
use native.Mathlib.Omega.{arith}
use borrow.Author.Tests.{eqb-true}
use lib.ListN.{length}
use lib.Dec.{eqb}
use Rattle.grammar.specs.Symbols.{Symbol, unknown_letter, given_letter, single, foreign}
use Rattle.grammar.specs.Symbols.{zero_sign, one_sign, not_sign, open_sign, close_sign, times_sign, or_sign}
use Rattle.grammar.specs.Grammar.{Tree, negation, times}
use Rattle.grammar.specs.Reader.{Reading, nothing, found, Reader, sum, product, factor, sum_from, product_from}
use Rattle.grammar.specs.Reader.{and_then, is, joins_sum, joined, closed, step, read_with, depth, calls, reads}

pub nothing_found : {A : Type 0} {e : Tree} {r : List Symbol} → nothing ≡ found e r → A
nothing_found {A} {e} {r} h = let z : ◌≡◌ {A = ℕ} 0 1 = cc in absurd (omega arith)

-- a symbol that is this single sign
pub is_sign_lem : (sign : ℕ) (c : Symbol) → is sign c ≡ true → c ≡ single sign
is_sign_lem sign (unknown_letter j) h = absurd (false≢true h)
is_sign_lem sign (given_letter i) h = absurd (false≢true h)
is_sign_lem sign (single byte) h = ap single (eqb-true byte sign h)
is_sign_lem sign foreign h = absurd (false≢true h)

pub and_then_found : (o : Reading) (f : Tree → List Symbol → Reading) {e : Tree} {r : List Symbol} → and_then o f ≡ found e r
    → (e' : Tree) × (r' : List Symbol) × (o ≡ found e' r') × (f e' r' ≡ found e r)
unfolding and_then
and_then_found nothing f h = nothing_found h
and_then_found (found e' r') f h = (e', r', refl, h)

pub then_nothing : {o : Reading} (f : Tree → List Symbol → Reading) → o ≡ nothing → and_then o f ≡ nothing
unfolding and_then
then_nothing f h = rw h

pub then_found : {o : Reading} (f : Tree → List Symbol → Reading) {e : Tree} {r : List Symbol} → o ≡ found e r → and_then o f ≡ f e r
unfolding and_then
then_found f h = rw h

and_then_cong : (o o' : Reading) (f g : Tree → List Symbol → Reading) → o ≡ o'
    → ((e : Tree) (r : List Symbol) → o ≡ found e r → f e r ≡ g e r) → and_then o f ≡ and_then o' g
unfolding and_then
and_then_cong o o' f g q h = on o h ∙ ap (λ (x : Reading). and_then x g) q
  where
    on : (x : Reading) → ((e : Tree) (r : List Symbol) → x ≡ found e r → f e r ≡ g e r) → and_then x f ≡ and_then x g
    on nothing k = refl
    on (found e r) k = k e r refl

pub cond_cases : (b : Bool) {x y o : Reading} → cond b x y ≡ o → ((b ≡ true) × (x ≡ o)) ⊎ ((b ≡ false) × (y ≡ o))
cond_cases true h = inl (refl, h)
cond_cases false h = inr (refl, h)

cond_cong : (b : Bool) {x x' y y' : Reading} → x ≡ x' → y ≡ y' → cond b x y ≡ cond b x' y'
cond_cong true p q = p
cond_cong false p q = q

-- what a reader leaves is shorter than what it was given, and a loop leaves no more
abbrev less : Reader → ℕ
less sum = 1
less product = 1
less factor = 1
less (sum_from e) = 0
less (product_from e) = 0

abbrev Shrinks : (Reader → List Symbol → Reading) → Type 0
Shrinks p = (m : Reader) (l : List Symbol) (e : Tree) (r : List Symbol) → p m l ≡ found e r → length r + less m ≤ length l

rest : {e e' : Tree} {r r' : List Symbol} → found e r ≡ found e' r' → length r ≡ length r'
rest {e} {e'} {r} {r'} h = let q : r ≡ r' = cc in ap length q

closed_shrinks : (e : Tree) (l : List Symbol) (e' : Tree) (r : List Symbol) → closed e l ≡ found e' r → length r + 1 ≤ length l
closed_shrinks e [] e' r h = nothing_found h
closed_shrinks e (x ∷ l) e' r h = ⊎_elim (λ w. omega (arith, rest w.1)) (λ w. nothing_found w.1) (cond_cases (is close_sign x) h)

module _ (p : Reader → List Symbol → Reading) (sh : Shrinks p) where
  step_shrinks : Shrinks (step p)
  step_shrinks sum l e r h =
      let t =
      and_then_found (p product l) (λ f r'. p (sum_from f) r') h in omega
      (arith, sh product l t.0 t.1 t.2, sh (sum_from t.0) t.1 e r t.3)
  step_shrinks product l e r h =
      let t =
      and_then_found (p factor l) (λ f r'. p (product_from f) r') h in omega
      (arith, sh factor l t.0 t.1 t.2, sh (product_from t.0) t.1 e r t.3)
  step_shrinks factor [] e r h = nothing_found h
  step_shrinks factor (unknown_letter j ∷ l) e r h = omega (arith, rest h)
  step_shrinks factor (given_letter i ∷ l) e r h = omega (arith, rest h)
  step_shrinks factor (foreign ∷ l) e r h = nothing_found h
  step_shrinks factor (single x ∷ l) e r h =
      ⊎_elim (λ w. omega (arith, rest w.1))
      (λ w. ⊎_elim (λ w. omega (arith, rest w.1))
      (λ w. ⊎_elim (λ w. let t = and_then_found (p factor l) (λ f r'. found (negation f) r') w.1 in omega
      (arith, sh factor l t.0 t.1 t.2, rest t.3))
      (λ w. ⊎_elim (λ w. let t = and_then_found (p sum l) closed w.1 in omega
      (arith, sh sum l t.0 t.1 t.2, closed_shrinks t.0 t.1 e r t.3))
      (λ w. nothing_found w.1)
      (cond_cases (eqb x open_sign) w.1))
      (cond_cases (eqb x not_sign) w.1))
      (cond_cases (eqb x one_sign) w.1))
      (cond_cases (eqb x zero_sign) h)
  step_shrinks (sum_from f) [] e r h = omega (arith, rest h)
  step_shrinks (sum_from f) (x ∷ l) e r h =
      ⊎_elim (λ w. let t = and_then_found (p product l) (λ g r'. p (sum_from (joined (is or_sign x) f g)) r') w.1 in
      omega (arith, sh product l t.0 t.1 t.2, sh (sum_from (joined (is or_sign x) f t.0)) t.1 e r t.3))
      (λ w. omega (arith, rest w.1))
      (cond_cases (joins_sum x) h)
  step_shrinks (product_from f) [] e r h = omega (arith, rest h)
  step_shrinks (product_from f) (x ∷ l) e r h =
      ⊎_elim (λ w. let t = and_then_found (p factor l) (λ g r'. p (product_from (times f g)) r') w.1 in
      omega (arith, sh factor l t.0 t.1 t.2, sh (product_from (times f t.0)) t.1 e r t.3))
      (λ w. omega (arith, rest w.1))
      (cond_cases (is times_sign x) h)

  -- two readers that agree below a reading agree at the step
  module _ (q : Reader → List Symbol → Reading) where
    step_cong : (m : Reader) (l : List Symbol)
        → ((m' : Reader) (l' : List Symbol) → calls m' l' < calls m l → p m' l' ≡ q m' l') → step p m l ≡ step q m l
    step_cong sum l h =
        and_then_cong (p product l) (q product l) _ _ (h product l (omega arith))
        (λ e r a. h (sum_from e) r (omega (arith, sh product l e r a)))
    step_cong product l h =
        and_then_cong (p factor l) (q factor l) _ _ (h factor l (omega arith))
        (λ e r a. h (product_from e) r (omega (arith, sh factor l e r a)))
    step_cong factor [] h = refl
    step_cong factor (unknown_letter j ∷ l) h = refl
    step_cong factor (given_letter i ∷ l) h = refl
    step_cong factor (foreign ∷ l) h = refl
    step_cong factor (single x ∷ l) h =
        cond_cong (eqb x zero_sign) refl (cond_cong (eqb x one_sign) refl
        (cond_cong (eqb x not_sign) (and_then_cong (p factor l) (q factor l) _ _ (h factor l (omega arith)) (λ e r a. refl))
        (cond_cong (eqb x open_sign) (and_then_cong (p sum l) (q sum l) _ _ (h sum l (omega arith)) (λ e r a. refl)) refl)))
    step_cong (sum_from f) [] h = refl
    step_cong (sum_from f) (x ∷ l) h =
        cond_cong (joins_sum x)
        (and_then_cong (p product l) (q product l) _ _ (h product l (omega arith))
        (λ e r a. h (sum_from (joined (is or_sign x) f e)) r (omega (arith, sh product l e r a)))) refl
    step_cong (product_from f) [] h = refl
    step_cong (product_from f) (x ∷ l) h =
        cond_cong (is times_sign x)
        (and_then_cong (p factor l) (q factor l) _ _ (h factor l (omega arith))
        (λ e r a. h (product_from (times f e)) r (omega (arith, sh factor l e r a)))) refl

shrinks : (k : ℕ) → Shrinks (read_with k)
unfolding read_with
shrinks zero m l e r h = nothing_found h
shrinks (suc k) m l e r h = step_shrinks (read_with k) (shrinks k) m l e r h

depth_pos : (m : Reader) → 1 ≤ depth m
depth_pos sum = omega arith
depth_pos product = omega arith
depth_pos factor = omega arith
depth_pos (sum_from e) = omega arith
depth_pos (product_from e) = omega arith

agree : (j k : ℕ) (m : Reader) (l : List Symbol) → calls m l ≤ j → calls m l ≤ k → read_with j m l ≡ read_with k m l
unfolding read_with
agree zero k m l a b = absurd (omega (arith, depth_pos m))
agree (suc j) zero m l a b = absurd (omega (arith, depth_pos m))
agree (suc j) (suc k) m l a b = step_cong (read_with j) (shrinks j) (read_with k) m l (λ m' l' h. agree j k m' l' (omega arith) (omega arith))

pub fixed : (m : Reader) (l : List Symbol) → reads m l ≡ step reads m l
unfolding reads read_with
fixed m l = go (calls m l) refl
  where
    go : (b : ℕ) → calls m l ≡ b → read_with b m l ≡ step reads m l
    go zero h = absurd (omega (arith, depth_pos m))
    go (suc b) h = step_cong (read_with b) (shrinks b) reads m l (λ m' l' k. agree b (calls m' l') m' l' (omega arith) (le_refl _))
