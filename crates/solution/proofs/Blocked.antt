-- What remains has the value 1 in the blocked states and in no other; the scan over the states finds the smallest.
-- Where a choice gives the condition 0, nothing remains there (`remains_none`), and what remains turns on the state alone
-- (`remains_outside`); where nothing remains, Boole's answers give such a choice (`solves`).
-- Assumes nothing.
use mathlib.Core.Path.{◌≡◌, refl, sym, ap, subst, ◌∙◌}
use mathlib.Core.Bool.{Bool, true, false, not, true≢false}
use mathlib.Core.List.{List}
use Prim.Native.Nat.{ℕ, ◌+◌, ◌*◌, ◌/◌, ◌%◌, ◌^◌, ◌<◌}
use native.Mathlib.Nat.{mod-lt, add_comm}
use lib.Pow.{pow_pos, split, high, shl-shr, shl_lt, shr_lt}
use borrow.Author.Tests.{ltb-false, le-ltb, not-true, not-false}
use Rattle.ring.specs.declared.State.{State}
use Rattle.ring.specs.Letters.{point, point_where}
use Rattle.ring.specs.Polynomial.{Polynomial, value, every_below}
use Rattle.ring.specs.Lists.{has}
use Rattle.ring.proofs.Points.{bit-point_where, point_lt, point_where_lt, same_above, bit_above}
use Rattle.ring.proofs.Value.{value_cong, value_none, same_values}
use Rattle.ring.proofs.Every.{every_all, every_of, every-not}
use Rattle.solution.specs.Letters.{Letter, HoldsGivens, Valuation}
use Rattle.solution.specs.Substitution.{Substitution, MakesZero}
use Rattle.solution.specs.Condition.{IsOrder}
use Rattle.solution.specs.Elimination.{remains, blocked, smallest_blocked, is_zero, solvable}
use Rattle.solution.specs.General.{Blocked, SmallestBlocked}
use Rattle.solution.specs.Inner.ByPoints.{answered_through}
use Rattle.solution.proofs.Elimination.{remains_none, remains_outside, solves, answered_lt, answered_kept}
use Rattle.solution.proofs.Letters.{replaced_value, value-put_in, valuation, valuation_letter}
use Rattle.solution.proofs.General.{in_order, remains-values}
use Rattle.solution.proofs.Smallest.{smallest_is}

-- a polynomial without monomials has the value 0 everywhere, and no other has
pub zero_values : (n : ℕ) (g : Polynomial) (p : ℕ) → is_zero n g ≡ true → value n g p ≡ false
unfolding is_zero
zero_values n g p h = value_cong n g (λ m. false) p (λ m l. not-true (g m) (every_all (2 ^ n) (λ m. not (g m)) h m l)) ∙ value_none n p

pub not_zero : (n : ℕ) (g : Polynomial) → is_zero n g ≡ false → (p : ℕ) × (p < 2 ^ n) × (value n g p ≡ true)
unfolding is_zero
not_zero n g h = go (every_below (2 ^ n) (λ p. not (value n g p))) refl
  where
    go : (b : Bool) → every_below (2 ^ n) (λ p. not (value n g p)) ≡ b → (p : ℕ) × (p < 2 ^ n) × (value n g p ≡ true)
    go true e =
        let m = every-not (2 ^ n) (λ m. not (g m)) h in
        absurd (true≢false (sym (not-false (g m.0) m.2)
        ∙ same_values n g (λ m. false)
        (λ p l. not-true (value n g p) (every_all (2 ^ n) (λ p. not (value n g p)) e p l) ∙ sym (value_none n p)) m.0 m.1))
    go false e = let p = every-not (2 ^ n) (λ p. not (value n g p)) e in (p.0, p.1, not-false (value n g p.0) p.2)

pub no_true : (b : Bool) → (b ≡ true → ⊥) → b ≡ false
no_true true h = absurd (h refl)
no_true false h = refl

-- the state of a point
pub state_of : ℕ → ℕ → State
state_of U p = record { 0 = p / 2 ^ U }

module _ (U G : ℕ) (f : Polynomial) where
  state_lt : (p : ℕ) → p < 2 ^ (U + G) → p / 2 ^ U < 2 ^ G
  state_lt p h = shr_lt G U (subst (λ (k : ℕ). p < 2 ^ k) (add_comm U G) h)

  -- f at a point of a blocked state
  blocked-value : (state : State) → Blocked U G f state → (q : ℕ) → q / 2 ^ U ≡ state.0 → value (U + G) f q ≡ true
  unfolding point
  blocked-value state b q e =
      ap (value (U + G) f) (sym (ap (λ (x : ℕ). x * 2 ^ U + q % 2 ^ U) (sym e) ∙ split q U))
      ∙ b (record { 0 = q % 2 ^ U }) (mod-lt q (pow_pos U))

  -- in a blocked state no substitution makes f zero
  pub blocked_none : (state : State) → state.0 < 2 ^ G → Blocked U G f state → (L : List Letter) → HoldsGivens G L → (σ : Substitution)
      → ¬ MakesZero U G f L σ
  unfolding replaced_value
  blocked_none state h b L g σ z = true≢false (sym (blocked-value state b q above) ∙ sym (value-put_in U G L g f σ v) ∙ z v)
    where
      s : ℕ
      s = state.0

      v : Valuation
      v = valuation U (s * 2 ^ U)

      q : ℕ
      q = point_where (U + G) (replaced_value U L σ v)

      s_lt : s * 2 ^ U < 2 ^ (U + G)
      s_lt = subst (λ (k : ℕ). s * 2 ^ U < 2 ^ k) (add_comm G U) (shl_lt G U h)

      above : q / 2 ^ U ≡ s
      above =
          same_above U (U + G) q (s * 2 ^ U) (point_where_lt (U + G) _) s_lt
          (λ i l m. bit-point_where (U + G) (replaced_value U L σ v) i m ∙ rw (le-ltb i U l) (valuation_letter U (s * 2 ^ U) i)) ∙ shl-shr s U

  module _ (order : List ℕ) (is : IsOrder U order) where
    within-letters : (x : ℕ) → has x order ≡ true → x < U + G
    within-letters = in_order U G f order is

    -- what remains has the value 1 in the blocked states, and in no other
    pub remains_blocks : (p : ℕ) → p < 2 ^ (U + G) → value (U + G) (remains (U + G) f order) p ≡ true → Blocked U G f (state_of U p)
    unfolding point state_of
    remains_blocks p h r choice l = go (value (U + G) f q) refl
      where
        q : ℕ
        q = p / 2 ^ U * 2 ^ U + choice.0

        q_lt : q < 2 ^ (U + G)
        q_lt = point_lt U G (state_of U p) choice (state_lt p h) l

        go : (b : Bool) → value (U + G) f q ≡ b → b ≡ true
        go true e = refl
        go false e =
            sym (remains_none (value (U + G) f) order q e)
            ∙ sym (remains_outside (U + G) (value (U + G) f) order within-letters p q h q_lt
            (λ j m o. bit_above U j p q (ltb-false j U (sym (is j) ∙ o)) (sym (high (p / 2 ^ U) U l))))
            ∙ sym (remains-values U G f order is p) ∙ r

    pub nothing_opens : (p : ℕ) → p < 2 ^ (U + G) → value (U + G) (remains (U + G) f order) p ≡ false → ¬ Blocked U G f (state_of U p)
    unfolding state_of
    nothing_opens p h r b =
        true≢false (sym (blocked-value (state_of U p) b q above)
        ∙ solves (value (U + G) f) order p (sym (remains-values U G f order is p) ∙ r))
      where
        q : ℕ
        q = answered_through (value (U + G) f) order p

        above : q / 2 ^ U ≡ p / 2 ^ U
        above =
            same_above U (U + G) q p (answered_lt (U + G) (value (U + G) f) order p within-letters h) h
            (λ i l m. answered_kept (value (U + G) f) order p i (is i ∙ le-ltb i U l))

    -- so the states can be scanned over what remains
    pub blocked-remains : (s : ℕ) → s < 2 ^ G → blocked U G f (record { 0 = s }) ≡ value (U + G) (remains (U + G) f order) (s * 2 ^ U)
    unfolding blocked state_of
    blocked-remains s h = go (value (U + G) (remains (U + G) f order) (s * 2 ^ U)) refl
      where
        state : State
        state = record { 0 = s }

        test : ℕ → Bool
        test c = value (U + G) f (point U state (record { 0 = c }))

        same : state_of U (s * 2 ^ U) ≡ state
        same = ap (λ (x : ℕ). record { 0 = x }) (shl-shr s U)

        p_lt : s * 2 ^ U < 2 ^ (U + G)
        p_lt = subst (λ (k : ℕ). s * 2 ^ U < 2 ^ k) (add_comm G U) (shl_lt G U h)

        go : (b : Bool) → value (U + G) (remains (U + G) f order) (s * 2 ^ U) ≡ b → every_below (2 ^ U) test ≡ b
        go true e = every_of (2 ^ U) test (λ c l. subst (Blocked U G f) same (remains_blocks (s * 2 ^ U) p_lt e) (record { 0 = c }) l)
        go false e =
            no_true (every_below (2 ^ U) test)
            (λ k. nothing_opens (s * 2 ^ U) p_lt e (subst (Blocked U G f) (sym same) (λ choice l. every_all (2 ^ U) test k choice.0 l)))

    -- where something remains there is a blocked state
    pub remains-blocked : solvable (U + G) f order ≡ false → (state : State) × (state.0 < 2 ^ G) × Blocked U G f state
    unfolding solvable state_of
    remains-blocked h =
        let r = not_zero (U + G) (remains (U + G) f order) h in
        (state_of U r.0, state_lt r.0 r.1, remains_blocks r.0 r.1 r.2)

  pub is-blocked : (state : State) → Blocked U G f state → blocked U G f state ≡ true
  unfolding blocked
  is-blocked state b = every_of (2 ^ U) _ (λ c l. b (record { 0 = c }) l)

  -- the scan over the states finds the smallest
  pub smallest_blocked_lem : (state : State) → state.0 < 2 ^ G → Blocked U G f state → SmallestBlocked U G f (smallest_blocked U G f)
  unfolding blocked smallest_blocked
  smallest_blocked_lem state h b =
      let r = smallest_is (2 ^ G) (λ s. blocked U G f (record { 0 = s })) state.0 h (is-blocked state b) in
      record {
        is_state = r.below;
        blocked = λ choice l. every_all (2 ^ U) _ r.passes choice.0 l;
        smallest = λ t l k. true≢false (sym (is-blocked t k) ∙ r.before t.0 l);
      }
