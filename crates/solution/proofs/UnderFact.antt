-- The laws of facts (document 02, C-16). All of them rest on two: the value of f*(1 + g) is that of f where g is 0, and 0 elsewhere
-- (`value_where`); and, with no unknown in g, what is put for the unknowns leaves the value of g alone (`fact_kept`).
-- Assumes nothing.
use mathlib.Core.Path.{◌≡◌, refl, sym, ap, ap₂, ◌∙◌}
use mathlib.Core.Logic.{◌↔◌}
use mathlib.Core.Bool.{Bool, true, false, not, ◌&&◌, and-true, and-false}
use mathlib.Core.List.{List}
use Prim.Native.Nat.{ℕ, ◌+◌, ◌*◌, ◌%◌, ◌^◌, ◌<◌}
use lib.Dec.{eqb}
use lib.ListN.{take}
use lib.Pow.{pow_pos, high}
use borrow.Author.Tests.{le-ltb, not-true}
use Rattle.ring.specs.declared.State.{State}
use Rattle.ring.specs.declared.Choice.{Choice}
use Rattle.ring.specs.Letters.{point, point_where}
use Rattle.ring.specs.Polynomial.{Polynomial, ◌⊕◌, every_below, value, constant, sum}
use Rattle.ring.specs.Table.{IsTable, present, table}
use Rattle.ring.proofs.Bool.{xor_comm, and_left, and_right, both, never}
use Rattle.ring.proofs.Every.{every_all, every_of, every-not, every_cong}
use Rattle.ring.proofs.Points.{bit-point_where, point_where_lt, same_above}
use Rattle.ring.proofs.Value.{value_cong, value_none, value-sum, value-product}
use Rattle.ring.proofs.Substitute.{value-constant}
use Rattle.ring.proofs.Table.{is-table, same_table, present-table, present-take}
use Rattle.solution.specs.Letters.{Letter, HoldsGivens, Valuation, value_over}
use Rattle.solution.specs.Substitution.{Substitution, letter_at, own_letters, put_in, MakesZero}
use Rattle.solution.specs.Fact.{where_zero, has_no_unknown, value_in_state, some_state_counts, IsFact, no_fact}
use Rattle.solution.specs.Condition.{Condition, width, polynomial, table_where_zero}
use Rattle.solution.specs.Elimination.{handed_solves, Verdict, none}
use Rattle.solution.specs.General.{Blocked, SmallestBlocked, General, RightVerdict}
use Rattle.solution.specs.UnderFact.{MakesZeroWhere, GeneralWhere, SmallestBlockedWhere, RightWhere}
use Rattle.solution.proofs.Letters.{replaced_value, value-put_in, own_point, value_own, own_holds}
use Rattle.solution.proofs.Blocked.{blocked_none}
use Rattle.solution.proofs.Handed.{handed_exactly}
use Rattle.solution.proofs.Unknowns.{value_no_unknown}

-- ---- values
-- the value of f*(1 + g)
pub value_where : (n : ℕ) (f g : List ℕ) (p : ℕ)
    → value n (present (table_where_zero n f g)) p ≡ (value n (present f) p && not (value n (present g) p))
unfolding table_where_zero where_zero
value_where n f g p =
    value_cong n _ _ p (present-table n (where_zero n (present f) (present g)))
    ∙ value-product n (present f) (sum (present g) (constant true)) p
    ∙ ap (λ (x : Bool). value n (present f) p && x)
    (value-sum n (present g) (constant true) p
    ∙ ap (λ (x : Bool). value n (present g) p ⊕ x) (value-constant n true p) ∙ xor_comm (value n (present g) p) true)

where_table : (n : ℕ) (f g : List ℕ) → IsTable n (table_where_zero n f g)
unfolding table_where_zero table
where_table n f g = is-table n (where_zero n (present f) (present g))

-- 'Without them g is 0': a fact without monomials leaves the condition's own table, and so everything as it is without facts
pub without_fact : (n : ℕ) (f g : List ℕ) → IsTable n f → ((m : ℕ) → m < 2 ^ n → present g m ≡ false) → table_where_zero n f g ≡ f
without_fact n f g is none_there =
    same_table n (table_where_zero n f g) f (where_table n f g) is (λ p l.
    value_where n f g p
    ∙ ap (λ (x : Bool). value n (present f) p && not x) (value_cong n (present g) (λ m. false) p none_there ∙ value_none n p)
    ∙ and-true (value n (present f) p))

pub no_fact_empty : (n m : ℕ) → m < 2 ^ n → present (no_fact n) m ≡ false
unfolding no_fact constant
no_fact_empty n m l = present-table n (constant false) m l

pub no_fact_lem : (n : ℕ) (f : List ℕ) → IsTable n f → table_where_zero n f (no_fact n) ≡ f
no_fact_lem n f is = without_fact n f (no_fact n) is (no_fact_empty n)

-- what the fact leaves out plays no part: conditions that agree where g is 0 become one ..
pub same_where : (n : ℕ) (f h g : List ℕ)
    → ((p : ℕ) → p < 2 ^ n → value n (present g) p ≡ false → value n (present f) p ≡ value n (present h) p)
    → table_where_zero n f g ≡ table_where_zero n h g
same_where n f h g e =
    same_table n _ _ (where_table n f g) (where_table n h g) (λ p l. value_where n f g p ∙ go p l (value n (present g) p) refl ∙ sym (value_where n h g p))
  where
    go : (p : ℕ) → p < 2 ^ n → (b : Bool) → value n (present g) p ≡ b → (value n (present f) p && not b) ≡ (value n (present h) p && not b)
    go p l true k = and-false (value n (present f) p) ∙ sym (and-false (value n (present h) p))
    go p l false k = ap (λ (x : Bool). x && true) (e p l k)

-- .. and only those
pub agree_where : (n : ℕ) (f h g : List ℕ) → table_where_zero n f g ≡ table_where_zero n h g
    → (p : ℕ) → value n (present g) p ≡ false → value n (present f) p ≡ value n (present h) p
agree_where n f h g e p z =
    sym (at f) ∙ ap (λ (t : List ℕ). value n (present t) p) e ∙ at h
  where
    at : (k : List ℕ) → value n (present (table_where_zero n k g)) p ≡ value n (present k) p
    at k = value_where n k g p ∙ ap (λ (x : Bool). value n (present k) p && not x) z ∙ and-true (value n (present k) p)

-- bytes behind the tables play no part
where_cong : (n : ℕ) (f f' g g' : List ℕ) → ((m : ℕ) → m < 2 ^ n → present f m ≡ present f' m)
    → ((m : ℕ) → m < 2 ^ n → present g m ≡ present g' m) → table_where_zero n f g ≡ table_where_zero n f' g'
where_cong n f f' g g' ef eg =
    same_table n _ _ (where_table n f g) (where_table n f' g') (λ p l.
    value_where n f g p
    ∙ ap₂ (λ (x y : Bool). x && not y) (value_cong n (present f) (present f') p ef) (value_cong n (present g) (present g') p eg)
    ∙ sym (value_where n f' g' p))

pub where_front : (n : ℕ) (f g : List ℕ) → table_where_zero n (take (2 ^ n) f) (take (2 ^ n) g) ≡ table_where_zero n f g
where_front n f g = where_cong n _ f _ g (present-take (2 ^ n) f) (present-take (2 ^ n) g)

-- ---- questions 22 and 23 turn on the monomials in n letters alone
pub no_unknown_cong : (U n : ℕ) (g h : Polynomial) → ((m : ℕ) → m < 2 ^ n → g m ≡ h m) → has_no_unknown U n g ≡ has_no_unknown U n h
unfolding has_no_unknown
no_unknown_cong U n g h e = every_cong (2 ^ n) _ _ (λ m l. ap (λ (b : Bool). not (b && not (eqb (m % 2 ^ U) 0))) (e m l))

pub some_state_cong : (U G : ℕ) (g h : Polynomial) → ((m : ℕ) → m < 2 ^ (U + G) → g m ≡ h m) → some_state_counts U G g ≡ some_state_counts U G h
unfolding some_state_counts value_in_state
some_state_cong U G g h e = ap not (every_cong (2 ^ G) _ _ (λ s _. value_cong (U + G) g h (point U (record { 0 = s }) (record { 0 = 0 })) e))

-- ---- question 23 is exact
pub some_state_counts_lem : (U G : ℕ) (g : Polynomial)
    → (some_state_counts U G g ≡ true) ↔ ((state : State) × (state.0 < 2 ^ G) × (value_in_state U G g state ≡ false))
unfolding some_state_counts
some_state_counts_lem U G g = (
  λ h. let r = every-not (2 ^ G) (λ s. value_in_state U G g (record { 0 = s })) (not-true _ h) in (record { 0 = r.0 }, r.1, r.2),
  λ r. go (every_below (2 ^ G) (λ s. value_in_state U G g (record { 0 = s }))) refl r,
)
  where
    go : (b : Bool) → every_below (2 ^ G) (λ s. value_in_state U G g (record { 0 = s })) ≡ b
        → (state : State) × (state.0 < 2 ^ G) × (value_in_state U G g state ≡ false) → not b ≡ true
    go true e r = never (every_all (2 ^ G) (λ s. value_in_state U G g (record { 0 = s })) e r.0.0 r.1) r.2
    go false e r = refl

-- the fact 0 is one
pub no_fact-is : (U G : ℕ) → IsFact U G (no_fact (U + G))
unfolding no_fact table has_no_unknown value_in_state
no_fact-is U G =
    record {
      is-table = is-table (U + G) (constant false);
      givens = every_of (2 ^ (U + G)) _ (λ m l. rw (no_fact_empty (U + G) m l));
      states = (some_state_counts_lem U G (present (no_fact (U + G)))).1
          (record { 0 = 0 }, pow_pos G, value_cong (U + G) _ (λ m. false) _ (no_fact_empty (U + G)) ∙ value_none (U + G) _);
    }

-- ---- putting in, and states
module _ (U G : ℕ) (f g : List ℕ) (givens : has_no_unknown U (U + G) (present g) ≡ true) where
  abbrev n : ℕ
  n = U + G

  -- f*(1 + g)
  abbrev solved_one : Polynomial
  solved_one = present (table_where_zero (U + G) f g)

  -- whatever is put for the unknowns, g has the value that the givens give it
  fact_kept : (L : List Letter) (σ : Substitution) (v : Valuation)
      → value n (present g) (point_where n (replaced_value U L σ v)) ≡ value_over (own_letters U G) (present g) v
  unfolding own_point replaced_value
  fact_kept L σ v =
      value_no_unknown U n (present g) givens (point_where n (replaced_value U L σ v)) (own_point U G v)
      (same_above U n _ _ (point_where_lt n _) (point_where_lt n _)
      (λ i l m. bit-point_where n (replaced_value U L σ v) i m ∙ rw (le-ltb i U l) (sym (bit-point_where n (λ j. v (letter_at U j)) i m))))
      ∙ sym (value_own U G (present g) v)

  value_put_where : (L : List Letter) → HoldsGivens G L → (σ : Substitution) (v : Valuation)
      → value_over L (put_in U G L solved_one σ) v
      ≡ (value_over L (put_in U G L (present f) σ) v && not (value_over (own_letters U G) (present g) v))
  value_put_where L holds σ v =
      value-put_in U G L holds solved_one σ v
      ∙ value_where n f g (point_where n (replaced_value U L σ v))
      ∙ ap₂ (λ (x y : Bool). x && not y) (sym (value-put_in U G L holds (present f) σ v)) (fact_kept L σ v)

  -- the bridge: a substitution makes f*(1 + g) zero exactly if f, with it put in, is 0 wherever g is 0
  pub zero_exactly : (L : List Letter) → HoldsGivens G L → (σ : Substitution)
      → MakesZero U G solved_one L σ ↔ MakesZeroWhere U G (present f) (present g) L σ
  zero_exactly L holds σ = (
    λ z v e. sym (and-true (value_over L (put_in U G L (present f) σ) v)) ∙ rw e at (sym (value_put_where L holds σ v) ∙ z v),
    λ z v. value_put_where L holds σ v ∙ go (value_over L (put_in U G L (present f) σ) v) (value_over (own_letters U G) (present g) v) (z v),
  )
    where
      go : (a b : Bool) → (b ≡ false → a ≡ false) → (a && not b) ≡ false
      go a true h = and-false a
      go a false h = and-true a ∙ h refl

  -- 'the answers make f zero wherever g is zero, and instances cover all substitutions that do so': exactly the general solutions of
  -- f*(1 + g)
  pub general_where : (a : Substitution) → General U G solved_one a ↔ GeneralWhere U G (present f) (present g) a
  general_where a = (
    λ h. record {
      makes_zero = (zero_exactly (own_letters U G) (own_holds U G) a).0 h.makes_zero;
      each_makes_zero = λ L l τ. (zero_exactly L l (λ j. put_in U G L (a j) τ)).0 (h.each_makes_zero L l τ);
      every_instance = λ L l σ z. h.every_instance L l σ ((zero_exactly L l σ).1 z);
    },
    λ h. record {
      makes_zero = (zero_exactly (own_letters U G) (own_holds U G) a).1 h.makes_zero;
      each_makes_zero = λ L l τ. (zero_exactly L l (λ j. put_in U G L (a j) τ)).1 (h.each_makes_zero L l τ);
      every_instance = λ L l σ z. h.every_instance L l σ ((zero_exactly L l σ).0 z);
    },
  )

  -- 'Löwenheim's formula and the test of C-15 read f*(1 + g)': 21 is answered yes exactly if the handed substitution makes f zero wherever
  -- g is zero
  pub handed_where : (b : Substitution) → (handed_solves U G solved_one b ≡ true) ↔ MakesZeroWhere U G (present f) (present g) (own_letters U G) b
  handed_where b = (
    λ z. (zero_exactly (own_letters U G) (own_holds U G) b).0 ((handed_exactly U G solved_one b).0 z),
    λ z. (handed_exactly U G solved_one b).1 ((zero_exactly (own_letters U G) (own_holds U G) b).1 z),
  )

  -- ---- states
  -- g at a point of a state
  pub fact_in_lem : (state : State) (choice : Choice) → choice.0 < 2 ^ U
      → value n (present g) (point U state choice) ≡ value_in_state U G (present g) state
  unfolding value_in_state point
  fact_in_lem state choice l =
      value_no_unknown U n (present g) givens (state.0 * 2 ^ U + choice.0) (state.0 * 2 ^ U + 0)
      (high state.0 U l ∙ sym (high state.0 U (pow_pos U)))

  value_in_lem : (state : State) (choice : Choice) → choice.0 < 2 ^ U
      → value n solved_one (point U state choice) ≡ (value n (present f) (point U state choice) && not (value_in_state U G (present g) state))
  value_in_lem state choice l =
      value_where n f g (point U state choice)
      ∙ ap (λ (x : Bool). value n (present f) (point U state choice) && not x) (fact_in_lem state choice l)

  -- a state is blocked for f*(1 + g) exactly if g is 0 there and f is blocked there
  pub blocked_exactly : (state : State)
      → Blocked U G solved_one state ↔ ((value_in_state U G (present g) state ≡ false) × Blocked U G (present f) state)
  blocked_exactly state = (
    λ b. (
      not-true (value_in_state U G (present g) state)
          (and_right (value n (present f) (point U state first)) (not (value_in_state U G (present g) state))
          (sym (value_in_lem state first (pow_pos U)) ∙ b first (pow_pos U))),
      λ choice l. and_left (value n (present f) (point U state choice)) (not (value_in_state U G (present g) state))
          (sym (value_in_lem state choice l) ∙ b choice l),
    ),
    λ h choice l. value_in_lem state choice l ∙ both (h.1 choice l) (ap not h.0),
  )
    where
      first : Choice
      first = record { 0 = 0 }

  smallest_where : (state : State) → SmallestBlocked U G solved_one state → SmallestBlockedWhere U G (present f) (present g) state
  smallest_where state h =
      record {
        is_state = h.is_state;
        counts = ((blocked_exactly state).0 h.blocked).0;
        blocked = ((blocked_exactly state).0 h.blocked).1;
        smallest = λ r l c b. h.smallest r l ((blocked_exactly r).1 (c, b));
      }

-- demand 3 of f*(1 + g) is demand 3 of f under the fact g, in document 02's own words
pub right_where : (c : Condition) → has_no_unknown c.U (width c) (present c.fact) ≡ true → (verdict : Verdict Substitution)
    → RightVerdict c verdict → RightWhere c verdict
right_where c givens verdict h =
    record {
      exactly = λ L l. (
        λ e σ z. (h.exactly L l).0 e σ ((zero_exactly c.U c.G c.table c.fact givens L l σ).1 z),
        λ never-zero. (h.exactly L l).1 (λ σ z. never-zero σ ((zero_exactly c.U c.G c.table c.fact givens L l σ).0 z)),
      );
      some_state = (
        λ k. let s = smallest k.0 k.1 in (k.0, s.is_state, s.counts, s.blocked),
        λ b. (h.exactly (own_letters c.U c.G) (own_holds c.U c.G)).1 (λ σ z.
            blocked_none c.U c.G (polynomial c) b.0 b.1
            ((blocked_exactly c.U c.G c.table c.fact givens b.0).1 (b.2, b.3))
            (own_letters c.U c.G) (own_holds c.U c.G) σ z),
      );
      state = smallest;
      general = λ a e. (general_where c.U c.G c.table c.fact givens a).0 (h.general a e);
    }
  where
    smallest : (s : State) → verdict ≡ none s → SmallestBlockedWhere c.U c.G (present c.table) (present c.fact) s
    smallest s e = smallest_where c.U c.G c.table c.fact givens s (h.state s e)
