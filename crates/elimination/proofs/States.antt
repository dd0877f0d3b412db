-- The first state in which something remains, and elimination on words as a whole.
-- Assumes nothing.
use mathlib.Core.Path.{◌≡◌, refl, sym, ap, ◌∙◌}
use mathlib.Core.Bool.{true}
use mathlib.Core.List.{List}
use Prim.Native.Nat.{ℕ, ◌+◌, ◌-◌, ◌*◌, ◌/◌, ◌^◌, ◌≤◌, ◌<◌}
use native.Mathlib.Nat.{add_comm, add-mul, one-mul, mul-le-mul_right, mod-lt}
use native.Mathlib.Omega.{arith}
use lib.Pow.{pow_pos, pow-add, shl_lt, shl-shr, split}
use lib.ListN.{length}
use borrow.Author.Tests.{ltb-true, ltb-false}
use Rattle.ring.specs.Letters.{bit}
use Rattle.ring.specs.Lists.{listed}
use Rattle.ring.proofs.Points.{bit_above}
use Rattle.words.specs.Inner.Words.{words_of, bit_at, answer_words, First}
use Rattle.words.proofs.Letters.{room}
use Rattle.words.proofs.Words.{at_known}
use Rattle.solution.specs.Condition.{IsOrder}
use Rattle.solution.specs.Elimination.{smallest_below}
use Rattle.solution.specs.Inner.ByPoints.{remains_through, answered_through, zero_choice}
use Rattle.solution.proofs.Elimination.{remains_outside}
use Rattle.solution.proofs.Smallest.{smallest_cong, first_found, first_none}
use Rattle.elimination.specs.Inner.Stages.{InLetters, IgnoresUnknowns, no_repeats, stage_words, slot_words, slot_word}
use Rattle.elimination.proofs.Slots.{arranged}
use Rattle.elimination.proofs.Stages.{points, stage_self, answers_self}

-- ---- states
pub state_room : (u g s w : ℕ) → s < 2 ^ g → w ≡ 2 ^ u → s * w < 2 ^ (u + g)
state_room u g s w h e = rw (e, add_comm u g) (shl_lt g u h)

-- the points of the states before that of a point lie before it
below_first : (u m r : ℕ) → m < r / 2 ^ u → m * 2 ^ u < r
below_first u m r l =
    let a : (m + 1) * 2 ^ u ≤ r / 2 ^ u * 2 ^ u = mul-le-mul_right (2 ^ u) (omega arith) in
    omega (arith, a, add-mul m 1 (2 ^ u), one-mul (2 ^ u), split r u, pow_pos u)

point-below : (u g r : ℕ) → r / 2 ^ u < 2 ^ g → r < 2 ^ (u + g)
point-below u g r l =
    let a : (r / 2 ^ u + 1) * 2 ^ u ≤ 2 ^ g * 2 ^ u = mul-le-mul_right (2 ^ u) (omega arith) in
    let e : 2 ^ g * 2 ^ u ≡ 2 ^ (u + g) = sym (pow-add 2 g u) ∙ ap (λ (x : ℕ). 2 ^ x) (add_comm g u) in
    omega (arith, a, e, add-mul (r / 2 ^ u) 1 (2 ^ u), one-mul (2 ^ u), split r u, mod-lt r (pow_pos u))

pub found_state : (u g r s end : ℕ) (f : List ℕ) → IgnoresUnknowns u (2 ^ (u + g - 6)) (bit_at f) → length f ≡ 2 ^ (u + g - 6)
    → First (64 * length f) (bit_at f) r → s ≡ r / 2 ^ u → end ≡ 2 ^ g → s < end
    → s ≡ smallest_below (2 ^ g) (λ s. bit_at f (s * 2 ^ u))
unfolding zero_choice
found_state u g r s end f same size first es ee l =
    let below : r < 2 ^ (u + g) = point-below u g r (omega arith) in
    let inside : r < 64 * 2 ^ (u + g - 6) = omega (arith, room (u + g)) in
    first_found (2 ^ g) (λ s. bit_at f (s * 2 ^ u)) s (omega arith) (λ m h. first.zeros (m * 2 ^ u) (below_first u m r (omega arith)))
    (ap (λ (x : ℕ). bit_at f (x * 2 ^ u)) es ∙ sym (same r inside) ∙ first.one (omega (arith, size)))

pub no_state : (u g r s end : ℕ) (f : List ℕ) → First (64 * length f) (bit_at f) r → s ≡ r / 2 ^ u → end ≡ 2 ^ g → end ≤ s
    → end ≡ smallest_below (2 ^ g) (λ s. bit_at f (s * 2 ^ u))
no_state u g r s end f first es ee l =
    first_none (2 ^ g) (λ s. bit_at f (s * 2 ^ u)) end (omega arith) (omega arith)
    (λ m h. first.zeros (m * 2 ^ u) (below_first u m r (omega arith)))

-- ---- solving on words
pub order-letters : (u g c : ℕ) (o : List ℕ) → IsOrder u o → c ≡ u + g - 6 → InLetters (6 + c) o
order-letters u g c o is e x h = omega (arith, ltb-true x u (sym (is x) ∙ h))

pub same_power : (a b : ℕ) (t : ℕ) → t ≡ 2 ^ b → a ≡ b → t ≡ 2 ^ a
same_power a b t e h = e ∙ ap (λ (x : ℕ). 2 ^ x) (sym h)

pub same_slots : (a b m t : ℕ) → t ≡ m * 2 ^ b → a ≡ b → t ≡ m * 2 ^ a
same_slots a b m t e h = e ∙ ap (λ (x : ℕ). m * 2 ^ x) (sym h)

pub own_stages : (c : ℕ) (f o s : List ℕ) → InLetters (6 + c) o → s ≡ stage_words (2 ^ c) (bit_at f) o → s ≡ stage_words (2 ^ c) (bit_at s) o
own_stages c f o s b e = stage_self c (bit_at f) o s b e

pub state_remains : (u g c r : ℕ) (f f1 o : List ℕ) → c ≡ u + g - 6 → f1 ≡ words_of (2 ^ c) (remains_through (bit_at f) o)
    → r ≡ smallest_below (2 ^ g) (λ s. bit_at f1 (s * 2 ^ u))
    → r ≡ smallest_below (2 ^ g) (λ s. remains_through (bit_at f) o (s * 2 ^ u))
state_remains u g c r f f1 o ec e1 er =
    er ∙ smallest_cong (2 ^ g) _ _
    (λ s l. at_known (2 ^ c) _ f1 e1 (s * 2 ^ u)
    (omega (arith, state_room u g s (2 ^ u) l refl, room (u + g), ap (λ (x : ℕ). 2 ^ x) ec)))

-- what remains turns on the letters outside the order alone
pub remains_ignores : (u g c : ℕ) (f f1 o : List ℕ) → IsOrder u o → c ≡ u + g - 6 → f1 ≡ words_of (2 ^ c) (remains_through (bit_at f) o)
    → IgnoresUnknowns u (2 ^ (u + g - 6)) (bit_at f1)
unfolding zero_choice
remains_ignores u g c f f1 o is ec e1 p l =
    let q : ℕ = p / 2 ^ u * 2 ^ u in
    let m : p < 64 * 2 ^ c = omega (arith, ap (λ (x : ℕ). 2 ^ x) ec) in
    let n : q < 64 * 2 ^ c = omega (arith, split p u) in
    at_known (2 ^ c) _ f1 e1 p m
    ∙ remains_outside (6 + c) (bit_at f) o (order-letters u g c o is ec) p q (omega (arith, points c)) (omega (arith, points c))
    (λ j h out. bit_above u j p q (ltb-false j u (sym (is j) ∙ out)) (sym (shl-shr (p / 2 ^ u) u)))
    ∙ sym (at_known (2 ^ c) _ f1 e1 q n)

pub slots_answered : (u g c : ℕ) (f o s1 s2 : List ℕ) → c ≡ u + g - 6 → InLetters (6 + c) o → s1 ≡ stage_words (2 ^ c) (bit_at f) o
    → s2 ≡ slot_words (2 ^ c) (bit_at s1) o
    → s2 ≡ slot_words (2 ^ (u + g - 6)) (bit_at f) o
slots_answered u g c f o s1 s2 ec b e1 e2 =
    e2 ∙ answers_self c (bit_at f) o s1 b e1 ∙ ap (λ (x : ℕ). slot_words (2 ^ x) (bit_at f) o) ec

-- the answers by unknown, from the slots
pub answers_arranged : (u m c : ℕ) (f o slots answers : List ℕ) → IsOrder u o → no_repeats o ≡ true → c ≡ m
    → slots ≡ slot_words (2 ^ m) (bit_at f) o
    → answers ≡ listed (u * 2 ^ c) (slot_word (2 ^ c) o slots)
    → answers ≡ answer_words u (2 ^ m) (λ x p. bit (answered_through (bit_at f) o p) x)
answers_arranged u m c f o slots answers is once ec es ea =
    let pos : 0 < 2 ^ m = pow_pos m in
    ea ∙ ap (λ (x : ℕ). listed (u * 2 ^ x) (slot_word (2 ^ x) o slots)) ec ∙ arranged u (2 ^ m) (bit_at f) o slots is once pos es
