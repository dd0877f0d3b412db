-- The laws of joined polynomials (document 02, C-12). The value of a join is 'f or h' at every point (`value-join`), so that the order of
-- adding plays no part and adding twice adds nothing (`same_members`).
-- Assumes nothing.
use mathlib.Core.Path.{◌≡◌, refl, sym, ap, ap₂, ◌∙◌}
use mathlib.Core.Bool.{Bool, true, false, ◌||◌, or-true, true≢false}
use mathlib.Core.Logic.{◌⊎◌, inl, inr}
use mathlib.Core.List.{List, [], ◌∷◌}
use Prim.Native.Nat.{ℕ, ◌^◌, ◌<◌}
use Rattle.ring.specs.Polynomial.{Polynomial, ◌⊕◌, count, odd, value, letter, sum, product}
use Rattle.ring.specs.Table.{tabulate, table}
use Rattle.ring.specs.Join.{join, joined, Member, here, behind}
use Rattle.ring.proofs.Bool.{or_ring, or_cases, bool_iff}
use Rattle.ring.proofs.Value.{value-sum, value-product, value_cong, same_values}
use Rattle.ring.proofs.Substitute.{value-constant}

-- f + f + f*f is f, and two letters are joined to the three monomials that they make
pub join_rows : (table 1 (join 1 (letter 0) (letter 0)) ≡ 0 ∷ 1 ∷ [])
    × (table 2 (join 2 (letter 0) (letter 1)) ≡ 0 ∷ 1 ∷ 1 ∷ 1 ∷ [])
unfolding table tabulate join sum product odd count letter
join_rows = (refl, refl)

pub value-join : (n : ℕ) (f h : Polynomial) (p : ℕ) → value n (join n f h) p ≡ (value n f p || value n h p)
unfolding join
value-join n f h p =
    value-sum n (sum f h) (product n f h) p ∙ ap₂ ◌⊕◌ (value-sum n f h p) (value-product n f h p) ∙ or_ring (value n f p) (value n h p)

-- it looks at masks below 2 ^ n alone
pub join_cong : (n : ℕ) (f g h k : Polynomial) → ((m : ℕ) → m < 2 ^ n → f m ≡ g m) → ((m : ℕ) → m < 2 ^ n → h m ≡ k m)
    → (m : ℕ) → m < 2 ^ n → join n f h m ≡ join n g k m
join_cong n f g h k a b =
    same_values n (join n f h) (join n g k) (λ p l.
    value-join n f h p ∙ ap₂ ◌||◌ (value_cong n f g p a) (value_cong n h k p b) ∙ sym (value-join n g k p))

-- ---- lists
-- the join of a list is 1 where one of its members is ..
pub one_joined : {h : Polynomial} {hs : List Polynomial} (n p : ℕ) → Member h hs → value n h p ≡ true → value n (joined n hs) p ≡ true
unfolding joined
one_joined {hs = []} n p m e = elim m [ ]
one_joined {hs = h ∷ hs} n p here e =
    value-join n (joined n hs) h p ∙ ap (λ (x : Bool). value n (joined n hs) p || x) e ∙ or-true (value n (joined n hs) p)
one_joined {hs = k ∷ hs} n p (behind m) e = value-join n (joined n hs) k p ∙ ap (λ (x : Bool). x || value n k p) (one_joined n p m e)

-- .. and only there
pub joined_one : (n : ℕ) (hs : List Polynomial) (p : ℕ) → value n (joined n hs) p ≡ true → (h : Polynomial) × (Member h hs × (value n h p ≡ true))
unfolding joined
joined_one n [] p e = absurd (true≢false (sym e ∙ value-constant n false p))
joined_one n (h ∷ hs) p e = go (joined_one n hs p) (or_cases (value n (joined n hs) p) (value n h p) (sym (value-join n (joined n hs) h p) ∙ e))
  where
    go : (value n (joined n hs) p ≡ true → (k : Polynomial) × (Member k hs × (value n k p ≡ true)))
        → (value n (joined n hs) p ≡ true) ⊎ (value n h p ≡ true) → (k : Polynomial) × (Member k (h ∷ hs) × (value n k p ≡ true))
    go ih (inl l) = let (k, (m, o)) = ih l in (k, (behind m, o))
    go ih (inr l) = (h, (here, l))

-- lists with the same members, in any order and any number of times, are joined to the same
pub same_members : (n : ℕ) (hs ks : List Polynomial) → ((h : Polynomial) → Member h hs → Member h ks)
    → ((h : Polynomial) → Member h ks → Member h hs)
    → (m : ℕ) → m < 2 ^ n → joined n hs m ≡ joined n ks m
same_members n hs ks a b =
    same_values n (joined n hs) (joined n ks) (λ p l. bool_iff (value n (joined n hs) p) (value n (joined n ks) p) (forth hs ks a p) (forth ks hs b p))
  where
    forth : (xs ys : List Polynomial) → ((h : Polynomial) → Member h xs → Member h ys)
        → (p : ℕ) → value n (joined n xs) p ≡ true → value n (joined n ys) p ≡ true
    forth xs ys c p e = let (h, (m, l)) = joined_one n xs p e in one_joined n p (c h m) l
