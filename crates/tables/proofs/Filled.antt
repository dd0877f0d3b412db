-- Loops that answer a list from the front, one store a turn: `filled k f xs` is the list xs whose first k elements are f's.
-- `filled-start`, `filled_more`, `filled_read` and `filled_end` are the invariant of every such loop.
-- Assumes nothing.
use mathlib.Core.Path.{◌≡◌, refl, sym, ap, ◌∙◌}
use mathlib.Core.Bool.{Bool}
use mathlib.Core.List.{List, [], ◌∷◌, ◌++◌, append-nil}
use Prim.Native.Nat.{ℕ, zero, suc, ◌+◌, ◌≤◌, ◌<◌}
use native.Mathlib.Nat.{not-suc-le-zero, le_of_suc-le-suc}
use native.Mathlib.Numerals.{add-one}
use native.Mathlib.Omega.{arith}
use lib.ListN.{length, get_or, set, drop, length-append, length-drop, get_or-append}
use lib.Seq.{set-get_or, drop-length}
use Rattle.ring.specs.Letters.{digit}
use Rattle.ring.specs.Table.{tabulate}
use Rattle.ring.specs.Lists.{listed}
use Rattle.ring.proofs.Lists.{length-listed, get_d_listed, listed-tabulate}

-- the first k answered by f, the rest as before
unfoldable pub filled : ℕ → (ℕ → ℕ) → List ℕ → List ℕ
filled k f xs = listed k f ++ drop k xs

pub length-filled : (k : ℕ) (f : ℕ → ℕ) (xs : List ℕ) → k ≤ length xs → length (filled k f xs) ≡ length xs
unfolding filled
length-filled k f xs h = simp (length-append, length-drop, length-listed) (omega arith)

pub filled_low : (k : ℕ) (f : ℕ → ℕ) (xs : List ℕ) (i : ℕ) → i < k → get_or (filled k f xs) i 0 ≡ f i
unfolding filled
filled_low k f xs i h = get_or-append (listed k f) (drop k xs) 0 i (omega (arith, length-listed k f)) ∙ get_d_listed k f i 0 h

pub filled_high : (k : ℕ) (f : ℕ → ℕ) (xs : List ℕ) (i : ℕ) → k ≤ i → i < length xs → get_or (filled k f xs) i 0 ≡ get_or xs i 0
unfolding filled listed
filled_high zero f xs i h l = refl
filled_high (suc k) f [] i h l = absurd (not-suc-le-zero l)
filled_high (suc k) f (x ∷ xs) zero h l = absurd (not-suc-le-zero h)
filled_high (suc k) f (x ∷ xs) (suc i) h l = filled_high k (λ i. f (suc i)) xs i (le_of_suc-le-suc h) (le_of_suc-le-suc l)

pub filled_set : (k : ℕ) (f : ℕ → ℕ) (xs : List ℕ) → k < length xs → set (filled k f xs) k (f k) ≡ filled (suc k) f xs
unfolding filled listed
filled_set k f [] l = absurd (not-suc-le-zero l)
filled_set zero f (x ∷ xs) l = refl
filled_set (suc k) f (x ∷ xs) l = ap (λ (t : List ℕ). f 0 ∷ t) (filled_set k (λ i. f (suc i)) xs (le_of_suc-le-suc l))

-- an element that f leaves as it was
pub filled_skip : (k : ℕ) (f : ℕ → ℕ) (xs : List ℕ) → k < length xs → f k ≡ get_or xs k 0 → filled k f xs ≡ filled (suc k) f xs
filled_skip k f xs l e =
    sym (set-get_or (filled k f xs) k 0)
    ∙ ap (set (filled k f xs) k) (filled_high k f xs k (omega arith) l ∙ sym e)
    ∙ filled_set k f xs l

pub filled_all : (f : ℕ → ℕ) (xs : List ℕ) → filled (length xs) f xs ≡ listed (length xs) f
unfolding filled
filled_all f xs = rw (drop-length, append-nil)

pub filled-start : (k : ℕ) (f : ℕ → ℕ) (xs : List ℕ) → k ≡ 0 → xs ≡ filled k f xs
unfolding filled listed
filled-start k f xs e = rw e

module _ (i : ℕ) (f : ℕ → ℕ) (xs t : List ℕ) (et : t ≡ filled i f xs) where
  pub filled_more : (v : ℕ) → i < length xs → v ≡ f i → set t i v ≡ filled (i + 1) f xs
  filled_more v l ev = rw (et, ev, add-one) (filled_set i f xs l)

  -- what is not answered yet is as it was
  pub filled_read : i < length xs → get_or t i 0 ≡ get_or xs i 0
  filled_read l = rw et (filled_high i f xs i (omega arith) l)

  -- the invariant's bound, and the loop's test as it failed
  pub filled_end : i ≤ length xs → length xs ≤ i → t ≡ listed (length xs) f
  filled_end h l = let e : i ≡ length xs = omega arith in et ∙ rw e (filled_all f xs)

-- a loop that stores bools as bytes, once it has ended
pub filled_whole : (h : ℕ → Bool) (xs t : List ℕ) (i : ℕ) → t ≡ filled i (λ m. digit (h m)) xs → i ≤ length xs → length xs ≤ i
    → t ≡ tabulate (length xs) h
filled_whole h xs t i e l k = filled_end i (λ m. digit (h m)) xs t e l k ∙ listed-tabulate (length xs) (λ m. digit (h m)) h (λ m _. refl)

-- a loop that puts op of a list's element and another's in the element's place
pub combined : (ℕ → ℕ → ℕ) → List ℕ → List ℕ → ℕ → ℕ
combined op xs s m = op (get_or xs m 0) (get_or s m 0)

pub combined_more : (op : ℕ → ℕ → ℕ) (xs s t : List ℕ) (i : ℕ) → t ≡ filled i (combined op xs s) xs → i < length xs
    → set t i (op (get_or t i 0) (get_or s i 0)) ≡ filled (i + 1) (combined op xs s) xs
unfolding combined
combined_more op xs s t i e l =
    filled_more i (combined op xs s) xs t e _ l (ap (λ (x : ℕ). op x (get_or s i 0)) (filled_read i (combined op xs s) xs t e l))

-- the same loop over bytes that are 0 or 1, once it has ended
pub combined_end : (op : ℕ → ℕ → ℕ) (xs s t : List ℕ) (i : ℕ) (h : ℕ → Bool) → t ≡ filled i (combined op xs s) xs → i ≤ length xs
    → length xs ≤ i
    → ((m : ℕ) → op (get_or xs m 0) (get_or s m 0) ≡ digit (h m)) → t ≡ tabulate (length xs) h
unfolding combined
combined_end op xs s t i h e l k r =
    filled_end i (combined op xs s) xs t e l k ∙ listed-tabulate (length xs) (combined op xs s) h (λ m _. r m)
