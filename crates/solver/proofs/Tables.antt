-- Tables one after another, written from words: `filled` says which of them are done.
-- Assumes nothing.
use mathlib.Core.Path.{◌≡◌, sym, ap, ap₂, ◌∙◌}
use mathlib.Core.Bool.{Bool, ◌&&◌}
use mathlib.Core.List.{List}
use Prim.Native.Nat.{ℕ, ◌+◌, ◌-◌, ◌*◌, ◌/◌, ◌%◌, ◌^◌, ◌≤◌, ◌<◌}
use native.Mathlib.Numerals.{add-one}
use native.Mathlib.Omega.{arith}
use lib.Pow.{high, low, pow_mono}
use lib.ListN.{length, get_or, take, drop}
use lib.Seq.{get_or-take, get_or-drop}
use borrow.Rule.Slice.PartMut.{put_mid}
use Rattle.ring.specs.Letters.{digit, bit}
use Rattle.ring.specs.Polynomial.{Polynomial, ◌⊕◌, value}
use Rattle.ring.specs.Table.{present, table, held, answer_table}
use Rattle.ring.specs.Length.{monomial_count, total_count}
use Rattle.ring.proofs.Lists.{listed_cong, tabulate-listed}
use Rattle.ring.proofs.Value.{value_cong}
use Rattle.ring.proofs.Parity.{count_most}
use Rattle.ring.proofs.Length.{monomials_cong, monomials-table, total_answer_table}
use Rattle.tables.specs.declared.Letters.{Letters}
use Rattle.tables.proofs.Filled.{filled}
use Rattle.words.specs.Inner.Words.{words_of, bit_at}
use Rattle.words.proofs.Letters.{room}
use Rattle.words.proofs.Words.{at_known, size_words}
use Rattle.words.proofs.Parts.{points_in, parts_more, parts_end}
use Rattle.solver.specs.Inner.Words.{part_value, made_by}

-- ---- words into tables
part_at : (d s : ℕ) (ws : List ℕ) (p : ℕ) → p < 64 * d → bit_at (take d (drop s ws)) p ≡ bit_at ws (64 * s + p)
unfolding bit_at
part_at d s ws p l =
    let h : p / 64 < d = omega arith in
    let e : s + p / 64 ≡ (64 * s + p) / 64 = omega arith in
    let r : p % 64 ≡ (64 * s + p) % 64 = omega arith in
    ap (λ (x : ℕ). bit x (p % 64)) (get_or-take d (drop s ws) (p / 64) 0 h ∙ get_or-drop s ws (p / 64) 0)
    ∙ ap₂ (λ (x y : ℕ). bit (get_or ws x 0) y) e r

pub part_value_lem : (n k j : ℕ) (ws : List ℕ) → k ≡ 2 ^ (n - 6) → (p : ℕ) → p < 2 ^ n
    → bit_at (take (j * k + k - j * k) (drop (j * k) ws)) p ≡ part_value (2 ^ (n - 6)) ws j p
unfolding part_value
part_value_lem n k j ws ek p l =
    let count : j * k + k - j * k ≡ k = omega arith in
    ap (λ (y : ℕ). bit_at (take y (drop (j * k) ws)) p) count ∙ part_at k (j * k) ws p (omega (arith, room n, ek))
    ∙ ap (λ (y : ℕ). bit_at ws (64 * (j * y) + p)) ek ∙ ap (λ (y : ℕ). bit_at ws (y + p)) (sym (points_in j (2 ^ (n - 6))))

-- byte i of the tables of a
pub answer_byte : ℕ → (ℕ → Polynomial) → ℕ → ℕ
answer_byte n a i = digit (a (i / 2 ^ n) (i % 2 ^ n))

pub tables_more : (n j k : ℕ) (a : ℕ → Polynomial) (g : Polynomial) (t₀ t ys : List ℕ) → k ≡ 2 ^ n → t ≡ filled (j * k) (answer_byte n a) t₀
    → ys ≡ table n g → ((m : ℕ) → m < 2 ^ n → g m ≡ a j m)
    → put_mid (j * k) (j * k + k - j * k) t ys ≡ filled ((j + 1) * k) (answer_byte n a) t₀
unfolding table answer_byte
tables_more n j k a g t₀ t ys ek e ey same =
    parts_more j k (answer_byte n a) t₀ t ys e (ey ∙ rw ek (tabulate-listed (2 ^ n) g ∙ listed_cong (2 ^ n) _ _ (λ i l.
    ap digit (same i l) ∙ sym (ap₂ (λ (x y : ℕ). digit (a x y)) (high j n l) (low j n l)))))

pub tables_done : (n u j k : ℕ) (a : ℕ → Polynomial) (t₀ t : List ℕ) → k ≡ 2 ^ n → j ≡ u → length t₀ ≡ u * 2 ^ n
    → t ≡ filled (j * k) (answer_byte n a) t₀ → t ≡ answer_table u n a
unfolding answer_table answer_byte
tables_done n u j k a t₀ t ek ej size e = parts_end u (2 ^ n) j k (answer_byte n a) t₀ t ek ej size e ∙ sym (tabulate-listed (u * 2 ^ n) _)

-- the total of monomials: one table more ..
pub total_more : (n j total r : ℕ) (a : ℕ → Polynomial) (g : Polynomial) (ys : List ℕ) → total ≡ total_count j n a → ys ≡ table n g
    → ((m : ℕ) → m < 2 ^ n → g m ≡ a j m) → r ≡ monomial_count n (present ys) → total + r ≡ total_count (j + 1) n a
unfolding total_count
total_more n j total r a g ys et ey same er =
    rw add-one
    (ap₂ ◌+◌ et
    (er ∙ ap (λ (t : List ℕ). monomial_count n (present t)) ey ∙ monomials-table n g ∙ monomials_cong n g (a j) same))

-- .. which the code can count ..
pub count_small : (l : Letters) (r : ℕ) (t : List ℕ) → r ≡ monomial_count l.n (present t) → r ≤ 1024
unfolding monomial_count
count_small l r t e = let most : 2 ^ l.n ≤ 2 ^ 10 = pow_mono l.n_fits in omega (arith, e, count_most (2 ^ l.n) (present t))

-- .. and all of them
pub total_done : (n u j total : ℕ) (a : ℕ → Polynomial) (t : List ℕ) → j ≡ u → total ≡ total_count j n a → t ≡ answer_table u n a
    → total ≡ total_count u n (held n t)
total_done n u j total a t ej et e =
    et ∙ ap (λ (x : ℕ). total_count x n a) ej
    ∙ sym (ap (λ (s : List ℕ). total_count u n (held n s)) e ∙ total_answer_table u n a)

-- the table that is made of one part
pub made_table : (l : Letters) (h : ℕ → Bool → ℕ → Bool) (k x : ℕ) (parts left : List ℕ) → k ≡ 2 ^ (l.n - 6)
    → ((p : ℕ) → p < 2 ^ l.n → bit_at left p ≡ h x (bit_at (take (x * k + k - x * k) (drop (x * k) parts)) p) p)
    → (m : ℕ) → m < 2 ^ l.n → value l.n (bit_at left) m ≡ made_by l h parts x m
made_table l h k x parts left ek is m lt =
    value_cong l.n _ _ m (λ p lp. is p lp ∙ ap (λ (b : Bool). h x b p) (part_value_lem l.n k x parts ek p lp))

-- the values of Löwenheim's answer, which are that of one part
pub mixed_words : (l : Letters) (x size : ℕ) (values part left : List ℕ) → size ≡ 2 ^ (l.n - 6)
    → left ≡ words_of size (λ p. bit p x ⊕ (bit_at values p && (bit p x ⊕ bit_at part p)))
    → (length left ≡ 2 ^ (l.n - 6)) × ((p : ℕ) → p < 2 ^ l.n → bit_at left p ≡ (bit p x ⊕ (bit_at values p && (bit p x ⊕ bit_at part p))))
mixed_words l x size values part left es e =
    (size_words _ _ left e ∙ es, λ p lt. at_known size _ left e p (omega (arith, room l.n, es)))
