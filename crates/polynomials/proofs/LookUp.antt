-- The six lowest letters of a word replaced, all at once. The two lowest choose among each four bits of the word, which leaves 16 words;
-- half of them go with every further letter: once the letters from j on have chosen, word p holds the value at the point whose letters
-- from 2 to j are those of p, and whose other letters are those that chose. At last the one word that is left holds the value at the replaced point.
-- Assumes nothing.
use mathlib.Core.Path.{◌≡◌, refl, sym, ap, ap₂, ◌∙◌}
use mathlib.Core.Bool.{Bool, true, false, ◌&&◌, cond}
use mathlib.Core.List.{List, ◌++◌}
use Prim.Native.Nat.{ℕ, zero, suc, ◌+◌, ◌-◌, ◌*◌, ◌/◌, ◌%◌, ◌^◌, ◌≤◌, ◌<◌}
use native.Mathlib.Nat.{pow-suc, add-mul, one-mul, mul-one, add-zero, sub-zero, mul_assoc, mul_comm, mod-lt}
use native.Mathlib.Decide.{dec_lt}
use native.Mathlib.Omega.{arith}
use lib.Bits.{bit_and, and_mask}
use lib.Dec.{eqb}
use lib.ListN.{length, get_or, take, drop}
use lib.Seq.{get_or-take, get_or-drop}
use lib.Pow.{pow_mono, pow-add, pow_pos}
use borrow.Author.Tests.{le-ltb}
use Rattle.ring.specs.Letters.{digit, bit, point_where}
use Rattle.ring.specs.Lists.{listed}
use Rattle.ring.specs.Polynomial.{Polynomial, ◌⊕◌, value, substitute}
use Rattle.ring.specs.Table.{present, table, held, for_unknowns}
use Rattle.ring.proofs.Bool.{xor_false, digit_lt}
use Rattle.ring.proofs.Lists.{get_d_listed, listed_cong}
use Rattle.ring.proofs.Points.{bit-point_where, point_where_lt, point_where_cong, same_letters, bit_none}
use Rattle.ring.proofs.Substitute.{value-for_unknowns}
use Rattle.tables.proofs.Filled.{filled, filled_low, filled_all}
use Rattle.words.specs.Inner.Words.{word_of, words_of, bit_at, answer_words}
use Rattle.words.proofs.Bits.{bit_in, bit_over, shr_bit, shl_bit}
use Rattle.words.proofs.Words.{word_cong, bit_at_lem, at_known}
use Rattle.words.proofs.Holds.{Holds, word_holds, and_holds, xor_holds, also_holds, holds_word, constant_holds}
use Rattle.words.proofs.Letters.{room, points, table_back}
use Rattle.words.proofs.Parts.{part_point, answer_at_lem}
use Rattle.polynomials.specs.Inner.LookUp.{chosen, place_of, put_for}

-- the letters from j on of the point that B makes
pub above : (ℕ → Bool) → ℕ → ℕ
above B j = point_where (6 - j) (λ m. B (j + m))

above_next : (B : ℕ → Bool) (j : ℕ) → j < 6 → above B j ≡ above B (suc j) * 2 + digit (B j)
unfolding above point_where
above_next B j h =
    let d : 6 - j ≡ suc (6 - suc j) = omega arith in
    ap (λ (x : ℕ). point_where x (λ m. B (j + m))) d
    ∙ ap₂ (λ (x : ℕ) (b : Bool). x * 2 + digit b) (point_where_cong (6 - suc j) _ _ (λ m _. ap B (next j m))) (ap B (add-zero j))
  where
    next : (j m : ℕ) → j + suc m ≡ suc j + m
    next j m = omega arith

-- word p once the two lowest letters and those from j on have chosen
abbrev pub level : ℕ → (ℕ → ℕ → Bool) → (ℕ → ℕ) → ℕ → ℕ → ℕ
level v B low j p = word_of (λ i. bit v (above (λ m. B m i) j * 2 ^ j + (4 * p + low i)))

pick : (v s j p : ℕ) (b : Bool)
    → (bit v (s * 2 ^ suc j + p) ⊕ (b && (bit v (s * 2 ^ suc j + p) ⊕ bit v (s * 2 ^ suc j + (p + 2 ^ j)))))
    ≡ bit v ((s * 2 + digit b) * 2 ^ j + p)
pick v s j p true =
    let e : s * 2 ^ suc j + (p + 2 ^ j) ≡ (s * 2 + 1) * 2 ^ j + p = omega (arith, scale s j, add-mul (s * 2) 1 (2 ^ j), one-mul (2 ^ j)) in
    cancel (bit v (s * 2 ^ suc j + p)) (bit v (s * 2 ^ suc j + (p + 2 ^ j))) ∙ ap (bit v) e
  where
    cancel : (y z : Bool) → (y ⊕ (y ⊕ z)) ≡ z
    cancel true true = refl
    cancel true false = refl
    cancel false z = refl

    scale : (s j : ℕ) → s * 2 ^ suc j ≡ s * 2 * 2 ^ j
    scale s j = ap (λ (x : ℕ). s * x) (pow-suc 2 j ∙ mul_comm (2 ^ j) 2) ∙ sym (mul_assoc s 2 (2 ^ j))
pick v s j p false =
    let e : s * 2 ^ suc j + p
    ≡ (s * 2 + 0) * 2 ^ j + p =
    ap (λ (x : ℕ). x + p)
    (ap (λ (x : ℕ). s * x) (pow-suc 2 j ∙ mul_comm (2 ^ j) 2) ∙ sym (mul_assoc s 2 (2 ^ j))
    ∙ ap (λ (x : ℕ). x * 2 ^ j) (sym (add-zero (s * 2)))) in
    xor_false (bit v (s * 2 ^ suc j + p)) ∙ ap (bit v) e

place_lt : (a b i : ℕ) → place_of a b i < 4
unfolding place_of
place_lt a b i = omega (arith, digit_lt (bit b i), digit_lt (bit a i))

-- four bits of a word
four_bit : (v q x : ℕ) → x < 4 → bit (v / 2 ^ (4 * q) % 16) x ≡ bit v (4 * q + x)
four_bit v q x l =
    ap (λ (y : ℕ). bit (y % 2 ^ 4) x) (sym (mul-one (v / 2 ^ (4 * q))))
    ∙ shl_bit (v / 2 ^ (4 * q)) 0 x 4 (omega arith) l ∙ ap (bit (v / 2 ^ (4 * q))) (sub-zero x) ∙ shr_bit v (4 * q) x

-- the two lowest letters have chosen
pub level_start : (v j a b : ℕ) (B : ℕ → ℕ → Bool) (s t : List ℕ) → j ≡ 6 → s ≡ listed 16 (λ x. word_of (λ i. bit x (place_of a b i)))
    → t ≡ listed 16 (λ q. get_or s (v / 2 ^ (4 * q) % 16) 0) → (p : ℕ) → p < 2 ^ (j - 2) → get_or t p 0 ≡ level v B (place_of a b) j p
unfolding above point_where
level_start v j a b B s t ej es et p l =
    let m : p < 16 = rw ej at l in
    let x : ℕ = v / 2 ^ (4 * p) % 16 in
    let lx : x < 16 = mod-lt (v / 2 ^ (4 * p)) (pow_pos 4) in
    ap (λ (t : List ℕ). get_or t p 0) et ∙ get_d_listed 16 _ p 0 m
    ∙ ap (λ (s : List ℕ). get_or s x 0) es ∙ get_d_listed 16 _ x 0 lx
    ∙ rw ej (word_cong _ _ (λ i _. four_bit v p (place_of a b i) (place_lt a b i) ∙ ap (bit v) (flat (4 * p + place_of a b i))))
  where
    flat : (p : ℕ) → p ≡ 0 * 64 + p
    flat p = omega arith

-- letter j - 1 chooses
pub level_next : (v j b half : ℕ) (B : ℕ → ℕ → Bool) (low : ℕ → ℕ) (t t' : List ℕ) → 2 < j → j ≤ 6 → half ≡ 2 ^ (j - 1 - 2)
    → Holds b (B (j - 1))
    → ((p : ℕ) → p < 2 ^ (j - 2) → get_or t p 0 ≡ level v B low j p)
    → t' ≡ listed half (λ p. chosen b (get_or t p 0) (get_or t (p + half) 0)) ++ drop half t
    → (p : ℕ) → p < 2 ^ (j - 1 - 2) → get_or t' p 0 ≡ level v B low (j - 1) p
unfolding filled chosen
level_next v j b half B low t t' h l eh hb inv e p m =
    let s : j - 2 ≡ suc (j - 1 - 2) = omega arith in
    let d : 2 ^ (j - 2) ≡ 2 ^ (j - 1 - 2) * 2 = ap (λ (x : ℕ). 2 ^ x) s ∙ pow-suc 2 (j - 1 - 2) in
    let hx : Holds (get_or t p 0) (λ i. bit v (above (λ m. B m i) j * 2 ^ j + (4 * p + low i))) = word_holds _ _ (inv p (omega arith)) in
    let hy : Holds (get_or t (p + half) 0) (λ i. bit v (above (λ m. B m i) j * 2 ^ j + (4 * (p + half) + low i))) = word_holds _ _
    (inv (p + half) (omega arith)) in
    ap (λ (t : List ℕ). get_or t p 0) e ∙ filled_low half (λ p. chosen b (get_or t p 0) (get_or t (p + half) 0)) t p (omega arith)
    ∙ holds_word _ _ (also_holds (xor_holds hx (and_holds hb (xor_holds hx hy))) (λ i _. at i))
  where
    at : (i : ℕ)
        → (bit v (above (λ m. B m i) j * 2 ^ j + (4 * p + low i))
        ⊕ (B (j - 1) i && (bit v (above (λ m. B m i) j * 2 ^ j + (4 * p + low i)) ⊕ bit v
        (above (λ m. B m i) j * 2 ^ j + (4 * (p + half) + low i)))))
        ≡ bit v (above (λ m. B m i) (j - 1) * 2 ^ (j - 1) + (4 * p + low i))
    at i =
        let s : j ≡ suc (j - 1) = omega arith in
        let r : j - 1 - 2 + 2 ≡ j - 1 = omega arith in
        let q : 2 ^ (j - 1) ≡ half * 4 = sym (ap (λ (x : ℕ). 2 ^ x) r) ∙ pow-add 2 (j - 1 - 2) 2 ∙ ap (λ (x : ℕ). x * 4) (sym eh) in
        let y : 4 * (p + half) + low i ≡ 4 * p + low i + 2 ^ (j - 1) = omega arith in
        ap₂ (λ (x y : ℕ). bit v (above (λ m. B m i) x * 2 ^ x + (4 * p + low i)) ⊕
        (B (j - 1) i && (bit v (above (λ m. B m i) x * 2 ^ x + (4 * p + low i)) ⊕ bit v (above (λ m. B m i) x * 2 ^ x + y)))) s y
        ∙ pick v (above (λ m. B m i) (suc (j - 1))) (j - 1) (4 * p + low i) (B (j - 1) i)
        ∙ ap (λ (x : ℕ). bit v (x * 2 ^ (j - 1) + (4 * p + low i))) (sym (above_next (λ m. B m i) (j - 1) (omega arith)))

-- every letter has chosen
pub level_end : (v j a b : ℕ) (B : ℕ → ℕ → Bool) (t : List ℕ) → j ≡ 2 → ((i : ℕ) → bit a i ≡ B 0 i) → ((i : ℕ) → bit b i ≡ B 1 i)
    → ((p : ℕ) → p < 2 ^ (j - 2) → get_or t p 0 ≡ level v B (place_of a b) j p) → get_or t 0 0 ≡ word_of (λ i. bit v (point_where 6 (λ m. B m i)))
unfolding above place_of point_where
level_end v j a b B t z ea eb inv =
    inv 0 (rw z (omega arith)) ∙ rw z (word_cong _ _ (λ i _.
    ap (bit v) (ap₂ (λ (x y : Bool). point_where 4 (λ m. B (2 + m) i) * 4 + (4 * 0 + (digit y * 2 + digit x))) (ea i) (eb i)
    ∙ flat (point_where 4 (λ m. B (2 + m) i)) (digit (B 1 i)) (digit (B 0 i))
    ∙ ap (λ (x : ℕ). (x * 2 + digit (B 1 i)) * 2 + digit (B 0 i)) (point_where_cong 4 _ _ (λ m _. ap (λ (x : ℕ). B x i) (from m))))))
  where
    flat : (x y z : ℕ) → x * 4 + (4 * 0 + (y * 2 + z)) ≡ (x * 2 + y) * 2 + z
    flat x y z = omega arith

    from : (m : ℕ) → 2 + m ≡ suc (suc m)
    from m = omega arith

-- the choice among four bits
pub four_chosen : (x a b c₀ c₁ c₂ c₃ low high r : ℕ) → a < 2 ^ 64 → b < 2 ^ 64 → c₀ ≡ word_of (λ i. bit x 0) → c₁ ≡ word_of (λ i. bit x 1)
    → c₂ ≡ word_of (λ i. bit x 2)
    → c₃ ≡ word_of (λ i. bit x 3) → low ≡ chosen a c₀ c₁ → high ≡ chosen a c₂ c₃ → r ≡ chosen b low high
    → r ≡ word_of (λ i. bit x (place_of a b i))
unfolding chosen place_of
four_chosen x a b c₀ c₁ c₂ c₃ low high r la lb e₀ e₁ e₂ e₃ el eh er =
    let ha : Holds a (bit a) = record { small = la; bits = λ i _. refl } in
    let hb : Holds b (bit b) = record { small = lb; bits = λ i _. refl } in
    let h₀ = word_holds c₀ _ e₀ in
    let h₂ = word_holds c₂ _ e₂ in
    let hl = xor_holds h₀ (and_holds ha (xor_holds h₀ (word_holds c₁ _ e₁))) in
    let hh = xor_holds h₂ (and_holds ha (xor_holds h₂ (word_holds c₃ _ e₃))) in
    er ∙ rw (el, eh) (holds_word _ _ (also_holds (xor_holds hl (and_holds hb (xor_holds hl hh))) (λ i _. go (bit a i) (bit b i))))
  where
    one : (c : Bool) (y z : Bool) → (y ⊕ (c && (y ⊕ z))) ≡ cond c z y
    one true true true = refl
    one true true false = refl
    one true false z = refl
    one false y z = xor_false y

    go : (y z : Bool) → ((bit x 0 ⊕ (y && (bit x 0 ⊕ bit x 1))) ⊕
        (z && ((bit x 0 ⊕ (y && (bit x 0 ⊕ bit x 1))) ⊕ (bit x 2 ⊕ (y && (bit x 2 ⊕ bit x 3))))))
        ≡ bit x (digit z * 2 + digit y)
    go y z =
        rw (one y (bit x 0) (bit x 1), one y (bit x 2) (bit x 3), one z (cond y (bit x 1) (bit x 0)) (cond y (bit x 3) (bit x 2)))
        (pair y z)
      where
        pair : (y z : Bool) → cond z (cond y (bit x 3) (bit x 2)) (cond y (bit x 1) (bit x 0)) ≡ bit x (digit z * 2 + digit y)
        pair true true = refl
        pair true false = refl
        pair false true = refl
        pair false false = refl

-- half of the words that are left
pub half_small : (j half : ℕ) → 2 < j → j ≤ 6 → half ≡ 2 ^ (j - 1 - 2) → half + half ≤ 16
half_small j half h l e =
    let i : j - 1 - 2 ≤ 3 = omega arith in
    let b : 2 ^ (j - 1 - 2) ≤ 2 ^ 3 = pow_mono i in
    omega arith

-- the two lowest parts
pub first_parts : (parts : List ℕ) (k w : ℕ)
    → ((i : ℕ) → bit (get_or parts w 0) i ≡ bit (get_or parts (0 * k + w) 0) i)
    × ((i : ℕ) → bit (get_or parts (k + w) 0) i ≡ bit (get_or parts (1 * k + w) 0) i)
first_parts parts k w = (λ i. ap (λ (x : ℕ). bit (get_or parts x 0) i) (zeroth k w), λ i. ap (λ (x : ℕ). bit (get_or parts x 0) i) (first k w))
  where
    zeroth : (k w : ℕ) → w ≡ 0 * k + w
    zeroth k w = omega arith

    first : (k w : ℕ) → k + w ≡ 1 * k + w
    first k w = omega arith

-- a bit at all points of a word
pub point_word : (v p : ℕ) → bit_and (v / 2 ^ p) 1 * 0xffff_ffff_ffff_ffff ≡ word_of (λ i. bit v p)
unfolding bit
point_word v p = ap (λ (x : ℕ). x * 0xffff_ffff_ffff_ffff) (and_mask (v / 2 ^ p) 1) ∙ go (v / 2 ^ p % 2) (omega arith)
  where
    go : (d : ℕ) → d < 2 → d * 0xffff_ffff_ffff_ffff ≡ word_of (λ i. eqb d 1)
    go zero h = holds_word _ _ (constant_holds false _ refl)
    go (suc zero) h = holds_word _ _ (constant_holds true _ refl)
    go (suc (suc d)) h = absurd (omega arith)

-- the word of one word number, seen from the points
pub looked_up : (f parts : List ℕ) (k w v r : ℕ) → v ≡ get_or f w 0
    → r ≡ word_of (λ i. bit v (point_where 6 (λ j. bit (get_or parts (j * k + w) 0) i)))
    → r ≡ word_of (λ i. bit_at f (64 * ((64 * w + i) / 64) + point_where 6 (λ j. bit_at parts (j * (64 * k) + (64 * w + i)))))
looked_up f parts k w v r ev e =
    e ∙ word_cong _ _ (λ i l.
    let d : (64 * w + i) / 64 ≡ w = omega arith in
    ap₂ bit ev (point_where_cong 6 _ _ (λ j _. sym (bit_at_lem parts (j * k + w) i l) ∙ ap (bit_at parts) (part_point k j w i)))
    ∙ sym (bit_at_lem f w (point_where 6 (λ j. bit_at parts (j * (64 * k) + (64 * w + i)))) (point_where_lt 6 _))
    ∙ ap (λ (x : ℕ). bit_at f (64 * x + point_where 6 (λ j. bit_at parts (j * (64 * k) + (64 * w + i))))) (sym d))

-- ---- the whole substitution
-- the point that is looked up, where every letter from u on keeps its value
replaced_point : (n u p : ℕ) (h : ℕ → Bool) → u ≤ 6 → u ≤ n → p < 2 ^ n → ((j : ℕ) → u ≤ j → h j ≡ bit p j)
    → 64 * (p / 64) + point_where 6 h ≡ point_where n h
replaced_point n u p h hu hn hp keep =
    same_letters (6 + (n - 6)) _ _ small (lt (point_where_lt n h)) (λ j l. go j l (dec_lt j 6) (dec_lt j n))
  where
    lt : point_where n h < 2 ^ n → point_where n h < 2 ^ (6 + (n - 6))
    lt l = omega (arith, room n, points n)

    small : 64 * (p / 64) + point_where 6 h < 2 ^ (6 + (n - 6))
    small =
        let a : point_where 6 h < 64 = point_where_lt 6 h in
        let b : p / 64 < 2 ^ (n - 6) = omega (arith, room n) in
        omega (arith, points n)

    none : (j : ℕ) → n ≤ j → bit p j ≡ false
    none j l = let m : 2 ^ n ≤ 2 ^ j = pow_mono l in bit_none p j (omega arith)

    high : (j : ℕ) → 6 ≤ j → bit (64 * (p / 64) + point_where 6 h) j ≡ bit p j
    high j l =
        let e : 6 + (j - 6) ≡ j = omega arith in
        ap (bit (64 * (p / 64) + point_where 6 h)) (sym e) ∙ bit_over (j - 6) (p / 64) (point_where 6 h) (point_where_lt 6 h)
        ∙ shr_bit p 6 (j - 6) ∙ ap (bit p) e

    go : (j : ℕ) → j < 6 + (n - 6) → Dec (j < 6) → Dec (j < n) → bit (64 * (p / 64) + point_where 6 h) j ≡ bit (point_where n h) j
    go j l (yes a) (yes b) = bit_in j (p / 64) (point_where 6 h) a ∙ bit-point_where 6 h j a ∙ sym (bit-point_where n h j b)
    go j l (yes a) (no b) =
        let k : n ≤ j = omega (arith, b) in
        let m : 2 ^ n ≤ 2 ^ j = pow_mono k in
        bit_in j (p / 64) (point_where 6 h) a ∙ bit-point_where 6 h j a ∙ keep j (omega arith) ∙ none j k
        ∙ sym (bit_none (point_where n h) j (omega (arith, point_where_lt n h)))
    go j l (no a) (yes b) = high j (omega (arith, a)) ∙ sym (keep j (omega (arith, a))) ∙ sym (bit-point_where n h j b)
    go j l (no a) (no b) = absurd (omega (arith, a, b))

-- the values after the look-up are those of the polynomial with the handed ones put in
pub handed_put : (u n k : ℕ) (handed f parts f' : List ℕ) → u ≤ 6 → u ≤ n → k ≡ 2 ^ (n - 6)
    → parts ≡ answer_words 6 (2 ^ (n - 6)) (put_for u n handed)
    → f' ≡ words_of k (λ p. bit_at f (64 * (p / 64) + point_where 6 (λ j. bit_at parts (j * (64 * k) + p))))
    → (F : Polynomial) → f ≡ words_of (2 ^ (n - 6)) (value n F) → (p : ℕ) → p < 2 ^ n
    → bit_at f' p ≡ value n (substitute n n F (for_unknowns u (held n handed))) p
unfolding put_for
handed_put u n k handed f parts f' hu hn ek ep e' F ef p l =
    let m : p < 64 * 2 ^ (n - 6) = omega (arith, room n) in
    let q : 64 * (p / 64) + point_where 6 (λ j. bit_at parts (j * (64 * 2 ^ (n - 6)) + p)) ≡ point_where n (λ j. put_for u n handed j p) =
    ap (λ (x : ℕ). 64 * (p / 64) + x) (point_where_cong 6 _ _ (λ j i. answer_at_lem 6 (2 ^ (n - 6)) j p (put_for u n handed) parts ep i m))
    ∙ replaced_point n u p (λ j. put_for u n handed j p) hu hn l
    (λ j i. ap (λ (b : Bool). cond b (value n (held n handed j) p) (bit p j)) (le-ltb j u i)) in
    at_known (2 ^ (n - 6)) _ f'
    (e' ∙ ap (λ (x : ℕ). words_of x (λ p. bit_at f (64 * (p / 64) + point_where 6 (λ j. bit_at parts (j * (64 * x) + p))))) ek) p m
    ∙ ap (bit_at f) q
    ∙ at_known (2 ^ (n - 6)) _ f ef _ (omega (arith, room n, point_where_lt n (λ j. put_for u n handed j p)))
    ∙ sym (value-for_unknowns n u F (held n handed) p)

-- .. and its table is what they make
pub substitute_done : (u n : ℕ) (condition handed f f' out : List ℕ)
    → ((F : Polynomial) → f ≡ words_of (2 ^ (n - 6)) (value n F) → (p : ℕ) → p < 2 ^ n
    → bit_at f' p ≡ value n (substitute n n F (for_unknowns u (held n handed))) p)
    → f ≡ words_of (2 ^ (n - 6)) (value n (present condition)) → out ≡ table n (value n (bit_at f'))
    → out ≡ table n (substitute n n (present condition) (for_unknowns u (held n handed)))
substitute_done u n condition handed f f' out put ef eo =
    eo ∙ table_back n (substitute n n (present condition) (for_unknowns u (held n handed))) f' (put (present condition) ef)

-- ---- the first half of some words after each has been chosen or that of the second in its place
pub choose_end : (b half p : ℕ) (t low top low' : List ℕ) → low ≡ take half t → top ≡ drop half t → length low ≡ half → p ≡ half
    → low' ≡ filled p (λ p. chosen b (get_or low p 0) (get_or top p 0)) low
    → low' ++ top ≡ listed half (λ p. chosen b (get_or t p 0) (get_or t (p + half) 0)) ++ drop half t
choose_end b half p t low top low' el et size ep e =
    ap₂ (λ (x y : List ℕ). x ++ y)
    (e ∙ ap (λ (k : ℕ). filled k F low) (ep ∙ sym size) ∙ filled_all F low ∙ ap (λ (k : ℕ). listed k F) size
    ∙ listed_cong half _ _ (λ i h. ap₂ (chosen b)
    (ap (λ (x : List ℕ). get_or x i 0) el ∙ get_or-take half t i 0 h)
    (ap (λ (x : List ℕ). get_or x i 0) et ∙ get_or-drop half t i 0 ∙ ap (λ (k : ℕ). get_or t k 0) (flip half i)))) et
  where
    F : ℕ → ℕ
    F p = chosen b (get_or low p 0) (get_or top p 0)

    flip : (x y : ℕ) → x + y ≡ y + x
    flip x y = omega arith
