-- Decoding: the laws of `symbol` for bytes, by computed tests, and the loops over a text and over its symbols.
-- Assumes nothing.
use mathlib.Core.Path.{◌≡◌, refl, ap, ◌∙◌, sym}
use mathlib.Core.Bool.{Bool, true, false, not, ◌&&◌, ◌||◌, cond, beq, false≢true, and-true, and_assoc}
use mathlib.Core.List.{List, [], ◌∷◌, ◌++◌, append-nil}
use Prim.Native.Nat.{ℕ, suc, ◌+◌, ◌-◌, ◌≤◌, ◌<◌}
use native.Mathlib.Numerals.{add-one}
use native.Mathlib.Omega.{arith}
use borrow.Author.Tests.{eq-eqb, ne_eqb, eqb-true, lt-ltb, le-ltb, ltb-true, ltb-false, not-true}
use lib.Dec.{eqb, ltb}
use lib.ListN.{length, get_or, take, set, length-set, length-append}
use lib.Seq.{take-suc, take-suc-set, take-set-le, take_all, take_at}
use Rattle.ring.specs.Lists.{listed}
use Rattle.ring.specs.Polynomial.{every_below}
use Rattle.ring.proofs.Bool.{and_left, and_right, same_bool}
use Rattle.ring.proofs.Every.{every_all}
use Rattle.ring.proofs.Lists.{length-listed}
use Rattle.grammar.specs.Symbols.{space, foreign, is_unknown, is_given, is_single, symbol, symbols, is_sign, every, all_signs, is_declared}
use Rattle.grammar.specs.Symbols.{all_declared}
use Rattle.parser.specs.Inner.Codes.{code, codes}
use Rattle.parser.specs.Inner.Questions.{unspaced, is_known, is_letter_declared}

-- ---- one byte

-- the bytes from lo on, k of them, have the symbols that g gives them
pub by_test : (g : ℕ → ℕ) (lo k : ℕ) → every_below k (λ i. eqb (g (lo + i)) (code (symbol (lo + i)))) ≡ true
    → (c : ℕ) → lo ≤ c → c < lo + k → g c ≡ code (symbol c)
by_test g lo k h c a b =
    let e : lo + (c - lo) ≡ c = omega arith in
    let t = every_all k (λ i. eqb (g (lo + i)) (code (symbol (lo + i)))) h (c - lo) (omega arith) in
    eqb-true (g c) (code (symbol c)) (simp e at t)

-- they are all foreign but for one
pub foreign_test : (lo k sign : ℕ) → every_below k (λ i. eqb (lo + i) sign || eqb (code foreign) (code (symbol (lo + i)))) ≡ true
    → (c : ℕ) → lo ≤ c → c < lo + k → (c ≡ sign → ⊥) → code foreign ≡ code (symbol c)
foreign_test lo k sign h c a b n =
    let e : lo + (c - lo) ≡ c = omega arith in
    let t = every_all k (λ i. eqb (lo + i) sign || eqb (code foreign) (code (symbol (lo + i)))) h (c - lo) (omega arith) in
    eqb-true (code foreign) (code (symbol c)) (simp (e, ne_eqb c sign n) at t)

or-false : (a b : Bool) → a ≡ false → a || b ≡ true → b ≡ true
or-false true b e h = absurd (false≢true (sym e))
or-false false b e h = h

-- a byte that is no space is a sign exactly where it has a symbol of its own
sign_symbol : (c : ℕ) → c < 256 → eqb c space ≡ false → is_known (code (symbol c)) ≡ is_sign c
unfolding every_below symbol is_sign is_unknown is_given is_single
sign_symbol c h n =
    same_bool (is_known (code (symbol c))) (is_sign c)
    (or-false (eqb c space) (beq (is_known (code (symbol c))) (is_sign c)) n
    (every_all 256 (λ c. eqb c space || beq (is_known (code (symbol c))) (is_sign c)) refl c h))

-- the codes below 8 are those of unknowns, those from 8 to 15 of givens
abbrev kinds_right : ℕ → Bool
kinds_right c = cond (ltb (code (symbol c)) 8) (is_unknown c) (not (is_unknown c) && beq (ltb (code (symbol c)) 16) (is_given c))

kinds_right_lem : (c : ℕ) → c < 256 → kinds_right c ≡ true
unfolding every_below symbol is_unknown is_given is_single
kinds_right_lem c h = every_all 256 kinds_right refl c h

module _ (U G r c : ℕ) (e : r ≡ code (symbol c)) (h : c < 256) where
  unknown_declared : r < 8 → ltb r U ≡ is_declared U G c
  unfolding symbol is_declared
  unknown_declared l =
      let u : is_unknown c ≡ true = rw (lt-ltb (code (symbol c)) 8 (rw e at l)) at (kinds_right_lem c h) in
      rw e (rw u)

  not_unknown : 8 ≤ r → (is_unknown c ≡ false) × (ltb r 16 ≡ is_given c)
  not_unknown a =
      let b : (not (is_unknown c) && beq (ltb (code (symbol c)) 16) (is_given c)) ≡ true =
      rw (le-ltb (code (symbol c)) 8 (rw e at a)) at (kinds_right_lem c h) in
      (not-true (is_unknown c) (and_left (not (is_unknown c)) _ b), rw e (same_bool _ _ (and_right (not (is_unknown c)) _ b)))

  given_declared : 8 ≤ r → r < 16 → ltb (r - 8) G ≡ is_declared U G c
  unfolding symbol is_declared
  given_declared a b =
      let n = not_unknown a in
      let g : is_given c ≡ true = sym n.1 ∙ lt-ltb r 16 b in
      let s : 8 + (c - 97) - 8 ≡ c - 97 = omega arith in
      rw e (rw (n.0, g) (ap (λ (x : ℕ). ltb x G) s))

  other_declared : 16 ≤ r → true ≡ is_declared U G c
  unfolding is_declared
  other_declared a =
      let n = not_unknown (omega arith) in
      let g : is_given c ≡ false = sym n.1 ∙ le-ltb r 16 a in
      rw (n.0, g)

declared_symbol : (U G c : ℕ) → c < 256 → is_letter_declared U G (code (symbol c)) ≡ is_declared U G c
declared_symbol U G c h = go (ltb (code (symbol c)) 8) (ltb (code (symbol c)) 16) refl refl
  where
    go : (x y : Bool) → ltb (code (symbol c)) 8 ≡ x → ltb (code (symbol c)) 16 ≡ y
        → cond x (ltb (code (symbol c)) U) (cond y (ltb (code (symbol c) - 8) G) true) ≡ is_declared U G c
    go true y p q = unknown_declared U G (code (symbol c)) c refl h (ltb-true (code (symbol c)) 8 p)
    go false true p q = given_declared U G (code (symbol c)) c refl h (ltb-false (code (symbol c)) 8 p) (ltb-true (code (symbol c)) 16 q)
    go false false p q = other_declared U G (code (symbol c)) c refl h (ltb-false (code (symbol c)) 16 q)

-- ---- questions 5 and 6, of the bytes of a text or of the codes of its symbols
-- f of codes is g of bytes, and a space passes
module _ (f g : ℕ → Bool) (passes : g space ≡ true) (same : (c : ℕ) → c < 256 → eqb c space ≡ false → f (code (symbol c)) ≡ g c) where
  of_symbols : (text : List ℕ) → ((i : ℕ) → get_or text i 0 < 256) → every f (codes (symbols text)) ≡ every g text
  unfolding symbols every
  of_symbols [] bytes = refl
  of_symbols (c ∷ text) bytes = go (eqb c space) refl (of_symbols text (λ i. bytes (suc i)))
    where
      go : (x : Bool) → eqb c space ≡ x → every f (codes (symbols text)) ≡ every g text
          → every f (codes (cond x (symbols text) (symbol c ∷ symbols text))) ≡ (g c && every g text)
      go true e rest = rw (eqb-true c space e, passes) rest
      go false e rest = rw (same c (bytes 0) e, rest)

pub signs_of_symbols : (text : List ℕ) → ((i : ℕ) → get_or text i 0 < 256) → every is_known (codes (symbols text)) ≡ all_signs text
unfolding all_signs is_sign
signs_of_symbols text bytes = of_symbols is_known is_sign refl sign_symbol text bytes

pub declared_of_symbols : (U G : ℕ) (text : List ℕ) → ((i : ℕ) → get_or text i 0 < 256)
    → every (is_letter_declared U G) (codes (symbols text)) ≡ all_declared U G text
unfolding all_declared is_declared is_unknown is_given
declared_of_symbols U G text bytes = of_symbols (is_letter_declared U G) (is_declared U G) refl (λ c h n. declared_symbol U G c h) text bytes

-- ---- a fold over symbols that tests each
pub every_more : (test : ℕ → Bool) (l : List ℕ) (all more : Bool) (c : ℕ) → all ≡ every test l → more ≡ (all && test c) → more ≡ every test (l ++ (c ∷ []))
unfolding every
every_more test [] all more c e h = h ∙ rw e (sym (and-true (test c)))
every_more test (d ∷ l) all more c e h =
    h ∙ rw e (and_assoc (test d) (every test l) (test c) ∙ ap (λ (b : Bool). test d && b) (every_more test l (every test l) _ c refl refl))

-- ---- a text without its spaces, a byte at a time
pub record Unspacing (text out₀ out : List ℕ) (n i : ℕ) : Type 0 where
  pub read : i ≤ length text
  pub fewer : n ≤ i
  pub same : length out ≡ length out₀
  pub written : take n out ≡ unspaced (take i text)

pub unspacing : (text out : List ℕ) → Unspacing text out out 0 0
unfolding unspaced
unspacing text out = record { read = omega arith; fewer = omega arith; same = refl; written = refl }

pub all_unspaced : (text out₀ out : List ℕ) (n i : ℕ) → Unspacing text out₀ out n i → length text ≤ i → length text ≤ length out₀
    → (n ≤ length out) × (take n out ≡ unspaced text)
all_unspaced text out₀ out n i d h k = (omega (arith, d.fewer, d.read, d.same), d.written ∙ ap unspaced (take_all i text h))

cond-append : (b : Bool) (x : ℕ) (l m : List ℕ) → cond b (l ++ m) (x ∷ (l ++ m)) ≡ cond b l (x ∷ l) ++ m
cond-append true x l m = refl
cond-append false x l m = refl

unspaced-append : (l m : List ℕ) → unspaced (l ++ m) ≡ unspaced l ++ unspaced m
unfolding unspaced
unspaced-append [] m = refl
unspaced-append (c ∷ l) m = rw (unspaced-append l m) (cond-append (eqb c space) c (unspaced l) (unspaced m))

module _ (text out₀ out : List ℕ) (n i : ℕ) (d : Unspacing text out₀ out n i) (h : i < length text) where
  one_more : unspaced (take (i + 1) text) ≡ unspaced (take i text) ++ unspaced (get_or text i 0 ∷ [])
  one_more = rw (add-one, take-suc text i 0) (unspaced-append (take i text) (get_or text i 0 ∷ []))

  pub past_space : get_or text i 0 ≡ space → Unspacing text out₀ (set out n (get_or text i 0)) n (i + 1)
  unfolding unspaced
  past_space q =
      record {
        read = omega arith;
        fewer = omega (arith, d.fewer);
        same = simp length-set d.same;
        written = take-set-le n out n _ (omega arith) ∙ d.written ∙ sym (one_more ∙ rw (eq-eqb _ _ q) (append-nil _));
      }

  pub past_sign : (get_or text i 0 ≡ space → ⊥) → length text ≤ length out₀ → Unspacing text out₀ (set out n (get_or text i 0)) (n + 1) (i + 1)
  unfolding unspaced
  past_sign q k =
      record {
        read = omega arith;
        fewer = omega (arith, d.fewer);
        same = simp length-set d.same;
        written = rw (add-one n, take-suc-set out n _ (omega (arith, d.fewer, d.same)), d.written) (sym (one_more ∙ rw (ne_eqb _ _ q)));
      }

-- the symbols are those of the bytes that are left
symbols-unspaced : (text : List ℕ) → listed (length (unspaced text)) (λ i. code (symbol (get_or (unspaced text) i 0))) ≡ codes (symbols text)
unfolding symbols unspaced listed
symbols-unspaced [] = refl
symbols-unspaced (c ∷ text) = go (eqb c space) (symbols-unspaced text)
  where
    go : (x : Bool) → listed (length (unspaced text)) (λ i. code (symbol (get_or (unspaced text) i 0))) ≡ codes (symbols text)
        → listed (length (cond x (unspaced text) (c ∷ unspaced text)))
        (λ i. code (symbol (get_or (cond x (unspaced text) (c ∷ unspaced text)) i 0)))
        ≡ codes (cond x (symbols text) (symbol c ∷ symbols text))
    go true e = e
    go false e = ap (λ (l : List ℕ). code (symbol c) ∷ l) e

pub symbols-written : (text front front' rest : List ℕ) (n : ℕ) → front ≡ unspaced text
    → front' ≡ listed (length front) (λ i. code (symbol (get_or front i 0))) → n ≡ length front
    → (n ≤ length (front' ++ rest)) × (take n (front' ++ rest) ≡ codes (symbols text))
symbols-written text front front' rest n e e' en =
    let size : length front' ≡ n = ap length e' ∙ length-listed (length front) (λ i. code (symbol (get_or front i 0))) ∙ sym en in
    (omega (arith, length-append front' rest), take_at front' rest n size ∙ e' ∙ rw e (symbols-unspaced text))
