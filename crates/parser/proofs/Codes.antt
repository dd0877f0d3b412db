-- The codes of symbols: what a byte of the buffer stands for, by its range, and that the symbols of a text come back from their codes.
-- Assumes nothing.
use mathlib.Core.Path.{◌≡◌, refl, ap, sym, ◌∙◌}
use mathlib.Core.Bool.{Bool, true, false, ◌&&◌, ◌||◌, cond, false≢true}
use mathlib.Core.List.{List, [], ◌∷◌}
use Prim.Native.Nat.{ℕ, suc, ◌+◌, ◌-◌, ◌≤◌, ◌<◌}
use native.Mathlib.Omega.{arith}
use borrow.Author.Tests.{ne_eqb, le-leb, leb-true, lt-ltb, le-ltb, ltb-true}
use lib.Dec.{eqb, leb, ltb}
use lib.ListN.{get_or}
use Rattle.ring.specs.Polynomial.{every_below}
use Rattle.ring.proofs.Bool.{and_right}
use Rattle.ring.proofs.Every.{every_all}
use Rattle.grammar.specs.Symbols.{unknown_letter, given_letter, single, foreign, plus_sign, or_sign, space}
use Rattle.grammar.specs.Symbols.{is_unknown, is_given, is_single, symbol, symbols}
use Rattle.grammar.specs.Reader.{is, joins_sum}
use Rattle.parser.specs.Inner.Codes.{code, meant, codes, meanings}

pub unknown_meant : (c : ℕ) → c < 6 → meant c ≡ unknown_letter c
unfolding meant
unknown_meant c h = rw (lt-ltb c 6 h)

pub given_meant : (c : ℕ) → 8 ≤ c → c < 16 → meant c ≡ given_letter (c - 8)
unfolding meant
given_meant c a b = rw (le-ltb c 6 (omega arith), le-leb 8 c a, lt-ltb c 16 b)

single_meant : (c : ℕ) → 16 ≤ c → is_single c ≡ true → meant c ≡ single c
unfolding meant
single_meant c a h = rw (le-ltb c 6 (omega arith), le-leb 8 c (omega arith), le-ltb c 16 a, h)

foreign_meant : meant (code foreign) ≡ foreign
unfolding meant is_single
foreign_meant = refl

-- a byte stands for a single sign exactly if it is its byte
pub sign_meant : (sign : ℕ) → 16 ≤ sign → is_single sign ≡ true → (c : ℕ) → is sign (meant c) ≡ eqb c sign
unfolding meant
sign_meant sign large known c = go (ltb c 6) (leb 8 c && ltb c 16) (is_single c) refl refl refl
  where
    go : (x y z : Bool) → ltb c 6 ≡ x → (leb 8 c && ltb c 16) ≡ y → is_single c ≡ z
        → is sign (cond x (unknown_letter c) (cond y (given_letter (c - 8)) (cond z (single c) foreign))) ≡ eqb c sign
    go true y z p q r = let l : c < 6 = ltb-true c 6 p in sym (ne_eqb c sign (λ e. omega arith))
    go false true z p q r = let l : c < 16 = ltb-true c 16 (and_right (leb 8 c) (ltb c 16) q) in sym (ne_eqb c sign (λ e. omega arith))
    go false false true p q r = refl
    go false false false p q r = sym (ne_eqb c sign (λ e. false≢true (sym r ∙ ap is_single e ∙ known)))

pub sum_sign : (c : ℕ) → joins_sum (meant c) ≡ (eqb c plus_sign || eqb c or_sign)
unfolding is_single
sum_sign c = rw (sign_meant plus_sign (omega arith) refl c, sign_meant or_sign (omega arith) refl c)

-- the symbol of a byte comes back from its code: letters have the smallest codes, and no single sign has so small a byte
abbrev comes_back : ℕ → Bool
comes_back byte =
    cond (is_unknown byte) (ltb (byte - 117) 6) (cond (is_given byte) (ltb (byte - 97) 8) (cond (is_single byte) (leb 16 byte) true))

comes_back_lem : (byte : ℕ) → byte < 256 → comes_back byte ≡ true
unfolding every_below is_unknown is_given is_single
comes_back_lem byte h = every_all 256 comes_back refl byte h

pub meant-code : (byte : ℕ) → byte < 256 → meant (code (symbol byte)) ≡ symbol byte
unfolding symbol
meant-code byte h = go (is_unknown byte) (is_given byte) (is_single byte) refl (comes_back_lem byte h)
  where
    go : (x y z : Bool) → is_single byte ≡ z → cond x (ltb (byte - 117) 6) (cond y (ltb (byte - 97) 8) (cond z (leb 16 byte) true)) ≡ true
        → meant (code (cond x (unknown_letter (byte - 117)) (cond y (given_letter (byte - 97)) (cond z (single byte) foreign))))
        ≡ cond x (unknown_letter (byte - 117)) (cond y (given_letter (byte - 97)) (cond z (single byte) foreign))
    go true y z r t = unknown_meant (byte - 117) (ltb-true _ _ t)
    go false true z r t =
        let l : byte - 97 < 8 = ltb-true (byte - 97) 8 t in
        let e : 8 + (byte - 97) - 8 ≡ byte - 97 = omega arith in
        given_meant (8 + (byte - 97)) (omega arith) (omega arith) ∙ ap given_letter e
    go false false true r t = single_meant byte (leb-true 16 byte t) r
    go false false false r t = foreign_meant

symbols_back : (text : List ℕ) → ((i : ℕ) → get_or text i 0 < 256) → meanings (codes (symbols text)) ≡ symbols text
unfolding symbols
symbols_back [] bytes = refl
symbols_back (byte ∷ text) bytes = go (eqb byte space) (symbols_back text (λ i. bytes (suc i)))
  where
    go : (x : Bool) → meanings (codes (symbols text)) ≡ symbols text
        → meanings (codes (cond x (symbols text) (symbol byte ∷ symbols text))) ≡ cond x (symbols text) (symbol byte ∷ symbols text)
    go true rest = rest
    go false rest = rw (meant-code byte (bytes 0), rest)

pub text_meant : (text s : List ℕ) → ((i : ℕ) → get_or text i 0 < 256) → s ≡ codes (symbols text) → meanings s ≡ symbols text
text_meant text s bytes e = ap meanings e ∙ symbols_back text bytes
