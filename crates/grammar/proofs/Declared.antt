-- Where every letter of a text is declared, so is every letter of its tree: a symbol that stands for a letter has a declared number.
-- Assumes nothing.
use mathlib.Core.Path.{◌≡◌}
use mathlib.Core.Bool.{Bool, true, false, cond}
use mathlib.Core.List.{List, [], ◌∷◌, ◌++◌}
use Prim.Native.Nat.{ℕ, ◌-◌, ◌<◌}
use borrow.Author.Tests.{ltb-true}
use lib.Dec.{eqb, ltb}
use Rattle.ring.proofs.Bool.{and_left, and_right}
use Rattle.grammar.specs.Symbols.{Symbol, unknown_letter, given_letter, single, foreign, close_sign, times_sign, plus_sign, or_sign, space}
use Rattle.grammar.specs.Symbols.{is_unknown, is_given, is_single, symbol, symbols, every, is_declared, all_declared}
use Rattle.grammar.specs.Grammar.{Tree, Kind, Derives}
use Rattle.grammar.specs.Grammar.{one_product, plus_product, or_product, one_factor, times_factor}
use Rattle.grammar.specs.Grammar.{is_zero, is_one, unknown_factor, given_factor, is_negation, in_brackets}
use Rattle.grammar.specs.Meaning.{Declared}

module _ (U G : ℕ) where
  -- a symbol that stands for a letter stands for a declared one
  abbrev Fits : Symbol → Type 0
  Fits (unknown_letter j) = j < U
  Fits (given_letter i) = i < G
  Fits (single byte) = Unit {0}
  Fits foreign = Unit {0}

  abbrev AllFit : List Symbol → Type 0
  AllFit [] = Unit {0}
  AllFit (c ∷ l) = Fits c × AllFit l

  fit_left : (l m : List Symbol) → AllFit (l ++ m) → AllFit l
  fit_left [] m f = tt
  fit_left (c ∷ l) m f = (f.0, fit_left l m f.1)

  fit_right : (l m : List Symbol) → AllFit (l ++ m) → AllFit m
  fit_right [] m f = f
  fit_right (c ∷ l) m f = fit_right l m f.1

  pub tree_declared : {k : Kind} {l : List Symbol} {t : Tree} → Derives k l t → AllFit l → Declared U G t
  tree_declared (one_product d) f = tree_declared d f
  tree_declared (plus_product {l} {m} d e) f =
      (tree_declared d (fit_left l (single plus_sign ∷ m) f), tree_declared e (fit_right l (single plus_sign ∷ m) f).1)
  tree_declared (or_product {l} {m} d e) f =
      (tree_declared d (fit_left l (single or_sign ∷ m) f), tree_declared e (fit_right l (single or_sign ∷ m) f).1)
  tree_declared (one_factor d) f = tree_declared d f
  tree_declared (times_factor {l} {m} d e) f =
      (tree_declared d (fit_left l (single times_sign ∷ m) f), tree_declared e (fit_right l (single times_sign ∷ m) f).1)
  tree_declared is_zero f = tt
  tree_declared is_one f = tt
  tree_declared unknown_factor f = f.0
  tree_declared given_factor f = f.0
  tree_declared (is_negation d) f = tree_declared d f.1
  tree_declared (in_brackets {l} d) f = tree_declared d (fit_left l (single close_sign ∷ []) f.1)

  symbol_fits : (byte : ℕ) → is_declared U G byte ≡ true → Fits (symbol byte)
  unfolding is_declared symbol
  symbol_fits byte h = go (is_unknown byte) (is_given byte) (is_single byte) h
    where
      go : (a b c : Bool) → cond a (ltb (byte - 117) U) (cond b (ltb (byte - 97) G) true) ≡ true
          → Fits (cond a (unknown_letter (byte - 117)) (cond b (given_letter (byte - 97)) (cond c (single byte) foreign)))
      go true b c d = ltb-true (byte - 117) U d
      go false true c d = ltb-true (byte - 97) G d
      go false false true d = tt
      go false false false d = tt

  pub symbols_fit : (text : List ℕ) → all_declared U G text ≡ true → AllFit (symbols text)
  unfolding all_declared every symbols
  symbols_fit [] h = tt
  symbols_fit (byte ∷ text) h =
      go (eqb byte space) (symbol_fits byte (and_left (is_declared U G byte) _ h)) (symbols_fit text (and_right (is_declared U G byte) _ h))
    where
      go : (a : Bool) → Fits (symbol byte) → AllFit (symbols text) → AllFit (cond a (symbols text) (symbol byte ∷ symbols text))
      go true f g = g
      go false f g = (f, g)
