-- The readers in terms of places and stacks: what `IsUpTo` is, step by step.
-- A reader with a loop, `sum` or `product`, is a part, then any number of a sign and a part: `Loop` serves both.
-- Assumes nothing.
use mathlib.Core.Path.{◌≡◌, refl, ◌∙◌, sym}
use mathlib.Core.Logic.{◌⊎◌, ⊎_elim}
use mathlib.Core.Bool.{Bool, true, false, ◌&&◌, cond}
use mathlib.Core.List.{List, [], ◌∷◌, ◌++◌}
use Prim.Native.Nat.{ℕ, ◌+◌, ◌-◌, ◌*◌, ◌≤◌, ◌<◌}
use native.Mathlib.Numerals.{add-one}
use native.Mathlib.Omega.{arith}
use borrow.Author.Tests.{ne_eqb, le-leb, lt-leb, lt-ltb, le-ltb}
use lib.ListN.{length, get_or, drop, take, drop_of_length-le, length-drop}
use lib.Seq.{drop-cons, length-take-le, take-append-le}
use borrow.Rule.Slice.PartMut.{put_mid, post_of, same_len_mid}
use lib.Bits.{bit_and, bit_xor}
use lib.Dec.{leb, ltb}
use Rattle.tables.proofs.Filled.{filled}
use Rattle.ring.specs.Letters.{bit}
use Rattle.grammar.specs.Symbols.{Symbol, single, foreign, is_single}
use Rattle.grammar.specs.Symbols.{zero_sign, one_sign, not_sign, open_sign, close_sign, times_sign, or_sign}
use Rattle.grammar.specs.Grammar.{Tree, constant, unknown, given, negation, times}
use Rattle.grammar.specs.Meaning.{at_point}
use Rattle.grammar.specs.Reader.{nothing, found, Reader, sum, product, factor, sum_from, product_from}
use Rattle.grammar.specs.Reader.{and_then, is, joins_sum, joined, closed, factor_at, reads}
use Rattle.grammar.proofs.Fixed.{fixed, then_nothing, then_found}
use Rattle.words.specs.Inner.Words.{words_of}
use Rattle.parser.specs.Inner.Codes.{meant, meanings}
use Rattle.parser.specs.Inner.Blocks.{ones, word_at, letter_of, sum_of, paired, IsUpTo, IsMissing}
use Rattle.parser.proofs.Codes.{unknown_meant, given_meant, sign_meant}
use Rattle.parser.proofs.Blocks.{front_values, front_joined, size-filled, times_word, sum_word, constant-values, negation_values}

next : (s : List ℕ) (n : ℕ) → n < length s → meanings (drop n s) ≡ meant (get_or s n 0) ∷ meanings (drop (n + 1) s)
next s n h = rw (add-one, drop-cons s n 0)

-- ---- a sum or a product
pub record Loop : Type 0 where
  pub whole : Reader
  pub part : Reader
  pub from : Tree → Reader
  pub joins : Symbol → Bool
  pub join : Symbol → Tree → Tree → Tree
  pub op : ℕ → ℕ → ℕ → ℕ
  pub begins : (l : List Symbol) → reads whole l ≡ and_then (reads part l) (λ e r. reads (from e) r)
  pub stops : (e : Tree) → reads (from e) [] ≡ found e []
  pub goes : (e : Tree) (x : Symbol) (r : List Symbol)
      → reads (from e) (x ∷ r) ≡ cond (joins x) (and_then (reads part r) (λ f r'. reads (from (join x e f)) r')) (found e (x ∷ r))
  pub words : (x : ℕ) → joins (meant x) ≡ true → (U : ℕ) (e f : Tree) (w : ℕ)
      → op x (word_at (at_point U e) w) (word_at (at_point U f) w) ≡ word_at (at_point U (join (meant x) e f)) w

-- what holds in the loop: what is left to read goes on from the tree so far, whose words stand at the front of the stack
pub record Going (L : Loop) (U k : ℕ) (s : List ℕ) (at size n : ℕ) (stack : List ℕ) : Type 0 where
  pub tree : Tree
  pub same : reads L.whole (meanings (drop at s)) ≡ reads (L.from tree) (meanings (drop n s))
  pub values : take k stack ≡ words_of k (at_point U tree)
  pub kept : length stack ≡ size
  pub past : at < n
  pub inside : n ≤ length s

pub begin_missing : (L : Loop) (s : List ℕ) (at : ℕ) → IsMissing L.part s at → IsMissing L.whole s at
begin_missing L s at h = record { none = L.begins (meanings (drop at s)) ∙ then_nothing _ h.none }

module _ (L : Loop) (U k : ℕ) (s : List ℕ) (at size : ℕ) where
  module _ {m : ℕ} {stack₀ : List ℕ} (first : IsUpTo L.part U k s at size stack₀ m) where
    pub begin : Going L U k s at (length stack₀) m stack₀
    begin =
        record {
          tree = first.tree;
          same = L.begins (meanings (drop at s)) ∙ then_found _ first.read;
          values = first.values;
          kept = refl;
          past = first.past;
          inside = first.inside;
        }

    module _ {n : ℕ} {stack : List ℕ} (g : Going L U k s at (length stack₀) n stack) where
      pub ended : length s ≤ n → IsUpTo L.whole U k s at size stack n
      ended h =
          let e : drop n s ≡ [] = drop_of_length-le s h in
          record {
            tree = g.tree;
            read = g.same ∙ rw e (L.stops g.tree);
            values = g.values;
            kept = g.kept
                ∙ first.kept;
            past = g.past;
            inside = g.inside;
          }

      module _ (h : n < length s) where
        pub other_sign : L.joins (meant (get_or s n 0)) ≡ false → IsUpTo L.whole U k s at size stack n
        other_sign t =
            record {
              tree = g.tree;
              read = g.same ∙ rw (next s n h) (L.goes g.tree _ _ ∙ rw t);
              values = g.values;
              kept = g.kept
                  ∙ first.kept;
              past = g.past;
              inside = g.inside;
            }

        module _ (small : k ≤ 16) (room : 8 * (length s - at) + 8 ≤ size) where
          behind : length (take (length stack - k) (drop k stack)) ≡ length stack - k
          behind = length-take-le (length stack - k) (drop k stack) (omega (arith, length-drop k stack))

          module _ {m' : ℕ} {rest : List ℕ}
              (q : IsUpTo L.part U k s (n + 1) (length (take (length stack - k) (drop k stack))) rest m') where
            mid : length (put_mid k (length stack - k) stack rest) ≡ length stack
            mid = same_len_mid k (length stack - k) stack rest q.kept

            pub both_room : k + k ≤ length (put_mid k (length stack - k) stack rest)
            both_room = omega (arith, mid, g.kept, first.kept, g.past, q.past, q.inside)

            second : take k (rest ++ post_of k (length stack - k) stack) ≡ words_of k (at_point U q.tree)
            second = take-append-le k rest (post_of k (length stack - k) stack) (omega (arith, both_room, mid, behind, q.kept)) ∙ q.values

            pub more : (new : List ℕ) → L.joins (meant (get_or s n 0)) ≡ true
                → new ≡ filled k (paired (L.op (get_or s n 0)) k (put_mid k (length stack - k) stack rest))
                (put_mid k (length stack - k) stack rest) → Going L U k s at (length stack₀) m' new
            more new t e =
                record {
                  tree = L.join (meant (get_or s n 0)) g.tree q.tree;
                  same = g.same ∙ rw (next s n h) (L.goes g.tree _ _ ∙ rw t (then_found _ q.read));
                  values =
                      front_joined (L.op (get_or s n 0)) k (at_point U g.tree) (at_point U q.tree) stack
                      (rest ++ post_of k (length stack - k) stack) g.values second _ new e
                      (L.words (get_or s n 0) t U g.tree q.tree);
                  kept = size-filled k _ _ new e (omega (arith, both_room)) ∙ mid ∙ g.kept;
                  past = omega (arith, g.past, q.past);
                  inside = q.inside;
                }

  module _ {n : ℕ} {stack : List ℕ} (g : Going L U k s at size n stack) (h : n < length s) where
    pub more_missing : L.joins (meant (get_or s n 0)) ≡ true → IsMissing L.part s (n + 1) → IsMissing L.whole s at
    more_missing t q = record { none = g.same ∙ rw (next s n h) (L.goes g.tree _ _ ∙ rw t (then_nothing _ q.none)) }

-- the test of `sum`'s loop, by way of what `joins_sum` returned
pub sum_test : (r b : Bool) (x : Symbol) → r ≡ joins_sum x → r ≡ b → joins_sum x ≡ b
sum_test r b x p q = sym p ∙ q

abbrev pub sum_loop : Loop
sum_loop = record {
  whole = sum;
  part = product;
  from = sum_from;
  joins = joins_sum;
  join = λ x. joined (is or_sign x);
  op = sum_of;
  begins = λ l. fixed sum l;
  stops = λ e. fixed (sum_from e) [];
  goes = λ e x r. fixed (sum_from e) (x ∷ r);
  words = sum_word;
}

abbrev pub product_loop : Loop
product_loop = record {
  whole = product;
  part = factor;
  from = product_from;
  joins = is times_sign;
  join = λ x. times;
  op = λ x. bit_and;
  begins = λ l. fixed product l;
  stops = λ e. fixed (product_from e) [];
  goes = λ e x r. fixed (product_from e) (x ∷ r);
  words = λ x t. times_word;
}

-- the test of `product`'s loop
pub times_taken : (x : ℕ) → x ≡ times_sign → is times_sign (meant x) ≡ true
unfolding meant is_single
times_taken x q = rw q

pub times_left : (x : ℕ) → (x ≡ times_sign → ⊥) → is times_sign (meant x) ≡ false
unfolding is_single
times_left x q = sign_meant times_sign (omega arith) refl x ∙ ne_eqb x times_sign q

-- ---- a factor
-- none of the four signs that a factor begins with
abbrev pub NoSign : ℕ → Type 0
NoSign x = (((Unit {0} × (x ≡ zero_sign → ⊥)) × (x ≡ one_sign → ⊥)) × (x ≡ not_sign → ⊥)) × (x ≡ open_sign → ⊥)

pub at_end : (s : List ℕ) (at : ℕ) → length s ≤ at → IsMissing factor s at
at_end s at h =
    let e : drop at s ≡ [] = drop_of_length-le s h in
    record { none = rw e (fixed factor []) }

module _ (s : List ℕ) (at : ℕ) (h : at < length s) where
  here : reads factor (meanings (drop at s)) ≡ factor_at reads (meant (get_or s at 0)) (meanings (drop (at + 1) s))
  here = rw (next s at h) (fixed factor (meant (get_or s at 0) ∷ meanings (drop (at + 1) s)))

  pub not_missing : get_or s at 0 ≡ not_sign → IsMissing factor s (at + 1) → IsMissing factor s at
  unfolding meant is_single
  not_missing q r = record { none = here ∙ rw q (then_nothing _ r.none) }

  pub open_missing : get_or s at 0 ≡ open_sign → IsMissing sum s (at + 1) → IsMissing factor s at
  unfolding meant is_single
  open_missing q r = record { none = here ∙ rw q (then_nothing _ r.none) }

  -- no factor begins with any other sign
  none_begins : NoSign (get_or s at 0)
      → ltb (get_or s at 0) 6 ≡ false → (leb 8 (get_or s at 0) && ltb (get_or s at 0) 16) ≡ false → IsMissing factor s at
  unfolding meant
  none_begins r a b = record { none = here ∙ rw (a, b) (go (is_single (get_or s at 0))) }
    where
      go : (c : Bool) → factor_at reads (cond c (single (get_or s at 0)) foreign) (meanings (drop (at + 1) s)) ≡ nothing
      go true = simp (ne_eqb _ _ r.0.0.0.1, ne_eqb _ _ r.0.0.1, ne_eqb _ _ r.0.1, ne_eqb _ _ r.1)
      go false = refl

  pub between_missing : NoSign (get_or s at 0) → 6 ≤ get_or s at 0 → get_or s at 0 < 8 → IsMissing factor s at
  between_missing r a b = none_begins r (le-ltb _ _ a) (rw (lt-leb 8 (get_or s at 0) b))

  pub other_missing : NoSign (get_or s at 0) → 16 ≤ get_or s at 0 → IsMissing factor s at
  other_missing r a =
      none_begins r (le-ltb (get_or s at 0) 6 (omega arith)) (rw (le-leb 8 (get_or s at 0) (omega arith), le-ltb (get_or s at 0) 16 a))

  module _ (U k : ℕ) (stack : List ℕ) (small : k ≤ 16) (room : 8 * (length s - at) + 8 ≤ length stack) where
    one_symbol : (e : Tree) (new : List ℕ)
        → factor_at reads (meant (get_or s at 0)) (meanings (drop (at + 1) s)) ≡ found e (meanings (drop (at + 1) s))
        → take k new ≡ words_of k (at_point U e) → length new ≡ length stack → IsUpTo factor U k s at (length stack) new (at + 1)
    one_symbol e new q v l = record { tree = e; read = here ∙ q; values = v; kept = l; past = omega arith; inside = omega arith }

    pub reads_zero : get_or s at 0 ≡ zero_sign → {new : List ℕ} → new ≡ filled k (λ i. 0) stack
        → IsUpTo factor U k s at (length stack) new (at + 1)
    unfolding meant is_single
    reads_zero q {new} z =
        one_symbol (constant false) new (rw q) (constant-values U k stack new false z) (size-filled k _ stack new z (omega arith))

    pub reads_one : get_or s at 0 ≡ one_sign → {new : List ℕ} → new ≡ filled k (λ i. ones) stack
        → IsUpTo factor U k s at (length stack) new (at + 1)
    unfolding meant is_single
    reads_one q {new} z =
        one_symbol (constant true) new (rw q) (constant-values U k stack new true z) (size-filled k _ stack new z (omega arith))

    module _ (r : NoSign (get_or s at 0)) {new : List ℕ} (z : new ≡ filled k (word_at (λ p. bit p (letter_of U (get_or s at 0)))) stack) where
      reads_unknown : get_or s at 0 < 6 → IsUpTo factor U k s at (length stack) new (at + 1)
      unfolding at_point letter_of
      reads_unknown b =
          one_symbol (unknown (get_or s at 0)) new
          (rw (unknown_meant _ b))
          (rw (lt-ltb (get_or s at 0) 8 (omega arith)) at (front_values k _ _ stack new z (λ w l. refl)))
          (size-filled k _ stack new z (omega arith))

      reads_given : 8 ≤ get_or s at 0 → get_or s at 0 < 16 → IsUpTo factor U k s at (length stack) new (at + 1)
      unfolding at_point letter_of
      reads_given a b =
          one_symbol (given (get_or s at 0 - 8)) new
          (rw (given_meant _ a b))
          (rw (le-ltb (get_or s at 0) 8 a) at (front_values k _ _ stack new z (λ w l. refl))) (size-filled k _ stack new z (omega arith))

      pub reads-letter : (get_or s at 0 < 6) ⊎ ((8 ≤ get_or s at 0) × (get_or s at 0 < 16)) → IsUpTo factor U k s at (length stack) new (at + 1)
      reads-letter which = ⊎_elim reads_unknown (λ w. reads_given w.0 w.1) which

  module _ (U k size : ℕ) (small : k ≤ 16) (room : 8 * (length s - at) + 8 ≤ size) where
    pub reads-not : get_or s at 0 ≡ not_sign → {n : ℕ} {stack : List ℕ} (new : List ℕ) → IsUpTo factor U k s (at + 1) size stack n
        → new ≡ filled k (λ i. bit_xor (get_or stack i 0) ones) stack → IsUpTo factor U k s at size new n
    unfolding meant is_single
    reads-not q {n} {stack} new g z =
        record {
          tree = negation g.tree;
          read = here ∙ rw q (then_found _ g.read);
          values = negation_values U k stack new g.tree g.values z;
          kept = size-filled k _ stack new z (omega (arith, g.kept)) ∙ g.kept;
          past = omega (arith, g.past);
          inside = g.inside;
        }

    module _ (q : get_or s at 0 ≡ open_sign) {n : ℕ} {stack : List ℕ} (g : IsUpTo sum U k s (at + 1) size stack n) where
      opened : reads factor (meanings (drop at s)) ≡ closed g.tree (meanings (drop n s))
      unfolding meant is_single
      opened = here ∙ rw q (then_found _ g.read)

      pub close_at_end : length s ≤ n → IsMissing factor s at
      close_at_end l =
          let e : drop n s ≡ [] = drop_of_length-le s l in
          record { none = opened ∙ rw e }

      module _ (l : n < length s) where
        pub close_missing : (get_or s n 0 ≡ close_sign → ⊥) → IsMissing factor s at
        unfolding is_single
        close_missing r = record { none = opened ∙ rw (next s n l, sign_meant close_sign (omega arith) refl (get_or s n 0), ne_eqb _ _ r) }

        pub reads_brackets : get_or s n 0 ≡ close_sign → IsUpTo factor U k s at size stack (n + 1)
        unfolding meant is_single
        reads_brackets r =
            record {
              tree = g.tree;
              read = opened
                  ∙ rw (next s n l, r);
              values = g.values;
              kept = g.kept;
              past = omega (arith, g.past);
              inside = omega arith;
            }
