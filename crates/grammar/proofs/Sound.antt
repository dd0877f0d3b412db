-- What the readers read, the grammar derives.
-- Assumes nothing.
use mathlib.Core.Path.{◌≡◌, ap, ◌∙◌, sym, subst}
use mathlib.Core.Bool.{true}
use mathlib.Core.Logic.{⊎_elim}
use mathlib.Core.List.{List, [], ◌∷◌, ◌++◌, append_assoc, append-nil}
use Prim.Native.Nat.{ℕ, zero, suc}
use borrow.Author.Tests.{eqb-true}
use lib.Dec.{eqb}
use Rattle.ring.proofs.Bool.{or_cases}
use Rattle.grammar.specs.Symbols.{Symbol, unknown_letter, given_letter, single, foreign}
use Rattle.grammar.specs.Symbols.{zero_sign, one_sign, not_sign, open_sign, close_sign, times_sign, plus_sign, or_sign}
use Rattle.grammar.specs.Reader.{Reading, found, Reader, sum, product, factor, sum_from, product_from}
use Rattle.grammar.specs.Reader.{is, joins_sum, joined, closed, step, read_with, calls, reads}
use Rattle.grammar.specs.Grammar.{Tree, negation, times, Sum, Product, Factor}
use Rattle.grammar.specs.Grammar.{one_product, plus_product, or_product, one_factor, times_factor}
use Rattle.grammar.specs.Grammar.{is_zero, is_one, unknown_factor, given_factor, is_negation, in_brackets}
use Rattle.grammar.proofs.Fixed.{is_sign_lem, and_then_found, cond_cases, nothing_found}

abbrev Says : Reader → List Symbol → Tree → Type 0
Says sum l e = Sum l e
Says product l e = Product l e
Says factor l e = Factor l e
Says (sum_from f) l e = (k : List Symbol) → Sum k f → Sum (k ++ l) e
Says (product_from f) l e = (k : List Symbol) → Product k f → Product (k ++ l) e

-- the symbols before r are read as e
record Prefix (m : Reader) (l : List Symbol) (e : Tree) (r : List Symbol) : Type 0 where
  prefix : List Symbol
  whole : prefix ++ r ≡ l
  means : Says m prefix e

abbrev Sound : (Reader → List Symbol → Reading) → Type 0
Sound p = (m : Reader) (l : List Symbol) (e : Tree) (r : List Symbol) → p m l ≡ found e r → Prefix m l e r

-- a symbol that is a factor by itself
alone : (x : Symbol) (l : List Symbol) {f e : Tree} {r : List Symbol}
    → Factor (x ∷ []) f → found f l ≡ found e r → Prefix factor (x ∷ l) e r
alone x l {f} {e} {r} d h =
    let q : l ≡ r = cc in
    let p : f ≡ e = cc in
    record { prefix = x ∷ []; whole = ap (λ (k : List Symbol). x ∷ k) (sym q); means = rw p at d }

-- nothing more is read
same_sum : (l : List Symbol) {f e : Tree} {r : List Symbol} → found f l ≡ found e r → Prefix (sum_from f) l e r
same_sum l {f} {e} {r} h =
    let q : l ≡ r = cc in
    let p : f ≡ e = cc in
    record { prefix = []; whole = sym q; means = λ k d. rw (append-nil k) (rw p at d) }

same_product : (l : List Symbol) {f e : Tree} {r : List Symbol} → found f l ≡ found e r → Prefix (product_from f) l e r
same_product l {f} {e} {r} h =
    let q : l ≡ r = cc in
    let p : f ≡ e = cc in
    record { prefix = []; whole = sym q; means = λ k d. rw (append-nil k) (rw p at d) }

joins : (x : Symbol) → joins_sum x ≡ true
    → {k m : List Symbol} {e f : Tree} → Sum k e → Product m f → Sum (k ++ (x ∷ m)) (joined (is or_sign x) e f)
joins x h d p =
    ⊎_elim (λ w. rw (is_sign_lem plus_sign x w) (plus_product d p)) (λ w. rw (is_sign_lem or_sign x w) (or_product d p))
    (or_cases (is plus_sign x) (is or_sign x) h)

closed_found : (e : Tree) (l : List Symbol) (e' : Tree) (r : List Symbol) → closed e l ≡ found e' r → (l ≡ single close_sign ∷ r) × (e ≡ e')
closed_found e [] e' r h = nothing_found h
closed_found e (x ∷ l) e' r h =
    ⊎_elim (λ w. let g = w.1 in let q : l ≡ r = cc in (rw (is_sign_lem close_sign x w.0, q), cc)) (λ w. nothing_found w.1)
    (cond_cases (is close_sign x) h)

is-not : (l : List Symbol) {f e : Tree} {s r : List Symbol}
    → Prefix factor l f s → found (negation f) s ≡ found e r → Prefix factor (single not_sign ∷ l) e r
is-not l {f} {e} {s} {r} a t =
    let q : s ≡ r = cc in
    let g : negation f ≡ e = cc in
    record {
      prefix = single not_sign ∷ a.prefix;
      whole = ap (λ (k : List Symbol). single not_sign ∷ k) (rw q at a.whole);
      means = rw g at (is_negation a.means);
    }

is_group : (l : List Symbol) {f e : Tree} {s r : List Symbol}
    → Prefix sum l f s → (s ≡ single close_sign ∷ r) × (f ≡ e) → Prefix factor (single open_sign ∷ l) e r
is_group l {f} {e} {s} {r} a z =
    record {
      prefix = single open_sign ∷ (a.prefix ++ (single close_sign ∷ []));
      whole = ap (λ (k : List Symbol). single open_sign ∷ k)
          (append_assoc a.prefix (single close_sign ∷ []) r ∙ (rw z.0 at a.whole));
      means = rw z.1 at (in_brackets a.means);
    }

module _ (p : Reader → List Symbol → Reading) (sd : Sound p) where
  is_sum_from : (x : Symbol) (l : List Symbol) (f e : Tree) (r : List Symbol) → joins_sum x ≡ true
      → (g : Tree) × (s : List Symbol) × (p product l ≡ found g s) × (p (sum_from (joined (is or_sign x) f g)) s ≡ found e r)
      → Prefix (sum_from f) (x ∷ l) e r
  is_sum_from x l f e r h t =
      let a = sd product l t.0 t.1 t.2 in
      let b = sd (sum_from (joined (is or_sign x) f t.0)) t.1 e r t.3 in
      record {
        prefix = x ∷ (a.prefix ++ b.prefix);
        whole = ap (λ (k : List Symbol). x ∷ k) (append_assoc a.prefix b.prefix r ∙ rw b.whole a.whole);
        means = λ k d. rw append_assoc at (b.means (k ++ (x ∷ a.prefix)) (joins x h d a.means));
      }

  is_product_from : (x : Symbol) (l : List Symbol) (f e : Tree) (r : List Symbol) → is times_sign x ≡ true
      → (g : Tree) × (s : List Symbol) × (p factor l ≡ found g s) × (p (product_from (times f g)) s ≡ found e r)
      → Prefix (product_from f) (x ∷ l) e r
  is_product_from x l f e r h t =
      let a = sd factor l t.0 t.1 t.2 in
      let b = sd (product_from (times f t.0)) t.1 e r t.3 in
      record {
        prefix = x ∷ (a.prefix ++ b.prefix);
        whole = ap (λ (k : List Symbol). x ∷ k) (append_assoc a.prefix b.prefix r ∙ rw b.whole a.whole);
        means = λ k d. rw append_assoc at (b.means (k ++ (x ∷ a.prefix)) (rw (is_sign_lem times_sign x h) (times_factor d a.means)));
      }

  step_sound : Sound (step p)
  step_sound sum l e r h =
      let t = and_then_found (p product l) (λ f r'. p (sum_from f) r') h in
      let a = sd product l t.0 t.1 t.2 in
      let b = sd (sum_from t.0) t.1 e r t.3 in
      record {
        prefix = a.prefix ++ b.prefix;
        whole = append_assoc a.prefix b.prefix r
            ∙ rw b.whole a.whole;
        means = b.means a.prefix (one_product a.means);
      }
  step_sound product l e r h =
      let t = and_then_found (p factor l) (λ f r'. p (product_from f) r') h in
      let a = sd factor l t.0 t.1 t.2 in
      let b = sd (product_from t.0) t.1 e r t.3 in
      record {
        prefix = a.prefix ++ b.prefix;
        whole = append_assoc a.prefix b.prefix r
            ∙ rw b.whole a.whole;
        means = b.means a.prefix (one_factor a.means);
      }
  step_sound factor [] e r h = nothing_found h
  step_sound factor (unknown_letter j ∷ l) e r h = alone (unknown_letter j) l unknown_factor h
  step_sound factor (given_letter i ∷ l) e r h = alone (given_letter i) l given_factor h
  step_sound factor (foreign ∷ l) e r h = nothing_found h
  step_sound factor (single x ∷ l) e r h =
      ⊎_elim (λ w. rw (eqb-true x zero_sign w.0) (alone (single zero_sign) l is_zero w.1))
      (λ w. ⊎_elim (λ w. rw (eqb-true x one_sign w.0) (alone (single one_sign) l is_one w.1))
      (λ w. ⊎_elim (λ w. let t = and_then_found (p factor l) (λ f r'. found (negation f) r') w.1 in
      rw (eqb-true x not_sign w.0) (is-not l (sd factor l t.0 t.1 t.2) t.3))
      (λ w. ⊎_elim (λ w. let t = and_then_found (p sum l) closed w.1 in
      rw (eqb-true x open_sign w.0) (is_group l (sd sum l t.0 t.1 t.2) (closed_found t.0 t.1 e r t.3)))
      (λ w. nothing_found w.1)
      (cond_cases (eqb x open_sign) w.1))
      (cond_cases (eqb x not_sign) w.1))
      (cond_cases (eqb x one_sign) w.1))
      (cond_cases (eqb x zero_sign) h)
  step_sound (sum_from f) [] e r h = same_sum [] h
  step_sound (sum_from f) (x ∷ l) e r h =
      ⊎_elim (λ w. is_sum_from x l f e r w.0 (and_then_found (p product l) (λ g r'. p (sum_from (joined (is or_sign x) f g)) r') w.1))
      (λ w. same_sum (x ∷ l) w.1)
      (cond_cases (joins_sum x) h)
  step_sound (product_from f) [] e r h = same_product [] h
  step_sound (product_from f) (x ∷ l) e r h =
      ⊎_elim (λ w. is_product_from x l f e r w.0 (and_then_found (p factor l) (λ g r'. p (product_from (times f g)) r') w.1))
      (λ w. same_product (x ∷ l) w.1)
      (cond_cases (is times_sign x) h)

read_with_sound : (k : ℕ) → Sound (read_with k)
unfolding read_with
read_with_sound zero m l e r h = nothing_found h
read_with_sound (suc k) m l e r h = step_sound (read_with k) (read_with_sound k) m l e r h

pub sound : {l : List Symbol} {e : Tree} → reads sum l ≡ found e [] → Sum l e
unfolding reads
sound {l} {e} h =
    let f = read_with_sound (calls sum l) sum l e [] h in
    subst (λ (k : List Symbol). Sum k e) (sym (append-nil f.prefix) ∙ f.whole) f.means
