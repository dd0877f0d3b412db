-- What the grammar derives, the readers read.
-- Assumes nothing.
use mathlib.Core.Path.{◌≡◌, refl, ap, ◌∙◌, sym}
use mathlib.Core.Bool.{true, false}
use mathlib.Core.List.{List, [], ◌∷◌, ◌++◌, append_assoc, append-nil}
use Rattle.grammar.specs.Symbols.{Symbol, unknown_letter, given_letter, single}
use Rattle.grammar.specs.Symbols.{zero_sign, one_sign, not_sign, open_sign, close_sign, times_sign, plus_sign, or_sign}
use Rattle.grammar.specs.Reader.{found, sum, product, factor, sum_from, product_from, is, joins_sum, joined, reads}
use Rattle.grammar.specs.Grammar.{Tree, Kind, a_sum, a_product, a_factor, Derives, Sum}
use Rattle.grammar.specs.Grammar.{one_product, plus_product, or_product, one_factor, times_factor}
use Rattle.grammar.specs.Grammar.{is_zero, is_one, unknown_factor, given_factor, is_negation, in_brackets}
use Rattle.grammar.proofs.Fixed.{fixed, then_found}

-- no factor can follow: the next symbol is not `*`
abbrev NoTimes : List Symbol → Type 0
NoTimes [] = Unit {0}
NoTimes (x ∷ r) = is times_sign x ≡ false

product_ends : (e : Tree) (r : List Symbol) → NoTimes r → reads (product_from e) r ≡ found e r
product_ends e [] h = fixed (product_from e) []
product_ends e (x ∷ r) h = fixed (product_from e) (x ∷ r) ∙ rw h

-- what each kind of derivation says of a reader that it stands before
abbrev Claim : Kind → List Symbol → Tree → List Symbol → Type 0
Claim a_sum l e r = NoTimes r → reads sum (l ++ r) ≡ reads (sum_from e) r
Claim a_product l e r = reads product (l ++ r) ≡ reads (product_from e) r
Claim a_factor l e r = reads factor (l ++ r) ≡ found e r

-- one more product of a sum
sum-joined : (c : Symbol) → joins_sum c ≡ true → is times_sign c ≡ false → (l m : List Symbol) (s t : Tree) (r : List Symbol)
    → Claim a_sum l s (c ∷ (m ++ r)) → Claim a_product m t r → Claim a_sum (l ++ (c ∷ m)) (joined (is or_sign c) s t) r
sum-joined c j n l m s t r first second h =
    ap (reads sum) (append_assoc l (c ∷ m) r) ∙ first n ∙ fixed (sum_from s) (c ∷ (m ++ r))
    ∙ rw j (then_found _ (second ∙ product_ends t r h))

derived : {k : Kind} {l : List Symbol} {t : Tree} → Derives k l t → (r : List Symbol) → Claim k l t r
derived (one_product {l} {s} p) r = λ h. fixed sum (l ++ r) ∙ then_found _ (derived p r ∙ product_ends s r h)
derived (plus_product {l} {m} {s} {t} d p) r =
    sum-joined (single plus_sign) refl refl l m s t r (derived d (single plus_sign ∷ (m ++ r))) (derived p r)
derived (or_product {l} {m} {s} {t} d p) r =
    sum-joined (single or_sign) refl refl l m s t r (derived d (single or_sign ∷ (m ++ r))) (derived p r)
derived (one_factor {l} {s} p) r = fixed product (l ++ r) ∙ then_found _ (derived p r)
derived (times_factor {l} {m} {s} {t} d p) r =
    ap (reads product) (append_assoc l (single times_sign ∷ m) r)
    ∙ derived d (single times_sign ∷ (m ++ r))
    ∙ fixed (product_from s) (single times_sign ∷ (m ++ r)) ∙ then_found _ (derived p r)
derived is_zero r = fixed factor (single zero_sign ∷ r)
derived is_one r = fixed factor (single one_sign ∷ r)
derived (unknown_factor {j}) r = fixed factor (unknown_letter j ∷ r)
derived (given_factor {i}) r = fixed factor (given_letter i ∷ r)
derived (is_negation {l} p) r = fixed factor (single not_sign ∷ (l ++ r)) ∙ then_found _ (derived p r)
derived (in_brackets {l} {t} d) r =
    fixed factor (single open_sign ∷ ((l ++ (single close_sign ∷ [])) ++ r))
    ∙ then_found _ (ap (reads sum) (append_assoc l (single close_sign ∷ []) r)
    ∙ derived d (single close_sign ∷ r) refl ∙ fixed (sum_from t) (single close_sign ∷ r))

pub complete : {l : List Symbol} {e : Tree} → Sum l e → reads sum l ≡ found e []
complete {l} {e} d = ap (reads sum) (sym (append-nil l)) ∙ derived d [] tt ∙ fixed (sum_from e) []
