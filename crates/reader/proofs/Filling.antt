-- The condition's table and the answers', each filled from its own records. The fact's are passed over.
-- Assumes nothing.
use mathlib.Core.Path.{◌≡◌, refl, sym, ap, ◌∙◌}
use mathlib.Core.List.{List}
use mathlib.Core.Logic.{◌⊎◌, inl, inr}
use Prim.Native.Nat.{ℕ, suc, ◌+◌, ◌*◌, ◌%◌, ◌/◌, ◌^◌}
use native.Mathlib.Omega.{arith}
use lib.ListN.{length}
use Rattle.ring.specs.Table.{table, answer_table}
use Rattle.ring.proofs.Table.{tabulate_cong}
use Rattle.tables.specs.declared.Letters.{Letters}
use Rattle.entry.specs.Record.{Record, size}
use Rattle.entry.specs.Held.{records, has_monomial, condition_in, answers_in, held_condition}
use Rattle.records.specs.declared.kinds.Kind.{Kind}
use Rattle.records.specs.declared.kinds.Kind.TheVariants as kinds
use Rattle.records.specs.Inner.Kinds.{byte_of, IsOf, Stands}
use Rattle.records.specs.Inner.Filling.{zeros, put_monomial, filled, Fitting, RowFilling, Passed}
use Rattle.records.proofs.OneRecord.{no_monomial, answer_monomial, condition_monomial, fact_monomial, whole_length}
use Rattle.records.proofs.Filling.{put_none, put_before, put_past, fill_then, fill_over, fill_end, filled-table, filled_first}
use Rattle.reader.specs.Inner.Filling.{BothFilling}

-- ---- the records of a kind, and the tables that they leave as they are
-- one of the condition or of the fact, and the answers' tables
low_apart : {k : Kind} (r : Record) → IsOf k r → (k ≡ kinds.Condition) ⊎ (k ≡ kinds.Fact) → (l : ℕ) (t : List ℕ) → t ≡ put_monomial 2 l r t
low_apart r w (inl e) l t = put_before l r t 2 (omega (arith, (condition_monomial r w e refl).0))
low_apart r w (inr e) l t = put_before l r t 2 (omega (arith, (fact_monomial r w e refl).0))

pub condition_apart : (l : ℕ) (t : List ℕ) (r : Record) → IsOf kinds.Condition r → t ≡ put_monomial 2 l r t
condition_apart l t r w = low_apart r w (inl refl) l t

-- one of an answer, which lies past the condition's end
pub answer_apart : (l : ℕ) (t : List ℕ) → length t ≡ l → (r : Record) → IsOf kinds.Answer r → t ≡ put_monomial 1 l r t
answer_apart l t e r w = put_past l r t 1 (omega (arith, (answer_monomial r w refl refl refl).0)) (omega arith)

-- one of neither
pub neither_apart : (k : Kind) → (k ≡ kinds.Start) ⊎ ((k ≡ kinds.None) ⊎ ((k ≡ kinds.Order) ⊎ (k ≡ kinds.Fact))) → (l : ℕ) (t : List ℕ) (r : Record)
    → IsOf k r
    → (t ≡ put_monomial 1 l r t) × (t ≡ put_monomial 2 l r t)
neither_apart k (inl e) l t r w = (put_none l r t 1 (no_monomial r w (rw e)), put_none l r t 2 (no_monomial r w (rw e)))
neither_apart k (inr (inl e)) l t r w = (put_none l r t 1 (no_monomial r w (rw e)), put_none l r t 2 (no_monomial r w (rw e)))
neither_apart k (inr (inr (inl e))) l t r w = (put_none l r t 1 (no_monomial r w (rw e)), put_none l r t 2 (no_monomial r w (rw e)))
neither_apart k (inr (inr (inr e))) l t r w =
    (put_before l r t 1 (omega (arith, (fact_monomial r w e refl).0)), low_apart r w (inr e) l t)

-- ---- the loop over all
module _ (bs : List ℕ) (l : Letters) {c₀ a₀ c a : List ℕ} {at : ℕ} (w : BothFilling bs l c₀ a₀ c a at) where
  abbrev len : ℕ
  len = 2 ^ (l.unknowns + l.givens)

  pub conditions_next : {c' : List ℕ} {to : ℕ} → RowFilling kinds.Condition bs l.unknowns l.givens c at c' to → BothFilling bs l c₀ a₀ c' a to
  conditions_next row =
      record {
        condition = fill_then _ bs l.unknowns l.givens w.condition row.own;
        answers = fill_then _ bs l.unknowns l.givens w.answers (row.others 2 a (condition_apart len a));
        long = row.own.long ∙ w.long;
      }

  pub answers_next : {a' : List ℕ} {to : ℕ} → RowFilling kinds.Answer bs l.unknowns l.givens a at a' to → BothFilling bs l c₀ a₀ c a' to
  answers_next row =
      record {
        condition = fill_then _ bs l.unknowns l.givens w.condition (row.others 1 c (answer_apart len c (w.long ∙ whole_length l)));
        answers = fill_then _ bs l.unknowns l.givens w.answers row.own;
        long = w.long;
      }

  module _ (k : Kind) (st : Stands bs at k) where
    pub others_next : (k ≡ kinds.Start) ⊎ ((k ≡ kinds.None) ⊎ ((k ≡ kinds.Order) ⊎ (k ≡ kinds.Fact))) → {behind : ℕ}
        → behind ≡ at + size (byte_of k)
        → BothFilling bs l c₀ a₀ c a behind
    others_next o eb =
        record {
          condition = fill_over _ bs l.unknowns l.givens c₀ c 0 at w.condition k st (more o) eb (λ r v. (neither_apart k o len c r v).0);
          answers = fill_over _ bs l.unknowns l.givens a₀ a 0 at w.answers k st (more o) eb (λ r v. (neither_apart k o len a r v).1);
          long = w.long;
        }
      where
        more : (k ≡ kinds.Start) ⊎ ((k ≡ kinds.None) ⊎ ((k ≡ kinds.Order) ⊎ (k ≡ kinds.Fact))) → k ≡ kinds.End → ⊥
        more (inl e) z = let f : kinds.End ≡ kinds.Start = sym z ∙ e in let n : ◌≡◌ {A = ℕ} 0 1 = (cc) in omega arith
        more (inr (inl e)) z = let f : kinds.End ≡ kinds.None = sym z ∙ e in let n : ◌≡◌ {A = ℕ} 0 1 = (cc) in omega arith
        more (inr (inr (inl e))) z = let f : kinds.End ≡ kinds.Order = sym z ∙ e in let n : ◌≡◌ {A = ℕ} 0 1 = (cc) in omega arith
        more (inr (inr (inr e))) z = let f : kinds.End ≡ kinds.Fact = sym z ∙ e in let n : ◌≡◌ {A = ℕ} 0 1 = (cc) in omega arith

    pub both_end : k ≡ kinds.End
        → (c ≡ filled (put_monomial 1 len) (records bs) c₀) × (a ≡ filled (put_monomial 2 len) (records bs) a₀)
    both_end e = (
      fill_end _ bs l.unknowns l.givens c₀ c 0 at w.condition k st e (λ r v. put_none len r c 1 (no_monomial r v (rw e))),
      fill_end _ bs l.unknowns l.givens a₀ a 0 at w.answers k st e (λ r v. put_none len r a 2 (no_monomial r v (rw e))),
    )

-- ---- the tables that are asked for, filled from cleared bytes
module _ (bs : List ℕ) (l : Letters) (f : Fitting l.unknowns l.givens (records bs)) {n : ℕ} {t₁ t₂ : List ℕ} (e₁ : t₁ ≡ zeros n) where
  pub filled_condition : n ≡ l.table_len → t₂ ≡ filled (put_monomial 1 (2 ^ (l.unknowns + l.givens))) (records bs) t₁
      → t₂ ≡ table l.n (condition_in (records bs))
  unfolding condition_in
  filled_condition en e₂ =
      filled_first 1 l.unknowns l.givens (records bs) f n e₁ e₂ (en ∙ whole_length l)
      ∙ ap (λ (k : ℕ). table k (condition_in (records bs))) (sym l.n_is)

  pub filled_answers : t₂ ≡ filled (put_monomial 2 (2 ^ (l.unknowns + l.givens))) (records bs) t₁ → n ≡ l.unknowns * l.table_len
      → t₂ ≡ answer_table l.unknowns l.n (answers_in (records bs))
  unfolding answer_table answers_in
  filled_answers e₂ en =
      e₂ ∙ rw (e₁, en, whole_length l, l.n_is)
      (filled-table 2 l.unknowns l.givens f.from (l.unknowns * 2 ^ (l.unknowns + l.givens)) (records bs) f.fits
      ∙ tabulate_cong (l.unknowns * 2 ^ (l.unknowns + l.givens)) _ _
      (λ x h. ap (λ (i : ℕ). has_monomial i (x % 2 ^ (l.unknowns + l.givens)) (records bs)) (two_more (x / 2 ^ (l.unknowns + l.givens)))))
    where
      two_more : (y : ℕ) → 2 + y ≡ suc (suc y)
      two_more y = omega arith

-- the condition's table is that which the records hold
pub table_held : (bs : List ℕ) {l : Letters} → Passed bs l → {t : List ℕ} → t ≡ table l.n (condition_in (records bs))
    → t ≡ (held_condition (records bs)).table
unfolding held_condition
table_held bs {l} p e = e ∙ rw (l.n_is, p.letters.unknowns, p.letters.givens)
