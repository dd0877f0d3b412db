-- The reply of a call fixes its answer: no two cases of an answer type have the same number and values.
-- Assumes nothing.
use mathlib.Core.Path.{◌≡◌, refl, ap, ap₂}
use Prim.Native.Nat.{ℕ}
use native.Mathlib.Omega.{arith}
use Rattle.std.specs.Prelude.{Result, Ok, Err}
use Rattle.tables.specs.declared.Question.{Question}
use Rattle.tables.specs.Questions.{number}
use Rattle.tables.proofs.Numbered.{number_injective}
use Rattle.calls.specs.declared.Unsolved.{Unsolved}
use Rattle.calls.specs.declared.Unsolved.TheVariants as unsolved-variants
use Rattle.calls.specs.declared.Formula.{Formula}
use Rattle.calls.specs.declared.Formula.TheVariants as formulas
use Rattle.calls.specs.declared.Entry.{Entry as Held}
use Rattle.calls.specs.declared.Stopped.{Stopped}
use Rattle.calls.specs.declared.Verdict.{Verdict}
use Rattle.calls.specs.declared.Verdict.TheVariants.{Solved, None}
use Rattle.calls.specs.declared.Heading.{Heading}
use Rattle.calls.specs.Counted.{value_said}
use Rattle.calls.specs.Operations.{outcome}
use Rattle.calls.specs.Solving.{solving}
use Rattle.calls.specs.Shorter.{shorter_said}
use Rattle.calls.specs.Entries.{state_said, reading}
use Rattle.tables.specs.Answered.{Reply, accepted}
use Rattle.std.specs.Prelude.{◌∷◌}
use Rattle.calls.specs.Walk.{walked}

-- headings with the same four values are one
pub same_heading : (h k : Heading) → h.route ≡ k.route → h.unknowns ≡ k.unknowns → h.givens ≡ k.givens → h.used ≡ k.used → h ≡ k
same_heading h k = go
  where
    go : {a b c d r u g n : ℕ} → a ≡ r → b ≡ u → c ≡ g → d ≡ n
        → ◌≡◌ {A = Heading} (record { route = a; unknowns = b; givens = c; used = d })
        (record { route = r; unknowns = u; givens = g; used = n })
    go er eu eg en = rw (er, eu, eg, en)

pub value_said_injective : (a b : Result ℕ Question) → value_said a ≡ value_said b → a ≡ b
value_said_injective (Ok m) (Ok n) e = cc
value_said_injective (Ok m) (Err q) e = cc
value_said_injective (Err q) (Ok n) e = cc
value_said_injective (Err q) (Err r) e = let same : number q ≡ number r = cc in ap (λ (x : Question). Err x) (number_injective q r same)

pub outcome_injective : (a b : Result Unit Question) → outcome a ≡ outcome b → a ≡ b
outcome_injective (Ok done) (Ok other) e = refl
outcome_injective (Ok done) (Err q) e = cc
outcome_injective (Err q) (Ok done) e = cc
outcome_injective (Err q) (Err r) e = let same : number q ≡ number r = cc in ap (λ (x : Question). Err x) (number_injective q r same)

-- 'none' comes with a state, a refusal by another question with none
pub solving_injective : (a b : Result ℕ Unsolved) → solving a ≡ solving b → a ≡ b
solving_injective (Ok total) (Ok other) e = cc
solving_injective (Ok total) (Err (unsolved-variants.None state)) e = cc
solving_injective (Ok total) (Err (unsolved-variants.Refused q)) e = cc
solving_injective (Err (unsolved-variants.None state)) (Ok total) e = cc
solving_injective (Err (unsolved-variants.None state)) (Err (unsolved-variants.None other)) e =
    let same : state.0 ≡ other.0 = cc in
    ap (λ (i : ℕ). Err (unsolved-variants.None (record { 0 = i }))) same
solving_injective (Err (unsolved-variants.None state)) (Err (unsolved-variants.Refused q)) e = cc
solving_injective (Err (unsolved-variants.Refused q)) (Ok total) e = cc
solving_injective (Err (unsolved-variants.Refused q)) (Err (unsolved-variants.None state)) e = cc
solving_injective (Err (unsolved-variants.Refused q)) (Err (unsolved-variants.Refused r)) e =
    let same : number q ≡ number r = cc in
    ap (λ (x : Question). Err (unsolved-variants.Refused x)) (number_injective q r same)

pub shorter_injective : (a b : Result Formula Question) → shorter_said a ≡ shorter_said b → a ≡ b
shorter_injective (Ok formulas.Boole) (Ok formulas.Boole) e = refl
shorter_injective (Ok formulas.Boole) (Ok formulas.Lowenheim) e = let z : ◌≡◌ {A = ℕ} 0 1 = cc in absurd (omega arith)
shorter_injective (Ok formulas.Boole) (Err q) e = cc
shorter_injective (Ok formulas.Lowenheim) (Ok formulas.Boole) e = let z : ◌≡◌ {A = ℕ} 0 1 = cc in absurd (omega arith)
shorter_injective (Ok formulas.Lowenheim) (Ok formulas.Lowenheim) e = refl
shorter_injective (Ok formulas.Lowenheim) (Err q) e = cc
shorter_injective (Err q) (Ok formulas.Boole) e = cc
shorter_injective (Err q) (Ok formulas.Lowenheim) e = cc
shorter_injective (Err q) (Err r) e = let same : number q ≡ number r = cc in ap (λ (x : Question). Err x) (number_injective q r same)

-- a heading is its four values, and 'none' has a fifth
same_parts : (h k : Heading) (v w : Verdict)
    → ◌≡◌ {A = Reply} (accepted (h.route ∷ h.unknowns ∷ h.givens ∷ h.used ∷ state_said v))
    (accepted (k.route ∷ k.unknowns ∷ k.givens ∷ k.used ∷ state_said w))
    → (h ≡ k) × (v ≡ w)
same_parts h k Solved Solved e = (same_heading h k (cc) (cc) (cc) (cc), refl)
same_parts h k Solved (None state) e = cc
same_parts h k (None state) Solved e = cc
same_parts h k (None state) (None other) e =
    let same : state.0 ≡ other.0 = cc in
    (same_heading h k (cc) (cc) (cc) (cc), ap (λ (i : ℕ). None (record { 0 = i })) same)

pub entry_injective : (a b : Held) → reading (Ok a) ≡ reading (Ok b) → a ≡ b
entry_injective a b e =
    let same = same_parts a.heading b.heading a.verdict b.verdict e in
    ap₂ (λ (h : Heading) (v : Verdict). record { heading = h; verdict = v }) same.0 same.1

pub reading_injective : (a b : Result Held Question) → reading a ≡ reading b → a ≡ b
reading_injective (Ok a) (Ok b) e = ap (λ (x : Held). Ok x) (entry_injective a b e)
reading_injective (Ok a) (Err q) e = cc
reading_injective (Err q) (Ok b) e = cc
reading_injective (Err q) (Err r) e = let same : number q ≡ number r = cc in ap (λ (x : Question). Err x) (number_injective q r same)

pub walked_injective : (a b : Result ℕ Stopped) → walked a ≡ walked b → a ≡ b
walked_injective (Ok count) (Ok other) e = cc
walked_injective (Ok count) (Err s) e = cc
walked_injective (Err s) (Ok count) e = cc
walked_injective (Err s) (Err t) e =
    let same : number s.question ≡ number t.question = cc in
    let passed : s.passed ≡ t.passed = cc in
    ap₂ (λ (x : Question) (n : ℕ). Err (record { question = x; passed = n })) (number_injective s.question t.question same) passed
