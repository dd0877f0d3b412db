-- What the questions hand on, and what the comparison of the two totals says.
-- Assumes nothing.
use Rattle.std.specs.Prelude.{◌≡◌, cond, List, ℕ, ◌+◌, ◌*◌, ◌^◌, ◌≤◌, length, take, ltb}
use Rattle.ring.specs.Polynomial.{count}
use Rattle.ring.specs.Table.{present}
use Rattle.tables.specs.Questions.{first_no}
use Rattle.calls.specs.declared.Formula.{Formula}
use Rattle.calls.specs.declared.Formula.TheVariants.{Boole, Lowenheim}
use Rattle.calls.specs.Questions.{shorter_questions}

-- each question is answered yes, and these are the parts that count
pub record PassedShorter (u g : ℕ) (boole lowenheim boole_part lowenheim_part : List ℕ) : Type 0 where
  pub none_no : first_no (shorter_questions u g boole lowenheim) ≡ 0
  pub boole_room : u * 2 ^ (u + g) ≤ length boole
  pub lowenheim_room : u * 2 ^ (u + g) ≤ length lowenheim
  pub boole_is : boole_part ≡ take (u * 2 ^ (u + g)) boole
  pub lowenheim_is : lowenheim_part ≡ take (u * 2 ^ (u + g)) lowenheim

-- whose part has fewer monomials, Boole's if the totals tie
abbrev pub IsShorter : List ℕ → List ℕ → Formula → Type 0
IsShorter boole lowenheim whose =
    whose ≡ cond (ltb (count (length lowenheim) (present lowenheim)) (count (length boole) (present boole))) Lowenheim Boole
