-- The walk entry by entry. How many entries `walk_at_most` may look at plays no part once they are as many as the bytes: each entry that
-- passes takes some of them.
-- Assumes nothing.
use mathlib.Core.Path.{◌≡◌, refl}
use mathlib.Core.List.{List, [], ◌∷◌}
use Prim.Native.Nat.{ℕ, zero, suc, ◌≤◌, ◌<◌}
use native.Mathlib.Nat.{not-suc-le-zero}
use native.Mathlib.Omega.{arith}
use lib.ListN.{length, drop, length-drop}
use Rattle.tables.specs.Questions.{first_no}
use Rattle.tables.specs.Answered.{Reply, accepted}
use Rattle.entry.specs.Record.{Record, bytes}
use Rattle.entry.specs.Held.{records, route_of}
use Rattle.calls.specs.Questions.{walk_questions}
use Rattle.calls.specs.Walk.{walk_refusal, at_entry, walk_at_most, walk_behind}
use Rattle.entry.proofs.Records.{some_bytes}
use Rattle.calls.proofs.Questions.{audit_exactly, walk_exactly}

-- an entry that passes the walk's questions takes some bytes
pub passed_some : (before : ℕ) (rs : List Record) → first_no (walk_questions before rs) ≡ 0 → 0 < length (bytes rs)
passed_some before rs e = some_bytes rs ((audit_exactly rs).0 ((walk_exactly rs before).0 e).0).0.whole

-- ---- the bound plays no part
same_onwards : (q passed : ℕ) (x y : Reply) → (q ≡ 0 → x ≡ y) → at_entry q passed x ≡ at_entry q passed y
same_onwards zero passed x y h = h refl
same_onwards (suc q) passed x y h = refl

enough : (j k before passed : ℕ) (bs : List ℕ) → length bs ≤ j → length bs ≤ k
    → walk_at_most j before passed bs ≡ walk_at_most k before passed bs
unfolding walk_at_most
enough zero zero before passed bs h l = refl
enough zero (suc k) before passed [] h l = refl
enough zero (suc k) before passed (b ∷ bs) h l = absurd (not-suc-le-zero h)
enough (suc j) zero before passed [] h l = refl
enough (suc j) zero before passed (b ∷ bs) h l = absurd (not-suc-le-zero l)
enough (suc j) (suc k) before passed [] h l = refl
enough (suc j) (suc k) before passed (b ∷ bs) h l =
    same_onwards (walk_refusal before (b ∷ bs)) passed _ _
    (λ z. enough j k (route_of (records (b ∷ bs))) (suc passed) (drop (length (bytes (records (b ∷ bs)))) (b ∷ bs))
    (omega (arith, passed_some before (records (b ∷ bs)) z, length-drop (length (bytes (records (b ∷ bs)))) (b ∷ bs)))
    (omega (arith, passed_some before (records (b ∷ bs)) z, length-drop (length (bytes (records (b ∷ bs)))) (b ∷ bs))))

-- ---- the walk, entry by entry
pub walk_end : (before passed : ℕ) → walk_behind before passed [] ≡ accepted (passed ∷ [])
unfolding walk_behind walk_at_most
walk_end before passed = refl

pub walk_on : (before passed : ℕ) (bs : List ℕ) → 0 < length bs
    → walk_behind before passed bs
    ≡ at_entry (walk_refusal before bs) passed (walk_behind (route_of (records bs)) (suc passed) (drop (length (bytes (records bs))) bs))
unfolding walk_behind walk_at_most
walk_on before passed [] h = absurd (not-suc-le-zero h)
walk_on before passed (b ∷ bs) h =
    same_onwards (walk_refusal before (b ∷ bs)) passed _ _
    (λ z. enough (length bs) (length (drop (length (bytes (records (b ∷ bs)))) (b ∷ bs))) (route_of (records (b ∷ bs))) (suc passed)
    (drop (length (bytes (records (b ∷ bs)))) (b ∷ bs))
    (omega (arith, passed_some before (records (b ∷ bs)) z, length-drop (length (bytes (records (b ∷ bs)))) (b ∷ bs)))
    (omega arith))
