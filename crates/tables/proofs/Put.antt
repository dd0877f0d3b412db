-- Bytes put into an output one part behind another: what stands there in the end, and the loop that puts a list byte by byte.
-- Assumes nothing.
use mathlib.Core.Path.{◌≡◌, refl, sym, ap, ◌∙◌}
use mathlib.Core.List.{List, [], ◌∷◌, ◌++◌}
use Prim.Native.Nat.{ℕ, suc, ◌+◌, ◌≤◌, ◌<◌}
use native.Mathlib.Nat.{add-zero, suc-add, add-suc, add_assoc}
use native.Mathlib.Numerals.{add-one}
use native.Mathlib.Omega.{arith}
use lib.ListN.{length, get_or, set, take, length-append, length-set}
use lib.Seq.{sets, length-sets, take-suc, take_all}
use Rattle.tables.specs.Inner.Put.{Put}

-- one part, and another right behind it
sets_append : (vs ws old : List ℕ) (at : ℕ) → sets (sets old at vs) (at + length vs) ws ≡ sets old at (vs ++ ws)
sets_append [] ws old at = ap (λ (i : ℕ). sets old i ws) (add-zero at)
sets_append (v ∷ vs) ws old at =
    ap (λ (i : ℕ). sets (sets (set old at v) (suc at) vs) i ws) (add-suc at (length vs) ∙ sym (suc-add at (length vs)))
    ∙ sets_append vs ws (set old at v) (suc at)

pub put_length : {old new vs : List ℕ} {at next : ℕ} → Put old at vs next new → length new ≡ length old
put_length {old} {new} {vs} {at} p = rw p.bytes (length-sets old at vs)

pub put_both : {old mid new vs ws : List ℕ} {at next last : ℕ} → Put old at vs next mid → Put mid next ws last new
    → Put old at (vs ++ ws) last new
put_both {old} {mid} {new} {vs} {ws} {at} {next} {last} p q =
    record {
      place = q.place ∙ rw (p.place, length-append vs ws) (add_assoc at (length vs) (length ws));
      inside = omega (arith, q.inside, put_length p);
      bytes = q.bytes ∙ rw (p.bytes, p.place) (sets_append vs ws old at);
    }

pub put_same : {old new vs ws : List ℕ} {at next : ℕ} → Put old at vs next new → vs ≡ ws → Put old at ws next new
put_same p e = rw e at p

-- nothing, a byte behind a part, and a byte in front of one
pub put_none : (old : List ℕ) (at : ℕ) → at ≤ length old → Put old at [] at old
put_none old at h = record { place = sym (add-zero at); inside = h; bytes = refl }

pub put_one : {old new vs : List ℕ} {at next : ℕ} → Put old at vs next new → next < length old → (v : ℕ)
    → Put old at (vs ++ (v ∷ [])) (next + 1) (set new next v)
put_one {old} {new} {vs} {at} {next} p h v = put_both p (record { place = refl; inside = omega (arith, put_length p); bytes = refl })

pub put_before : {old new vs : List ℕ} {at next : ℕ} (v : ℕ) → Put (set old at v) (at + 1) vs next new → Put old at (v ∷ vs) next new
put_before {old} {new} {vs} {at} {next} v p =
    record {
      place = p.place ∙ rw (add-one at) (suc-add at (length vs) ∙ sym (add-suc at (length vs)));
      inside = omega (arith, p.inside, length-set old at v);
      bytes = p.bytes ∙ rw (add-one at);
    }

-- two, three and four stores, one behind another
pub put_two : (old : List ℕ) (at a b : ℕ) → at + 2 ≤ length old → Put old at (a ∷ b ∷ []) (at + 2) (set (set old at a) (at + 1) b)
put_two old at a b h = record { place = refl; inside = h; bytes = rw add-one }

pub put_three : (old : List ℕ) (at a b c : ℕ) → at + 3 ≤ length old
    → Put old at (a ∷ b ∷ c ∷ []) (at + 3) (set (set (set old at a) (at + 1) b) (at + 2) c)
put_three old at a b c h = let e : at + 2 ≡ suc (suc at) = omega arith in record { place = refl; inside = h; bytes = rw (add-one, e) }

pub put_four : (old : List ℕ) (at a b c d : ℕ) → at + 4 ≤ length old
    → Put old at (a ∷ b ∷ c ∷ d ∷ []) (at + 4) (set (set (set (set old at a) (at + 1) b) (at + 2) c) (at + 3) d)
put_four old at a b c d h =
    let e : at + 2 ≡ suc (suc at) = omega arith in
    let f : at + 3 ≡ suc (suc (suc at)) = omega arith in
    record { place = refl; inside = h; bytes = rw (add-one, e, f) }

-- a loop that puts a list's elements one by one
pub put_start : (old : List ℕ) (at : ℕ) → at ≤ length old → Put old at [] (at + 0) old
put_start old at h = record { place = refl; inside = omega arith; bytes = refl }

pub put_more : (old vs new : List ℕ) (at i : ℕ) → i < length vs → at + length vs ≤ length old → Put old at (take i vs) (at + i) new
    → Put old at (take (i + 1) vs) (at + (i + 1)) (set new (at + i) (get_or vs i 0))
put_more old vs new at i l h p =
    let q : Put old at (take i vs ++ (get_or vs i 0 ∷ [])) (at + i + 1) (set new (at + i) (get_or vs i 0)) = put_one p (omega arith)
    (get_or vs i 0) in
    rw (add-one i, take-suc vs i 0 l, ← add-one i, ← add_assoc at i 1) q

pub put_all : (old vs new : List ℕ) (at i : ℕ) → length vs ≤ i → Put old at (take i vs) (at + i) new → Put old at vs (at + i) new
put_all old vs new at i l p = rw (take_all i vs l) at p
