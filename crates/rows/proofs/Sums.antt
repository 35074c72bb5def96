-- The rows, each times its coefficient, summed in turn from 0, are the values at 0 of the polynomials through their points.
-- Assumes nothing.
use mathlib.Core.Path.{◌≡◌, refl, sym, ap, ap₂, ◌∙◌, subst}
use mathlib.Core.List.{List, [], ◌∷◌, ◌++◌, map, zip_with}
use mathlib.Core.Logic.{⊎_elim}
use Prim.Native.Nat.{ℕ, zero, suc, ◌+◌, ◌*◌, ◌-◌, ◌<◌, ◌≤◌}
use native.Mathlib.Nat.{eq-or-lt_of_le, suc-mul}
use native.Mathlib.Omega.{arith}
use lib.Bits.{bit_xor, xor_zero_l, xor_zero_r}
use lib.Dec.{lit<}
use lib.ListN.{length, get_or, take, drop, replicate, length-drop, length-append, length-replicate, get_or-replicate, length-map, get_or-append, take-append-drop}
use lib.Seq.{ext_get_or, drop_at, drop-append-le, length-take-le, get_or-drop, get_or_at}
use Rattle.gf256.specs.Field256.{mul256, gf256}
use Rattle.gf256.proofs.Field256.{ring256, laws256}
use Rattle.shamir.specs.Lists.{Distinct}
use Rattle.shamir.specs.Polynomial.{weight, weighted, interpolate}
use Rattle.shamir.specs.Rows.{column, combined}
use Rattle.shamir.specs.Theorems.{Points}
use Rattle.shamir.proofs.Lagrange.{lagrange_is_interpolation}
use Rattle.strides.specs.Strides.{strided}
use Rattle.rows.specs.Storage.{cut, values}
use Rattle.rows.specs.Combining.{Ready, plus_times, plus_rows}
use Rattle.strides.proofs.Strides.{length-strided}
use Rattle.rows.proofs.Storage.{strided-lt, values-strided}
use Rattle.strides.proofs.InPlace.{length-zip-le, get_or-zip}
use Rattle.rows.proofs.Ready.{ready_distinct}

-- ---- a turn of the loop

zip-take : (f : ℕ → ℕ → ℕ) (xs ys : List ℕ) (n : ℕ) → length xs ≤ n → zip_with f xs (take n ys) ≡ zip_with f xs ys
unfolding zip_with
zip-take f [] ys n h = refl
zip-take f (x ∷ xs) ys zero h = absurd (omega arith)
zip-take f (x ∷ xs) [] (suc n) h = refl
zip-take f (x ∷ xs) (y ∷ ys) (suc n) h = ap (f x y ∷◌) (zip-take f xs ys n (omega arith))

zip-front : (f : ℕ → ℕ → ℕ) (xs ys zs : List ℕ) → length xs ≤ length ys → zip_with f xs (ys ++ zs) ≡ zip_with f xs ys
unfolding zip_with
zip-front f [] ys zs h = refl
zip-front f (x ∷ xs) [] zs h = absurd (omega arith)
zip-front f (x ∷ xs) (y ∷ ys) zs h = ap (f x y ∷◌) (zip-front f xs ys zs (omega arith))

-- a row is summed from its front alone, ..
row_front : (c w : ℕ) (s rest out : List ℕ) → w ≡ length out + 1 → w ≤ length s → plus_times c out (drop 1 (s ++ rest)) ≡ plus_times c out (drop 1 s)
row_front c w s rest out e h =
    ap (plus_times c out) (drop-append-le 1 s rest (omega arith)) ∙ zip-front _ out (drop 1 s) rest (simp length-drop (omega arith))

-- .. and the next row of those that are left is summed with the next coefficient
pub row_next : (c w : ℕ) (cs row later out out₁ : List ℕ) → w ≡ length out + 1 → length row ≡ w → out₁ ≡ plus_times c out (take (length row - 1) (drop 1 row))
    → plus_rows w cs later out₁ ≡ plus_rows w (c ∷ cs) (row ++ later) out
row_next c w cs row later out out₁ e h q =
    ap₂ (plus_rows w cs) (sym (drop_at row later w h))
    (q ∙ zip-take _ out (drop 1 row) (length row - 1) (omega arith) ∙ sym (row_front c w row later out e (omega arith)))

-- what lies behind the rows is not looked at
plus_front : (w : ℕ) (cs s rest out : List ℕ) → w ≡ length out + 1 → length s ≡ length cs * w → plus_rows w cs (s ++ rest) out ≡ plus_rows w cs s out
plus_front w [] s rest out e h = refl
plus_front w (c ∷ cs) s rest out e h =
    let some : w ≤ length s = omega (arith, h, suc-mul (length cs) w) in
    ap₂ (plus_rows w cs) (drop-append-le w s rest some) (row_front c w s rest out e some)
    ∙ plus_front w cs (drop w s) rest (plus_times c out (drop 1 s))
    (e ∙ ap (◌+ 1) (sym (length-zip-le _ out (drop 1 s) (simp length-drop (omega arith)))))
    (omega (arith, length-drop w s, h, suc-mul (length cs) w))

pub plus_stored : (w m : ℕ) (cs s out : List ℕ) → w ≡ length out + 1 → length cs ≡ m → m * w ≤ length s → plus_rows w cs (take (m * w) s) out ≡ plus_rows w cs s out
plus_stored w m cs s out e n h =
    sym (plus_front w cs (take (m * w) s) (drop (m * w) s) out e (length-take-le (m * w) s h ∙ ap (◌* w) (sym n)))
    ∙ ap (λ l. plus_rows w cs l out) (take-append-drop (m * w) s)

-- all are summed where no coefficient is left, or not a whole row
pub all_taken : (w : ℕ) (cs rows out : List ℕ) → length cs ≡ 0 → plus_rows w cs rows out ≡ out
all_taken w [] rows out h = refl
all_taken w (c ∷ cs) rows out h = absurd (omega arith)

pub all_short : (w : ℕ) (cs rows out : List ℕ) → length rows ≡ length cs * w → length rows < w → plus_rows w cs rows out ≡ out
all_short w [] rows out e h = refl
all_short w (c ∷ cs) rows out e h = absurd (omega (arith, e, suc-mul (length cs) w))

-- ---- the sums by their places

module _ (l : ℕ) where
  fits : (m : ℕ) (s : List ℕ) → suc m * (l + 1) ≤ length s → (l ≤ length (drop 1 s)) × (m * (l + 1) ≤ length (drop (l + 1) s))
  fits m s h = let e : suc m * (l + 1) ≡ m * (l + 1) + (l + 1) = omega arith in (simp length-drop (omega arith), simp length-drop (omega arith))

  length_plus : (cs s out : List ℕ) → length out ≡ l → length cs * (l + 1) ≤ length s → length (plus_rows (l + 1) cs s out) ≡ l
  length_plus [] s out e h = e
  length_plus (c ∷ cs) s out e h =
      let f = fits (length cs) s h in
      length_plus cs (drop (l + 1) s) (plus_times c out (drop 1 s)) (length-zip-le _ out (drop 1 s) (omega arith) ∙ e) f.1

  sum_at : (all xs s out : List ℕ) (k : ℕ) → k < l → length out ≡ l → length xs * (l + 1) ≤ length s
      → get_or (plus_rows (l + 1) (map (weight gf256 0 all) xs) s out) k 0 ≡ bit_xor (get_or out k 0) (weighted gf256 0 all xs (strided (l + 1) (suc k) (length xs) s))
  sum_at all [] s out k hk e h = sym (xor_zero_r (get_or out k 0))
  sum_at all (x ∷ xs) s out k hk e h =
      let f = fits (length xs) s h in
      let c = weight gf256 0 all x in
      let t = weighted gf256 0 all xs (strided (l + 1) (suc k) (length xs) (drop (l + 1) s)) in
      let n : 1 + k ≡ suc k = omega arith in
      sum_at all xs (drop (l + 1) s) (plus_times c out (drop 1 s)) k hk (length-zip-le _ out (drop 1 s) (omega arith) ∙ e) f.1
      ∙ ap (λ o. bit_xor o t) (get_or-zip _ out (drop 1 s) k (omega arith) (omega arith) ∙ ap (λ v. bit_xor (get_or out k 0) (mul256 v c)) (get_or-drop 1 s k 0 ∙ ap (λ j. get_or s j 0) n))
      ∙ ring256.add_assoc (get_or out k 0) (mul256 (get_or s (suc k) 0) c) t

-- ---- the secret

length-combined : (xs : List ℕ) (rows : List (List ℕ)) (l : ℕ) → length (combined gf256 0 xs rows l) ≡ l
length-combined xs rows zero = refl
length-combined xs rows (suc l) = simp length-append (omega (arith, length-combined xs rows l))

combined_at : (xs : List ℕ) (rows : List (List ℕ)) (l k : ℕ) → k < l → get_or (combined gf256 0 xs rows l) k 0 ≡ interpolate gf256 0 xs (column k rows)
combined_at xs rows zero k h = absurd (omega arith)
combined_at xs rows (suc l) k h =
    ⊎_elim
    (λ (e : k ≡ l). get_or_at (combined gf256 0 xs rows l) (interpolate gf256 0 xs (column l rows)) [] 0 k (length-combined xs rows l ∙ sym e) ∙ ap (λ j. interpolate gf256 0 xs (column j rows)) (sym e))
    (λ q. get_or-append (combined gf256 0 xs rows l) _ 0 k (omega (arith, length-combined xs rows l)) ∙ combined_at xs rows l k q)
    (eq-or-lt_of_le (let z : k ≤ l = omega arith in z))

secret_is : (s : List ℕ) (l m : ℕ) → ((i : ℕ) → get_or s i 0 < 256) → m * (l + 1) ≤ length s → Distinct (strided (l + 1) 0 m s)
    → plus_rows (l + 1) (map (weight gf256 0 (strided (l + 1) 0 m s)) (strided (l + 1) 0 m s)) s (replicate l 0)
    ≡ combined gf256 0 (strided (l + 1) 0 m s) (values (cut (replicate m (l + 1)) s)) l
secret_is s l m b h d =
    let xs = strided (l + 1) 0 m s in
    let rows = values (cut (replicate m (l + 1)) s) in
    let n : length xs ≡ m = length-strided (l + 1) 0 m s in
    let hs : length xs * (l + 1) ≤ length s = rw n h in
    let hc : length (map (weight gf256 0 xs) xs) * (l + 1) ≤ length s = rw (length-map xs (weight gf256 0 xs)) hs in
    let lo : length {A = ℕ} (replicate l 0) ≡ l = length-replicate {A = ℕ} l 0 in
    let lp = length_plus l (map (weight gf256 0 xs) xs) s (replicate l 0) lo hc in
    ext_get_or 0 _ (combined gf256 0 xs rows l) (lp ∙ sym (length-combined xs rows l))
    (λ k hk.
    let k_lt : k < l = omega arith in
    let ys = strided (l + 1) (suc k) m s in
    let points : Points gf256 xs ys = record {
      places = record { distinct = d; small = strided-lt 256 (l + 1) 0 m s b };
      same = length-strided (l + 1) (suc k) m s ∙ sym n;
      small = strided-lt 256 (l + 1) (suc k) m s b;
    } in
    sum_at l xs xs s (replicate l 0) k k_lt lo hs
    ∙ ap (λ o. bit_xor o (weighted gf256 0 xs xs (strided (l + 1) (suc k) (length xs) s))) (get_or-replicate l k 0 0 k_lt)
    ∙ xor_zero_l (weighted gf256 0 xs xs (strided (l + 1) (suc k) (length xs) s))
    ∙ ap (λ j. weighted gf256 0 xs xs (strided (l + 1) (suc k) j s)) n
    ∙ lagrange_is_interpolation laws256 0 xs ys (lit< tt) points
    ∙ ap (interpolate gf256 0 xs) (sym (values-strided (l + 1) k m s (omega arith)))
    ∙ sym (combined_at xs rows l k k_lt))

-- as the calls one after another leave it
pub combined_is : (s ids cs out out₁ : List ℕ) (w l m : ℕ) → ((i : ℕ) → get_or s i 0 < 256) → w ≡ l + 1 → Ready w m s
    → ids ≡ strided w 0 m s → cs ≡ map (weight gf256 0 ids) ids → out ≡ replicate l 0 → out₁ ≡ plus_rows w cs s out
    → out₁ ≡ combined gf256 0 (strided w 0 m s) (values (cut (replicate m w) s)) l
combined_is s ids cs out out₁ w l m b ew r ei ec eo e =
    e
    ∙ ap₂ (λ o t. plus_rows w t s o) eo (ec ∙ ap (λ x. map (weight gf256 0 x) x) ei)
    ∙ subst
    (λ w. Ready w m s → plus_rows w (map (weight gf256 0 (strided w 0 m s)) (strided w 0 m s)) s (replicate l 0) ≡ combined gf256 0 (strided w 0 m s) (values (cut (replicate m w) s)) l)
    (sym ew)
    (λ r. secret_is s l m b r.stored (ready_distinct (l + 1) m s r))
    r
