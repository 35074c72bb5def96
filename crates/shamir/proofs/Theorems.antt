-- The theorems of specs/Theorems.antt. Assumes nothing.
use mathlib.Core.Path.{◌≡◌, ◌∙◌, sym, ap, ap₂, refl, subst, fun_ext}
use mathlib.Core.List.{List, [], ◌∷◌, ◌++◌, map, map-map, zip_with}
use Prim.Native.Nat.{ℕ, zero, suc, ◌<◌, ◌≤◌, ◌+◌, ◌*◌, ◌-◌, ◌^◌}
use native.Mathlib.Omega.{arith}
use native.Mathlib.Nat.{pow-zero, suc-mul, suc_inj, mul-zero, zero-mul}
use lib.Pow.{pow-add}
use lib.ListN.{length, take, drop, get_or, replicate, length-append, length-take, length-drop, length-map, take-append-drop}
use lib.Seq.{take_at, drop_at, take-suc, take_all, length-take-le}
use Rattle.algebra.specs.Field.{Ops, Laws}
use Rattle.algebra.proofs.Ring.{ring}
use Rattle.shamir.specs.Lists.{Below, Fresh}
use Rattle.shamir.specs.Polynomial.{value, polynomial, interpolate}
use Rattle.shamir.specs.Rows.{row, column, combined}
use Rattle.shamir.specs.Count.{Exactly}
use Rattle.shamir.specs.Theorems.{Places, Points, RowPoints, Through, Shows, Interpolation, Recovery, RowRecovery, Hiding, RowHiding, Agreement, AnyChange}
use Rattle.shamir.proofs.Lists.{all_take, all_drop, all_append, all_at, all_map, unzip, zip-map}
use Rattle.shamir.proofs.Polynomial.{value-lt, value-zero, value-append, points_zip, zeros_lt, value_pad, through, polynomial-only, polynomial_pad}
use Rattle.shamir.proofs.Rows.{length-row, row_at, row_zero, rows-cons, rows-nil}
use Rattle.shamir.proofs.Count.{unique, single, carry, pairs, lists, uncons}
pub use Rattle.shamir.proofs.Polynomial.{horner_is_value}
pub use Rattle.shamir.proofs.Lagrange.{lagrange_is_interpolation}

module _ {F : Ops} (L : Laws F) where
  infixl 60 ◌⊕◌
  open F use {size, add as ◌⊕◌}
  open L use {ring as R}

  pub recovery : Recovery L
  recovery = record { anywhere = anywhere; secret = λ s cs xs hs hc l h. anywhere 0 (s ∷ cs) xs (omega (arith, R.one-lt)) (hs, hc) l h ∙ value-zero L s cs }
    where
      anywhere : (z : ℕ) (p xs : List ℕ) → z < size → Below size p → length p ≤ length xs → Places F xs → interpolate F z xs (map (value F p) xs) ≡ value F p z
      anywhere z p xs hz hp l h =
          ap (λ t. value F t z) (polynomial_pad L xs p (length xs - length p) (omega arith) h hp) ∙ value_pad L p (length xs - length p) z hz

  pub agreement : Agreement L
  agreement p q xs e l hp hq h t = sym (prefix p l hp) ∙ ap₂ (λ n v. take n (polynomial F xs v)) e t ∙ prefix q (omega arith) hq
    where
      prefix : (p : List ℕ) → length p ≤ length xs → Below size p → take (length p) (polynomial F xs (map (value F p) xs)) ≡ p
      prefix p l hp =
          let n = length xs - length p in
          ap (take (length p)) (polynomial_pad L xs p n (omega arith) h hp) ∙ take_at p (replicate n 0) (length p) refl

  pub any_change : AnyChange L
  any_change xs ys ys' h h' e = sym (through L xs ys h).fits ∙ ap (λ p. map (value F p) xs) e ∙ (through L xs ys' h').fits

  -- the coefficients q from the k-th on are free: they shift each value, and the first k are those through the shifted points
  module _ (xs ys : List ℕ) (h : Points F xs ys) where
    abbrev shift : List ℕ → ℕ → ℕ → ℕ
    shift q x y = y ⊕ value F (replicate (length xs) 0 ++ q) x

    abbrev low : List ℕ → List ℕ
    low q = polynomial F xs (zip_with (shift q) xs ys)

    shifted : (q : List ℕ) → Below size q → Through F (length xs) xs (zip_with (shift q) xs ys) (low q)
    shifted q hq =
        let z = replicate {A = ℕ} (length xs) 0 in
        through L xs (zip_with (shift q) xs ys)
        (points_zip L (λ x y hx hy. R.add-lt _ _ hy (value-lt L (z ++ q) x (all_append (◌< size) z q (zeros_lt L (length xs)) hq) hx)) xs ys h.places h.same h.small)

    join : (p q : List ℕ) (x y : ℕ) → length p ≡ length xs → x < size → value F p x ≡ shift q x y → value F (p ++ q) x ≡ y
    join p q x y l hx e =
        let s = value F (replicate (length xs) 0 ++ q) x in
        let r : (y ⊕ s) ⊕ s ≡ y = simp (ring, R) in
        value-append L p q (length xs) x l hx ∙ ap (◌⊕ s) e ∙ r

    part : (p q : List ℕ) (x y : ℕ) → length p ≡ length xs → x < size → value F (p ++ q) x ≡ y → value F p x ≡ shift q x y
    part p q x y l hx e =
        let s = value F (replicate (length xs) 0 ++ q) x in
        let r : (value F p x ⊕ s) ⊕ s ≡ value F p x = simp (ring, R) in
        sym r ∙ ap (◌⊕ s) (sym (value-append L p q (length xs) x l hx) ∙ e)

    counted : (m n : ℕ) → m + length xs ≡ n → Exactly (size ^ m) (Through F n xs ys)
    counted m n e =
        let k = length xs in
        carry (lists size m) (λ q. low q ++ q) (drop k)
        (λ q hq.
        let t = shifted q hq.1 in
        record {
          long = omega (arith, length-append (low q) q, t.long, hq.0);
          small = all_append (◌< size) (low q) q t.small hq.1;
          fits = unzip (◌< size) size (λ x y hx hy. join (low q) q x y t.long hx) xs ys h.same h.places.small h.small t.fits;
        })
        (λ q hq. drop_at (low q) q k (shifted q hq.1).long)
        (λ p hp. (omega (arith, length-drop k p, hp.long), all_drop (◌< size) k p hp.small))
        (λ p hp.
        let l = length-take-le k p (omega (arith, hp.long)) in
        ap (◌++ drop k p)
        (ap (λ v. polynomial F xs (zip_with (shift (drop k p)) xs v)) (sym hp.fits ∙ ap (λ t. map (value F t) xs) (sym (take-append-drop k p)))
        ∙ ap (polynomial F xs) (sym (zip-map (◌< size) (λ x y hx. part (take k p) (drop k p) x y l hx) xs h.places.small))
        ∙ polynomial-only L xs (take k p) l h.places.distinct h.places.small (all_take (◌< size) k p hp.small))
        ∙ take-append-drop k p)

  pub interpolation : Interpolation L
  interpolation = record {
    through = through L;
    one = λ xs ys h. unique (pow-zero size) (counted xs ys h 0 (length xs) (omega arith));
    count = λ m n xs ys e h. counted xs ys h m n e;
  }

  -- the secret is the value at 0: a point more
  pub hiding : Hiding L
  hiding = record { one = λ n s xs ys e hs fr h. unique (pow-zero size) (count 0 n s xs ys (omega arith) hs fr h); count = count }
    where
      count : (m n s : ℕ) (xs ys : List ℕ) → m + length xs ≡ n → s < size → Fresh 0 xs → Points F xs ys → Exactly (size ^ m) (λ cs. Through F (suc n) xs ys (s ∷ cs))
      count m n s xs ys e hs fr h =
          let h₀ : Points F (0 ∷ xs) (s ∷ ys) = record {
            places = record { distinct = (fr, h.places.distinct); small = (omega (arith, R.one-lt), h.places.small) };
            same = ap suc h.same;
            small = (hs, h.small);
          } in
          carry (interpolation.count m (suc n) (0 ∷ xs) (s ∷ ys) (omega arith) h₀) (drop 1) (s ∷◌)
          (λ p hp. subst (Through F (suc n) xs ys) (sym (back p hp)) (record { long = hp.long; small = hp.small; fits = ap (drop 1) hp.fits }))
          back
          (λ cs hc. record { long = hc.long; small = hc.small; fits = ap₂ ◌∷◌ (value-zero L s cs) hc.fits })
          (λ cs hc. refl)
        where
          back : (p : List ℕ) → Through F (suc n) (0 ∷ xs) (s ∷ ys) p → s ∷ drop 1 p ≡ p
          back [] hp = absurd (omega arith)
          back (c ∷ p) hp = ap (◌∷ p) (sym (ap (λ l. get_or l 0 0) hp.fits) ∙ value-zero L c p)

  -- the heads of the rows are shown by the first n coefficients, the rest by the others
  pub row_hiding : RowHiding L
  row_hiding = record { one = λ n ss xs rows e hs fr h. unique (ap (size ^◌) (mul-zero (length ss)) ∙ pow-zero size) (count 0 n ss xs rows (omega arith) hs fr h); count = count }
    where
      count : (m n : ℕ) (ss xs : List ℕ) (rows : List (List ℕ)) → m + length xs ≡ n → Below size ss → Fresh 0 xs → RowPoints F (length ss) xs rows
          → Exactly (size ^ (length ss * m)) (Shows F n ss xs rows)
      count m n [] xs rows e hs fr h = single (ap (size ^◌) (zero-mul m) ∙ pow-zero size) (record {
        the = [];
        has = record { long = sym (zero-mul n); small = tt; fits = rows-nil size xs rows h.same h.small };
        only = λ cs hc. sym (take_all 0 cs (omega (arith, hc.long)));
      })
      count m n (s ∷ ss) xs rows e hs fr h =
          let u = hiding.count m n s xs (column 0 rows) e hs.0 fr (record {
            places = h.places;
            same = length-map rows _ ∙ h.same;
            small = all_map _ (◌< size) _ (λ r k. (uncons size (length ss) r k).0) rows h.small;
          }) in
          let v = count m n ss xs (map (drop 1) rows) e hs.1 fr (record {
            places = h.places;
            same = length-map rows _ ∙ h.same;
            small = all_map _ _ _ (λ r k. (uncons size (length ss) r k).1) rows h.small;
          }) in
          subst (λ c. Exactly c (Shows F n (s ∷ ss) xs rows)) (sym (ap (size ^◌) (suc-mul (length ss) m) ∙ pow-add size (length ss * m) m))
          (carry (pairs u v) (λ t. t.0 ++ t.1) (λ cs. (take n cs, drop n cs))
          (λ t k. record {
            long = omega (arith, length-append t.0 t.1, k.0.long, k.1.long);
            small = all_append (◌< size) t.0 t.1 k.0.small.1 k.1.small;
            fits =
                ap₂ (λ a b. map (λ x. value F (s ∷ a) x ∷ row F n x ss b) xs) (take_at t.0 t.1 n (suc_inj k.0.long)) (drop_at t.0 t.1 n (suc_inj k.0.long))
                ∙ rows-cons (value F (s ∷ t.0)) (λ x. row F n x ss t.1) size (length ss) xs rows h.small k.0.fits k.1.fits;
          })
          (λ t k d. (take_at t.0 t.1 n (suc_inj k.0.long) d, drop_at t.0 t.1 n (suc_inj k.0.long) d))
          (λ cs k. (
            record {
              long = ap suc (length-take-le n cs (omega (arith, k.long)));
              small = (hs.0, all_take (◌< size) n cs k.small);
              fits = sym (map-map (λ r. get_or r 0 0) (λ x. row F n x (s ∷ ss) cs) xs) ∙ ap (column 0) k.fits;
            },
            record {
              long = omega (arith, length-drop n cs, k.long);
              small = all_drop (◌< size) n cs k.small;
              fits = sym (map-map (drop 1) (λ x. row F n x (s ∷ ss) cs) xs) ∙ ap (map (drop 1)) k.fits;
            },
          ))
          (λ cs k. take-append-drop n cs))

  pub row_recovery : RowRecovery L
  row_recovery = record {
    element = row_at F;
    anywhere = anywhere;
    secret = λ k ss cs xs hs hc l h. anywhere k 0 ss cs xs (omega (arith, R.one-lt)) hs hc l h ∙ row_zero L k ss cs;
  }
    where
      anywhere : (k z : ℕ) (ss cs xs : List ℕ) → z < size → Below size ss → Below size cs → k < length xs → Places F xs
          → combined F z xs (map (λ x. row F k x ss cs) xs) (length ss) ≡ row F k z ss cs
      anywhere k z ss cs xs hz hs hc l h = first (length ss) (omega arith) ∙ take_all (length ss) (row F k z ss cs) (omega (arith, length-row F k z ss cs))
        where
          at : (i : ℕ) → i < length ss → interpolate F z xs (column i (map (λ x. row F k x ss cs) xs)) ≡ get_or (row F k z ss cs) i 0
          at i hi =
              let p = get_or ss i 0 ∷ take k (drop (i * k) cs) in
              ap (interpolate F z xs) (map-map (λ r. get_or r i 0) (λ x. row F k x ss cs) xs ∙ ap (λ f. map f xs) (fun_ext (λ x. row_at F k x i ss cs hi)))
              ∙ recovery.anywhere z p xs hz
              (all_at (◌< size) 0 (omega arith) ss i hs, all_take (◌< size) k _ (all_drop (◌< size) (i * k) cs hc))
              (omega (arith, length-take k (drop (i * k) cs))) h
              ∙ sym (row_at F k z i ss cs hi)

          first : (i : ℕ) → i ≤ length ss → combined F z xs (map (λ x. row F k x ss cs) xs) i ≡ take i (row F k z ss cs)
          first zero hi = refl
          first (suc i) hi =
              ap₂ (λ l v. l ++ v ∷ []) (first i (omega arith)) (at i (omega arith)) ∙ sym (take-suc (row F k z ss cs) i 0 (omega (arith, length-row F k z ss cs)))
