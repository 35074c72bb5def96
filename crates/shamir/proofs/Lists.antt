-- Lists: what holds of each element, and two lists element by element. Assumes nothing.
use mathlib.Core.Path.{◌≡◌, refl, ap, ap₂}
use mathlib.Core.List.{List, [], ◌∷◌, ◌++◌, map, zip_with}
use Prim.Native.Nat.{ℕ, zero, suc, ◌<◌}
use native.Mathlib.Omega.{arith}
use lib.ListN.{length, take, drop, get_or}
use Rattle.shamir.specs.Lists.{All, Below}

module _ {A : Type 0} (P : A → Type 0) where
  pub all_take : (n : ℕ) (xs : List A) → All P xs → All P (take n xs)
  all_take zero xs h = tt
  all_take (suc n) [] h = tt
  all_take (suc n) (x ∷ xs) h = (h.0, all_take n xs h.1)

  pub all_drop : (n : ℕ) (xs : List A) → All P xs → All P (drop n xs)
  all_drop zero xs h = h
  all_drop (suc n) [] h = tt
  all_drop (suc n) (x ∷ xs) h = all_drop n xs h.1

  pub all_append : (xs ys : List A) → All P xs → All P ys → All P (xs ++ ys)
  all_append [] ys h k = k
  all_append (x ∷ xs) ys h k = (h.0, all_append xs ys h.1 k)

  pub all_parts : (xs ys : List A) → All P (xs ++ ys) → All P xs × All P ys
  all_parts [] ys h = (tt, h)
  all_parts (x ∷ xs) ys h = let r = all_parts xs ys h.1 in ((h.0, r.0), r.1)

  pub all_at : (d : A) → P d → (xs : List A) (i : ℕ) → All P xs → P (get_or xs i d)
  all_at d hd [] i h = hd
  all_at d hd (x ∷ xs) zero h = h.0
  all_at d hd (x ∷ xs) (suc i) h = all_at d hd xs i h.1

pub all_in : (P : ℕ → Type 0) (xs : List ℕ) (i : ℕ) → i < length xs → All P xs → P (get_or xs i 0)
all_in P [] i h a = absurd (omega arith)
all_in P (x ∷ xs) zero h a = a.0
all_in P (x ∷ xs) (suc i) h a = all_in P xs i (omega arith) a.1

pub all_map : {A B : Type 0} (P : A → Type 0) (Q : B → Type 0) (f : A → B) → ((x : A) → P x → Q (f x)) → (xs : List A) → All P xs → All Q (map f xs)
all_map P Q f s [] h = tt
all_map P Q f s (x ∷ xs) h = (s x h.0, all_map P Q f s xs h.1)

pub all_both : {A : Type 0} (P Q R : A → Type 0) → ((x : A) → P x → Q x → R x) → (xs : List A) → All P xs → All Q xs → All R xs
all_both P Q R s [] h k = tt
all_both P Q R s (x ∷ xs) h k = (s x h.0 k.0, all_both P Q R s xs h.1 k.1)

pub map_same : {A B : Type 0} {f g : A → B} (P : A → Type 0) → ((x : A) → P x → f x ≡ g x) → (xs : List A) → All P xs → map f xs ≡ map g xs
map_same P s [] h = refl
map_same P s (x ∷ xs) h = ap₂ ◌∷◌ (s x h.0) (map_same P s xs h.1)

pub length-zip : (h : ℕ → ℕ → ℕ) (xs ys : List ℕ) → length ys ≡ length xs → length (zip_with h xs ys) ≡ length xs
unfolding zip_with
length-zip h [] ys e = refl
length-zip h (x ∷ xs) [] e = e
length-zip h (x ∷ xs) (y ∷ ys) e = ap suc (length-zip h xs ys (omega arith))

pub zip-lt : {h : ℕ → ℕ → ℕ} {n : ℕ} → ((x y : ℕ) → x < n → y < n → h x y < n) → (xs ys : List ℕ) → Below n xs → Below n ys → Below n (zip_with h xs ys)
unfolding zip_with
zip-lt s [] ys hx hy = tt
zip-lt s (x ∷ xs) [] hx hy = tt
zip-lt s (x ∷ xs) (y ∷ ys) hx hy = (s x y hx.0 hy.0, zip-lt s xs ys hx.1 hy.1)

-- where f takes the values h x y, g takes the values y, and the other way
module _ {f g : ℕ → ℕ} {h : ℕ → ℕ → ℕ} (P : ℕ → Type 0) where
  pub unzip : (n : ℕ) → ((x y : ℕ) → P x → y < n → f x ≡ h x y → g x ≡ y) → (xs ys : List ℕ) → length ys ≡ length xs → All P xs → Below n ys
      → map f xs ≡ zip_with h xs ys → map g xs ≡ ys
  unfolding zip_with
  unzip n s [] [] l hx hy e = refl
  unzip n s [] (y ∷ ys) l hx hy e = absurd (omega arith)
  unzip n s (x ∷ xs) [] l hx hy e = absurd (omega arith)
  unzip n s (x ∷ xs) (y ∷ ys) l hx hy e =
      let e₀ : f x ≡ h x y = cc in
      let e₁ : map f xs ≡ zip_with h xs ys = cc in
      ap₂ ◌∷◌ (s x y hx.0 hy.0 e₀) (unzip n s xs ys (omega arith) hx.1 hy.1 e₁)

  pub zip-map : ((x y : ℕ) → P x → g x ≡ y → f x ≡ h x y) → (xs : List ℕ) → All P xs → map f xs ≡ zip_with h xs (map g xs)
  unfolding zip_with
  zip-map s [] k = refl
  zip-map s (x ∷ xs) k = ap₂ ◌∷◌ (s x (g x) k.0 refl) (zip-map s xs k.1)
