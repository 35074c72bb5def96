-- A chain of refusals: what it answers where what comes later is done tells what it answers whatever comes later.
-- Assumes nothing.
use mathlib.Core.Path.{◌≡◌, refl, sym, ap, ◌∙◌}
use mathlib.Core.Bool.{Bool, true, false}
use Prim.Native.Nat.{ℕ}
use native.Mathlib.Omega.{arith}
use Rattle.answer.specs.Outcome.{Outcome, done, refused, refuse}

pub record Chain (f : Outcome → Outcome) : Type 0 where
  pub goes_on : (l n : ℕ) (later : Outcome) → f (done l) ≡ done n → (l ≡ n) × (f later ≡ later)
  pub stops : (l n i j : ℕ) (later : Outcome) → f (done l) ≡ refused n i j → f later ≡ refused n i j

pub apart : {number first second m : ℕ} → refused number first second ≡ done m → ⊥
apart e = let z : ◌≡◌ {A = ℕ} 0 1 = cc in omega arith

pub end : Chain (λ later. later)
end = record { goes_on = λ l n later e. (cc, refl); stops = λ l n i j later e. absurd (let z : ◌≡◌ {A = ℕ} 0 1 = cc in omega arith) }

pub then : (test : Bool) (number first second : ℕ) {f : Outcome → Outcome} → Chain f → Chain (λ later. refuse test (refused number first second) (f later))
then true number first second c = record { goes_on = λ l n later e. absurd (apart e); stops = λ l n i j later e. e }
then false number first second c = c

-- done: the refusal was not given, and what comes later is done
pub passed : (test : Bool) (number first second : ℕ) (later : Outcome) (m : ℕ) → refuse test (refused number first second) later ≡ done m → (test ≡ false) × (later ≡ done m)
passed true number first second later m e = absurd (apart e)
passed false number first second later m e = (refl, e)

-- a chain that is done lets each count through, and what comes later is done
pub through : {f : Outcome → Outcome} → Chain f → (l : ℕ) (later : Outcome) (m : ℕ) → f later ≡ done m → (f (done l) ≡ done l) × (later ≡ done m)
through {f} c l later m e = pick (f (done l)) refl
  where
    pick : (o : Outcome) → f (done l) ≡ o → (f (done l) ≡ done l) × (later ≡ done m)
    pick (done n) p = let r = c.goes_on l n later p in (p ∙ ap done (sym r.0), sym r.1 ∙ e)
    pick (refused n i j) p = absurd (apart (sym (c.stops l n i j later p) ∙ e))
