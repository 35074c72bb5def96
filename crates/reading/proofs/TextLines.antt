-- A text by its lines: the first of them and the others.
-- Assumes nothing.
use mathlib.Core.Path.{◌≡◌, refl, sym, ap, ◌∙◌}
use mathlib.Core.Bool.{Bool, true, false, cond}
use mathlib.Core.List.{List, [], ◌∷◌, ◌++◌, append_assoc}
use Prim.Native.Nat.{ℕ, zero, suc, ◌<◌, ◌≤◌}
use native.Mathlib.Omega.{arith}
use lib.Dec.{eqb}
use lib.Seq.{append_snoc}
use borrow.Author.Tests.{ne_eqb}
use Rattle.shamir.specs.Lists.{All}
use Rattle.shamir.proofs.Lists.{all_append, all_both}
use Rattle.sheets.specs.Text.{tab, line_feed, line}
use Rattle.reading.specs.Reading.{line_feeds, first_lines}
use Rattle.reading.specs.Unsheet.{after_line}
use Rattle.sheets.proofs.Fields.{Plain}

-- ---- any text

pub line_and_rest : (text : List ℕ) → first_lines 1 text ++ after_line text ≡ text
line_and_rest [] = refl
line_and_rest (c ∷ text) = pick (eqb c line_feed) (line_and_rest text)
  where
    pick : (b : Bool) → first_lines 1 text ++ after_line text ≡ text → (c ∷ cond b [] (first_lines 1 text)) ++ cond b text (after_line text) ≡ c ∷ text
    pick true e = refl
    pick false e = ap (c ∷◌) e

-- a complete first line is the first line of whatever it is continued to
pub first_again : (text rest : List ℕ) → 0 < line_feeds text → first_lines 1 (first_lines 1 text ++ rest) ≡ first_lines 1 text
first_again [] rest h = absurd (omega arith)
first_again (c ∷ text) rest h = pick (eqb c line_feed) h (first_again text rest)
  where
    pick : (b : Bool) → 0 < cond b (suc (line_feeds text)) (line_feeds text)
        → (0 < line_feeds text → first_lines 1 (first_lines 1 text ++ rest) ≡ first_lines 1 text)
        → c ∷ cond b [] (first_lines 1 (cond b [] (first_lines 1 text) ++ rest)) ≡ c ∷ cond b [] (first_lines 1 text)
    pick true k e = refl
    pick false k e = ap (c ∷◌) (e k)

-- fewer lines are the beginning of more
pub fewer_lines : (j k : ℕ) (text : List ℕ) → j ≤ k → (more : List ℕ) × (first_lines k text ≡ first_lines j text ++ more)
fewer_lines zero k text h = (first_lines k text, refl)
fewer_lines (suc j) zero text h = absurd (omega arith)
fewer_lines (suc j) (suc k) [] h = ([], refl)
fewer_lines (suc j) (suc k) (c ∷ text) h = pick (eqb c line_feed) (fewer_lines j k text (omega arith)) (fewer_lines (suc j) (suc k) text h)
  where
    pick : (b : Bool) → (more : List ℕ) × (first_lines k text ≡ first_lines j text ++ more)
        → (more : List ℕ) × (first_lines (suc k) text ≡ first_lines (suc j) text ++ more)
        → (more : List ℕ) × (c ∷ cond b (first_lines k text) (first_lines (suc k) text) ≡ (c ∷ cond b (first_lines j text) (first_lines (suc j) text)) ++ more)
    pick true p q = (p.0, ap (c ∷◌) p.1)
    pick false p q = (q.0, ap (c ∷◌) q.1)

-- ---- a text that begins with a line

abbrev NoFeed : ℕ → Type 0
NoFeed c = c ≡ line_feed → ⊥

-- one line feed, at the end
pub record IsLine (text : List ℕ) : Type 0 where
  pub body : List ℕ
  pub no_feed : All NoFeed body
  pub ends : text ≡ body ++ line_feed ∷ []

plain_no_feed : (f : List ℕ) → All Plain f → All NoFeed f
plain_no_feed f h = all_both Plain Plain NoFeed (λ c p q. p.1) f h h

pub is_line : (f : List ℕ) (fs : List (List ℕ)) → All (All Plain) (f ∷ fs) → IsLine (line (f ∷ fs))
is_line f [] h = record { body = f; no_feed = plain_no_feed f h.0; ends = refl }
is_line f (g ∷ fs) h =
    let rest = is_line g fs h.1 in
    record {
      body = f ++ tab ∷ rest.body;
      no_feed = all_append NoFeed f (tab ∷ rest.body) (plain_no_feed f h.0) ((λ e. omega arith), rest.no_feed);
      ends = ap (λ x. f ++ tab ∷ x) rest.ends ∙ sym (append_assoc f (tab ∷ rest.body) (line_feed ∷ []));
    }

firsts : (k : ℕ) (b v : List ℕ) → All NoFeed b → first_lines (suc k) (b ++ line_feed ∷ v) ≡ b ++ line_feed ∷ first_lines k v
firsts k [] v h = refl
firsts k (c ∷ b) v h =
    ap (λ t. c ∷ cond t (first_lines k (b ++ line_feed ∷ v)) (first_lines (suc k) (b ++ line_feed ∷ v))) (ne_eqb c line_feed h.0)
    ∙ ap (c ∷◌) (firsts k b v h.1)

behind : (b v : List ℕ) → All NoFeed b → after_line (b ++ line_feed ∷ v) ≡ v
behind [] v h = refl
behind (c ∷ b) v h = ap (λ t. cond t (b ++ line_feed ∷ v) (after_line (b ++ line_feed ∷ v))) (ne_eqb c line_feed h.0) ∙ behind b v h.1

counted : (b v : List ℕ) → All NoFeed b → line_feeds (b ++ line_feed ∷ v) ≡ suc (line_feeds v)
counted [] v h = refl
counted (c ∷ b) v h =
    ap (λ t. cond t (suc (line_feeds (b ++ line_feed ∷ v))) (line_feeds (b ++ line_feed ∷ v))) (ne_eqb c line_feed h.0) ∙ counted b v h.1

module _ {x : List ℕ} (i : IsLine x) (v : List ℕ) where
  parted : x ++ v ≡ i.body ++ line_feed ∷ v
  parted = ap (◌++ v) i.ends ∙ append_snoc i.body line_feed v

  pub lines-first : (k : ℕ) → first_lines (suc k) (x ++ v) ≡ x ++ first_lines k v
  lines-first k =
      ap (first_lines (suc k)) parted
      ∙ firsts k i.body v i.no_feed
      ∙ sym (ap (◌++ first_lines k v) i.ends ∙ append_snoc i.body line_feed (first_lines k v))

  pub line_behind : after_line (x ++ v) ≡ v
  line_behind = ap after_line parted ∙ behind i.body v i.no_feed

  pub line_counted : line_feeds (x ++ v) ≡ suc (line_feeds v)
  line_counted = ap line_feeds parted ∙ counted i.body v i.no_feed
