-- The outcomes of the entries fit their words, and the words tell them apart.
-- Assumes nothing.
use mathlib.Core.Path.{◌≡◌, refl, sym, ap, ap₂, ◌∙◌, subst}
use mathlib.Core.Bool.{Bool, true, false, not}
use mathlib.Core.List.{List, [], ◌∷◌}
use Prim.Native.Nat.{ℕ, zero, suc, ◌+◌, ◌*◌, ◌/◌, ◌^◌, ◌<◌, ◌≤◌}
use native.Mathlib.Nat.{mul-le-mul_right}
use native.Mathlib.Omega.{arith}
use lib.Dec.{eqb, ltb, lit<}
use lib.ListN.{length, get_or, replicate, length-map}
use borrow.Author.Tests.{ltb-true, ltb-false}
use Rattle.answer.specs.Outcome.{Outcome, done, refused, refuse, word_of}
use Rattle.shamir.specs.Lists.{Below}
use Rattle.rows.specs.Search.{sum, all_are, first_zero, first_repeated, within}
use Rattle.rows.specs.Storage.{cut, identifiers}
use Rattle.rows.specs.Lengths.{lengths_of}
use Rattle.rows.proofs.Lengths.{length-lengths}
use Rattle.rows.proofs.Repeats.{repeating_within}
use Rattle.rows.proofs.Storage.{length_cut}
use Rattle.row_set.specs.Limits.{max_secret, max_shares, max_rows}
use Rattle.row_set.specs.RowSet.{first_length, secret_length, judged, unreadable}
use Rattle.row_set.proofs.Chains.{Chain, passed}
use Rattle.row_set.proofs.RowSet.{byte_lengths_chain, accepted-bytes}
use Rattle.row_set.proofs.RowSet as row-set
use Rattle.sharing.specs.Split.{in_turn, coefficient_count, split_room, split_outcome}
use Rattle.sharing.specs.Combine.{combine_outcome}
use Rattle.sharing.specs.ByteLengths.{byte_lengths_answer}
use Rattle.sheets.specs.Sheet.{sheet, sheet_text, sheet_answer}
use Rattle.sheets.proofs.PutRows.{sheet-short}
use Rattle.reading.specs.Answer.{read_answer}
use Rattle.reading.proofs.Bounds.{Bounded, bounded}
use Rattle.vsss.specs.Words.{Fits, Readable, Determined}

small : (o : Outcome) → Fits o → word_of o < 2 ^ 64
small (done count) f = omega arith
small (refused number first second) f = omega arith

told : (o p : Outcome) → Fits o → Fits p → word_of o ≡ word_of p → o ≡ p
told (done c) (done d) f g e = ap done e
told (done c) (refused n i j) f g e = absurd (omega arith)
told (refused n i j) (done c) f g e = absurd (omega arith)
told (refused n i j) (refused m k l) f g e =
    let en : n ≡ m = omega arith in
    let ei : i ≡ k = omega arith in
    let ej : j ≡ l = omega arith in
    cc

-- a chain fits where its refusals do, and what is left does where it was not refused
fits_chain : (b : Bool) (o later : Outcome) → (b ≡ true → Fits o) → (b ≡ false → Fits later) → Fits (refuse b o later)
fits_chain true o later yes-fits later-fits = yes-fits refl
fits_chain false o later yes-fits later-fits = later-fits refl

-- a refusal by number alone
plain : (number : ℕ) → 0 < number → number < 2 ^ 24 → Fits (refused number 0 0)
plain number some most = ((some, most), (lit< tt, lit< tt))

fits_in_turn : (i n : ℕ) (ids : List ℕ) (later : Outcome) → i + n ≤ max_shares → Fits later → Fits (in_turn i n ids later)
fits_in_turn i zero ids later h f = f
fits_in_turn i (suc n) [] later h f = plain 5 (lit< tt) (lit< tt)
fits_in_turn i (suc n) (x ∷ ids) later h f =
    fits_chain (eqb x 0) (refused 6 i 0) (in_turn (suc i) n ids later) (λ e. ((lit< tt, lit< tt), (omega arith, lit< tt)))
    (λ e. fits_in_turn (suc i) n ids later (omega arith) f)

room_small : (n l : ℕ) → n ≤ max_shares → l ≤ max_secret → split_room n l < 2 ^ 40
room_small n l hn hl =
    let a : n * (l + 1) ≤ max_shares * (l + 1) = mul-le-mul_right (l + 1) hn in
    omega arith

fits-split : (t n l : ℕ) (ids : List ℕ) (count room : ℕ) → Fits (split_outcome t n l ids count room)
unfolding split_outcome
fits-split t n l ids count room =
    fits_chain (ltb max_shares n) _ _ (λ e. plain 1 (lit< tt) (lit< tt)) (λ few.
    fits_chain (eqb l 0) _ _ (λ e. plain 2 (lit< tt) (lit< tt)) (λ e.
    fits_chain (ltb n t) _ _ (λ e. plain 3 (lit< tt) (lit< tt)) (λ e.
    fits_chain (ltb t 2) _ _ (λ e. plain 4 (lit< tt) (lit< tt)) (λ e.
    fits_in_turn 0 n ids _ (omega (arith, ltb-false max_shares n few))
    (fits_chain (ltb max_secret l) _ _ (λ e. plain 10 (lit< tt) (lit< tt)) (λ short.
    fits_chain (not (eqb count (coefficient_count t l))) _ _ (λ e. plain 11 (lit< tt) (lit< tt)) (λ e.
    fits_chain (ltb room (split_room n l)) _ _ (λ e. plain 12 (lit< tt) (lit< tt)) (λ e.
    room_small n l (ltb-false max_shares n few) (ltb-false max_secret l short)))))))))

-- what the checks of rows refuse fits, and so does all where what comes later does for rows that are short enough
fits-judged : (enough stored : ℕ) (lengths ids : List ℕ) (later : Outcome) → length ids ≤ max_rows → (secret_length lengths ≤ max_secret → Fits later)
    → Fits (judged enough stored lengths ids later)
unfolding judged
fits-judged enough stored lengths ids later few later-fits =
    fits_chain (not (eqb (sum lengths) stored)) _ _ (λ e. plain 13 (lit< tt) (lit< tt)) (λ e.
    fits_chain (ltb (length lengths) enough) _ _ (λ e. plain 4 (lit< tt) (lit< tt)) (λ e.
    fits_chain (ltb (first_length lengths) 2) _ _ (λ e. plain 8 (lit< tt) (lit< tt)) (λ e.
    fits_chain (not (all_are (first_length lengths) lengths)) _ _ (λ e. plain 8 (lit< tt) (lit< tt)) (λ e.
    fits_chain (within (first_zero ids) ids) _ _
    (λ e. ((lit< tt, lit< tt), (omega (arith, ltb-true (first_zero ids) (length ids) e), lit< tt))) (λ e.
    fits_chain (within (first_repeated ids) ids) _ _
    (λ e. let h = ltb-true (first_repeated ids) (length ids) e in ((lit< tt, lit< tt), (omega arith, omega (arith, repeating_within ids h)))) (λ e.
    fits_chain (ltb max_secret (secret_length lengths)) _ _ (λ e. plain 10 (lit< tt) (lit< tt)) (λ short.
    later-fits (ltb-false max_secret (secret_length lengths) short))))))))

fits-combine : (stored : ℕ) (lengths ids : List ℕ) (room : ℕ) → length ids ≤ max_rows → Fits (combine_outcome stored lengths ids room)
unfolding combine_outcome
fits-combine stored lengths ids room few =
    fits-judged 2 stored lengths ids _ few (λ short.
    fits_chain (ltb room (secret_length lengths)) _ _ (λ e. plain 12 (lit< tt) (lit< tt)) (λ e. omega arith))

-- as many identifiers as lengths, so not too many where the lengths can be read
few_ids : (s lengths : List ℕ) → unreadable lengths ≡ false → length (identifiers (cut (lengths_of lengths) s)) ≤ max_rows
few_ids s lengths e =
    let ns = lengths_of lengths in
    let count : length (identifiers (cut ns s)) ≡ length lengths / 4 = length-map (cut ns s) (λ r. get_or r 0 0) ∙ length_cut ns s ∙ length-lengths lengths in
    omega (arith, count, (row-set.readable lengths e).1)

fits-bytes : (s lengths : List ℕ) (room : ℕ) → Fits (byte_lengths_answer s lengths room)
unfolding byte_lengths_answer
fits-bytes s lengths room =
    fits_chain (unreadable lengths) _ _ (λ e. plain 13 (lit< tt) (lit< tt)) (λ e.
    fits-combine (length s) (lengths_of lengths) (identifiers (cut (lengths_of lengths) s)) room (few_ids s lengths e))

-- a chain fits where its refusals do, and what comes later does where it is reached
fits_later : {f : Outcome → Outcome} → Chain f → (l : ℕ) (later : Outcome) → Fits (f (done l)) → ((n : ℕ) → f (done l) ≡ done n → Fits later) → Fits (f later)
fits_later {f} c l later refusals later-fits = pick (f (done l)) refl refusals
  where
    pick : (o : Outcome) → f (done l) ≡ o → Fits o → Fits (f later)
    pick (done n) e fits = subst Fits (sym (c.goes_on l n later e).1) (later-fits n e)
    pick (refused n i j) e fits = subst Fits (sym (c.stops l n i j later e)) fits

fits-sheet : (t : ℕ) (s lengths : List ℕ) (room : ℕ) → Below 256 s → Fits (sheet_answer t s lengths room)
unfolding sheet_answer
fits-sheet t s lengths room bytes =
    let ns = lengths_of lengths in
    let l = secret_length ns in
    fits_later (byte_lengths_chain 1 s lengths) l _
    (fits_chain (unreadable lengths) _ _ (λ e. plain 13 (lit< tt) (lit< tt)) (λ e.
    fits-judged 1 (length s) ns (identifiers (cut ns s)) (done l) (few_ids s lengths e) (λ short. omega arith)))
    (λ n e.
    let k = accepted-bytes 1 s lengths n e in
    let few = (row-set.readable lengths (passed (unreadable lengths) 13 0 0 _ n e).0).1 in
    let text : sheet t n (cut (replicate (length lengths / 4) (n + 1)) s) ≡ sheet_text t s lengths =
    ap₂ (λ v r. sheet t v (cut r s)) (sym k.value-count) (sym k.lengths_are) in
    fits_chain (ltb t 2) _ _ (λ e. plain 4 (lit< tt) (lit< tt)) (λ e.
    fits_chain (ltb max_shares t) _ _ (λ e. plain 1 (lit< tt) (lit< tt)) (λ high.
    fits_chain (ltb room (length (sheet_text t s lengths))) _ _ (λ e. plain 12 (lit< tt) (lit< tt)) (λ e.
    subst (λ x. length x < 2 ^ 40) text
    (sheet-short t n (length lengths / 4) s (ltb-false max_shares t high) few k.most (omega (arith, k.filled)) bytes)))))

fits_bounded : (o : Outcome) → Bounded o → Fits o
fits_bounded (done count) h = omega arith
fits_bounded (refused number first second) h = omega arith

fits_read : (text : List ℕ) (headRoom room : ℕ) → Fits (read_answer text headRoom room)
fits_read text headRoom room = fits_bounded (read_answer text headRoom room) (bounded text headRoom room)

pub readable : Readable
readable = record { small = small; told = told; split = fits-split; combine = fits-bytes; sheet = fits-sheet; read = fits_read }

-- the words of the entries, as their code asks for them
pub split_word : (t n l : ℕ) (ids : List ℕ) (count room : ℕ) → word_of (split_outcome t n l ids count room) < 2 ^ 64
split_word t n l ids count room = small (split_outcome t n l ids count room) (fits-split t n l ids count room)

pub combine_word : (s lengths : List ℕ) (room : ℕ) → word_of (byte_lengths_answer s lengths room) < 2 ^ 64
combine_word s lengths room = small (byte_lengths_answer s lengths room) (fits-bytes s lengths room)

pub sheet_word : (t : ℕ) (s lengths : List ℕ) (room : ℕ) → ((i : ℕ) → get_or s i 0 < 256) → word_of (sheet_answer t s lengths room) < 2 ^ 64
sheet_word t s lengths room bytes = small (sheet_answer t s lengths room) (fits-sheet t s lengths room (all s bytes))
  where
    all : (xs : List ℕ) → ((i : ℕ) → get_or xs i 0 < 256) → Below 256 xs
    all [] h = tt
    all (x ∷ xs) h = (h 0, all xs (λ i. h (suc i)))

pub read_word : (text : List ℕ) (headRoom room : ℕ) → word_of (read_answer text headRoom room) < 2 ^ 64
read_word text headRoom room = small (read_answer text headRoom room) (fits_read text headRoom room)

pub determined : Determined
determined outcome bytes left right w v p q = (p.answers ∙ sym q.answers, p.leaves ∙ sym q.leaves)
