-- `first_repeated` meets its contract: what stands at the second place is sought from the front, and is there.
use mathlib.Core.Path.{◌≡◌, refl, sym, ap, ◌∙◌}
use Prim.Native.Nat.{ℕ, ◌+◌, ◌<◌}
use native.Mathlib.Omega.{arith}
use lib.ListN.{get_or}
use Rattle.std.specs.Prelude.{Option, None, Some}
use Rattle.rows.specs.declared.Rows.{Rows}
use Rattle.rows.specs.Search.{IsFound, place_of}
use Rattle.rows.specs.Identifiers.{row_ids}
use Rattle.rows.proofs.Storage.{as_many}
use Rattle.rows.proofs.Search.{place_most}
use Rattle.rows.proofs.Repeats.{first_is}
use Rattle.rows.proofs.Rows.first_repeated.Goals as goal

-- a place that is there is found, and no other
there : (o : Option ℕ) (place n : ℕ) → IsFound o place n → place < n → o ≡ Some place
there None place n h k = absurd (omega arith)
there (Some i) place n h k = ap Some h.0

seen : (r : Rows) (j x : ℕ) → j < r.count → x ≡ get_or (row_ids r) j 0 → 0 + place_of x (row_ids r) < r.count
seen r j x h e =
    let same : place_of x (row_ids r) ≡ place_of (get_or (row_ids r) j 0) (row_ids r) = ap (λ x. place_of x (row_ids r)) e in
    omega (arith, same, place_most (row_ids r) j (omega (arith, as_many r)))

pub unwrap-requires : goal.unwrap-requires
unwrap-requires c =
    let r = c.args.self.now in
    rw (there c.find.result _ r.count c.find.ensures (seen r c.args.j c.identifier.result c.requires.0 c.identifier.ensures)) refl

pub returns : goal.returns
returns c =
    let r = c.args.self.now in
    let ids = row_ids r in
    let e = sym c.unwrap.ensures ∙ there c.find.result _ r.count c.find.ensures (seen r c.args.j c.identifier.result c.requires.0 c.identifier.ensures) in
    let n : c.unwrap.result ≡ 0 + place_of c.identifier.result ids = cc e in
    n
    ∙ (let z : 0 + place_of c.identifier.result ids ≡ place_of c.identifier.result ids = omega arith in z)
    ∙ ap (λ x. place_of x ids) c.identifier.ensures
    ∙ ap (λ n. place_of (get_or ids n 0) ids) c.requires.1
    ∙ sym (first_is ids (omega (arith, as_many r)))
