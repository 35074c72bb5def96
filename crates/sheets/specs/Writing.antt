-- How the code writes: a text at a place, and all around it as it was.
-- Assumes nothing.
use Rattle.std.specs.Prelude.{◌≡◌, List, ◌++◌, ℕ, ◌+◌, ◌≤◌, length, take, drop}
use Rattle.sheets.specs.declared.put.Page.{Page}

pub record Puts (text : List ℕ) (at : ℕ) (out : List ℕ) (next : ℕ) (left : List ℕ) : Type 0 where
  pub ends : next ≡ at + length text
  pub leaves : left ≡ take at out ++ text ++ drop (at + length text) out

-- a page has room for a text behind what is written
abbrev pub HasRoom : List ℕ → Page → Type 0
HasRoom text page = page.end + length text ≤ length page.out.now

-- a text is put there, and the output is still the one that was lent
pub record Adds (text : List ℕ) (before after : Page) : Type 0 where
  pub same : after.out.ghost_name ≡ before.out.ghost_name
  pub puts : Puts text before.end before.out.now after.end after.out.now
