use Rattle.sheets.proofs.put.Page.+decimal.Given as goal

-- the number itself becomes less
abbrev pub decreases-decimal : goal.decreases-decimal
decreases-decimal l = l.n
