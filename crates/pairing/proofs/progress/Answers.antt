-- `pairing::progress` meets its contract. Assumes nothing.
use Rattle.pairing.proofs.progress.Goals as goal

pub returns : goal.returns
returns c =
    let f = c.progress_at.ensures in
    let g = c.progress_at-2.ensures in
    let s = c.letters.ensures in
    let l = c.size.ensures in λ i. record { first = f i; second = g i; letters = s i; width = l i }
