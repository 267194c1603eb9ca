-- `pairing::leads` meets its contract. Assumes nothing.
use Prim.Native.Nat.{◌+◌}
use Rattle.pairing.proofs.leads.Goals as goal

pub returns : goal.returns
returns c =
    let n = c.states-n.ensures in
    let m = c.states-m.ensures in
    let s = c.letters.ensures in λ i. record { first = 2 + n i; second = 2 + m i; letters = s i; width = m i }
