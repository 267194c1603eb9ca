-- `standing::stand` meets its contract: the leading tables along the prefix, then the progress tables of the states reached along the
-- period. Assumes nothing.
use mathlib.Core.Path.{◌≡◌, ap, ◌∙◌}
use mathlib.Core.List.{List}
use Prim.Native.Nat.{ℕ, ◌<◌}
use native.Mathlib.Omega.{arith}
use Rattle.fdfa.specs.Words.{Over}
use Rattle.fdfa.specs.Family.{walk}
use Rattle.fdfa.proofs.Words.{walk-closed}
use Rattle.packed.specs.Layout.{letter_count, state_count, leading_at, progress_at_value, table_step, decode}
use Rattle.pairing.specs.declared.Beside.{Beside}
use Rattle.pairing.specs.Pairs.{Alike, leads_of, progress_of}
use Rattle.standing.specs.declared.Pair.{Pair}
use Rattle.standing.specs.Walks.{walked_of}
use Rattle.standing.proofs.Tables.{leads-walkable, progress-both}
use Rattle.standing.proofs.stand.Goals as goal

-- the second sheet's tables, by its own letters
module _ {b c : List ℕ} (A : Alike b c) (u v : List ℕ) where
  abbrev waits : Pair
  waits = record { first = walk (decode b).step 0 u; second = walk (decode c).step 0 u }

  after-prefix : {t : Beside} → t ≡ leads_of b c → walked_of b c t u ≡ waits
  after-prefix e =
      ap (λ (t : Beside). walked_of b c t u) e
      ∙ (λ i. record { first = walk (decode b).step 0 u; second = walk (table_step c (leading_at c) (A.letters i)) 0 u })

  after-period : {t : Beside} {w : Pair} → t ≡ progress_of b c w.first w.second → w ≡ waits
      → walked_of b c t v ≡ record { first = walk ((decode b).progress waits.first) 0 v; second = walk ((decode c).progress waits.second) 0 v }
  after-period e d =
      ap (λ (t : Beside). walked_of b c t v) e
      ∙ (λ i. record { first = walk ((decode b).progress (d i).first) 0 v; second = walk (table_step c (progress_at_value c (d i).second) (A.letters i)) 0 v })

  -- the states after the prefix
  below : {w : Pair} → Over (letter_count b) u → w ≡ waits → (w.first < state_count b) × (w.second < state_count c)
  below o e = (
    omega (arith, ap (λ (p : Pair). p.first) e, walk-closed A.first.leads A.first.header.some_states o),
    omega (arith, ap (λ (p : Pair). p.second) e, walk-closed A.second.leads A.second.header.some_states (rw A.letters at o)),
  )

pub walk-waits-requires : goal.walk-waits-requires
walk-waits-requires c = leads-walkable c.requires.0 c.requires.1.prefix c.leads.ensures

pub progress-tables-requires : goal.progress-tables-requires
progress-tables-requires c =
    let A = c.requires.0 in
    let u = c.args.prefix.now in
    let o = c.requires.1.prefix in
    let w = below A u c.args.period.now o (c.walk-waits.ensures ∙ after-prefix A u c.args.period.now c.leads.ensures) in
    (A, omega (arith, w.0), omega (arith, w.1))

pub walk-ends-requires : goal.walk-ends-requires
walk-ends-requires c =
    let A = c.requires.0 in
    let u = c.args.prefix.now in
    let o = c.requires.1.prefix in
    let w = below A u c.args.period.now o (c.walk-waits.ensures ∙ after-prefix A u c.args.period.now c.leads.ensures) in
    progress-both A c.requires.1.period c.progress-tables.ensures (omega (arith, w.0)) (omega (arith, w.1))

pub returns : goal.returns
returns c =
    let A = c.requires.0 in
    let u = c.args.prefix.now in
    let v = c.args.period.now in
    let led = c.walk-waits.ensures ∙ after-prefix A u v c.leads.ensures in
    let e = c.walk-ends.ensures ∙ after-period A u v c.progress-tables.ensures led in
    λ i. record { first = record { waits = (led i).first; ends = (e i).first }; second = record { waits = (led i).second; ends = (e i).second } }
