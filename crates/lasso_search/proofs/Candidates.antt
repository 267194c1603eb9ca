-- The search from one candidate: how it begins, what is known once it is exhausted, and what its ending is. Assumes nothing.
use mathlib.Core.Path.{◌≡◌, refl, ap, sym, subst, subst₂, ◌∙◌}
use mathlib.Core.List.{List, ◌++◌}
use Prim.Native.Nat.{ℕ, ◌+◌, ◌*◌, ◌-◌, ◌≤◌, ◌<◌}
use native.Mathlib.Omega.{arith}
use lib.ListN.{length, take, drop}
use lib.Seq.{length-take-le, take_at, length_front}
use Rattle.std.specs.Prelude.{Some}
use Rattle.fdfa.specs.Family.{Fdfa, Complete}
use Rattle.search.specs.Queue.{state_at}
use Rattle.search.specs.Search.{Space, Search, Aim, joint, Ready, Ends}
use Rattle.search.proofs.Outcomes.{codes-few}
use Rattle.lasso_search.specs.declared.Candidate.{Candidate}
use Rattle.lasso_search.specs.Codes.{Tabulated, Room, Round, Chosen, Located}
use Rattle.lasso_search.proofs.Joined.{aim_at, begin}
use Rattle.lasso_search.proofs.Lassos.{first-accepted}
use Rattle.lasso_search.proofs.Rounds.{tail-is, tail-long, returned-front, returned-long, returned-tail, round-in, round-next, exhausted, located}

-- room is a matter of lengths
pub room_as : {P : Fdfa} {n r r' m m' w w' : ℕ} → Room P n r m w → r' ≡ r → m' ≡ m → w' ≡ w → Room P n r' m' w'
room_as R re me we = record {
  all = R.all;
  leads = omega (arith, R.leads, me);
  rows_fit = λ q h. omega (arith, R.rows_fit q h, re);
  status_fit = λ q h. omega (arith, R.status_fit q h, me);
  cells_fit = λ q h. omega (arith, R.cells_fit q h, we);
}

-- the search stands at the candidate c
pub record Standing (P : Fdfa) (n s reached : ℕ) (leads rows status work : List ℕ) (c : Candidate) : Type 0 where
  pub complete : Complete P
  pub letters : s ≡ P.letters
  pub table : Tabulated leads n s P.step
  pub room : Room P n (length rows) (length status) (length work - (n - 1))
  pub chosen : Chosen P n reached 0 rows status (take (n - 1) work) c

module _ {P : Fdfa} {n s reached : ℕ} {leads rows status work : List ℕ} {c : Candidate} (F : Standing P n s reached leads rows status work c) where
  some : 0 < n
  some = omega (arith, F.complete.start, F.room.all)

  pub front-in : n - 1 ≤ length work
  front-in = omega (arith, F.room.cells_fit 0 some)

  abbrev pub aim : ℕ → Aim
  aim j = aim_at j c.state c.count (P.accepting c.state)

  q-in : c.state < P.states
  q-in = round-in F.chosen.round F.chosen.here F.chosen.state

  pos : 0 < c.count
  pos = F.chosen.prepared.some

  all-is : c.count * n ≡ P.size c.state * n
  all-is = ap (λ (k : ℕ). k * n) F.chosen.prepared.is

  q-below : c.state < n
  q-below = omega (arith, q-in, F.room.all)

  pub all_room : c.count * n ≤ length status
  all_room = omega (arith, all-is, F.room.status_fit c.state q-below)

  leads-are : Tabulated leads P.states P.letters P.step
  leads-are = subst₂ (λ (j t : ℕ). Tabulated leads j t P.step) F.room.all F.letters F.table

  rows_are : Tabulated rows c.count P.letters (P.progress c.state)
  rows_are = F.chosen.prepared.tabled

  begins : Ready leads rows n s c.state (take (c.count * n) status) (take (length work - (n - 1)) (drop (n - 1) work)) 1 0 (aim n)
  begins =
      begin F.table (subst (λ (t : ℕ). Tabulated rows c.count t (P.progress c.state)) (sym F.letters) rows_are) some q-below pos (P.accepting c.state) F.chosen.prepared.fresh
      (omega (arith, tail-long (n - 1) work front-in, all-is, F.room.cells_fit c.state q-below))

  -- no period from the candidate is accepted
  exhausts : {status' cells : List ℕ} {total head : ℕ} → Ready leads rows n s c.state status' cells total head (aim n) → total ≤ head → Round P (take (n - 1) work) reached (c.code + 1)
  exhausts {status'} {cells} {total} {head} A done =
      round-next F.chosen.round F.chosen.here F.chosen.state
      (exhausted P leads-are rows_are q-in pos (subst₂ (λ (j t : ℕ). Ready leads rows j t c.state status' cells total head (aim j)) F.room.all F.letters A) done)

  -- an ending is the first lasso
  finds : {work' : List ℕ} {code : ℕ} → take (n - 1) work' ≡ take (n - 1) work → n - 1 ≤ length work' → Ends (joint leads rows n s c.state (aim n)) (drop (n - 1) work') code → Located P work' (record { reached = reached; lasso = Some (record { prefix = c.code; period = code }) })
  finds {work'} {code} kept fits E = (
    F.chosen.round.leads.counted,
    first-accepted P F.complete (located P leads-are rows_are q-in pos (subst (λ (l : List ℕ). Round P l reached c.code) same F.chosen.round) F.chosen.here
        (F.chosen.state ∙ ap (λ (l : List ℕ). state_at 0 l c.code) same) (omega (arith, fits, F.room.all))
        (subst₂ (λ (j t : ℕ). Ends (joint leads rows j t c.state (aim j)) (drop (j - 1) work') code) F.room.all F.letters E)),
  )
    where
      same : take (n - 1) work ≡ take (P.states - 1) work'
      same = sym kept ∙ ap (λ (j : ℕ). take (j - 1) work') F.room.all

-- the search from c, the codes below h expanded; before it status and cells were as `status₀` and `work₀`
pub record Turns (P : Fdfa) (n s : ℕ) (leads rows status₀ work₀ status work : List ℕ) (c : Candidate) (total h : ℕ) : Type 0 where
  pub status_same : length status ≡ length status₀
  pub work_same : length work ≡ length work₀
  pub kept : take (n - 1) work ≡ take (n - 1) work₀
  pub ready : Ready leads rows n s c.state (take (c.count * n) status) (take (length work - (n - 1)) (drop (n - 1) work)) total h (aim_at n c.state c.count (P.accepting c.state))

module _ {P : Fdfa} {n s reached : ℕ} {leads rows status₀ work₀ : List ℕ} {c : Candidate} (F : Standing P n s reached leads rows status₀ work₀ c) where
  pub turns-none : Turns P n s leads rows status₀ work₀ status₀ work₀ c 1 0
  turns-none = record { status_same = refl; work_same = refl; kept = refl; ready = begins F }

  abbrev J : Space
  J = joint leads rows n s c.state (aim F n)

  module _ {status work : List ℕ} {total h : ℕ} (T : Turns P n s leads rows status₀ work₀ status work c total h) where
    pub status-in : c.count * n ≤ length status
    status-in = omega (arith, all_room F, T.status_same)

    pub work_in : n - 1 ≤ length work
    work_in = omega (arith, T.work_same, front-in F)

    pub codes-in : total ≤ length work₀ - (n - 1)
    codes-in = let S = T.ready.search in omega (arith, codes-few S, S.room, tail-long (n - 1) work work_in, T.work_same)

    pub turns-done : total ≤ h → Round P (take (n - 1) work) reached (c.code + 1)
    turns-done done = subst (λ (l : List ℕ). Round P l reached (c.code + 1)) (sym T.kept) (exhausts F T.ready done)

    -- what expanding a code leaves, as the two parts come back
    module _ (ms zs : List ℕ) (me : length ms ≡ length (take (c.count * n) status)) (ze : length zs ≡ length (take (length work - (n - 1)) (drop (n - 1) work))) where
      abbrev status₂ : List ℕ
      status₂ = ms ++ drop (c.count * n) status

      abbrev work₂ : List ℕ
      work₂ = take (n - 1) work ++ (zs ++ drop (length work - (n - 1)) (drop (n - 1) work))

      work₂-long : length work₂ ≡ length work
      work₂-long = returned-long (n - 1) work work_in zs ze

      pub status₂-same : length status₂ ≡ length status₀
      status₂-same = length_front status ms (c.count * n) me ∙ T.status_same

      pub work₂-same : length work₂ ≡ length work₀
      work₂-same = work₂-long ∙ T.work_same

      kept₂ : take (n - 1) work₂ ≡ take (n - 1) work₀
      kept₂ = returned-front (n - 1) work work_in zs ∙ T.kept

      cells-back : take (length work₂ - (n - 1)) (drop (n - 1) work₂) ≡ zs
      cells-back = ap (λ (j : ℕ). take (j - (n - 1)) (drop (n - 1) work₂)) work₂-long ∙ returned-tail (n - 1) work work_in zs ze

      pub turns-on : {total' : ℕ} → Search J ms zs total' (h + 1) 0 → Turns P n s leads rows status₀ work₀ status₂ work₂ c total' (h + 1)
      turns-on {total'} found = record {
        status_same = status₂-same;
        work_same = work₂-same;
        kept = kept₂;
        ready = subst₂ (λ (y z : List ℕ). Ready leads rows n s c.state y z total' (h + 1) (aim F n)) (sym (take_at ms _ (c.count * n) (me ∙ length-take-le (c.count * n) status status-in))) (sym cells-back)
            (record { tables = T.ready.tables; bounded = T.ready.bounded; leading = T.ready.leading; search = found });
      }

      pub turns-end : {code : ℕ} → Ends J zs code → Located P work₂ (record { reached = reached; lasso = Some (record { prefix = c.code; period = code }) })
      turns-end {code} E =
          let fits : n - 1 ≤ length work₂ = omega (arith, work_in, work₂-long) in
          finds F kept₂ fits (subst (λ (w : List ℕ). Ends J w code) (sym cells-back ∙ tail-is (n - 1) work₂ fits) E)
