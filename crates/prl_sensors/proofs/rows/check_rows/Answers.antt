use Rattle.prl_base.proofs.Standard.{◌≡◌, ◌<◌, ◌≤◌, ℕ, ◌+◌, List, [], length, map, drop, get_or, vec_items, Vec, Global, refl, subst, ◌∙◌, arith, add-one, drop-cons, le-ltb}
use Rattle.prl_base.specs.declared.values.Value.{Value}
use Rattle.prl_sensors.specs.SensorRows.{short_of}
use Rattle.prl_sensors.proofs.rows.check_rows.Goals as goal

-- an input with rows enough is passed over
step : (names : List (List ℕ)) (needs : List ℕ) (rows : List (Vec Value Global)) (k : ℕ) (row : Vec Value Global)
    → k < length names → length needs ≡ length names → length rows ≡ length names → row ≡ get_or rows k row
    → get_or needs k 0 ≤ length row.items
    → short_of (drop k names) (drop k needs) (map vec_items (drop k rows))
    ≡ short_of (drop (k + 1) names) (drop (k + 1) needs) (map vec_items (drop (k + 1) rows))
step names needs rows k row a b d at enough =
    let na : k < length needs = omega arith in
    let ra : k < length rows = omega arith in
    rw (add-one k, drop-cons names k [] a, drop-cons needs k 0 na, drop-cons rows k row ra, ← at, le-ltb _ _ enough) refl

pub loop-k-preserved : goal.loop-k-preserved
loop-k-preserved c =
    let row = c.index-rows-k.result in
    let needed = get_or c.args.needs.now c.loop-k.k 0 in
    c.loop-k.invariant
    ∙ step c.args.names.now c.args.needs.now c.args.rows.now c.loop-k.k row c.loop-k-test.true c.requires.needs c.requires.rows c.index-rows-k.is
    (subst (λ n. needed ≤ n) (c.len-have.ensures ∙ row.ok.0) c.if-have-need.false)
