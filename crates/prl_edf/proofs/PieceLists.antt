-- Lists of pieces, and the runs that they are.
use Rattle.prl_base.proofs.Standard.{◌≡◌, ◌<◌, ◌≤◌, ◌⊎◌, ◌++◌, ℕ, List, [], ◌∷◌, Option, Some, None, Bool, true, false, cond, inl, inr, refl, sym, ap, subst, ◌∙◌, arith, cases_lt, nat_tests}
use Rattle.prl_edf.specs.Vocabulary.{Piece, lies_in, run_of, AreLongest, IsExtended, EndBy}

pub lies : (p : Piece) (t : ℕ) → p.from ≤ t → t < p.to → lies_in p t ≡ true
lies p t from to = grind (arith, nat_tests)

pub lies_not : (p : Piece) (t : ℕ) → (t < p.from) ⊎ (p.to ≤ t) → lies_in p t ≡ false
lies_not p t out = grind (arith, nat_tests)

-- from where all pieces have ended on, the ticks go to none
pub none_after : (ps : List Piece) (t : ℕ) → EndBy ps t → run_of ps t ≡ None
none_after [] t h = refl
none_after (p ∷ ps) t h = rw (lies_not p t (inr h.0)) (none_after ps t h.1)

pub end_later : (ps : List Piece) (s t : ℕ) → s ≤ t → EndBy ps s → EndBy ps t
end_later [] s t le h = tt
end_later (p ∷ ps) s t le h = ((let e = h.0 in omega (arith, e, le)), end_later ps s t le h.1)

end_snoc : (ps : List Piece) (p : Piece) (t : ℕ) → EndBy ps t → p.to ≤ t → EndBy (ps ++ (p ∷ [])) t
end_snoc [] p t h last = (last, tt)
end_snoc (q ∷ ps) p t h last = (h.0, end_snoc ps p t h.1 last)

end_front : (ps : List Piece) (p : Piece) (t : ℕ) → EndBy (ps ++ (p ∷ [])) t → EndBy ps t × (p.to ≤ t)
end_front [] p t h = (tt, h.0)
end_front (q ∷ ps) p t h = (let rest = end_front ps p t h.1 in ((h.0, rest.0), rest.1))

-- one more piece
run_snoc : (ps : List Piece) (p : Piece) (t : ℕ) → (run_of ps t ≡ None → run_of (ps ++ (p ∷ [])) t ≡ cond (lies_in p t) (Some (p.task.0, p.job)) None)
run_snoc [] p t none = refl
run_snoc (q ∷ ps) p t none = go (lies_in q t) none (run_snoc ps p t)
  where
    go : (b : Bool) → cond b (Some (q.task.0, q.job)) (run_of ps t) ≡ None → (run_of ps t ≡ None → run_of (ps ++ (p ∷ [])) t ≡ cond (lies_in p t) (Some (p.task.0, p.job)) None) →
        cond b (Some (q.task.0, q.job)) (run_of (ps ++ (p ∷ [])) t) ≡ cond (lies_in p t) (Some (p.task.0, p.job)) None
    go true e rest = absurd (let f : ◌≡◌ {A = Option (ℕ × ℕ)} (Some (q.task.0, q.job)) None = e in cc)
    go false e rest = rest e

run_front : (ps : List Piece) (p : Piece) (t : ℕ) → lies_in p t ≡ false → run_of (ps ++ (p ∷ [])) t ≡ run_of ps t
run_front [] p t out = rw out refl
run_front (q ∷ ps) p t out = ap (λ (o : Option (ℕ × ℕ)). cond (lies_in q t) (Some (q.task.0, q.job)) o) (run_front ps p t out)

-- the pieces of an ordered list end by the beginning of the last
ends_by_last : (ps : List Piece) (p : Piece) → AreLongest (ps ++ (p ∷ [])) → EndBy ps p.from
ends_by_last [] p h = tt
ends_by_last (q ∷ []) p h = ((let f = h.1 in elim f [ inl less ↦ omega (arith, less) | inr same ↦ (let e = same.0 in omega (arith, e)) ]), tt)
ends_by_last (q ∷ r ∷ ps) p h =
    let rest = ends_by_last (r ∷ ps) p h.2 in
    let long = h.2.0 in
    let most = rest.0 in
    ((elim h.1 [ inl less ↦ omega (arith, less, long, most) | inr same ↦ (let e = same.0 in omega (arith, e, long, most)) ]), rest)

-- a last piece after the others is one more, or takes the place of one that it lengthens
longest_snoc : (ps : List Piece) (p q : Piece) → AreLongest (ps ++ (p ∷ [])) → q.from < q.to →
    (p.to < q.from) ⊎ ((p.to ≡ q.from) × (p.task.0 ≡ q.task.0 → p.job ≡ q.job → ⊥)) → AreLongest ((ps ++ (p ∷ [])) ++ (q ∷ []))
longest_snoc [] p q h some after = (h.0, after, (some, tt, tt))
longest_snoc (r ∷ []) p q h some after = (h.0, h.1, longest_snoc [] p q h.2 some after)
longest_snoc (r ∷ s ∷ ps) p q h some after = (h.0, h.1, longest_snoc (s ∷ ps) p q h.2 some after)

longest_grown : (ps : List Piece) (p : Piece) (to : ℕ) → p.to ≤ to → AreLongest (ps ++ (p ∷ [])) → AreLongest (ps ++ (record p { to = to } ∷ []))
longest_grown [] p to more h = ((let l = h.0 in omega (arith, l, more)), tt, tt)
longest_grown (r ∷ []) p to more h = (h.0, h.1, longest_grown [] p to more h.2)
longest_grown (r ∷ s ∷ ps) p to more h = (h.0, h.1, longest_grown (s ∷ ps) p to more h.2)

last_some : (ps : List Piece) (p : Piece) → AreLongest (ps ++ (p ∷ [])) → p.from < p.to
last_some [] p h = h.0
last_some (q ∷ ps) p h = last_some ps p h.2

-- the run with one more piece
pub one_more : (ps : List Piece) (p : Piece) → p.from < p.to → EndBy ps p.from → IsExtended (run_of ps) (run_of (ps ++ (p ∷ []))) p
one_more ps p some ended = record {
  before = λ t early. run_front ps p t (lies_not p t (inl early));
  here = λ t from to. run_snoc ps p t (none_after ps t (end_later ps p.from t from ended)) ∙ ap (λ b. cond b (Some (p.task.0, p.job)) None) (lies p t from to);
  after = λ t late. run_front ps p t (lies_not p t (inr late)) ∙ none_after ps t (end_later ps p.from t (omega (arith, some, late)) ended);
}

-- the run with a longer last piece
longer : (ps : List Piece) (p q : Piece) → AreLongest (ps ++ (p ∷ [])) → q.from < q.to → (p.to ≡ q.from) × (p.task.0 ≡ q.task.0) × (p.job ≡ q.job) →
    IsExtended (run_of (ps ++ (p ∷ []))) (run_of (ps ++ (record p { to = q.to } ∷ []))) q
longer ps p q h some same =
    let grown : Piece = record p { to = q.to } in
    let ended : EndBy ps p.from = ends_by_last ps p h in
    let meets : p.to ≡ q.from = same.0 in
    let was : p.from < p.to = last_some ps p h in
    record {
      before = λ t early. elim (cases_lt t p.from) [
        | inl less ↦ run_front ps grown t (lies_not grown t (inl less)) ∙ sym (run_front ps p t (lies_not p t (inl less)))
        | inr from ↦
            (let none = none_after ps t (end_later ps p.from t from ended) in
            run_snoc ps grown t none ∙ ap (λ b. cond b (Some (p.task.0, p.job)) None) (lies grown t from (omega (arith, early, some)))
            ∙ sym (run_snoc ps p t none ∙ ap (λ b. cond b (Some (p.task.0, p.job)) None) (lies p t from (omega (arith, early, meets)))))
      ];
      here = λ t from to.
          (let late : p.from ≤ t = omega (arith, from, meets, was) in
          run_snoc ps grown t (none_after ps t (end_later ps p.from t late ended)) ∙ ap (λ b. cond b (Some (p.task.0, p.job)) None) (lies grown t late to)
          ∙ ap (λ (i : ℕ). Some (i, p.job)) same.1 ∙ ap (λ (n : ℕ). Some (q.task.0, n)) same.2);
      after = λ t late. run_front ps grown t (lies_not grown t (inr late)) ∙ none_after ps t (end_later ps p.from t (omega (arith, late, some, meets, was)) ended);
    }

-- what `give` makes of the pieces: it lengthens the last one, or appends one
grown_longest : (ps : List Piece) (p q : Piece) → AreLongest (ps ++ (p ∷ [])) → q.from < q.to → p.to ≡ q.from → AreLongest (ps ++ (record p { to = q.to } ∷ []))
grown_longest ps p q h some meets = longest_grown ps p q.to (omega (arith, some, meets)) h

more_longest : (ps : List Piece) (p q : Piece) → AreLongest (ps ++ (p ∷ [])) → q.from < q.to → EndBy (ps ++ (p ∷ [])) q.from →
    (p.to ≡ q.from → p.task.0 ≡ q.task.0 → p.job ≡ q.job → ⊥) → AreLongest ((ps ++ (p ∷ [])) ++ (q ∷ []))
more_longest ps p q h some ended other =
    longest_snoc ps p q h some (elim (cases_lt p.to q.from) [
      | inl less ↦ inl less
      | inr past ↦ (let meets : p.to ≡ q.from = omega (arith, (end_front ps p q.from ended).1, past) in inr (meets, other meets))
    ])

grown_ends : (ps : List Piece) (p q : Piece) → q.from < q.to → EndBy (ps ++ (p ∷ [])) q.from → EndBy (ps ++ (record p { to = q.to } ∷ [])) q.to
grown_ends ps p q some ended = end_snoc ps (record p { to = q.to }) q.to (end_later ps q.from q.to (omega (arith, some)) (end_front ps p q.from ended).0) (omega arith)

more_ends : (ps : List Piece) (q : Piece) → q.from < q.to → EndBy ps q.from → EndBy (ps ++ (q ∷ [])) q.to
more_ends ps q some ended = end_snoc ps q q.to (end_later ps q.from q.to (omega (arith, some)) ended) (omega arith)

pub record IsGiven (old new : List Piece) (q : Piece) : Type 0 where
  pub run : IsExtended (run_of old) (run_of new) q
  pub longest : AreLongest new
  pub after : EndBy new q.to

module _ (old new front : List Piece) (p q : Piece) (was : old ≡ front ++ (p ∷ [])) (longest : AreLongest old) (ended : EndBy old q.from) (some : q.from < q.to) where
  pub given_longer : new ≡ front ++ (record p { to = q.to } ∷ []) → (p.to ≡ q.from) × (p.task.0 ≡ q.task.0) × (p.job ≡ q.job) → IsGiven old new q
  given_longer is same =
      let l = subst AreLongest was longest in
      let e = subst (λ (xs : List Piece). EndBy xs q.from) was ended in
      record {
        run = subst (λ (xs : List Piece). IsExtended (run_of xs) (run_of new) q) (sym was)
            (subst (λ (xs : List Piece). IsExtended (run_of (front ++ (p ∷ []))) (run_of xs) q) (sym is) (longer front p q l some same));
        longest = subst AreLongest (sym is) (grown_longest front p q l some same.0);
        after = subst (λ (xs : List Piece). EndBy xs q.to) (sym is) (grown_ends front p q some e);
      }

  pub given_more : (back : List Piece) → back ≡ front ++ (p ∷ []) → new ≡ back ++ (q ∷ []) → (p.to ≡ q.from → p.task.0 ≡ q.task.0 → p.job ≡ q.job → ⊥) → IsGiven old new q
  given_more back again is other =
      let whole : new ≡ old ++ (q ∷ []) = is ∙ ap (λ (xs : List Piece). xs ++ (q ∷ [])) (again ∙ sym was) in
      let l = subst AreLongest was longest in
      let e = subst (λ (xs : List Piece). EndBy xs q.from) was ended in
      record {
        run = subst (λ (xs : List Piece). IsExtended (run_of old) (run_of xs) q) (sym whole) (one_more old q some ended);
        longest = subst AreLongest (sym (is ∙ ap (λ (xs : List Piece). xs ++ (q ∷ [])) again)) (more_longest front p q l some e other);
        after = subst (λ (xs : List Piece). EndBy xs q.to) (sym whole) (more_ends old q some ended);
      }
