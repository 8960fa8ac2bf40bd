-- There is an order along uses, or a way back.
use Rattle.prl_base.proofs.Standard.{◌≡◌, ◌<◌, ◌≤◌, ◌⊎◌, ℕ, zero, suc, Bool, true, false, cond, List, [], ◌∷◌, ◌++◌, length, set, get_or, replicate, refl, sym, ap, subst, arith, inl, inr, ⊎_elim}
use Rattle.prl_base.proofs.Standard.{cases_lt, false≢true, length_push, length-replicate, sum_by-replicate}
use Rattle.prl_base.specs.declared.numbers.FlowNo.{FlowNo}
use Rattle.prl_flow.specs.Programs.{FlatProgram}
use Rattle.prl_causal.specs.Vocabulary.{Source, IsMarked, IsWhole, marked_count, IsSorted, left, AreSources, Names, UsesBy, HasWayBack}
use Rattle.prl_causal.specs.declared.sources.Source.TheVariants as sources
use Rattle.prl_causal.proofs.Lists.{mark_set, mark_kept, mark_counted, count_below}
use Rattle.prl_causal.proofs.Searching.{source_there}
use Rattle.prl_causal.proofs.Sorting.{on_top, used_below, taken_off, placed_top, opened_used, way_back, begun, ended, fewer_to_open, fewer_to_place}
use Rattle.prl_causal.proofs.Unplaced.{marked_or_not, source_marked}

-- a list is empty, or it has a last element
record HasLast (xs : List ℕ) : Type 0 where
  front : List ℕ
  last : ℕ
  is : xs ≡ front ++ last ∷ []

last_of : (xs : List ℕ) → (xs ≡ []) ⊎ HasLast xs
last_of [] = inl refl
last_of (x ∷ xs) =
    ⊎_elim
    (λ none. inr (record { front = []; last = x; is = ap (λ l. x ∷ l) none }))
    (λ some. inr (record { front = x ∷ some.front; last = some.last; is = ap (λ l. x ∷ l) some.is }))
    (last_of xs)

module _ (p : FlatProgram) (all : List Source) (there : AreSources p all) (seen : List ℕ) where
  -- an order under way of which fewer steps are left, with the same flows looked at and maybe more
  record GoesOn (opened : List Bool) (limit : ℕ) : Type 0 where
    order : List FlowNo
    placed : List Bool
    opened' : List Bool
    stack : List ℕ
    sorted : IsSorted p all order placed opened' seen stack
    less : left (length all) opened' order stack < limit
    kept : (i : ℕ) → IsMarked opened i → IsMarked opened' i

  taken_step : (order : List FlowNo) (placed opened : List Bool) (stack : List ℕ) (top : ℕ) → IsSorted p all order placed opened seen (stack ++ top ∷ []) → IsMarked placed top
      → GoesOn opened (left (length all) opened order (stack ++ top ∷ []))
  taken_step order placed opened stack top are marked =
      let less : left (length all) opened order stack < left (length all) opened order (stack ++ top ∷ []) = omega (arith, length_push stack top) in
      record { order = order; placed = placed; opened' = opened; stack = stack; sorted = taken_off p all order placed opened seen stack top are marked; less = less; kept = λ i h. h }

  placed_step : (order : List FlowNo) (placed opened : List Bool) (stack : List ℕ) (top : ℕ) → IsSorted p all order placed opened seen (stack ++ top ∷ [])
      → get_or placed top false ≡ false → ((j : ℕ) → Names p (get_or all top sources.Nothing) j → IsMarked placed j)
      → GoesOn opened (left (length all) opened order (stack ++ top ∷ []))
  placed_step order placed opened stack top are clear ready =
      let low = on_top p all order placed opened seen stack top are in
      let below : top < length placed = rw are.len low in
      let few : length order < length all = subst (λ n. n < length all) are.part.count (subst (λ n. marked_count placed < n) are.len (count_below placed top below clear)) in
      let new : FlowNo = record { 0 = top } in
      record {
        order = order ++ new ∷ [];
        placed = set placed top true;
        opened' = opened;
        stack = stack;
        sorted = taken_off p all (order ++ new ∷ []) (set placed top true) opened seen stack top
            (placed_top p all order placed opened sources.Nothing seen seen stack top are below clear ready are.counts are.apps) (mark_set placed top below);
        less = fewer_to_place (length all) (marked_count opened) (length order) (length (order ++ new ∷ [])) (length (stack ++ top ∷ [])) (length stack)
            (length_push order new) few (length_push stack top);
        kept = λ i h. h;
      }

  opened_step : (order : List FlowNo) (placed opened : List Bool) (stack : List ℕ) (top used : ℕ) → IsSorted p all order placed opened seen (stack ++ top ∷ [])
      → Names p (get_or all top sources.Nothing) used → get_or opened used false ≡ false
      → GoesOn opened (left (length all) opened order (stack ++ top ∷ []))
  opened_step order placed opened stack top used are names clear =
      let low = on_top p all order placed opened seen stack top are in
      let below = used_below p all order placed opened seen stack top used sources.Nothing there are names in
      let within : used < length opened = rw are.opens below in
      let few : marked_count opened < length all = subst (λ n. marked_count opened < n) are.opens (count_below opened used within clear) in
      record {
        order = order;
        placed = placed;
        opened' = set opened used true;
        stack = (stack ++ top ∷ []) ++ used ∷ [];
        sorted = opened_used p all order placed opened sources.Nothing seen seen stack top used are low below names are.counts are.apps;
        less = fewer_to_open (length all) (marked_count opened) (marked_count (set opened used true)) (length order) (length order) (length (stack ++ top ∷ []))
            (length ((stack ++ top ∷ []) ++ used ∷ [])) (mark_counted opened used within clear) few refl (length_push (stack ++ top ∷ []) used);
        kept = λ i h. mark_kept opened used i within h;
      }

  step_or_back : (order : List FlowNo) (placed opened : List Bool) (stack : List ℕ) (top : ℕ) → IsSorted p all order placed opened seen (stack ++ top ∷ [])
      → HasWayBack (UsesBy p all) ⊎ GoesOn opened (left (length all) opened order (stack ++ top ∷ []))
  step_or_back order placed opened stack top are =
      let low = on_top p all order placed opened seen stack top are in
      ⊎_elim
      (λ marked. inr (taken_step order placed opened stack top are marked))
      (λ clear. ⊎_elim
      (λ ready. inr (placed_step order placed opened stack top are clear ready))
      (λ un. ⊎_elim
      (λ met. inl (way_back p all order placed opened sources.Nothing seen stack top un.used are low un.names un.unmarked met))
      (λ new. inr (opened_step order placed opened stack top un.used are un.names new))
      (marked_or_not opened un.used))
      (source_marked p (get_or all top sources.Nothing) placed (source_there p all sources.Nothing top there low)))
      (marked_or_not placed top)

  -- an order of which nothing is looked at
  record IsAtRest (opened : List Bool) : Type 0 where
    order : List FlowNo
    placed : List Bool
    opened' : List Bool
    sorted : IsSorted p all order placed opened' seen []
    kept : (i : ℕ) → IsMarked opened i → IsMarked opened' i

  rest_or_back : (limit : ℕ) (order : List FlowNo) (placed opened : List Bool) (stack : List ℕ) → left (length all) opened order stack < limit
      → IsSorted p all order placed opened seen stack → HasWayBack (UsesBy p all) ⊎ IsAtRest opened
  rest_or_back zero order placed opened stack low are = absurd (omega (arith, low))
  rest_or_back (suc limit) order placed opened stack low are =
      ⊎_elim
      (λ none. inr (record { order = order; placed = placed; opened' = opened; sorted = subst (λ s. IsSorted p all order placed opened seen s) none are; kept = λ i h. h }))
      (λ some.
      (let here = subst (λ s. IsSorted p all order placed opened seen s) some.is are in
      ⊎_elim
      (λ back. inl back)
      (λ on.
      (let fewer = subst (λ s. left (length all) on.opened' on.order on.stack < left (length all) opened order s) (sym some.is) on.less in
      let under : left (length all) on.opened' on.order on.stack < limit = omega (arith, fewer, low) in
      ⊎_elim
      (λ back. inl back)
      (λ rest. inr (record { order = rest.order; placed = rest.placed; opened' = rest.opened'; sorted = rest.sorted; kept = λ i h. rest.kept i (on.kept i h) }))
      (rest_or_back limit on.order on.placed on.opened' on.stack under on.sorted)))
      (step_or_back order placed opened some.front some.last here)))
      (last_of stack)

  -- the first flows are looked at, and nothing is now
  record AreLookedAt (n : ℕ) : Type 0 where
    order : List FlowNo
    placed : List Bool
    opened : List Bool
    sorted : IsSorted p all order placed opened seen []
    every : (i : ℕ) → i < n → IsMarked opened i

  one_more_looked_at : (n : ℕ) → n < length all → AreLookedAt n → HasWayBack (UsesBy p all) ⊎ AreLookedAt (suc n)
  one_more_looked_at n below are =
      let every : (opened : List Bool) → ((i : ℕ) → IsMarked are.opened i → IsMarked opened i) → IsMarked opened n → (i : ℕ) → i < suc n → IsMarked opened i =
      λ opened kept here i low. ⊎_elim
      (λ lower. kept i (are.every i lower))
      (λ last. (let same : n ≡ i = omega (arith, low, last) in subst (λ x. IsMarked opened x) same here))
      (cases_lt i n) in
      ⊎_elim
      (λ marked. inr (record { order = are.order; placed = are.placed; opened = are.opened; sorted = are.sorted; every = every are.opened (λ i h. h) marked }))
      (λ clear.
      (let within : n < length are.opened = rw are.sorted.opens below in
      let opened = set are.opened n true in
      let start = begun p all are.order are.placed are.opened seen n are.sorted below in
      let few : left (length all) opened are.order (n ∷ []) < suc (left (length all) opened are.order (n ∷ [])) = omega arith in
      ⊎_elim
      (λ back. inl back)
      (λ rest. inr (record {
        order = rest.order;
        placed = rest.placed;
        opened = rest.opened';
        sorted = rest.sorted;
        every = every rest.opened' (λ i h. rest.kept i (mark_kept are.opened n i within h)) (rest.kept n (mark_set are.opened n within));
      }))
      (rest_or_back (suc (left (length all) opened are.order (n ∷ []))) are.order are.placed opened (n ∷ []) few start)))
      (marked_or_not are.opened n)

  looked_at_or_back : (n : ℕ) → n ≤ length all → AreLookedAt zero → HasWayBack (UsesBy p all) ⊎ AreLookedAt n
  looked_at_or_back zero low are = inr are
  looked_at_or_back (suc n) low are =
      ⊎_elim
      (λ back. inl back)
      (λ before. one_more_looked_at n (omega (arith, low)) before)
      (looked_at_or_back n (omega (arith, low)) are)

  order_from : AreLookedAt zero → HasWayBack (UsesBy p all) ⊎ ((order : List FlowNo) × IsWhole (UsesBy p all) (length all) order)
  order_from are =
      ⊎_elim
      (λ back. inl back)
      (λ whole. inr (whole.order, ended p all whole.order whole.placed whole.opened seen whole.sorted whole.every))
      (looked_at_or_back (length all) (omega arith) are)

pub no_marks : (n i : ℕ) → IsMarked (replicate n false) i → ⊥
no_marks zero i h = absurd (false≢true h)
no_marks (suc n) zero h = absurd (false≢true h)
no_marks (suc n) (suc i) h = no_marks n i h

zeros : (n i : ℕ) → ◌≡◌ {A = ℕ} (get_or (replicate n 0) i 0) 0
zeros zero i = refl
zeros (suc n) zero = refl
zeros (suc n) (suc i) = zeros n i

pub none_counted : (n : ℕ) → marked_count (replicate n false) ≡ 0
none_counted n = (let sums = sum_by-replicate (λ b. cond b 1 0) n false in omega (arith, sums))

-- nothing is placed yet, nothing looked at, and no argument found placed
pub first_order : (p : FlatProgram) (all : List Source) → IsSorted p all [] (replicate (length all) false) (replicate (length all) false) (replicate (length p.apps) 0) []
first_order p all =
    let n = length all in
    record {
      part = record {
        count = none_counted n;
        marked = λ k x h. cc;
        listed = λ i h. absurd (no_marks n i h);
        once = λ j k x g h. cc;
        after = λ k x y h u. cc;
      };
      counts = record { placed = λ k app found j low arg at. absurd (let none = zeros (length p.apps) k in omega (arith, low, none)) };
      apps = length-replicate (length p.apps) 0;
      len = length-replicate n false;
      opens = length-replicate n false;
      looked = λ i h. absurd (no_marks n i h);
      below = λ k x h. cc;
      way = λ k x y g h. cc;
    }

-- what the sources name leads back somewhere, or there is an order of the flows along it
pub order_or_back : (p : FlatProgram) (all : List Source) → AreSources p all → HasWayBack (UsesBy p all) ⊎ ((order : List FlowNo) × IsWhole (UsesBy p all) (length all) order)
order_or_back p all there =
    order_from p all there (replicate (length p.apps) 0)
    (record { order = []; placed = replicate (length all) false; opened = replicate (length all) false; sorted = first_order p all; every = λ i low. absurd (omega (arith, low)) })
