-- Which jobs read an instance: those from the first reader on, by the periodic precedence.
use Rattle.prl_base.proofs.Standard.{◌≡◌, ◌+◌, ◌*◌, ◌/◌, ◌%◌, ◌≤◌, ◌↔◌, ℕ, zero, suc, List, [], ◌∷◌, Some, inl, inr, refl, sym, ◌∙◌, ap, arith, ℤ, pos, negsuc, ◌*ℤ◌, ◌≤ℤ◌, slice_get, mul-le-mul_left}
use Rattle.prl_base.proofs.Standard.{le-div, cases_lt, ints}
use Rattle.prl_base.specs.Operators.{IsOperatorFor, floor_div}
use Rattle.prl_base.specs.declared.operators.Op.{Op}
use Rattle.prl_base.specs.declared.values.Ty.{Ty}
use Rattle.prl_base.specs.declared.operators.Op.TheVariants as operators
use Rattle.prl_plan.specs.Vocabulary.{Edge, Producer, Operand, walk, operand_from, preceding, ComesFrom, Reads, IsUsed, IsFirstReader, first_reader, natural, first_instance, IsAsked}
use Rattle.prl_plan.specs.declared.graphs.Producer.TheVariants as producers
use Rattle.prl_plan.specs.declared.walks.Operand.TheVariants as operands
use Rattle.prl_plan.proofs.Ceilings.{ceil_most, ceil_least}
use Rattle.prl_plan.proofs.Floors.{floor_least, mono, suc_is, pred_is}
use Rattle.prl_plan.proofs.WalkLaws.{walk_preceding, operand_walks}

-- the operators of an edge of this type
abbrev pub AreOperators : Ty → List Op → Type 0
AreOperators ty ops = (k : ℕ) (op : Op) → slice_get ops k ≡ Some op → IsOperatorFor ty op

le_self : (a : ℤ) → a ≤ℤ a
le_self a = omega (arith, ints)

floor_rises : (a b : ℤ) (k : ℕ) → 1 ≤ k → a ≤ℤ b → floor_div a k ≤ℤ floor_div b k
floor_rises a b k some h =
    (floor_least b (floor_div a k) k some).1 (omega (arith, ints, (floor_least a (floor_div a k) k some).0 (le_self (floor_div a k)), h))

-- a later job is preceded by no earlier one
pub preceding_rises : (ty : Ty) (ops : List Op) → AreOperators ty ops → (a b : ℤ) → a ≤ℤ b → preceding ops a ≤ℤ preceding ops b
preceding_rises ty [] are a b h = h
preceding_rises ty (operators.Up k ∷ ops) are a b h =
    preceding_rises ty ops (λ j o is. are (suc j) o is) (floor_div a k) (floor_div b k) (floor_rises a b k (are 0 (operators.Up k) refl).0 h)
preceding_rises ty (operators.Down k ∷ ops) are a b h =
    preceding_rises ty ops (λ j o is. are (suc j) o is) (pos k *ℤ a) (pos k *ℤ b) (mono k a b h)
preceding_rises ty (operators.Shift q ∷ ops) are a b h = preceding_rises ty ops (λ j o is. are (suc j) o is) a b h
preceding_rises ty (operators.Tail ∷ ops) are a b h =
    preceding_rises ty ops (λ j o is. are (suc j) o is) _ _ (omega (arith, ints, h, suc_is a, suc_is b))
preceding_rises ty (operators.Cons c ∷ ops) are a b h =
    preceding_rises ty ops (λ j o is. are (suc j) o is) _ _ (omega (arith, ints, h, pred_is a, pred_is b))
preceding_rises ty (operators.Fby c ∷ ops) are a b h =
    preceding_rises ty ops (λ j o is. are (suc j) o is) _ _ (omega (arith, ints, h, pred_is a, pred_is b))

up_most : (p n k : ℕ) → 1 ≤ k → k * p ≤ n → p ≤ n / k
up_most p n k some h = le-div p n k some (let e : p * k ≡ k * p = omega arith in omega (arith, e, h))

up_least : (p n k : ℕ) → p ≤ n / k → k * p ≤ n
up_least p n k h =
    let e : k * (n / k) + n % k ≡ n = omega arith in
    omega (arith, mul-le-mul_left k h, e)

pub reads_from : (ty : Ty) (ops : List Op) → AreOperators ty ops → (n : ℕ) → first_reader ops ≤ n → (m : ℕ) × (walk ops n ≡ operands.From m)
reads_from ty [] are n h = (n, refl)
reads_from ty (operators.Up k ∷ ops) are n h =
    reads_from ty ops (λ j o is. are (suc j) o is) (n / k) (up_most (first_reader ops) n k (are 0 (operators.Up k) refl).0 h)
reads_from ty (operators.Down k ∷ ops) are n h =
    reads_from ty ops (λ j o is. are (suc j) o is) (k * n) (ceil_least (first_reader ops) n k (are 0 (operators.Down k) refl).0 h)
reads_from ty (operators.Shift q ∷ ops) are n h = reads_from ty ops (λ j o is. are (suc j) o is) n h
reads_from ty (operators.Tail ∷ ops) are n h = reads_from ty ops (λ j o is. are (suc j) o is) (n + 1) (omega (arith, h))
reads_from ty (operators.Cons c ∷ ops) are zero h = absurd (omega (arith, h))
reads_from ty (operators.Cons c ∷ ops) are (suc n) h = reads_from ty ops (λ j o is. are (suc j) o is) n (omega (arith, h))
reads_from ty (operators.Fby c ∷ ops) are zero h = absurd (omega (arith, h))
reads_from ty (operators.Fby c ∷ ops) are (suc n) h = reads_from ty ops (λ j o is. are (suc j) o is) n (omega (arith, h))

pub never_before : (ty : Ty) (ops : List Op) → AreOperators ty ops → (n m : ℕ) → walk ops n ≡ operands.From m → first_reader ops ≤ n
never_before ty [] are n m h = omega arith
never_before ty (operators.Up k ∷ ops) are n m h =
    up_least (first_reader ops) n k (never_before ty ops (λ j o is. are (suc j) o is) (n / k) m h)
never_before ty (operators.Down k ∷ ops) are n m h =
    ceil_most (first_reader ops) n k (are 0 (operators.Down k) refl).0 (never_before ty ops (λ j o is. are (suc j) o is) (k * n) m h)
never_before ty (operators.Shift q ∷ ops) are n m h = never_before ty ops (λ j o is. are (suc j) o is) n m h
never_before ty (operators.Tail ∷ ops) are n m h = omega (arith, never_before ty ops (λ j o is. are (suc j) o is) (n + 1) m h)
never_before ty (operators.Cons c ∷ ops) are zero m h = cc
never_before ty (operators.Cons c ∷ ops) are (suc n) m h = omega (arith, never_before ty ops (λ j o is. are (suc j) o is) n m h)
never_before ty (operators.Fby c ∷ ops) are zero m h = cc
never_before ty (operators.Fby c ∷ ops) are (suc n) m h = omega (arith, never_before ty ops (λ j o is. are (suc j) o is) n m h)

pub is_first_reader : (ty : Ty) (ops : List Op) → AreOperators ty ops → IsFirstReader ops (first_reader ops)
is_first_reader ty ops are = record { reads = reads_from ty ops are; first = never_before ty ops are }

-- what the first reader reads is the first instance
pub first_precedes : (ty : Ty) (ops : List Op) → AreOperators ty ops → preceding ops (pos (first_reader ops)) ≡ pos (first_instance ops)
first_precedes ty ops are =
    let r = reads_from ty ops are (first_reader ops) (omega arith) in
    let e : preceding ops (pos (first_reader ops)) ≡ pos r.0 = walk_preceding ops (first_reader ops) r.0 r.1 in
    e ∙ ap (λ (x : ℕ). pos x) (sym (ap natural e))

module _ (edge : Edge) (i : ℕ) (comes : ComesFrom edge.from i) (are : AreOperators edge.ty edge.ops) where
  from_walk : (from : Producer) → ComesFrom from i → (o : Operand) → operand_from from o ≡ o
  from_walk (producers.Port task out) h o = refl
  from_walk (producers.Constant value) h o = absurd h

  -- a job reads the instance that precedes it, from the first reader on
  pub reads_is : (n m : ℕ) → Reads edge n m ↔ ((first_reader edge.ops ≤ n) × (preceding edge.ops (pos n) ≡ pos m))
  reads_is n m = (
    (λ h. (let w = operand_walks edge n m h in (never_before edge.ty edge.ops are n m w.2, walk_preceding edge.ops n m w.2))),
    (λ h.
        (let r = reads_from edge.ty edge.ops are n h.0 in
        let e : pos r.0 ≡ pos m = sym (walk_preceding edge.ops n r.0 r.1) ∙ h.1 in
        let same : r.0 ≡ m = cc in
        from_walk edge.from comes (walk edge.ops n) ∙ r.1 ∙ ap (λ (x : ℕ). operands.From x) same)),
  )

  -- the used instances are those from the first on that precede some job
  pub used_is : (m : ℕ) → IsUsed edge m ↔ ((first_instance edge.ops ≤ m) × IsAsked edge.ops (pos m))
  used_is m = (
    (λ h.
        (let r = (reads_is h.0 m).0 h.1 in
        let up = preceding_rises edge.ty edge.ops are (pos (first_reader edge.ops)) (pos h.0) (omega (arith, ints, r.0)) in
        (omega (arith, ints, up, first_precedes edge.ty edge.ops are, r.1), (pos h.0, r.1)))),
    (λ h. go h.0 h.1.0 h.1.1),
  )
    where
      go : first_instance edge.ops ≤ m → (n : ℤ) → preceding edge.ops n ≡ pos m → IsUsed edge m
      go late (negsuc k) at = early late (negsuc k) at (omega (arith, ints))
        where
          early : first_instance edge.ops ≤ m → (n : ℤ) → preceding edge.ops n ≡ pos m → n ≤ℤ pos (first_reader edge.ops) → IsUsed edge m
          early late n at before =
              let e = first_precedes edge.ty edge.ops are in
              let same : first_instance edge.ops ≡ m = omega (arith, ints, preceding_rises edge.ty edge.ops are n (pos (first_reader edge.ops)) before, e, at, late) in
              (first_reader edge.ops, (reads_is (first_reader edge.ops) m).1 (omega arith, e ∙ ap (λ (x : ℕ). pos x) same))
      go late (pos k) at =
          elim (cases_lt k (first_reader edge.ops)) [
            | inl below ↦
                (let up = preceding_rises edge.ty edge.ops are (pos k) (pos (first_reader edge.ops)) (omega (arith, ints, below)) in
                let e = first_precedes edge.ty edge.ops are in
                let same : first_instance edge.ops ≡ m = omega (arith, ints, up, e, at, late) in
                (first_reader edge.ops, (reads_is (first_reader edge.ops) m).1 (omega arith, e ∙ ap (λ (x : ℕ). pos x) same)))
            | inr above ↦ (k, (reads_is k m).1 (above, at))
          ]
