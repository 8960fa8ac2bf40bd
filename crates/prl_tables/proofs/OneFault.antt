-- A table is good, or it has one fault.
use Rattle.prl_base.proofs.Standard.{◌≡◌, ◌≢◌, ◌+◌, ℕ, List, refl, sym, ap, ◌∙◌, inl, inr, arith, cases_order}
use Rattle.prl_base.specs.declared.numbers.EdgeNo.{EdgeNo}
use Rattle.prl_base.specs.declared.numbers.TaskNo.{TaskNo}
use Rattle.prl_plan.specs.Plans.{PlanView}
use Rattle.prl_tables.specs.Vocabulary.{TableFault, Entry, AreApart, IsEarlier, IsFault, IsFirstClash, IsFirstDisorder, IsFirstNoPiece, IsFirstNotWhole, ArePieces, AreWhole, IsGood}
use Rattle.prl_tables.specs.declared.reading.TableFault.TheVariants as faults

no_piece : (plan : PlanView) (entries : List Entry) (line : ℕ) → ArePieces plan entries → IsFirstNoPiece plan entries line → ⊥
no_piece plan entries line h k = k.no_piece (h k.k k.entry k.stands)

not_whole : (plan : PlanView) (entries : List Entry) (i c : ℕ) → AreWhole plan entries → IsFirstNotWhole plan entries i c → ⊥
not_whole plan entries i c h k = k.not_whole (h i c k.task k.class)

clash : (hyper : ℕ) (entries : List Entry) (first second : ℕ) → AreApart hyper entries → IsFirstClash hyper entries first second → ⊥
clash hyper entries first second h k = h k.k k.l k.clash

disorder : (plan : PlanView) (entries : List Entry) (e c : ℕ) (good : IsGood plan entries) → IsFirstDisorder plan entries e c → ⊥
disorder plan entries e c good k = k.disorder (good.order e c k.edge k.class)

-- a good table has no fault
pub good_or_fault : (plan : PlanView) (entries : List Entry) → IsGood plan entries → (fault : TableFault) → fault ≢ faults.Memory → IsFault plan entries fault → ⊥
good_or_fault plan entries good (faults.Syntax line) told k = k
good_or_fault plan entries good (faults.Piece line) told k = no_piece plan entries line good.pieces k
good_or_fault plan entries good (faults.Units task job) told k = not_whole plan entries task.0 job good.whole k.1
good_or_fault plan entries good (faults.Clash first second) told k = clash plan.graph.hyper entries first second good.apart k.2
good_or_fault plan entries good (faults.Order edge job) told k = disorder plan entries edge.0 job good k.3
good_or_fault plan entries good faults.Memory told k = told refl

-- two lists of pairs of which none is earlier have one pair
same_pair : (i c j d : ℕ) → (IsEarlier i c j d → ⊥) → (IsEarlier j d i c → ⊥) → (i ≡ j) × (c ≡ d)
same_pair i c j d h k = elim (cases_order i j) [
  | inl same ↦ elim (cases_order c d) [
    | inl equal ↦ (same, equal)
    | inr apart ↦ elim apart [ inl less ↦ absurd (h (inr (same, less))) | inr greater ↦ absurd (k (inr (sym same, greater))) ]
  ]
  | inr apart ↦ elim apart [ inl less ↦ absurd (h (inl less)) | inr greater ↦ absurd (k (inl greater)) ]
]

one_line : (plan : PlanView) (entries : List Entry) (a b : ℕ) → IsFirstNoPiece plan entries a → IsFirstNoPiece plan entries b → a ≡ b
one_line plan entries a b h k = elim (cases_order h.k k.k) [
  | inl same ↦ h.in_line ∙ ap (λ (n : ℕ). n + 3) same ∙ sym k.in_line
  | inr apart ↦ elim apart [
    | inl less ↦ absurd (h.no_piece (k.before h.k h.entry less h.stands))
    | inr greater ↦ absurd (k.no_piece (h.before k.k k.entry greater k.stands))
  ]
]

one_class : (plan : PlanView) (entries : List Entry) (i c j d : ℕ) → IsFirstNotWhole plan entries i c → IsFirstNotWhole plan entries j d → (i ≡ j) × (c ≡ d)
one_class plan entries i c j d h k =
    same_pair i c j d (λ earlier. h.not_whole (k.before i c h.task h.class earlier)) (λ earlier. k.not_whole (h.before j d k.task k.class earlier))

one_disorder : (plan : PlanView) (entries : List Entry) (e c f d : ℕ) → IsFirstDisorder plan entries e c → IsFirstDisorder plan entries f d → (e ≡ f) × (c ≡ d)
one_disorder plan entries e c f d h k =
    same_pair e c f d (λ earlier. h.disorder (k.before e c h.edge h.class earlier)) (λ earlier. k.disorder (h.before f d k.edge k.class earlier))

one_clash : (hyper : ℕ) (entries : List Entry) (a b c d : ℕ) → IsFirstClash hyper entries a b → IsFirstClash hyper entries c d → (a ≡ c) × (b ≡ d)
one_clash hyper entries a b c d h k =
    let there = h.least k.k k.l k.ordered k.clash in
    let back = k.least h.k h.l h.ordered h.clash in
    let first : h.k ≡ k.k = omega (arith, there.0, back.0) in
    let second : h.l ≡ k.l = omega (arith, there.1 (sym first), back.1 first) in
    (h.first_line ∙ ap (λ (n : ℕ). n + 3) first ∙ sym k.first_line, h.second_line ∙ ap (λ (n : ℕ). n + 3) second ∙ sym k.second_line)

same_task : (a b : TaskNo) → a.0 ≡ b.0 → a ≡ b
same_task a b e = ap (λ (n : ℕ). record { 0 = n }) e

same_edge : (a b : EdgeNo) → a.0 ≡ b.0 → a ≡ b
same_edge a b e = ap (λ (n : ℕ). record { 0 = n }) e

two_units : (a b : TaskNo) (c d : ℕ) → a ≡ b → c ≡ d → faults.Units a c ≡ faults.Units b d
two_units a b c d e f = ap (λ (t : TaskNo). faults.Units t c) e ∙ ap (faults.Units b) f

two_orders : (a b : EdgeNo) (c d : ℕ) → a ≡ b → c ≡ d → faults.Order a c ≡ faults.Order b d
two_orders a b c d e f = ap (λ (t : EdgeNo). faults.Order t c) e ∙ ap (faults.Order b) f

two_clashes : (a b c d : ℕ) → a ≡ c → b ≡ d → faults.Clash a b ≡ faults.Clash c d
two_clashes a b c d e f = ap (λ (t : ℕ). faults.Clash t b) e ∙ ap (faults.Clash c) f

-- and it has one
pub one_fault : (plan : PlanView) (entries : List Entry) (a b : TableFault) → a ≢ faults.Memory → b ≢ faults.Memory → IsFault plan entries a → IsFault plan entries b → a ≡ b
one_fault plan entries (faults.Syntax line) b told known h k = absurd h
one_fault plan entries a (faults.Syntax line) told known h k = absurd k
one_fault plan entries faults.Memory b told known h k = absurd (told refl)
one_fault plan entries a faults.Memory told known h k = absurd (known refl)
one_fault plan entries (faults.Piece a) (faults.Piece b) told known h k = ap faults.Piece (one_line plan entries a b h k)
one_fault plan entries (faults.Piece a) (faults.Units task job) told known h k = absurd (no_piece plan entries a k.0 h)
one_fault plan entries (faults.Piece a) (faults.Clash first second) told known h k = absurd (no_piece plan entries a k.0 h)
one_fault plan entries (faults.Piece a) (faults.Order edge job) told known h k = absurd (no_piece plan entries a k.0 h)
one_fault plan entries (faults.Units task job) (faults.Piece b) told known h k = absurd (no_piece plan entries b h.0 k)
one_fault plan entries (faults.Units i c) (faults.Units j d) told known h k =
    let same = one_class plan entries i.0 c j.0 d h.1 k.1 in two_units i j c d (same_task i j same.0) same.1
one_fault plan entries (faults.Units i c) (faults.Clash first second) told known h k = absurd (not_whole plan entries i.0 c k.1 h.1)
one_fault plan entries (faults.Units i c) (faults.Order edge job) told known h k = absurd (not_whole plan entries i.0 c k.1 h.1)
one_fault plan entries (faults.Clash a b) (faults.Piece line) told known h k = absurd (no_piece plan entries line h.0 k)
one_fault plan entries (faults.Clash a b) (faults.Units i c) told known h k = absurd (not_whole plan entries i.0 c h.1 k.1)
one_fault plan entries (faults.Clash a b) (faults.Clash c d) told known h k =
    let same = one_clash plan.graph.hyper entries a b c d h.2 k.2 in two_clashes a b c d same.0 same.1
one_fault plan entries (faults.Clash a b) (faults.Order edge job) told known h k = absurd (clash plan.graph.hyper entries a b k.2 h.2)
one_fault plan entries (faults.Order e c) (faults.Piece line) told known h k = absurd (no_piece plan entries line h.0 k)
one_fault plan entries (faults.Order e c) (faults.Units i d) told known h k = absurd (not_whole plan entries i.0 d h.1 k.1)
one_fault plan entries (faults.Order e c) (faults.Clash a b) told known h k = absurd (clash plan.graph.hyper entries a b h.2 k.2)
one_fault plan entries (faults.Order e c) (faults.Order f d) told known h k =
    let same = one_disorder plan entries e.0 c f.0 d h.3 k.3 in two_orders e f c d (same_edge e f same.0) same.1
