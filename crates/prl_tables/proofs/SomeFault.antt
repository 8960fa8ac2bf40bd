-- A text tells a table, or has a fault; and a table of a plan is good, or has a fault.
use Rattle.prl_base.proofs.Standard.{◌≡◌, ◌≢◌, ◌+◌, ◌*◌, ◌/◌, ◌%◌, ◌<◌, ◌≤◌, ◌⊎◌, ℕ, zero, suc, Bool, true, false, List, [], ◌∷◌, length, Option, Some, None, Result, Ok, Err, inl, inr, refl, sym, ◌∙◌}
use Rattle.prl_base.proofs.Standard.{subst, arith, pos, slice_get, if◌then◌else◌, cases_eq, cases_lt, slice_get_within, same_Some}
use Rattle.prl_base.specs.Vocabulary.{lines_of, ◌>>=◌}
use Rattle.prl_plan.specs.Vocabulary.{task_at, operand_of, PlanView, IsPlan, edge_at, release_at, deadline_at, preceding, ComesFrom}
use Rattle.prl_plan.specs.declared.graphs.Producer.{Producer}
use Rattle.prl_plan.specs.declared.limits.TheConstants.{MAX_PREFIX}
use Rattle.prl_plan.specs.declared.graphs.Producer.TheVariants as producers
use Rattle.prl_plan.specs.declared.walks.Operand.TheVariants as operands
use Rattle.prl_plan.proofs.Searches.{IsLeastSuch, all_or_least}
use Rattle.prl_tables.specs.Vocabulary.{TableFault, Entry, AreApart, IsEarlier, IsFault, classes, units_of, IsPiece, ArePieces, IsWhole, AreWhole, KeepsOrder, IsGood, next_entry, or_line, no_more}
use Rattle.prl_tables.specs.Vocabulary.{entries_from, after_line, is_header, tells_hyper, entries_of, spot_of, Meet, Meets, AreShort, sums_of, IsBefore}
use Rattle.prl_tables.specs.declared.reading.TableFault.TheVariants as faults
use Rattle.prl_overlaps.proofs.Spotted.{meet_of_clash, clash_of_meet, turned}
use Rattle.prl_tables.proofs.Early.{pieces_short}

-- a table, or a fault of the text
abbrev IsTold : {A : Type 0} → Result A TableFault → Type 0
IsTold (Ok x) = Unit {0}
IsTold (Err fault) = fault ≢ faults.Memory

then_told : {A B : Type 0} (read : Result A TableFault) (next : A → Result B TableFault) → IsTold read → ((x : A) → IsTold (next x)) → IsTold (read >>= next)
then_told (Ok x) next told each = each x
then_told (Err fault) next told each = told

line_told : (k : ℕ) (entry : Option Entry) → IsTold (or_line k entry)
line_told k None = λ same. cc
line_told k (Some entry) = tt

end_told : (k : ℕ) (line : List ℕ) → IsTold (no_more k line)
end_told k [] = tt
end_told k (b ∷ bs) = λ same. cc

entries_told : (k : ℕ) (last : Option Entry) (lines : List (List ℕ)) → IsTold (entries_from k last lines)
entries_told k last [] = tt
entries_told k last (line ∷ []) = end_told k line
entries_told k last (line ∷ next ∷ lines) =
    then_told (or_line k (next_entry last line)) (λ entry. entries_from (k + 1) (Some entry) (next ∷ lines) >>= (λ entries. Ok (entry ∷ entries))) (line_told k (next_entry last line))
    (λ entry. then_told (entries_from (k + 1) (Some entry) (next ∷ lines)) (λ entries. Ok (entry ∷ entries)) (entries_told (k + 1) (Some entry) (next ∷ lines)) (λ entries. tt))

after_told : (k : ℕ) (test : List ℕ → Bool) (lines : List (List ℕ)) → IsTold (after_line k test lines)
after_told k test [] = λ same. cc
after_told k test (line ∷ []) = λ same. cc
after_told k test (line ∷ next ∷ lines) = go (test line)
  where
    go : (passes : Bool) → IsTold (if passes then Ok (next ∷ lines) else Err (faults.Syntax k))
    go true = tt
    go false = λ same. cc

text_told : (hyper : ℕ) (text : List ℕ) → IsTold (entries_of hyper text)
text_told hyper text =
    then_told (after_line 1 is_header (lines_of text)) (λ after. after_line 2 (tells_hyper hyper) after >>= (λ lines. entries_from 3 None lines)) (after_told 1 is_header (lines_of text))
    (λ after. then_told (after_line 2 (tells_hyper hyper) after) (λ lines. entries_from 3 None lines) (after_told 2 (tells_hyper hyper) after) (λ lines. entries_told 3 None lines))

pub text_is_decided : (hyper : ℕ) (text : List ℕ) → ((entries : List Entry) × (entries_of hyper text ≡ Ok entries))
    ⊎ ((fault : TableFault) × (fault ≢ faults.Memory) × (entries_of hyper text ≡ Err fault))
text_is_decided hyper text = go (entries_of hyper text) refl (text_told hyper text)
  where
    go : (read : Result (List Entry) TableFault) → entries_of hyper text ≡ read → IsTold read →
        ((entries : List Entry) × (entries_of hyper text ≡ Ok entries)) ⊎ ((fault : TableFault) × (fault ≢ faults.Memory) × (entries_of hyper text ≡ Err fault))
    go (Ok entries) is told = inl (entries, is)
    go (Err fault) is told = inr (fault, told, is)

-- of pairs of numbers, row by row, all have a property or there is a first that has not
record IsFirstPair (P : ℕ → ℕ → Type 0) (rows : ℕ) (columns : ℕ → ℕ) (i c : ℕ) : Type 0 where
  row : i < rows
  column : c < columns i
  fails : P i c → ⊥
  before : (j d : ℕ) → j < rows → d < columns j → IsEarlier j d i c → P j d

module _ (P : ℕ → ℕ → Type 0) (rows : ℕ) (columns : ℕ → ℕ) (decides : (i c : ℕ) → i < rows → c < columns i → P i c ⊎ (P i c → ⊥)) where
  abbrev Has : ℕ → ℕ → Type 0
  Has i c = i < rows → c < columns i → P i c

  abbrev Fails : ℕ → ℕ → Type 0
  Fails i c = (i < rows) × (c < columns i) × (P i c → ⊥)

  has_or_fails : (i c : ℕ) → Has i c ⊎ Fails i c
  has_or_fails i c = elim (cases_lt i rows) [
    | inr past ↦ inl (λ row column. absurd (omega (arith, past, row)))
    | inl row ↦ elim (cases_lt c (columns i)) [
      | inr past ↦ inl (λ _ column. absurd (omega (arith, past, column)))
      | inl column ↦ elim (decides i c row column) [ inl has ↦ inl (λ _ _. has) | inr fails ↦ inr (row, column, fails) ]
    ]
  ]

  abbrev RowHas : ℕ → Type 0
  RowHas i = (c : ℕ) → c < columns i → Has i c

  abbrev RowFails : ℕ → Type 0
  RowFails i = (c : ℕ) × IsLeastSuch (Has i) (Fails i) (columns i) c

  first_pair : ((i c : ℕ) → i < rows → c < columns i → P i c) ⊎ ((i : ℕ) × (c : ℕ) × IsFirstPair P rows columns i c)
  first_pair = elim (all_or_least RowHas RowFails (λ i. all_or_least (Has i) (Fails i) (has_or_fails i) (columns i)) rows) [
    | inl all ↦ inl (λ i c row column. all i row c column row column)
    | inr least ↦ inr (
      least.0,
      least.1.is.0,
      record {
        row = least.1.below;
        column = least.1.is.1.below;
        fails = least.1.is.1.is.2;
        before = earlier least.0 least.1.is.0 least.1.earlier least.1.is.1.earlier;
      },
    )
  ]
    where
      earlier : (i c : ℕ) → ((j : ℕ) → j < i → RowHas j) → ((d : ℕ) → d < c → Has i d) → (j d : ℕ) → j < rows → d < columns j → IsEarlier j d i c → P j d
      earlier i c above left j d row column (inl less) = above j less d column row column
      earlier i c above left j d row column (inr at) =
          (let here : Has i d = left d at.1 in subst (λ (x : ℕ). Has x d) (sym at.0) here row column)

module _ (plan : PlanView) (is : IsPlan plan) (entries : List Entry) where
  piece_or_not : (entry : Entry) → IsPiece plan entry ⊎ (IsPiece plan entry → ⊥)
  piece_or_not entry = elim (cases_lt entry.task.0 (length plan.graph.tasks)) [
    | inr past ↦ inr (λ piece. (let t = piece.task in omega (arith, past, t)))
    | inl task ↦ elim (cases_lt entry.job (classes plan.graph entry.task.0)) [
      | inr past ↦ inr (λ piece. (let t = piece.class in omega (arith, past, t)))
      | inl class ↦ elim (cases_lt 0 entry.units) [
        | inr none ↦ inr (λ piece. (let t = piece.units in omega (arith, none, t)))
        | inl units ↦ elim (cases_lt entry.at (release_at plan entry.task.0 entry.job)) [
          | inl early ↦ inr (λ piece. (let t = piece.from in omega (arith, early, t)))
          | inr from ↦ elim (cases_lt (deadline_at plan entry.task.0 entry.job) (entry.at + entry.units)) [
            | inl late ↦ inr (λ piece. (let t = piece.to in omega (arith, late, t)))
            | inr to ↦ inl (record { task = task; class = class; units = omega (arith, units); from = from; to = to })
          ]
        ]
      ]
    ]
  ]

  abbrev PieceAt : ℕ → Type 0
  PieceAt k = (entry : Entry) → slice_get entries k ≡ Some entry → IsPiece plan entry

  abbrev NoPieceAt : ℕ → Type 0
  NoPieceAt k = (entry : Entry) × (slice_get entries k ≡ Some entry) × (IsPiece plan entry → ⊥)

  piece_at_or_not : (k : ℕ) → PieceAt k ⊎ NoPieceAt k
  piece_at_or_not k = go (slice_get entries k) refl
    where
      go : (found : Option Entry) → slice_get entries k ≡ found → PieceAt k ⊎ NoPieceAt k
      go None at = inl (λ entry stands. absurd (let e : None ≡ Some entry = sym at ∙ stands in cc))
      go (Some entry) at = elim (piece_or_not entry) [
        | inl piece ↦ inl (λ other stands. subst (λ (x : Entry). IsPiece plan x) (same_Some entry other (sym at ∙ stands)) piece)
        | inr not ↦ inr (entry, at, not)
      ]

  -- two entries meet, or not
  meets_or_not : (hyper k l : ℕ) (one other : Entry) → Meets hyper (spot_of hyper k one) (spot_of hyper l other) ⊎ (Meets hyper (spot_of hyper k one) (spot_of hyper l other) → ⊥)
  meets_or_not hyper k l one other = elim (cases_lt (one.at % hyper + hyper) (other.at % hyper + other.units)) [
    | inl over ↦ inl (inr (inl over))
    | inr not_over ↦ elim (cases_lt (other.at % hyper + hyper) (one.at % hyper + one.units)) [
      | inl over ↦ inl (inr (inr over))
      | inr not_under ↦ elim (cases_lt (one.at % hyper) (other.at % hyper + other.units)) [
        | inr late ↦ inr (λ meets. elim meets [
          | inl both ↦ (let b = both.0 in omega (arith, late, b))
          | inr (inl x) ↦ omega (arith, not_over, x)
          | inr (inr x) ↦ omega (arith, not_under, x)
        ])
        | inl starts ↦ elim (cases_lt (other.at % hyper) (one.at % hyper + one.units)) [
          | inl ends ↦ inl (inl (starts, ends))
          | inr late ↦ inr (λ meets. elim meets [
            | inl both ↦ (let b = both.1 in omega (arith, late, b))
            | inr (inl x) ↦ omega (arith, not_over, x)
            | inr (inr x) ↦ omega (arith, not_under, x)
          ])
        ]
      ]
    ]
  ]

  meet_or_not : (hyper k l : ℕ) → (Meet hyper entries k l → ⊥) ⊎ Meet hyper entries k l
  meet_or_not hyper k l = elim (cases_eq l k) [
    | inl same ↦ inl (λ meet. meet.differ same)
    | inr differ ↦ go differ (slice_get entries k) refl (slice_get entries l) refl
  ]
    where
      go : l ≢ k → (one : Option Entry) → slice_get entries k ≡ one → (other : Option Entry) → slice_get entries l ≡ other → (Meet hyper entries k l → ⊥) ⊎ Meet hyper entries k l
      go differ None at other at_other = inl (λ meet. absurd (let e : None ≡ Some meet.one = sym at ∙ meet.first in cc))
      go differ (Some one) at None at_other = inl (λ meet. absurd (let e : None ≡ Some meet.other = sym at_other ∙ meet.second in cc))
      go differ (Some one) at (Some other) at_other = elim (meets_or_not hyper k l one other) [
        | inl meets ↦ inr (record { one = one; other = other; first = at; second = at_other; differ = differ; meets = meets })
        | inr not ↦ inl (λ meet.
            (let first : meet.one ≡ one = same_Some meet.one one (sym meet.first ∙ at) in
            let second : meet.other ≡ other = same_Some meet.other other (sym meet.second ∙ at_other) in
            not (subst (λ (x : Entry). Meets hyper (spot_of hyper k x) (spot_of hyper l other)) first
            (subst (λ (x : Entry). Meets hyper (spot_of hyper k meet.one) (spot_of hyper l x)) second meet.meets))))
      ]

  abbrev MeetsNone : ℕ → ℕ → Type 0
  MeetsNone hyper k = (l : ℕ) → l < length entries → Meet hyper entries k l → ⊥

  abbrev MeetsFirst : ℕ → ℕ → Type 0
  MeetsFirst hyper k = (l : ℕ) × IsLeastSuch (λ m. Meet hyper entries k m → ⊥) (Meet hyper entries k) (length entries) l

  apart_or_clash : (short : AreShort plan.graph.hyper entries) → AreApart plan.graph.hyper entries
      ⊎ ((k : ℕ) × (l : ℕ) × ((ArePieces plan entries × AreWhole plan entries) → IsFault plan entries (faults.Clash (k + 3) (l + 3))))
  apart_or_clash short =
      elim (all_or_least (MeetsNone plan.graph.hyper) (MeetsFirst plan.graph.hyper)
      (λ k. all_or_least (λ m. Meet plan.graph.hyper entries k m → ⊥) (Meet plan.graph.hyper entries k) (meet_or_not plan.graph.hyper k) (length entries)) (length entries)) [
        | inl none ↦ inl (λ k l clash.
            (let meet = meet_of_clash plan.graph.hyper entries short k l clash in
            none k (slice_get_within entries k meet.one meet.first) l (slice_get_within entries l meet.other meet.second) meet))
        | inr least ↦
            (let k : ℕ = least.0 in
            let l : ℕ = least.1.is.0 in
            let first = least.1.is.1 in
            let lowest : (m n : ℕ) → Meet plan.graph.hyper entries m n → least.0 ≤ m =
            λ m n meet. elim (cases_lt m least.0) [
              | inl less ↦ absurd (least.1.earlier m less n (slice_get_within entries n meet.other meet.second) meet)
              | inr not ↦ not
            ] in
            inr (
              least.0,
              least.1.is.0,
              (λ both. (
                both.0,
                both.1,
                record {
                  k = least.0;
                  l = least.1.is.0;
                  first_line = refl;
                  second_line = refl;
                  ordered = lowest least.1.is.0 least.0 (turned plan.graph.hyper entries short least.0 least.1.is.0 first.is);
                  clash = clash_of_meet plan.graph.hyper entries short least.0 least.1.is.0 first.is;
                  least = λ m n _ clash.
                      (let meet = meet_of_clash plan.graph.hyper entries short m n clash in (
                        lowest m n meet,
                        (λ same. elim (cases_lt n least.1.is.0) [
                          | inl less ↦ absurd (first.earlier n less (subst (λ (x : ℕ). Meet plan.graph.hyper entries x n) same meet))
                          | inr not ↦ not
                        ]),
                      ));
                },
              )),
            ))
      ]

  -- what the order rests on
  pub record Laws : Type 0 where
    pub to : (e : ℕ) → e < length plan.graph.edges → (edge_at plan.graph e).to.0 < length plan.graph.tasks
    pub reads : (e i n : ℕ) → e < length plan.graph.edges → ComesFrom (edge_at plan.graph e).from i → MAX_PREFIX ≤ n →
        (m : ℕ) × (operand_of (edge_at plan.graph e) n ≡ operands.From m) × (preceding (edge_at plan.graph e).ops (pos n) ≡ pos m)
    pub kept : (e i c k m : ℕ) → e < length plan.graph.edges → ComesFrom (edge_at plan.graph e).from i →
        preceding (edge_at plan.graph e).ops (pos (c + k * classes plan.graph (edge_at plan.graph e).to.0)) ≡ pos m → IsBefore plan entries e i c k m → KeepsOrder plan entries e c
    pub broken : ArePieces plan entries → AreWhole plan entries → (e i c k m : ℕ) → e < length plan.graph.edges → ComesFrom (edge_at plan.graph e).from i →
        c < classes plan.graph (edge_at plan.graph e).to.0 →
        preceding (edge_at plan.graph e).ops (pos (c + k * classes plan.graph (edge_at plan.graph e).to.0)) ≡ pos m →
        (IsBefore plan entries e i c k m → ⊥) → KeepsOrder plan entries e c → ⊥
    pub some_class : (i : ℕ) → i < length plan.graph.tasks → 1 ≤ classes plan.graph i
    pub length_of : (entry : Entry) → IsPiece plan entry → entry.units ≤ plan.graph.hyper

  module _ (laws : Laws) where
    order_or_not : ArePieces plan entries → AreWhole plan entries → (e c : ℕ) → e < length plan.graph.edges → c < classes plan.graph (edge_at plan.graph e).to.0 →
        KeepsOrder plan entries e c ⊎ (KeepsOrder plan entries e c → ⊥)
    order_or_not pieces whole e c inside class = go (edge_at plan.graph e).from refl
      where
        late : (n : ℕ) → 1 ≤ n → MAX_PREFIX ≤ c + MAX_PREFIX * n
        late (suc n) some = (let e : MAX_PREFIX * suc n ≡ MAX_PREFIX * n + MAX_PREFIX = omega arith in omega (arith, e))
        late zero some = absurd (omega (arith, some))

        go : (from : Producer) → (edge_at plan.graph e).from ≡ from → KeepsOrder plan entries e c ⊎ (KeepsOrder plan entries e c → ⊥)
        go (producers.Constant value) at = inl (λ i q z comes. absurd (subst (λ (p : Producer). ComesFrom p i) at comes))
        go (producers.Port task out) at =
            (let comes : ComesFrom (edge_at plan.graph e).from task.0 = subst (λ (p : Producer). ComesFrom p task.0) (sym at) refl in
            let read = laws.reads e task.0 (c + MAX_PREFIX * classes plan.graph (edge_at plan.graph e).to.0) inside comes
            (late (classes plan.graph (edge_at plan.graph e).to.0) (laws.some_class (edge_at plan.graph e).to.0 (laws.to e inside))) in
            elim (cases_lt ((sums_of entries (edge_at plan.graph e).to.0 c).first + MAX_PREFIX * plan.graph.hyper)
            ((sums_of entries task.0 (read.0 % classes plan.graph task.0)).end + read.0 / classes plan.graph task.0 * plan.graph.hyper)) [
              | inl less ↦ inr (laws.broken pieces whole e task.0 c MAX_PREFIX read.0 inside comes class read.2 (λ before. omega (arith, less, before)))
              | inr before ↦ inl (laws.kept e task.0 c MAX_PREFIX read.0 inside comes read.2 before)
            ])

    abbrev pub GoodOrFault : Type 0
    GoodOrFault = IsGood plan entries ⊎ ((fault : TableFault) × (fault ≢ faults.Memory) × IsFault plan entries fault)

    by_order : ArePieces plan entries → AreWhole plan entries → AreApart plan.graph.hyper entries → GoodOrFault
    by_order pieces whole apart =
        elim (first_pair (KeepsOrder plan entries) (length plan.graph.edges) (λ e. classes plan.graph (edge_at plan.graph e).to.0) (order_or_not pieces whole)) [
          | inl all ↦ inl (record { pieces = pieces; whole = whole; apart = apart; order = all })
          | inr first ↦
              inr (
                faults.Order (record { 0 = first.0 }) first.1,
                (λ same. cc),
                (
                  pieces,
                  whole,
                  apart,
                  record {
                    edge = first.2.row;
                    class = first.2.column;
                    disorder = first.2.fails;
                    before = first.2.before;
                  },
                ),
              )
        ]

    by_clash : ArePieces plan entries → AreWhole plan entries → GoodOrFault
    by_clash pieces whole = elim (apart_or_clash (pieces_short plan is entries pieces laws.length_of)) [
      | inl apart ↦ by_order pieces whole apart
      | inr clash ↦ inr (faults.Clash (clash.0 + 3) (clash.1 + 3), (λ same. cc), clash.2 (pieces, whole))
    ]

    by_units : ArePieces plan entries → GoodOrFault
    by_units pieces =
        elim (first_pair (IsWhole plan entries) (length plan.graph.tasks) (classes plan.graph) (λ i c _ _. cases_eq (units_of entries i c) (task_at plan.graph i).wcet)) [
          | inl all ↦ by_clash pieces all
          | inr first ↦
              inr (
                faults.Units (record { 0 = first.0 }) first.1,
                (λ same. cc),
                (
                  pieces,
                  record {
                    task = first.2.row;
                    class = first.2.column;
                    not_whole = first.2.fails;
                    before = first.2.before;
                  },
                ),
              )
        ]

    pub good_or_faulty : GoodOrFault
    good_or_faulty = elim (all_or_least PieceAt NoPieceAt piece_at_or_not (length entries)) [
      | inl all ↦ by_units (λ k entry stands. all k (slice_get_within entries k entry stands) entry stands)
      | inr least ↦ inr (
        faults.Piece (least.0 + 3),
        (λ same. cc),
        record {
          k = least.0;
          entry = least.1.is.0;
          stands = least.1.is.1;
          in_line = refl;
          no_piece = least.1.is.2;
          before = λ j other less stands. least.1.earlier j less other stands;
        },
      )
    ]
