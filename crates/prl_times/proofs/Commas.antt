-- Names of tasks with commas between them.
use Rattle.prl_base.proofs.Standard.{◌≡◌, ◌≢◌, ◌+◌, ◌<◌, ◌++◌, ◌∙◌, ◌⊎◌, inl, inr, ℕ, List, [], ◌∷◌, All, ap, append-nil, append_assoc, codes, drop, drop-cons, flat_map, flat_map-append, get_or, length, refl, suc, sym, arith, take, take-append-drop}
use Rattle.prl_base.specs.declared.numbers.TaskNo.{TaskNo}
use Rattle.prl_plan.specs.declared.graphs.TaskGraph.{TaskGraph}
use Rattle.prl_timetext.specs.Names.{name_at, names_joined}
use Rattle.prl_times.specs.Refused.{IsNoTask, NamesNoTask}

-- the names of some tasks, each with a comma behind it
abbrev pub fronts : TaskGraph → List TaskNo → List ℕ
fronts graph tasks = flat_map (λ task. name_at graph task ++ codes ",") tasks

pub fronts_more : (graph : TaskGraph) (tasks : List TaskNo) (task : TaskNo) → fronts graph (tasks ++ task ∷ []) ≡ fronts graph tasks ++ (name_at graph task ++ codes ",")
fronts_more graph tasks task =
    flat_map-append (λ (t : TaskNo). name_at graph t ++ codes ",") tasks (task ∷ [])
    ∙ ap (λ (xs : List ℕ). fronts graph tasks ++ xs) (append-nil (name_at graph task ++ codes ","))

-- those of some tasks, and then the last one
pub joined_last : (graph : TaskGraph) (tasks : List TaskNo) (task : TaskNo) → names_joined graph (tasks ++ task ∷ []) ≡ fronts graph tasks ++ name_at graph task
joined_last graph [] task = refl
joined_last graph (t ∷ []) task = ap (λ (xs : List ℕ). xs ++ name_at graph task) (sym (append-nil (name_at graph t ++ codes ",")))
joined_last graph (t ∷ (u ∷ us)) task =
    ap (λ (xs : List ℕ). (name_at graph t ++ codes ",") ++ xs) (joined_last graph (u ∷ us) task)
    ∙ sym (append_assoc (name_at graph t ++ codes ",") (fronts graph (u ∷ us)) (name_at graph task))

-- they end with a comma, or are empty
pub fronts_end : (graph : TaskGraph) (tasks : List TaskNo) → (fronts graph tasks ≡ []) ⊎ ((before : List ℕ) × (fronts graph tasks ≡ before ++ codes ","))
fronts_end graph [] = inl refl
fronts_end graph (t ∷ ts) = go (fronts_end graph ts)
  where
    own : List ℕ
    own = name_at graph t ++ codes ","

    go : (fronts graph ts ≡ []) ⊎ ((before : List ℕ) × (fronts graph ts ≡ before ++ codes ",")) → (fronts graph (t ∷ ts) ≡ []) ⊎ ((before : List ℕ) × (fronts graph (t ∷ ts) ≡ before ++ codes ","))
    go (inl none) = inr (name_at graph t, ap (λ (xs : List ℕ). own ++ xs) none ∙ append-nil own)
    go (inr some) = inr (own ++ some.0, ap (λ (xs : List ℕ). own ++ xs) some.1 ∙ sym (append_assoc own some.0 (codes ",")))

-- a word at a comma
pub cut_at : (rest : List ℕ) (k : ℕ) → k < length rest → get_or rest k 0 ≡ 44 → rest ≡ take k rest ++ (codes "," ++ drop (k + 1) rest)
cut_at rest k inside comma =
    let next : suc k ≡ k + 1 = omega arith in
    sym (take-append-drop k rest)
    ∙ ap (λ (xs : List ℕ). take k rest ++ xs) (drop-cons rest k 0 inside ∙ ap (λ (b : ℕ). b ∷ drop (suc k) rest) comma ∙ ap (λ (n : ℕ). 44 ∷ drop n rest) next)

module _ (graph : TaskGraph) (tasks : List TaskNo) (word rest : List ℕ) (so_far : word ≡ fronts graph tasks ++ rest) where
  -- a task more, and a comma behind its name
  pub one_more : (task : TaskNo) (part more : List ℕ) → rest ≡ part ++ (codes "," ++ more) → name_at graph task ≡ part → word ≡ fronts graph (tasks ++ task ∷ []) ++ more
  one_more task part more cut same =
      so_far ∙ ap (λ (xs : List ℕ). fronts graph tasks ++ xs) (cut ∙ ap (λ (xs : List ℕ). xs ++ (codes "," ++ more)) (sym same) ∙ sym (append_assoc (name_at graph task) (codes ",") more))
      ∙ sym (append_assoc (fronts graph tasks) (name_at graph task ++ codes ",") more)
      ∙ ap (λ (xs : List ℕ). xs ++ more) (sym (fronts_more graph tasks task))

  -- the last one
  pub last_one : (task : TaskNo) → name_at graph task ≡ rest → names_joined graph (tasks ++ task ∷ []) ≡ word
  last_one task same = joined_last graph tasks task ∙ ap (λ (xs : List ℕ). fronts graph tasks ++ xs) same ∙ sym so_far

  -- what stands up to the next comma is the name of no task
  pub lacks_part : (part more : List ℕ) → rest ≡ part ++ (codes "," ++ more) → All (λ b. b ≢ 44) part → IsNoTask graph part → NamesNoTask graph word
  lacks_part part more cut whole unknown = record {
    front = fronts graph tasks;
    part = part;
    back = codes "," ++ more;
    parts = so_far ∙ ap (λ (xs : List ℕ). fronts graph tasks ++ xs) cut;
    begins = fronts_end graph tasks;
    ends = inr (more, refl);
    whole = whole;
    unknown = unknown;
  }

  -- or up to the end
  pub lacks_last : All (λ b. b ≢ 44) rest → IsNoTask graph rest → NamesNoTask graph word
  lacks_last whole unknown = record {
    front = fronts graph tasks;
    part = rest;
    back = [];
    parts = so_far ∙ ap (λ (xs : List ℕ). fronts graph tasks ++ xs) (sym (append-nil rest));
    begins = fronts_end graph tasks;
    ends = inl refl;
    whole = whole;
    unknown = unknown;
  }
