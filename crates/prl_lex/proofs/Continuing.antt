-- An answer depends on the tokens that were taken and the class of the next one alone.
use Rattle.std.proofs.Common.{◌≡◌, ◌==◌, ◌≤◌, ◌<◌, ◌+◌, ℕ, zero, suc, true, false, cond, List, [], ◌∷◌, ◌++◌, length, Option, Some, None, Ok, Err, refl, sym, ap, ◌∙◌, subst, ⊎_elim, arith, append_assoc, length-append}
use Rattle.std.proofs.lemmas.Bool.{cond-true, cond-false, cases_Bool, false≢true, and_parts, not-true}
use Rattle.prl_base.specs.Reading.{◌>>=◌}
use Rattle.prl_lex.specs.Vocabulary.{Lexeme, first_place, Grammar, token, give, action, both, either, many, placed, inner, written, next_class, IsApart, Stuck, Deep, Read, next_in, choice, one_at}
use Rattle.prl_lex.specs.Vocabulary.{many_up_to, many_at, from_first, Begins, shape, read_with}
use Rattle.prl_lex.specs.code.Reads.{Shape}
use Rattle.prl_lex.specs.code.Shapes.{read}
use Rattle.prl_lex.proofs.Answers.{Taken, Told, told_as, told, told_many, fewer}
use Rattle.prl_lex.proofs.Basics.{next_class_append, next_in_class, same_cut}
use Rattle.prl_lex.proofs.Beginnings.{Some as SomeText, begins}

-- a tree before these tokens, or none
abbrev pub answer : {A : Type 0} → Option A → List Lexeme → Read A
answer (Some a) rest = Ok (a, rest)
answer None rest = Err (Stuck (length rest))

abbrev pub Continues : {A : Type 0} → (List Lexeme → Read A) → Type 0
Continues {A} p = (w rest other : List Lexeme) (o : Option A) → next_class rest ≡ next_class other → p (w ++ rest) ≡ answer o rest → p (w ++ other) ≡ answer o other

abbrev pub pair : {A : Type 0} → A → List Lexeme → A × List Lexeme
pair a rest = (a, rest)

-- where the answer is made of another's tree, the other one
made_of : {A B : Type 0} (f : A → B) (r : Read A) (o : Option B) (rest other : List Lexeme) → (r >>= λ x. Ok (f x.0, x.1)) ≡ answer o rest
    → (q : Option A) × (r ≡ answer q rest) × ((answer q other >>= λ x. Ok (f x.0, x.1)) ≡ answer o other)
made_of {A} {B} f (Ok x) (Some b) rest other e =
    let same : pair (f x.0) x.1 ≡ pair b rest = cc in
    (Some x.0, ap (λ y. Ok (x.0, y.1)) same, ap (λ y. Ok (y.0, other)) same)
made_of f (Ok x) None rest other e = cc
made_of f (Err s) (Some b) rest other e = cc
made_of f (Err s) None rest other e = (None, cc, refl)

action_continues : {A B : Type 0} (f : A → B) (p : List Lexeme → Read A) → Continues p → Continues (λ ts. p ts >>= λ x. Ok (f x.0, x.1))
action_continues f p on w rest other o n e =
    let made = made_of f (p (w ++ rest)) o rest other e in
    ap (λ r. r >>= λ x. Ok (f x.0, x.1)) (on w rest other made.0 n made.1) ∙ made.2

first_continues : {A : Type 0} (p : List Lexeme → Read A) → ((ts : List Lexeme) (a : A) (rest : List Lexeme) → p ts ≡ Ok (a, rest) → length rest < length ts) → Continues p → Continues (from_first p)
first_continues p less on (t ∷ w) rest other o n e = action_continues (λ a. (t.at, a)) p on (t ∷ w) rest other o n e
first_continues {A} p less on [] rest other o n e = let made = made_of (λ a. (first_place rest, a)) (p rest) o rest other e in go made.0 made.1 made.2
  where
    go : (q : Option A) → p rest ≡ answer q rest → (answer q other >>= λ x. Ok ((first_place rest, x.0), x.1)) ≡ answer o other → from_first p other ≡ answer o other
    go (Some a) d e = let lt = less rest a rest d in absurd (omega arith)
    go None d e = ap (λ r. r >>= λ x. Ok ((first_place other, x.0), x.1)) (on [] rest other None n d) ∙ e

-- where a reader came to
came : {A : Type 0} (W : A → List Lexeme → Type 0) (ts : List Lexeme) (o : Option A) (rest : List Lexeme) → Told (Unit {0}) W ts (answer o rest) → (u : List Lexeme) × (v : List Lexeme) × (ts ≡ u ++ v) × (length rest ≡ length v)
came W ts (Some a) rest t = (t.text, rest, t.whole, refl)
came W ts None rest c = (c.taken, c.rest, c.whole, c.count)

with_continues : {A B C : Type 0} (W : A → List Lexeme → Type 0) (V : B → List Lexeme → Type 0) (f : A → B → C) (p : List Lexeme → Read A) (q : List Lexeme → Read B)
    → ((ts : List Lexeme) → Told (Unit {0}) W ts (p ts)) → ((ts : List Lexeme) → Told (Unit {0}) V ts (q ts)) → Continues p → Continues q → Continues (read_with f p q)
with_continues {A} {B} {C} W V f p q p_told q_told p_on q_on w rest other o n e = go (p (w ++ rest)) refl o e
  where
    go : (r : Read A) → p (w ++ rest) ≡ r → (o : Option C) → (r >>= λ x. (q x.1 >>= λ y. Ok (f x.0 y.0, y.1))) ≡ answer o rest → read_with f p q (w ++ other) ≡ answer o other
    go (Err s) d (Some c) e = cc
    go (Err s) d None e = let stuck : s ≡ Stuck (length rest) = cc in ap (λ r. r >>= λ x. (q x.1 >>= λ y. Ok (f x.0 y.0, y.1))) (p_on w rest other None n (d ∙ ap Err stuck))
    go (Ok x) d o e =
        let P : Read A → Type 0 = Told (Unit {0}) W (w ++ rest) in
        let Q : Read B → Type 0 = Told (Unit {0}) V x.1 in
        let t : Taken W (w ++ rest) x.0 x.1 = subst P d (p_told (w ++ rest)) in
        let made = made_of (f x.0) (q x.1) o rest other e in
        let k = came V x.1 made.0 rest (subst Q made.1 (q_told x.1)) in
        let cut = same_cut w (t.text ++ k.0) rest k.1 (t.whole ∙ ap (λ r. t.text ++ r) k.2 ∙ sym (append_assoc t.text k.0 k.1)) k.3 in
        let between : x.1 ≡ k.0 ++ rest = k.2 ∙ ap (λ r. k.0 ++ r) (sym cut.1) in
        let moved : (more : List Lexeme) → p (w ++ more) ≡ p (t.text ++ (k.0 ++ more)) = λ more. ap (λ u. p (u ++ more)) cut.0 ∙ ap p (append_assoc t.text k.0 more) in
        let first : p (t.text ++ (k.0 ++ rest)) ≡ answer (Some x.0) (k.0 ++ rest) = sym (moved rest) ∙ d ∙ ap (λ r. Ok (x.0, r)) between in
        ap (λ r. r >>= λ x. (q x.1 >>= λ y. Ok (f x.0 y.0, y.1))) (moved other ∙ p_on t.text (k.0 ++ rest) (k.0 ++ other) (Some x.0) (next_class_append k.0 rest other n) first)
        ∙ ap (λ r. r >>= λ y. Ok (f x.0 y.0, y.1)) (q_on k.0 rest other made.0 n (ap q (sym between) ∙ made.1))
        ∙ made.2

choice_continues : {A : Type 0} (ks : List ℕ) (p q : List Lexeme → Read A) → Continues p → Continues q → Continues (choice ks p q)
choice_continues ks p q p_on q_on w rest other o n e =
    let same : next_in ks (w ++ other) ≡ next_in ks (w ++ rest) = next_in_class ks (w ++ other) (w ++ rest) (sym (next_class_append w rest other n)) in
    ⊎_elim
    (λ yes. cond-true _ _ _ (same ∙ yes) ∙ p_on w rest other o n (sym (cond-true _ _ _ yes) ∙ e))
    (λ never. cond-false _ _ _ (same ∙ never) ∙ q_on w rest other o n (sym (cond-false _ _ _ never) ∙ e))
    (cases_Bool (next_in ks (w ++ rest)))

give_continues : {A : Type 0} (x : A) → Continues (λ ts. Ok (x, ts))
give_continues x w rest other (Some a) n e =
    let same : pair x (w ++ rest) ≡ pair a rest = cc in
    let own : w ≡ [] = (same_cut w [] rest rest (ap (λ y. y.1) same) refl).0 in
    ap (λ v. Ok (x, v ++ other)) own ∙ ap (λ y. Ok (y.0, other)) same
give_continues x w rest other None n e = cc

pub deep_continues : {A : Type 0} → Continues {A = A} (λ ts. Err Deep)
deep_continues w rest other (Some a) n e = cc
deep_continues w rest other None n e = cc

one_continues : (class : ℕ) → Continues (one_at class)
one_continues class [] [] [] o n e = e
one_continues class [] [] (u ∷ other) o n e = cc
one_continues class [] (t ∷ rest) [] o n e = cc
one_continues class [] (t ∷ rest) (u ∷ other) o n e = go (t.class == class) o refl e
  where
    go : (b : _) (o : Option Lexeme) → (t.class == class) ≡ b → cond b (Ok (t, rest)) (Err (Stuck (length (t ∷ rest)))) ≡ answer o (t ∷ rest) → one_at class (u ∷ other) ≡ answer o (u ∷ other)
    go true (Some a) d e = let same : pair t rest ≡ pair a (t ∷ rest) = cc in absurd (omega (arith, ap (λ x. length x.1) same))
    go true None d e = cc
    go false (Some a) d e = cc
    go false None d e = let same : t.class ≡ u.class = cc in cond-false (u.class == class) _ _ (ap (λ c. c == class) (sym same) ∙ d)
one_continues class (t ∷ w) rest other o n e = go (t.class == class) o e
  where
    go : (b : _) (o : Option Lexeme) → cond b (Ok (t, w ++ rest)) (Err (Stuck (length (t ∷ (w ++ rest))))) ≡ answer o rest → cond b (Ok (t, w ++ other)) (Err (Stuck (length (t ∷ (w ++ other))))) ≡ answer o other
    go true o e = give_continues t w rest other o n e
    go false (Some a) e = cc
    go false None e = let count : length (t ∷ (w ++ rest)) ≡ length rest = cc in absurd (omega (arith, count, length-append w rest))

-- one reader for lists of each length, where greater ones answer alike
pub at_length : {A : Type 0} (r : ℕ → List Lexeme → Read A) → ((n m : ℕ) (ts : List Lexeme) → length ts ≤ n → length ts ≤ m → r n ts ≡ r m ts) → ((n : ℕ) → Continues (r n)) → Continues (λ ts. r (length ts) ts)
at_length r agree on w rest other o n e =
    let d : ℕ = length (w ++ rest) + length (w ++ other) in
    agree (length (w ++ other)) d (w ++ other) (omega arith) (omega arith)
    ∙ on d w rest other o n (agree d (length (w ++ rest)) (w ++ rest) (omega arith) (omega arith) ∙ e)

-- the readings go on alike
same_after : {A B : Type 0} (r : Read A) (f g : A × List Lexeme → Read B) → ((x : A × List Lexeme) → r ≡ Ok x → f x ≡ g x) → (r >>= f) ≡ (r >>= g)
same_after (Ok x) f g h = h x refl
same_after (Err s) f g h = refl

module _ {A : Type 0} (ks : List ℕ) (p : List Lexeme → Read A) (less : (ts : List Lexeme) (a : A) (rest : List Lexeme) → p ts ≡ Ok (a, rest) → length rest < length ts) where
  many_agree : (n m : ℕ) (ts : List Lexeme) → length ts ≤ n → length ts ≤ m → many_up_to ks p n ts ≡ many_up_to ks p m ts
  unfolding many_up_to
  many_agree zero zero ts a b = refl
  many_agree zero (suc m) [] a b = refl
  many_agree zero (suc m) (t ∷ ts) a b = absurd (omega arith)
  many_agree (suc n) zero [] a b = refl
  many_agree (suc n) zero (t ∷ ts) a b = absurd (omega arith)
  many_agree (suc n) (suc m) ts a b =
      ap (λ x. cond (next_in ks ts) x (Ok ([], ts))) (same_after (p ts) _ _ (λ x e.
      let lt = less ts x.0 x.1 e in
      ap (λ y. y >>= λ y. Ok (x.0 ∷ y.0, y.1)) (many_agree n m x.1 (omega arith) (omega arith))))

  -- one, and the others
  pub many_step : (ts : List Lexeme) → many_at ks p ts ≡ choice ks (read_with (λ a xs. a ∷ xs) p (many_at ks p)) (λ ts. Ok ([], ts)) ts
  unfolding many_up_to
  many_step [] = refl
  many_step (t ∷ ts) =
      ap (λ x. cond (next_in ks (t ∷ ts)) x (Ok ([], t ∷ ts))) (same_after (p (t ∷ ts)) _ _ (λ x e.
      let lt = less (t ∷ ts) x.0 x.1 e in
      ap (λ y. y >>= λ y. Ok (x.0 ∷ y.0, y.1)) (many_agree (length ts) (length x.1) x.1 (omega arith) (omega arith))))

module _ {R : Type 0} (i : Shape) (I : R → List Lexeme → Type 0) (p : List Lexeme → Read R) (D : List Lexeme → Type 0) (begun : (t : R) (w : List Lexeme) → I t w → Begins i w) (some : SomeText I) (inside : (ts : List Lexeme) → Told (D ts) I ts (p ts)) where
  tells : {A : Type 0} (g : Grammar R A) → IsApart i g → (ts : List Lexeme) → Told (Unit {0}) (written I g) ts (read i p g ts)
  tells g h ts = told_as ts (read i p g ts) (λ d. tt) (λ a w m. m) (told i I p D begun some inside false g h (λ e. absurd (false≢true e)) ts)

  pub leaves_fewer : {A : Type 0} (g : Grammar R A) → IsApart i (placed g) → (ts : List Lexeme) (a : A) (rest : List Lexeme) → read i p g ts ≡ Ok (a, rest) → length rest < length ts
  leaves_fewer {A} g h ts a rest e =
      let parts = and_parts _ _ h in
      let P : Read A → Type 0 = Told (Unit {0}) (written I g) ts in
      fewer (shape i g) (not-true _ parts.1) (begins i I begun g) ts a rest (subst P e (tells g parts.0 ts))

  many_continues : {A : Type 0} (g : Grammar R A) → IsApart i (placed g) → Continues (read i p g) → (n : ℕ) → Continues (many_up_to (shape i g).first (read i p g) n)
  unfolding many_up_to
  many_continues g h on zero = choice_continues (shape i g).first (λ ts. Err Deep) (λ ts. Ok ([], ts)) deep_continues (give_continues [])
  many_continues g h on (suc n) =
      let parts = and_parts _ _ h in
      choice_continues (shape i g).first (read_with (λ a xs. a ∷ xs) (read i p g) (many_up_to (shape i g).first (read i p g) n)) (λ ts. Ok ([], ts))
      (with_continues (written I g) (written I (many g)) (λ a xs. a ∷ xs) (read i p g) (many_up_to (shape i g).first (read i p g) n) (tells g parts.0)
      (λ ts. told_many (shape i g).first (read i p g) (length ts) (fewer (shape i g) (not-true _ parts.1) (begins i I begun g)) (λ us le. tells g parts.0 us) n ts (omega arith) (λ long. tt))
      on (many_continues g h on n))
      (give_continues [])

  pub continues : Continues p → {A : Type 0} (g : Grammar R A) → IsApart i g → Continues (read i p g)
  continues on (token class) h = one_continues class
  continues on (give x) h = give_continues x
  continues on (action g f) h = action_continues f (read i p g) (continues on g h)
  continues on (both g k) h =
      let parts = and_parts _ _ (and_parts _ _ h).0 in
      with_continues (written I g) (written I k) (λ a b. (a, b)) (read i p g) (read i p k) (tells g parts.0) (tells k parts.1) (continues on g parts.0) (continues on k parts.1)
  continues on (either g k) h =
      let parts = and_parts _ _ (and_parts _ _ h).0 in
      choice_continues (shape i g).first (read i p g) (read i p k) (continues on g parts.0) (continues on k parts.1)
  continues on (many g) h =
      let parts = and_parts _ _ h in
      at_length (many_up_to (shape i g).first (read i p g)) (many_agree (shape i g).first (read i p g) (leaves_fewer g parts.0)) (many_continues g parts.0 (continues on g (and_parts _ _ parts.0).0))
  continues on (placed g) h = first_continues (read i p g) (leaves_fewer g h) (continues on g (and_parts _ _ h).0)
  continues on inner h = on
