-- A loop over the links of a stem reads the stem.
use Rattle.prl_base.proofs.Standard.{◌≡◌, cond, true, false, Bool, List, [], ◌∷◌, ◌++◌, Ok, Err, refl, sym, ap, ◌∙◌, append_assoc, append-nil}
use Rattle.prl_ast.specs.Trees.{Root}
use Rattle.prl_ast.specs.declared.expressions.PlacedOp.{PlacedOp}
use Rattle.prl_base.specs.Reading.{◌>>=◌, FailsAs}
use Rattle.prl_base.specs.declared.operators.Op.{Op}
use Rattle.prl_base.specs.declared.places.Span.{Span}
use Rattle.prl_base.specs.declared.values.Value.{Value}
use Rattle.prl_base.specs.declared.operators.Op.TheVariants as ops
use Rattle.prl_lex.specs.Vocabulary.{stop_of, Lexeme, Read, next_in, ◌=>◌, shape, inner_of, read_at, read_nested}
use Rattle.prl_lex.specs.declared.reading.Stop.{Stop}
use Rattle.prl_lex.specs.declared.reading.Stop.TheVariants as stops
use Rattle.prl_lex.proofs.Nesting.{nested_step}
use Rattle.prl_syntax.specs.Vocabulary.{Fixed, Grammar, the, Const, Base, Prefix, AfterConst, Stem, programs, Step, last, AfterLink, ConstantLink, NextLink, with_prefixes, after_step, StemTree}
use Rattle.prl_syntax.specs.Vocabulary.{prefixed}
use Rattle.prl_syntax.specs.code.Links.{prefix}
use Rattle.prl_syntax.specs.declared.words.Fixed.TheVariants as fixed
use Rattle.prl_syntax.proofs.Right.{right}

bind_assoc : {A B C : Type 0} (r : Read A) (g : A × List Lexeme → Read B) (k : B × List Lexeme → Read C) → ((r >>= g) >>= k) ≡ (r >>= λ x. (g x >>= k))
bind_assoc (Ok x) g k = refl
bind_assoc (Err e) g k = refl

cond_bind : {A B : Type 0} (b : Bool) (x y : Read A) (k : A × List Lexeme → Read B) (x' y' : Read B) → (x >>= k) ≡ x' → (y >>= k) ≡ y' → (cond b x y >>= k) ≡ cond b x' y'
cond_bind true x y k x' y' e f = e
cond_bind false x y k x' y' e f = f

cond_both : {A B C : Type 0} (b : Bool) (x y : Read A) (k : A × List Lexeme → Read C) (x' y' : Read B) (k' : B × List Lexeme → Read C) → (x >>= k) ≡ (x' >>= k') → (y >>= k) ≡ (y' >>= k') → (cond b x y >>= k) ≡ (cond b x' y' >>= k')
cond_both true x y k x' y' k' e f = e
cond_both false x y k x' y' k' e f = f

abbrev first_of : {A : Type 0} → Grammar A → List Lexeme → Bool
first_of g ts = next_in (shape (inner_of programs) g).first ts

abbrev applied : {A : Type 0} → (Value × (Value → A)) × List Lexeme → Read A
applied x = Ok (x.0.1 x.0.0, x.1)

abbrev next : Step × List Lexeme → Read StemTree
next l = after_step l.0 l.1

abbrev beside : Span → StemTree × List Lexeme → Read (Span × StemTree)
beside p s = Ok ((p, s.0), s.1)

abbrev waiting : (Span × StemTree) × List Lexeme → Read (Op → StemTree)
waiting x = Ok ((λ op. prefixed (record { op = op; at = x.0.0 }) x.0.1), x.1)

abbrev with_op : Op → (Op → StemTree) × List Lexeme → Read StemTree
with_op op x = Ok (x.0 op, x.1)

abbrev after_prefix : Op → Span × List Lexeme → Read StemTree
after_prefix op x = next (prefix (record { op = op; at = x.0 }), x.1)

-- a prefix, as a link and then the stem that it is applied to, and as one
prefix_is : (f : Fixed) (op : Op) (ts : List Lexeme) → (read_at programs (the f) ts >>= after_prefix op) ≡ (read_at programs (Prefix f) ts >>= with_op op)
unfolding Prefix
prefix_is f op ts = go (read_at programs (the f) ts)
  where
    inside : (p : Span) (r : Read StemTree) → (r >>= λ s. Ok (prefixed (record { op = op; at = p }) s.0, s.1)) ≡ (((r >>= beside p) >>= waiting) >>= with_op op)
    inside p (Ok s) = refl
    inside p (Err e) = refl

    go : (r : Read Span) → (r >>= after_prefix op) ≡ (((r >>= λ x. (read_nested programs x.1 >>= beside x.0)) >>= waiting) >>= with_op op)
    go (Ok x) = inside x.0 (read_nested programs x.1)
    go (Err e) = refl

abbrev link_of : Value → (Value → Step) × List Lexeme → Read StemTree
link_of c x = next (x.0 c, x.1)

abbrev whole_of : Value → (Value → StemTree) × List Lexeme → Read StemTree
whole_of c x = Ok (x.0 c, x.1)

-- what stands after a constant
after_is : (c : Value) (ts : List Lexeme) → (read_at programs AfterLink ts >>= λ x. next (x.0 c, x.1)) ≡ (read_at programs AfterConst ts >>= λ x. Ok (x.0 c, x.1))
unfolding AfterLink AfterConst Prefix programs
after_is c ts =
    cond_both (first_of (Prefix fixed.Fby) ts) _ _ (link_of c) _ _ (whole_of c) (operated fixed.Fby ops.Fby)
    (cond_both (first_of (Prefix fixed.Cons) ts) _ _ (link_of c) _ _ (whole_of c) (operated fixed.Cons ops.Cons) refl)
  where
    operated : (f : Fixed) (op : Value → Op) → (read_at programs (the f => λ p c. prefix (record { op = op c; at = p })) ts >>= link_of c) ≡ (read_at programs (Prefix f => λ p c. p (op c)) ts >>= whole_of c)
    operated f op = bind_assoc (read_at programs (the f) ts) _ (link_of c) ∙ prefix_is f (op c) ts ∙ sym (bind_assoc (read_at programs (Prefix f) ts) _ (whole_of c))

link_is : (ts : List Lexeme) → (read_at programs NextLink ts >>= next) ≡ read_at programs Stem ts
unfolding NextLink ConstantLink Stem Prefix programs
link_is ts =
    cond_bind (first_of Base ts) _ _ next _ _ (bind_assoc (read_at programs Base ts) _ next)
    (cond_bind (first_of (the fixed.Tail) ts) _ _ next _ _ (bind_assoc (read_at programs (the fixed.Tail) ts) _ next ∙ prefix_is fixed.Tail ops.Tail ts) (go (read_at programs Const ts)))
  where
    go : (r : Read Value) → (((r >>= λ c. (read_at programs AfterLink c.1 >>= λ x. Ok ((c.0, x.0), x.1))) >>= applied) >>= next) ≡ ((r >>= λ c. (read_at programs AfterConst c.1 >>= λ x. Ok ((c.0, x.0), x.1))) >>= applied)
    go (Ok c) =
        ap (λ r. r >>= next) (bind_assoc (read_at programs AfterLink c.1) _ applied) ∙ bind_assoc (read_at programs AfterLink c.1) _ next ∙ after_is c.0 c.1
        ∙ sym (bind_assoc (read_at programs AfterConst c.1) _ applied)
    go (Err e) = refl

stem_step : (ts : List Lexeme) → read_nested programs ts ≡ read_at programs Stem ts
unfolding programs
stem_step ts = nested_step programs right ts

by_links : (ts : List Lexeme) → read_nested programs ts ≡ (read_at programs NextLink ts >>= next)
by_links ts = stem_step ts ∙ sym (link_is ts)

regroup : (front : List PlacedOp) (op : PlacedOp) (r : Read StemTree) → with_prefixes front (r >>= λ s. Ok (prefixed op s.0, s.1)) ≡ with_prefixes (front ++ op ∷ []) r
regroup front op (Ok s) = ap (λ pre. Ok ((pre, s.0.1), s.1)) (sym (append_assoc front (op ∷ []) s.0.0))
regroup front op (Err e) = refl

pub stem_goes_on : (front : List PlacedOp) (rest after : List Lexeme) (op : PlacedOp) (total : Read StemTree) → read_at programs NextLink rest ≡ Ok (prefix op, after)
    → with_prefixes front (read_nested programs rest) ≡ total → with_prefixes (front ++ op ∷ []) (read_nested programs after) ≡ total
stem_goes_on front rest after op total e so_far =
    sym (ap (with_prefixes front) (by_links rest ∙ ap (λ r. r >>= next) e) ∙ regroup front op (read_nested programs after)) ∙ so_far

pub stem_ends : (front : List PlacedOp) (rest after : List Lexeme) (root : Root) (total : Read StemTree) → read_at programs NextLink rest ≡ Ok (last root, after)
    → with_prefixes front (read_nested programs rest) ≡ total → total ≡ Ok ((front, root), after)
stem_ends front rest after root total e so_far =
    sym so_far ∙ ap (with_prefixes front) (by_links rest ∙ ap (λ r. r >>= next) e) ∙ ap (λ pre. Ok ((pre, root), after)) (append-nil front)

pub stem_fails : (e : Stop) (front : List PlacedOp) (rest : List Lexeme) (total : Read StemTree) → FailsAs (stop_of e) (read_at programs NextLink rest)
    → with_prefixes front (read_nested programs rest) ≡ total → FailsAs (stop_of e) total
stem_fails stops.Memory front rest total h so_far = tt
stem_fails (stops.Unexpected left) front rest total h so_far = sym so_far ∙ ap (with_prefixes front) (by_links rest ∙ ap (λ r. r >>= next) h)
