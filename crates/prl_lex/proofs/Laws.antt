-- What is known of the tokens of a text.
use Rattle.prl_base.proofs.Standard.{◌≡◌, ℕ, zero, suc, ◌+◌, ◌-◌, ◌<◌, ◌≤◌, Bool, true, false, cond, leb, List, [], ◌∷◌, length, take, drop, Result, Ok, Err, IfOk, All, refl, sym, ap, ◌∙◌, subst}
use Rattle.prl_base.proofs.Standard.{arith, length-drop, leb-true, drop-drop, length-take-le, All-from_recursion, AllPass-from_list_all, is_ascii_digit, AllPass, AllByRecursion}
use Rattle.prl_base.specs.Vocabulary.{is_word, IsName, ◌>>=◌, GivesBut}
use Rattle.prl_lex.specs.Vocabulary.{Kind, Token, LexFault, Piece, is_number, kind_of, piece_of, FitsPiece, token_text, token_at, depth_after, checked, with_piece, tokens_from}
use Rattle.prl_lex.specs.declared.tokens.Kind.TheVariants.{Word, Number, Symbol}
use Rattle.prl_lex.specs.Lexing.{tokens_of, IsTokenOf, AreInOrder}
use Rattle.prl_lex.specs.declared.tokens.LexFault.TheVariants as faults
use Rattle.prl_lex.specs.declared.pieces.Piece.TheVariants as pieces
use Rattle.prl_lex.proofs.Fits.{piece_of_fits}

kind_by_tests : Bool → Bool → Kind
kind_by_tests word number = cond word Word (cond number Number Symbol)

number_tests : (word number : Bool) → kind_by_tests word number ≡ Number → number ≡ true
unfolding kind_by_tests
number_tests true number e = cc
number_tests false true e = refl
number_tests false false e = cc

word_tests : (word number : Bool) → kind_by_tests word number ≡ Word → word ≡ true
unfolding kind_by_tests
word_tests true number e = refl
word_tests false true e = cc
word_tests false false e = cc

number_digits : (bytes : List ℕ) → is_number bytes ≡ true → AllPass is_ascii_digit bytes
number_digits [] e = cc
number_digits (b ∷ bs) e = AllPass-from_list_all is_ascii_digit (b ∷ bs) e

-- the bytes of a number are digits
pub digits_of_number : (bytes : List ℕ) (kind : Kind) → kind ≡ kind_of bytes → kind ≡ Number → AllPass is_ascii_digit bytes
unfolding kind_by_tests
digits_of_number bytes kind e f = number_digits bytes (number_tests (is_word bytes) (is_number bytes) (sym e ∙ f))

record IsChecked (at : ℕ) (kind : Kind) (bytes : List ℕ) (t : Token) : Type 0 where
  kind_is : t.kind ≡ kind
  at_is : t.span.at ≡ at
  len_is : t.span.len ≡ length bytes
  short : kind ≡ Word → length bytes ≤ 64

guard : {A E : Type 0} (b : Bool) (x y : A) (e : E) → cond b (Ok x) (Err e) ≡ Ok y → (b ≡ true) × (x ≡ y)
guard true x y e h = (refl, cc)
guard false x y e h = cc

checked_is : (at deep : ℕ) (kind : Kind) (bytes : List ℕ) (t : Token) → checked at deep kind bytes ≡ Ok t → IsChecked at kind bytes t
checked_is at deep Number bytes t e =
    let is = (guard _ _ t _ e).1 in
    record { kind_is = ap (λ t. t.kind) (sym is); at_is = ap (λ t. t.span.at) (sym is); len_is = ap (λ t. t.span.len) (sym is); short = λ h. cc }
checked_is at deep Word bytes t e =
    let is = guard (leb (length bytes) 64) (token_at at Word bytes) t _ e in
    record { kind_is = ap (λ t. t.kind) (sym is.1); at_is = ap (λ t. t.span.at) (sym is.1); len_is = ap (λ t. t.span.len) (sym is.1); short = λ h. leb-true (length bytes) 64 is.0 }
checked_is at deep Symbol bytes t e =
    let is = (guard _ _ t _ e).1 in
    record { kind_is = ap (λ t. t.kind) (sym is); at_is = ap (λ t. t.span.at) (sym is); len_is = ap (λ t. t.span.len) (sym is); short = λ h. cc }

word_is_name : (bytes : List ℕ) (kind : Kind) → kind ≡ kind_of bytes → kind ≡ Word → length bytes ≤ 64 → IsName bytes
unfolding kind_by_tests
word_is_name bytes kind e f le = (word_tests (is_word bytes) (is_number bytes) (sym e ∙ f), le)

-- the tokens from a place on
record FollowFrom (text : List ℕ) (place : ℕ) (ts : List Token) : Type 0 where
  each : AllByRecursion (IsTokenOf text) ts
  order : AreInOrder place ts

none_follow : (text : List ℕ) (place : ℕ) (ts : List Token) → [] ≡ ts → FollowFrom text place ts
none_follow text place ts e = let P : List Token → Type 0 = FollowFrom text place in subst P e (record { each = tt; order = tt })

earlier : (place other : ℕ) (ts : List Token) → other ≤ place → AreInOrder place ts → AreInOrder other ts
earlier place other [] le h = tt
earlier place other (t ∷ ts) le h = (omega (arith, h.0), h.1)

ok_cons : (r : Result (List Token) LexFault) (t : Token) (ts : List Token) → (r >>= λ others. Ok (t ∷ others)) ≡ Ok ts → (others : List Token) × (r ≡ Ok others) × (t ∷ others ≡ ts)
ok_cons (Ok others) t ts e = (others, refl, cc)
ok_cons (Err fault) t ts e = cc

ok_bind : {A B : Type 0} (r : Result A LexFault) (f : A → Result B LexFault) (y : B) → (r >>= f) ≡ Ok y → (x : A) × (r ≡ Ok x) × (f x ≡ Ok y)
ok_bind (Ok x) f y e = (x, refl, e)
ok_bind (Err fault) f y e = cc

-- the token of a piece
piece_token : (text rest : List ℕ) (at n : ℕ) (kind : Kind) (t : Token) → rest ≡ drop at text → n ≤ length rest → 0 < length rest → kind ≡ kind_of (take n rest) → IsChecked at kind (take n rest) t → IsTokenOf text t
piece_token text rest at n kind t e le some k is =
    let len : length (take n rest) ≡ n = length-take-le n rest le in
    let total : length rest ≡ length text - at = ap length e ∙ length-drop at text in
    let bytes : token_text text t ≡ take n rest =
    ap (λ i. take t.span.len (drop i text)) is.at_is ∙ ap (λ i. take i (drop at text)) (is.len_is ∙ len) ∙ ap (take n) (sym e) in
    record {
      inside = omega (arith, is.at_is, is.len_is);
      word = λ w. subst IsName (sym bytes) (word_is_name (take n rest) kind k (sym is.kind_is ∙ w) (is.short (sym is.kind_is ∙ w)));
    }

with_piece_follow : (text rest : List ℕ) (at depth : ℕ) (piece : Piece) (read : ℕ → ℕ → Result (List Token) LexFault) (ts : List Token) → rest ≡ drop at text → 0 < length rest → FitsPiece rest piece
    → ((deep past : ℕ) (others : List Token) → read deep past ≡ Ok others → FollowFrom text (at + 1 + past) others)
    → with_piece at depth rest piece read ≡ Ok ts → FollowFrom text at ts
with_piece_follow text rest at depth pieces.Bad read ts e some fits rec h = cc
with_piece_follow text rest at depth (pieces.Gap n) read ts e some fits rec h =
    let later = rec depth (n - 1) ts h in
    record { each = later.each; order = earlier (at + 1 + (n - 1)) at ts (omega arith) later.order }
with_piece_follow text rest at depth (pieces.Token kind n) read ts e some fits rec h =
    let deep : ℕ = depth_after depth (take n rest) in
    let first = ok_bind (checked at deep kind (take n rest)) _ ts h in
    let t : Token = first.0 in
    let others = ok_cons (read deep (n - 1)) t ts first.2 in
    let is : IsChecked at kind (take n rest) t = checked_is at deep kind (take n rest) t first.1 in
    let later : FollowFrom text (at + 1 + (n - 1)) others.0 = rec deep (n - 1) others.0 others.1 in
    let len : length (take n rest) ≡ n = length-take-le n rest fits.1 in
    let P : List Token → Type 0 = FollowFrom text at in
    subst P others.2 (record {
      each = (piece_token text rest at n kind t e fits.1 some fits.2 is, later.each);
      order = (omega (arith, is.at_is), earlier (at + 1 + (n - 1)) (t.span.at + t.span.len) others.0 (omega (arith, is.at_is, is.len_is, fits.0)) later.order);
    })

follow : (text rest : List ℕ) (at depth past : ℕ) (ts : List Token) → rest ≡ drop at text → tokens_from at depth past rest ≡ Ok ts → FollowFrom text (at + past) ts
unfolding tokens_from
follow text [] at depth past ts e h = none_follow text (at + past) ts cc
follow text (b ∷ bs) at depth (suc past) ts e h =
    let P : ℕ → Type 0 = λ place. FollowFrom text place ts in
    let same : at + 1 + past ≡ at + suc past = omega arith in
    subst P same (follow text bs (at + 1) depth past ts (ap (drop 1) e ∙ drop-drop 1 at text) h)
follow text (b ∷ bs) at depth zero ts e h =
    let P : ℕ → Type 0 = λ place. FollowFrom text place ts in
    let same : at ≡ at + zero = omega arith in
    subst P same (with_piece_follow text (b ∷ bs) at depth (piece_of (b ∷ bs)) (λ deep past. tokens_from (at + 1) deep past bs) ts e (omega arith) (piece_of_fits (b ∷ bs))
    (λ deep past others. follow text bs (at + 1) deep past others (ap (drop 1) e ∙ drop-drop 1 at text)) h)

-- what a call knows that gives the tokens of a text, seen by `view`
pub given_each : {X : Type 0} (view : X → List Token) (r : Result X LexFault) (text : List ℕ) → GivesBut faults.Memory view r (tokens_of text) → IfOk r (λ x. All (IsTokenOf text) (view x))
given_each view (Err e) text h = tt
given_each view (Ok x) text h = All-from_recursion (IsTokenOf text) (view x) ((follow text text 0 0 0 (view x) refl h).each)

pub given_order : {X : Type 0} (view : X → List Token) (r : Result X LexFault) (text : List ℕ) → GivesBut faults.Memory view r (tokens_of text) → IfOk r (λ x. AreInOrder 0 (view x))
given_order view (Err e) text h = tt
given_order view (Ok x) text h =
    let P : ℕ → Type 0 = λ place. AreInOrder place (view x) in
    let same : 0 + 0 ≡ 0 = omega arith in
    subst P same ((follow text text 0 0 0 (view x) refl h).order)
