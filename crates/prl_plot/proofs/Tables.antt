-- Tables by name, one entry more.
use Rattle.prl_base.proofs.Standard.{◌≡◌, ◌∙◌, ℕ, Bool, true, false, cond, List, Option, Some, Vec, Global, inl, inr, refl, sym, ap, subst, cases_Bool, cond-true, cond-false, bytes_decides, bytes_eq, BTreeMap, UpdatesBy, slice_cmp, nat_cmp}
use Rattle.std.specs.Map.{KeepsOthers, IsKeyTest, AreApart, lookup}
use Rattle.std.specs.Ordering.{is_eq}
use Rattle.std.proofs.lemmas.Cmp.{eq_by_cmp_equiv, nat_list_cmp_total, nat_list_eq_equiv}
use Rattle.std.proofs.lemmas.Map.Text.{is_eq-slice_cmp}
use Rattle.prl_base.proofs.Standard.{◌<◌, ◌≤◌, ◌+◌, ◌||◌, ◌∷◌, None, Bor, btree_map_updates_str, length, take, drop, take_all, position_or_len, ◌-◌, suc, get_or, drop-cons, arith}
use Rattle.std.specs.Option.{is_some}
use Rattle.prl_base.specs.declared.operators.Clock.{Clock}
use Rattle.prl_plot.specs.Asked.{is_comma, is_named}
use Rattle.prl_plot.specs.Places.{AreNames, at_bytes, at_name}
use Rattle.prl_plot.specs.Rows.{clock_of}
use Rattle.prl_plot.specs.declared.forms.Input.{Input}
use Rattle.prl_plot.proofs.Parts.{more_parts, one_part}

apart : (bs cs ks : List ℕ) → bytes_eq bs cs ≡ false → is_eq (slice_cmp nat_cmp bs ks) ≡ true → is_eq (slice_cmp nat_cmp cs ks) ≡ false
apart bs cs ks n y =
    is_eq-slice_cmp cs ks ∙ nat_list_eq_equiv.symm cs ks ∙ sym (nat_list_eq_equiv.congr bs ks cs (sym (is_eq-slice_cmp bs ks) ∙ y)) ∙ n

module _ {K : Type 0} (eq : K → K → Bool) (test : K → Bool) where
  other_entries : {X : Type 0} (old new : List (K × X)) → KeepsOthers eq test old new → (other : K → Bool) → IsKeyTest eq other → AreApart test other → lookup other new ≡ lookup other old
  unfolding KeepsOthers
  other_entries old new h = h

-- what the table has at a name that was written, and at others
pub written : {X : Type 0} (bs : List ℕ) (old new : BTreeMap (Vec ℕ Global) X) (w : Option X)
    → UpdatesBy (λ (x y : Vec ℕ Global). slice_cmp nat_cmp x.items y.items) (λ (k : Vec ℕ Global). slice_cmp nat_cmp bs k.items) old new w
    → (cs : List ℕ) → at_name new cs ≡ cond (bytes_eq bs cs) w (at_name old cs)
written bs old new w h cs =
    elim (cases_Bool (bytes_eq bs cs)) [
      | inl y ↦ subst (λ l. at_name new l ≡ w) ((bytes_decides bs cs).0 y) h.1 ∙ sym (cond-true (bytes_eq bs cs) w (at_name old cs) y)
      | inr n ↦
          other_entries _ _ _ _ h.3 _ (λ (x y : Vec ℕ Global). (eq_by_cmp_equiv nat_list_cmp_total).congr cs x.items y.items) (λ (k : Vec ℕ Global). apart bs cs k.items n)
          ∙ sym (cond-false (bytes_eq bs cs) w (at_name old cs) n)
    ]

-- the clock of one sensor more, which comes before those whose clocks the table has
pub clock_written : (input : Input) (rest : List Input) (bs : List ℕ) (old new : BTreeMap (Bor (List ℕ)) Clock) → bs ≡ input.name
    → UpdatesBy (λ (x y : Bor (List ℕ)). slice_cmp nat_cmp x.now y.now) (λ (k : Bor (List ℕ)). slice_cmp nat_cmp bs k.now) old new (Some input.clock)
    → ((name : List ℕ) → at_bytes old name ≡ clock_of rest name) → (name : List ℕ) → at_bytes new name ≡ clock_of (input ∷ rest) name
clock_written input rest bs old new is h had name =
    btree_map_updates_str bs old new (Some input.clock) h name
    ∙ ap (λ (o : Option Clock). cond (bytes_eq bs name) (Some input.clock) o) (had name)
    ∙ ap (λ (m : List ℕ). cond (bytes_eq m name) (Some input.clock) (clock_of rest name)) is

-- one name more of a list
more_named : (a b c d : Bool) → c ≡ (a || b) → ((d || a) || b) ≡ (d || c)
more_named a b c d e = either d a b ∙ ap (λ x. d || x) (sym e)
  where
    either : (d a b : Bool) → ((d || a) || b) ≡ (d || (a || b))
    either true a b = refl
    either false a b = refl

pub is_written : (bs : List ℕ) (old new : BTreeMap (Bor (List ℕ)) (Unit {0}))
    → UpdatesBy (λ (x y : Bor (List ℕ)). slice_cmp nat_cmp x.now y.now) (λ (k : Bor (List ℕ)). slice_cmp nat_cmp bs k.now) old new (Some tt)
    → (name : List ℕ) → is_some (at_bytes new name) ≡ (is_some (at_bytes old name) || bytes_eq bs name)
is_written bs old new h name = ap is_some (btree_map_updates_str bs old new (Some tt) h name) ∙ of (bytes_eq bs name) (at_bytes old name)
  where
    of : (b : Bool) (o : Option (Unit {0})) → is_some (cond b (Some tt) o) ≡ (is_some o || b)
    of true None = refl
    of true (Some u) = refl
    of false None = refl
    of false (Some u) = refl

-- the names that come before the next comma, and the rest behind it
pub next_named : (bs rest : List ℕ) (at : ℕ) (names : List ℕ) (old new : BTreeMap (Bor (List ℕ)) (Unit {0})) → at ≡ position_or_len is_comma rest → at < length rest → bs ≡ take at rest
    → UpdatesBy (λ (x y : Bor (List ℕ)). slice_cmp nat_cmp x.now y.now) (λ (k : Bor (List ℕ)). slice_cmp nat_cmp bs k.now) old new (Some tt)
    → ((name : List ℕ) → (is_some (at_bytes old name) || is_named rest name) ≡ is_named names name)
    → (name : List ℕ) → (is_some (at_bytes new name) || is_named (drop (at + 1) rest) name) ≡ is_named names name
next_named bs rest at names old new is below part h had name =
    ap (λ (b : Bool). b || is_named (drop (at + 1) rest) name) (is_written bs old new h name)
    ∙ more_named (bytes_eq bs name) (is_named (drop (at + 1) rest) name) (is_named rest name) (is_some (at_bytes old name))
    (sym (more_parts rest name at is below) ∙ ap (λ (m : List ℕ). bytes_eq m name || is_named (drop (at + 1) rest) name) (sym part))
    ∙ had name

-- the last name
pub last_named : (bs rest : List ℕ) (at : ℕ) (names : List ℕ) (old new : BTreeMap (Bor (List ℕ)) (Unit {0})) → at ≡ position_or_len is_comma rest → length rest ≤ at → bs ≡ take at rest
    → UpdatesBy (λ (x y : Bor (List ℕ)). slice_cmp nat_cmp x.now y.now) (λ (k : Bor (List ℕ)). slice_cmp nat_cmp bs k.now) old new (Some tt)
    → ((name : List ℕ) → (is_some (at_bytes old name) || is_named rest name) ≡ is_named names name) → AreNames names new
last_named bs rest at names old new is all part h had name =
    is_written bs old new h name
    ∙ ap (λ (b : Bool). is_some (at_bytes old name) || b) (ap (λ (m : List ℕ). bytes_eq m name) (part ∙ take_all at rest all) ∙ one_part rest name at is all)
    ∙ had name

-- the next sensor from the back
pub last_sensor : (inputs : List Input) (k : ℕ) (input : Input) → k < length inputs → input ≡ get_or inputs (length inputs - 1 - k) input
    → drop (length inputs - (k + 1)) inputs ≡ input ∷ drop (length inputs - k) inputs
last_sensor inputs k input h is =
    let here : length inputs - (k + 1) < length inputs = omega (arith, h) in
    let same : length inputs - 1 - k ≡ length inputs - (k + 1) = omega (arith, h) in
    let next : suc (length inputs - (k + 1)) ≡ length inputs - k = omega (arith, h) in
    drop-cons inputs (length inputs - (k + 1)) input here
    ∙ ap (λ (n : ℕ). get_or inputs n input ∷ drop (suc (length inputs - (k + 1))) inputs) (sym same)
    ∙ ap (λ (i : Input). i ∷ drop (suc (length inputs - (k + 1))) inputs) (sym is)
    ∙ ap (λ (n : ℕ). input ∷ drop n inputs) next
