-- Words of the form of a command, and what `clap` takes of them.
use Rattle.std.proofs.Common.{◌≡◌, ◌&&◌, ◌≤◌, ℕ, true, false, List, [], ◌∷◌, drop, length, Option, Some, None, is_some, nat_le, if◌then◌else◌, refl, sym, ap, subst, ◌∙◌, inl, inr, ◌⊎◌, arith, leb-true}
use Rattle.std.proofs.lemmas.Option.{cond_some, none-some}
use Rattle.std.specs.Option.{option_map_or}
use Rattle.prl_base.specs.Decimals.{decimal_of}
use Rattle.prl_base.specs.Options.{◌>>=◌}
use Rattle.prl_arguments.specs.Vocabulary.{Command, Mode, Setting, MAX_SIZE, MAX_UNTIL, MAX_WORKERS, AreInRange, Values, all_fit, asked_of, asked_of_mode, asked_with, command_of, command_with, fits}
use Rattle.prl_arguments.specs.Vocabulary.{has, is_in, mode_named, nothing, number_or, range_of, with_words, faults_of, is_taken}
use Rattle.prl_arguments.specs.declared.arguments.Mode.TheVariants as modes
use Rattle.prl_arguments.specs.declared.arguments.Setting.TheVariants as settings
use Rattle.prl_rule.specs.declared.views.Gate.{Gate}
use Rattle.prl_arguments.proofs.Spelled.{and_left, and_right, bound, the}
use Rattle.prl_arguments.proofs.Agreement.{Told, agrees, fits_some, spells}
use Rattle.prl_arguments.proofs.Names.{all_at}

-- the number that a value spells
decimal_is : (other : ℕ) (text : List ℕ) (n : ℕ) → number_or other (Some text) ≡ Some n → decimal_of text ≡ Some n
decimal_is other text n e =
    let number = bound (decimal_of text) (λ number. if nat_le (length text) 20 then Some number else None) n e in
    subst (λ m. decimal_of text ≡ Some m) (cond_some (nat_le (length text) 20) number.0 n number.2).1 number.1

bounds : (least most n : ℕ) → (nat_le least n && nat_le n most) ≡ true → (least ≤ n) × (n ≤ most)
bounds least most n e = (leb-true least n (and_left (nat_le least n) _ e), leb-true n most (and_right (nat_le least n) _ e))

-- a number in its range, or the one that stands for none
within : (least most other : ℕ) (o : Option (List ℕ)) (n : ℕ) → number_or other o ≡ Some n → ((v : List ℕ) → o ≡ Some v → is_in (Some (least, most)) v ≡ true)
    → ((o ≡ None) × (n ≡ other)) ⊎ ((least ≤ n) × (n ≤ most))
within least most other None n e h = inl (refl, sym (the other n e))
within least most other (Some text) n e h =
    inr (bounds least most n (sym (ap (λ (o : Option ℕ). option_map_or (λ m. nat_le least m && nat_le m most) o false) (decimal_is other text n e)) ∙ h text refl))

-- what the values of a command spell
record Spells (mode : Mode) (given : Values) (command : Command) : Type 0 where
  pub is : command.mode ≡ mode
  pub until : number_or 0 (given settings.Until) ≡ Some command.until
  pub workers : number_or 1 (given settings.Workers) ≡ Some command.workers
  pub size : number_or 0 (given settings.Size) ≡ Some command.size

abbrev gathered : Mode → Values → Option ℕ → Option ℕ → Option Gate → Option ℕ → Option ℕ → Option (Values × Command)
gathered mode given u w c s z = u >>= λ until. w >>= λ workers. c >>= λ clock. s >>= λ seed. z >>= λ size. Some (given, command_with mode given until workers clock seed size)

gathered_is : (mode : Mode) (given : Values) (u w : Option ℕ) (c : Option Gate) (s z : Option ℕ) (x : Values × Command) → gathered mode given u w c s z ≡ Some x
    → (y : Command) × (x ≡ (given, y)) × (y.mode ≡ mode) × (u ≡ Some y.until) × (w ≡ Some y.workers) × (z ≡ Some y.size)
gathered_is mode given (Some u) (Some w) (Some c) (Some s) (Some z) x e =
    let y = command_with mode given u w c s z in (y, sym (the (given, y) x e), refl, refl, refl, refl)
gathered_is mode given _ _ _ _ _ x e = absurd (none-some x e)

spelling : (mode : Mode) (given : Values) (x : Values × Command) → asked_with mode given ≡ Some x → (y : Command) × (x ≡ (given, y)) × Spells mode given y
spelling mode given x e =
    let p = gathered_is mode given _ _ _ _ _ x e in
    (p.0, p.1, record { is = p.2; until = p.3; workers = p.4; size = p.5 })

spelled_value : (other n : ℕ) (o : Option (List ℕ)) (v : List ℕ) → number_or other o ≡ Some n → o ≡ Some v → is_some (decimal_of v) ≡ true
spelled_value other n o v e is = ap is_some (decimal_is other v n (ap (number_or other) (sym is) ∙ e))

all_spelled : (mode : Mode) (given : Values) (x : Command) → Spells mode given x → Told spells given
all_spelled mode given x p settings.Until v e = spelled_value 0 x.until (given settings.Until) v p.until e
all_spelled mode given x p settings.Workers v e = spelled_value 1 x.workers (given settings.Workers) v p.workers e
all_spelled mode given x p settings.Size v e = spelled_value 0 x.size (given settings.Size) v p.size e
all_spelled mode given x p _ v e = refl

-- numbers that fit are in their ranges
until_by : (A : Type 0) (n : ℕ) → (A × (n ≡ 0)) ⊎ ((0 ≤ n) × (n ≤ MAX_UNTIL)) → n ≤ MAX_UNTIL
until_by A n (inl e) = let zero = e.1 in omega (arith, zero)
until_by A n (inr h) = h.1

workers_by : (A : Type 0) (n : ℕ) → (A × (n ≡ 1)) ⊎ ((1 ≤ n) × (n ≤ MAX_WORKERS)) → (1 ≤ n) × (n ≤ MAX_WORKERS)
workers_by A n (inl e) = let one = e.1 in (omega (arith, one), omega (arith, one))
workers_by A n (inr h) = h

size_by : (A : Type 0) (n : ℕ) → (A × (n ≡ 0)) ⊎ ((1 ≤ n) × (n ≤ MAX_SIZE)) → n ≤ MAX_SIZE
size_by A n (inl e) = let zero = e.1 in omega (arith, zero)
size_by A n (inr h) = h.1

some_lanes : (given : Option (List ℕ)) (n : ℕ) → fits modes.Generate settings.Size given ≡ true → ((given ≡ None) × (n ≡ 0)) ⊎ ((1 ≤ n) × (n ≤ MAX_SIZE)) → 1 ≤ n
some_lanes given n fit (inl e) = let none : false ≡ true = ap (fits modes.Generate settings.Size) (sym e.0) ∙ fit in cc
some_lanes given n fit (inr h) = h.0

in_ranges : (mode : Mode) (given : Values) (x : Command) → Spells mode given x → all_fit mode given ≡ true → AreInRange mode x.until x.workers x.size
in_ranges mode given x p fit =
    let at = all_at (λ s. fits mode s (given s)) fit in
    let inside : (s : Setting) (v : List ℕ) → given s ≡ Some v → is_in (range_of s) v ≡ true = λ s v e. and_right (has mode s) _ (fits_some mode s (given s) v (at s) e) in
    let lanes = within 1 MAX_SIZE 0 (given settings.Size) x.size p.size (inside settings.Size) in
    record {
      until = until_by _ x.until (within 0 MAX_UNTIL 0 (given settings.Until) x.until p.until (inside settings.Until));
      workers = workers_by _ x.workers (within 1 MAX_WORKERS 1 (given settings.Workers) x.workers p.workers (inside settings.Workers));
      size = size_by _ x.size lanes;
      some = λ generate. some_lanes (given settings.Size) x.size (subst (λ (m : Mode). fits m settings.Size (given settings.Size) ≡ true) generate (at settings.Size)) lanes;
    }

-- `clap` takes words of the form of a command where they are one
pub record Decided (words : List (List ℕ)) (asked : Values × Command) : Type 0 where
  pub taken : command_of words ≡ (if is_taken (faults_of asked.1.mode (drop 1 words)) then Some asked.1 else None)
  pub range : is_taken (faults_of asked.1.mode (drop 1 words)) ≡ true → AreInRange asked.1.mode asked.1.until asked.1.workers asked.1.size

by_parts : (own name : List ℕ) (rest : List (List ℕ)) (given : Values) (x : Command) → asked_of (own ∷ name ∷ rest) ≡ Some (given, x) → with_words nothing rest ≡ Some given
    → Spells x.mode given x → Decided (own ∷ name ∷ rest) (given, x)
by_parts own name rest given x e g p =
    let same = agrees x.mode name rest given g (all_spelled x.mode given x p) in
    record {
      taken = ap (λ (o : Option (Values × Command)). o >>= λ asked. if all_fit asked.1.mode asked.0 then Some asked.1 else None) e ∙ ap (λ b. if b then Some x else None) (sym same);
      range = λ is. in_ranges x.mode given x p (sym same ∙ is);
    }

form_by : (mode : Mode) (rest : List (List ℕ)) → asked_of_mode mode rest ≡ (with_words nothing rest >>= λ given. asked_with mode given)
unfolding asked_of_mode
form_by mode rest = refl

pub decided : (words : List (List ℕ)) (asked : Values × Command) → asked_of words ≡ Some asked → Decided words asked
decided [] asked e = absurd (none-some asked e)
decided (own ∷ []) asked e = absurd (none-some asked e)
decided (own ∷ name ∷ rest) asked e =
    let m = bound (mode_named name) (λ mode. asked_of_mode mode rest) asked e in
    let g = bound (with_words nothing rest) (λ given. asked_with m.0 given) asked (sym (form_by m.0 rest) ∙ m.2) in
    let x = spelling m.0 g.0 asked g.2 in
    subst (Decided (own ∷ name ∷ rest)) (sym x.1)
    (by_parts own name rest g.0 x.0 (e ∙ ap Some x.1) g.1 (subst (λ (m : Mode). Spells m g.0 x.0) (sym x.2.is) x.2))

-- words of no form are no command
pub unformed : (words : List (List ℕ)) → asked_of words ≡ None → command_of words ≡ None
unformed words e = ap (λ (o : Option (Values × Command)). o >>= λ asked. if all_fit asked.1.mode asked.0 then Some asked.1 else None) e

-- the numbers of a command are in the ranges of its mode
pub in_range : (words : List (List ℕ)) (c : Command) → command_of words ≡ Some c → AreInRange c.mode c.until c.workers c.size
in_range words c e =
    let asked = bound (asked_of words) (λ asked. if all_fit asked.1.mode asked.0 then Some asked.1 else None) c e in
    let d = decided words asked.0 asked.1 in
    let taken = cond_some (is_taken (faults_of asked.0.1.mode (drop 1 words))) asked.0.1 c (sym d.taken ∙ e) in
    subst (λ (x : Command). AreInRange x.mode x.until x.workers x.size) taken.1 (d.range taken.0)
