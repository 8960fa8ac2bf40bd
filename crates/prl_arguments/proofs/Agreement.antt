-- `clap` decides on options as the tables of options do.
use Rattle.prl_base.proofs.Standard.{◌≡◌, ◌++◌, ◌&&◌, ◌||◌, ℕ, Bool, true, false, not, List, [], ◌∷◌, length, Option, Some, None, is_some, fold, find, nat_le, if◌then◌else◌, refl, sym, ap, subst, ◌∙◌}
use Rattle.prl_base.proofs.Standard.{fun_ext, none-some, option_map_or, list_all, list_any, bytes_eq, bytes_eq-Decides}
use Rattle.clap.specs.Facts.{explicit_source}
use Rattle.clap.specs.Walk.{Row, Rule, Text, arg_by_id, arg_by_long, default_rows, has_row, is_empty, more_values, nothing_held, reading_by, stronger, used, walk, walk_from, with_default, with_values, without}
use Rattle.clap.specs.declared.builder.value_parser.Reading.{Reading}
use Rattle.clap.specs.declared.parser.matches.ValueSource.{ValueSource}
use Rattle.clap.specs.declared.parser.matches.ValueSource.TheVariants as sources
use Rattle.clap.specs.Simple.{App, built}
use Rattle.clap.specs.Takes.{is_given}
use Rattle.clap.specs.Kinds.{Kinds, check_kinds, or_else, value_kinds}
use Rattle.clap.specs.Faults.{check_fault, default_fault, defaults_fault, entered_fault, given_default_fault, level_fault}
use Rattle.clap.specs.Simple.{entered}
use Rattle.clap.specs.ValueTests.{is_unsigned_in}
use Rattle.clap.specs.declared.error.kind.ErrorKind.{ErrorKind}
use Rattle.prl_base.specs.Decimals.{decimal_of}
use Rattle.prl_arguments.specs.Vocabulary.{Mode, Setting, Values, all_fit, all_settings, fits, has, is_in, is_same, is_value, name_of, needs, nothing, range_of, with_value, with_words, app_of_mode}
use Rattle.prl_arguments.specs.Vocabulary.{faults_of, is_taken, parser_by}
use Rattle.prl_arguments.specs.declared.arguments.Mode.TheVariants as modes
use Rattle.prl_arguments.specs.declared.arguments.Setting.TheVariants as settings
use Rattle.prl_arguments.proofs.Names.{all_at, same_is, same_self}
use Rattle.prl_arguments.proofs.Numerals.{in_range}
use Rattle.prl_arguments.proofs.Spelled.{and_both, and_left, and_right, Follows, Spelled, spelled, the, words_of}
use Rattle.prl_arguments.proofs.Walked.{Each, after, assoc, cost, had, rule, rule_if, shape, tail, total, total_is}

-- the rules of the command of a mode when it is built
abbrev rules : Mode → List Rule
rules mode = (built (app_of_mode mode)).top.rules

abbrev built_app : List Rule → App
built_app c = record { top = shape c; subs = [] }

-- an option is found by its name where the mode has it
by_long : (mode : Mode) (s : Setting) → arg_by_long (rules mode) (name_of s) ≡ rule_if (has mode s) mode s
by_long modes.Print settings.Program = refl
by_long _ settings.Program = refl
by_long _ _ = refl

by_id : (mode : Mode) (s : Setting) → arg_by_id (rules mode) (name_of s) ≡ rule_if (has mode s) mode s
by_id modes.Print settings.Program = refl
by_id _ settings.Program = refl
by_id _ _ = refl

-- no option has a value by default
abbrev has_none : List Text → Bool
has_none [] = true
has_none (value ∷ values) = false

abbrev NoDefaults : List Rule → Type 0
NoDefaults c = list_all (λ a. has_none a.defaults) c ≡ true

no_defaults : (mode : Mode) → NoDefaults (rules mode)
no_defaults modes.Print = refl
no_defaults _ = refl

none_is : (values : List Text) → has_none values ≡ true → values ≡ []
none_is [] e = refl
none_is (value ∷ values) e = cc

no_default : (a : Rule) (rows : List Row) → a.defaults ≡ [] → with_default rows a ≡ rows
no_default a rows e = elim (has_row a.id rows) as (λ b. (if b then rows else default_rows a.id (reading_by a) a.defaults rows) ≡ rows) [
  | true ↦ refl
  | false ↦ ap (λ (d : List Text). default_rows a.id (reading_by a) d rows) e
]

no_default_fault : (a : Rule) (rows : List Row) → a.defaults ≡ [] → default_fault rows a ≡ []
no_default_fault a rows e = elim (has_row a.id rows) as (λ b. (if b || is_empty a.defaults then [] else given_default_fault a a.defaults) ≡ []) [
  | true ↦ refl
  | false ↦ ap (λ (d : List Text). if is_empty d then [] else given_default_fault a d) e
]

after_defaults : (c : List Rule) (rows : List Row) → NoDefaults c → fold with_default rows c ≡ rows
after_defaults [] rows h = refl
after_defaults (a ∷ c) rows h =
    ap (λ (r : List Row). fold with_default r c) (no_default a rows (none_is a.defaults (and_left (has_none a.defaults) _ h)))
    ∙ after_defaults c rows (and_right (has_none a.defaults) _ h)

defaults_none : (c : List Rule) (rows : List Row) → NoDefaults c → defaults_fault rows c ≡ []
unfolding defaults_fault
defaults_none [] rows h = refl
defaults_none (a ∷ c) rows h =
    let none = none_is a.defaults (and_left (has_none a.defaults) _ h) in
    ap (λ (k : Kinds). or_else k (defaults_fault (with_default rows a) c)) (no_default_fault a rows none)
    ∙ ap (λ (r : List Row). defaults_fault r c) (no_default a rows none)
    ∙ defaults_none c rows (and_right (has_none a.defaults) _ h)

-- something that is needed is missing
abbrev lacks : Mode → (Setting → Bool) → Bool
lacks mode given = list_any (λ s. needs mode s && not (given s)) all_settings

required : (mode : Mode) (rows : List Row) → list_any (λ a. a.required && not (is_given a.id rows)) (rules mode) ≡ lacks mode (λ s. is_given (name_of s) rows)
required modes.Print rows = refl
required _ rows = refl

tail_is : (mode : Mode) (rows : List Row) → tail (rules mode) rows ≡ check_kinds false false (lacks mode (λ s. is_given (name_of s) rows))
tail_is mode rows =
    let c = rules mode in
    ap (λ (k : Kinds). or_else k (check_fault (shape c) (fold with_default rows c) false)) (defaults_none c rows (no_defaults mode))
    ∙ ap (λ (r : List Row). check_fault (shape c) r false) (after_defaults c rows (no_defaults mode))
    ∙ ap (check_kinds false false) (required mode rows)

-- rows in which an option is given
strong : (o : Option ValueSource) → explicit_source (Some (stronger o sources.CommandLine)) ≡ true
strong None = refl
strong (Some sources.DefaultValue) = refl
strong (Some sources.CommandLine) = refl

abbrev found_in : Text → Bool → Row → List Row → Bool
found_in x b r rs = option_map_or (λ (r : Row). explicit_source r.source) (if b then Some r else find (λ (r : Row). bytes_eq r.id x) rs) false

-- an id that is another's is no third one
not_third : (r id x : Text) → bytes_eq r id ≡ true → bytes_eq id x ≡ false → bytes_eq r x ≡ false
not_third r id x same other = ap (λ y. bytes_eq y x) ((bytes_eq-Decides r id).0 same) ∙ other

other_with : (id x : Text) (how : Reading) (vs : List Text) (rows : List Row) → bytes_eq id x ≡ false
    → is_given x (with_values id how sources.CommandLine vs rows) ≡ is_given x rows
other_with id x how vs [] e = ap (λ b. found_in x b (record { id = id; values = vs; count = None; source = Some sources.CommandLine; reading = how }) []) e
other_with id x how vs (r ∷ rs) e =
    elim (bytes_eq r.id id) as (λ b. bytes_eq r.id id ≡ b
    → is_given x (if b then more_values sources.CommandLine vs r ++ rs else r ∷ with_values id how sources.CommandLine vs rs) ≡ is_given x (r ∷ rs)) [
      | true ↦ λ same.
          let third = not_third r.id id x same e in
          ap (λ b. found_in x b (record r { values = r.values ++ vs; source = Some (stronger r.source sources.CommandLine) }) rs) third ∙ sym (ap (λ b. found_in x b r rs) third)
      | false ↦ λ same. elim (bytes_eq r.id x) as (λ b. found_in x b r (with_values id how sources.CommandLine vs rs) ≡ found_in x b r rs) [
        | true ↦ refl
        | false ↦ other_with id x how vs rs e
      ]
    ] refl

same_with : (x : Text) (how : Reading) (vs : List Text) (rows : List Row) → is_given x (with_values x how sources.CommandLine vs rows) ≡ true
same_with x how vs [] = ap (λ b. found_in x b (record { id = x; values = vs; count = None; source = Some sources.CommandLine; reading = how }) []) ((bytes_eq-Decides x x).1 refl)
same_with x how vs (r ∷ rs) =
    elim (bytes_eq r.id x) as (λ b. bytes_eq r.id x ≡ b
    → is_given x (if b then more_values sources.CommandLine vs r ++ rs else r ∷ with_values x how sources.CommandLine vs rs) ≡ true) [
      | true ↦ λ same.
          ap (λ b. found_in x b (record r { values = r.values ++ vs; source = Some (stronger r.source sources.CommandLine) }) rs) same ∙ strong r.source
      | false ↦ λ same. ap (λ b. found_in x b r (with_values x how sources.CommandLine vs rs)) same ∙ same_with x how vs rs
    ] refl

other_without : (id x : Text) (rows : List Row) → bytes_eq id x ≡ false → is_given x (without id rows) ≡ is_given x rows
other_without id x [] e = refl
other_without id x (r ∷ rs) e =
    elim (bytes_eq r.id id) as (λ b. bytes_eq r.id id ≡ b → is_given x (if b then [] ++ rs else r ∷ without id rs) ≡ is_given x (r ∷ rs)) [
      | true ↦ λ same. sym (ap (λ b. found_in x b r rs) (not_third r.id id x same e))
      | false ↦ λ same. elim (bytes_eq r.id x) as (λ b. found_in x b r (without id rs) ≡ found_in x b r rs) [
        | true ↦ refl
        | false ↦ other_without id x rs e
      ]
    ] refl

-- after the use of an option it is given, and the others are as before
used_given : (mode : Mode) (s : Setting) (v : Text) (rows : List Row) (x : Text) → is_given x (used (rule mode s) (v ∷ []) rows) ≡ (bytes_eq (name_of s) x || is_given x rows)
used_given mode s v rows x =
    let id = name_of s in
    let how = reading_by (rule mode s) in
    elim (bytes_eq id x) as (λ b. bytes_eq id x ≡ b → is_given x (with_values id how sources.CommandLine (v ∷ []) (without id rows)) ≡ (b || is_given x rows)) [
      | true ↦ λ same.
          subst (λ (y : Text). is_given y (with_values id how sources.CommandLine (v ∷ []) (without id rows)) ≡ true) ((bytes_eq-Decides id x).0 same) (same_with id how (v ∷ []) (without id rows))
      | false ↦ λ other. other_with id x how (v ∷ []) (without id rows) other ∙ other_without id x rows other
    ] refl

-- the rows have the options that are given
abbrev Shows : List Row → Values → Type 0
Shows rows given = (s : Setting) → is_given (name_of s) rows ≡ is_some (given s)

some_if : (b : Bool) (v : Text) (o : Option Text) → (b || is_some o) ≡ is_some (if b then Some v else o)
some_if true v o = refl
some_if false v o = refl

shows_more : (mode : Mode) (s : Setting) (v : Text) (rows : List Row) (given : Values) → Shows rows given → Shows (used (rule mode s) (v ∷ []) rows) (with_value given s v)
shows_more mode s v rows given h t = used_given mode s v rows (name_of t) ∙ ap (λ b. is_same s t || b) (h t) ∙ some_if (is_same s t) v (given t)

-- what a command line of the mode's options is refused for: its values, or what is missing
abbrev costs : List Spelled → Kinds
costs [] = []
costs (o ∷ os) = or_else (cost o.1 o.2) (costs os)

abbrev verdict : Mode → List Spelled → Values → Kinds
verdict mode os final = or_else (costs os) (check_kinds false false (lacks mode (λ s. is_some (final s))))

ends : (mode : Mode) (os : List Spelled) (given final : Values) (rows : List Row) → Follows given os final → Shows rows given
    → after (rules mode) mode (by_long mode) (by_id mode) os rows ≡ verdict mode os final
ends mode [] given final rows follows shows =
    tail_is mode rows
    ∙ ap (λ (g : Setting → Bool). check_kinds false false (lacks mode g)) (fun_ext shows)
    ∙ ap (λ (g : Values). check_kinds false false (lacks mode (λ s. is_some (g s)))) follows
ends mode (o ∷ os) given final rows follows shows =
    ap (or_else (cost o.1 o.2)) (ends mode os (with_value given o.1 o.2) final (used (rule mode o.1) (o.2 ∷ []) rows) follows.2 (shows_more mode o.1 o.2 rows given shows))
    ∙ sym (assoc (cost o.1 o.2) (costs os) _)

-- the whole parse is the walk over the words after the mode
by_stop : (c : List Rule) (words : List Text) (stop : Option (Text × List Text))
    → level_fault (shape c) [] nothing_held words (is_some (entered (built_app c) stop)) (entered_fault (built_app c) stop) ≡ total c (walk_from nothing_held) words
by_stop c words None = refl
by_stop c words (Some p) = refl

walk_is : (mode : Mode) (name : Text) (words : List Text) → faults_of mode (name ∷ words) ≡ total (rules mode) (walk_from nothing_held) words
walk_is modes.Print name words = by_stop (rules modes.Print) words (walk (rules modes.Print) [] nothing_held words).stopped
walk_is mode name words = by_stop (rules mode) words (walk (rules mode) [] nothing_held words).stopped

-- the values that are given pass a test
abbrev pub Told : (Setting → Text → Bool) → Values → Type 0
Told p given = (s : Setting) (v : Text) → given s ≡ Some v → p s v ≡ true

told_more : (p : Setting → Text → Bool) (s : Setting) (v : Text) (given : Values) → p s v ≡ true → Told p given → Told p (with_value given s v)
told_more p s v given is h t w e =
    elim (is_same s t) as (λ b. is_same s t ≡ b → (if b then Some v else given t) ≡ Some w → p t w ≡ true) [
      | true ↦ λ same e. subst (λ u. p u w ≡ true) (same_is s t same) (subst (λ x. p s x ≡ true) (the v w e) is)
      | false ↦ λ other e. h t w e
    ] refl e

told_less : (p : Setting → Text → Bool) (s : Setting) (v : Text) (given : Values) → given s ≡ None → Told p (with_value given s v) → Told p given
told_less p s v given fresh h t w e = h t w (elim (is_same s t) as (λ b. is_same s t ≡ b → (if b then Some v else given t) ≡ Some w) [
  | true ↦ λ same. absurd (none-some w (sym fresh ∙ ap given (same_is s t same) ∙ e))
  | false ↦ λ other. e
] refl)

-- the words' options pass a test where the values that they give do
told : (p : Setting → Text → Bool) (os : List Spelled) (given final : Values) → Follows given os final → Each p os → Told p given → Told p final
told p [] given final follows each h = subst (Told p) follows h
told p (o ∷ os) given final follows each h =
    told p os (with_value given o.1 o.2) final follows.2 (and_right (p o.1 o.2) _ each) (told_more p o.1 o.2 given (and_left (p o.1 o.2) _ each) h)

each_told : (p : Setting → Text → Bool) (os : List Spelled) (given final : Values) → Follows given os final → Told p final → Told p given × Each p os
each_told p [] given final follows h = (subst (Told p) (sym follows) h, refl)
each_told p (o ∷ os) given final follows h =
    let more = with_value given o.1 o.2 in
    let r = each_told p os more final follows.2 h in
    let mine = r.0 o.1 o.2 (ap (λ b. if b then Some o.2 else given o.1) (same_self o.1)) in
    (told_less p o.1 o.2 given follows.1 r.0, and_both (p o.1 o.2) _ mine r.1)

valued : (os : List Spelled) (given final : Values) → Follows given os final → Each (λ s v. is_value v) os
valued [] given final follows = refl
valued (o ∷ os) given final follows = and_both (is_value o.2) _ follows.0 (valued os (with_value given o.1 o.2) final follows.2)

-- the value of an option with a range spells a number
abbrev pub spells : Setting → Text → Bool
spells s v = option_map_or (λ range. is_some (decimal_of v)) (range_of s) true

-- such a value is refused where it is not in the range
both_taken : (a b : Kinds) → is_taken (or_else a b) ≡ (is_taken a && is_taken b)
both_taken [] b = refl
both_taken (k ∷ ks) b = refl

taken_if : (b : Bool) (k : ErrorKind) → is_taken (or_else (if b then [] else k ∷ []) []) ≡ b
taken_if true k = refl
taken_if false k = refl

some_of : {A : Type 0} (o : Option A) → is_some o ≡ true → (x : A) × (o ≡ Some x)
some_of None e = cc
some_of (Some x) e = (x, refl)

fair : (r : Option (ℕ × ℕ)) (v : Text) → option_map_or (λ range. is_some (decimal_of v)) r true ≡ true → is_taken (or_else (value_kinds false (parser_by r) v) []) ≡ is_in r v
fair None v e = refl
fair (Some r) v e =
    let number = some_of (decimal_of v) e in
    taken_if (is_unsigned_in r.0 r.1 v) _ ∙ in_range v number.0 r.0 r.1 number.1
    ∙ sym (ap (λ (o : Option ℕ). option_map_or (λ n. nat_le r.0 n && nat_le n r.1) o false) number.1)

costs_fair : (os : List Spelled) → Each spells os → is_taken (costs os) ≡ list_all (λ o. is_in (range_of o.1) o.2) os
costs_fair [] e = refl
costs_fair (o ∷ os) e =
    both_taken (cost o.1 o.2) (costs os)
    ∙ ap (λ b. b && is_taken (costs os)) (fair (range_of o.1) o.2 (and_left (spells o.1 o.2) _ e))
    ∙ ap (λ b. is_in (range_of o.1) o.2 && b) (costs_fair os (and_right (spells o.1 o.2) _ e))

-- tests of all options
all_from : (p : Setting → Bool) (xs : List Setting) → ((s : Setting) → p s ≡ true) → list_all p xs ≡ true
all_from p [] h = refl
all_from p (x ∷ xs) h = and_both (p x) _ (h x) (all_from p xs h)

none_lacks : (p : Setting → Bool) (xs : List Setting) → not (list_any p xs) ≡ list_all (λ s. not (p s)) xs
none_lacks p [] = refl
none_lacks p (x ∷ xs) = elim (p x) as (λ b. not (b || list_any p xs) ≡ (not b && list_all (λ s. not (p s)) xs)) [
  | true ↦ refl
  | false ↦ none_lacks p xs
]

not_lacking : (b : Bool) → is_taken (check_kinds false false b) ≡ not b
not_lacking true = refl
not_lacking false = refl

-- an option fits by what it is where it is given, and by not being missing
abbrev is_there : Bool → Bool → Bool
is_there needed given = not (needed && not given)

fits_by : (mode : Mode) (s : Setting) (o : Option Text) → ((v : Text) → o ≡ Some v → (has mode s ≡ true) × (is_in (range_of s) v ≡ true)) → is_there (needs mode s) (is_some o) ≡ true
    → fits mode s o ≡ true
fits_by mode s None h there = elim (needs mode s) as (λ b. not (b && true) ≡ true → not b ≡ true) [
  | true ↦ λ e. e
  | false ↦ λ e. refl
] there
fits_by mode s (Some v) h there = and_both (has mode s) _ (h v refl).0 (h v refl).1

fits_there : (mode : Mode) (s : Setting) (o : Option Text) → fits mode s o ≡ true → is_there (needs mode s) (is_some o) ≡ true
fits_there mode s None e = elim (needs mode s) as (λ b. not b ≡ true → not (b && true) ≡ true) [
  | true ↦ λ e. e
  | false ↦ λ e. refl
] e
fits_there mode s (Some v) e = elim (needs mode s) as (λ b. not (b && false) ≡ true) [
  | true ↦ refl
  | false ↦ refl
]

pub fits_some : (mode : Mode) (s : Setting) (o : Option Text) (v : Text) → fits mode s o ≡ true → o ≡ Some v → (has mode s && is_in (range_of s) v) ≡ true
fits_some mode s o v e is = ap (fits mode s) (sym is) ∙ e

taken : (kinds : Kinds) → is_taken kinds ≡ true → kinds ≡ []
taken [] e = refl
taken (k ∷ ks) e = cc

same_truth : (a b : Bool) → (a ≡ true → b ≡ true) → (b ≡ true → a ≡ true) → a ≡ b
same_truth true b h g = sym (h refl)
same_truth false true h g = g refl
same_truth false false h g = refl

-- `clap` takes exactly the options that fit the mode
pub agrees : (mode : Mode) (name : Text) (words : List Text) (final : Values) → with_words nothing words ≡ Some final → Told spells final
    → is_taken (faults_of mode (name ∷ words)) ≡ all_fit mode final
agrees mode name words final e spell =
    let p = spelled (length words) nothing words final e in
    let os = p.0 in
    let c = rules mode in
    let ranged = λ (s : Setting) (v : Text). is_in (range_of s) v in
    let there = λ (s : Setting). is_there (needs mode s) (is_some (final s)) in
    let v = valued os nothing final p.2 in
    let none_told : (q : Setting → Text → Bool) → Told q nothing = λ q s w e. cc in
    let walk_eq : faults_of mode (name ∷ words) ≡ total c (walk_from nothing_held) (words_of os) = walk_is mode name words ∙ ap (total c (walk_from nothing_held)) p.1 in
    let whole : Each (λ s v. has mode s) os → is_taken (faults_of mode (name ∷ words)) ≡ (list_all (λ o. is_in (range_of o.1) o.2) os && list_all there all_settings) = λ mine.
    ap is_taken (walk_eq ∙ total_is c mode (by_long mode) (by_id mode) os nothing_held mine v ∙ ends mode os nothing final [] p.2 (λ s. refl))
    ∙ both_taken (costs os) _
    ∙ ap (λ b. b && is_taken (check_kinds false false (lacks mode (λ s. is_some (final s))))) (costs_fair os (each_told spells os nothing final p.2 spell).1)
    ∙ ap (λ b. list_all (λ o. is_in (range_of o.1) o.2) os && b) (not_lacking _ ∙ none_lacks (λ s. needs mode s && not (is_some (final s))) all_settings) in
    same_truth _ _
    (λ none.
    let mine = had c mode (by_long mode) (by_id mode) os nothing_held v (sym walk_eq ∙ taken _ none) in
    let both = sym (whole mine) ∙ none in
    let has_all = told (λ s v. has mode s) os nothing final p.2 mine (none_told _) in
    let in_all = told ranged os nothing final p.2 (and_left (list_all (λ o. is_in (range_of o.1) o.2) os) _ both) (none_told ranged) in
    let there_all = all_at there (and_right (list_all (λ o. is_in (range_of o.1) o.2) os) _ both) in
    all_from (λ s. fits mode s (final s)) all_settings (λ s. fits_by mode s (final s) (λ w is. (has_all s w is, in_all s w is)) (there_all s)))
    (λ fit.
    let at = all_at (λ s. fits mode s (final s)) fit in
    let mine = (each_told (λ s v. has mode s) os nothing final p.2 (λ s w is. and_left (has mode s) _ (fits_some mode s (final s) w (at s) is))).1 in
    let in_all = (each_told ranged os nothing final p.2 (λ s w is. and_right (has mode s) _ (fits_some mode s (final s) w (at s) is))).1 in
    whole mine ∙ and_both (list_all (λ o. is_in (range_of o.1) o.2) os) _ in_all (all_from there all_settings (λ s. fits_there mode s (final s) (at s))))
