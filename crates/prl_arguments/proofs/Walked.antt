-- The walk of `clap` over the words of options.
use Rattle.prl_base.proofs.Standard.{◌≡◌, ◌&&◌, ◌==◌, ℕ, Bool, true, false, not, List, [], ◌∷◌, Option, Some, None, fold, codes, nat_lt, if◌then◌else◌, refl, sym, ap, ◌∙◌, inl, inr, ◌⊎◌}
use Rattle.prl_base.proofs.Standard.{option_map_or, list_all, bytes_eq, bytes_eq-Decides}
use Rattle.std.proofs.Common.{option_and_then}
use Rattle.clap.specs.Lexer.{long_of, long_of_rest, short_of, short_of_rest, strip_byte}
use Rattle.clap.specs.Walk.{Held, Rule, Row, Step, Text, Waiting, Walk, after_flag, after_step, arg_by_id, arg_by_long, idle, long_met, long_or_other, next, option, option_word, reacted, settled, short_or_plain, trailing, used, used_by_id, walk_from, walked, with_default}
use Rattle.clap.specs.Simple.{Shape, filled}
use Rattle.clap.specs.Kinds.{Kinds, or_else, value_kinds}
use Rattle.clap.specs.Faults.{bundle_fault, check_fault, defaults_fault, flag_word_fault, long_fault, react_fault, settle_fault, step_fault, turn_fault, use_fault, walk_fault}
use Rattle.clap.specs.declared.error.kind.ErrorKind.{ErrorKind}
use Rattle.clap.specs.declared.error.kind.ErrorKind.TheVariants as kind
use Rattle.prl_arguments.specs.Vocabulary.{Mode, Setting, has, is_value, name_of, range_of, option_rule, parser_by}
use Rattle.prl_arguments.specs.declared.arguments.Setting.TheVariants as settings
use Rattle.prl_arguments.proofs.Spelled.{Spelled, and_both, and_left, and_right, dashed, word_of, words_of}

-- the command of a mode when it is built: its rules, and what it does with them
abbrev pub shape : List Rule → Shape
shape c = record {
  name = codes "prelude";
  aliases = [];
  rules = c;
  is_plain = true;
  is_leaf = true;
  no_binary_name = false;
  disable_help_flag = true;
  disable_help_subcommand = true;
  disable_version_flag = false;
  propagate_version = false;
  has_version = false;
  has_long_version = false;
  args_override_self = true;
  arg_required_else_help = false;
  subcommand_required = false;
  subcommand_negates_reqs = false;
  is_built = true;
}

abbrev pub rule : Mode → Setting → Rule
rule mode s = filled (option_rule mode s)

abbrev pub rule_if : Bool → Mode → Setting → Option Rule
rule_if b mode s = if b then Some (rule mode s) else None

-- each of the options passes a test
abbrev pub Each : (Setting → Text → Bool) → List Spelled → Type 0
Each p os = list_all (λ o. p o.1 o.2) os ≡ true

-- what an option is refused for: its value
abbrev pub cost : Setting → Text → Kinds
cost s v = or_else (value_kinds false (parser_by (range_of s)) v) []

pub assoc : (a b c : Kinds) → or_else (or_else a b) c ≡ or_else a (or_else b c)
assoc [] b c = refl
assoc (k ∷ ks) b c = refl

pub or_nil : (a : Kinds) → or_else a [] ≡ a
or_nil [] = refl
or_nil (k ∷ ks) = refl

no_repeat : (b : Bool) (rest : Kinds) → or_else (if b && not true then kind.ArgumentConflict ∷ [] else []) rest ≡ rest
no_repeat true rest = refl
no_repeat false rest = refl

some_kinds : (k : ErrorKind) (ks : Kinds) → k ∷ ks ≡ [] → ⊥
some_kinds k ks e = cc

pub later_none : (a b : Kinds) → or_else a b ≡ [] → b ≡ []
later_none [] b e = e
later_none (k ∷ ks) b e = absurd (some_kinds k ks e)

-- a use of an option is refused for its value alone
use_cost : (mode : Mode) (s : Setting) (v : Text) (rows : List Row) → use_fault true (rule mode s) (v ∷ []) rows ≡ cost s v
use_cost mode s v rows = no_repeat _ (cost s v)

-- what the words of an option look like
long_own : (s : Setting) (v : Text) → long_of (dashed s (61 ∷ v)) ≡ Some (name_of s, Some v)
long_own settings.Program v = refl
long_own _ v = refl

long_bare : (s : Setting) → long_of (dashed s []) ≡ Some (name_of s, None)
long_bare settings.Program = refl
long_bare _ = refl

abbrev dashes : Text
dashes = 45 ∷ 45 ∷ []

not_dashes : (s : Setting) (rest : Text) → bytes_eq (dashed s rest) dashes ≡ false
not_dashes settings.Program rest = refl
not_dashes _ rest = refl

-- what a value looks like
not_minus : (b : ℕ) → not (b == 45) ≡ true → (b == 45) ≡ false
not_minus b e = elim (b == 45) as (λ t. not t ≡ true → t ≡ false) [
  | true ↦ λ h. cc
  | false ↦ λ h. refl
] e

value_dashes : (v : Text) → is_value v ≡ true → bytes_eq v dashes ≡ false
value_dashes [] e = cc
value_dashes (b ∷ bs) e = ap (λ t. t && bytes_eq bs (45 ∷ [])) (not_minus b e)

value_long : (v : Text) → is_value v ≡ true → long_of v ≡ None
value_long [] e = cc
value_long (b ∷ bs) e =
    ap (λ t. option_and_then long_of_rest (option_and_then (strip_byte 45) (if t then Some bs else None))) (not_minus b e)

value_short : (v : Text) → is_value v ≡ true → short_of v ≡ None
value_short [] e = cc
value_short (b ∷ bs) e = ap (λ t. option_and_then short_of_rest (if t then Some bs else None)) (not_minus b e)

-- a walk that waits for the value of an option
abbrev waiting_for : Text → Held → Walk
waiting_for id h = record { held = h; waiting = option id; position = 1; is_trailing = false; stopped = None }

module _ (c : List Rule) where
  -- a word that stands where nothing waits, by what it looks like
  abbrev met : Waiting → Bool → Option (Text × Option Text) → Text → Held → Held × Step
  met w is_dashes long word h = if is_dashes then (h, trailing 1) else long_or_other c w word long h

  abbrev turn_by : Waiting → Bool → Option (Text × Option Text) → Text → Held → Kinds
  turn_by w is_dashes long word h =
      or_else (if is_dashes then [] else flag_word_fault c true long word h) (step_fault (shape c) 1 (met w is_dashes long word h).0 (met w is_dashes long word h).1)

  -- an option's word, by the rule of the option
  abbrev option_met : Option Rule → Option Text → Text → Held → Held × Step
  option_met r own word h = after_flag c idle word (long_met c r own h).0 (long_met c r own h).1

  abbrev turn_of : Option Rule → Option Text → Text → Held → Kinds
  turn_of r own word h = or_else (long_fault c true r own h) (step_fault (shape c) 1 (option_met r own word h).0 (option_met r own word h).1)

  abbrev next_of : Option Rule → Option Text → Text → Held → Walk
  next_of r own word h = after_step c word (walk_from h) (option_met r own word h).0 (option_met r own word h).1

  -- the words that are left, and what is done at their end
  abbrev pub tail : List Row → Kinds
  tail rows = or_else (defaults_fault rows c) (check_fault (shape c) (fold with_default rows c) false)

  abbrev pub total : Walk → List Text → Kinds
  total w words =
      or_else (walk_fault (shape c) [] w words)
      (or_else (settle_fault c true (fold (walked c []) w words).held) (tail (settled c (fold (walked c []) w words).held).rows))

  total_cons : (w : Walk) (word : Text) (words : List Text) → total w (word ∷ words) ≡ or_else (turn_fault (shape c) [] w word) (total (walked c [] w word) words)
  unfolding walk_fault
  total_cons w word words = assoc (turn_fault (shape c) [] w word) (walk_fault (shape c) [] (walked c [] w word) words) _

  module _ (mode : Mode) (by_long : (s : Setting) → arg_by_long c (name_of s) ≡ rule_if (has mode s) mode s) (by_id : (s : Setting) → arg_by_id c (name_of s) ≡ rule_if (has mode s) mode s) where
    turn_named : (s : Setting) (own : Option Text) (word : Text) (h : Held) → long_of word ≡ Some (name_of s, own) → bytes_eq word dashes ≡ false
        → turn_fault (shape c) [] (walk_from h) word ≡ turn_of (rule_if (has mode s) mode s) own word h
    turn_named s own word h long plain =
        ap (λ (b : Bool). turn_by idle b (long_of word) word h) plain
        ∙ ap (λ (l : Option (Text × Option Text)). turn_by idle false l word h) long
        ∙ ap (λ (r : Option Rule). turn_of r own word h) (by_long s)

    walked_named : (s : Setting) (own : Option Text) (word : Text) (h : Held) → long_of word ≡ Some (name_of s, own) → bytes_eq word dashes ≡ false
        → walked c [] (walk_from h) word ≡ next_of (rule_if (has mode s) mode s) own word h
    unfolding walked
    walked_named s own word h long plain =
        ap (λ (b : Bool). after_step c word (walk_from h) (met idle b (long_of word) word h).0 (met idle b (long_of word) word h).1) plain
        ∙ ap (λ (l : Option (Text × Option Text)). after_step c word (walk_from h) (met idle false l word h).0 (met idle false l word h).1) long
        ∙ ap (λ (r : Option Rule). next_of r own word h) (by_long s)

    -- the value of an option that waits for it
    abbrev waiting_held : Setting → Held → Held
    waiting_held s h = record (settled c h) { pending = Some (name_of s, []) }

    abbrev valued : Setting → Text → Held → Held
    valued s v h = record (settled c h) { pending = Some (name_of s, v ∷ []) }

    value_turn : (s : Setting) (v : Text) (h : Held) → is_value v ≡ true → turn_fault (shape c) [] (waiting_for (name_of s) (waiting_held s h)) v ≡ []
    value_turn s v h is =
        ap (λ (b : Bool). turn_by (option (name_of s)) b (long_of v) v (waiting_held s h)) (value_dashes v is)
        ∙ ap (λ (l : Option (Text × Option Text)). turn_by (option (name_of s)) false l v (waiting_held s h)) (value_long v is)
        ∙ ap (λ (o : Option Text). or_else (option_map_or (λ flags. bundle_fault c true flags (waiting_held s h)) o [])
        (step_fault (shape c) 1 (short_or_plain c (option (name_of s)) v o (waiting_held s h)).0 (short_or_plain c (option (name_of s)) v o (waiting_held s h)).1)) (value_short v is)

    still_waits : (id : Text) → (if nat_lt (if bytes_eq id id then 1 else 0) 1 then option id else idle) ≡ idle
    still_waits id = ap (λ (b : Bool). if nat_lt (if b then 1 else 0) 1 then option id else idle) ((bytes_eq-Decides id id).1 refl)

    value_walked : (s : Setting) (v : Text) (h : Held) → has mode s ≡ true → is_value v ≡ true
        → walked c [] (waiting_for (name_of s) (waiting_held s h)) v ≡ walk_from (valued s v h)
    unfolding walked
    value_walked s v h mine is =
        let id = name_of s in
        let w = waiting_for id (waiting_held s h) in
        ap (λ (b : Bool). after_step c v w (met (option id) b (long_of v) v w.held).0 (met (option id) b (long_of v) v w.held).1) (value_dashes v is)
        ∙ ap (λ (l : Option (Text × Option Text)). after_step c v w (met (option id) false l v w.held).0 (met (option id) false l v w.held).1) (value_long v is)
        ∙ ap (λ (o : Option Text). after_step c v w (short_or_plain c (option id) v o w.held).0 (short_or_plain c (option id) v o w.held).1) (value_short v is)
        ∙ ap (λ (r : Option Rule). after_step c v w (option_word r id v w.held).0 (next (option_word r id v w.held).1))
        (by_id s ∙ ap (λ (b : Bool). rule_if b mode s) mine)
        ∙ ap (λ (x : Waiting). record w { held = valued s v h; waiting = x }) (still_waits id)

    -- one option of the words: what it is refused for so far, and what is held then
    record Stepped (s : Setting) (v : Text) (own : Bool) (h : Held) (words : List Text) : Type 0 where
      pub refused : Kinds
      pub held : Held
      pub rest : total (walk_from h) (word_of s v own words) ≡ or_else refused (total (walk_from held) words)
      pub costs : or_else refused (settle_fault c true held) ≡ or_else (settle_fault c true h) (cost s v)
      pub rows : (settled c held).rows ≡ used (rule mode s) (v ∷ []) (settled c h).rows

    stepped : (s : Setting) (v : Text) (own : Bool) (h : Held) (words : List Text) → has mode s ≡ true → is_value v ≡ true → Stepped s v own h words
    stepped s v true h words mine is =
        let word = dashed s (61 ∷ v) in
        let r = ap (λ (b : Bool). rule_if b mode s) mine in
        let turn = turn_named s (Some v) word h (long_own s v) (not_dashes s (61 ∷ v)) ∙ ap (λ (r : Option Rule). turn_of r (Some v) word h) r in
        let moved = walked_named s (Some v) word h (long_own s v) (not_dashes s (61 ∷ v)) ∙ ap (λ (r : Option Rule). next_of r (Some v) word h) r in
        let whole = or_else (settle_fault c true h) (cost s v) in
        let value = use_cost mode s v (settled c h).rows in
        record {
          refused = whole;
          held = reacted c (rule mode s) (v ∷ []) h;
          rest = total_cons (walk_from h) word words
              ∙ ap (λ (k : Kinds). or_else k (total (walked c [] (walk_from h) word) words)) (turn ∙ or_nil (react_fault c true (rule mode s) (v ∷ []) h) ∙ ap (or_else (settle_fault c true h)) value)
              ∙ ap (λ (w : Walk). or_else whole (total w words)) moved;
          costs = or_nil whole;
          rows = refl;
        }
    stepped s v false h words mine is =
        let word = dashed s [] in
        let r = ap (λ (b : Bool). rule_if b mode s) mine in
        let turn = turn_named s None word h (long_bare s) (not_dashes s []) ∙ ap (λ (r : Option Rule). turn_of r None word h) r in
        let moved = walked_named s None word h (long_bare s) (not_dashes s []) ∙ ap (λ (r : Option Rule). next_of r None word h) r in
        let before = settle_fault c true h in
        let w = waiting_for (name_of s) (waiting_held s h) in
        record {
          refused = before;
          held = valued s v h;
          rest = total_cons (walk_from h) word (v ∷ words)
              ∙ ap (λ (k : Kinds). or_else k (total (walked c [] (walk_from h) word) (v ∷ words))) (turn ∙ or_nil before)
              ∙ ap (λ (w : Walk). or_else before (total w (v ∷ words))) moved
              ∙ ap (or_else before) (
              total_cons w v words
              ∙ ap (λ (k : Kinds). or_else k (total (walked c [] w v) words)) (value_turn s v h is)
              ∙ ap (λ (w : Walk). total w words) (value_walked s v h mine is)
              );
          costs = ap (λ (o : Option Rule). or_else before (option_map_or (λ a. use_fault true a (v ∷ []) (settled c h).rows) o [])) (by_id s ∙ r) ∙ ap (or_else before) (use_cost mode s v (settled c h).rows);
          rows = ap (λ (o : Option Rule). used_by_id o (v ∷ []) (settled c h).rows) (by_id s ∙ r);
        }

    -- an option that the mode has not is refused
    foreign : (s : Setting) (v : Text) (own : Bool) (h : Held) (words : List Text) → has mode s ≡ false → total (walk_from h) (word_of s v own words) ≡ [] → ⊥
    foreign s v true h words other none =
        let word = dashed s (61 ∷ v) in
        let turn = turn_named s (Some v) word h (long_own s v) (not_dashes s (61 ∷ v)) ∙ ap (λ (b : Bool). turn_of (rule_if b mode s) (Some v) word h) other in
        some_kinds kind.UnknownArgument [] (sym (ap (λ (k : Kinds). or_else k (total (walked c [] (walk_from h) word) words)) turn) ∙ sym (total_cons (walk_from h) word words) ∙ none)
    foreign s v false h words other none =
        let word = dashed s [] in
        let turn = turn_named s None word h (long_bare s) (not_dashes s []) ∙ ap (λ (b : Bool). turn_of (rule_if b mode s) None word h) other in
        some_kinds kind.UnknownArgument [] (sym (ap (λ (k : Kinds). or_else k (total (walked c [] (walk_from h) word) (v ∷ words))) turn) ∙ sym (total_cons (walk_from h) word (v ∷ words)) ∙ none)

    -- what the options are refused for after rows
    abbrev pub after : List Spelled → List Row → Kinds
    after [] rows = tail rows
    after (o ∷ os) rows = or_else (cost o.1 o.2) (after os (used (rule mode o.1) (o.2 ∷ []) rows))

    pub total_is : (os : List Spelled) (h : Held) → Each (λ s v. has mode s) os → Each (λ s v. is_value v) os → total (walk_from h) (words_of os) ≡ or_else (settle_fault c true h) (after os (settled c h).rows)
    unfolding walk_fault
    total_is [] h had valued = refl
    total_is (o ∷ os) h had valued =
        let step = stepped o.1 o.2 o.0 h (words_of os) (and_left (has mode o.1) _ had) (and_left (is_value o.2) _ valued) in
        let rows = used (rule mode o.1) (o.2 ∷ []) (settled c h).rows in
        step.rest
        ∙ ap (or_else step.refused) (total_is os step.held (and_right (has mode o.1) _ had) (and_right (is_value o.2) _ valued) ∙ ap (λ (r : List Row). or_else (settle_fault c true step.held) (after os r)) step.rows)
        ∙ sym (assoc step.refused (settle_fault c true step.held) (after os rows))
        ∙ ap (λ (k : Kinds). or_else k (after os rows)) step.costs
        ∙ assoc (settle_fault c true h) (cost o.1 o.2) (after os rows)

    has_or_not : (b : Bool) → (b ≡ true) ⊎ (b ≡ false)
    has_or_not true = inl refl
    has_or_not false = inr refl

    pub had : (os : List Spelled) (h : Held) → Each (λ s v. is_value v) os → total (walk_from h) (words_of os) ≡ [] → Each (λ s v. has mode s) os
    had [] h valued none = refl
    had (o ∷ os) h valued none = elim (has_or_not (has mode o.1)) [
      | inl mine ↦
          let step = stepped o.1 o.2 o.0 h (words_of os) mine (and_left (is_value o.2) _ valued) in
          and_both (has mode o.1) _ mine (had os step.held (and_right (is_value o.2) _ valued) (later_none step.refused _ (sym step.rest ∙ none)))
      | inr other ↦ absurd (foreign o.1 o.2 o.0 h (words_of os) other none)
    ]
